-- What is known where the search needs a hint.
-- Assumes nothing.
use mathlib.Core.Path.{◌≡◌, refl, ◌∙◌, ap, ap₂}
use Prim.Native.Nat.{ℕ, ◌+◌, ◌*◌, ◌≤◌}
use native.Mathlib.Omega.{arith}
use Rattle.sums.specs.theorems.SumLaws.{sum_step}
use Rattle.table_words.specs.Sizes.{tips_most}
use Rattle.sums.specs.Sum.{sum}
use Rattle.sums.specs.theorems.Products.{product_le}
use Rattle.tree_check.specs.Table.{word}
use Rattle.claims.specs.lemmas.CellLines.{line_cell}
use Rattle.claims.proofs.three_lines.two_lines.Goals.{After-from-y}
use Rattle.claims.proofs.three_lines.two_lines.Goals as goal

-- the cells that were read
abbrev x : (c : After-from-y) → ℕ
x c = c.from-x.result

abbrev y : (c : After-from-y) → ℕ
y c = c.from-y.result

-- .. at this place of the lines
abbrev place : (c : After-from-y) → ℕ
place c = c.loop.counter

first : (c : After-from-y)
    → x c ≡ line_cell c.args.cells.now c.args.at c.args.step (place c)
first c =
    let l = c.loop in
    c.from-x.ensures ∙ ap (λ (k : ℕ). word c.args.cells.now k) l.invariant.0

second : (c : After-from-y)
    → y c ≡ line_cell c.args.cells.now c.args.to c.args.step (place c)
second c =
    let l = c.loop in
    c.from-y.ensures ∙ ap (λ (k : ℕ). word c.args.cells.now k) l.invariant.1

first-le : (c : After-from-y) → x c ≤ tips_most
first-le c =
    let t = c.loop-test in
    omega (arith, first c, c.requires.0.low (place c) t.true)

second-le : (c : After-from-y) → y c ≤ tips_most
second-le c =
    let t = c.loop-test in
    omega (arith, second c, c.requires.1.low (place c) t.true)

-- the square, the product, ..
square-low : (c : After-from-y) → x c * x c ≤ 65536
square-low c = product_le tips_most tips_most _ _ (first-le c) (first-le c)

product-low : (c : After-from-y) → x c * y c ≤ 65536
product-low c = product_le tips_most tips_most _ _ (first-le c) (second-le c)

-- .. and the product times the sum
weighed-low : (c : After-from-y) → x c * y c * (x c + y c) ≤ 33554432
weighed-low c = product_le 65536 512 _ _ (product-low c) (omega (arith, first-le c, second-le c))

-- how far the places have come
stepped : (c : After-from-y) → place c * c.args.step ≤ 65536
stepped c =
    let p = c.requires.0 in
    product_le tips_most tips_most (place c) c.args.step (omega (arith, p.few)) p.step_few

pub loop-init : goal.loop-init
unfolding sum
loop-init c = (
  omega arith,
  omega arith,
  refl,
  refl,
  refl,
  refl,
  omega arith,
  omega arith,
  omega arith,
  omega arith,
)

pub offset_bounds-cells-k : goal.offset_bounds-cells-k
offset_bounds-cells-k c =
    let l = c.loop in
    omega (arith, c.requires.0.inside l.counter c.loop-test.true)

pub bounds-cells-k : goal.bounds-cells-k
bounds-cells-k c =
    let l = c.loop in
    omega (arith, c.requires.0.inside l.counter c.loop-test.true)

pub offset_bounds-cells-l : goal.offset_bounds-cells-l
offset_bounds-cells-l c =
    let l = c.loop in
    omega (arith, c.requires.1.inside l.counter c.loop-test.true)

pub bounds-cells-l : goal.bounds-cells-l
bounds-cells-l c =
    let l = c.loop in
    omega (arith, c.requires.1.inside l.counter c.loop-test.true)

pub overflow_mul-p : goal.overflow_mul-p
overflow_mul-p c = omega (arith, product-low c)

pub overflow_add-total : goal.overflow_add-total
overflow_add-total c = omega (arith, first-le c, c.requires.0.few)

pub overflow_mul-squares : goal.overflow_mul-squares
overflow_mul-squares c = omega (arith, square-low c)

pub overflow_add-squares : goal.overflow_add-squares
overflow_add-squares c = omega (arith, square-low c, c.requires.0.few)

pub overflow_add-beside : goal.overflow_add-beside
overflow_add-beside c = omega (arith, product-low c, c.requires.0.few)

pub overflow_add-weighed : goal.overflow_add-weighed
overflow_add-weighed c = omega (arith, first-le c, second-le c)

pub overflow_mul-weighed : goal.overflow_mul-weighed
overflow_mul-weighed c = omega (arith, weighed-low c)

pub overflow_add-weighed-in-loop : goal.overflow_add-weighed-in-loop
overflow_add-weighed-in-loop c = omega (arith, weighed-low c, c.requires.0.few)

pub overflow_add-k : goal.overflow_add-k
overflow_add-k c = omega (arith, stepped c, c.requires.0.at_few, c.requires.0.step_few)

pub overflow_add-l : goal.overflow_add-l
overflow_add-l c = omega (arith, stepped c, c.requires.1.at_few, c.requires.0.step_few)

pub loop-preserved : goal.loop-preserved
loop-preserved c =
    let l = c.loop in
    let p = c.args in
    let f = line_cell p.cells.now p.at p.step in
    let g = line_cell p.cells.now p.to p.step in (
      omega arith,
      omega arith,
      sum_step l.counter f _ _ l.invariant.2 (first c),
      sum_step l.counter (λ a. f a * f a) _ _ l.invariant.3 (ap (λ (v : ℕ). v * v) (first c)),
      sum_step l.counter (λ a. f a * g a) _ _ l.invariant.4 (ap₂ (λ (v w : ℕ). v * w) (first c) (second c)),
      sum_step l.counter (λ a. f a * g a * (f a + g a)) _ _ l.invariant.5
          (ap₂ (λ (v w : ℕ). v * w * (v + w)) (first c) (second c)),
      omega (arith, first-le c),
      omega (arith, square-low c),
      omega (arith, product-low c),
      omega (arith, weighed-low c),
    )

pub returns : goal.returns
returns c =
    let l = c.loop in
    let e : l.counter ≡ c.args.len = omega arith in record {
      sum_is = rw e at l.invariant.2;
      squares_is = rw e at l.invariant.3;
      beside_is = rw e at l.invariant.4;
      weighed_is = rw e at l.invariant.5;
      squares_le = omega (arith, c.requires.0.few);
      beside_le = omega (arith, c.requires.0.few);
      weighed_le = omega (arith, c.requires.0.few);
    }
