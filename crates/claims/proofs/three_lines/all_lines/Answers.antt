-- What is known where the search needs a hint.
-- Assumes nothing.
use mathlib.Core.Path.{◌≡◌, refl, ◌∙◌, ap}
use Prim.Native.Nat.{ℕ, ◌+◌, ◌*◌, ◌≤◌}
use native.Mathlib.Omega.{arith}
use Rattle.sums.specs.theorems.SumLaws.{sum_step}
use Rattle.table_words.specs.Sizes.{tips_most}
use Rattle.sums.specs.Sum.{sum}
use Rattle.sums.specs.theorems.Products.{product_le}
use Rattle.tree_check.specs.Table.{word}
use Rattle.claims.specs.lemmas.CellLines.{line_cell}
use Rattle.claims.specs.lemmas.NineCells.{product, weighed_product, pair_le, diagonal_le, weighed_le}
use Rattle.claims.proofs.three_lines.all_lines.Goals.{After-from-z}
use Rattle.claims.proofs.three_lines.all_lines.Goals as goal

-- the cells that were read
abbrev x : (c : After-from-z) → ℕ
x c = c.from-x.result

abbrev y : (c : After-from-z) → ℕ
y c = c.from-y.result

abbrev z : (c : After-from-z) → ℕ
z c = c.from-z.result

-- .. at this place of the lines
abbrev place : (c : After-from-z) → ℕ
place c = c.loop.counter

first : (c : After-from-z)
    → x c ≡ line_cell c.args.cells.now 0 c.args.step (place c)
first c =
    let l = c.loop in
    let b = c.from-x in
    let e : l.k ≡ 0 + l.counter * c.args.step = omega arith in
    b.ensures ∙ ap (λ (k : ℕ). word c.args.cells.now k) e

second : (c : After-from-z)
    → y c ≡ line_cell c.args.cells.now c.args.gap c.args.step (place c)
second c =
    let l = c.loop in
    let b = c.from-y in
    b.ensures ∙ ap (λ (k : ℕ). word c.args.cells.now (c.args.gap + k)) l.invariant.0

third : (c : After-from-z)
    → z c ≡ line_cell c.args.cells.now (2 * c.args.gap) c.args.step (place c)
third c =
    let l = c.loop in
    c.from-z.ensures ∙ ap (λ (k : ℕ). word c.args.cells.now (2 * c.args.gap + k)) l.invariant.0

first-le : (c : After-from-z) → x c ≤ tips_most
first-le c =
    let t = c.loop-test in
    omega (arith, first c, c.requires.0.low (place c) t.true)

second-le : (c : After-from-z) → y c ≤ tips_most
second-le c =
    let t = c.loop-test in
    omega (arith, second c, c.requires.1.low (place c) t.true)

third-le : (c : After-from-z) → z c ≤ tips_most
third-le c =
    let t = c.loop-test in
    omega (arith, third c, c.requires.2.low (place c) t.true)

-- their product, ..
pair-low : (c : After-from-z) → x c * y c ≤ 65536
pair-low c = pair_le (x c) (y c) (z c) (first-le c) (second-le c) (third-le c)

product-low : (c : After-from-z) → product (x c) (y c) (z c) ≤ 16777216
product-low c = diagonal_le (x c) (y c) (z c) (first-le c) (second-le c) (third-le c)

-- .. and the product times the sum
weighed-low : (c : After-from-z) → weighed_product (x c) (y c) (z c) ≤ 12884901888
weighed-low c = weighed_le (x c) (y c) (z c) (first-le c) (second-le c) (third-le c)

-- one cell more of each line
step : (F : ℕ → ℕ → ℕ → ℕ) (n s : ℕ) (f g h : ℕ → ℕ) (x y z : ℕ) → s ≡ sum n (λ a. F (f a) (g a) (h a))
    → x ≡ f n → y ≡ g n → z ≡ h n → s + F x y z ≡ sum (n + 1) (λ a. F (f a) (g a) (h a))
step F n s f g h x y z e p q r = sum_step n (λ a. F (f a) (g a) (h a)) s (F x y z) e (rw (p, q, r) refl)

pub loop-init : goal.loop-init
unfolding sum
loop-init c = (omega arith, refl, refl, omega arith, omega arith)

pub offset_bounds-cells-k : goal.offset_bounds-cells-k
offset_bounds-cells-k c =
    let l = c.loop in
    omega (arith, c.requires.0.inside l.counter c.loop-test.true)

pub bounds-cells-k : goal.bounds-cells-k
bounds-cells-k c =
    let l = c.loop in
    omega (arith, c.requires.0.inside l.counter c.loop-test.true)

pub overflow_add-gap : goal.overflow_add-gap
overflow_add-gap c =
    let l = c.loop in
    omega (arith, c.requires.1.inside l.counter c.loop-test.true)

pub offset_bounds-cells-gap : goal.offset_bounds-cells-gap
offset_bounds-cells-gap c =
    let l = c.loop in
    omega (arith, c.requires.1.inside l.counter c.loop-test.true)

pub bounds-cells-gap : goal.bounds-cells-gap
bounds-cells-gap c =
    let l = c.loop in
    omega (arith, c.requires.1.inside l.counter c.loop-test.true)

pub overflow_mul-gap : goal.overflow_mul-gap
overflow_mul-gap c = omega (arith, c.requires.2.at_few)

pub overflow_add-gap-in-loop : goal.overflow_add-gap-in-loop
overflow_add-gap-in-loop c =
    let l = c.loop in
    let p = c.requires.2 in
    omega (arith, p.inside l.counter c.loop-test.true)

pub offset_bounds-cells-gap-in-loop : goal.offset_bounds-cells-gap-in-loop
offset_bounds-cells-gap-in-loop c =
    let l = c.loop in
    let p = c.requires.2 in
    omega (arith, p.inside l.counter c.loop-test.true)

pub bounds-cells-gap-in-loop : goal.bounds-cells-gap-in-loop
bounds-cells-gap-in-loop c =
    let l = c.loop in
    let p = c.requires.2 in
    omega (arith, p.inside l.counter c.loop-test.true)

pub overflow_mul-p : goal.overflow_mul-p
overflow_mul-p c = omega (arith, pair-low c)

pub overflow_mul-p-in-loop : goal.overflow_mul-p-in-loop
overflow_mul-p-in-loop c = omega (arith, product-low c)

pub overflow_add-total : goal.overflow_add-total
overflow_add-total c = omega (arith, product-low c, c.requires.0.few)

pub overflow_add-weighed : goal.overflow_add-weighed
overflow_add-weighed c = omega (arith, first-le c, second-le c)

pub overflow_add-weighed-in-loop : goal.overflow_add-weighed-in-loop
overflow_add-weighed-in-loop c = omega (arith, first-le c, second-le c, third-le c)

pub overflow_mul-weighed : goal.overflow_mul-weighed
overflow_mul-weighed c = omega (arith, weighed-low c)

pub overflow_add-weighed-in-loop-2 : goal.overflow_add-weighed-in-loop-2
overflow_add-weighed-in-loop-2 c = omega (arith, weighed-low c, c.requires.0.few)

pub overflow_add-k : goal.overflow_add-k
overflow_add-k c =
    let l = c.loop in
    omega (
      arith,
      product_le tips_most tips_most l.counter c.args.step (omega (arith, c.requires.0.few)) c.requires.0.step_few,
      c.requires.0.step_few,
    )

pub loop-preserved : goal.loop-preserved
loop-preserved c =
    let l = c.loop in (
      omega arith,
      step product l.counter _ _ _ _ _ _ _ l.invariant.1 (first c) (second c) (third c),
      step weighed_product l.counter _ _ _ _ _ _ _ l.invariant.2 (first c) (second c) (third c),
      omega (arith, product-low c),
      omega (arith, weighed-low c),
    )

pub returns : goal.returns
returns c =
    let l = c.loop in
    let e : l.counter ≡ c.args.len = omega arith in (
      rw e at l.invariant.1,
      rw e at l.invariant.2,
      omega (arith, c.requires.0.few),
      omega (arith, c.requires.0.few),
    )
