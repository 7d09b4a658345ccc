-- What is known where the search needs a hint.
-- Assumes nothing.
use mathlib.Core.Path.{◌≡◌, refl, ◌∙◌, ap, ap₂}
use mathlib.Core.List.{List}
use Prim.Native.Nat.{ℕ, ◌+◌, ◌*◌, ◌≤◌, ◌<◌}
use lib.ListN.{take}
use native.Mathlib.Omega.{arith}
use Rattle.sums.specs.theorems.SumLaws.{sum_step}
use Rattle.table_words.specs.Sizes.{tips_most}
use Rattle.sums.specs.Sum.{sum}
use Rattle.tree_check.specs.Table.{word}
use Rattle.sums.specs.theorems.Products.{product_le}
use Rattle.claims.specs.lemmas.CellLines.{line_cell, squared}
use Rattle.claims.specs.lemmas.Filled.{filled_to, filled_next, filled_later, filled-whole}
use Rattle.claims.specs.lemmas.Prefix.{prefix_read, prefix_read-all}
use Rattle.claims.specs.lemmas.LineDots.{scaled, added}
use Rattle.claims.proofs.dots.add_line.Goals.{After-from, In-loop-dot}
use Rattle.claims.proofs.dots.add_line.Goals as goal

-- the product is that of a line
turn : (c : In-loop-dot) → c.loop-dot.dot-index < c.args.lines
turn c = (prefix_read _ _ _ c.requires.dots_long c.loop-dot-test.true).0

-- the cell that was read
cell : (c : After-from)
    → c.from.result ≡ line_cell c.args.cells.now c.args.at c.args.gap c.loop-dot.dot-index
cell c = c.from.ensures ∙ ap (λ (k : ℕ). word c.args.cells.now k) c.loop-dot.invariant.0

product-low : (c : After-from) → c.args.t * c.from.result ≤ 65536
product-low c =
    let p = c.requires in
    product_le tips_most tips_most _ _ p.factor_low
    (omega (arith, cell c, p.low _ (turn (goal.at.After-from c).In-loop-dot)))

square-low : (c : After-from)
    → (c.args.t * c.from.result) * (c.args.t * c.from.result) ≤ 4294967296
square-low c = product_le 65536 65536 _ _ (product-low c) (product-low c)

-- the dot product is as it was at the start
old : (c : After-from)
    → word c.loop-dot.dot-items c.loop-dot.dot-index ≡ word c.args.dots.now c.loop-dot.dot-index
old c =
    let l = c.loop-dot in
    let dots = c.args.dots.now in
    ap (λ (z : List ℕ). word z l.dot-index) l.invariant.1
    ∙ filled_later _ l.dot-index (take c.args.lines dots) l.dot-index (omega arith)
    ∙ (prefix_read _ dots _ c.requires.dots_long c.loop-dot-test.true).1

pub loop-dot-init : goal.loop-dot-init
unfolding filled_to sum
loop-dot-init c = (omega arith, refl, refl, omega arith)

pub offset_bounds-cells-k : goal.offset_bounds-cells-k
offset_bounds-cells-k c =
    omega (arith, c.requires.line.inside _ (turn (goal.at.offset_bounds-cells-k c).In-loop-dot))

pub bounds-cells-k : goal.bounds-cells-k
bounds-cells-k c =
    omega (arith, c.requires.line.inside _ (turn (goal.at.bounds-cells-k c).In-loop-dot))

pub overflow_mul-z : goal.overflow_mul-z
overflow_mul-z c = omega (arith, product-low c)

pub overflow_add-dot : goal.overflow_add-dot
overflow_add-dot c =
    let q = c.requires.dots_low _ (turn (goal.at.overflow_add-dot c).In-loop-dot) in
    omega (arith, product-low (goal.at.overflow_add-dot c).After-from, old (goal.at.overflow_add-dot c).After-from, q)

pub overflow_mul-s : goal.overflow_mul-s
overflow_mul-s c = omega (arith, square-low (goal.at.overflow_mul-s c).After-from)

pub overflow_add-s : goal.overflow_add-s
overflow_add-s c =
    omega (arith, square-low (goal.at.overflow_add-s c).After-from, turn (goal.at.overflow_add-s c).In-loop-dot, c.requires.few)

pub overflow_add-k : goal.overflow_add-k
overflow_add-k c =
    let n = turn (goal.at.overflow_add-k c).In-loop-dot in
    omega (
      arith,
      c.requires.line.at_le,
      c.requires.line.step_le,
      c.requires.few,
      product_le 65536 65536 c.loop-dot.dot-index c.args.gap (omega (arith, n, c.requires.few)) c.requires.line.step_le,
    )

pub loop-dot-preserved : goal.loop-dot-preserved
loop-dot-preserved c =
    let l = c.loop-dot in
    let p = c.args in
    let z = ap (λ (x : ℕ). p.t * x) (cell (goal.at.loop-dot-preserved c).After-from) in (
      omega arith,
      filled_next (added p.cells.now p.dots.now p.t p.at p.gap) l.dot-index _ _ _ l.invariant.1
          (ap₂ (λ (x y : ℕ). x + y) (old (goal.at.loop-dot-preserved c).After-from) z),
      sum_step l.dot-index (squared (scaled p.cells.now p.t p.at p.gap)) _ _ l.invariant.2
          (ap (λ (x : ℕ). x * x) z),
      omega (arith, square-low (goal.at.loop-dot-preserved c).After-from),
    )

pub returns : goal.returns
returns c =
    let l = c.loop-dot in
    let p = c.args in
    let h = c.requires.dots_long in
    let out = c.loop-dot-test.false in
    let e : l.dot-index ≡ p.lines = prefix_read-all _ _ _ h l.auto.dot-index-end out in record {
      dots_added =
          filled-whole (added p.cells.now p.dots.now p.t p.at p.gap) l.dot-index _ _ _ h out l.auto.dot-index-end l.invariant.1;
      squares = (rw e at l.invariant.2, omega (arith, e));
    }
