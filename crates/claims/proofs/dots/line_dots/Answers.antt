-- What is known where the search needs a hint.
-- Assumes nothing.
use mathlib.Core.Path.{◌≡◌, refl, ◌∙◌, ap}
use Prim.Native.Nat.{ℕ, ◌+◌, ◌≤◌, ◌<◌}
use native.Mathlib.Omega.{arith}
use lib.ListN.{length}
use Rattle.table_words.specs.Sizes.{tips_most}
use Rattle.sums.specs.Sum.{sum}
use Rattle.tree_check.specs.Table.{word}
use Rattle.sums.specs.theorems.Products.{product_le}
use Rattle.claims.specs.lemmas.Filled.{length-filled}
use Rattle.claims.specs.lemmas.LineDots.{line_of, Dotted, dotted_none, add_room, dotted_next}
use Rattle.claims.specs.lemmas.LineDots.{dotted_skip, terms_next, terms_skip, dot_squares-le, dots_low, dot_squares_at}
use Rattle.claims.proofs.dots.line_dots.Goals.{else-t-ne0, then-t-ne0, After-from-t, After-loop, At-loop}
use Rattle.claims.proofs.dots.line_dots.Goals as goal

long : (c : At-loop) → c.args.i ≤ length c.loop.dots
long c = omega (
  arith,
  c.loop.auto.dots,
  c.requires.1,
  length-filled _ _ c.args.dots.now _ c.clear.ensures,
)

-- the cell that was read
cell : (c : After-from-t)
    → let p = c.args in
    c.from-t.result ≡ line_of p.cells.now p.gap p.step p.i c.loop.counter
cell c =
    c.from-t.ensures ∙ ap (λ (k : ℕ). word c.args.cells.now k) c.loop.invariant.0

-- the dot products over all cells
dotted : (c : After-loop)
    → let p = c.args in
    Dotted p.cells.now c.loop.dots p.gap p.step p.i p.len
dotted c =
    let l = c.loop in
    let e : l.counter ≡ c.args.len = omega arith in
    rw e at l.invariant.2

pub clear-requires : goal.clear-requires
clear-requires c = c.requires.1

pub overflow_mul-k : goal.overflow_mul-k
overflow_mul-k c =
    let h = c.requires.0 in
    omega (arith, product_le tips_most tips_most c.args.i c.args.gap (omega (arith, h.count_few)) h.gap_few)

pub loop-init : goal.loop-init
unfolding sum
loop-init c = (
  omega arith,
  omega arith,
  dotted_none _ c.args.dots.now _ _ _ _ c.requires.1 c.clear.ensures,
  refl,
  omega arith,
)

pub offset_bounds-cells-k : goal.offset_bounds-cells-k
offset_bounds-cells-k c =
    omega (arith, c.requires.0.inside c.args.i c.loop.counter (omega arith) c.loop-test.true)

pub bounds-cells-k : goal.bounds-cells-k
bounds-cells-k c =
    omega (arith, c.requires.0.inside c.args.i c.loop.counter (omega arith) c.loop-test.true)

pub add_line-terms-requires : goal.add_line-terms-requires
add_line-terms-requires c =
    let a = c.loop-test.true in
    let h = c.requires.0 in
    rw c.loop.invariant.1
    (add_room _ _ _ _ _ h _ _ (omega arith) a _ (cell (goal.at.add_line-terms-requires c).After-from-t) _ (long (goal.at.add_line-terms-requires c).At-loop) c.loop.invariant.2)

pub overflow_add-terms : goal.overflow_add-terms
overflow_add-terms c =
    let h = c.requires.0 in
    omega (arith, h.count_few, h.len_few, c.loop.invariant.4, c.add_line-terms.ensures.squares.1)

pub overflow_add-k : goal.overflow_add-k
overflow_add-k c =
    let h = c.requires.0 in
    omega (
      arith,
      h.step_few,
      product_le tips_most tips_most c.args.i c.args.gap (omega (arith, h.count_few)) h.gap_few,
      product_le tips_most tips_most c.loop.counter c.args.step (omega (arith, h.len_few)) h.step_few,
    )

pub overflow_add-at : goal.overflow_add-at
overflow_add-at c =
    let h = c.requires.0 in
    omega (
      arith,
      h.step_few,
      product_le tips_most tips_most c.loop.counter c.args.step (omega (arith, h.len_few)) h.step_few,
    )

pub loop-preserved : goal.loop-preserved
loop-preserved c =
    let v = c.loop.invariant in
    let h = c.requires.0 in
    let a = c.loop-test.true in
    let i : c.args.i < c.args.i + 1 = omega arith in
    elim c.if-t-ne0.branch [
      | then-t-ne0 w ↦ let e = w.dots-is ∙ rw v.1 at w.add_line-terms.ensures.dots_added in (
        omega arith,
        omega arith,
        dotted_next _ _ _ _ _ h _ _ i a _ (cell (goal.at.loop-preserved c).After-from-t) _ (long (goal.at.loop-preserved c).At-loop) v.2 _ e,
        w.terms-is ∙ terms_next _ _ _ _ _ h _ _ i a _ (cell (goal.at.loop-preserved c).After-from-t) _ _ v.3 (rw v.1 at w.add_line-terms.ensures.squares.0),
        omega (arith, w.terms-is, w.add_line-terms.ensures.squares.1, v.4, h.count_few),
      )
      | else-t-ne0 w ↦ (
        omega arith,
        omega arith,
        rw w.dots-is (dotted_skip _ _ _ _ _ h _ _ i a _ (cell (goal.at.loop-preserved c).After-from-t) _ (long (goal.at.loop-preserved c).At-loop) v.2 w.if-t-ne0.false),
        w.terms-is ∙ terms_skip _ _ _ _ _ h _ _ i a _ (cell (goal.at.loop-preserved c).After-from-t) _ w.if-t-ne0.false v.3,
        omega (arith, w.terms-is, v.4),
      )
    ]

pub total_squares-squares-requires : goal.total_squares-squares-requires
total_squares-squares-requires c =
    dots_low _ _ _ _ _ c.requires.0 _ (dotted c) (long (goal.at.total_squares-squares-requires c).At-loop)

pub returns : goal.returns
returns c =
    let l = c.loop in
    let h = c.requires.0 in
    let n : l.counter ≡ c.args.len = omega arith in
    let squares = c.total_squares-squares.ensures ∙ dot_squares_at _ _ _ _ _ h _ (dotted (goal.at.returns c).After-loop) in (
      squares,
      rw n at l.invariant.3,
      omega (arith, squares, dot_squares-le _ _ _ _ _ h),
      omega (arith, l.invariant.4, h.len_few),
    )
