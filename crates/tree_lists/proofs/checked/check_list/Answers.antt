-- Each return is an outcome of the order, or the list that is measured.
-- Assumes nothing.
use mathlib.Core.Path.{◌≡◌}
use mathlib.Core.Bool.{true}
use Prim.Native.Nat.{◌≤◌}
use native.Mathlib.Omega.{arith}
use lib.ListN.{length}
use Rattle.tree_lists.specs.TreeLists.{trees_most}
use Rattle.tree_lists.proofs.lemmas.Starts.{from_to, to_end}
use Rattle.tree_lists.proofs.lemmas.Outcomes.{number_right, wrong_number, wrong_trees, left_over, measured}
use Rattle.tree_lists.proofs.checked.check_list.Goals.{After-is_few}
use Rattle.tree_lists.proofs.checked.check_list.Goals as goal

-- ---- what is known once there are 2 to 16 trees

few : (c : After-is_few) → c.is_few.result ≡ true
    → (1 ≤ length c.args.list.now)
    × (2 ≤ c.from-k.result) × (c.from-k.result ≤ trees_most)
few c = number_right _ _ _ c.word_0.ensures c.from-k.ensures _ c.is_few.ensures

pub starts_of-starts-requires : goal.starts_of-starts-requires
starts_of-starts-requires c = let f = few (goal.at.starts_of-starts-requires c).After-is_few c.if-is_few.true in (f.0, f.2)

-- ---- the first table lies within the list

pub offset_bounds-list-from : goal.offset_bounds-list-from
offset_bounds-list-from c =
    let f = few (goal.at.offset_bounds-list-from c).After-is_few c.if-is_few.true in
    omega (
      arith,
      from_to _ f.0 _ _ c.starts_of-starts.ensures 0 (omega (arith, f.1)),
      to_end _ f.0 _ _ c.starts_of-starts.ensures 0 (omega (arith, f.1)),
    )

pub slice_bounds-word_0-count : goal.slice_bounds-word_0-count
slice_bounds-word_0-count c =
    let f = few (goal.at.slice_bounds-word_0-count c).After-is_few c.if-is_few.true in
    from_to _ f.0 _ _ c.starts_of-starts.ensures 0 (omega (arith, f.1))

pub slice_bounds-word_0-start : goal.slice_bounds-word_0-start
slice_bounds-word_0-start c =
    let f = few (goal.at.slice_bounds-word_0-start c).After-is_few c.if-is_few.true in
    from_to _ f.0 _ _ c.starts_of-starts.ensures 0 (omega (arith, f.1))

pub slice_bounds-word_0-end : goal.slice_bounds-word_0-end
slice_bounds-word_0-end c =
    let f = few (goal.at.slice_bounds-word_0-end c).After-is_few c.if-is_few.true in
    to_end _ f.0 _ _ c.starts_of-starts.ensures 0 (omega (arith, f.1))

pub some_wrong-requires : goal.some_wrong-requires
some_wrong-requires c =
    let f = few (goal.at.some_wrong-requires c).After-is_few c.if-is_few.true in
    (f.0, f.2, c.starts_of-starts.ensures)

pub returns-then-some_wrong : goal.returns-then-some_wrong
returns-then-some_wrong c =
    wrong_trees _ _ _ c.word_0.ensures c.from-k.ensures _ c.is_few.ensures
    c.if-is_few.true _ c.starts_of-starts.ensures _ c.word_0-n.ensures _ c.some_wrong.ensures c.if-some_wrong.true _ (rw c.from.ensures at c.refused.ensures)

pub bounds-starts-k : goal.bounds-starts-k
bounds-starts-k c =
    omega (arith, (few (goal.at.bounds-starts-k c).After-is_few c.if-is_few.true).2)

pub returns-then-starts-k : goal.returns-then-starts-k
returns-then-starts-k c =
    left_over _ _ _ c.word_0.ensures c.from-k.ensures _ c.is_few.ensures
    c.if-is_few.true _ c.starts_of-starts.ensures _ c.word_0-n.ensures _ c.some_wrong.ensures c.if-some_wrong.false
    c.if-starts-k.true _ (rw c.from-then-starts-k.ensures at c.refused-then-starts-k.ensures)

pub most_edges-requires : goal.most_edges-requires
most_edges-requires c =
    let f = few (goal.at.most_edges-requires c).After-is_few c.if-is_few.true in
    (f.0, f.2, c.starts_of-starts.ensures)

pub returns-then-is_few : goal.returns-then-is_few
returns-then-is_few c =
    measured _ _ _ c.word_0.ensures c.from-k.ensures _ c.is_few.ensures
    c.if-is_few.true _ c.starts_of-starts.ensures _ c.word_0-n.ensures _ c.some_wrong.ensures c.if-some_wrong.false
    c.if-starts-k.false _ _ c.from-then-is_few.ensures c.most_edges.ensures.0

pub returns : goal.returns
returns c =
    wrong_number _ _ _ c.word_0.ensures c.from-k.ensures _ c.is_few.ensures
    c.if-is_few.false _ (rw c.from-2.ensures at c.refused-2.ensures)
