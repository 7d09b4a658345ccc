-- What is known where the search needs a hint.
-- Assumes nothing.
use Prim.Native.Nat.{ℕ, ◌<◌}
use mathlib.Core.Path.{◌≡◌, ◌∙◌}
use native.Mathlib.Omega.{arith}
use Rattle.std.proofs.Common.{get_or-take, length-take-le}
use lib.ListN.{length-replicate}
use Rattle.table_words.specs.Sizes.{node_room}
use Rattle.tree_check.specs.Table.{word}
use Rattle.exchange_distances.specs.lemmas.WalkArrays.{walk_from}
use Rattle.exchange_distances.specs.lemmas.TallyLoops.{rows_none}
use Rattle.exchange_distances.specs.lemmas.PairTallies.{all_rows, row_room, row_next}
use Rattle.exchange_distances.proofs.pairs.tally_pairs.Goals.{After-from}
use Rattle.exchange_distances.proofs.pairs.tally_pairs.Goals as goal

-- the label and its node
before : (c : After-from) → c.loop-y.y < c.args.n
before c =
    let s = c.args in
    omega (arith, c.loop-y-test.true, length-take-le s.n s.labelled.now (omega (arith, c.requires.0.tips.1)))

node : (c : After-from) → c.from.result ≡ word c.args.labelled.now c.loop-y.y
node c = let s = c.args in c.from.ensures ∙ get_or-take s.n s.labelled.now c.loop-y.y 0 (before c)

pub whole_of-whole-requires : goal.whole_of-whole-requires
whole_of-whole-requires c = c.requires.0.tips

pub loop-y-init : goal.loop-y-init
loop-y-init c = (
  length-replicate {A = ℕ} node_room 0,
  length-replicate {A = ℕ} node_room 0,
  record { rows = λ s a. rows_none _ },
)

pub costs_from-requires : goal.costs_from-requires
costs_from-requires c =
    let l = c.loop-y in
    (walk_from _ _ _ _ _ c.requires.0 l.y _ (before (goal.at.costs_from-requires c).After-from) (node (goal.at.costs_from-requires c).After-from), l.invariant.0, l.invariant.1)

pub tally_row-requires : goal.tally_row-requires
tally_row-requires c =
    let l = c.loop-y in
    row_room _ _ _ _ _ c.requires.0 l.y _ (before (goal.at.tally_row-requires c).After-from) (node (goal.at.tally_row-requires c).After-from) _ c.costs_from.ensures.0 c.requires.1
    _ _ c.whole_of-whole.ensures c.sets_of_four-sets.ensures _ l.invariant.2

pub loop-y-preserved : goal.loop-y-preserved
loop-y-preserved c =
    let l = c.loop-y in (
      c.costs_from.ensures.1,
      c.costs_from.ensures.2,
      row_next _ _ _ _ _ c.requires.0 l.y _ (before (goal.at.loop-y-preserved c).After-from) (node (goal.at.loop-y-preserved c).After-from) _ c.costs_from.ensures.0 c.requires.1
          _ _ c.whole_of-whole.ensures c.sets_of_four-sets.ensures _ _ l.invariant.2 c.tally_row.ensures,
    )

pub returns : goal.returns
returns c =
    let l = c.loop-y in
    let e : l.y ≡ c.args.n =
    omega (arith, c.loop-y-test.false, length-take-le c.args.n c.args.labelled.now (omega (arith, c.requires.0.tips.1))) in
    all_rows _ _ _ _ _ c.requires.0 _ (rw e at l.invariant.2)
