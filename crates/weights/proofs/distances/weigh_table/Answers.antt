-- The counts are those of the cases, so that the product is exact.
-- Assumes nothing.
use mathlib.Core.Path.{◌∙◌}
use Prim.Native.Nat.{◌+◌, ◌≤◌}
use native.Mathlib.Omega.{arith}
use lib.ListN.{length}
use Rattle.quartets.specs.QuartetAnswer.{DemandThree}
use Rattle.tree_pairs.proofs.lemmas.LentTables.{crossings_are}
use Rattle.weights.proofs.lemmas.WeightedOutcomes.{weighed_counts, fours_few}
use Rattle.weights.proofs.distances.weigh_table.Goals.{After-struct_known-1}
use Rattle.weights.proofs.distances.weigh_table.Goals as goal

-- ---- what is known there

demand : (c : After-struct_known-1)
    → (let s = c.args in
    DemandThree s.first.now s.second.now s.marks.now (length s.work.now) c.quartet_table-table.result)
demand c = c.quartet_table-table.ensures.1

few : (c : After-struct_known-1)
    → (let r = c.quartet_table-table.result in (r.b ≤ 174792640) × (r.c + r.d ≤ 174792640))
few c =
    let h = c.requires.0 in
    let f = ((demand c).counted h).fits in
    (f.5, omega (arith, f.11, fours_few _ _ _ _ h))

-- ---- the needs

pub overflow_add-table : goal.overflow_add-table
overflow_add-table c = omega (arith, few c)

pub weigh-requires : goal.weigh-requires
weigh-requires c = ((few c).0, (few c).1, c.requires.1)

pub returns : goal.returns
returns c =
    let n = ((demand (goal.at.returns c).After-struct_known-1).counted c.requires.0).counts in (
      c.weigh.ensures ∙ weighed_counts _ _ _ _ _ _ _ n.1 n.2 n.3,
      crossings_are _ _ _ _ _ c.requires.0 c.quartet_table-table.ensures.2,
    )
