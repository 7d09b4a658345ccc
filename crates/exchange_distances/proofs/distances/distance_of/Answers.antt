-- Arrays, a walk from the one tip, and what it tells at the other.
-- Assumes nothing.
use mathlib.Core.Path.{◌∙◌, ap}
use Prim.Native.Nat.{ℕ, ◌-◌, ◌/◌}
use native.Mathlib.Omega.{arith}
use Rattle.tree_check.specs.Table.{word}
use Rattle.exchange_distances.specs.lemmas.WalkArrays.{walk_from}
use Rattle.exchange_distances.specs.lemmas.PairTallies.{lent_walked, lent_node, lent_least, lent_distance}
use borrow.Author.Rules.{rules}
use Rattle.exchange_distances.proofs.distances.distance_of.Goals as goal

pub costs_from-requires : goal.costs_from-requires
costs_from-requires c = (
  walk_from _ _ _ _ _ (lent_walked _ _ _ c.requires.0 _ _ _ c.arrays_of.ensures) _ _ c.requires.1.lx c.from.ensures,
  search rules,
  search rules,
)

pub offset_bounds-costs-from : goal.offset_bounds-costs-from
offset_bounds-costs-from c =
    omega (
      arith,
      lent_node _ _ _ c.requires.0 _ _ _ c.arrays_of.ensures _ _ c.requires.1 _ _
          c.from.ensures c.from-2.ensures _ c.costs_from.ensures.0,
    )

pub bounds-costs-from : goal.bounds-costs-from
bounds-costs-from c =
    lent_node _ _ _ c.requires.0 _ _ _ c.arrays_of.ensures _ _ c.requires.1 _ _ c.from.ensures c.from-2.ensures _
    c.costs_from.ensures.0

pub overflow_sub-result : goal.overflow_sub-result
overflow_sub-result c =
    omega (
      arith,
      c.whole_of.ensures,
      lent_least _ _ _ c.requires.0 _ _ _ c.arrays_of.ensures _ _ c.requires.1 _ _
          c.from.ensures c.from-2.ensures _ c.costs_from.ensures.0,
    )

pub returns : goal.returns
returns c =
    ap (λ (w : ℕ). (w - word c.costs_from.new.costs c.from-2.result) / 6) c.whole_of.ensures
    ∙ lent_distance _ _ _ c.requires.0 _ _ _ c.arrays_of.ensures _ _ c.requires.1 _ _
    c.from.ensures c.from-2.ensures _ c.costs_from.ensures.0
