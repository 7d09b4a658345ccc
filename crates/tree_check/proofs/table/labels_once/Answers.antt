-- The counts are those of the labels.
-- Assumes nothing.
use mathlib.Core.Path.{◌∙◌, ap}
use native.Mathlib.Omega.{arith}
use lib.Dec.{eqb}
use Prim.Native.Nat.{ℕ}
use Rattle.sums.specs.theorems.TestLaws.{every_ext}
use Rattle.tree_check.specs.TreeOrder.{labels_once}
use Rattle.tree_check.proofs.table.labels_once.Goals as goal

pub returns : goal.returns
unfolding labels_once
returns c =
    c.all_one.ensures
    ∙ every_ext _ _ _ (λ x l. ap (λ (k : ℕ). eqb k 1) (c.tally-counts.ensures.cells x (omega arith)))
