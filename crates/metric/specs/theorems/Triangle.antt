-- Three trees: the distance from the first to the third is at most the sum of the other two, and so is the weighted
-- distance with k from 128 on.
-- Assumes nothing.
use Rattle.std.specs.Prelude.{ℕ, ◌+◌, ◌*◌, ◌≤◌}
use Rattle.sums.specs.Bits.{bit}
use Rattle.tree_check.specs.Table.{Table}
use Rattle.trees.specs.declared.quartet.Topology.{Topology}
use Rattle.counting.specs.declared.Case.TheVariants.{B, C, D}
use Rattle.counting.specs.Labels.{Labels}
use Rattle.counting.specs.Cases.{case_of, is_case, distance}

-- 256 for two different butterflies, k for a butterfly against a star
unfoldable pub topologies_apart : ℕ → Topology → Topology → ℕ
topologies_apart k p q =
    256 * bit (is_case (case_of p q) B) + k * (bit (is_case (case_of p q) C) + bit (is_case (case_of p q) D))

-- what `three_topologies` says: from a butterfly to another through a star, 256 is at most k + k
abbrev pub TopologyTriangle : ℕ → Type 0
TopologyTriangle k = 128 ≤ k → (p q r : Topology) → topologies_apart k p r ≤ topologies_apart k p q + topologies_apart k q r

-- what `three_distances` says
abbrev pub DistanceTriangle : Type 0
DistanceTriangle = (l : Labels) (t u v : Table) → distance l t v ≤ distance l t u + distance l u v
