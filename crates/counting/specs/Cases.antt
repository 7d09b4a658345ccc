-- The five cases of a set of four, read from its two topologies, how many sets are in each, the quartet distance, and the
-- weighted distance.
-- Assumes nothing.
use Rattle.std.specs.Prelude.{Bool, true, false, ℕ, ◌+◌, ◌*◌, eqb}
use Rattle.sums.specs.Bits.{bit}
use Rattle.sums.specs.SetsOfFour.{sets4}
use Rattle.trees.specs.declared.quartet.Topology.{Topology}
use Rattle.trees.specs.declared.quartet.Topology.TheVariants.{Butterfly, Star}
use Rattle.tree_check.specs.Table.{Table}
use Rattle.counting.specs.declared.Case.{Case}
use Rattle.counting.specs.declared.Case.TheVariants.{A, B, C, D, E}
use Rattle.trees.specs.Topology.{topology}
use Rattle.counting.specs.Labels.{Labels}

-- two butterflies of the same four labels are the same if they name the same partner of the smallest
unfoldable pub case_of : Topology → Topology → Case
case_of (Butterfly p) (Butterfly q) = elim (eqb p q) [ true ↦ A | false ↦ B ]
case_of (Butterfly p) Star = C
case_of Star (Butterfly q) = D
case_of Star Star = E

-- the number of each case: 0 to 4 for A to E
abbrev pub case_number : Case → ℕ
case_number A = 0
case_number B = 1
case_number C = 2
case_number D = 3
case_number E = 4

-- two cases are the same
unfoldable pub is_case : Case → Case → Bool
is_case c k = eqb (case_number c) (case_number k)

-- the topology of the labels of four ranks
unfoldable pub topology_at : Labels → Table → ℕ → ℕ → ℕ → ℕ → Topology
topology_at l t w x y z = topology t (l.at w) (l.at x) (l.at y) (l.at z)

-- how many sets of four labels are in the case k
unfoldable pub quartets : Labels → Table → Table → Case → ℕ
quartets l t u k = sets4 l.number (λ w x y z. bit (is_case (case_of (topology_at l t w x y z) (topology_at l u w x y z)) k))

-- the quartet distance: how many sets of four are in the cases B, C and D
abbrev pub distance : Labels → Table → Table → ℕ
distance l t u = quartets l t u B + quartets l t u C + quartets l t u D

-- 256 times the weighted distance with the weight k/256 for a star against a butterfly
abbrev pub weighted : ℕ → Labels → Table → Table → ℕ
weighted k l t u = 256 * quartets l t u B + k * (quartets l t u C + quartets l t u D)
