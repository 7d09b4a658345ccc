-- How many claims a directed edge of a tree table is in.
-- Assumes nothing.
use Rattle.std.specs.Prelude.{◌≡◌, ℕ, ◌*◌, ◌-◌, ◌/◌, ◌<◌}
use Rattle.shapes.specs.Claims.{sum_claims_of}
use Rattle.shapes.specs.theorems.ClaimsOfAnEdge.{degree}
use Rattle.shapes.proofs.theorems.ClaimsOfAnEdge.{claims_of_an_edge}
use Rattle.tree_check.specs.Table.{Table, nodes, parent}
use Rattle.tree_check.specs.IsTree.{IsTree}
use Rattle.tree_check.specs.theorems.RootedTables.{rooted}
use Rattle.counting.specs.ClaimSums.{codes}
use Rattle.counting.specs.theorems.EdgeClaims.{head_of, node_degree}

-- an edge into a node of degree d is in (d − 1)(d − 2)/2 claims
pub claims_of_a_code : (t : Table) → IsTree t → (c : ℕ) → c < codes t
    → sum_claims_of (parent t) (codes t) c (λ f g. 1) ≡ (node_degree t (head_of t c) - 1) * (node_degree t (head_of t c) - 2) / 2
unfolding codes node_degree
claims_of_a_code t g c l = claims_of_an_edge (parent t) (rooted t g) (nodes t - 1) c l
