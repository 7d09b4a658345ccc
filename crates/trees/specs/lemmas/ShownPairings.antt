-- The topology of four labels, edge by edge: an edge that shows a pairing settles it.
-- Assumes nothing.
use Rattle.std.specs.Prelude.{◌≡◌, ℕ, ◌≤◌, ◌<◌}
use Rattle.std.proofs.Common.{arith}
use Rattle.tree_check.specs.Table.{Table, nodes}
use Rattle.tree_check.specs.IsTree.{IsTree}
use Rattle.trees.specs.declared.quartet.Topology.TheVariants.{Butterfly, Star}
use Rattle.trees.specs.Topology.{partner, topology}
use Rattle.trees.specs.theorems.TopologyLaws.{star_iff, parted-butterfly, parted_with_c, parted_with_d}
use Rattle.trees.specs.lemmas.Sides.{sides, pairing, apart_shown}

-- an edge that shows a pairing settles the topology
pub shown_first : (t : Table) → IsTree t → (a b c d i : ℕ) → 1 ≤ i → i < nodes t
    → pairing (sides t i a b c d) ≡ 1 → topology t a b c d ≡ Butterfly (partner a b c d)
shown_first t g a b c d i l m e =
    parted-butterfly t a b c d (i, l, omega arith, (apart_shown t i a b c d).0.0 e)

pub shown_second : (t : Table) → IsTree t → (a b c d i : ℕ) → 1 ≤ i → i < nodes t
    → pairing (sides t i a b c d) ≡ 2 → topology t a b c d ≡ Butterfly (partner a c b d)
shown_second t g a b c d i l m e =
    parted_with_c t g a b c d (i, l, omega arith, (apart_shown t i a b c d).1.0 e)

pub shown_third : (t : Table) → IsTree t → (a b c d i : ℕ) → 1 ≤ i → i < nodes t
    → pairing (sides t i a b c d) ≡ 3 → topology t a b c d ≡ Butterfly (partner a d b c)
shown_third t g a b c d i l m e =
    parted_with_d t g a b c d (i, l, omega arith, (apart_shown t i a b c d).2.0 e)

-- edges that show none leave a star
pub shown_none : (t : Table) (a b c d : ℕ)
    → ((i : ℕ) → 1 ≤ i → i < nodes t → pairing (sides t i a b c d) ≡ 0) → topology t a b c d ≡ Star
shown_none t a b c d h = (star_iff t a b c d).1 (
  λ r. omega (arith, h r.0 r.1 (omega arith), (apart_shown t r.0 a b c d).0.1 r.3),
  λ r. omega (arith, h r.0 r.1 (omega arith), (apart_shown t r.0 a b c d).1.1 r.3),
  λ r. omega (arith, h r.0 r.1 (omega arith), (apart_shown t r.0 a b c d).2.1 r.3),
)
