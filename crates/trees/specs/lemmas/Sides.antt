-- The sides of an edge on which four labels lie, as one number, and the pairing that it shows.
-- Assumes nothing.
use Rattle.std.specs.Prelude.{List, ◌≡◌, refl, Bool, true, false, not, ◌&&◌, ◌↔◌, ◌≢◌, ℕ, ◌+◌, ◌*◌, ◌≤◌, ◌<◌, eqb, length}
use Rattle.std.specs.Bool.{beq}
use mathlib.Core.Logic.Iff.{rfl}
use Rattle.std.proofs.Common.{lit≤}
use Rattle.sums.specs.Bits.{bit}
use Rattle.sums.specs.theorems.TestLaws.{eq_iff}
use Rattle.shapes.specs.Ancestors.{anc}
use Rattle.shapes.specs.Quartets.{parts}
use Rattle.shapes.proofs.theorems.PartedFours.{parts-iff}
use Rattle.tree_check.specs.Table.{Table, word, node_below, beyond}
use Rattle.trees.specs.declared.quartet.Topology.{Topology}
use Rattle.trees.specs.declared.quartet.Topology.TheVariants.{Butterfly, Star}
use Rattle.trees.specs.theorems.WitnessLaws.{ApartAt}
use Rattle.trees.specs.Topology.{partner}

-- which of the four labels lie beyond edge i, as one number: 1 for a, 2 for b, 4 for c, 8 for d
unfoldable pub sides : Table → ℕ → ℕ → ℕ → ℕ → ℕ → ℕ
sides t i a b c d =
    bit (beyond t i a) + 2 * bit (beyond t i b) + 4 * bit (beyond t i c) + 8 * bit (beyond t i d)

-- the pairing that such a number shows: 1 for ab|cd, 2 for ac|bd, 3 for ad|bc, 0 for none
unfoldable pub pairing : ℕ → ℕ
pairing s = elim (eqb s 3) [
  | true ↦ 1
  | false ↦ elim (eqb s 12) [
    | true ↦ 1
    | false ↦ elim (eqb s 5) [
      | true ↦ 2
      | false ↦ elim (eqb s 10) [
        | true ↦ 2
        | false ↦ elim (eqb s 6) [ true ↦ 3 | false ↦ elim (eqb s 9) [ true ↦ 3 | false ↦ 0 ] ]
      ]
    ]
  ]
]

either_le : (b : Bool) {x y k : ℕ} → x ≤ k → y ≤ k → elim b as (λ z. ℕ) [ true ↦ x | false ↦ y ] ≤ k
either_le true l m = l
either_le false l m = m

pub pairing-le : (s : ℕ) → pairing s ≤ 3
unfolding pairing
pairing-le s =
    either_le (eqb s 3) (lit≤ tt) (either_le (eqb s 12) (lit≤ tt)
    (either_le (eqb s 5) (lit≤ tt) (either_le (eqb s 10) (lit≤ tt)
    (either_le (eqb s 6) (lit≤ tt) (either_le (eqb s 9) (lit≤ tt) (lit≤ tt))))))

-- `parts` and `pairing`, of four answers
abbrev pairs : Bool → Bool → Bool → Bool → Bool
pairs p q r s = beq p q && beq r s && not (beq p r)

abbrev shown : Bool → Bool → Bool → Bool → ℕ
shown p q r s = pairing (bit p + 2 * bit q + 4 * bit r + 8 * bit s)

pairs_shown : (p q r s : Bool) → (eqb (shown p q r s) 1 ≡ pairs p q r s)
    × (eqb (shown p q r s) 2 ≡ pairs p r q s) × (eqb (shown p q r s) 3 ≡ pairs p s q r)
unfolding pairing bit
pairs_shown true true true true = (refl, refl, refl)
pairs_shown true true true false = (refl, refl, refl)
pairs_shown true true false true = (refl, refl, refl)
pairs_shown true true false false = (refl, refl, refl)
pairs_shown true false true true = (refl, refl, refl)
pairs_shown true false true false = (refl, refl, refl)
pairs_shown true false false true = (refl, refl, refl)
pairs_shown true false false false = (refl, refl, refl)
pairs_shown false true true true = (refl, refl, refl)
pairs_shown false true true false = (refl, refl, refl)
pairs_shown false true false true = (refl, refl, refl)
pairs_shown false true false false = (refl, refl, refl)
pairs_shown false false true true = (refl, refl, refl)
pairs_shown false false true false = (refl, refl, refl)
pairs_shown false false false true = (refl, refl, refl)
pairs_shown false false false false = (refl, refl, refl)

-- edge i parts the four labels as its number shows
pub apart_shown : (t : Table) (i a b c d : ℕ) → ((pairing (sides t i a b c d) ≡ 1) ↔ ApartAt t i a b c d)
    × ((pairing (sides t i a b c d) ≡ 2) ↔ ApartAt t i a c b d)
    × ((pairing (sides t i a b c d) ≡ 3) ↔ ApartAt t i a d b c)
unfolding sides beyond parts
apart_shown t i a b c d =
    let h = pairs_shown (beyond t i a) (beyond t i b) (beyond t i c) (beyond t i d) in
    simp (← eq_iff, h.0, h.1, h.2, ← parts-iff) (rfl, rfl, rfl)

-- ---- as code finds them

-- each node's cell says which of the four labels lie beyond it
pub record SidesAre (ps ls : List ℕ) (a b c d : ℕ) (cells : List ℕ) : Type 0 where
  pub sides_is : (v : ℕ) → v < length ps → word cells v
      ≡ bit (anc (word ps) v (node_below (word ls) (length ls) a))
      + 2 * bit (anc (word ps) v (node_below (word ls) (length ls) b))
      + 4 * bit (anc (word ps) v (node_below (word ls) (length ls) c))
      + 8 * bit (anc (word ps) v (node_below (word ls) (length ls) d))

-- the pairing k is shown by an edge below m, or is 0 and none is
pub record Shown (cells : List ℕ) (m k : ℕ) : Type 0 where
  pub shown : k ≢ 0 → (i : ℕ) × (1 ≤ i) × (i < m) × (pairing (word cells i) ≡ k)
  pub none : k ≡ 0 → (i : ℕ) → 1 ≤ i → i < m → pairing (word cells i) ≡ 0

-- a pairing's number as a topology
unfoldable pub topology_shown : ℕ → ℕ → ℕ → ℕ → ℕ → Topology
topology_shown k a b c d = elim (eqb k 1) [
  | true ↦ Butterfly (partner a b c d)
  | false ↦ elim (eqb k 2) [
    | true ↦ Butterfly (partner a c b d)
    | false ↦ elim (eqb k 3) [ true ↦ Butterfly (partner a d b c) | false ↦ Star ]
  ]
]
