-- The topology of four labels: what it says of the edges, and that the order of the labels plays no part.
-- Assumes nothing.
use Rattle.std.specs.Prelude.{◌≡◌, refl, Bool, true, false, ◌≢◌, ◌↔◌, ℕ, ◌-◌, T}
use Rattle.std.proofs.Common.{sym, ◌∙◌, arith}
use Rattle.std.proofs.Math.Logic.{Ne-symm}
use mathlib.Core.Logic.Iff.{rfl}
use Rattle.shapes.specs.theorems.FourLabels.{Four}
use Rattle.shapes.proofs.theorems.PartedFours.{parted-iff, parted-swap_left, parted-swap_right, parted_turn}
use Rattle.shapes.specs.theorems.PartedFours.{AtMostOne, none, first, second, third}
use Rattle.shapes.proofs.theorems.PartedFours.{one-pairing}
use Rattle.trees.specs.declared.quartet.Topology.TheVariants.{Butterfly, Star}
use Rattle.tree_check.specs.Table.{Table, tips, nodes, parent, node_of}
use Rattle.tree_check.specs.IsTree.{IsTree}
use Rattle.tree_check.specs.theorems.RootedTables.{rooted}
use Rattle.trees.specs.Topology.{butterfly, partner, named, topology, PartedIn}
use Rattle.trees.specs.theorems.PartnerLaws.{partner-swap_left, partner-swap_right, partner_turn, partner-apart}

-- ---- the three tests

-- at most one of the three pairings is parted
pub one-butterfly : (t : Table) → IsTree t → (a b c d : ℕ)
    → AtMostOne (butterfly t a b c d) (butterfly t a c b d) (butterfly t a d b c)
unfolding butterfly
one-butterfly t g a b c d =
    one-pairing (parent t) (rooted t g) (nodes t - 1) (node_of t a) (node_of t b) (node_of t c) (node_of t d)

butterfly-parted : (t : Table) (a b c d : ℕ) → T (butterfly t a b c d) ↔ PartedIn t a b c d
unfolding butterfly
butterfly-parted t a b c d =
    parted-iff (parent t) (nodes t - 1) (node_of t a) (node_of t b) (node_of t c) (node_of t d)

module _ (t : Table) where
  butterfly-swap_left : (a b c d : ℕ) → butterfly t a b c d ≡ butterfly t b a c d
  unfolding butterfly
  butterfly-swap_left a b c d = parted-swap_left (parent t) (nodes t - 1) _ _ _ _

  butterfly-swap_right : (a b c d : ℕ) → butterfly t a b c d ≡ butterfly t a b d c
  unfolding butterfly
  butterfly-swap_right a b c d = parted-swap_right (parent t) (nodes t - 1) _ _ _ _

  butterfly_turn : (a b c d : ℕ) → butterfly t a b c d ≡ butterfly t c d a b
  unfolding butterfly
  butterfly_turn a b c d = parted_turn (parent t) (nodes t - 1) _ _ _ _

-- ---- what the tests name

not_star : (p : ℕ) → Butterfly p ≡ Star → ⊥
not_star p e = let z : ◌≡◌ {A = ℕ} 0 1 = cc in omega arith

named_star : (x y z : Bool) (p q r : ℕ) → (named x y z p q r ≡ Star) ↔ (T x → ⊥) × (T y → ⊥) × (T z → ⊥)
unfolding named
named_star true y z p q r = (λ e. absurd (not_star p e), λ h. absurd (h.0 tt))
named_star false true z p q r = (λ e. absurd (not_star q e), λ h. absurd (h.1 tt))
named_star false false true p q r = (λ e. absurd (not_star r e), λ h. absurd (h.2 tt))
named_star false false false p q r = (λ e. (λ u. u, λ u. u, λ u. u), λ h. refl)

-- a star exactly if no edge has two of them on each side
pub star_iff : (t : Table) (a b c d : ℕ) → (topology t a b c d ≡ Star)
    ↔ (PartedIn t a b c d → ⊥) × (PartedIn t a c b d → ⊥) × (PartedIn t a d b c → ⊥)
unfolding topology
star_iff t a b c d = simp (named_star, butterfly-parted) rfl

named_passed : (x y z : Bool) (p q r : ℕ) → T x → named x y z p q r ≡ Butterfly p
unfolding named
named_passed true y z p q r u = refl
named_passed false y z p q r u = absurd u

passed_named : (x y z : Bool) (p q r : ℕ) → p ≢ q → p ≢ r → named x y z p q r ≡ Butterfly p → T x
unfolding named
passed_named true y z p q r pq pr e = tt
passed_named false true z p q r pq pr e = pq (cc)
passed_named false false true p q r pq pr e = pr (cc)
passed_named false false false p q r pq pr e = not_star p (sym e)

pub parted-butterfly : (t : Table) (a b c d : ℕ) → PartedIn t a b c d
    → topology t a b c d ≡ Butterfly (partner a b c d)
unfolding topology
parted-butterfly t a b c d h = named_passed _ _ _ _ _ _ ((butterfly-parted t a b c d).1 h)

-- the butterfly ab|cd exactly if some edge has a, b on one side and c, d on the other: it names the partner
pub butterfly-iff : (t : Table) → IsTree t → (a b c d : ℕ) → Four (tips t) a b c d
    → (topology t a b c d ≡ Butterfly (partner a b c d)) ↔ PartedIn t a b c d
unfolding topology
butterfly-iff t g a b c d f = (
  λ e. (butterfly-parted t a b c d).0 (passed_named _ _ _ _ _ _ not-second not_third e),
  parted-butterfly t a b c d,
)
  where
    not-second : partner a b c d ≢ partner a c b d
    not-second = partner-apart a b c d f.ad f.bc

    not_third : partner a b c d ≢ partner a d b c
    not_third = rw (partner-swap_right a b c d) (partner-apart a b d c f.ac f.bd)

-- ---- any order

named-swap_last : {x y z : Bool} (p q r : ℕ) → AtMostOne x y z → named x z y p r q ≡ named x y z p q r
unfolding named
named-swap_last p q r none = refl
named-swap_last p q r first = refl
named-swap_last p q r second = refl
named-swap_last p q r third = refl

named-swap-first : {x y z : Bool} (p q r : ℕ) → AtMostOne x y z → named y x z q p r ≡ named x y z p q r
unfolding named
named-swap-first p q r none = refl
named-swap-first p q r first = refl
named-swap-first p q r second = refl
named-swap-first p q r third = refl

module _ (t : Table) (g : IsTree t) (a b c d : ℕ) where
  order_first_two : Four (tips t) a b c d → topology t b a c d ≡ topology t a b c d
  unfolding topology
  order_first_two f = rw (
    butterfly-swap_left t b a c d,
    butterfly_turn t b c a d,
    butterfly_turn t b d a c,
    partner-swap_left b a c d,
    partner_turn b c a d (search Ne-symm) f.bd (search Ne-symm) f.cd,
    partner_turn b d a c (search Ne-symm) f.bc (search Ne-symm) (search Ne-symm),
  ) (named-swap_last _ _ _ (one-butterfly t g a b c d))

  order_middle : topology t a c b d ≡ topology t a b c d
  unfolding topology
  order_middle =
      rw (butterfly-swap_right t a d c b, partner-swap_right a d c b)
      (named-swap-first _ _ _ (one-butterfly t g a b c d))

  order_last_two : topology t a b d c ≡ topology t a b c d
  unfolding topology
  order_last_two =
      rw (butterfly-swap_right t a b d c, partner-swap_right a b d c)
      (named-swap_last _ _ _ (one-butterfly t g a b c d))

-- w, x, y, z are a, b, c, d in some order: neighbours exchanged again and again
pub data Rearranged (a b c d : ℕ) : ℕ → ℕ → ℕ → ℕ → Type 0 where
  as_is : Rearranged a b c d a b c d
  first_two : {w x y z : ℕ} → Rearranged a b c d w x y z → Rearranged a b c d x w y z
  middle : {w x y z : ℕ} → Rearranged a b c d w x y z → Rearranged a b c d w y x z
  last_two : {w x y z : ℕ} → Rearranged a b c d w x y z → Rearranged a b c d w x z y

still_four : {n a b c d w x y z : ℕ} → Four n a b c d → Rearranged a b c d w x y z → Four n w x y z
still_four f as_is = f
still_four f (first_two r) = let h = still_four f r in search Ne-symm
still_four f (middle r) = let h = still_four f r in search Ne-symm
still_four f (last_two r) = let h = still_four f r in search Ne-symm

-- in which order the four are given makes no difference
pub any_order : (t : Table) → IsTree t → (a b c d : ℕ) {w x y z : ℕ} → Four (tips t) a b c d
    → Rearranged a b c d w x y z → topology t w x y z ≡ topology t a b c d
any_order t g a b c d f as_is = refl
any_order t g a b c d f (first_two r) =
    order_first_two t g _ _ _ _ (still_four f r) ∙ any_order t g a b c d f r
any_order t g a b c d f (middle r) = order_middle t g _ _ _ _ ∙ any_order t g a b c d f r
any_order t g a b c d f (last_two r) = order_last_two t g _ _ _ _ ∙ any_order t g a b c d f r

-- ---- what an answer tells

-- the second pairing is parted, and the third
pub parted_with_c : (t : Table) → IsTree t → (a b c d : ℕ) → PartedIn t a c b d
    → topology t a b c d ≡ Butterfly (partner a c b d)
parted_with_c t g a b c d h = order_middle t g a c b d ∙ parted-butterfly t a c b d h

pub parted_with_d : (t : Table) → IsTree t → (a b c d : ℕ) → PartedIn t a d b c
    → topology t a b c d ≡ Butterfly (partner a d b c)
parted_with_d t g a b c d h =
    order_last_two t g a b d c ∙ order_middle t g a d b c ∙ parted-butterfly t a d b c h
