-- Topologies of four labels as numbers, and the five cases of two of them.
-- Assumes nothing.
use Rattle.std.specs.Prelude.{◌≡◌, refl, Bool, true, false, not, ◌↔◌, ℕ, zero, suc, ◌+◌, eqb}
use Rattle.std.proofs.Common.{sym, ◌∙◌, arith}
use Rattle.std.proofs.Math.Dec.{eqb-zero-suc, eqb-suc-zero, eqb-suc-suc}
use Rattle.sums.specs.Bits.{bit, is}
use Rattle.sums.specs.theorems.BitLaws.{ne, bit_inj}
use Rattle.sums.specs.SetsOfFour.{sets4}
use Rattle.sums.specs.theorems.SetLaws.{sets4_ext, sets4-add}
use Rattle.shapes.specs.theorems.PartedFours.{AtMostOne, none, first, second, third}
use Rattle.shapes.proofs.theorems.PartedFours.{one-pairing}
use Rattle.shapes.specs.theorems.Shape.{Shape}
use Rattle.shapes.proofs.theorems.Shape.{butterfly_in}
use Rattle.shapes.specs.theorems.Topologies.{first_passed}

-- of the three pairings of w, x, y, z in a shape: 0 for a star, 1 for wx|yz, 2 for wy|xz, 3 for wz|xy
unfoldable pub topology_in : {n : ℕ} → Shape n → ℕ → ℕ → ℕ → ℕ → ℕ
topology_in t w x y z = first_passed (butterfly_in t w x y z) (butterfly_in t w y x z) (butterfly_in t w z x y)

-- the case of two such numbers, 0 to 4 for A to E
unfoldable pub case_in : ℕ → ℕ → ℕ
case_in zero zero = 4
case_in zero (suc b) = 3
case_in (suc a) zero = 2
case_in (suc a) (suc b) = elim (eqb a b) [ true ↦ 0 | false ↦ 1 ]

-- the sets of four of a case
unfoldable pub cases_in : {n : ℕ} → Shape n → Shape n → ℕ → ℕ
cases_in {n} t u k =
    sets4 n (λ w x y z. bit (eqb (case_in (topology_in t w x y z) (topology_in u w x y z)) k))

-- ---- B, C and D are the cases of different topologies

case_differs : (a b : ℕ)
    → is (case_in a b) 1 + is (case_in a b) 2 + is (case_in a b) 3 ≡ ne a b
unfolding case_in bit
case_differs zero zero = refl
case_differs zero (suc b) = rw eqb-zero-suc
case_differs (suc a) zero = rw eqb-suc-zero
case_differs (suc a) (suc b) = rw eqb-suc-suc (either (eqb a b))
  where
    either : (e : Bool)
        → bit (eqb (elim e as (λ x. ℕ) [ true ↦ 0 | false ↦ 1 ]) 1)
        + bit (eqb (elim e as (λ x. ℕ) [ true ↦ 0 | false ↦ 1 ]) 2)
        + bit (eqb (elim e as (λ x. ℕ) [ true ↦ 0 | false ↦ 1 ]) 3)
        ≡ bit (not e)
    either true = refl
    either false = refl

pub cases_differing : {n : ℕ} (t u : Shape n)
    → cases_in t u 1 + cases_in t u 2 + cases_in t u 3
    ≡ sets4 n (λ w x y z. ne (topology_in t w x y z) (topology_in u w x y z))
unfolding cases_in
cases_differing {n} t u =
    simp (← sets4-add)
    (sets4_ext n _ _ (λ w x y z lw lx ly lz. case_differs (topology_in t w x y z) (topology_in u w x y z)))

-- ---- two topologies are equal exactly if the three tests are

pub record SameTests {n : ℕ} (t u : Shape n) (w x y z : ℕ) : Type 0 where
  pub one : butterfly_in t w x y z ≡ butterfly_in u w x y z
  pub two : butterfly_in t w y x z ≡ butterfly_in u w y x z
  pub three : butterfly_in t w z x y ≡ butterfly_in u w z x y

-- where at most one test is passed, the number tells which are
record Told (a b c : Bool) (k : ℕ) : Type 0 where
  one : bit a ≡ is k 1
  two : bit b ≡ is k 2
  three : bit c ≡ is k 3

told : {a b c : Bool} → AtMostOne a b c → Told a b c (first_passed a b c)
unfolding first_passed bit
told none = omega arith
told first = omega arith
told second = omega arith
told third = omega arith

topology_told : {n : ℕ} (t : Shape n) (w x y z : ℕ)
    → Told (butterfly_in t w x y z) (butterfly_in t w y x z) (butterfly_in t w z x y) (topology_in t w x y z)
unfolding topology_in
topology_told t w x y z =
    told (one-pairing t.up t.tree t.edges (t.node w) (t.node x) (t.node y) (t.node z))

pub same_topology-iff : {n : ℕ} (t u : Shape n) (w x y z : ℕ)
    → (topology_in t w x y z ≡ topology_in u w x y z) ↔ SameTests t u w x y z
same_topology-iff t u w x y z = (
  λ e. let s = topology_told t w x y z in let r = rw (← e) at (topology_told u w x y z) in
      record {
        one = bit_inj _ _ (s.one ∙ sym r.one);
        two = bit_inj _ _ (s.two ∙ sym r.two);
        three = bit_inj _ _ (s.three ∙ sym r.three);
      },
  λ h. unfold topology_in in rw (h.one, h.two, h.three),
)
