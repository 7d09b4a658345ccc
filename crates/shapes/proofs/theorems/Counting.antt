-- The counting theorem: what the claim sums of two shapes say of the sets of four labels.
-- Assumes nothing.
use Rattle.std.specs.Prelude.{◌≡◌, Bool, ◌&&◌, ◌≢◌, eqb}
use Rattle.std.proofs.Math.Path.{sym, ap, fun_ext}
use Rattle.std.proofs.Common.{◌∙◌, arith}
use Prim.Native.Nat.{ℕ, ◌+◌, ◌*◌, ◌<◌}
use Rattle.sums.specs.theorems.SumLaws.{sum_cong}
use Rattle.sums.specs.Bits.{bit}
use Rattle.sums.specs.theorems.BitLaws.{ne_other}
use Rattle.sums.specs.Counts.{count}
use Rattle.sums.specs.SetsOfFour.{sets4}
use Rattle.sums.specs.theorems.SetLaws.{sets4_ext, sets4-add}
use Rattle.sums.specs.theorems.FoursLaws.{sets_of_four}
use Rattle.sums.specs.theorems.Products.{bit_and}
use Rattle.shapes.specs.theorems.PartedFours.{AtMostOne, none, first, second, third}
use Rattle.shapes.proofs.theorems.PartedFours.{one-pairing}
use Rattle.shapes.specs.theorems.Shape.{Shape}
use Rattle.shapes.proofs.theorems.Shape.{behind_in, butterfly_in}
use Rattle.shapes.specs.Claims.{sum_claims, claim_term, equation1, dcount}
use Rattle.shapes.proofs.theorems.LabelSums.{quartet_in, code_crossing}
use Rattle.sums.specs.theorems.Pairings.{three_ways, different_ways}
use Rattle.shapes.specs.theorems.Topologies.{first_passed}
use Rattle.shapes.proofs.theorems.Topologies.{topology_in, case_in, cases_in}
use Rattle.shapes.proofs.theorems.ClaimCounts.{claim_sum, same_sum, different_sum}
use Rattle.shapes.specs.theorems.Counting.{SumsCount}

-- ---- the claim sums

-- how many labels lie behind the code c
abbrev pub size_in : {n : ℕ} → Shape n → ℕ → ℕ
size_in {n} t c = count n (behind_in t c)

-- how many labels lie behind the code c of t and behind the code c' of u
abbrev pub cross_in : {n : ℕ} → Shape n → Shape n → ℕ → ℕ → ℕ
cross_in {n} t u c c' = count n (λ x. behind_in t c x && behind_in u c' x)

-- S of one shape
unfoldable pub S_in : {n : ℕ} → Shape n → ℕ
S_in t = sum_claims t.up (2 * t.edges) (claim_term (size_in t))

-- S2 of two shapes
unfoldable pub S2_in : {n : ℕ} → Shape n → Shape n → ℕ
S2_in t u = sum_claims t.up (2 * t.edges) (λ e f g.
    sum_claims u.up (2 * u.edges) (equation1 (cross_in t u) e f g))

-- S3 of two shapes
unfoldable pub S3_in : {n : ℕ} → Shape n → Shape n → ℕ
S3_in t u = sum_claims t.up (2 * t.edges) (λ e f g.
    sum_claims u.up (2 * u.edges) (dcount (cross_in t u) e f g))

-- .. of two shapes
abbrev pub Counted : {n : ℕ} → Shape n → Shape n → Type 0
Counted {n} t u = SumsCount n (S_in t) (S_in u) (S2_in t u) (S3_in t u)
    (cases_in t u 0) (cases_in t u 1) (cases_in t u 2) (cases_in t u 3) (cases_in t u 4)

-- ---- one set of four, with the three tests of either shape

-- 1 if the two are in case k
abbrev pub in_case : Bool → Bool → Bool → Bool → Bool → Bool → ℕ → ℕ
in_case x y z x' y' z' k = bit (eqb (case_in (first_passed x y z) (first_passed x' y' z')) k)

pub record Cases (x y z x' y' z' : Bool) : Type 0 where
  pub in_first : in_case x y z x' y' z' 0 + in_case x y z x' y' z' 1 + in_case x y z x' y' z' 2
      ≡ bit x + bit y + bit z
  pub in_second : in_case x y z x' y' z' 0 + in_case x y z x' y' z' 1 + in_case x y z x' y' z' 3
      ≡ bit x' + bit y' + bit z'
  pub in_same : in_case x y z x' y' z' 0 ≡ bit x * bit x' + bit y * bit y' + bit z * bit z'
  pub in_different : in_case x y z x' y' z' 1
      ≡ bit x * bit y' + bit x * bit z' + bit y * bit x' + bit y * bit z' + bit z * bit x' + bit z * bit y'
  pub in_one : in_case x y z x' y' z' 0 + in_case x y z x' y' z' 1 + in_case x y z x' y' z' 2
      + in_case x y z x' y' z' 3 + in_case x y z x' y' z' 4
      ≡ 1

pub cases : {x y z x' y' z' : Bool} → AtMostOne x y z → AtMostOne x' y' z' → Cases x y z x' y' z'
unfolding bit first_passed case_in
cases none none = omega arith
cases none first = omega arith
cases none second = omega arith
cases none third = omega arith
cases first none = omega arith
cases first first = omega arith
cases first second = omega arith
cases first third = omega arith
cases second none = omega arith
cases second first = omega arith
cases second second = omega arith
cases second third = omega arith
cases third none = omega arith
cases third first = omega arith
cases third second = omega arith
cases third third = omega arith

module _ {n : ℕ} (t : Shape n) where
  quartet_of : (a b c d : ℕ) → a ≢ b → a ≢ c → a ≢ d → b ≢ c → b ≢ d → c ≢ d
      → quartet_in t a b c d ≡ bit (butterfly_in t a b c d)
  quartet_of a b c d ab ac ad bc bd cd = rw (
    ne_other a b ab,
    ne_other a c ac,
    ne_other a d ad,
    ne_other b c bc,
    ne_other b d bd,
    ne_other c d cd,
  )
      (omega arith)

  -- the three ways to pair a set of four
  quartets_of : (w x y z : ℕ) → w < x → x < y → y < z
      → (quartet_in t w x y z ≡ bit (butterfly_in t w x y z))
      × (quartet_in t w y x z ≡ bit (butterfly_in t w y x z))
      × (quartet_in t w z x y ≡ bit (butterfly_in t w z x y))
  quartets_of w x y z wx xy yz = (
    quartet_of w x y z (omega arith) (omega arith) (omega arith) (omega arith) (omega arith) (omega arith),
    quartet_of w y x z (omega arith) (omega arith) (omega arith) (omega arith) (omega arith) (omega arith),
    quartet_of w z x y (omega arith) (omega arith) (omega arith) (omega arith) (omega arith) (omega arith),
  )

  tests : (w x y z : ℕ) → AtMostOne (butterfly_in t w x y z) (butterfly_in t w y x z) (butterfly_in t w z x y)
  tests w x y z = one-pairing t.up t.tree t.edges (t.node w) (t.node x) (t.node y) (t.node z)

-- ---- all sets of four

module _ {n : ℕ} (t u : Shape n) where
  at_set : (w x y z : ℕ) → Cases (butterfly_in t w x y z) (butterfly_in t w y x z) (butterfly_in t w z x y)
      (butterfly_in u w x y z) (butterfly_in u w y x z) (butterfly_in u w z x y)
  at_set w x y z = cases (tests t w x y z) (tests u w x y z)

  first_cases : sets4 n (three_ways (quartet_in t)) ≡ cases_in t u 0 + cases_in t u 1 + cases_in t u 2
  unfolding cases_in topology_in
  first_cases = simp (← sets4-add) (sets4_ext n _ _ (λ w x y z wx xy yz l.
      let p = quartets_of t w x y z wx xy yz in rw (p.0, p.1, p.2) (sym (at_set w x y z).in_first)))

  second_cases : sets4 n (three_ways (quartet_in u)) ≡ cases_in t u 0 + cases_in t u 1 + cases_in t u 3
  unfolding cases_in topology_in
  second_cases = simp (← sets4-add) (sets4_ext n _ _ (λ w x y z wx xy yz l.
      let q = quartets_of u w x y z wx xy yz in rw (q.0, q.1, q.2) (sym (at_set w x y z).in_second)))

  same_cases : sets4 n (three_ways (λ a b c d. quartet_in t a b c d * quartet_in u a b c d)) ≡ cases_in t u 0
  unfolding cases_in topology_in
  same_cases = sets4_ext n _ _ (λ w x y z wx xy yz l.
      let p = quartets_of t w x y z wx xy yz in
      let q = quartets_of u w x y z wx xy yz in
      rw (p.0, p.1, p.2, q.0, q.1, q.2) (sym (at_set w x y z).in_same))

  different_cases : sets4 n (different_ways (quartet_in t) (quartet_in u)) ≡ cases_in t u 1
  unfolding cases_in topology_in
  different_cases = sets4_ext n _ _ (λ w x y z wx xy yz l.
      let p = quartets_of t w x y z wx xy yz in
      let q = quartets_of u w x y z wx xy yz in
      rw (p.0, p.1, p.2, q.0, q.1, q.2) (sym (at_set w x y z).in_different))

  all_cases : sets4 n (λ w x y z. 1)
      ≡ cases_in t u 0 + cases_in t u 1 + cases_in t u 2 + cases_in t u 3 + cases_in t u 4
  unfolding cases_in topology_in
  all_cases = sets4_ext n _ _ (λ w x y z wx xy yz l. sym (at_set w x y z).in_one) ∙ simp sets4-add

  as_products : cross_in t u ≡ code_crossing t u
  as_products = fun_ext (λ c. fun_ext (λ d. sum_cong n (λ x. bit_and (behind_in t c x) (behind_in u d x))))

  pub counted : Counted t u
  unfolding S_in S2_in S3_in sets_of_four
  counted = record {
    first = claim_sum t ∙ ap (λ (x : ℕ). 2 * x) first_cases;
    second = claim_sum u ∙ ap (λ (x : ℕ). 2 * x) second_cases;
    same = ap (λ (X : ℕ → ℕ → ℕ). pairs (equation1 X)) as_products ∙ same_sum t u
        ∙ ap (λ (x : ℕ). 2 * x) same_cases;
    different = ap (λ (X : ℕ → ℕ → ℕ). pairs (dcount X)) as_products ∙ different_sum t u
        ∙ ap (λ (x : ℕ). 4 * x) different_cases;
    all = all_cases;
  }
    where
      pairs : (ℕ → ℕ → ℕ → ℕ → ℕ → ℕ → ℕ) → ℕ
      pairs H = sum_claims t.up (2 * t.edges) (λ e f g. sum_claims u.up (2 * u.edges) (H e f g))
