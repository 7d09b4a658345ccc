-- Two edges have the same label sets, by the crossing and the sizes: all beyond either lie beyond both, or none lies beyond both
-- and all labels beyond one of them.
-- Assumes nothing.
use Rattle.std.specs.Prelude.{◌≡◌, Bool, not, ◌&&◌, ◌||◌, ◌⊎◌, ℕ, ◌+◌, ◌*◌, ◌<◌, T, eqb}
use Rattle.std.proofs.Common.{sym, ◌∙◌, ap, subst, inl, inr, arith, T_not}
use Rattle.std.proofs.Math.Dec.{not_T}
use Rattle.sums.specs.Bits.{bit}
use Rattle.sums.specs.Counts.{count}
use Rattle.sums.specs.theorems.SumLaws.{sum_ext, sum-add, sum_const}
use Rattle.sums.specs.theorems.BitLaws.{bit_not}
use Rattle.sums.specs.theorems.Products.{bit_and, bit_sq}
use Rattle.sums.specs.theorems.CountLaws.{count_none}
use Rattle.sums.specs.theorems.Matchings.{count_same}
use Rattle.sums.specs.theorems.TestLaws.{and-iff, or-iff, eq_iff, same_test}
use Rattle.shapes.specs.Splits.{Sides, same_sides, SameSides, same, turned}
use Rattle.shapes.proofs.theorems.SplitLaws.{same_sides-iff}

module _ (n : ℕ) (b c : Sides) (i j : ℕ) where
  abbrev both : ℕ
  both = count n (λ x. b i x && c j x)

  abbrev one : ℕ
  one = count n (b i)

  abbrev two : ℕ
  two = count n (c j)

  -- all beyond either lie beyond both
  abbrev pub alike : Bool
  alike = eqb both one && eqb both two

  -- none lies beyond both, and every label beyond one of them
  abbrev pub complementary : Bool
  complementary = eqb both 0 && eqb (one + two) n

  parts : (x : ℕ) → T (b i x && c j x) → T (b i x) × T (c j x)
  parts x = (and-iff (b i x) (c j x)).0

  both_self : (a e : Bool) → a ≡ e → bit (a && e) ≡ bit a
  both_self a e q = bit_and a e ∙ ap (λ (z : Bool). bit a * bit z) (sym q) ∙ bit_sq a

  from_alike : T alike → SameSides n b c i j
  from_alike s =
      let r = (and-iff (eqb both one) (eqb both two)).0 s in
      let p = count_same n (λ x. b i x && c j x) (b i) (λ x l y. (parts x y).0) ((eq_iff both one).0 r.0) in
      let q = count_same n (λ x. b i x && c j x) (c j) (λ x l y. (parts x y).1) ((eq_iff both two).0 r.1) in
      same (λ x l. same_test (b i x) (c j x) (λ y. (parts x (p x l y)).1) (λ y. (parts x (q x l y)).0))

  count_both : (q : ℕ → Bool) → count n q + count n (λ x. not (q x)) ≡ n
  count_both q =
      sym (sum-add n (λ x. bit (q x)) (λ x. bit (not (q x))))
      ∙ sum_ext n _ (λ x. 1) (λ x l. bit_not (q x))
      ∙ sum_const n 1
      ∙ omega arith

  pub apart_turned : T complementary → (x : ℕ) → x < n → b i x ≡ not (c j x)
  apart_turned s x l =
      let r = (and-iff (eqb both 0) (eqb (one + two) n)).0 s in
      let none = (count_none n (λ x. b i x && c j x)).0 ((eq_iff both 0).0 r.0) in
      let off : (x : ℕ) → x < n → T (b i x) → T (not (c j x)) =
      λ x l y. not_T (c j x) (λ z. none x l ((and-iff (b i x) (c j x)).1 (y, z))) in
      same_test (b i x) (not (c j x)) (off x l)
      (count_same n (b i) (λ z. not (c j z)) off (omega (arith, count_both (c j), (eq_iff (one + two) n).0 r.1)) x l)

  to_either : SameSides n b c i j → T alike ⊎ T complementary
  to_either (same s) =
      let p : both ≡ one = sum_ext n _ _ (λ x l. both_self (b i x) (c j x) (s x l)) in
      let q : one ≡ two = sum_ext n _ _ (λ x l. ap bit (s x l)) in
      inl ((and-iff (eqb both one) (eqb both two)).1 ((eq_iff both one).1 p, (eq_iff both two).1 (p ∙ q)))
  to_either (turned s) =
      let none = (count_none n (λ x. b i x && c j x)).1 (λ x l y. let z = parts x y in
      T_not (c j x) (subst T (s x l) z.0) z.1) in
      let q : one ≡ count n (λ x. not (c j x)) = sum_ext n _ _ (λ x l. ap bit (s x l)) in
      inr ((and-iff (eqb both 0) (eqb (one + two) n)).1 ((eq_iff both 0).1 none, (eq_iff (one + two) n).1 (omega (arith, q, count_both (c j)))))

  pub sides_by_crossing : same_sides n b c i j ≡ (alike || complementary)
  sides_by_crossing = same_test _ _
      (λ y. (or-iff alike complementary).1 (to_either ((same_sides-iff n b c i j).0 y)))
      (λ y. (same_sides-iff n b c i j).1 (elim ((or-iff alike complementary).0 y) [ inl s ↦ from_alike s | inr s ↦ turned (apart_turned s) ]))
