-- Lists of the codes into a node: a sum over the codes with one head is a sum over a list of them.
-- Assumes nothing.
use Rattle.std.specs.Prelude.{◌≡◌, Bool, not, ◌&&◌, ◌≢◌, eqb, ltb}
use Rattle.std.proofs.Math.Path.{refl, ap}
use Rattle.std.proofs.Common.{◌∙◌, mul_comm, mul-zero, lt_of_not-le}
use Rattle.std.proofs.Math.Bool.{true, false}
use Rattle.std.proofs.Math.Logic.{inl, inr}
use Prim.Native.Nat.{ℕ, zero, suc, ◌+◌, ◌*◌, ◌<◌}
use Rattle.std.proofs.Math.Decide.{dec_lt}
use native.Mathlib.Omega.{arith}
use Rattle.sums.specs.Sum.{sum}
use Rattle.sums.specs.theorems.SumLaws.{sum-suc, sum_ext, sum_cong, sum_none, sum-ge, sum_two}
use Rattle.sums.specs.Bits.{bit}
use Rattle.sums.specs.theorems.BitLaws.{bit_le, bit_cases, bit-T, bit_no}
use Rattle.sums.specs.Bits.{is}
use Rattle.sums.specs.theorems.BitLaws.{ne}
use Rattle.sums.specs.theorems.BitLaws.{is_self, is_other_lem, ne_self, ne_other, alike, sum_is}
use Rattle.sums.specs.theorems.TestLaws.{not-lt-iff}
use Rattle.node_pairs.specs.CodesInto.{degree_of, code_at}

-- c lists the codes below K whose head, given by h, is v: c 0, .., c (d - 1), each code once
pub record Lists (K : ℕ) (h : ℕ → ℕ) (v d : ℕ) (c : ℕ → ℕ) : Type 0 where
  pub inside : (i : ℕ) → i < d → c i < K
  pub total : (F : ℕ → ℕ) → sum K (λ e. is v (h e) * F e) ≡ sum d (λ i. F (c i))

-- ---- the codes of a list

-- a list with the right sums has no code from K on
pub inside_of_total : (K : ℕ) (h : ℕ → ℕ) (v d : ℕ) (c : ℕ → ℕ)
    → ((F : ℕ → ℕ) → sum K (λ e. is v (h e) * F e) ≡ sum d (λ i. F (c i)))
    → (i : ℕ) → i < d → c i < K
inside_of_total K h v d c total i l = elim (dec_lt (c i) K) [
  | yes m ↦ m
  | no n ↦ absurd (omega (
    arith,
    total outside,
    sum_none K _ none,
    sum-ge d (λ j. outside (c j)) i l,
    bit-T (not (ltb (c i) K)) ((not-lt-iff (c i) K).1 (omega (arith, lt_of_not-le n))),
  ))
]
  where
    outside : ℕ → ℕ
    outside e = bit (not (ltb e K))

    none : (e : ℕ) → e < K → is v (h e) * outside e ≡ 0
    none e m =
        ap (λ (x : ℕ). is v (h e) * x) (bit_no (not (ltb e K)) (λ t. omega (arith, (not-lt-iff e K).0 t)))
        ∙ mul-zero (is v (h e))

module _ (K : ℕ) (h : ℕ → ℕ) (v d : ℕ) (c : ℕ → ℕ) (l : Lists K h v d c) where
  -- no code stands twice
  pub distinct : (i j : ℕ) → i < d → j < d → i ≢ j → c i ≢ c j
  distinct i j li lj n e = omega (
    arith,
    sum_two d (λ x. is (c j) (c x)) i j li lj n,
    ap (is (c j)) e,
    is_self (c j),
    l.total (is (c j)),
    sum_cong K (λ x. mul_comm (is v (h x)) (is (c j) x)),
    sum_is K (c j) (λ x. is v (h x)) (l.inside j lj),
    bit_le (eqb v (h (c j))),
  )

  pub same_ne : (i j : ℕ) → i < d → j < d → ne (c i) (c j) ≡ ne i j
  same_ne i j li lj = elim (alike i j) [
    | inl e ↦ rw (e.2, e.0) (ne_self (c j))
    | inr m ↦ rw m.2 (ne_other (c i) (c j) (distinct i j li lj m.0))
  ]

-- ---- every node has a list

pick : Bool → Bool → ℕ → ℕ → ℕ
pick a b x y = elim (a && b) [ true ↦ x | false ↦ y ]

module _ (h : ℕ → ℕ) (v : ℕ) where
  -- the codes before K keep their places, ..
  pub code_before : (K i : ℕ) → i < degree_of K h v → code_at (suc K) h v i ≡ code_at K h v i
  unfolding code_at pick bit
  code_before K i l = go (eqb v (h K)) (eqb i (degree_of K h v)) (is_other_lem i (degree_of K h v) (omega arith))
    where
      go : (a b : Bool) → bit b ≡ 0 → pick a b K (code_at K h v i) ≡ code_at K h v i
      go true true e = absurd (omega arith)
      go true false e = refl
      go false b e = refl

  -- .. and K comes after them if its head is v
  pub code_last : (K : ℕ) → is v (h K) ≡ 1 → code_at (suc K) h v (degree_of K h v) ≡ K
  unfolding code_at pick bit
  code_last K e = go (eqb v (h K)) (eqb d d) e (is_self d)
    where
      d : ℕ
      d = degree_of K h v

      go : (a b : Bool) → bit a ≡ 1 → bit b ≡ 1 → pick a b K (code_at K h v d) ≡ K
      go true true e f = refl
      go true false e f = absurd (omega arith)
      go false b e f = absurd (omega arith)

  pub degree-suc : (K : ℕ) → degree_of (suc K) h v ≡ degree_of K h v + is v (h K)
  unfolding degree_of
  degree-suc K = sum-suc K (λ e. is v (h e))

  code_lt : (K i : ℕ) → i < degree_of K h v → code_at K h v i < K
  code_lt zero i l = absurd (unfold degree_of sum in omega arith)
  code_lt (suc K) i l = elim (dec_lt i (degree_of K h v)) [
    | yes m ↦ omega (arith, code_before K i m, code_lt K i m)
    | no n ↦ omega (arith, at-end (lt_of_not-le n))
  ]
    where
      at-end : degree_of K h v < suc i → code_at (suc K) h v i ≡ K
      at-end m =
          ap (code_at (suc K) h v) (omega (arith, degree-suc K, bit_le (eqb v (h K))))
          ∙ code_last K (omega (arith, degree-suc K, bit_le (eqb v (h K))))

  sum-listed : (K : ℕ) (F : ℕ → ℕ)
      → sum K (λ e. is v (h e) * F e) ≡ sum (degree_of K h v) (λ i. F (code_at K h v i))
  sum-listed zero F = unfold degree_of sum in refl
  sum-listed (suc K) F = elim (bit_cases (eqb v (h K))) [
    | inl e ↦ rw (not_more e) (omega (
      arith,
      sum-suc K (λ x. is v (h x) * F x),
      ap (λ (z : ℕ). z * F K) e,
      sum-listed K F,
      kept,
    ))
    | inr e ↦ rw (one_more e) (omega (
      arith,
      sum-suc K (λ x. is v (h x) * F x),
      ap (λ (z : ℕ). z * F K) e,
      sum-listed K F,
      kept,
      sum-suc (degree_of K h v) (λ i. F (code_at (suc K) h v i)),
      ap F (code_last K e),
    ))
  ]
    where
      not_more : is v (h K) ≡ 0 → degree_of (suc K) h v ≡ degree_of K h v
      not_more e = omega (arith, degree-suc K)

      one_more : is v (h K) ≡ 1 → degree_of (suc K) h v ≡ suc (degree_of K h v)
      one_more e = omega (arith, degree-suc K)

      kept : sum (degree_of K h v) (λ i. F (code_at (suc K) h v i))
          ≡ sum (degree_of K h v) (λ i. F (code_at K h v i))
      kept = sum_ext (degree_of K h v) _ _ (λ i l. ap F (code_before K i l))

-- the list of all codes below K with the head v
pub lists_codes : (K : ℕ) (h : ℕ → ℕ) (v : ℕ) → Lists K h v (degree_of K h v) (code_at K h v)
lists_codes K h v = record { inside = code_lt h v K; total = sum-listed h v K }
