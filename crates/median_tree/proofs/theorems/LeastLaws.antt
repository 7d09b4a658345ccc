-- No position has a smaller value than the first least one, and every earlier one has a larger.
-- Assumes nothing.
use Rattle.std.specs.Prelude.{◌≡◌, ℕ, zero, suc, ◌≤◌, ◌<◌}
use Rattle.std.proofs.Common.{sym, subst, arith, lt-ltb, le-ltb}
use Rattle.std.proofs.Math.Decide.{dec_lt, ℕ_discrete}
use Rattle.median_tree.specs.Least.{first_least}
use Rattle.median_tree.specs.theorems.LeastLaws.{IsFirstLeast}

module _ (f : ℕ → ℕ) where
  -- one more position: it is smaller, or it is not
  pub less : (k : ℕ) → f k < f (first_least f k) → first_least f (suc k) ≡ k
  unfolding first_least
  less k l = rw (lt-ltb (f k) (f (first_least f k)) l, first_least)

  pub no_less : (k : ℕ) → f (first_least f k) ≤ f k → first_least f (suc k) ≡ first_least f k
  unfolding first_least
  no_less k l = rw (le-ltb (f k) (f (first_least f k)) l, first_least)

  pub least_of_one : first_least f 1 ≡ 0
  unfolding first_least
  least_of_one = no_less 0 (omega arith)

  pub is_first_least : (k : ℕ) → IsFirstLeast f (suc k) (first_least f (suc k))
  is_first_least zero = subst (IsFirstLeast f 1) (sym least_of_one) (record {
    position = omega arith;
    least = λ i l. let e : i ≡ 0 = omega arith in rw e (omega arith);
    earliest = λ i l. absurd (omega arith);
  })
  is_first_least (suc k) = let h = is_first_least k in let p = first_least f (suc k) in elim (dec_lt (f (suc k)) (f p)) [
    | yes l ↦ subst (IsFirstLeast f (suc (suc k))) (sym (less (suc k) l)) (record {
      position = omega arith;
      least = λ i m. elim (ℕ_discrete i (suc k)) [
        | yes e ↦ rw e (omega arith)
        | no d ↦ omega (arith, l, h.least i (omega arith))
      ];
      earliest = λ i m. omega (arith, l, h.least i m);
    })
    | no d ↦ subst (IsFirstLeast f (suc (suc k))) (sym (no_less (suc k) (omega arith))) (record {
      position = omega (arith, h.position);
      least = λ i m. elim (ℕ_discrete i (suc k)) [
        | yes e ↦ rw e (omega arith)
        | no n ↦ h.least i (omega arith)
      ];
      earliest = h.earliest;
    })
  ]

  -- there is only one such position
  pub least_only : (k p q : ℕ) → IsFirstLeast f k p → IsFirstLeast f k q → p ≡ q
  least_only k p q a b = elim (dec_lt p q) [
    | yes l ↦ absurd (omega (arith, b.earliest p l, a.least q b.position))
    | no m ↦ elim (dec_lt q p) [
      | yes l ↦ absurd (omega (arith, a.earliest q l, b.least p a.position))
      | no n ↦ omega arith
    ]
  ]
