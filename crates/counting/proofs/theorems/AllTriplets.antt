-- With all labels kept, the triplets over the labels other than 0 are those of the triplet table.
-- Assumes nothing.
use Rattle.std.specs.Prelude.{◌≡◌, refl, Bool, ℕ, zero, suc, ◌*◌, ◌-◌, ◌<◌}
use Rattle.std.proofs.Common.{sym, ◌∙◌}
use Rattle.std.proofs.Math.Path.{ap}
use native.Mathlib.Omega.{arith}
use Rattle.sums.specs.Sum.{sum}
use Rattle.sums.specs.Bits.{bit}
use Rattle.sums.specs.theorems.BitLaws.{is_other_lem}
use Rattle.sums.specs.SetsOfFour.{sets2, sets3}
use Rattle.sums.specs.theorems.SumLaws.{sum_none}
use Rattle.sums.specs.theorems.SetLaws.{sets3_ext, sets3-first}
use Rattle.tree_check.specs.Table.{Table, tips}
use Rattle.marks.specs.Marks.{is_kept}
use Rattle.marks.proofs.theorems.Ones.{ones, ones_keep}
use Rattle.counting.specs.declared.Case.{Case}
use Rattle.counting.specs.Cases.{case_of, is_case}
use Rattle.counting.specs.Triplets.{triplet, triplets}
use Rattle.counting.specs.Kept.{is_other, others}
use Rattle.counting.specs.Triplets.{triplets_over}
use Rattle.counting.proofs.theorems.OtherLabels.{sets3-kept, other_bit, not_itself}

from_one : (n : ℕ) (f : ℕ → ℕ → ℕ → ℕ) → ((b c : ℕ) → f 0 b c ≡ 0)
    → sets3 n f ≡ sets3 (n - 1) (λ a b c. f (suc a) (suc b) (suc c))
unfolding sets3 sum
from_one zero f h = refl
from_one (suc n) f h =
    let e : suc n - 1 ≡ n = omega arith in
    rw e (sets3-first n f ∙ omega (arith, none))
  where
    none : sets2 n (λ b c. f 0 (suc b) (suc c)) ≡ 0
    none = unfold sets2 in sum_none n _ (λ c lc. sum_none c _ (λ b lb. h (suc b) (suc c)))

pub all-labels : (t u : Table) (k : Case) → triplets t u k ≡ triplets_over (others (ones (tips t)) 0 (tips t)) t u k
unfolding triplets triplets_over
all-labels t u k = sym (
    sets3-kept q (tips t) f
    ∙ from_one (tips t) _ (λ b c. rw (not_itself (ones (tips t)) 0) (omega arith))
    ∙ sets3_ext (tips t - 1) _ _ (λ a b c ab bc lc.
    rw (one a (omega arith), one b (omega arith), one c lc) (omega arith)))
  where
    q : ℕ → Bool
    q = is_other (ones (tips t)) 0

    f : ℕ → ℕ → ℕ → ℕ
    f a b c = bit (is_case (case_of (triplet t a b c) (triplet u a b c)) k)

    one : (y : ℕ) → y < tips t - 1 → bit (is_other (ones (tips t)) 0 (suc y)) ≡ 1
    one y l =
        let kept : bit (is_kept (ones (tips t)) (suc y)) ≡ 1 = rw (ones_keep (tips t) (suc y) (omega arith)) (unfold bit in refl) in
        omega (
          arith,
          other_bit (ones (tips t)) 0 (suc y),
          ap (λ (z : ℕ). bit (is_kept (ones (tips t)) (suc y)) * z) (is_other_lem 0 (suc y) (λ e. omega arith)),
          kept,
        )
