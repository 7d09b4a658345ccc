-- Marks of 1 are marks, and keep every label.
-- Assumes nothing.
use Rattle.std.specs.Prelude.{◌≡◌, refl, true, List, [], ◌∷◌, ℕ, zero, suc, ◌≤◌, ◌<◌, length, take}
use Rattle.std.proofs.Common.{◌∙◌, ap, arith, eq-eqb}
use Rattle.sums.specs.theorems.SumLaws.{sum_ext, sum_const}
use Rattle.sums.specs.Bits.{bit}
use Rattle.tree_check.specs.Table.{word}
use Rattle.marks.specs.Marks.{is_kept, kept_of, AreMarks}

-- n marks of 1: every label kept
unfoldable pub ones : ℕ → List ℕ
ones zero = []
ones (suc n) = 1 ∷ ones n

ones_long : (n : ℕ) → length (ones n) ≡ n
unfolding ones
ones_long zero = refl
ones_long (suc n) = ap (λ (k : ℕ). suc k) (ones_long n)

pub ones_are : (n x : ℕ) → x < n → word (ones n) x ≡ 1
unfolding ones
ones_are zero x l = absurd (omega arith)
ones_are (suc n) zero l = refl
ones_are (suc n) (suc x) l = ones_are n x (omega arith)

pub ones-marks : (n : ℕ) → AreMarks (ones n) n
ones-marks n = record { long = ones_long n; low = λ x l. omega (arith, ones_are n x l) }

-- every label is kept
pub ones_keep : (n x : ℕ) → x < n → is_kept (ones n) x ≡ true
unfolding is_kept
ones_keep n x l = eq-eqb (word (ones n) x) 1 (ones_are n x l)

pub ones-kept : (n : ℕ) → kept_of (ones n) n ≡ n
unfolding bit
ones-kept n = sum_ext n _ (λ x. 1) (λ x l. rw (ones_keep n x l) refl) ∙ sum_const n 1 ∙ omega arith

-- the first n of more ones
pub ones-taken : (n m : ℕ) → n ≤ m → take n (ones m) ≡ ones n
unfolding ones
ones-taken zero m l = refl
ones-taken (suc n) zero l = absurd (omega arith)
ones-taken (suc n) (suc m) l = ap (λ (k : List ℕ). 1 ∷ k) (ones-taken n m (omega arith))
