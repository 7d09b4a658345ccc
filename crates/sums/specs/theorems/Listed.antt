-- Tests of a list's elements are tests by index: what a chain over a slice tells, as `every`, `some` and `count` say it.
-- Assumes nothing.
use Rattle.std.specs.Prelude.{◌≡◌, Bool, true, false, ◌&&◌, ◌||◌, List, ℕ, zero, suc, ◌+◌, ◌≤◌, length, take, get_or}
use Rattle.std.specs.List.{list_all, list_any, count_by}
use Rattle.std.proofs.Common.{refl, arith, sym, ap, ◌∙◌, add-one}
use Rattle.std.proofs.Math.Seq.{take-length}
use Rattle.sums.specs.Sum.{sum}
use Rattle.std.proofs.lemmas.List.Folds.{list_all_more, list_any_more}
use Rattle.std.proofs.lemmas.List.Sums.{count_by_more_yes, count_by_more_no}
use Rattle.sums.specs.Bits.{bit}
use Rattle.sums.specs.Counts.{count}
use Rattle.sums.specs.Tests.{some, every}

-- the first n elements all pass
pub every_taken : (q : ℕ → Bool) (xs : List ℕ) (n : ℕ) → n ≤ length xs
    → list_all q (take n xs) ≡ every n (λ i. q (get_or xs i 0))
unfolding every
every_taken q xs zero l = refl
every_taken q xs (suc n) l =
    ap (λ (k : ℕ). list_all q (take k xs)) (sym (add-one n))
    ∙ list_all_more q xs n 0 (omega arith)
    ∙ ap (λ (r : Bool). r && q (get_or xs n 0)) (every_taken q xs n (omega arith))
    ∙ go (q (get_or xs n 0)) (every n (λ i. q (get_or xs i 0)))
  where
    go : (b r : Bool) → (r && b) ≡ elim b as (λ x. Bool) [ true ↦ r | false ↦ false ]
    go true true = refl
    go true false = refl
    go false true = refl
    go false false = refl

-- one of the first n elements passes
pub some_taken : (q : ℕ → Bool) (xs : List ℕ) (n : ℕ) → n ≤ length xs
    → list_any q (take n xs) ≡ some n (λ i. q (get_or xs i 0))
unfolding some
some_taken q xs zero l = refl
some_taken q xs (suc n) l =
    ap (λ (k : ℕ). list_any q (take k xs)) (sym (add-one n))
    ∙ list_any_more q xs n 0 (omega arith)
    ∙ ap (λ (r : Bool). r || q (get_or xs n 0)) (some_taken q xs n (omega arith))
    ∙ go (q (get_or xs n 0)) (some n (λ i. q (get_or xs i 0)))
  where
    go : (b r : Bool) → (r || b) ≡ elim b as (λ x. Bool) [ true ↦ true | false ↦ r ]
    go true true = refl
    go true false = refl
    go false true = refl
    go false false = refl

-- how many of the first n elements pass
pub count_taken : (q : ℕ → Bool) (xs : List ℕ) (n : ℕ) → n ≤ length xs
    → count_by q (take n xs) ≡ count n (λ i. q (get_or xs i 0))
unfolding sum bit
count_taken q xs zero l = refl
count_taken q xs (suc n) l =
    ap (λ (k : ℕ). count_by q (take k xs)) (sym (add-one n))
    ∙ go (q (get_or xs n 0)) refl
    ∙ ap (λ (k : ℕ). k + bit (q (get_or xs n 0))) (count_taken q xs n (omega arith))
  where
    go : (b : Bool) → q (get_or xs n 0) ≡ b
        → count_by q (take (n + 1) xs) ≡ count_by q (take n xs) + bit (q (get_or xs n 0))
    go true e = rw (count_by_more_yes q xs n 0 (omega arith) e, e) refl
    go false e = rw (count_by_more_no q xs n 0 (omega arith) e, e) (omega arith)

-- all of them
pub every_listed : (q : ℕ → Bool) (xs : List ℕ) → list_all q xs ≡ every (length xs) (λ i. q (get_or xs i 0))
every_listed q xs =
    ap (list_all q) (sym (take-length xs)) ∙ every_taken q xs (length xs) (omega arith)

pub some_listed : (q : ℕ → Bool) (xs : List ℕ) → list_any q xs ≡ some (length xs) (λ i. q (get_or xs i 0))
some_listed q xs =
    ap (list_any q) (sym (take-length xs)) ∙ some_taken q xs (length xs) (omega arith)

pub count_listed : (q : ℕ → Bool) (xs : List ℕ) → count_by q xs ≡ count (length xs) (λ i. q (get_or xs i 0))
count_listed q xs =
    ap (count_by q) (sym (take-length xs)) ∙ count_taken q xs (length xs) (omega arith)
