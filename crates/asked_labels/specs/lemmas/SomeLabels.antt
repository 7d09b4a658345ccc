-- Whether some word of a list passes, as an iterator's `any` and a slice's `contains` tell it.
-- Assumes nothing.
use Rattle.std.specs.Prelude.{◌≡◌, refl, ◌↔◌, ◌||◌, ◌≤◌, Bool, true, false, T, ℕ, zero, suc, List, length, take, IsTrue, SomeIndex}
use native.Mathlib.Numerals.{add-one}
use Rattle.std.specs.List.{list_any}
use Rattle.std.proofs.Common.{subst, sym, arith, ap, ◌∙◌}
use Rattle.std.proofs.lemmas.List.Folds.{list_any_more}
use Rattle.sums.specs.Tests.{some}
use Rattle.sums.specs.theorems.BitLaws.{T_true}
use Rattle.sums.specs.theorems.TestLaws.{some-iff, same_test}
use Rattle.tree_check.specs.Table.{word}

pub any_is : (b : Bool) (xs : List ℕ) (q : ℕ → Bool) → (IsTrue b ↔ SomeIndex xs (λ i. IsTrue (q i))) → b ≡ some (length xs) q
any_is b xs q h = same_test b (some (length xs) q)
    (λ t. let r = h.0 (T_true b t) in (some-iff (length xs) q).1 (r.0, r.1, subst T (sym r.2) tt))
    (λ t. let r = (some-iff (length xs) q).0 t in subst T (sym (h.1 (r.0, r.1, T_true (q r.0) r.2))) tt)

pub among_first : (q : ℕ → Bool) (xs : List ℕ) (n : ℕ) → n ≤ length xs
    → list_any q (take n xs) ≡ some n (λ i. q (word xs i))
unfolding some
among_first q xs zero l = refl
among_first q xs (suc n) l =
    rw add-one at (list_any_more q xs n 0 (omega arith))
    ∙ ap (λ (b : Bool). b || q (word xs n)) (among_first q xs n (omega arith))
    ∙ either (q (word xs n)) (some n (λ i. q (word xs i)))
  where
    either : (b c : Bool) → (c || b) ≡ elim b as (λ x. Bool) [ true ↦ true | false ↦ c ]
    either true true = refl
    either true false = refl
    either false true = refl
    either false false = refl
