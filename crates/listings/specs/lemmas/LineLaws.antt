-- Numbers put into a line one by one.
-- Assumes nothing.
use Rattle.std.specs.Prelude.{◌≡◌, refl, List, [], ◌∷◌, ◌++◌, ℕ}
use Rattle.std.proofs.Common.{sym, append_assoc, append-nil}
use Rattle.listings.specs.Lines.{spaced, spaced_all}

pub spaced_none : spaced_all [] ≡ []
unfolding spaced_all
spaced_none = refl

pub spaced_snoc : (ns : List ℕ) (n : ℕ) → spaced_all (ns ++ (n ∷ [])) ≡ spaced_all ns ++ spaced n
unfolding spaced_all
spaced_snoc [] n = simp append-nil
spaced_snoc (m ∷ ns) n = rw (spaced_snoc ns n) (sym (append_assoc (spaced m) (spaced_all ns) (spaced n)))
