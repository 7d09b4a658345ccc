-- What the printing functions leave in the text, step by step.
-- Assumes nothing.
use Rattle.std.specs.Prelude.{◌≡◌, ℕ, ◌+◌, ◌≤◌, ◌<◌, length, take, set, get_or}
use Rattle.std.proofs.Math.Path.{sym, subst}
use Rattle.std.proofs.Common.{◌∙◌, ap, add-one, arith, length-set, take-suc}
use mathlib.Core.List.{List, [], ◌∷◌, ◌++◌, append-nil}
use Rattle.std.proofs.Math.Seq.{length-take-le, take-length}
use Rattle.io.specs.Digits.{last_digits, IsDigitCount}
use Rattle.listings.specs.lemmas.DecimalLaws.{decimal_fewest}
use Rattle.listings.specs.Lines.{spaced, spaced_all, line}
use Rattle.listings.specs.lemmas.LineLaws.{spaced_none, spaced_snoc}
use Rattle.listings.specs.lemmas.Written.{TextWritten, text_written, written_both, written_after, byte_written}

-- ---- a number: a space, then the first k bytes of what `io::decimal` leaves

module _ (at : ℕ) (old ds : List ℕ) (k : ℕ) (room : at + 21 ≤ length old) (most : k ≤ 20) (fits : k ≤ length ds) where
  pub number_room : at + 1 + length (take k ds) ≤ length (set old at 32)
  number_room = omega (arith, length-take-le k ds fits, length-set old at 32)

  pub number-written : (n : ℕ) → IsDigitCount 10 1 n k → take k ds ≡ last_digits 10 k n → (end : ℕ) (new : List ℕ)
      → (end ≡ at + 1 + length (take k ds)) × (new ≡ text_written (at + 1) (take k ds) (set old at 32))
      → TextWritten at old (spaced n) end new × (end ≤ at + 21)
  unfolding spaced
  number-written n f e end new h = (
    subst (λ (x : List ℕ). TextWritten at old (32 ∷ x) end new) (e ∙ sym (decimal_fewest n k f))
        (written_both at old (32 ∷ []) (at + 1) (set old at 32) (take k ds) end new
        (byte_written at old 32 (omega arith))
        (rw h.1 (written_after (at + 1) (take k ds) (set old at 32) end number_room h.0))),
    omega (arith, h.0, length-take-le k ds fits),
  )

-- ---- numbers, one after the other

pub numbers_none : (at : ℕ) (old : List ℕ) → TextWritten at old (spaced_all []) at old
numbers_none at old = rw spaced_none (record { long = omega arith; text = sym (append-nil (take at old)) })

pub numbers_next : (at : ℕ) (old numbers : List ℕ) (i middle : ℕ) (new : List ℕ) (end : ℕ) (last : List ℕ)
    → i < length numbers → TextWritten at old (spaced_all (take i numbers)) middle new
    → TextWritten middle new (spaced (get_or numbers i 0)) end last
    → TextWritten at old (spaced_all (take (i + 1) numbers)) end last
numbers_next at old numbers i middle new end last l h g =
    subst (λ (x : List ℕ). TextWritten at old x end last) (sym more)
    (written_both at old (spaced_all (take i numbers)) middle new (spaced (get_or numbers i 0)) end last h g)
  where
    more : spaced_all (take (i + 1) numbers) ≡ spaced_all (take i numbers) ++ spaced (get_or numbers i 0)
    more = rw (add-one, take-suc numbers i 0) (spaced_snoc (take i numbers) (get_or numbers i 0))

pub numbers_all : (at : ℕ) (old numbers : List ℕ) (i end : ℕ) (new : List ℕ) → i ≡ length numbers
    → TextWritten at old (spaced_all (take i numbers)) end new → TextWritten at old (spaced_all numbers) end new
numbers_all at old numbers i end new e h =
    subst (λ (x : List ℕ). TextWritten at old (spaced_all x) end new)
    (ap (λ (x : ℕ). take x numbers) e ∙ take-length numbers) h

-- ---- a line: the word, the numbers, the line end

pub line-written : (at : ℕ) (old word numbers : List ℕ) (middle : ℕ) (new : List ℕ) (end : ℕ) (last : List ℕ)
    → at + length word ≤ length old → end < length last
    → (middle ≡ at + length word) × (new ≡ text_written at word old)
    → TextWritten middle new (spaced_all numbers) end last
    → TextWritten at old (line word numbers) (end + 1) (set last end 10)
unfolding line
line-written at old word numbers middle new end last l m h g =
    written_both at old word middle new (spaced_all numbers ++ (10 ∷ [])) (end + 1) (set last end 10)
    (rw h.1 (written_after at word old middle l h.0))
    (written_both middle new (spaced_all numbers) end last (10 ∷ []) (end + 1) (set last end 10) g
    (byte_written end last 10 m))
