-- Bytes written into a text from a position on.
-- Assumes nothing.
use Rattle.std.specs.Prelude.{◌≡◌, refl, List, [], ◌∷◌, ◌++◌, ℕ, suc, ◌+◌, ◌≤◌, ◌<◌, length, take, drop, set, get_or}
use Rattle.std.proofs.Common.{sym, ◌∙◌, ap, append-nil, append_assoc, add-zero, add-one, arith, length-append, take-append-drop, take-suc, take_all, take-suc-set, length-take-le, drop-cons}
use Rattle.std.proofs.Math.Seq.{take-append_seam, append_snoc, set-append_seam}

-- the text with the bytes at a position
unfoldable pub text_written : ℕ → List ℕ → List ℕ → List ℕ
text_written at bytes old = take at old ++ (bytes ++ drop (at + length bytes) old)

-- the text that ended at `at` has the bytes after it, and ends at `end`
pub record TextWritten (at : ℕ) (old bytes : List ℕ) (end : ℕ) (new : List ℕ) : Type 0 where
  pub long : end ≡ at + length bytes
  pub text : take end new ≡ take at old ++ bytes

pub written_both : (at : ℕ) (old a : List ℕ) (middle : ℕ) (new b : List ℕ) (end : ℕ) (last : List ℕ)
    → TextWritten at old a middle new → TextWritten middle new b end last → TextWritten at old (a ++ b) end last
written_both at old a middle new b end last h g = record {
  long = omega (arith, h.long, g.long, length-append a b);
  text = g.text ∙ ap (λ (x : List ℕ). x ++ b) h.text ∙ append_assoc (take at old) a b;
}

-- ---- one byte after another

front_length : (at : ℕ) (bytes old : List ℕ) (i : ℕ) → length bytes ≡ i → at + i ≤ length old
    → at + i ≡ length (take at old ++ bytes)
front_length at bytes old i e l =
    omega (arith, length-append (take at old) bytes, length-take-le at old (omega arith))

written_is : (at : ℕ) (bytes old : List ℕ) (i : ℕ) → length bytes ≡ i
    → text_written at bytes old ≡ take at old ++ bytes ++ drop (at + i) old
unfolding text_written
written_is at bytes old i e =
    sym (append_assoc (take at old) bytes (drop (at + length bytes) old))
    ∙ ap (λ (x : ℕ). take at old ++ bytes ++ drop (at + x) old) e

front_next : (front old : List ℕ) (n b : ℕ) → n ≡ length front → n < length old
    → set (front ++ drop n old) n b ≡ front ++ (b ∷ []) ++ drop (n + 1) old
front_next front old n b e l =
    ap (λ (x : List ℕ). set (front ++ x) n b) (drop-cons old n 0 l)
    ∙ ap (λ (x : ℕ). set (front ++ get_or old n 0 ∷ drop (suc n) old) x b) e
    ∙ set-append_seam front (get_or old n 0) (drop (suc n) old) b
    ∙ sym (append_snoc front b (drop (suc n) old))
    ∙ ap (λ (x : ℕ). front ++ (b ∷ []) ++ drop x old) (sym (add-one n))

pub written_none : (at : ℕ) (bytes old : List ℕ) → old ≡ text_written at (take 0 bytes) old
written_none at bytes old = sym (written_is at [] old 0 refl ∙ none)
  where
    none : take at old ++ [] ++ drop (at + 0) old ≡ old
    none = rw (append-nil, add-zero) (take-append-drop at old)

pub written_next : (at : ℕ) (bytes old : List ℕ) (i : ℕ) → at + length bytes ≤ length old → i < length bytes
    → set (text_written at (take i bytes) old) (at + i) (get_or bytes i 0) ≡ text_written at (take (i + 1) bytes) old
written_next at bytes old i l k =
    let b = get_or bytes i 0 in
    let now = length-take-le i bytes (omega arith) in
    ap (λ (x : List ℕ). set x (at + i) b) (written_is at (take i bytes) old i now)
    ∙ front_next (take at old ++ take i bytes) old (at + i) b
    (front_length at (take i bytes) old i now (omega arith)) (omega arith)
    ∙ ap (λ (x : List ℕ). x ++ drop (at + i + 1) old) (append_assoc (take at old) (take i bytes) (b ∷ []))
    ∙ ap (λ (x : List ℕ). take at old ++ x ++ drop (at + i + 1) old) (sym more)
    ∙ ap (λ (x : ℕ). take at old ++ take (i + 1) bytes ++ drop x old) (sum at i)
    ∙ sym (written_is at (take (i + 1) bytes) old (i + 1) (length-take-le (i + 1) bytes (omega arith)))
  where
    more : take (i + 1) bytes ≡ take i bytes ++ (get_or bytes i 0 ∷ [])
    more = rw add-one (take-suc bytes i 0 k)

    sum : (a i : ℕ) → a + i + 1 ≡ a + (i + 1)
    sum a i = omega arith

pub written_all : (at : ℕ) (bytes old : List ℕ) (i : ℕ) → i ≡ length bytes
    → text_written at (take i bytes) old ≡ text_written at bytes old
written_all at bytes old i e = ap (λ (x : List ℕ). text_written at x old) (take_all i bytes (omega arith))

-- ---- what is written comes after the text

pub written_after : (at : ℕ) (bytes old : List ℕ) (end : ℕ) → at + length bytes ≤ length old
    → end ≡ at + length bytes → TextWritten at old bytes end (text_written at bytes old)
written_after at bytes old end l e = record {
  long = e;
  text =
      ap (λ (x : List ℕ). take end x) (written_is at bytes old (length bytes) refl)
      ∙ ap (λ (x : ℕ). take x (take at old ++ bytes ++ drop (at + length bytes) old))
      (e ∙ front_length at bytes old (length bytes) refl l)
      ∙ take-append_seam (take at old ++ bytes) (drop (at + length bytes) old);
}

pub byte_written : (at : ℕ) (old : List ℕ) (b : ℕ) → at < length old
    → TextWritten at old (b ∷ []) (at + 1) (set old at b)
byte_written at old b l = record { long = refl; text = rw add-one (take-suc-set old at b l) }
