-- How many words a file has, what each is, and how the two tables share them.
-- Assumes nothing.
use Rattle.std.specs.Prelude.{◌≡◌, refl, List, [], ◌∷◌, ◌++◌, ℕ, zero, suc, ◌+◌, ◌*◌, ◌/◌, ◌<◌, length, set}
use Rattle.std.proofs.Common.{sym, ◌∙◌, ap₂, add-one, arith, take-suc, take-suc-set, take_all}
use Rattle.std.proofs.Math.Path.{ap}
use Rattle.std.proofs.Math.ListN.{take, drop}
use Rattle.table_words.specs.Cutting.{table_length, first_table, later_words}
use Rattle.tree_check.specs.Table.{word}
use Rattle.tree_check.specs.lemmas.TableParts.{rest, rest-drop}
use Rattle.pair_file.specs.PairFile.{file_words}

-- ---- the words

-- two bytes for each word
pub words_length : (bytes : List ℕ) → length (file_words bytes) ≡ length bytes / 2
unfolding file_words
words_length [] = refl
words_length (x ∷ []) = refl
words_length (x ∷ y ∷ bytes) = omega (arith, words_length bytes)

-- word i is in the bytes 2i and 2i + 1, the lower first
pub word_at : (bytes : List ℕ) (i : ℕ) → i < length bytes / 2
    → word (file_words bytes) i ≡ word bytes (2 * i) + 256 * word bytes (2 * i + 1)
unfolding file_words
word_at [] i l = absurd (omega arith)
word_at (x ∷ []) i l = absurd (omega arith)
word_at (x ∷ y ∷ bytes) zero l = refl
word_at (x ∷ y ∷ bytes) (suc i) l =
    let low : 2 * suc i ≡ suc (suc (2 * i)) = omega arith in
    let high : 2 * suc i + 1 ≡ suc (suc (2 * i + 1)) = omega arith in
    word_at bytes i (omega arith)
    ∙ sym (ap₂ (λ (j k : ℕ). word (x ∷ y ∷ bytes) j + 256 * word (x ∷ y ∷ bytes) k) low high)

-- one more word is decoded
pub words_next : (bytes words : List ℕ) (i v : ℕ) → i < length bytes / 2 → i < length words
    → take i words ≡ take i (file_words bytes) → v ≡ word bytes (2 * i) + 256 * word bytes (2 * i + 1)
    → take (i + 1) (set words i v) ≡ take (i + 1) (file_words bytes)
words_next bytes words i v l m h e =
    ap (λ (k : ℕ). take k (set words i v)) (add-one i)
    ∙ take-suc-set words i v m
    ∙ ap₂ (λ (xs : List ℕ) (x : ℕ). xs ++ (x ∷ [])) h (e ∙ sym (word_at bytes i l))
    ∙ sym (take-suc (file_words bytes) i 0 (omega (arith, words_length bytes)))
    ∙ ap (λ (k : ℕ). take k (file_words bytes)) (sym (add-one i))

-- every word is decoded
pub words_all : (bytes words : List ℕ) (i : ℕ) → i ≡ length bytes / 2
    → take i words ≡ take i (file_words bytes) → take i words ≡ file_words bytes
words_all bytes words i e h = h ∙ take_all i (file_words bytes) (omega (arith, words_length bytes))

-- ---- the two tables

module _ (words : List ℕ) where
  -- `&words[..k]` and `&words[k..]`
  pub first_part : (k : ℕ) → k ≡ table_length words → take k words ≡ first_table words
  unfolding first_table
  first_part k e = ap (λ (j : ℕ). take j words) e

  pub second_part : (k : ℕ) → k ≡ table_length words → rest k words ≡ later_words words
  unfolding later_words
  second_part k e = rest-drop k words ∙ ap (λ (j : ℕ). drop j words) e
