-- How many words the first table takes, as code finds it; and the parts that code lends on.
-- Assumes nothing.
use Rattle.std.specs.Prelude.{◌≡◌, refl, List, ℕ, ◌+◌, ◌*◌, ◌≤◌, ◌<◌, length, get_or}
use Rattle.std.proofs.Common.{sym, ap, lt-ltb, le-ltb}
use Rattle.std.proofs.Math.Decide.{dec_lt}
use native.Mathlib.Omega.{arith}
use Rattle.std.proofs.Math.ListN.{length-drop}
use Rattle.std.proofs.Math.Seq.{length-take-le}
use Rattle.table_words.specs.Cutting.{table_length, first_table, later_words}

module _ (words : List ℕ) where
  -- fewer than two words: all of them
  pub length_few : length words < 2 → length words ≡ table_length words
  unfolding table_length
  length_few l = rw (lt-ltb (length words) 2 l, table_length)

  module _ (m : ℕ) (e : m ≡ get_or words 1 0) (l : 2 ≤ length words) where
    -- fewer than 2 + 2m words: all of them
    pub length_short : length words < 2 + 2 * m → length words ≡ table_length words
    unfolding table_length
    length_short s =
        rw (le-ltb (length words) 2 l, table_length) (rw (sym e) (rw (lt-ltb (length words) (2 + 2 * m) s) refl))

    -- 2 + 2m words by word 1
    pub length_whole : 2 + 2 * m ≤ length words → 2 + 2 * m ≡ table_length words
    unfolding table_length
    length_whole s =
        rw (le-ltb (length words) 2 l, table_length) (rw (sym e) (rw (le-ltb (length words) (2 + 2 * m) s)
        (ap (λ (x : ℕ). 2 + 2 * x) e)))

  -- the first table is inside the words
  pub length_inside : table_length words ≤ length words
  length_inside = elim (dec_lt (length words) 2) [
    | yes l ↦ omega (arith, length_few l)
    | no d ↦ elim (dec_lt (length words) (2 + 2 * get_or words 1 0)) [
      | yes l ↦ omega (arith, length_short _ refl (omega arith) l)
      | no e ↦ omega (arith, length_whole _ refl (omega arith) (omega arith))
    ]
  ]

  -- the two have every word between them
  pub cut_length : length (first_table words) + length (later_words words) ≡ length words
  unfolding first_table later_words
  cut_length = omega (
    arith,
    length-take-le (table_length words) words length_inside,
    length-drop (table_length words) words,
    length_inside,
  )
