-- Tables that stand end to end: the first of them, and the words after it (docs/SPECIFICATION.md, 'Tables end to end').
-- Assumes nothing.
use Rattle.std.specs.Prelude.{true, false, List, ℕ, ◌+◌, ◌*◌, ltb, length, get_or, take, drop}

-- the first table takes 2 + 2m words by its own word 1, or all words if there are fewer than that, or fewer than two
unfoldable pub table_length : List ℕ → ℕ
table_length words =
    elim (ltb (length words) 2) [
      | true ↦ length words
      | false ↦ elim (ltb (length words) (2 + 2 * get_or words 1 0)) [ true ↦ length words | false ↦ 2 + 2 * get_or words 1 0 ]
    ]

unfoldable pub first_table : List ℕ → List ℕ
first_table words = take (table_length words) words

-- the words after it
unfoldable pub later_words : List ℕ → List ℕ
later_words words = drop (table_length words) words
