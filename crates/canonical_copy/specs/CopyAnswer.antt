-- The answer of `canonical_copy`, and the lent words afterwards (docs/SPECIFICATION.md, 'The canonical copy').
-- Assumes nothing.
use Rattle.std.specs.Prelude.{◌≡◌, ◌≢◌, ◌↔◌, List, [], ◌∷◌, ◌++◌, ℕ, ◌≤◌, ◌<◌, ltb, length, take, drop}
use Rattle.tree_check.specs.Table.{Table, word, tips}
use Rattle.tree_check.specs.IsTree.{IsTree}
use Rattle.tree_check.specs.Refusals.{Rule, refusal, if_accepted}
use Rattle.tree_check.specs.TreeOrder.{tree_order}
use Rattle.marks.specs.Marks.{kept_of, marks_order, AreMarks}
use Rattle.counting.specs.Kept.{kept}
use Rattle.canonical.specs.IsCopy.{IsCopy}
use Rattle.canonical.specs.CanonicalCopy.{canonical_copy}
use Rattle.canonical_copy.specs.declared.copies.CopyAnswer.{CopyAnswer}

-- the table's order, then 32; then 35: fewer than two labels are kept; then 36: the slice has fewer words than the copy
unfoldable pub copy_order : List ℕ → Table → ℕ → List Rule
copy_order marks t room =
    tree_order t ++ (marks_order marks (tips t) ++ (35, ltb (kept_of marks (tips t)) 2) ∷ (36, ltb room (length (canonical_copy marks t))) ∷ [])

-- the number, and how many words the copy has
unfoldable pub copy_answer : List ℕ → Table → ℕ → CopyAnswer
copy_answer marks t room =
    let number = refusal (copy_order marks t room) in
    record { refusal = number; words = if_accepted number (length (canonical_copy marks t)) 0 }

-- the words c, and after them the cells as they were
unfoldable pub written_over : List ℕ → List ℕ → List ℕ
written_over c cells = c ++ drop (length c) cells

-- the lent cells afterwards; a refusal changes none
unfoldable pub after_copy : List ℕ → Table → List ℕ → List ℕ
after_copy marks t cells = if_accepted (refusal (copy_order marks t (length cells))) (written_over (canonical_copy marks t) cells) cells

-- the same in ordinary mathematics, by the rules of a copy alone: what a call with the cells `old` answers, and what it leaves
pub record Copied (marks : List ℕ) (t : Table) (old : List ℕ) (r : CopyAnswer) (new : List ℕ) : Type 0 where
  pub number_told : r.refusal ≡ refusal (copy_order marks t (length old))
  -- accepted: the first words, as many as are told, are the canonical copy
  pub copied : r.refusal ≡ 0 → IsCopy (kept marks (tips t)) t (take r.words new)
  pub as_many : r.refusal ≡ 0 → length (take r.words new) ≡ r.words
  -- 36 is told exactly if every copy is longer than the slice
  pub too_short : IsTree t → AreMarks marks (tips t) → 2 ≤ kept_of marks (tips t)
      → (r.refusal ≡ 36) ↔ ((c : Table) → IsCopy (kept marks (tips t)) t c → length old < length c)
  -- the cells past the words told stay: all of them on a refusal, which tells no word
  pub stays : (i : ℕ) → r.words ≤ i → word new i ≡ word old i
  pub refused : r.refusal ≢ 0 → r.words ≡ 0
  pub long : length new ≡ length old
