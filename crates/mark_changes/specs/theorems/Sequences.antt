-- Calls of `change_mark`, one after another, as a caller makes them after a call of `quartet_table`.
-- Assumes nothing.
use Rattle.std.specs.Prelude.{◌≡◌, ◌⊎◌, ◌≢◌, List, [], ◌∷◌, ℕ}
use Rattle.tree_check.specs.Table.{Table}
use Rattle.tree_check.specs.Refusals.{if_accepted}
use Rattle.quartets.specs.declared.tables.QuartetTable.{QuartetTable}
use Rattle.quartets.specs.QuartetAnswer.{quartet_answer}
use Rattle.one_label.specs.declared.answers.FiveAnswer.{FiveAnswer}
use Rattle.one_label.specs.declared.answers.FiveCounts.{FiveCounts}
use Rattle.one_label.specs.declared.answers.Wish.{Wish}
use Rattle.one_label.specs.Changes.{change_answer, marks_after}
use Rattle.one_label.specs.theorems.ChangeLaws.{answer_counts}

-- the five counts of a quartet table
abbrev pub table_counts : QuartetTable → FiveCounts
table_counts r = record { a = r.a; b = r.b; c = r.c; d = r.d; e = r.e }

-- a label, and what is wished for it
pub record LabelWish : Type 0 where
  pub label : ℕ
  pub wish : Wish

-- the marks and the counts that a caller has
pub record CallerState : Type 0 where
  pub marks : List ℕ
  pub counts : FiveCounts

-- what `change_mark` answers to a wish, and the marks that it leaves
abbrev pub answer_to : Table → Table → CallerState → LabelWish → FiveAnswer
answer_to t u s w = change_answer t u s.marks s.counts w.label w.wish

abbrev pub marks_left : Table → Table → CallerState → LabelWish → List ℕ
marks_left t u s w = marks_after t u s.marks s.counts w.label w.wish

-- after a call: the marks that it leaves, and the counts of its answer, or those that stood if it told a number
unfoldable pub after_wish : Table → Table → CallerState → LabelWish → CallerState
after_wish t u s w = record {
  marks = marks_left t u s w;
  counts = if_accepted (answer_to t u s w).refusal (answer_counts (answer_to t u s w)) s.counts;
}

-- .. and after any number of calls
unfoldable pub after_wishes : Table → Table → CallerState → List LabelWish → CallerState
after_wishes t u s [] = s
after_wishes t u s (w ∷ ws) = after_wishes t u (after_wish t u s w) ws

-- what the sequence theorem says of the marks and the counts that a caller has
pub record CountedAfresh (t u : Table) (cells : ℕ) (s : CallerState) : Type 0 where
  -- the quartet table under these marks is accepted, and tells these counts
  pub fresh_number : (quartet_answer t u s.marks cells).refusal ≡ 0
  pub fresh_counts : s.counts ≡ table_counts (quartet_answer t u s.marks cells)
  -- whatever is wished next, the number is 0, 10 or 33, and so never 34
  pub next_number : (w : LabelWish) → ((answer_to t u s w).refusal ≡ 0) ⊎ (((answer_to t u s w).refusal ≡ 10) ⊎ ((answer_to t u s w).refusal ≡ 33))
  pub never_34 : (w : LabelWish) → (answer_to t u s w).refusal ≢ 34
  -- if it is 0, the answer's counts are those of the quartet table under the marks that the call leaves
  pub next_counts : (w : LabelWish) → (answer_to t u s w).refusal ≡ 0
      → answer_counts (answer_to t u s w) ≡ table_counts (quartet_answer t u (marks_left t u s w) cells)
