-- The marks of labels: which are kept, and the rule that the marks of a call are held to (docs/SPECIFICATION.md, 'Marks').
-- Assumes nothing.
use Rattle.std.specs.Prelude.{◌≡◌, Bool, not, List, [], ◌∷◌, ℕ, Result, Ok, Err, ◌≤◌, ◌<◌, eqb, ltb, length}
use Rattle.sums.specs.Counts.{count}
use Rattle.sums.specs.Tests.{some}
use Rattle.tree_check.specs.Table.{word}
use Rattle.tree_check.specs.Refusals.{Rule, refusal}
use Rattle.tree_check.specs.declared.refusals.Refusal.{Refusal}
use Rattle.tree_check.specs.Numbers.{answer_by}

-- the label x is kept: its mark is 1
unfoldable pub is_kept : List ℕ → ℕ → Bool
is_kept marks x = eqb (word marks x) 1

-- how many of n labels are kept
abbrev pub kept_of : List ℕ → ℕ → ℕ
kept_of marks n = count n (is_kept marks)

-- 32: there are not exactly n marks, or a mark is above 1
unfoldable pub marks_order : List ℕ → ℕ → List Rule
marks_order marks n = (32, not (eqb (length marks) n)) ∷ (32, some n (λ x. ltb 1 (word marks x))) ∷ []

-- n marks, each 0 or 1
pub record AreMarks (marks : List ℕ) (n : ℕ) : Type 0 where
  pub long : length marks ≡ n
  pub low : (x : ℕ) → x < n → word marks x ≤ 1

-- how many labels are kept, or refused marks
unfoldable pub checked_marks : List ℕ → ℕ → Result ℕ Refusal
checked_marks marks n = answer_by (refusal (marks_order marks n)) (kept_of marks n)
