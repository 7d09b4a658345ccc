-- The counts of a call that strikes or restores, as code forms them, and its outcomes.
-- Assumes nothing.
use Rattle.std.specs.Prelude.{◌≡◌, Bool, true, false, List, ℕ, ◌+◌, ◌≤◌, ◌<◌}
use Rattle.tree_check.specs.Table.{Table}
use Rattle.counting.specs.declared.Case.{Case}
use Rattle.one_label.specs.declared.answers.FiveAnswer.{FiveAnswer}
use Rattle.one_label.specs.declared.answers.FiveCounts.{FiveCounts}
use Rattle.one_label.specs.declared.answers.Wish.{Wish}
use Rattle.one_label.specs.Changes.{change_answer, marks_after}
use Rattle.one_label.specs.FiveAnswers.{counts_of}

pub record CountFits (restore : Bool) (count held : ℕ) : Type 0 where
  pub more_fits : restore ≡ true → count + held < 18446744073709551616
  pub less_fits : restore ≡ false → held ≤ count

pub record AllFit (restore : Bool) (c held : FiveCounts) : Type 0 where
  pub fits : (k : Case) → CountFits restore (counts_of c k) (counts_of held k)

-- an answer and the marks after a call
abbrev pub Outcome : Table → Table → List ℕ → FiveCounts → ℕ → Wish → FiveAnswer → List ℕ → Type 0
Outcome t u marks counts x wish answer new = (answer ≡ change_answer t u marks counts x wish) × (new ≡ marks_after t u marks counts x wish)
