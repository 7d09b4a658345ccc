-- The call that strikes or restores a label: what it accepts, what it changes, and that a fresh count stays fresh.
-- Assumes nothing.
use Rattle.std.specs.Prelude.{◌≡◌, ◌≢◌, List}
use Rattle.std.proofs.Math.Bool.{false}
use Prim.Native.Nat.{ℕ, ◌<◌}
use Rattle.std.proofs.Math.Dec.{T}
use Rattle.sums.specs.Fours.{fours}
use Rattle.tree_check.specs.Table.{Table, tips}
use Rattle.marks.specs.Marks.{is_kept, kept_of, AreMarks}
use Rattle.pair_check.specs.PairOrder.{IsPair}
use Rattle.counting.specs.Kept.{kept}
use Rattle.counting.specs.declared.Case.{Case}
use Rattle.counting.specs.Cases.{quartets}
use Rattle.counting.specs.Holding.{holding_kept}
use Rattle.one_label.specs.declared.answers.FiveAnswer.{FiveAnswer}
use Rattle.one_label.specs.declared.answers.FiveCounts.{FiveCounts}
use Rattle.one_label.specs.declared.answers.Wish.{Wish}
use Rattle.one_label.specs.FiveAnswers.{Counts, counts_of}
use Rattle.one_label.specs.Changes.{restores, total_of, overdrawn}

pub record Granted (t u : Table) (marks : List ℕ) (counts : FiveCounts) (x : ℕ) (wish : Wish) : Type 0 where
  pub pair : IsPair t u
  pub marked : AreMarks marks (tips t)
  pub label_lt : x < tips t
  pub other : is_kept marks x ≢ restores wish
  pub adds_up : total_of (counts_of counts) ≡ fours (kept_of marks (tips t))
  pub held_enough : restores wish ≡ false → T (overdrawn (counts_of counts) (holding_kept t u marks x)) → ⊥

abbrev pub answer_counts : FiveAnswer → FiveCounts
answer_counts r = record { a = r.a; b = r.b; c = r.c; d = r.d; e = r.e }

-- the counts are those of a fresh count under the marks
pub record Fresh (t u : Table) (marks : List ℕ) (counts : Counts) : Type 0 where
  pub marked : AreMarks marks (tips t)
  pub counted : (k : Case) → counts k ≡ quartets (kept marks (tips t)) t u k
