-- Five counts, and the answer of the call for the sets that hold one label (docs/SPECIFICATION.md, 'Sets that hold a label').
-- Assumes nothing.
use Rattle.std.specs.Prelude.{List, [], ◌∷◌, ◌++◌, ℕ, leb}
use Rattle.tree_check.specs.Table.{Table, tips}
use Rattle.tree_check.specs.Refusals.{Rule, refusal, if_accepted}
use Rattle.marks.specs.Marks.{marks_order}
use Rattle.pair_check.specs.PairOrder.{tables_order}
use Rattle.counting.specs.declared.Case.{Case}
use Rattle.counting.specs.declared.Case.TheVariants.{A, B, C, D, E}
use Rattle.counting.specs.Holding.{holding_kept}
use Rattle.one_label.specs.declared.answers.FiveAnswer.{FiveAnswer}
use Rattle.one_label.specs.declared.answers.FiveCounts.{FiveCounts}

-- a count for each case
abbrev pub Counts : Type 0
Counts = Case → ℕ

abbrev pub counts_of : FiveCounts → Counts
counts_of r A = r.a
counts_of r B = r.b
counts_of r C = r.c
counts_of r D = r.d
counts_of r E = r.e

-- an answer that tells counts
abbrev pub five_of : Counts → FiveAnswer
five_of c = record { refusal = 0; a = c A; b = c B; c = c C; d = c D; e = c E }

-- the number of a refusal, with zeros
abbrev pub refused_five : ℕ → FiveAnswer
refused_five number = record { refusal = number; a = 0; b = 0; c = 0; d = 0; e = 0 }

-- the two tables, then 32, then 10: the label is n or more
unfoldable pub holding_order : Table → Table → List ℕ → ℕ → List Rule
holding_order t u marks x = tables_order t u ++ (marks_order marks (tips t) ++ ((10, leb (tips t) x) ∷ []))

unfoldable pub holding_answer : Table → Table → List ℕ → ℕ → FiveAnswer
holding_answer t u marks x =
    let number = refusal (holding_order t u marks x) in
    if_accepted number (five_of (holding_kept t u marks x)) (refused_five number)
