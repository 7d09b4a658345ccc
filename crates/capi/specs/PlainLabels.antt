-- The calls for one label as C makes them: five counts as five numbers, and a mark for a wish.
-- Assumes nothing.
use Rattle.std.specs.Prelude.{List, ◌∷◌, ◌++◌, ℕ, zero, suc, ltb, set}
use Rattle.tree_check.specs.Table.{Table, tips}
use Rattle.tree_check.specs.Refusals.{Rule, refusal, if_accepted}
use Rattle.marks.specs.Marks.{marks_order}
use Rattle.pair_check.specs.PairOrder.{tables_order}
use Rattle.one_label.specs.declared.answers.FiveAnswer.{FiveAnswer}
use Rattle.one_label.specs.declared.answers.FiveCounts.{FiveCounts}
use Rattle.one_label.specs.declared.answers.Wish.{Wish}
use Rattle.one_label.specs.declared.answers.Wish.TheVariants.{Strike, Restore}
use Rattle.one_label.specs.FiveAnswers.{five_of, refused_five}
use Rattle.one_label.specs.Changes.{wish_order, new_counts}
use Rattle.capi.specs.declared.answers.FiveCountsAnswer.{FiveCountsAnswer}

abbrev pub plain_five : FiveAnswer → FiveCountsAnswer
plain_five r = record { refusal = r.refusal; a = r.a; b = r.b; c = r.c; d = r.d; e = r.e }

abbrev pub five : ℕ → ℕ → ℕ → ℕ → ℕ → FiveCounts
five a b c d e = record { a = a; b = b; c = c; d = d; e = e }

-- the mark 0 strikes, 1 restores
unfoldable pub wish_of : ℕ → Wish
wish_of zero = Strike
wish_of (suc k) = Restore

-- the two tables, then 32, of the mark and of the marks, then the wish
unfoldable pub mark_order : Table → Table → List ℕ → FiveCounts → ℕ → ℕ → List Rule
mark_order t u marks counts x mark =
    tables_order t u ++ ((32, ltb 1 mark) ∷ (marks_order marks (tips t) ++ wish_order t u marks counts x (wish_of mark)))

unfoldable pub mark_answer : Table → Table → List ℕ → FiveCounts → ℕ → ℕ → FiveAnswer
mark_answer t u marks counts x mark =
    let number = refusal (mark_order t u marks counts x mark) in
    if_accepted number (five_of (new_counts t u marks counts x (wish_of mark))) (refused_five number)

-- the mark of that label alone; a refusal changes no mark
unfoldable pub marks_after_mark : Table → Table → List ℕ → FiveCounts → ℕ → ℕ → List ℕ
marks_after_mark t u marks counts x mark = if_accepted (refusal (mark_order t u marks counts x mark)) (set marks x mark) marks
