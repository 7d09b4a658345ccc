-- The call that strikes or restores one label: its order, its answer, and the marks afterwards (docs/SPECIFICATION.md, 'One label
-- struck or restored').
-- Assumes nothing.
use Rattle.std.specs.Prelude.{Bool, true, false, not, ◌&&◌, ◌||◌, List, [], ◌∷◌, ◌++◌, ℕ, ◌+◌, ◌-◌, eqb, ltb, leb, set}
use Rattle.std.specs.Bool.{beq}
use Rattle.sums.specs.Bits.{bit}
use Rattle.sums.specs.Fours.{fours}
use Rattle.tree_check.specs.Table.{Table, tips}
use Rattle.tree_check.specs.Refusals.{Rule, refusal, if_accepted}
use Rattle.marks.specs.Marks.{is_kept, kept_of, marks_order}
use Rattle.pair_check.specs.PairOrder.{tables_order}
use Rattle.counting.specs.declared.Case.TheVariants.{A, B, C, D, E}
use Rattle.counting.specs.Holding.{holding_kept}
use Rattle.one_label.specs.declared.answers.FiveAnswer.{FiveAnswer}
use Rattle.one_label.specs.declared.answers.FiveCounts.{FiveCounts}
use Rattle.one_label.specs.declared.answers.Wish.{Wish}
use Rattle.one_label.specs.declared.answers.Wish.TheVariants.{Strike, Restore}
use Rattle.one_label.specs.FiveAnswers.{Counts, counts_of, five_of, refused_five}

abbrev pub restores : Wish → Bool
restores Strike = false
restores Restore = true

unfoldable pub total_of : Counts → ℕ
total_of c = c A + c B + c C + c D + c E

-- some case holds less than is taken from it
unfoldable pub overdrawn : Counts → Counts → Bool
overdrawn c taken =
    ltb (c A) (taken A) || (ltb (c B) (taken B) || (ltb (c C) (taken C) || (ltb (c D) (taken D) || ltb (c E) (taken E))))

-- 10: the label is n or more; 33: it already is as wished; 34: the counts do not add up to the sets of four kept labels, or a
-- strike would take more from a case than it holds
unfoldable pub wish_order : Table → Table → List ℕ → FiveCounts → ℕ → Wish → List Rule
wish_order t u marks counts x wish =
    (10, leb (tips t) x)
    ∷ (33, beq (is_kept marks x) (restores wish))
    ∷ (34, not (eqb (total_of (counts_of counts)) (fours (kept_of marks (tips t)))))
    ∷ (34, not (restores wish) && overdrawn (counts_of counts) (holding_kept t u marks x))
    ∷ []

-- the two tables, then 32, then the wish
unfoldable pub change_order : Table → Table → List ℕ → FiveCounts → ℕ → Wish → List Rule
change_order t u marks counts x wish = tables_order t u ++ (marks_order marks (tips t) ++ wish_order t u marks counts x wish)

-- a count with the sets that hold the label, or without them
unfoldable pub new_count : Bool → ℕ → ℕ → ℕ
new_count restore count held = elim restore [ true ↦ count + held | false ↦ count - held ]

abbrev pub new_counts : Table → Table → List ℕ → FiveCounts → ℕ → Wish → Counts
new_counts t u marks counts x wish k = new_count (restores wish) (counts_of counts k) (holding_kept t u marks x k)

unfoldable pub change_answer : Table → Table → List ℕ → FiveCounts → ℕ → Wish → FiveAnswer
change_answer t u marks counts x wish =
    let number = refusal (change_order t u marks counts x wish) in
    if_accepted number (five_of (new_counts t u marks counts x wish)) (refused_five number)

-- the mark of that label alone: 1 where it is restored, 0 where it is struck; a refusal changes no mark
unfoldable pub marks_after : Table → Table → List ℕ → FiveCounts → ℕ → Wish → List ℕ
marks_after t u marks counts x wish =
    if_accepted (refusal (change_order t u marks counts x wish)) (set marks x (bit (restores wish))) marks
