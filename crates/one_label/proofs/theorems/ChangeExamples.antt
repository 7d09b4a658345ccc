-- The definitions computed on the reference pair P and Q, whose figures over all labels are 3 0 2 0 0, with label 0 struck
-- 0 0 1 0 0, and with label 4 struck 1 0 0 0 0 (counting, ReferencePairs).
-- Assumes nothing.
use Rattle.std.specs.Prelude.{◌≡◌, refl, List, [], ◌∷◌, ℕ}
use Rattle.sums.specs.Sum.{sum}
use Rattle.sums.specs.Bits.{bit}
use Rattle.sums.specs.Tests.{some}
use Rattle.sums.specs.SetsOfFour.{sets2, sets3}
use Rattle.shapes.specs.Ancestors.{anc_in, anc}
use Rattle.shapes.specs.Quartets.{parts, parted}
use Rattle.tree_check.specs.Table.{tips, nodes, parents, labels, parent, label, node_below, node_of, beyond}
use Rattle.trees.specs.Topology.{butterfly, partner, named, topology}
use Rattle.walks.specs.theorems.WalkExamples.{P, Q}
use Rattle.marks.specs.Marks.{is_kept}
use Rattle.counting.specs.Kept.{kept_at, is_other}
use Rattle.counting.specs.declared.Case.TheVariants.{A, B, C, D, E}
use Rattle.counting.specs.Cases.{case_of, is_case}
use Rattle.counting.specs.Holding.{holding, holding_kept}
use Rattle.one_label.specs.declared.answers.FiveCounts.{FiveCounts}
use Rattle.one_label.specs.declared.answers.Wish.TheVariants.{Strike, Restore}
use Rattle.one_label.specs.FiveAnswers.{Counts}
use Rattle.one_label.specs.Changes.{new_count, new_counts}

abbrev told : Counts → List ℕ
told c = c A ∷ c B ∷ c C ∷ c D ∷ c E ∷ []

abbrev five : ℕ → ℕ → ℕ → ℕ → ℕ → FiveCounts
five a b c d e = record { a = a; b = b; c = c; d = d; e = e }

abbrev all_kept : List ℕ
all_kept = 1 ∷ 1 ∷ 1 ∷ 1 ∷ 1 ∷ []

-- the sets that hold label 0 and label 4; the same for label 0 once it is struck
pub held_pairs : told (holding_kept P Q all_kept 0) ∷ told (holding_kept P Q all_kept 4) ∷ told (holding_kept P Q (0 ∷ 1 ∷ 1 ∷ 1 ∷ 1 ∷ []) 0) ∷ []
    ≡ (3 ∷ 0 ∷ 1 ∷ 0 ∷ 0 ∷ []) ∷ (2 ∷ 0 ∷ 2 ∷ 0 ∷ 0 ∷ []) ∷ (3 ∷ 0 ∷ 1 ∷ 0 ∷ 0 ∷ []) ∷ []
unfolding
    holding is_other is_kept kept_at is_case case_of topology named partner butterfly parts parted sets2 sets3 sum bit some
    anc_in anc tips nodes parents labels parent label node_below node_of beyond
held_pairs = refl

-- label 0 struck, label 0 restored, label 4 struck
pub changed_pairs :
    told (new_counts P Q all_kept (five 3 0 2 0 0) 0 Strike)
    ∷ told (new_counts P Q (0 ∷ 1 ∷ 1 ∷ 1 ∷ 1 ∷ []) (five 0 0 1 0 0) 0 Restore)
    ∷ told (new_counts P Q all_kept (five 3 0 2 0 0) 4 Strike) ∷ []
    ≡ (0 ∷ 0 ∷ 1 ∷ 0 ∷ 0 ∷ []) ∷ (3 ∷ 0 ∷ 2 ∷ 0 ∷ 0 ∷ []) ∷ (1 ∷ 0 ∷ 0 ∷ 0 ∷ 0 ∷ []) ∷ []
unfolding
    new_count holding is_other is_kept kept_at is_case case_of topology named partner butterfly parts parted sets2 sets3 sum bit some
    anc_in anc tips nodes parents labels parent label node_below node_of beyond
changed_pairs = refl
