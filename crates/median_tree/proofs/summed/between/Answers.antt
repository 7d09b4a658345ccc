-- The distance of the quartet table with every label kept.
-- Assumes nothing.
use Rattle.marks.proofs.theorems.Ones.{ones}
use Rattle.median_tree.proofs.lemmas.Distances.{marks_fit, marks_lent, told_distance}
use Rattle.median_tree.proofs.summed.between.Goals as goal

pub slice_bounds-marks-end : goal.slice_bounds-marks-end
slice_bounds-marks-end c = marks_fit _ _ c.requires.0 _ c.requires.1

pub slice_bounds-quartet_table-end : goal.slice_bounds-quartet_table-end
unfolding ones
slice_bounds-quartet_table-end c = marks_lent _ _ c.requires.0 _ c.requires.1

pub returns : goal.returns
unfolding ones
returns c =
    told_distance _ _ c.requires.0 _ c.requires.1 _ c.requires.2 _ c.quartet_table-table.ensures.0 _ c.quartet_table-table.ensures.2
