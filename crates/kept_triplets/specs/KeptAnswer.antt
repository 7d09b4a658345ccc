-- The triplet table over kept labels, with no work cells (docs/SPECIFICATION.md, 'Triplets over kept labels').
-- Assumes nothing.
use Rattle.std.specs.Prelude.{List, ◌++◌, ℕ, ◌+◌}
use Rattle.tree_check.specs.Table.{Table, tips}
use Rattle.tree_check.specs.Refusals.{Rule, refusal, if_accepted}
use Rattle.marks.specs.Marks.{marks_order}
use Rattle.pair_check.specs.PairOrder.{tables_order}
use Rattle.counting.specs.declared.Case.TheVariants.{A, B, C, D, E}
use Rattle.triplets.specs.declared.tables.TripletTable.{TripletTable}
use Rattle.triplets.specs.TripletAnswer.{refused_triplets}
use Rattle.counting.specs.Kept.{others}
use Rattle.counting.specs.Triplets.{triplets_over}

-- the two tables, then 32
unfoldable pub kept_order : Table → Table → List ℕ → List Rule
kept_order t u marks = tables_order t u ++ marks_order marks (tips t)

-- how many sets of three kept labels other than 0 the two trees put in each case, and the distance B + C + D
abbrev pub kept_counts : Table → Table → List ℕ → TripletTable
kept_counts t u marks = let l = others marks 0 (tips t) in record {
  refusal = 0;
  a = triplets_over l t u A;
  b = triplets_over l t u B;
  c = triplets_over l t u C;
  d = triplets_over l t u D;
  e = triplets_over l t u E;
  distance = triplets_over l t u B + triplets_over l t u C + triplets_over l t u D;
}

unfoldable pub kept_answer : Table → Table → List ℕ → TripletTable
kept_answer t u marks =
    let number = refusal (kept_order t u marks) in if_accepted number (kept_counts t u marks) (refused_triplets number)
