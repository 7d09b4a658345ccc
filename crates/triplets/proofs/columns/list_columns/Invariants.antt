-- The invariant: of the columns before `i + 1`, those with two labels or more are listed.
-- Assumes nothing.
use Rattle.triplets.specs.lemmas.ListedColumns.{ListedTo}
use Rattle.triplets.proofs.columns.list_columns.Given as goal

abbrev pub invariant-loop-i : goal.invariant-loop-i
invariant-loop-i l = ListedTo l.work l.parents l.i l.count l.columns l.above
