-- The parts of the table are those that are lent on.
-- Assumes nothing.
use native.Mathlib.Omega.{arith}
use Rattle.canonical_copy.proofs.lemmas.KeptCopy.{parts_fit, lent_arrays, lent_copied}
use Rattle.canonical_copy.proofs.copies.table_copy.Goals as goal

pub slice_bounds-rooted_copy-end : goal.slice_bounds-rooted_copy-end
slice_bounds-rooted_copy-end c = omega (arith, parts_fit _ _ _ _ c.requires)

pub slice_bounds-rooted_copy-count-2 : goal.slice_bounds-rooted_copy-count-2
slice_bounds-rooted_copy-count-2 c = omega (arith, parts_fit _ _ _ _ c.requires)

pub slice_bounds-rooted_copy-start-2 : goal.slice_bounds-rooted_copy-start-2
slice_bounds-rooted_copy-start-2 c = omega (arith, parts_fit _ _ _ _ c.requires)

pub rooted_copy-requires : goal.rooted_copy-requires
rooted_copy-requires c = lent_arrays _ _ _ _ c.requires

pub returns : goal.returns
returns c = lent_copied _ _ _ _ c.requires _ _ _ c.rooted_copy.ensures
