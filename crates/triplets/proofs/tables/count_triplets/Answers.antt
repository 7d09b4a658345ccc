-- The sums over edges, the sums over pairs of edges, and the table of them.
-- Assumes nothing.
use mathlib.Core.Path.{◌∙◌}
use native.Mathlib.Omega.{arith}
use Rattle.triplets.proofs.lemmas.TripletsCounted.{sums_fit, counted_is}
use Rattle.triplets.proofs.tables.count_triplets.Goals as goal

pub overflow_sub-second_parents : goal.overflow_sub-second_parents
overflow_sub-second_parents c = omega (arith, c.requires.cells.second.some)

pub edge_terms-first-requires : goal.edge_terms-first-requires
edge_terms-first-requires c = c.requires.first_sizes

pub edge_terms-second-requires : goal.edge_terms-second-requires
edge_terms-second-requires c = c.requires.second_sizes

pub pair_sums-pairs-requires : goal.pair_sums-pairs-requires
pair_sums-pairs-requires c = c.requires.cells

pub form_table-requires : goal.form_table-requires
form_table-requires c =
    let e = c.pair_sums-pairs.ensures in
    sums_fit _ _ _ _ _ _ _ _ c.edge_terms-first.ensures c.edge_terms-second.ensures e.0 e.1 c.requires

pub returns : goal.returns
returns c =
    c.form_table.ensures
    ∙ counted_is _ _ _ _ _ _ _ _ c.edge_terms-first.ensures c.edge_terms-second.ensures
    c.pair_sums-pairs.ensures.0 c.pair_sums-pairs.ensures.1
