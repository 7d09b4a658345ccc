-- Each tree's edges listed from its totals, then the rows and the edges.
-- Assumes nothing.
use mathlib.Core.Path.{◌∙◌}
use Prim.Native.Nat.{ℕ}
use native.Mathlib.Omega.{arith}
use lib.ListN.{length-replicate}
use Rattle.table_words.specs.Sizes.{node_room}
use Rattle.tree_check.specs.Table.{tips}
use Rattle.kept_triplets.specs.lemmas.AllRows.{others_few}
use Rattle.kept_triplets.specs.lemmas.Prepare.{sizes_fit, first-nodes, first-listed, rows_listed, first_edges, second_nodes, second_listed, others_are, prepared, second_edges, sums_are}
use Rattle.kept_triplets.proofs.totals.sums_of.Goals as goal

-- ---- the needs

pub list_edges-row_count-requires : goal.list_edges-row_count-requires
list_edges-row_count-requires c = (first-nodes _ _ _ _ _ _ _ _ _ _ _ _ c.requires _ c.prefix.ensures, length-replicate {A = ℕ} node_room 0)

pub list_edges-column_count-requires : goal.list_edges-column_count-requires
list_edges-column_count-requires c = (second_nodes _ _ _ _ _ _ _ _ _ _ _ _ c.requires _ c.prefix-2.ensures, length-replicate {A = ℕ} node_room 0)

pub all_rows-pairs-requires : goal.all_rows-pairs-requires
all_rows-pairs-requires c = (
  prepared _ _ _ _ _ _ _ _ _ _ _ _ c.requires _ c.prefix-2.ensures _ _ c.list_edges-column_count.ensures,
  rows_listed _ _ _ _ _ _ _ _ _ _ _ _ c.requires _ c.prefix.ensures _ _ c.list_edges-row_count.ensures,
)

pub edge_terms-requires : goal.edge_terms-requires
edge_terms-requires c = first-listed _ _ _ _ _ _ _ _ _ _ _ _ c.requires _ c.prefix.ensures _ _ c.list_edges-row_count.ensures

pub edge_terms-requires-2 : goal.edge_terms-requires-2
edge_terms-requires-2 c = second_listed _ _ _ _ _ _ _ _ _ _ _ _ c.requires _ c.prefix-2.ensures _ _ c.list_edges-column_count.ensures

pub overflow_sub-result : goal.overflow_sub-result
overflow_sub-result c = omega (arith, sizes_fit _ _ _ _ _ _ _ _ _ _ _ _ c.requires)

pub offset_bounds-second_all-n : goal.offset_bounds-second_all-n
offset_bounds-second_all-n c = omega (arith, sizes_fit _ _ _ _ _ _ _ _ _ _ _ _ c.requires)

pub bounds-second_all-n : goal.bounds-second_all-n
bounds-second_all-n c = omega (arith, sizes_fit _ _ _ _ _ _ _ _ _ _ _ _ c.requires)

pub overflow_cast-result : goal.overflow_cast-result
overflow_cast-result c =
    let h = c.requires in
    let r = h.tree.tips_range in
    omega (
      arith,
      others_are _ _ _ _ _ _ _ _ _ _ _ _ h _ c.prefix-2.ensures,
      others_few c.args.marks.now (tips c.args.first.now) (omega arith),
    )

pub returns : goal.returns
returns c =
    let h = c.requires in
    sums_are _ _ _ _ _ _ _ _ _ _ _ _ h _ _ _ _ _
    (c.edge_terms.ensures ∙ first_edges _ _ _ _ _ _ _ _ _ _ _ _ h _ c.prefix.ensures _ _ c.list_edges-row_count.ensures)
    (c.edge_terms-2.ensures ∙ second_edges _ _ _ _ _ _ _ _ _ _ _ _ h _ c.prefix-2.ensures _ _ c.list_edges-column_count.ensures)
    c.all_rows-pairs.ensures.0 c.all_rows-pairs.ensures.1
    (others_are _ _ _ _ _ _ _ _ _ _ _ _ h _ c.prefix-2.ensures)
