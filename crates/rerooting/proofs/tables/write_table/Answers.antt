-- The table made of its parts: the first two words, then the words of the nodes.
-- Assumes nothing.
use native.Mathlib.Omega.{arith}
use lib.ListN.{length-set}
use Rattle.tree_check.specs.Table.{word}
use Rattle.rerooting.specs.lemmas.Writing.{TableNumbered, lent_rerootable, lent_numbered, two_set, table_written}
use Rattle.rerooting.proofs.tables.write_table.Goals.{After-shared_slice_known-2-1}
use Rattle.rerooting.proofs.tables.write_table.Goals as goal

-- ---- what is known there

numbered : (c : After-shared_slice_known-2-1) → TableNumbered c.args.table.now c.args.m c.args.x c.new_numbers-news.result
numbered c = let p = c.requires in
    lent_numbered _ p.0 _ _ _ p.1 p.2 c.node_of-z.ensures _ c.new_numbers-news.ensures

pub new_numbers-news-requires : goal.new_numbers-news-requires
new_numbers-news-requires c = let p = c.requires in lent_rerootable _ p.0 _ _ _ p.1 p.2 c.node_of-z.ensures

pub bounds-out-1 : goal.bounds-out-1
bounds-out-1 c = rw (length-set c.args.out.now 0 (word c.args.table.now 0)) (omega (arith, c.requires.3))

pub write_nodes-requires : goal.write_nodes-requires
write_nodes-requires c = (numbered (goal.at.write_nodes-requires c).After-shared_slice_known-2-1, omega (arith, c.requires.3, two_set c.args.out.now (word c.args.table.now 0) (word c.args.table.now 1)))

pub returns : goal.returns
returns c = table_written _ _ _ _ (numbered (goal.at.returns c).After-shared_slice_known-2-1) c.args.out.now _ c.requires.3 c.write_nodes.ensures
