-- Nine cells, or the block filled and summed.
-- Assumes nothing.
use mathlib.Core.Path.{sym, ◌∙◌, ap₂}
use Prim.Native.Nat.{ℕ}
use native.Mathlib.Omega.{arith}
use lib.ListN.{length}
use Rattle.node_pairs.specs.theorems.Cells.{pair_s2, pair_s3}
use Rattle.tree_check.specs.Table.{word}
use Rattle.claims.specs.lemmas.CodeCells.{code_cell}
use Rattle.claims.specs.lemmas.PairLoops.{NodePair, few_S2, few_S3, filled_block, filled-S2, filled-S3}
use Rattle.claims.proofs.node_pair.node_pair.Goals.{Else-columns-lt3}
use Rattle.claims.proofs.node_pair.node_pair.Goals as goal

-- ---- what is known there

-- two nodes with three codes or more into the second, and room for their block
pair : (c : Else-columns-lt3)
    → (let a = c.args in
    NodePair a.work.now a.width a.n a.rows.now a.columns.now (length a.block.now))
pair c = c.requires.pair_room.pair (omega (arith, c.if-columns-lt3.false))

-- ---- the needs

pub returns-then-columns-lt3 : goal.returns-then-columns-lt3
returns-then-columns-lt3 c = (sym (few_S2 _ _ _ c.if-columns-lt3.true), sym (few_S3 _ _ _ c.if-columns-lt3.true))

pub nine_cells-requires : goal.nine_cells-requires
nine_cells-requires c = record { node_edges = (pair (goal.at.nine_cells-requires c).Else-columns-lt3).edges; three = (c.if-rows-eq3.true, c.if-columns-eq3.true) }

pub returns-then-columns-eq3 : goal.returns-then-columns-eq3
returns-then-columns-eq3 c =
    let three = c.if-rows-eq3.true in
    let three' = c.if-columns-eq3.true in
    let cells = code_cell c.args.work.now c.args.width c.args.n (word c.args.rows.now)
    (word c.args.columns.now) in (
      c.nine_cells.ensures.0 ∙ ap₂ (λ (d d' : ℕ). pair_s2 d d' cells) (sym three) (sym three'),
      c.nine_cells.ensures.1 ∙ ap₂ (λ (d d' : ℕ). pair_s3 d d' cells) (sym three) (sym three'),
    )

pub fill_block-requires : goal.fill_block-requires
fill_block-requires c =
    let p = pair (goal.at.fill_block-requires c).Else-columns-lt3 in
    record { node_edges = p.edges; block_room = p.room }

pub block_terms-requires : goal.block_terms-requires
block_terms-requires c =
    let p = pair (goal.at.block_terms-requires c).Else-columns-lt3 in record { block = filled_block _ _ _ _ _ _ p _ c.fill_block.ensures (omega (arith, c.fill_block.auto.block)); scratch = c.requires.scratch }

pub returns : goal.returns
returns c =
    let p = pair (goal.at.returns c).Else-columns-lt3 in (
      c.block_terms.ensures.0 ∙ filled-S2 _ _ _ _ _ _ p _ c.fill_block.ensures,
      c.block_terms.ensures.1 ∙ filled-S3 _ _ _ _ _ _ p _ c.fill_block.ensures,
    )
