-- Three rows, or three columns, are lines; the other blocks are large.
-- Assumes nothing.
use mathlib.Core.Path.{◌∙◌}
use Rattle.claims.specs.lemmas.BlockTerms.{three_rows_lem, three_rows-S2, three_rows-S3}
use Rattle.claims.specs.lemmas.BlockTerms.{three_columns, three_columns_S2, three_columns_S3}
use Rattle.claims.proofs.blocks.block_terms.Goals as goal

-- ---- the needs

pub three_lines-requires : goal.three_lines-requires
three_lines-requires c = three_rows_lem _ _ _ c.requires.block c.if-rows-eq3.true

pub returns-then-rows-eq3 : goal.returns-then-rows-eq3
returns-then-rows-eq3 c =
    let b = c.requires.block in
    let three = c.if-rows-eq3.true in
    (c.three_lines.ensures.0 ∙ three_rows-S2 _ _ _ b three, c.three_lines.ensures.1 ∙ three_rows-S3 _ _ _ b three)

pub three_lines-requires-then-columns-eq3 : goal.three_lines-requires-then-columns-eq3
three_lines-requires-then-columns-eq3 c = three_columns _ _ _ c.requires.block c.if-columns-eq3.true

pub returns-then-columns-eq3 : goal.returns-then-columns-eq3
returns-then-columns-eq3 c =
    let b = c.requires.block in
    let three = c.if-columns-eq3.true in (
      c.three_lines-then-columns-eq3.ensures.0 ∙ three_columns_S2 _ _ _ b three,
      c.three_lines-then-columns-eq3.ensures.1 ∙ three_columns_S3 _ _ _ b three,
    )

pub returns : goal.returns
returns c = c.large_block.ensures
