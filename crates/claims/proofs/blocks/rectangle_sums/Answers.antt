-- The rows, or the columns, are lines; what their dot products come to is said by a law for each.
-- Assumes nothing.
use Rattle.claims.specs.lemmas.BlockTerms.{rows_few_lines, columns_few_lines, rectangles_rows, rectangles_columns}
use Rattle.claims.proofs.blocks.rectangle_sums.Goals as goal

pub all_dots-requires : goal.all_dots-requires
all_dots-requires c =
    let p = c.requires in
    (rows_few_lines _ _ _ p.0, p.1)

pub returns-then-rows-columns : goal.returns-then-rows-columns
returns-then-rows-columns c =
    let e = c.all_dots.ensures in
    rectangles_rows _ _ _ c.requires.0 _ _ e.2 e.3 e.0 e.1

pub all_dots-requires-2 : goal.all_dots-requires-2
all_dots-requires-2 c =
    let p = c.requires in
    (columns_few_lines _ _ _ p.0, p.2)

pub returns : goal.returns
returns c =
    let e = c.all_dots-2.ensures in
    rectangles_columns _ _ _ c.requires.0 _ _ e.2 e.3 e.0 e.1
