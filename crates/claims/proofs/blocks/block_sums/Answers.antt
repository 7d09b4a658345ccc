-- Each of the four calls fills one slice, and the later two read the earlier ones.
-- Assumes nothing.
use mathlib.Core.Path.{◌≡◌}
use Rattle.std.proofs.Common.{rules}
use Rattle.claims.specs.lemmas.CellLines.{line_sum}
use Rattle.claims.specs.lemmas.Filled.{filled_to}
use Rattle.claims.specs.lemmas.BlockTerms.{rows_lines, columns_lines, sums_totals, totals_totals, summed}
use Rattle.claims.proofs.blocks.block_sums.Goals.{After-fill_lines, After-fill_lines-2}
use Rattle.claims.proofs.blocks.block_sums.Goals as goal

-- the sums of the rows ..
sums_are : (c : After-fill_lines) → c.fill_lines.new.out
    ≡ filled_to (line_sum c.args.cells.now c.args.columns 1 c.args.columns) c.args.rows c.args.sums.now
sums_are c = c.fill_lines.ensures _ (λ i n l k. search rules)

-- .. and of the columns
totals_are : (c : After-fill_lines-2) → c.fill_lines-2.new.out
    ≡ filled_to (line_sum c.args.cells.now 1 c.args.columns c.args.rows) c.args.columns c.args.totals.now
totals_are c = c.fill_lines-2.ensures _ (λ i n l k. search rules)

pub fill_lines-requires-3-clause-callable : goal.fill_lines-requires-3-clause-callable
fill_lines-requires-3-clause-callable c =
    let e = sums_are (goal.at.fill_lines-requires-3-clause-callable c).After-fill_lines in
    let b = c.requires.block in
    let t = sums_totals _ _ _ b _ _ c.requires.room.0 e in
    λ i l. search (rules, (columns_lines _ _ _ b).line i l, t.line i l)

pub fill_lines-requires-4-clause-callable : goal.fill_lines-requires-4-clause-callable
fill_lines-requires-4-clause-callable c =
    let e = totals_are (goal.at.fill_lines-requires-4-clause-callable c).After-fill_lines-2 in
    let b = c.requires.block in
    let t = totals_totals _ _ _ b _ _ c.requires.room.1 e in
    λ i l. search (rules, (rows_lines _ _ _ b).line i l, t.line i l)

pub returns : goal.returns
returns c =
    let f = c.requires.room in
    summed _ _ _ c.requires.block
    _ c.args.sums.now _ c.args.totals.now _ c.args.down.now _ c.args.along.now
    f.0 f.1 f.2 f.3
    (sums_are (goal.at.returns c).After-fill_lines)
    (totals_are (goal.at.returns c).After-fill_lines-2)
    (c.fill_lines-3.ensures _ (λ i n l k. search rules))
    (c.fill_lines-4.ensures _ (λ i n l k. search rules))
