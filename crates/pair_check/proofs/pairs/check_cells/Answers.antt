-- The tables, then the number of cells.
-- Assumes nothing.
use mathlib.Core.Path.{sym}
use Rattle.std.proofs.lemmas.Result.{err_from_is_err_and}
use Rattle.tree_check.specs.Table.{tips}
use Rattle.pair_check.specs.PairOrder.{IsPair}
use Rattle.pair_check.specs.lemmas.PairOutcomes.{Tells, pair_refused, check_says, tables_refused, cells_turned_away, cells_measured, product_fits}
use Rattle.pair_check.proofs.pairs.check_cells.Goals.{In_ok-pair}
use Rattle.pair_check.proofs.pairs.check_cells.Goals as goal

-- ---- what is known there

-- the tables are a pair, with n, all labels, rows and columns as told
tables : (c : In_ok-pair)
    → let s = c.args in
    IsPair s.first.now s.second.now × Tells c.in_ok-pair.pair s.first.now s.second.now (tips s.first.now)
tables c = check_says _ _ _ (sym c.in_ok-pair.ensures.0)

pub returns-in_err-pair : goal.returns-in_err-pair
returns-in_err-pair c =
    let p = err_from_is_err_and c.from_residual.result c.from_residual.ensures.1 in
    let h = pair_refused _ _ _ c.in_err-pair.ensures.0 in
    rw (p.1, p.2) (cells_turned_away _ _ _ _ (tables_refused _ _ _ _ h.0 h.1))

pub measured-requires : goal.measured-requires
measured-requires c = let p = tables (goal.at.measured-requires c).In_ok-pair in product_fits _ _ _ _ p.0 p.1.rows p.1.columns

pub returns : goal.returns
returns c =
    let p = tables (goal.at.returns c).In_ok-pair in
    cells_measured _ _ _ p.0 _ p.1 _ c.measured.ensures
