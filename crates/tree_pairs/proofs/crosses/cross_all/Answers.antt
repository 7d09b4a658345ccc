-- The cells are filled exactly where the pair is accepted.
-- Assumes nothing.
use mathlib.Core.Path.{sym}
use lib.ListN.{length}
use Rattle.std.proofs.lemmas.Result.{err_from_is_err_and}
use Rattle.pair_check.specs.PairOrder.{PairWithCells}
use Rattle.pair_check.specs.lemmas.PairOutcomes.{cells_says, cells_refused}
use Rattle.tree_pairs.proofs.lemmas.LentTables.{all_accepted, all_refused}
use Rattle.tree_pairs.proofs.crosses.cross_all.Goals.{In_ok-pair}
use Rattle.tree_pairs.proofs.crosses.cross_all.Goals as goal

-- the two are a pair with cells enough
pair : (c : In_ok-pair) → PairWithCells c.args.first.now c.args.second.now (length c.args.work.now)
pair c = (cells_says _ _ _ _ (sym c.in_ok-pair.ensures.0)).0

pub fill_all-requires : goal.fill_all-requires
fill_all-requires c = pair (goal.at.fill_all-requires c).In_ok-pair

pub returns-in_err-pair : goal.returns-in_err-pair
returns-in_err-pair c =
    let p = err_from_is_err_and c.from_residual.result c.from_residual.ensures.1 in
    let a = c.in_err-pair.ensures in
    let h = cells_refused _ _ _ _ a.0 in
    rw (p.1, p.2) (a.0, a.1, all_refused _ _ _ _ (sym h.0) h.1)

pub returns : goal.returns
returns c =
    let a = c.in_ok-pair.ensures in
    (a.0, a.1, all_accepted _ _ _ _ (pair (goal.at.returns c).In_ok-pair) c.fill_all.ensures)
