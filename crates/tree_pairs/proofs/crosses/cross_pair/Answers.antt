-- The cells are filled exactly where the pair is accepted.
-- Assumes nothing.
use mathlib.Core.Path.{sym}
use lib.ListN.{length}
use Rattle.std.proofs.lemmas.Result.{err_from_is_err_and}
use Rattle.pair_check.specs.PairOrder.{MarkedPair}
use Rattle.pair_check.specs.lemmas.PairOutcomes.{work_says, work_refused}
use Rattle.tree_pairs.proofs.lemmas.LentTables.{crossings_accepted, crossings_refused}
use Rattle.tree_pairs.proofs.crosses.cross_pair.Goals.{In_ok-pair}
use Rattle.tree_pairs.proofs.crosses.cross_pair.Goals as goal

pub returns-in_err-pair : goal.returns-in_err-pair
returns-in_err-pair c =
    let p = err_from_is_err_and c.from_residual.result c.from_residual.ensures.1 in
    let a = c.in_err-pair.ensures in
    let h = work_refused _ _ _ _ _ a.0 in
    rw (p.1, p.2) (a.0, a.1, crossings_refused _ _ _ _ _ (sym h.0) h.1)

-- the two are a pair with marks, and with cells enough
pair : (c : In_ok-pair) → MarkedPair c.args.first.now c.args.second.now c.args.marks.now (length c.args.work.now)
pair c = (work_says _ _ _ _ _ (sym c.in_ok-pair.ensures.0)).0

pub fill-requires : goal.fill-requires
fill-requires c = (pair (goal.at.fill-requires c).In_ok-pair).with_cells

pub returns : goal.returns
returns c =
    let a = c.in_ok-pair.ensures in
    (a.0, a.1, crossings_accepted _ _ _ _ _ (pair (goal.at.returns c).In_ok-pair) c.fill.ensures)
