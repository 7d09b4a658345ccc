-- What is known where the search needs a hint.
-- Assumes nothing.
use Prim.Native.Nat.{◌-◌, ◌≤◌, ◌<◌}
use native.Mathlib.Omega.{arith}
use lib.ListN.{length}
use Rattle.tree_pairs.proofs.lemmas.RowsUp.{rows_none, rows_all, rows_parent, rows_fit, rows_next}
use Rattle.tree_pairs.proofs.rows.add_rows.Goals.{After-from-p}
use Rattle.tree_pairs.proofs.rows.add_rows.Goals as goal

-- ---- what is known there

-- the parent read has a row, and an earlier one
parent : (c : After-from-p)
    → (1 ≤ c.from-p.result) × (c.from-p.result < c.loop-i.i - 1)
parent c =
    omega (
      arith,
      c.from-p.ensures,
      rows_parent _ _ _ _ _ c.requires c.loop-i.invariant (omega arith),
    )

-- both rows are listed
listed : (c : After-from-p)
    → (c.from-p.result < length c.args.parents.now)
    × (1 ≤ c.loop-i.i - 1)
    × (c.loop-i.i - 1 < length c.args.parents.now)
listed c = let p = parent c in omega (arith, c.loop-i.invariant.to)

-- ---- the needs

pub loop-i-init : goal.loop-i-init
loop-i-init c = rows_none _ _ _ c.requires

pub add_row-requires : goal.add_row-requires
add_row-requires c =
    let p = parent (goal.at.add_row-requires c).After-from-p in
    let b = listed (goal.at.add_row-requires c).After-from-p in
    let r = c.row_starts.ensures in
    rw (r.at _ p.0 b.0, r.at _ b.1 b.2) (rows_fit _ _ _ _ _ c.requires c.loop-i.invariant (omega arith)
    c.from-p.result c.from-p.ensures)

pub loop-i-preserved : goal.loop-i-preserved
loop-i-preserved c =
    let p = parent (goal.at.loop-i-preserved c).After-from-p in
    let b = listed (goal.at.loop-i-preserved c).After-from-p in
    let r = c.row_starts.ensures in
    rows_next _ _ _ _ _ c.requires c.loop-i.invariant (omega arith)
    c.from-p.result c.from-p.ensures _
    (rw (r.at _ p.0 b.0, r.at _ b.1 b.2) at c.add_row.ensures)

pub returns : goal.returns
returns c = rows_all _ _ _ _ _ c.requires c.loop-i.invariant c.loop-i-test.false
