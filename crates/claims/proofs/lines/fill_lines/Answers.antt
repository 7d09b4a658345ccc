-- What is known where the search needs a hint.
-- Assumes nothing.
use mathlib.Core.Path.{refl}
use Prim.Native.Nat.{◌<◌}
use native.Mathlib.Omega.{arith}
use Rattle.claims.specs.lemmas.Filled.{filled_to, filled_next, filled-whole}
use Rattle.claims.specs.lemmas.Prefix.{prefix_read}
use Rattle.claims.proofs.lines.fill_lines.Given.{Over}
use Rattle.claims.proofs.lines.fill_lines.Goals.{In-loop-cell}
use Rattle.claims.proofs.lines.fill_lines.Goals as goal

-- the cell is that of a line
turn : (g : Over) (c : In-loop-cell g) → c.loop-cell.cell-index < c.args.lines
turn g c = (prefix_read _ c.args.out.now _ c.requires.room.0 c.loop-cell-test.true).0

pub loop-cell-init : goal.loop-cell-init
unfolding filled_to
loop-cell-init g c = (omega arith, λ h p. refl)

pub loop-cell-preserved : goal.loop-cell-preserved
loop-cell-preserved g c =
    let l = c.loop-cell in
    let i = turn g (goal.at.loop-cell-preserved g c).In-loop-cell in
    (omega arith, λ h p. filled_next h l.cell-index _ _ _ (l.invariant.1 h p) (p l.cell-index _ i (rw l.invariant.0 at c.of.ensures)))

pub returns : goal.returns
returns g c =
    let l = c.loop-cell in
    λ h p. filled-whole h l.cell-index _ _ _ c.requires.room.0 c.loop-cell-test.false l.auto.cell-index-end (l.invariant.1 h p)
