-- What is known where the search needs a hint.
-- Assumes nothing.
use Prim.Native.Nat.{◌+◌, ◌<◌}
use mathlib.Core.Path.{◌≡◌, refl}
use native.Mathlib.Omega.{arith}
use lib.ListN.{length, length-set}
use Rattle.claims.specs.lemmas.NodeBlock.{written-first, written_next}
use Rattle.claims.proofs.fills.fill_row.Given.{Over}
use Rattle.claims.proofs.fills.fill_row.Goals.{In-loop-j}
use Rattle.claims.proofs.fills.fill_row.Goals as goal

-- cell `j` of the row lies in the slice
write-room : (g : Over) (c : In-loop-j g) → c.args.at + c.loop-j.j < length c.loop-j.cells
write-room g c =
    omega (
      arith,
      c.loop-j.auto.cells,
      length-set c.args.cells.now c.args.at c.first.result,
      c.requires.room.1,
      c.loop-j-test.true,
    )

pub loop-j-preserved : goal.loop-j-preserved
loop-j-preserved g c =
    let i = (goal.at.loop-j-preserved g c).In-loop-j in
    λ f old p h. written_next old _ _ _ _ _ f (c.loop-j.invariant f old p h) refl (write-room g i)
    (p _ _ c.loop-j.auto.j c.loop-j-test.true c.later.ensures)

pub returns : goal.returns
returns g c =
    let e : c.loop-j.j ≡ length c.args.edges.now = omega (arith, c.requires.room) in
    λ f p q. rw e at (c.loop-j.invariant f c.args.cells.now q (written-first _ _ _ f (omega (arith, c.requires.room))
    (p _ c.first.ensures)))
