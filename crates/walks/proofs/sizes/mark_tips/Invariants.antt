-- The invariant: the cells of the nodes before `v` are marked.
-- Assumes nothing.
use Rattle.walks.specs.lemmas.Positions.{TipsMarked}
use Rattle.walks.proofs.sizes.mark_tips.Given as goal

abbrev pub invariant-loop-v : goal.invariant-loop-v
invariant-loop-v l = TipsMarked l.n l.labels l.v l.cells
