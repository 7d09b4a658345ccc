-- Each return is one of the three cases.
-- Assumes nothing.
use mathlib.Core.Path.{sym, ◌∙◌, ap}
use Rattle.sums.specs.Swaps.{swapped}
use Rattle.sums.specs.theorems.SwapLaws.{swapped-first, swapped_second, swapped_other}
use Rattle.rerooting.proofs.tables.exchange.Goals as goal

pub returns-then-y-eq0 : goal.returns-then-y-eq0
returns-then-y-eq0 c = sym (ap (swapped 0 _) c.if-y-eq0.true ∙ swapped-first 0 _)

pub returns-then-y-x : goal.returns-then-y-x
returns-then-y-x c = sym (ap (swapped 0 _) c.if-y-x.true ∙ swapped_second 0 _)

pub returns : goal.returns
returns c = sym (swapped_other 0 _ _ c.if-y-eq0.false c.if-y-x.false)
