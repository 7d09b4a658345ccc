-- Off the path, at its begin, and along it.
-- Assumes nothing.
use mathlib.Core.Path.{sym, ◌∙◌}
use native.Mathlib.Omega.{arith}
use Rattle.rerooting.specs.lemmas.Writing.{on_the_path, off_the_path}
use Rattle.rerooting.proofs.tables.parent_for.Goals as goal

pub returns-then-last-i : goal.returns-then-last-i
returns-then-last-i c = sym (off_the_path _ _ _ c.if-last-i.true)

pub returns-then-i-eq0 : goal.returns-then-i-eq0
returns-then-i-eq0 c = sym (on_the_path _ _ _ (omega (arith, c.if-last-i.false)) ∙ omega (arith, c.if-i-eq0.true))

pub returns : goal.returns
returns c = sym (on_the_path _ _ _ (omega (arith, c.if-last-i.false)))
