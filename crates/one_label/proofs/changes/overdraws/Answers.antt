-- Case by case.
-- Assumes nothing.
use Rattle.counting.specs.declared.Case.TheVariants.{A, B, C, D}
use Rattle.one_label.proofs.lemmas.Changed.{draws_nothing, draws_at, draws_last}
use Rattle.one_label.proofs.changes.overdraws.Goals as goal

pub returns-then-restore : goal.returns-then-restore
returns-then-restore c = draws_nothing c.args.counts c.args.held _ c.if-restore.true

pub returns-then-counts-held : goal.returns-then-counts-held
returns-then-counts-held c = draws_at c.args.counts c.args.held _ c.if-restore.false A c.if-counts-held.true

pub returns-then-counts-held-2 : goal.returns-then-counts-held-2
returns-then-counts-held-2 c = draws_at c.args.counts c.args.held _ c.if-restore.false B c.if-counts-held-2.true

pub returns-then-counts-held-3 : goal.returns-then-counts-held-3
returns-then-counts-held-3 c = draws_at c.args.counts c.args.held _ c.if-restore.false C c.if-counts-held-3.true

pub returns-then-counts-held-4 : goal.returns-then-counts-held-4
returns-then-counts-held-4 c = draws_at c.args.counts c.args.held _ c.if-restore.false D c.if-counts-held-4.true

pub returns : goal.returns
returns c = draws_last c.args.counts c.args.held _ c.if-restore.false c.if-counts-held.false c.if-counts-held-2.false c.if-counts-held-3.false c.if-counts-held-4.false
