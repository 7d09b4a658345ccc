-- A count above the whole, or a sum that does not wrap.
-- Assumes nothing.
use mathlib.Core.Path.{refl}
use Rattle.counting.specs.declared.Case.TheVariants.{A, B, C, D, E}
use Rattle.one_label.specs.Changes.{total_of}
use Rattle.one_label.proofs.lemmas.Changed.{above}
use Rattle.one_label.proofs.changes.adds_up.Goals as goal

pub returns-then-all-counts : goal.returns-then-all-counts
returns-then-all-counts c = above c.args.counts _ A c.if-all-counts.true

pub returns-then-all-counts-2 : goal.returns-then-all-counts-2
returns-then-all-counts-2 c = above c.args.counts _ B c.if-all-counts-2.true

pub returns-then-all-counts-3 : goal.returns-then-all-counts-3
returns-then-all-counts-3 c = above c.args.counts _ C c.if-all-counts-3.true

pub returns-then-all-counts-4 : goal.returns-then-all-counts-4
returns-then-all-counts-4 c = above c.args.counts _ D c.if-all-counts-4.true

pub returns-then-all-counts-5 : goal.returns-then-all-counts-5
returns-then-all-counts-5 c = above c.args.counts _ E c.if-all-counts-5.true

pub returns : goal.returns
unfolding total_of
returns c = refl
