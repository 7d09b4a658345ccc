-- Count by count.
-- Assumes nothing.
use Rattle.counting.specs.declared.Case.TheVariants.{A, B, C, D, E}
use Rattle.one_label.proofs.lemmas.Changed.{five_same}
use Rattle.one_label.proofs.changes.changed.Goals as goal

pub new_count-requires : goal.new_count-requires
new_count-requires c = c.requires.fits A

pub new_count-requires-2 : goal.new_count-requires-2
new_count-requires-2 c = c.requires.fits B

pub new_count-requires-3 : goal.new_count-requires-3
new_count-requires-3 c = c.requires.fits C

pub new_count-requires-4 : goal.new_count-requires-4
new_count-requires-4 c = c.requires.fits D

pub new_count-requires-5 : goal.new_count-requires-5
new_count-requires-5 c = c.requires.fits E

pub returns : goal.returns
returns c = five_same c.args.restore c.args.counts c.args.held c.new_count.ensures c.new_count-2.ensures c.new_count-3.ensures c.new_count-4.ensures c.new_count-5.ensures
