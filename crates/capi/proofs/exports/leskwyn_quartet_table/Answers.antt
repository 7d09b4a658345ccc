-- The call, as a plain struct, and demand 3 with it.
-- Assumes nothing.
use mathlib.Core.Path.{ap}
use Rattle.capi.specs.PlainAnswers.{plain_table}
use Rattle.capi.proofs.exports.leskwyn_quartet_table.Goals as goal

pub returns : goal.returns
returns c = let x = c.quartet_table.ensures in rw c.from.ensures (ap plain_table x.0, x.1, x.2)
