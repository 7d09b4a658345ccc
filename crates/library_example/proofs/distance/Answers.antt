-- What `quartet_table` promises, read at one field.
-- Assumes nothing.
use mathlib.Core.Path.{ap}
use Rattle.quartets.specs.declared.tables.QuartetTable.{QuartetTable}
use Rattle.library_example.proofs.distance.Goals as goal

pub returns : goal.returns
returns c = ap (λ (t : QuartetTable). t.distance) c.quartet_table-table.ensures.0
