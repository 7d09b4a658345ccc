-- What is known where the search needs a hint.
-- Assumes nothing.
use Rattle.std.proofs.Common.{rules}
use Rattle.asked_labels.specs.lemmas.SomeLabels.{any_is}
use Rattle.levels.proofs.levels.some_high.Goals as goal

pub returns : goal.returns
returns c = any_is _ _ _ (search rules)
