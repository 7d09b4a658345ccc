-- What is known where the search needs a hint.
-- Assumes nothing.
use Rattle.std.proofs.Common.{rules}
use Rattle.asked_labels.specs.LabelOrder.{too_large}
use Rattle.asked_labels.specs.lemmas.SomeLabels.{any_is}
use Rattle.asked_labels.proofs.asked.some_too_large.Goals as goal

pub returns : goal.returns
unfolding too_large
returns c = any_is _ _ _ (search rules)
