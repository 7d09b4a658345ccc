-- What is known where the search needs a hint.
-- Assumes nothing.
use Rattle.std.proofs.Common.{◌∙◌}
use Rattle.asked_labels.specs.lemmas.SomeLabels.{among_first}
use Rattle.asked_labels.proofs.asked.is_among.Goals as goal

pub returns : goal.returns
returns c = c.contains.ensures.value ∙ among_first _ _ _ c.requires
