-- The answer for a list of trees as a plain struct: the number, the position of the tree nearest to all, and its sum.
-- Assumes nothing.
use Rattle.median_tree.specs.declared.median.NearestAnswer as library
use Rattle.capi.specs.declared.answers.NearestAnswer.{NearestAnswer}

abbrev pub plain_nearest : library.NearestAnswer → NearestAnswer
plain_nearest r = record { refusal = r.refusal; position = r.position; sum = r.sum }
