-- What the call for the median tree answers, as code finds it.
-- Assumes nothing.
use Rattle.std.specs.Prelude.{◌≡◌, List, ℕ, length}
use Rattle.median_tree.specs.declared.median.NearestAnswer.{NearestAnswer}
use Rattle.median_tree.specs.Nearest.{nearest_answer, after_nearest}

abbrev pub NearestAnswered : List ℕ → List ℕ → NearestAnswer → List ℕ → Type 0
NearestAnswered list work r new = (r ≡ nearest_answer list (length work)) × (new ≡ after_nearest list work)
