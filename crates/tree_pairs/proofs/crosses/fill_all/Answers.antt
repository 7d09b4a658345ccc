-- Marks of 1 keep every label.
-- Assumes nothing.
use mathlib.Core.Path.{◌∙◌}
use Rattle.marks.proofs.theorems.Ones.{ones}
use Rattle.tree_pairs.proofs.lemmas.AllLabels.{crossed-ones}
use Rattle.tree_pairs.proofs.crosses.fill_all.Goals as goal

pub returns : goal.returns
unfolding ones
returns c =
    c.fill.ensures ∙ crossed-ones _ _ c.requires.pair.first _
