-- What the four calls tell: each answers by how many cells are lent, whatever they hold.
-- Assumes nothing.
use mathlib.Core.Path.{◌≡◌, ◌∙◌, ap}
use lib.ListN.{length}
use Rattle.claims.specs.ClaimAnswer.{claim_answer}
use Rattle.quartets.specs.QuartetAnswer.{quartet_answer}
use Rattle.splits.specs.SplitAnswer.{split_answer}
use Rattle.triplets.specs.TripletAnswer.{triplet_answer}
use Rattle.pair_file.specs.PairFile.{cells_lent}
use Rattle.pair_file.specs.lemmas.PairFigures.{called}
use Rattle.pair_file.proofs.comparison.figures_of.Goals as goal

pub returns : goal.returns
returns c =
    let a = c.args in
    let one : length c.claim_sums-sums.new.work ≡ cells_lent = c.claim_sums-sums.auto.work in
    let two : length c.quartet_table-cases.new.work ≡ cells_lent = c.quartet_table-cases.auto.work ∙ one in
    let three : length c.split_counts-counts.new.work ≡ cells_lent = c.split_counts-counts.auto.work ∙ two in
    called _ _ _ _ _ _ _ _ c.claim_sums-sums.ensures.0
    (c.quartet_table-cases.ensures.0 ∙ ap (quartet_answer a.first.now a.second.now a.marks.now) one)
    (c.split_counts-counts.ensures.0 ∙ ap (split_answer a.first.now a.second.now a.marks.now) two)
    (c.triplet_table-threes.ensures.0 ∙ ap (triplet_answer a.first.now a.second.now) three)
