-- Each place adds its weight.
-- Assumes nothing.
use Rattle.std.proofs.Common.{rules}
use Rattle.tree_check.specs.Table.{word}
use Rattle.kept_triplets.proofs.places.weigh.Goals as goal

pub returns : goal.returns
returns c = record { long = c.running_sums.ensures.long; sum_is = c.running_sums.ensures.sums (word c.args.weights.now) (λ p n k. search rules) }
