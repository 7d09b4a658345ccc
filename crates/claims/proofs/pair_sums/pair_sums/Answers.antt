-- Few tips have a short block, all others the long one.
-- Assumes nothing.
use Rattle.table_words.specs.Sizes.{tips_most}
use Rattle.sums.specs.theorems.Products.{product_le}
use Rattle.claims.proofs.pair_sums.pair_sums.Goals as goal

pub all_pairs-requires : goal.all_pairs-requires
all_pairs-requires c =
    record {
      most = c.args.tips;
      pairs = c.requires;
      room = product_le 64 64 _ _ c.if-tips-le-FEW.true c.if-tips-le-FEW.true;
    }

pub all_pairs-requires-2 : goal.all_pairs-requires-2
all_pairs-requires-2 c =
    record {
      most = c.args.tips;
      pairs = c.requires;
      room = product_le tips_most tips_most _ _ c.requires.most_few c.requires.most_few;
    }
