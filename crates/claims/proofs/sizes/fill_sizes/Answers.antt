-- A row is filled with sizes.
-- Assumes nothing.
use Rattle.std.proofs.Common.{rules}
use Rattle.tree_check.specs.Table.{word}
use Rattle.claims.specs.lemmas.CodeSizes.{size-first, size_later}
use Rattle.claims.proofs.sizes.fill_sizes.Goals as goal

pub returns : goal.returns
returns c =
    let a = c.args in
    let r = word a.edges.now in
    c.fill_row.ensures _ (λ v k. size-first a.work.now a.step a.n r v (search rules))
    (λ i v l m k. size_later a.work.now a.step a.n r i v l (search rules))
