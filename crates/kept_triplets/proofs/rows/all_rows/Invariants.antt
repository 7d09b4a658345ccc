-- The invariant: what the listed rows before `v` add.
-- Assumes nothing.
use mathlib.Core.Path.{◌≡◌}
use Rattle.tree_check.specs.Table.{word}
use Rattle.sums.specs.Sum.{sum}
use Rattle.kept_triplets.specs.lemmas.AllRows.{kept_alike_row, kept_apart_row}
use Rattle.kept_triplets.proofs.rows.all_rows.Given as goal

abbrev pub invariant-loop-v : goal.invariant-loop-v
invariant-loop-v l = (l.alike ≡ sum l.v-index (λ i. kept_alike_row l.marks l.first l.second (word l.rows i)))
    × (l.apart ≡ sum l.v-index (λ i. kept_apart_row l.marks l.first l.second (word l.rows i)))
