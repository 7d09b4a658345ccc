-- The invariant: the sums over the listed nodes before `j`.
-- Assumes nothing.
use mathlib.Core.Path.{◌≡◌}
use Rattle.sums.specs.Sum.{sum}
use Rattle.kept_triplets.specs.lemmas.Rows.{kept_alike_listed, kept_apart_listed}
use Rattle.kept_triplets.proofs.rows.row_terms.Given as goal

abbrev pub invariant-loop-j : goal.invariant-loop-j
invariant-loop-j l = (l.alike ≡ sum l.j-index (kept_alike_listed l.sums l.begin l.end l.second l.columns)) × (l.apart ≡ sum l.j-index (kept_apart_listed l.sums l.begin l.end l.second l.columns))
