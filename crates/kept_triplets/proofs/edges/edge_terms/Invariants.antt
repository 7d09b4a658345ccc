-- The invariant: the sum over the listed nodes before `j`.
-- Assumes nothing.
use mathlib.Core.Path.{◌≡◌}
use Rattle.sums.specs.Sum.{sum}
use Rattle.kept_triplets.specs.lemmas.Edges.{edge_listed}
use Rattle.kept_triplets.proofs.edges.edge_terms.Given as goal

abbrev pub invariant-loop-j : goal.invariant-loop-j
invariant-loop-j l = l.total ≡ sum l.j-index (edge_listed l.all l.begin l.end l.table l.listed)
