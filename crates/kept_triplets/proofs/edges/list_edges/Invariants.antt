-- The invariant: of the first `i` nodes from node 2 on, those whose edges add anything are listed.
-- Assumes nothing.
use Rattle.kept_triplets.specs.lemmas.Edges.{adds_at, ListedEdges}
use Rattle.kept_triplets.proofs.edges.list_edges.Given as goal

abbrev pub invariant-loop-i : goal.invariant-loop-i
invariant-loop-i l = ListedEdges l.i l.count (adds_at l.all l.begin l.end l.table) l.listed
