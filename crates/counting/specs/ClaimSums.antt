-- The directed edges of a tree table, and the claim sums S, S2 and S3 over labels by rank.
-- Assumes nothing.
use Rattle.std.specs.Prelude.{Bool, ◌&&◌, ℕ, ◌*◌, ◌-◌}
use Rattle.sums.specs.Counts.{count}
use Rattle.shapes.specs.Directions.{behind}
use Rattle.shapes.specs.Claims.{sum_claims, claim_term, equation1, dcount}
use Rattle.tree_check.specs.Table.{Table, nodes, parent, node_of}
use Rattle.counting.specs.Labels.{Labels}

-- the codes of directed edges, two for each edge, are the numbers below this one
unfoldable pub codes : Table → ℕ
codes t = 2 * (nodes t - 1)

-- the label of rank x lies behind the directed edge with the code c
unfoldable pub behind_edge : Labels → Table → ℕ → ℕ → Bool
behind_edge l t c x = behind (parent t) c (node_of t (l.at x))

-- |T|, for the set T of labels behind the code c
unfoldable pub size : Labels → Table → ℕ → ℕ
size l t c = count l.number (behind_edge l t c)

-- |T ∩ T'|, for the sets behind the code c of the first tree and the code d of the second
unfoldable pub crossing : Labels → Table → Table → ℕ → ℕ → ℕ
crossing l t u c d = count l.number (λ x. behind_edge l t c x && behind_edge l u d x)

-- the sum over the claims of a tree of |T1|(|T1| − 1)/2 · |T2| · |T3|: S of the first tree, S' of the second
unfoldable pub S : Labels → Table → ℕ
S l t = sum_claims (parent t) (codes t) (claim_term (size l t))

-- the sum of equation (1) of document 001 over all pairs of claims, one of each tree
unfoldable pub S2 : Labels → Table → Table → ℕ
S2 l t u =
    sum_claims (parent t) (codes t) (λ e f g. sum_claims (parent u) (codes u) (equation1 (crossing l t u) e f g))

-- the sum of the four terms of dcount over the same pairs, on the claims of the trees as they are given
unfoldable pub S3 : Labels → Table → Table → ℕ
S3 l t u = sum_claims (parent t) (codes t) (λ e f g. sum_claims (parent u) (codes u) (dcount (crossing l t u) e f g))
