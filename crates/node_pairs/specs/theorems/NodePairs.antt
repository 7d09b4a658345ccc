-- The claim sums S2 and S3 of two trees are sums over pairs of nodes.
-- Assumes nothing.
use Rattle.std.specs.Prelude.{◌≡◌, ℕ, suc, ◌*◌, ◌≤◌}
use Rattle.std.proofs.Common.{◌∙◌}
use Rattle.sums.specs.Sum.{sum}
use Rattle.sums.specs.theorems.SumLaws.{sum_cong}
use Rattle.shapes.specs.theorems.AncestorLaws.{Rooted}
use Rattle.shapes.specs.Directions.{head}
use Rattle.shapes.specs.Claims.{sum_claims, choose2, equation1, dcount}
use Rattle.shapes.proofs.theorems.OrderedClaims.{ordered_cong}
use Rattle.shapes.proofs.theorems.ClaimPairs.{sum_pairs, same_ordered, different_ordered}
use Rattle.node_pairs.specs.theorems.Cells.{sum_apart, pair_s2, pair_s3}
use Rattle.node_pairs.specs.theorems.ApartSums.{apart_sum_lem}
use Rattle.node_pairs.specs.CodesInto.{degree_of, code_at}
use Rattle.node_pairs.specs.theorems.CodesOfANode.{Lists, lists_codes}
use Rattle.node_pairs.specs.theorems.NodeSums.{by_nodes}

-- a tree with a list of the codes into each node
pub record Listed : Type 0 where
  pub up : ℕ → ℕ
  pub tree : Rooted up
  -- edges 1 to k, and nodes 0 to k
  pub edges : ℕ
  pub degree : ℕ → ℕ
  pub code : ℕ → ℕ → ℕ
  pub lists : (v : ℕ) → v ≤ edges → Lists (2 * edges) (head up) v (degree v) (code v)

-- every tree has such lists
abbrev pub listed_tree : (up : ℕ → ℕ) → Rooted up → ℕ → Listed
listed_tree up r k = record {
  up = up;
  tree = r;
  edges = k;
  degree = degree_of (2 * k) (head up);
  code = code_at (2 * k) (head up);
  lists = λ v l. lists_codes (2 * k) (head up) v;
}

module _ (t u : Listed) where
  -- the sum of H over three different codes into v and three different codes into v'
  abbrev at_nodes : (ℕ → ℕ → ℕ → ℕ → ℕ → ℕ → ℕ) → ℕ → ℕ → ℕ
  at_nodes H v v' = sum_apart (t.degree v) (λ i j l. sum_apart (u.degree v') (λ i' j' l'.
      H (t.code v i) (t.code v j) (t.code v l) (u.code v' i') (u.code v' j') (u.code v' l')))

  by_node_pairs : (H : ℕ → ℕ → ℕ → ℕ → ℕ → ℕ → ℕ)
      → sum_pairs t.up (2 * t.edges) u.up (2 * u.edges) H
      ≡ sum (suc t.edges) (λ v. sum (suc u.edges) (λ v'. at_nodes H v v'))
  by_node_pairs H =
      ordered_cong t.up (2 * t.edges) (λ e f g.
      by_nodes u.up u.tree u.edges u.degree u.code u.lists (H e f g))
      ∙ by_nodes t.up t.tree t.edges t.degree t.code t.lists _
      ∙ sum_cong (suc t.edges) (λ v. apart_sum_lem (t.degree v) (suc u.edges) (λ v' i j l.
      sum_apart (u.degree v') (λ i' j' l'.
      H (t.code v i) (t.code v j) (t.code v l) (u.code v' i') (u.code v' j') (u.code v' l'))))

  module _ (X : ℕ → ℕ → ℕ) where
    pub S2_by_node_pairs :
        2 * sum_claims t.up (2 * t.edges) (λ e f g.
        sum_claims u.up (2 * u.edges) (equation1 X e f g))
        ≡ sum (suc t.edges) (λ v. sum (suc u.edges) (λ v'.
        pair_s2 (t.degree v) (u.degree v') (λ i i'. X (t.code v i) (u.code v' i'))))
    unfolding pair_s2
    S2_by_node_pairs =
        same_ordered t.up (2 * t.edges) u.up (2 * u.edges) X
        ∙ by_node_pairs (λ e f g e' f' g'. choose2 (X e e') * (X f f' * X g g'))

    pub S3_by_node_pairs :
        sum_claims t.up (2 * t.edges) (λ e f g.
        sum_claims u.up (2 * u.edges) (dcount X e f g))
        ≡ sum (suc t.edges) (λ v. sum (suc u.edges) (λ v'.
        pair_s3 (t.degree v) (u.degree v') (λ i i'. X (t.code v i) (u.code v' i'))))
    unfolding pair_s3
    S3_by_node_pairs =
        different_ordered t.up (2 * t.edges) u.up (2 * u.edges) X
        ∙ by_node_pairs (λ e f g e' f' g'. X e e' * X e g' * (X f f' * X g e'))
