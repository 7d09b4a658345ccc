-- The claim sums of two tables as sums over nodes and over pairs of nodes, and every partial sum below its whole.
-- This is what the counting code computes; the terms have closed forms in crate node_pairs.
-- Assumes nothing.
use Rattle.std.specs.Prelude.{◌≡◌, ℕ, suc, ◌+◌, ◌*◌, ◌-◌, ◌≤◌, ◌<◌}
use Rattle.std.proofs.Common.{◌∙◌, arith}
use Rattle.std.proofs.Math.Path.{ap, fun_ext}
use Rattle.sums.specs.Sum.{sum}
use Rattle.sums.specs.theorems.SumLaws.{sum_cong, sum-part, rows_part}
use Rattle.sums.specs.Bits.{bit}
use Rattle.sums.specs.theorems.Products.{bit_and}
use Rattle.shapes.specs.Claims.{choose2}
use Rattle.node_pairs.specs.theorems.Cells.{sum_apart, pair_s2, pair_s3}
use Rattle.node_pairs.specs.theorems.NodeSums.{S_by_nodes}
use Rattle.node_pairs.specs.theorems.NodePairs.{Listed, S2_by_node_pairs, S3_by_node_pairs}
use Rattle.node_pairs.specs.theorems.CellTotals.{crossings_le}
use Rattle.tree_check.specs.Table.{Table, tips, nodes, parent}
use Rattle.tree_check.specs.IsTree.{IsTree}
use Rattle.tree_check.specs.theorems.RootedTables.{rooted}
use Rattle.counting.specs.Labels.{Labels}
use Rattle.counting.specs.theorems.LabelLaws.{Rising}
use Rattle.counting.proofs.theorems.LabelLaws.{rising_of}
use Rattle.counting.specs.ClaimSums.{codes, behind_edge, size, crossing, S, S2, S3}
use Rattle.counting.proofs.theorems.TreeShape.{shape_of}
use Rattle.counting.specs.theorems.NodePairSums.{CodesInto}

as_listed : (t : Table) → IsTree t → CodesInto t → Listed
unfolding codes
as_listed t g a = record {
  up = parent t;
  tree = rooted t g;
  edges = nodes t - 1;
  degree = a.degree;
  code = a.code;
  lists = a.lists;
}

all-nodes : (t : Table) → IsTree t → suc (nodes t - 1) ≡ nodes t
all-nodes t g = let few = g.tips_range in let many = g.nodes_range in omega arith

-- ---- S, node by node

module _ (l : Labels) (t : Table) (a : CodesInto t) where
  -- what the node v adds to twice S
  abbrev pub node_term : ℕ → ℕ
  node_term v = sum_apart (a.degree v) (λ i j k.
      choose2 (size l t (a.code v i)) * (size l t (a.code v j) * size l t (a.code v k)))

  pub S_over_nodes : IsTree t → 2 * S l t ≡ sum (nodes t) node_term
  unfolding S codes
  S_over_nodes g =
      S_by_nodes (parent t) (rooted t g) (nodes t - 1) a.degree a.code a.lists (size l t)
      ∙ ap (λ (m : ℕ). sum m node_term) (all-nodes t g)

-- ---- S2 and S3, pair of nodes by pair of nodes

module _ (l : Labels) (t u : Table) (a : CodesInto t) (b : CodesInto u) where
  -- the crossings of the sets behind the codes into v and behind those into v'
  abbrev pub cells : ℕ → ℕ → ℕ → ℕ → ℕ
  cells v v' i i' = crossing l t u (a.code v i) (b.code v' i')

  -- what the nodes v and v' add to twice S2, and to S3
  abbrev pub pair_term_s2 : ℕ → ℕ → ℕ
  pair_term_s2 v v' = pair_s2 (a.degree v) (b.degree v') (cells v v')

  abbrev pub pair_term_s3 : ℕ → ℕ → ℕ
  pair_term_s3 v v' = pair_s3 (a.degree v) (b.degree v') (cells v v')

  module _ (g : IsTree t) (h : IsTree u) where
    over_all : (f : ℕ → ℕ → ℕ)
        → sum (suc (nodes t - 1)) (λ v. sum (suc (nodes u - 1)) (f v)) ≡ sum (nodes t) (λ v. sum (nodes u) (f v))
    over_all f = rw (all-nodes t g, all-nodes u h)

    pub S2_over_node_pairs : 2 * S2 l t u ≡ sum (nodes t) (λ v. sum (nodes u) (pair_term_s2 v))
    unfolding S2 codes as_listed
    S2_over_node_pairs = S2_by_node_pairs (as_listed t g a) (as_listed u h b) (crossing l t u) ∙ over_all pair_term_s2

    pub S3_over_node_pairs : S3 l t u ≡ sum (nodes t) (λ v. sum (nodes u) (pair_term_s3 v))
    unfolding S3 codes as_listed
    S3_over_node_pairs = S3_by_node_pairs (as_listed t g a) (as_listed u h b) (crossing l t u) ∙ over_all pair_term_s3

    -- ---- bounds on the way

    -- the cells of two nodes add up to the number of labels at most
    pub cells_most : tips t ≡ tips u → Rising (tips t) l → (v v' : ℕ) → v < nodes t → v' < nodes u
        → sum (a.degree v) (λ i. sum (b.degree v') (cells v v' i)) ≤ l.number
    unfolding crossing codes shape_of behind_edge
    cells_most e r v v' m m' = rw as_products (
        crossings_le (shape_of t g l r) (shape_of u h l (rising_of (tips t) (tips u) l e r)) v v' (a.degree v) (b.degree v')
        (a.code v) (b.code v') (omega arith) (omega arith) (a.lists v (omega arith)) (b.lists v' (omega arith)))
      where
        as_products : cells v v' ≡ λ i i'.
            sum l.number (λ x. bit (behind_edge l t (a.code v i) x) * bit (behind_edge l u (b.code v' i') x))
        as_products = fun_ext (λ i. fun_ext (λ i'. sum_cong l.number (λ x.
            bit_and (behind_edge l t (a.code v i) x) (behind_edge l u (b.code v' i') x))))

    -- the first i rows and j terms of the next
    pub S2-part : (i j : ℕ) → i < nodes t → j ≤ nodes u
        → sum i (λ v. sum (nodes u) (pair_term_s2 v)) + sum j (pair_term_s2 i) ≤ 2 * S2 l t u
    S2-part i j li lj =
        omega (arith, S2_over_node_pairs, rows_part i (nodes t) j (nodes u) pair_term_s2 li lj)

    pub S3-part : (i j : ℕ) → i < nodes t → j ≤ nodes u
        → sum i (λ v. sum (nodes u) (pair_term_s3 v)) + sum j (pair_term_s3 i) ≤ S3 l t u
    S3-part i j li lj =
        omega (arith, S3_over_node_pairs, rows_part i (nodes t) j (nodes u) pair_term_s3 li lj)

pub S-part : (l : Labels) (t : Table) (a : CodesInto t) → IsTree t → (i : ℕ) → i ≤ nodes t → sum i (node_term l t a) ≤ 2 * S l t
S-part l t a g i m = omega (arith, S_over_nodes l t a g, sum-part i (nodes t) (node_term l t a) m)
