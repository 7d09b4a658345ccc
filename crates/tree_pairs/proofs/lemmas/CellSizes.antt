-- The first cells of rows and columns are the sizes of the edges: label 0 lies beyond no edge, every other beyond edge 1.
-- Assumes nothing.
use Rattle.std.specs.Prelude.{◌≡◌, Bool, ◌&&◌, List}
use Rattle.std.proofs.Math.Path.{sym}
use Rattle.std.proofs.Common.{◌∙◌, ap}
use Prim.Native.Nat.{ℕ, zero, suc, ◌+◌, ◌*◌, ◌-◌, ◌≤◌, ◌<◌}
use native.Mathlib.Omega.{arith}
use Rattle.sums.specs.theorems.SumLaws.{sum_ext}
use Rattle.sums.specs.Bits.{bit}
use Rattle.sums.specs.theorems.Products.{bit_and}
use Rattle.sums.specs.Counts.{count}
use Rattle.shapes.specs.Ancestors.{anc}
use Rattle.shapes.proofs.theorems.AncestorLaws.{up_ind, anc_self, anc_down}
use Rattle.tree_check.specs.Table.{Table, word, tips, nodes, parent, label, node_of, beyond}
use Rattle.tree_check.specs.IsTree.{IsTree}
use Rattle.tree_check.specs.theorems.RootedTables.{rooted}
use Rattle.walks.specs.theorems.NodeLabels.{node_at}
use Rattle.counting.specs.Labels.{Labels}
use Rattle.counting.specs.theorems.LabelLaws.{Rising}
use Rattle.counting.specs.SplitCounts.{beyond_at}
use Rattle.counting.proofs.theorems.TreeSplits.{zero_here}
use Rattle.tree_pairs.specs.Crossings.{edge_crossing, crossed}
use Rattle.tree_pairs.proofs.theorems.CrossingLaws.{cell_of_edges}

-- ---- label 0 lies beyond no edge, every other label beyond edge 1

module _ (t : Table) (g : IsTree t) where
  under_one : (v : ℕ) → 1 ≤ v → v < nodes t → bit (anc (parent t) 1 v) ≡ 1
  under_one = up_ind (parent t) (rooted t g) (λ v. 1 ≤ v → v < nodes t → bit (anc (parent t) 1 v) ≡ 1)
      (λ l m. absurd (omega arith)) step
    where
      step : (w : ℕ)
          → (1 ≤ parent t (suc w) → parent t (suc w) < nodes t
          → bit (anc (parent t) 1 (parent t (suc w))) ≡ 1)
          → 1 ≤ suc w → suc w < nodes t → bit (anc (parent t) 1 (suc w)) ≡ 1
      step zero h l m = anc_self (parent t) (rooted t g) 1
      step (suc w) h l m =
          let r = g.parents_range (suc (suc w)) (omega arith) m in
          anc_down (parent t) (rooted t g) 1 (suc (suc w)) (omega arith) (h r.0 (omega (arith, r.1)))

  pub all_beyond : (x : ℕ) → x < tips t → 1 ≤ x → bit (beyond t 1 x) ≡ 1
  unfolding beyond
  all_beyond x lx l = let a = node_at t g x lx in under_one (node_of t x) (other (node_of t x) a.1) a.0
    where
      other : (v : ℕ) → label t v ≡ x → 1 ≤ v
      other zero e = absurd (omega (arith, e, g.root_label))
      other (suc v) e = omega arith

-- ---- sizes

both_first : (a b : Bool) → bit b ≡ 1 → bit (a && b) ≡ bit a
both_first a b e = omega (arith, bit_and a b, ap (λ (z : ℕ). bit a * z) e)

both_second : (a b : Bool) → bit a ≡ 1 → bit (a && b) ≡ bit b
both_second a b e = omega (arith, bit_and a b, ap (λ (z : ℕ). z * bit b) e)

no_first : (a b : Bool) → bit a ≡ 0 → bit (a && b) ≡ 0
no_first a b e = omega (arith, bit_and a b, ap (λ (z : ℕ). z * bit b) e)

module _ (l : Labels) (t u : Table) (g : IsTree t) (h : IsTree u) (e : tips t ≡ tips u) (r : Rising (tips t) l) where
  -- the first column is the sizes of the first tree's edges
  pub row_size_lem : (i : ℕ) → 1 ≤ i → edge_crossing l t u i 1 ≡ count l.number (beyond_at l t i)
  unfolding edge_crossing beyond_at
  row_size_lem i o = sum_ext l.number _ _ (λ x m. term (l.at x) (r.inside x m))
    where
      term : (x : ℕ) → x < tips t → bit (beyond t i x && beyond u 1 x) ≡ bit (beyond t i x)
      term zero m = no_first _ (beyond u 1 0) (zero_here t g i o) ∙ sym (zero_here t g i o)
      term (suc x) m = both_first (beyond t i (suc x)) _ (all_beyond u h (suc x) (omega arith) (omega arith))

  -- the first row is the sizes of the second tree's edges
  pub column_size : (j : ℕ) → 1 ≤ j → edge_crossing l t u 1 j ≡ count l.number (beyond_at l u j)
  unfolding edge_crossing beyond_at
  column_size j o = sum_ext l.number _ _ (λ x m. term (l.at x) (r.inside x m))
    where
      term : (x : ℕ) → x < tips t → bit (beyond t 1 x && beyond u j x) ≡ bit (beyond u j x)
      term zero m = no_first _ (beyond u j 0) (zero_here t g 1 (omega arith)) ∙ sym (zero_here u h j o)
      term (suc x) m = both_second _ (beyond u j (suc x)) (all_beyond t g (suc x) m (omega arith))

  -- ---- in the cells

  module _ (work : List ℕ) where
    -- the first cell of row i, and of column j
    pub row_cell : (i : ℕ) → i < nodes t - 1
        → word (crossed l t u work) (i * (nodes u - 1)) ≡ count l.number (beyond_at l t (suc i))
    row_cell i o =
        let few = h.tips_range in let many = h.nodes_range in
        ap (word (crossed l t u work)) (first (i * (nodes u - 1)))
        ∙ cell_of_edges l t u work i 0 o (omega arith)
        ∙ row_size_lem (suc i) (omega arith)
      where
        first : (c : ℕ) → c ≡ c + 0
        first c = omega arith

    pub column_cell : (j : ℕ) → j < nodes u - 1
        → word (crossed l t u work) j ≡ count l.number (beyond_at l u (suc j))
    column_cell j o =
        let few = g.tips_range in let many = g.nodes_range in
        ap (word (crossed l t u work)) (first (nodes u - 1))
        ∙ cell_of_edges l t u work 0 j (omega arith) o
        ∙ column_size (suc j) (omega arith)
      where
        first : (w : ℕ) → j ≡ 0 * w + j
        first w = omega arith
