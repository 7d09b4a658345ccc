-- Edges by rows and columns: the row of the edge above, and sizes in the cells. Row i is that of edge i + 1.
-- Assumes nothing.
use Rattle.std.specs.Prelude.{◌≡◌, List, ℕ, suc, ◌+◌, ◌*◌, ◌-◌, ◌≤◌, ◌<◌, length}
use Rattle.std.proofs.Common.{◌∙◌, add-one, arith}
use Rattle.std.proofs.Math.Path.{ap}
use Rattle.table_words.specs.Sizes.{node_room}
use Rattle.table_words.specs.lemmas.Rooms.{work_room}
use Rattle.sums.specs.Counts.{count}
use Rattle.sums.specs.theorems.Products.{product_le}
use Rattle.tree_check.specs.Table.{Table, word, tips, nodes, parents, parent}
use Rattle.tree_check.specs.IsTree.{IsTree}
use Rattle.tree_check.specs.lemmas.TableParts.{parents-length}
use Rattle.counting.specs.Labels.{Labels}
use Rattle.counting.specs.theorems.LabelLaws.{Rising}
use Rattle.counting.specs.SplitCounts.{beyond_at}
use Rattle.tree_pairs.specs.Crossings.{crossed}
use Rattle.tree_pairs.proofs.lemmas.CellSizes.{row_cell, column_cell}
use Rattle.tree_pairs.specs.lemmas.EdgeRows.{EarlierParents, EdgeCells, EdgeRoom, above_in, row_size}

-- the parent word of the edge of row i + 1
pub parent-word : (ps : List ℕ) → EarlierParents ps → (i : ℕ) → i < length ps - 2
    → (1 ≤ word ps (i + 2)) × (word ps (i + 2) ≤ i + 1)
parent-word ps r i l =
    let e : i + 1 + 1 ≡ i + 2 = omega arith in
    rw e at (r.earlier (i + 1) (omega arith) (omega arith))

-- ---- where there are cells

pub edge-cells : (cells step : ℕ) (ps : List ℕ) → EdgeRoom cells step ps → (i up : ℕ) → i < length ps - 2
    → up ≡ word ps (i + 2) - 1 → EdgeCells cells step ps i up
edge-cells cells step ps a i up l e =
    let w = parent-word ps a.parents i l in
    let below : up < length ps - 1 = omega (arith, w.0, w.1) in
    let d : i + 1 + 1 ≡ i + 2 = omega arith in
    record {
      low = (start (i + 1) (omega arith), start up below);
      inside = (a.inside (i + 1) (omega arith), a.inside up below);
      above = rw d e;
    }
  where
    start : (r : ℕ) → r < length ps - 1 → r * step ≤ work_room
    start r m = omega (arith, product_le node_room node_room r step (omega (arith, a.parents.few)) a.narrow)

-- ---- of a table

module _ (t : Table) (g : IsTree t) where
  long : length (parents t) ≡ nodes t
  long = parents-length t g.words

  pub earlier_parents : EarlierParents (parents t)
  unfolding parent
  earlier_parents = let a = g.tips_range in let b = g.nodes_range in record {
    some = omega (arith, long);
    few = omega (arith, long);
    earlier = λ i l m.
        let r = g.parents_range (i + 1) (omega arith) (omega (arith, long)) in (r.0, omega (arith, r.1));
  }

  pub row_above : (i : ℕ) → suc i < nodes t - 1 → (suc (above_in (parents t) (suc i)) ≡ parent t (suc (suc i)))
      × (above_in (parents t) (suc i) < nodes t - 1)
  unfolding parent
  row_above i l =
      let r = g.parents_range (suc (suc i)) (omega arith) (omega arith) in
      let q = ap (parent t) (add-one (suc i)) in
      (omega (arith, q, r.0), omega (arith, q, r.0, r.1))

-- ---- of two tables: what stands in the cells

module _ (l : Labels) (t u : Table) (g : IsTree t) (h : IsTree u) (e : tips t ≡ tips u) (q : Rising (tips t) l)
    (work : List ℕ) where
  pub size_above_row : (i : ℕ) → suc i < nodes t - 1
      → row_size (crossed l t u work) (nodes u - 1) (above_in (parents t) (suc i))
      ≡ count l.number (beyond_at l t (parent t (suc (suc i))))
  size_above_row i o =
      let r = row_above t g i o in
      row_cell l t u g h e q work (above_in (parents t) (suc i)) r.1
      ∙ ap (λ (v : ℕ). count l.number (beyond_at l t v)) r.0

  pub size_of_column : (j : ℕ) → j < nodes u - 1 → row_size (crossed l t u work) 1 j ≡ count l.number (beyond_at l u (suc j))
  size_of_column j o = let c : j * 1 ≡ j = omega arith in rw c (column_cell l t u g h e q work j o)

  pub size_above_column : (j : ℕ) → suc j < nodes u - 1
      → row_size (crossed l t u work) 1 (above_in (parents u) (suc j)) ≡ count l.number (beyond_at l u (parent u (suc (suc j))))
  size_above_column j o =
      let r = row_above u h j o in
      size_of_column (above_in (parents u) (suc j)) r.1
      ∙ ap (λ (v : ℕ). count l.number (beyond_at l u v)) r.0
