-- The nine cells of two nodes with three codes into each.
-- Assumes nothing.
use Rattle.std.specs.Prelude.{◌≡◌, List, length}
use Prim.Native.Nat.{ℕ, zero, suc, ◌+◌, ◌*◌, ◌-◌, ◌≤◌, ◌<◌}
use Rattle.std.proofs.Common.{arith}
use Rattle.table_words.specs.Sizes.{tips_most}
use Rattle.node_pairs.specs.theorems.Cells.{pair_s2, pair_s3}
use Rattle.node_pairs.specs.theorems.CellsAlike.{pair_s2_ext, pair_s3_ext}
use Rattle.tree_check.specs.Table.{word}
use Rattle.claims.specs.lemmas.CodeCells.{CellRoom, code_cell, own_cell, child_cell}
use Rattle.claims.specs.lemmas.NineCells.{Nine, three_rows}
use Rattle.claims.specs.lemmas.NodeBlock.{NodeEdges, node_cell_room}

-- what a row of three cells is to be: the node's own edge, ..
pub record OwnRow (work : List ℕ) (n base c0 c1 c2 x0 x1 x2 : ℕ) : Type 0 where
  pub first : x0 ≡ n + word work (base + c0) - word work base - word work c0
  pub second : x1 ≡ word work c1 - word work (base + c1)
  pub third : x2 ≡ word work c2 - word work (base + c2)
  pub few : (x0 ≤ tips_most) × (x1 ≤ tips_most) × (x2 ≤ tips_most)

-- .. or a child's
pub record ChildRow (work : List ℕ) (base c0 c1 c2 x0 x1 x2 : ℕ) : Type 0 where
  pub first : x0 ≡ word work base - word work (base + c0)
  pub second : x1 ≡ word work (base + c1)
  pub third : x2 ≡ word work (base + c2)
  pub few : (x0 ≤ tips_most) × (x1 ≤ tips_most) × (x2 ≤ tips_most)

-- the cells of a row of three
pub record ThreeRoom (work : List ℕ) (base c0 c1 c2 : ℕ) : Type 0 where
  pub first : CellRoom work base c0
  pub second : CellRoom work base c1
  pub third : CellRoom work base c2

module _ (work : List ℕ) (w n : ℕ) (r c : ℕ → ℕ) (x0 x1 x2 y0 y1 y2 z0 z1 z2 : ℕ)
    (own : OwnRow work n (r 0 * w) (c 0) (c 1) (c 2) x0 x1 x2)
    (one : ChildRow work (r 1 * w) (c 0) (c 1) (c 2) y0 y1 y2)
    (two : ChildRow work (r 2 * w) (c 0) (c 1) (c 2) z0 z1 z2) where
  nine_cells : (i j : ℕ) → i < 3 → j < 3 → three_rows x0 x1 x2 y0 y1 y2 z0 z1 z2 i j ≡ code_cell work w n r c i j
  unfolding code_cell own_cell child_cell
  nine_cells zero zero l m = own.first
  nine_cells zero (suc zero) l m = own.second
  nine_cells zero (suc (suc zero)) l m = own.third
  nine_cells (suc zero) zero l m = one.first
  nine_cells (suc zero) (suc zero) l m = one.second
  nine_cells (suc zero) (suc (suc zero)) l m = one.third
  nine_cells (suc (suc zero)) zero l m = two.first
  nine_cells (suc (suc zero)) (suc zero) l m = two.second
  nine_cells (suc (suc zero)) (suc (suc zero)) l m = two.third
  nine_cells zero (suc (suc (suc j))) l m = absurd (omega arith)
  nine_cells (suc zero) (suc (suc (suc j))) l m = absurd (omega arith)
  nine_cells (suc (suc zero)) (suc (suc (suc j))) l m = absurd (omega arith)
  nine_cells (suc (suc (suc i))) j l m = absurd (omega arith)

  pub nine_S2 : pair_s2 3 3 (three_rows x0 x1 x2 y0 y1 y2 z0 z1 z2) ≡ pair_s2 3 3 (code_cell work w n r c)
  nine_S2 = pair_s2_ext 3 3 _ _ nine_cells

  pub nine_S3 : pair_s3 3 3 (three_rows x0 x1 x2 y0 y1 y2 z0 z1 z2) ≡ pair_s3 3 3 (code_cell work w n r c)
  nine_S3 = pair_s3_ext 3 3 _ _ nine_cells

  pub nine_few : Nine x0 x1 x2 y0 y1 y2 z0 z1 z2
  nine_few = record {
    x0_le = own.few.0;
    x1_le = own.few.1;
    x2_le = own.few.2;
    y0_le = one.few.0;
    y1_le = one.few.1;
    y2_le = one.few.2;
    z0_le = two.few.0;
    z1_le = two.few.1;
    z2_le = two.few.2;
  }

-- ---- three edges at each node

module _ (work : List ℕ) (w n : ℕ) (rows columns : List ℕ) (h : NodeEdges work w n rows columns)
    (three : length rows ≡ 3) (three' : length columns ≡ 3) where
  pub three_room : (i : ℕ) → i < 3 → ThreeRoom work (word rows i * w) (word columns 0) (word columns 1) (word columns 2)
  three_room i l = record { first = at 0 (omega arith); second = at 1 (omega arith); third = at 2 (omega arith) }
    where
      at : (j : ℕ) → j < 3 → CellRoom work (word rows i * w) (word columns j)
      at j m = node_cell_room work w n rows columns h i j (omega arith) (omega arith)

  pub own_neither : word work (word rows 0 * w) + word work (word columns 0)
      ≤ n + word work (word rows 0 * w + word columns 0)
  own_neither = h.crossed.neither (word rows 0) (word columns 0)
      (h.rows_inside 0 h.rows_some) (h.columns_inside 0 h.columns_some)
