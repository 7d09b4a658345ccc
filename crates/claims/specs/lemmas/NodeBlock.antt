-- The block of the cells of two nodes, filled row by row.
-- Assumes nothing.
use Rattle.std.specs.Prelude.{◌≡◌, List, set}
use Rattle.std.proofs.Common.{sym, ◌∙◌, length-set, get_or-set_same, get_or-set_other}
use Rattle.std.proofs.Math.Path.{ap}
use Prim.Native.Nat.{ℕ, zero, suc, ◌+◌, ◌*◌, ◌≤◌, ◌<◌}
use Rattle.std.proofs.Math.Nat.{mul-le-mul_right}
use Rattle.std.proofs.Math.Decide.{dec_lt}
use native.Mathlib.Omega.{arith}
use Rattle.std.proofs.Math.ListN.{length}
use Rattle.table_words.specs.Sizes.{tips_most}
use Rattle.sums.specs.theorems.Products.{product_le}
use Rattle.tree_check.specs.Table.{word}
use Rattle.claims.specs.lemmas.CodeCells.{CellRoom, Crossed, cell_room, code_cell, own_cell, child_cell}

-- ---- one row

-- `count` cells from `at` on hold f 0, f 1, ..; those before stay
pub record BlockWritten (old new : List ℕ) (at count : ℕ) (f : ℕ → ℕ) : Type 0 where
  pub cell : (j : ℕ) → j < count → word new (at + j) ≡ f j
  pub before : (k : ℕ) → k < at → word new k ≡ word old k
  pub long : length new ≡ length old

pub written-first : (old : List ℕ) (at v : ℕ) (f : ℕ → ℕ) → at < length old → v ≡ f 0
    → BlockWritten old (set old at v) at 1 f
written-first old at v f l e = record {
  cell = λ j m. first j m;
  before = λ k m. get_or-set_other old at k v 0 (λ q. omega arith);
  long = length-set old at v;
}
  where
    at_first : (at : ℕ) → at + 0 ≡ at
    at_first at = omega arith

    first : (j : ℕ) → j < 1 → word (set old at v) (at + j) ≡ f j
    first zero m = ap (word (set old at v)) (at_first at) ∙ get_or-set_same old at v 0 l ∙ e
    first (suc j) m = absurd (omega arith)

pub written_next : (old mid : List ℕ) (at j k v : ℕ) (f : ℕ → ℕ) → BlockWritten old mid at j f → k ≡ at + j
    → k < length mid → v ≡ f j → BlockWritten old (set mid k v) at (j + 1) f
written_next old mid at j k v f h q l e = record {
  cell = λ i m. at-cell i m (dec_lt i j);
  before = λ i m. get_or-set_other mid k i v 0 (λ z. omega arith) ∙ h.before i m;
  long = length-set mid k v ∙ h.long;
}
  where
    at-cell : (i : ℕ) → i < j + 1 → Dec (i < j) → word (set mid k v) (at + i) ≡ f i
    at-cell i m (yes n) = get_or-set_other mid k (at + i) v 0 (λ z. omega arith) ∙ h.cell i n
    at-cell i m (no n) =
        let s : i ≡ j = omega arith in
        let r : at + i ≡ k = omega arith in
        ap (word (set mid k v)) r ∙ get_or-set_same mid k v 0 l ∙ e ∙ ap f (sym s)

-- a row of cells, and room for it from `at` on in a block of `size` cells
pub record BlockRowRoom (work : List ℕ) (base : ℕ) (columns : List ℕ) (size at : ℕ) : Type 0 where
  pub some : 1 ≤ length columns
  pub few : length columns ≤ tips_most
  pub low : at ≤ 65536
  pub inside : at + length columns ≤ size
  pub room : (j : ℕ) → j < length columns → CellRoom work base (word columns j)

-- ---- all rows

-- the edges of the codes into two nodes, each node's own edge first
pub record NodeEdges (work : List ℕ) (w n : ℕ) (rows columns : List ℕ) : Type 0 where
  pub edges : ℕ
  pub crossed : Crossed work edges w n
  pub rows_some : 1 ≤ length rows
  pub rows_few : length rows ≤ tips_most
  pub rows_inside : (i : ℕ) → i < length rows → word rows i < edges
  pub columns_some : 1 ≤ length columns
  pub columns_few : length columns ≤ tips_most
  pub columns_inside : (j : ℕ) → j < length columns → word columns j < w

module _ (work : List ℕ) (w n : ℕ) (rows columns : List ℕ) (h : NodeEdges work w n rows columns) where
  pub node_cell_room : (i j : ℕ) → i < length rows → j < length columns
      → CellRoom work (word rows i * w) (word columns j)
  node_cell_room i j li lj =
      cell_room work h.edges w n h.crossed (word rows i) (word columns j)
      (h.rows_inside i li) (h.columns_inside j lj)

  row_end : (i d d' : ℕ) → i < d → (i + 1) * d' ≤ d * d'
  row_end i d d' l = mul-le-mul_right d' (omega arith)

  pub row_room : (size i : ℕ) → length rows * length columns ≤ size → i < length rows
      → BlockRowRoom work (word rows i * w) columns size (i * length columns)
  row_room size i l m = record {
    some = h.columns_some;
    few = h.columns_few;
    low = omega (arith, product_le tips_most tips_most i (length columns) (omega (arith, h.rows_few)) h.columns_few);
    inside = omega (arith, row_end i (length rows) (length columns) m);
    room = λ j lj. node_cell_room i j m lj;
  }

  pub first_row_room : (size : ℕ) → length rows * length columns ≤ size
      → BlockRowRoom work (word rows 0 * w) columns size 0
  first_row_room size l =
      let r = row_room size 0 l h.rows_some in record {
        some = r.some;
        few = r.few;
        low = omega arith;
        inside = omega (arith, r.inside);
        room = r.room;
      }

-- the first i rows of a block of two nodes' cells
pub record RowsFilled (work : List ℕ) (w n : ℕ) (rows columns block : List ℕ) (i : ℕ) : Type 0 where
  pub cell : (f j : ℕ) → f < i → j < length columns
      → word block (f * length columns + j) ≡ code_cell work w n (word rows) (word columns) f j

module _ (work : List ℕ) (w n : ℕ) (rows columns : List ℕ) where
  pub own_filled : (old new : List ℕ)
      → BlockWritten old new 0 (length columns) (own_cell work (word rows 0 * w) n (word columns))
      → RowsFilled work w n rows columns new 1
  unfolding code_cell
  own_filled old new h = record { cell = at }
    where
      at : (f j : ℕ) → f < 1 → j < length columns
          → word new (f * length columns + j) ≡ code_cell work w n (word rows) (word columns) f j
      at zero j l m = ap (word new) (first (length columns) j) ∙ h.cell j m
        where
          first : (d j : ℕ) → 0 * d + j ≡ 0 + j
          first d j = omega arith
      at (suc f) j l m = absurd (omega arith)

  pub child_filled : (old new : List ℕ) (i base at : ℕ) → 1 ≤ i → base ≡ word rows i * w → at ≡ i * length columns
      → BlockWritten old new at (length columns) (child_cell work base (word columns))
      → RowsFilled work w n rows columns old i → RowsFilled work w n rows columns new (i + 1)
  unfolding code_cell
  child_filled old new i base at l eb ea h r = record { cell = λ f j lf lj. cell f j lj (dec_lt f i) lf }
    where
      later : (f i d j : ℕ) → f < i → j < d → f * d + j < i * d
      later f i d j lf lj =
          let ends : (f + 1) * d ≤ i * d = mul-le-mul_right d (omega arith) in omega arith

      last : (i j base : ℕ) → 1 ≤ i → base ≡ word rows i * w
          → child_cell work base (word columns) j ≡ code_cell work w n (word rows) (word columns) i j
      last zero j base l e = absurd (omega arith)
      last (suc i) j base l e = ap (λ (b : ℕ). child_cell work b (word columns) j) e

      cell : (f j : ℕ) → j < length columns → Dec (f < i) → f < i + 1
          → word new (f * length columns + j) ≡ code_cell work w n (word rows) (word columns) f j
      cell f j lj (yes q) lf =
          h.before (f * length columns + j) (omega (arith, later f i (length columns) j q lj)) ∙ r.cell f j q lj
      cell f j lj (no q) lf =
          let s : f ≡ i = omega arith in
          ap (λ (x : ℕ). word new (x * length columns + j)) s
          ∙ ap (λ (x : ℕ). word new (x + j)) (sym ea)
          ∙ h.cell j lj
          ∙ last i j base l eb
          ∙ ap (λ (x : ℕ). code_cell work w n (word rows) (word columns) x j) (sym s)
