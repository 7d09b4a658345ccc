-- Rows of cells, a row for each node but node 0, added up the tree with the parents `ps`.
-- Assumes nothing.
use Rattle.std.specs.Prelude.{◌≡◌, refl, List, ◌≢◌, ℕ, suc, ◌+◌, ◌*◌, ◌-◌, ◌≤◌, ◌<◌, length}
use Rattle.std.proofs.Common.{◌∙◌, ap, subst, suc-mul, mul-le-mul_right, lt_of_not-le, arith}
use Rattle.std.proofs.Math.Decide.{dec_lt}
use Rattle.table_words.specs.Sizes.{node_room}
use Rattle.table_words.specs.lemmas.Rooms.{work_room}
use Rattle.sums.specs.theorems.Products.{product_le}
use Rattle.shapes.proofs.theorems.AncestorLaws.{parent-lt}
use Rattle.shapes.specs.theorems.Totals.{AddedFrom}
use Rattle.shapes.proofs.theorems.Totals.{added_from_none, added_from_all}
use Rattle.shapes.proofs.theorems.Totals.{added_from_next, added_from_le}
use Rattle.tree_check.specs.Table.{word}
use Rattle.tree_pairs.specs.lemmas.Grid.{cell_at}
use Rattle.tree_pairs.specs.lemmas.Rows.{RowsFit, RowAdded}
use Rattle.tree_pairs.specs.lemmas.RowsUp.{AddingRows, Room, RowsAdded}

-- a row ends before a later one begins
row_end : (a b w : ℕ) → a < b → a * w + w ≤ b * w
row_end a b w l = rw (← suc-mul) (mul-le-mul_right w l)

-- a row begins at cell `work_room` or before
pub row_near : (a w : ℕ) → a ≤ node_room → w ≤ node_room → a * w ≤ work_room
row_near a w h k = product_le node_room node_room a w h k

pub rows_none : (ps old : List ℕ) (w : ℕ) → Room ps old w → AddingRows ps old w (length ps) old
rows_none ps old w a = record {
  from = a.some;
  to = omega arith;
  long = refl;
  columns = λ j l. added_from_none (word ps) a.tree (length ps) _ 1 _ (λ v o m. refl);
  tail = λ c l. refl;
}

pub rows_all : (ps old new : List ℕ) (w i : ℕ) → Room ps old w → AddingRows ps old w i new → i ≤ 2
    → RowsAdded ps old new w
rows_all ps old new w i a h l = record {
  long = h.long;
  totals = λ v j o m k. added_from_all (word ps) a.tree (length ps) (λ u. cell_at old w u j) 1
      (λ u. cell_at new w u j) i (omega (arith, h.from)) (h.columns j k) v o (omega arith) m;
  tail = h.tail;
}

module _ (ps old new : List ℕ) (w i : ℕ) (a : Room ps old w) (h : AddingRows ps old w i new) (l : 2 < i) where
  -- node i - 1 is next
  next : (j : ℕ) → j < w
      → AddedFrom 1 (word ps) (length ps) (λ u. cell_at old w u j) (λ u. cell_at new w u j) (i - 1 + 1)
  next j m =
      let e : i ≡ i - 1 + 1 = omega arith in
      subst (λ (k : ℕ). AddedFrom 1 (word ps) (length ps) (λ u. cell_at old w u j) (λ u. cell_at new w u j) k) e
      (h.columns j m)

  -- its parent has a row, and an earlier one
  pub rows_parent : (1 ≤ word ps (i - 1)) × (word ps (i - 1) < i - 1)
  rows_parent = (
    a.inner (i - 1) (omega arith) (omega (arith, h.to)),
    parent-lt (word ps) a.tree (i - 1) (omega arith),
  )

  module _ (p : ℕ) (e : p ≡ word ps (i - 1)) where
    pub rows_fit : RowsFit new ((p - 1) * w) ((i - 1 - 1) * w) w
    rows_fit = let q = rows_parent in record {
      apart = row_end (p - 1) (i - 1 - 1) w (omega arith);
      inside = omega (
        arith,
        a.inside,
        h.long,
        row_end (i - 1 - 1) (length ps - 1) w (omega (arith, h.to)),
      );
      near = row_near (i - 1 - 1) w (omega (arith, h.to, a.few)) a.narrow;
      narrow = a.narrow;
      fits = λ j m. omega (
        arith,
        ap (λ (v : ℕ). cell_at new w v j) e,
        added_from_le (word ps) a.tree (length ps) (λ u. cell_at old w u j) 1 (λ u. cell_at new w u j)
            (i - 1) (omega arith) (omega (arith, h.to)) q.0 (next j m),
        a.fits (word ps (i - 1)) j q.0 (omega (arith, h.to)) m,
      );
    }

    module _ (new' : List ℕ) (r : RowAdded new new' ((p - 1) * w) ((i - 1 - 1) * w) w) where
      -- another node's row lies before the parent's or after it
      other_row : (v j : ℕ) → 1 ≤ v → v ≢ p → j < w → cell_at new' w v j ≡ cell_at new w v j
      other_row v j o n m = elim (dec_lt v p) [
        | yes b ↦ r.before ((v - 1) * w + j) (omega (arith, row_end (v - 1) (p - 1) w (omega arith)))
        | no b ↦ r.after ((v - 1) * w + j) (omega (arith, row_end (p - 1) (v - 1) w (past (lt_of_not-le b))))
      ]
        where
          past : p < suc v → p - 1 < v - 1
          past b = omega (arith, n, rows_parent, e)

      pub rows_next : AddingRows ps old w (i - 1) new'
      rows_next = let q = rows_parent in record {
        from = omega arith;
        to = omega (arith, h.to);
        long = r.long ∙ h.long;
        columns = λ j m. added_from_next (word ps) a.tree (length ps) (λ u. cell_at old w u j) 1
            (λ u. cell_at new w u j) (λ u. cell_at new' w u j)
            (i - 1) (omega arith) (omega (arith, h.to)) q.0
            (rw (← e) (r.sums j m))
            (λ v o k n. other_row v j o (λ z. n (z ∙ e)) m)
            (next j m);
        tail = λ c m. r.after c (omega (
          arith,
          row_end (p - 1) (i - 1 - 1) w (omega arith),
          row_end (i - 1 - 1) (length ps - 1) w (omega (arith, h.to)),
        )) ∙ h.tail c m;
      }
