-- What the order of a view accepts.
-- Assumes nothing.
use Rattle.std.specs.Prelude.{◌≡◌, ◌↔◌, List, ◌++◌, ℕ, ◌≤◌}
use native.Mathlib.Omega.{arith}
use Rattle.sums.specs.theorems.TestLaws.{not-lt-iff}
use Rattle.tree_check.specs.Table.{Table, tips}
use Rattle.tree_check.specs.Refusals.{refusal}
use Rattle.tree_check.specs.theorems.RefusalLaws.{Kept, Numbered, accepted, kept_append, numbered_append}
use Rattle.pair_check.specs.PairOrder.{cells_needed, tables_order, work_order}
use Rattle.pair_check.specs.theorems.PairCheck.{tables_numbered, tables_kept}
use Rattle.levels.specs.Levels.{levels_order}
use Rattle.levels.specs.theorems.LevelsCheck.{levels_numbered, levels_kept}
use Rattle.views.specs.View.{view_order}
use Rattle.views.specs.theorems.ViewCheck.{LevelledPair}

work_iff : (t u : Table) (cells : ℕ) → Kept (work_order t u cells) ↔ (cells_needed t u ≤ cells)
unfolding work_order
work_iff t u cells = let l = not-lt-iff cells (cells_needed t u) in (λ k. l.0 k.0, λ h. (l.1 h, tt))

pub view_check : (t u : Table) (levels : List ℕ) (viewer cells : ℕ)
    → (refusal (view_order t u levels viewer cells) ≡ 0) ↔ LevelledPair t u levels viewer cells
unfolding view_order
view_check t u levels viewer cells =
    let rest = levels_order levels viewer (tips t) ++ work_order t u cells in
    let a = accepted (tables_order t u ++ rest) numbered in
    let b = kept_append (tables_order t u) rest in
    let c = kept_append (levels_order levels viewer (tips t)) (work_order t u cells) in
    let k = tables_kept t u in
    let m = levels_kept levels viewer (tips t) in
    let w = work_iff t u cells in (
      λ e. let r = b.0 (a.0 e) in let s = c.0 r.1 in record {
        with_cells = record { pair = k.0 r.0; room = w.0 s.1 };
        levelled = m.0 s.0;
      },
      λ h. a.1 (b.1 (k.1 h.with_cells.pair, c.1 (m.1 h.levelled, w.1 h.with_cells.room))),
    )
  where
    numbered : Numbered (tables_order t u ++ (levels_order levels viewer (tips t) ++ work_order t u cells))
    numbered = unfold work_order in numbered_append (tables_order t u) _ (tables_numbered t u)
        (numbered_append (levels_order levels viewer (tips t)) _ (levels_numbered levels viewer (tips t)) (omega arith, tt))
