-- `beyond` on the walk that `walk` writes hands back exactly the labels beyond the edge.
-- Assumes nothing.
use Rattle.std.specs.Prelude.{◌≡◌, ℕ, ◌<◌, ◌≤◌, List, [], length, take, drop}
use Rattle.std.proofs.Common.{sym, ◌∙◌, arith}
use Rattle.std.proofs.Math.Path.{ap}
use Rattle.std.proofs.Math.ListN.{length-drop, length-append}
use Rattle.std.proofs.Math.Seq.{take-append-le}
use Rattle.std.proofs.lemmas.List.{drop-append-le}
use Rattle.tree_check.specs.Table.{Table, tips, nodes}
use Rattle.tree_check.specs.Refusals.{refusal}
use Rattle.tree_check.specs.theorems.RefusalLaws.{if_accepted_lem}
use Rattle.tree_check.specs.IsTree.{IsTree}
use Rattle.walks.specs.WalkOrders.{edge_order}
use Rattle.walks.specs.Walk.{walk_from, walk, walked, after_walk, below, start, part, part_beyond}
use Rattle.walks.specs.theorems.WalkOrderLaws.{edge_check}
use Rattle.walks.specs.theorems.WalkLaws.{walk-length, part_fits, part-walk}
use Rattle.walks.specs.lemmas.WalkOutcomes.{walk_accepted}

module _ (t : Table) (i : ℕ) (w : List ℕ) where
  -- an accepted edge has its part
  part_accepted : refusal (edge_order t i (length w)) ≡ 0 → part_beyond t i w ≡ part t i w
  unfolding part_beyond
  part_accepted e = if_accepted_lem _ (part t i w) [] e

module _ (t : Table) (g : IsTree t) (cells : List ℕ) (l : tips t ≤ length cells) (i : ℕ) (m : i < nodes t) where
  -- the part lies within the first n cells, so the cells from n on play no part
  pub part-walked : part t i (walked t cells) ≡ part t i (walk t)
  unfolding part walked
  part-walked =
      let f = part_fits t g i m in
      let k = walk-length t g in
      let rest = drop (tips t) cells in
      ap (take (below t i)) (drop-append-le (start t i) (walk t) rest (omega arith))
      ∙ take-append-le (below t i) (drop (start t i) (walk t)) rest
      (omega (arith, length-drop (start t i) (walk t)))

  -- `beyond` after `walk` hands back the walk from the node, which holds exactly the labels beyond the edge
  pub beyond_after_walk : 1 ≤ i → part_beyond t i (after_walk t cells) ≡ walk_from t i
  beyond_after_walk o =
      let a = walk_accepted t cells g l in
      let e = (edge_check t i (length (walked t cells))).1 (g, o, m, long) in
      ap (part_beyond t i) (sym a.1)
      ∙ part_accepted t i (walked t cells) e
      ∙ part-walked
      ∙ part-walk t g i m
    where
      long : tips t ≤ length (walked t cells)
      long = unfold walked in omega (arith, length-append (walk t) (drop (tips t) cells), walk-length t g)
