-- The distance of two trees with every label kept, as code finds it, and of two trees of a list.
-- Assumes nothing.
use Rattle.std.specs.Prelude.{◌≡◌, List, ℕ, ◌≤◌, ◌<◌, length, take}
use Rattle.std.proofs.Common.{sym, ◌∙◌, subst, arith}
use Rattle.std.proofs.Math.Path.{ap, ap₂}
use Rattle.std.proofs.Math.Nat.{mul-le-mul}
use Rattle.table_words.specs.Sizes.{tips_most}
use Rattle.tree_check.specs.Table.{Table, tips}
use Rattle.tree_check.specs.theorems.RefusalLaws.{if_accepted_lem}
use Rattle.tree_lists.specs.TreeLists.{trees_of, tree_at, edges_at}
use Rattle.tree_lists.proofs.theorems.ListLaws.{largest-ge}
use Rattle.tree_lists.specs.theorems.ListCheck.{IsTreeList}
use Rattle.marks.proofs.theorems.Ones.{ones, ones-marks, ones-taken}
use Rattle.counting.specs.Labels.{all}
use Rattle.counting.specs.Kept.{kept}
use Rattle.counting.specs.Cases.{distance}
use Rattle.pair_check.specs.PairOrder.{cells_needed, IsPair, PairWithCells}
use Rattle.pair_check.specs.theorems.PairCheck.{pair_check}
use Rattle.tree_pairs.specs.Crossings.{crossed_kept, after_crossings}
use Rattle.quartets.specs.declared.tables.QuartetTable.{QuartetTable}
use Rattle.quartets.specs.QuartetAnswer.{quartet_answer}
use Rattle.quartets.proofs.theorems.AllMarksOne.{all-marks-one, ones_marked}
use Rattle.median_tree.specs.Nearest.{distance_of, list_cells}
use Rattle.median_tree.specs.lemmas.SameCells.{SameFrom}
use Rattle.median_tree.proofs.lemmas.SameCells.{same_later, same_crossed}
use Rattle.median_tree.specs.lemmas.Distances.{ListReady}

module _ (t u : Table) (p : IsPair t u) (n : ℕ) (e : n ≡ tips t) where
  pub marks_fit : n ≤ tips_most
  marks_fit = omega (arith, e, p.first.tips_range.1)

  marks_are : take n (ones tips_most) ≡ ones (tips t)
  marks_are = ones-taken n tips_most marks_fit ∙ ap ones e

  pub marks_lent : n ≡ length (take n (ones tips_most))
  marks_lent = sym (ap length (ones-taken n tips_most marks_fit) ∙ (ones-marks n).long)

  module _ (work : List ℕ) (room : cells_needed t u ≤ length work) where
    with_cells : PairWithCells t u (length work)
    with_cells = record { pair = p; room = room }

    pub told_distance : (r : QuartetTable) → r ≡ quartet_answer t u (take n (ones tips_most)) (length work) → (new : List ℕ)
        → new ≡ after_crossings t u (take n (ones tips_most)) work
        → (r.distance ≡ distance (all (tips t)) t u) × SameFrom (cells_needed t u) work new
    told_distance r h new g = (
      ap (λ (x : QuartetTable). x.distance) (h ∙ ap (λ (m : List ℕ). quartet_answer t u m (length work)) marks_are
          ∙ (all-marks-one t u (length work) with_cells).cases),
      subst (SameFrom (cells_needed t u) work) (sym (g ∙ ap (λ (m : List ℕ). after_crossings t u m work) marks_are ∙ written))
          (same_crossed (kept (ones (tips t)) (tips t)) t u work room),
    )
      where
        written : after_crossings t u (ones (tips t)) work ≡ crossed_kept t u (ones (tips t)) work
        written = unfold after_crossings in
            if_accepted_lem _ _ _ ((pair_check t u (ones (tips t)) (length work)).1 (ones_marked t u (length work) with_cells))

-- ---- two trees of a list

module _ (list : List ℕ) (s : IsTreeList list) (i j : ℕ) (li : i < trees_of list) (lj : j < trees_of list) where
  list_pair : IsPair (tree_at list i) (tree_at list j)
  list_pair = record {
    first = s.tree i li;
    second = s.tree j lj;
    same_tips = s.same_tips i li ∙ sym (s.same_tips j lj);
  }

  -- no two trees need more cells than the largest against itself
  list_room : cells_needed (tree_at list i) (tree_at list j) ≤ list_cells list
  unfolding list_cells edges_at
  list_room = mul-le-mul (largest-ge (trees_of list) (edges_at list) i li) (largest-ge (trees_of list) (edges_at list) j lj)

-- .. as they are lent
module _ (list starts : List ℕ) (n cells : ℕ) (w : ListReady list starts n cells) (i j : ℕ) (li : i < trees_of list) (lj : j < trees_of list)
    (t u : Table) (et : t ≡ tree_at list i) (eu : u ≡ tree_at list j) where
  pub pair_ready : IsPair t u × (n ≡ tips t) × (cells_needed t u ≤ cells)
  pair_ready = rw (et, eu) (
    list_pair list w.list_is i j li lj,
    w.tips_is ∙ sym (w.list_is.same_tips i li),
    omega (arith, list_room list w.list_is i j li lj, w.room),
  )

  pub told_apart : (old new : List ℕ) (r : ℕ) → r ≡ distance (all (tips t)) t u → SameFrom (cells_needed t u) old new
      → (r ≡ distance_of list i j) × SameFrom (list_cells list) old new
  unfolding distance_of
  told_apart old new r e f = (
    e ∙ ap (λ (m : ℕ). distance (all m) t u) (ap tips et ∙ w.list_is.same_tips i li)
        ∙ ap₂ (λ (x y : Table). distance (all (tips (tree_at list 0))) x y) et eu,
    same_later (cells_needed t u) (list_cells list) old new (rw (et, eu) (list_room list w.list_is i j li lj)) f,
  )

-- a call leaves the list ready
pub ready_still : {list starts : List ℕ} {n k : ℕ} {old new : List ℕ} → ListReady list starts n (length old) → SameFrom k old new
    → ListReady list starts n (length new)
ready_still w f = record {
  list_is = w.list_is;
  has_word = w.has_word;
  starts_are = w.starts_are;
  tips_is = w.tips_is;
  room = omega (arith, w.room, f.long);
}
