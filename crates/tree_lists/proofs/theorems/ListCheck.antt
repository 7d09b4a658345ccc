-- The order of a list accepts exactly the lists of 2 to 16 tree tables with the same n.
-- Assumes nothing.
use Rattle.std.specs.Prelude.{◌≡◌, refl, not, ◌&&◌, ◌↔◌, List, [], ◌∷◌, ℕ, zero, suc, ◌≤◌, T, eqb, leb, length}
use Rattle.std.proofs.Common.{arith}
use Rattle.sums.specs.theorems.TestLaws.{and-iff, nor_iff, eq_iff, le_iff, not-lt-iff, not-not, not-some-iff}
use Rattle.tree_check.specs.Table.{tips}
use Rattle.tree_check.specs.Refusals.{refusal, if_accepted}
use Rattle.tree_check.specs.IsTree.{IsTree}
use Rattle.tree_check.specs.TreeOrder.{tree_order}
use Rattle.tree_check.specs.theorems.RefusalLaws.{Kept, accepted, if_accepted_lem}
use Rattle.tree_check.specs.theorems.TreeCheck.{tree_check}
use Rattle.tree_lists.specs.TreeLists.{trees_most, trees_of, start_of, tree_at, wrong_tree, list_order}
use Rattle.tree_lists.specs.CheckedList.{measured_list, refused_list, checked_list}
use Rattle.tree_lists.proofs.theorems.ListLaws.{start_inside}
use Rattle.tree_lists.specs.theorems.ListCheck.{IsTreeList}

-- tree i is right
right_tree : (list : List ℕ) (n i : ℕ) → T (not (wrong_tree list n i)) ↔ (IsTree (tree_at list i) × (tips (tree_at list i) ≡ n))
unfolding wrong_tree
right_tree list n i =
    let k = refusal (tree_order (tree_at list i)) in
    let o = nor_iff (not (eqb k 0)) (not (eqb (tips (tree_at list i)) n)) in
    let a = not-not (eqb k 0) in
    let b = not-not (eqb (tips (tree_at list i)) n) in
    let e = eq_iff k 0 in
    let f = eq_iff (tips (tree_at list i)) n in
    let t = tree_check (tree_at list i) in (
      λ h. let r = o.0 h in (t.0 (e.0 (a.0 r.0)), f.0 (b.0 r.1)),
      λ h. o.1 (a.1 (e.1 (t.1 h.0)), b.1 (f.1 h.1)),
    )

-- a list with trees has a word
pub has_word : (list : List ℕ) → 2 ≤ trees_of list → 1 ≤ length list
unfolding trees_of
has_word [] l = absurd (omega arith)
has_word (x ∷ xs) l = omega arith

pub list-kept : (list : List ℕ) → Kept (list_order list) ↔ IsTreeList list
unfolding list_order
list-kept list =
    let k = trees_of list in
    let n = not-not (leb 2 k && leb k trees_most) in
    let b = and-iff (leb 2 k) (leb k trees_most) in
    let lo = le_iff 2 k in
    let hi = le_iff k trees_most in
    let s = not-some-iff k (wrong_tree list (tips (tree_at list 0))) in
    let r = right_tree list (tips (tree_at list 0)) in
    let w = not-lt-iff (start_of list k) (length list) in (
      λ h. let q = b.0 (n.0 h.0) in record {
        some_trees = lo.0 q.0;
        few_trees = hi.0 q.1;
        tree = λ i l. ((r i).0 (s.0 h.1.0 i l)).0;
        same_tips = λ i l. ((r i).0 (s.0 h.1.0 i l)).1;
        whole = omega (arith, w.0 h.1.1.0, start_inside list (has_word list (lo.0 q.0)) k);
      },
      λ h. (
        n.1 (b.1 (lo.1 h.some_trees, hi.1 h.few_trees)),
        (s.1 (λ i l. (r i).1 (h.tree i l, h.same_tips i l)), (w.1 (omega (arith, h.whole)), tt)),
      ),
    )

pub list_check : (list : List ℕ) → (refusal (list_order list) ≡ 0) ↔ IsTreeList list
unfolding list_order
list_check list =
    let a = accepted (list_order list) (omega arith, (omega arith, (omega arith, tt))) in
    let b = list-kept list in
    (λ e. b.0 (a.0 e), λ h. a.1 (b.1 h))

-- ---- what the check tells

own_number : (list : List ℕ) (k : ℕ) → (if_accepted k (measured_list list) (refused_list k)).refusal ≡ k
unfolding if_accepted
own_number list zero = refl
own_number list (suc k) = refl

pub number_told : (list : List ℕ) → (checked_list list).refusal ≡ refusal (list_order list)
unfolding checked_list
number_told list = own_number list (refusal (list_order list))

pub list_told : (list : List ℕ) → IsTreeList list → checked_list list ≡ measured_list list
unfolding checked_list
list_told list h = if_accepted_lem _ _ _ ((list_check list).1 h)
