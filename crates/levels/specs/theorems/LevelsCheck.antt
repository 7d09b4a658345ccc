-- What the levels' order accepts, and which labels are visible.
-- Assumes nothing.
use Rattle.std.specs.Prelude.{◌≡◌, false, ◌↔◌, List, ℕ, ◌≤◌, ◌<◌, T, eqb, ltb, leb, length}
use Rattle.std.proofs.Common.{arith}
use Rattle.sums.specs.theorems.BitLaws.{T_false}
use Rattle.sums.specs.theorems.TestLaws.{and-iff, eq_iff, lt_iff, le_iff, not-lt-iff, not-not, not-some-iff}
use Rattle.tree_check.specs.Table.{Table, word, tips}
use Rattle.tree_check.specs.Refusals.{refusal}
use Rattle.tree_check.specs.IsTree.{IsTree}
use Rattle.tree_check.specs.theorems.RefusalLaws.{Kept, Numbered, accepted}
use Rattle.walks.specs.theorems.WalkOrderLaws.{after_tree}
use Rattle.levels.specs.Levels.{level_most, is_visible, levels_order}
use Rattle.levels.specs.ViewTopology.{levelled_order}

-- a label is visible exactly if it has a level, and that is not above the viewer's
pub visible-iff : (levels : List ℕ) (viewer x : ℕ)
    → T (is_visible levels viewer x) ↔ ((x < length levels) × (word levels x ≤ viewer))
unfolding is_visible
visible-iff levels viewer x =
    let a = and-iff (ltb x (length levels)) (leb (word levels x) viewer) in
    let l = lt_iff x (length levels) in
    let m = le_iff (word levels x) viewer in
    (λ v. let r = a.0 v in (l.0 r.0, m.0 r.1), λ h. a.1 (l.1 h.0, m.1 h.1))

-- a label without a level is hidden
pub none_past : (levels : List ℕ) (viewer x : ℕ) → length levels ≤ x → is_visible levels viewer x ≡ false
none_past levels viewer x l = T_false (is_visible levels viewer x) (λ v. omega (arith, l, ((visible-iff levels viewer x).0 v).0))

-- ---- 37

-- n levels, each 0 to 3, and such a level of the viewer
pub record AreLevels (levels : List ℕ) (viewer n : ℕ) : Type 0 where
  pub long : length levels ≡ n
  pub low : (x : ℕ) → x < n → word levels x ≤ level_most
  pub viewer_low : viewer ≤ level_most

pub levels_numbered : (levels : List ℕ) (viewer n : ℕ) → Numbered (levels_order levels viewer n)
unfolding levels_order
levels_numbered levels viewer n = (omega arith, (omega arith, (omega arith, tt)))

pub levels_kept : (levels : List ℕ) (viewer n : ℕ) → Kept (levels_order levels viewer n) ↔ AreLevels levels viewer n
unfolding levels_order
levels_kept levels viewer n =
    let e = eq_iff (length levels) n in
    let d = not-not (eqb (length levels) n) in
    let s = not-some-iff n (λ x. ltb level_most (word levels x)) in
    let v = not-lt-iff level_most viewer in (
      λ k. record {
        long = e.0 (d.0 k.0);
        low = λ x l. (not-lt-iff level_most (word levels x)).0 (s.0 k.1.0 x l);
        viewer_low = v.0 k.1.1.0;
      },
      λ h. (
        d.1 (e.1 h.long),
        (s.1 (λ x l. (not-lt-iff level_most (word levels x)).1 (h.low x l)), (v.1 h.viewer_low, tt)),
      ),
    )

-- accepted exactly if there are n levels of 0 to 3, and the viewer's is one
pub levels_check : (levels : List ℕ) (viewer n : ℕ) → (refusal (levels_order levels viewer n) ≡ 0) ↔ AreLevels levels viewer n
levels_check levels viewer n =
    let a = accepted (levels_order levels viewer n) (levels_numbered levels viewer n) in
    let k = levels_kept levels viewer n in
    (λ e. k.0 (a.0 e), λ h. a.1 (k.1 h))

-- .. of a tree table
pub levelled_check : (t : Table) (levels : List ℕ) (viewer : ℕ)
    → (refusal (levelled_order t levels viewer) ≡ 0) ↔ (IsTree t × AreLevels levels viewer (tips t))
unfolding levelled_order
levelled_check t levels viewer =
    let a = after_tree t (levels_order levels viewer (tips t)) (levels_numbered levels viewer (tips t)) in
    let k = levels_kept levels viewer (tips t) in
    (λ e. let r = a.0 e in (r.0, k.0 r.1), λ h. a.1 (h.0, k.1 h.1))
