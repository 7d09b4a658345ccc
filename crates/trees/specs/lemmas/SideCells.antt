-- Cells marked at the nodes of four labels, to be added up the tree.
-- Assumes nothing.
use Rattle.std.specs.Prelude.{◌≡◌, List, Bool, true, false, ℕ, ◌+◌, ◌*◌, ◌≤◌, ◌<◌, eqb, length, set, replicate}
use Rattle.std.proofs.Common.{sym, ◌∙◌, ap, inl, inr, arith, length-set, get_or-set_same, get_or-set_other}
use Rattle.std.proofs.lemmas.List.{length-replicate, get_or-replicate}
use Rattle.table_words.specs.Sizes.{node_room}
use Rattle.sums.specs.Bits.{bit, is}
use Rattle.sums.specs.theorems.BitLaws.{bit_le, is_self, alike}
use Rattle.shapes.specs.Ancestors.{anc}
use Rattle.shapes.specs.theorems.Totals.{total}
use Rattle.shapes.proofs.theorems.Totals.{total_ext, total_none, total-add, total-mul_left, total_is}
use Rattle.tree_check.specs.Table.{word, node_below}
use Rattle.walks.specs.AddUp.{added_up}
use Rattle.walks.specs.theorems.AddUpLaws.{Addable, added_up_totals}
use Rattle.trees.specs.lemmas.Sides.{SidesAre}
use Rattle.trees.specs.lemmas.RootedArrays.{RootedArrays, node_found}

-- ---- cells and what they hold

-- k more in the cell at p
abbrev pub more : List ℕ → ℕ → ℕ → List ℕ
more cells p k = set cells p (word cells p + k)

more_at : (cells : List ℕ) (p k u : ℕ) → p < length cells
    → word (more cells p k) u ≡ word cells u + k * is p u
more_at cells p k u l = elim (alike p u) [
  | inl e ↦ rw (← e.0, is_self p) (get_or-set_same cells p (word cells p + k) 0 l ∙ omega arith)
  | inr d ↦ rw d.1 (get_or-set_other cells p u (word cells p + k) 0 (λ e. d.0 (sym e)) ∙ omega arith)
]

-- 1, 2, 4 and 8 more in the cells at x, y, z and w
abbrev pub marks : List ℕ → ℕ → ℕ → ℕ → ℕ → List ℕ
marks cells x y z w = more (more (more (more cells x 1) y 2) z 4) w 8

-- `node_room` cells of at most `top`
pub record Low (top : ℕ) (cells : List ℕ) : Type 0 where
  pub long : length cells ≡ node_room
  pub low : (u : ℕ) → u < node_room → word cells u ≤ top

pub low_zeros : Low 0 (replicate node_room 0)
low_zeros = record {
  long = length-replicate {A = ℕ} node_room 0;
  low = λ u l. omega (arith, get_or-replicate {A = ℕ} node_room u 0 0 l);
}

times_bit : (k : ℕ) (b : Bool) → k * bit b ≤ k
unfolding bit
times_bit k true = omega arith
times_bit k false = omega arith

module _ {top : ℕ} {cells : List ℕ} (h : Low top cells) (p k : ℕ) where
  low_more : p < node_room → Low (top + k) (more cells p k)
  low_more l = record {
    long = length-set cells p (word cells p + k) ∙ h.long;
    low = λ u m. omega (
      arith,
      more_at cells p k u (omega (arith, h.long)),
      h.low u m,
      times_bit k (eqb p u),
    );
  }

  -- a total with k more at node p
  total_more : (up : ℕ → ℕ) (m v : ℕ) → m ≤ node_room → p < m
      → total up m (word (more cells p k)) v ≡ total up m (word cells) v + k * bit (anc up v p)
  total_more up m v few l =
      total_ext up m _ _ v (λ u g. more_at cells p k u (omega (arith, h.long)))
      ∙ total-add up m (word cells) (λ u. k * is p u) v
      ∙ ap (λ (x : ℕ). total up m (word cells) v + x)
      (total-mul_left up m k (is p) v ∙ ap (λ (x : ℕ). k * x) (total_is up m p v l))

-- ---- the cells of the four labels

-- x, y, z, w are the nodes of the labels a, b, c, d
pub record FourNodes (ps ls : List ℕ) (a b c d x y z w : ℕ) : Type 0 where
  pub lists : RootedArrays ps ls
  pub xa : x ≡ node_below (word ls) (length ls) a
  pub yb : y ≡ node_below (word ls) (length ls) b
  pub zc : z ≡ node_below (word ls) (length ls) c
  pub wd : w ≡ node_below (word ls) (length ls) d

module _ {ps ls : List ℕ} {a b c d x y z w : ℕ} (n : FourNodes ps ls a b c d x y z w) where
  below : (v e : ℕ) → v ≡ node_below (word ls) (length ls) e → v < length ps
  below v e q = node_found ps ls n.lists e v q

  pub low_x : x < node_room
  low_x = omega (arith, below x a n.xa, n.lists.few)

  pub low_y : y < node_room
  low_y = omega (arith, below y b n.yb, n.lists.few)

  pub low_z : z < node_room
  low_z = omega (arith, below z c n.zc, n.lists.few)

  pub low_w : w < node_room
  low_w = omega (arith, below w d n.wd, n.lists.few)

  module _ {cells : List ℕ} (o : Low 0 cells) where
    one : Low 1 (more cells x 1)
    one = low_more o x 1 low_x

    two : Low 3 (more (more cells x 1) y 2)
    two = low_more one y 2 low_y

    three : Low 7 (more (more (more cells x 1) y 2) z 4)
    three = low_more two z 4 low_z

    -- no sum passes 15
    pub small_x : word cells x + 1 < 16
    small_x = omega (arith, o.low x low_x)

    pub small_y : word (more cells x 1) y + 2 < 16
    small_y = omega (arith, one.low y low_y)

    pub small_z : word (more (more cells x 1) y 2) z + 4 < 16
    small_z = omega (arith, two.low z low_z)

    pub small_w : word (more (more (more cells x 1) y 2) z 4) w + 8 < 16
    small_w = omega (arith, three.low w low_w)

    -- a node's total of the marks says which of the four labels lie beyond it
    total-marks : (v : ℕ) → total (word ps) (length ps) (word (marks cells x y z w)) v
        ≡ bit (anc (word ps) v x) + 2 * bit (anc (word ps) v y) + 4 * bit (anc (word ps) v z)
        + 8 * bit (anc (word ps) v w)
    total-marks v =
        let few = n.lists.few in
        omega (
          arith,
          total_none (word ps) (length ps) (word cells) v (λ u l. omega (arith, o.low u (omega arith))),
          total_more o x 1 (word ps) (length ps) v few (below x a n.xa),
          total_more one y 2 (word ps) (length ps) v few (below y b n.yb),
          total_more two z 4 (word ps) (length ps) v few (below z c n.zc),
          total_more three w 8 (word ps) (length ps) v few (below w d n.wd),
        )

    -- the totals fit
    marks_addable : Addable ps (marks cells x y z w)
    marks_addable = record {
      tree = n.lists.tree;
      some = n.lists.some;
      few = n.lists.few;
      long = (low_more three w 8 low_w).long;
      fits = λ v l. omega (
        arith,
        total-marks v,
        bit_le (anc (word ps) v x),
        bit_le (anc (word ps) v y),
        bit_le (anc (word ps) v z),
        bit_le (anc (word ps) v w),
      );
    }

    -- what adding them up leaves
    pub marks-added : (new : List ℕ) → new ≡ added_up ps (marks cells x y z w) → SidesAre ps ls a b c d new
    marks-added new e =
        let h = added_up_totals ps (marks cells x y z w) marks_addable in
        rw e (record {
          sides_is = λ v l. rw (← n.xa, ← n.yb, ← n.zc, ← n.wd) (h.totals v l ∙ total-marks v);
        })
