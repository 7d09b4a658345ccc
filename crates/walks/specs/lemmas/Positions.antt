-- Sizes added up the tree, positions found down it, and the place of a part of the walk.
-- Assumes nothing.
use Rattle.std.specs.Prelude.{◌≡◌, ℕ, zero, suc, ◌+◌, ◌-◌, ◌<◌, ◌≤◌, List, length, nat_lt, slice_set}
use Rattle.std.proofs.Math.Path.{refl}
use Rattle.std.proofs.Common.{sym, ◌∙◌, ap, add-one, arith, length-set, get_or-set_same, get_or-set_other}
use Rattle.std.proofs.Math.Decide.{ℕ_discrete}
use Rattle.table_words.specs.Sizes.{node_room, tips_most}
use Rattle.sums.specs.Bits.{bit}
use Rattle.sums.specs.theorems.BitLaws.{bit-T}
use Rattle.sums.specs.theorems.TestLaws.{lt_iff}
use Rattle.shapes.specs.theorems.Totals.{total}
use Rattle.shapes.proofs.theorems.Totals.{total_ext}
use Rattle.tree_check.specs.Table.{Table, word, tips, nodes, parent, label}
use Rattle.tree_check.specs.lemmas.TableParts.{table_of, tips_of_lem, nodes_of_lem}
use Rattle.walks.specs.declared.edges.PartBeyond.{PartBeyond}
use Rattle.walks.specs.Walk.{below, start, own}
use Rattle.walks.specs.theorems.AddUpLaws.{Addable, added_up_totals}
use Rattle.walks.specs.AddUp.{added_up}
use Rattle.walks.specs.theorems.WalkFrom.{own_length, below_total}
use Rattle.walks.specs.theorems.WalkLaws.{start-zero, part_fits}
use Rattle.walks.specs.theorems.Reach.{reach, reach-start, reach_new, reach_hit, reach_other, reach_end}
use Rattle.walks.specs.theorems.Reach.{reach-le}
use Rattle.walks.specs.lemmas.TreeArrays.{TreeArrays, parent_is, label_is, few_tips, few_nodes, rooted_parents}

-- where the labels of node i stand in a walk: the first cell, and how many
unfoldable pub placed : Table → ℕ → PartBeyond
placed t i = record { refusal = 0; start = start t i; count = below t i }

-- ---- sizes

-- 1 for each tip below node k, 0 for each inner node
pub record TipsMarked (n : ℕ) (ls : List ℕ) (k : ℕ) (cells : List ℕ) : Type 0 where
  pub long : length cells ≡ node_room
  pub marks : (v : ℕ) → v < k → word cells v ≡ bit (nat_lt (word ls v) n)

pub marked_next : (n : ℕ) (ls : List ℕ) (k : ℕ) (cells : List ℕ) (x : ℕ) → k < node_room → x ≡ bit (nat_lt (word ls k) n)
    → TipsMarked n ls k cells → TipsMarked n ls (k + 1) (slice_set cells k x)
marked_next n ls k cells x l e h = record {
  long = length-set cells k x ∙ h.long;
  marks = λ v m. elim (ℕ_discrete v k) [
    | yes d ↦ rw d (get_or-set_same cells k x 0 (omega (arith, h.long)) ∙ e)
    | no d ↦ get_or-set_other cells k v x 0 d ∙ h.marks v (omega arith)
  ];
}

pub record Sizes (t : Table) (cells : List ℕ) : Type 0 where
  pub sizes : (v : ℕ) → v < nodes t → word cells v ≡ below t v

-- ---- positions

-- where each node's labels end in the walk
pub record Ends (t : Table) (cells : List ℕ) : Type 0 where
  pub ends : (v : ℕ) → v < nodes t → word cells v ≡ start t v + below t v

-- where they have got to once the nodes below c have been placed
pub record Reached (t : Table) (c : ℕ) (cells : List ℕ) : Type 0 where
  pub long : length cells ≡ node_room
  pub reached : (v : ℕ) → v < c → word cells v ≡ reach t c v

-- ---- the loops over a tree table's arrays

module _ (n : ℕ) (ps ls : List ℕ) (a : TreeArrays n ps ls) where
  m_is : nodes (table_of n ps ls) ≡ length ps
  m_is = nodes_of_lem n ps ls

  module _ (cells : List ℕ) (h : TipsMarked n ls (length ls) cells) where
    -- a node's total of marks is the number of labels beyond it
    total-marks : (v : ℕ) → v < length ps
        → total (word ps) (length ps) (word cells) v ≡ below (table_of n ps ls) v
    total-marks v l =
        total_ext (word ps) (length ps) (word cells) (λ u. bit (nat_lt (word ls u) n)) v
        (λ u m. h.marks u (omega (arith, a.same)))
        ∙ sym (rw (
          below_total (table_of n ps ls) a.tree v (omega (arith, m_is)),
          parent_is n ps ls a,
          label_is n ps ls a,
          nodes_of_lem n ps ls,
          tips_of_lem n ps ls,
        ) refl)

    marks_addable : Addable ps cells
    marks_addable = record {
      tree = rooted_parents n ps ls a;
      some = omega (arith, few_nodes n ps ls a);
      few = omega (arith, few_nodes n ps ls a);
      long = h.long;
      fits = λ v l. omega (
        arith,
        total-marks v l,
        part_fits (table_of n ps ls) a.tree v (omega (arith, m_is)),
        tips_of_lem n ps ls,
        few_tips n ps ls a,
      );
    }

    pub sizes_added : (new : List ℕ) → new ≡ added_up ps cells → Sizes (table_of n ps ls) new
    sizes_added new e =
        let u = added_up_totals ps cells marks_addable in
        rw e (record {
          sizes = λ v l. u.totals v (omega (arith, m_is)) ∙ total-marks v (omega (arith, m_is));
        })

  own_is : (v : ℕ) → length (own (table_of n ps ls) v) ≡ bit (nat_lt (word ls v) n)
  own_is v = own_length (table_of n ps ls) v ∙ rw (label_is n ps ls a, tips_of_lem n ps ls) refl

  -- node 0 is a tip and begins the walk, whatever the other cells hold
  pub reached_first : (cells : List ℕ) → length cells ≡ node_room → Reached (table_of n ps ls) 1 (slice_set cells 0 1)
  reached_first cells l = record {
    long = length-set cells 0 1 ∙ l;
    reached = λ v m. let e : v ≡ 0 = omega arith in rw e (get_or-set_same cells 0 1 0 (omega (arith, l)) ∙ sym begun);
  }
    where
      begun : reach (table_of n ps ls) 1 0 ≡ 1
      begun = omega (
        arith,
        reach_new (table_of n ps ls) a.tree 0 (omega (arith, m_is, few_nodes n ps ls a)),
        start-zero (table_of n ps ls) a.tree,
        own_length (table_of n ps ls) 0,
        bit-T (nat_lt (label (table_of n ps ls) 0) (tips (table_of n ps ls)))
            ((lt_iff (label (table_of n ps ls) 0) (tips (table_of n ps ls))).1
            (omega (arith, a.tree.root_label, a.tree.tips_range))),
      )

  module _ (size cells : List ℕ) (z : Sizes (table_of n ps ls) size) where
    -- the two new positions: node c's and its parent's
    here : (w p o : ℕ) → suc w < length ps → p ≡ word ps (suc w) → o ≡ bit (nat_lt (word ls (suc w)) n)
        → Reached (table_of n ps ls) (suc w) cells
        → (word cells p + o ≡ reach (table_of n ps ls) (suc (suc w)) (suc w))
        × (word cells p + word size (suc w) ≡ reach (table_of n ps ls) (suc (suc w)) p)
    here w p o m e d h =
        let q : p ≡ parent (table_of n ps ls) (suc w) = e ∙ sym (ap (λ (f : ℕ → ℕ). f (suc w)) (parent_is n ps ls a)) in
        let low = (rooted_parents n ps ls a).falls w in
        let at : word cells p ≡ reach (table_of n ps ls) (suc w) (parent (table_of n ps ls) (suc w)) =
        h.reached p (omega arith) ∙ ap (reach (table_of n ps ls) (suc w)) q in (
          omega (
            arith,
            at,
            d,
            own_is (suc w),
            reach-start (table_of n ps ls) a.tree w,
            reach_new (table_of n ps ls) a.tree (suc w) (omega (arith, m_is)),
          ),
          omega (
            arith,
            at,
            z.sizes (suc w) (omega (arith, m_is)),
            reach_hit (table_of n ps ls) a.tree w (omega (arith, m_is)),
            ap (reach (table_of n ps ls) (suc (suc w))) q,
          ),
        )

    pub reached_fits : (c p o : ℕ) → 1 ≤ c → c < length ps → p ≡ word ps c → o ≡ bit (nat_lt (word ls c) n)
        → Reached (table_of n ps ls) c cells
        → (p < c) × (word cells p + o ≤ tips_most) × (word cells p + word size c ≤ tips_most)
    reached_fits zero p o l m e d h = absurd (omega arith)
    reached_fits (suc w) p o l m e d h =
        let low = (rooted_parents n ps ls a).falls w in
        let r = here w p o m e d h in
        let le = reach-le (table_of n ps ls) a.tree (suc (suc w)) in
        let few = few_tips n ps ls a in (
          omega arith,
          omega (arith, r.0, le (suc w) (omega (arith, m_is)) (omega (arith, m_is)), tips_of_lem n ps ls),
          omega (arith, r.1, le p (omega (arith, m_is)) (omega (arith, m_is)), tips_of_lem n ps ls),
        )

    pub reached_next : (c p o : ℕ) → 1 ≤ c → c < length ps → p ≡ word ps c → o ≡ bit (nat_lt (word ls c) n)
        → Reached (table_of n ps ls) c cells
        → Reached (table_of n ps ls) (c + 1) (slice_set (slice_set cells c (word cells p + o)) p (word cells p + word size c))
    reached_next zero p o l m e d h = absurd (omega arith)
    reached_next (suc w) p o l m e d h =
        let low = (rooted_parents n ps ls a).falls w in
        let few = few_nodes n ps ls a in
        let r = here w p o m e d h in
        let one = slice_set cells (suc w) (word cells p + o) in
        let k = length-set cells (suc w) (word cells p + o) ∙ h.long in
        rw (add-one (suc w)) (record {
          long = length-set one p (word cells p + word size (suc w)) ∙ k;
          reached = λ v q. elim (ℕ_discrete v p) [
            | yes f ↦ rw f (get_or-set_same one p (word cells p + word size (suc w)) 0 (omega (arith, k)) ∙ r.1)
            | no f ↦ get_or-set_other one p v (word cells p + word size (suc w)) 0 f ∙ elim (ℕ_discrete v (suc w)) [
              | yes g ↦ rw g (get_or-set_same cells (suc w) (word cells p + o) 0 (omega (arith, h.long)) ∙ r.0)
              | no g ↦ get_or-set_other cells (suc w) v (word cells p + o) 0 g
                  ∙ h.reached v (omega arith)
                  ∙ sym (reach_other (table_of n ps ls) a.tree (suc w) v (omega (arith, m_is))
                  (λ x. f (x ∙ ap (λ (u : ℕ → ℕ). u (suc w)) (parent_is n ps ls a) ∙ sym e)))
            ]
          ];
        })

  pub reached_all : (c : ℕ) (cells : List ℕ) → length ps ≤ c → c ≤ length ps → Reached (table_of n ps ls) c cells
      → Ends (table_of n ps ls) cells
  reached_all c cells l k h =
      let e : c ≡ nodes (table_of n ps ls) = omega (arith, m_is) in
      record {
        ends = λ v q. h.reached v (omega arith)
            ∙ ap (λ (i : ℕ). reach (table_of n ps ls) i v) e
            ∙ reach_end (table_of n ps ls) a.tree v q;
      }

-- ---- the part of a walk between a node's start and its end

module _ (n : ℕ) (ps ls : List ℕ) (a : TreeArrays n ps ls) (size end : List ℕ)
    (z : Sizes (table_of n ps ls) size) (e : Ends (table_of n ps ls) end) (i : ℕ) (l : i < length ps) where
  node : i < nodes (table_of n ps ls)
  node = omega (arith, nodes_of_lem n ps ls)

  pub part_bounds : (word size i ≤ word end i) × (word end i ≤ n)
  part_bounds = omega (
    arith,
    z.sizes i node,
    e.ends i node,
    part_fits (table_of n ps ls) a.tree i node,
    tips_of_lem n ps ls,
  )

  -- the place, from the size and the end
  pub place_between : (k from : ℕ) → k ≡ word size i → from ≡ word end i - k
      → record { refusal = 0; start = from; count = k } ≡ placed (table_of n ps ls) i
  unfolding placed
  place_between k from ek ef =
      let s : k ≡ below (table_of n ps ls) i = ek ∙ z.sizes i node in
      let f : from ≡ start (table_of n ps ls) i = omega (arith, s, e.ends i node) in
      rw (f, s) refl
