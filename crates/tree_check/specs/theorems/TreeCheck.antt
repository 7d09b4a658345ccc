-- The tree check accepts exactly the tree tables.
-- Assumes nothing.
use Rattle.std.specs.Prelude.{◌≡◌, refl, ◌&&◌, ◌⊎◌, ◌≢◌, ◌↔◌, List, T, ltb, leb, length}
use Rattle.std.proofs.Common.{◌∙◌, lt_of_not-le, eq-zero-or-pos, arith, le-ltb, eq-eqb, ne_eqb}
use Rattle.std.proofs.Math.Path.{ap}
use Rattle.std.proofs.Math.Bool.{Bool}
use Rattle.std.proofs.Math.Logic.{inl, inr}
use Prim.Native.Nat.{ℕ, zero, suc, ◌+◌, ◌*◌, ◌≤◌, ◌<◌}
use Rattle.std.proofs.Math.Decide.{dec_le, ℕ_discrete}
use Rattle.std.proofs.Math.Dec.{eqb, T_not, not_T}
use Rattle.table_words.specs.Sizes.{inner_label, node_room, tips_most}
use Rattle.sums.specs.Counts.{count}
use Rattle.sums.specs.theorems.CountLaws.{count_none, count-pos, count_once}
use Rattle.sums.specs.theorems.TestLaws.{and-iff, or-iff, not-not, eq_iff, le_iff, lt_iff, not-lt-iff}
use Rattle.sums.specs.Tests.{some, every}
use Rattle.sums.specs.theorems.TestLaws.{some-iff, every-iff}
use Rattle.tree_check.specs.Table.{Table, tips, nodes, parent, label}
use Rattle.tree_check.specs.Refusals.{refusal}
use Rattle.tree_check.specs.theorems.RefusalLaws.{Kept, Numbered, accepted}
use Rattle.tree_check.specs.IsTree.{IsTree, Child, StandsOnce}
use Rattle.tree_check.specs.TreeOrder.{tips_fit, nodes_fit, parent_fits, label_fits, standing, labels_fit, labels_once, is_child}
use Rattle.tree_check.specs.TreeOrder.{children, misplaced, arrays_order, tree_order}

-- ---- the rules as tests: n tips and m nodes, `up` gives the parent words and `lab` the labels

-- arrays of one length, short enough to be counted in `node_room` cells
pub record ArraysFit (ps ls : List ℕ) (n : ℕ) : Type 0 where
  pub same : length ls ≡ length ps
  pub some : 1 ≤ length ps
  pub few : length ps ≤ node_room
  pub tips_few : n ≤ node_room

-- ---- what each test says

pub tips-iff : (n : ℕ) → T (tips_fit n) ↔ (2 ≤ n) × (n ≤ tips_most)
unfolding tips_fit
tips-iff n = let a = and-iff (leb 2 n) (leb n tips_most) in (
  λ h. let r = a.0 h in ((le_iff 2 n).0 r.0, (le_iff n tips_most).0 r.1),
  λ h. a.1 ((le_iff 2 n).1 h.0, (le_iff n tips_most).1 h.1),
)

pub nodes-iff : (n m : ℕ) → T (nodes_fit n m) ↔ (n ≤ m) × (m ≤ 4 * n)
unfolding nodes_fit
nodes-iff n m = let a = and-iff (leb n m) (leb m (4 * n)) in (
  λ h. let r = a.0 h in ((le_iff n m).0 r.0, (le_iff m (4 * n)).0 r.1),
  λ h. a.1 ((le_iff n m).1 h.0, (le_iff m (4 * n)).1 h.1),
)

early_parent-iff : (i p : ℕ) → i < 2 → T (parent_fits i p) ↔ (p ≡ 0)
unfolding parent_fits
early_parent-iff zero p l = eq_iff p 0
early_parent-iff (suc zero) p l = eq_iff p 0
early_parent-iff (suc (suc i)) p l = absurd (omega arith)

later_parent-iff : (i p : ℕ) → 2 ≤ i → T (parent_fits i p) ↔ (1 ≤ p) × (p < i)
unfolding parent_fits
later_parent-iff i p l = rw (le-ltb i 2 l, parent_fits) (
    let a = and-iff (leb 1 p) (ltb p i) in (
      λ h. let r = a.0 h in ((le_iff 1 p).0 r.0, (lt_iff p i).0 r.1),
      λ h. a.1 ((le_iff 1 p).1 h.0, (lt_iff p i).1 h.1),
    ))

label-iff : (n l : ℕ) → T (label_fits n l) ↔ (l ≡ inner_label) ⊎ (l < n)
unfolding label_fits
label-iff n l = let o = or-iff (eqb l inner_label) (ltb l n) in (
  λ h. elim (o.0 h) [ inl e ↦ inl ((eq_iff l inner_label).0 e) | inr m ↦ inr ((lt_iff l n).0 m) ],
  λ h. o.1 (elim h [ inl e ↦ inl ((eq_iff l inner_label).1 e) | inr m ↦ inr ((lt_iff l n).1 m) ]),
)

labels-iff : (n m : ℕ) (lab : ℕ → ℕ) → T (labels_fit n m lab)
    ↔ (lab 0 ≡ 0) × ((i : ℕ) → i < m → T (label_fits n (lab i)))
unfolding labels_fit
labels-iff n m lab =
    let fits : ℕ → Bool = λ i. label_fits n (lab i) in
    let b = and-iff (eqb (lab 0) 0) (every m fits) in
    let e = every-iff m fits in (
      λ h. let q = b.0 h in ((eq_iff (lab 0) 0).0 q.0, e.0 q.1),
      λ h. b.1 ((eq_iff (lab 0) 0).1 h.0, e.1 h.1),
    )

labels_once-iff : (n m : ℕ) (lab : ℕ → ℕ) → T (labels_once n m lab) ↔ ((x : ℕ) → x < n → T (eqb (standing m lab x) 1))
unfolding labels_once
labels_once-iff n m lab = every-iff n (λ x. eqb (standing m lab x) 1)

module _ (t : Table) where
  once_iff : (x : ℕ) → T (eqb (standing (nodes t) (label t) x) 1) ↔ StandsOnce t x
  unfolding standing
  once_iff x =
      let q : ℕ → Bool = λ i. eqb (label t i) x in
      let e = eq_iff (count (nodes t) q) 1 in
      let c = count_once (nodes t) q in (
        λ h. let r = c.0 (e.0 h) in
            record {
              at = r.0;
              node = r.1;
              labelled = (eq_iff (label t r.0) x).0 r.2;
              only = λ j l d. r.3 j l ((eq_iff (label t j) x).1 d);
            },
        λ s. e.1 (c.1 (
          s.at,
          s.node,
          (eq_iff (label t s.at) x).1 s.labelled,
          λ j l d. s.only j l ((eq_iff (label t j) x).0 d),
        )),
      )

  pub child_iff : (i j : ℕ) → j < nodes t → T (is_child (parent t) i j) ↔ Child t i j
  unfolding is_child
  child_iff i j l = let a = and-iff (leb 1 j) (eqb (parent t j) i) in (
    λ h. let r = a.0 h in
        record { other = (le_iff 1 j).0 r.0; node = l; below = (eq_iff (parent t j) i).0 r.1 },
    λ c. a.1 ((le_iff 1 j).1 c.other, (eq_iff (parent t j) i).1 c.below),
  )

  childless_iff : (i : ℕ) → (children (nodes t) (parent t) i ≡ 0) ↔ ((j : ℕ) → Child t i j → ⊥)
  unfolding children
  childless_iff i = let c = count_none (nodes t) (is_child (parent t) i) in (
    λ e j d. c.0 e j d.node ((child_iff i j d.node).1 d),
    λ h. c.1 (λ j l p. h j ((child_iff i j l).0 p)),
  )

  a_child_iff : (i : ℕ) → (1 ≤ children (nodes t) (parent t) i) ↔ (j : ℕ) × Child t i j
  unfolding children
  a_child_iff i = let c = count-pos (nodes t) (is_child (parent t) i) in (
    λ h. let r = c.0 h in (r.0, (child_iff i r.0 r.1).0 r.2),
    λ r. c.1 (r.0, r.1.node, (child_iff i r.0 r.1.node).1 r.1),
  )

placed-iff : (i l k : ℕ) → (T (misplaced i l k) → ⊥) ↔ (1 ≤ i → l ≢ inner_label → k ≡ 0) × (l ≡ inner_label → 1 ≤ k)
placed-iff i l k = elim (ℕ_discrete l inner_label) [
  | yes e ↦ rw (inner e) (
    λ h. (λ o d. absurd (d e), λ q. (not-lt-iff k 1).0 (not_T (ltb k 1) h)),
    λ h t. omega (arith, (lt_iff k 1).0 t, h.1 e),
  )
  | no d ↦ rw (tip d) (let a = and-iff (leb 1 i) (leb 1 k) in (
    λ h. (
      λ o q. elim (eq-zero-or-pos k) [ inl z ↦ z | inr p ↦ absurd (h (a.1 ((le_iff 1 i).1 o, (le_iff 1 k).1 p))) ],
      λ e. absurd (d e),
    ),
    λ h t. let r = a.0 t in omega (arith, (le_iff 1 k).0 r.1, h.0 ((le_iff 1 i).0 r.0) d),
  ))
]
  where
    inner : l ≡ inner_label → misplaced i l k ≡ ltb k 1
    inner e = unfold misplaced in rw (eq-eqb l inner_label e, misplaced)

    tip : l ≢ inner_label → misplaced i l k ≡ (leb 1 i && leb 1 k)
    tip d = unfold misplaced in rw (ne_eqb l inner_label d, misplaced)

-- ---- the theorem

pub tree_numbered : (t : Table) → Numbered (tree_order t)
unfolding tree_order arrays_order
tree_numbered t = (
  omega arith,
  (omega arith, (omega arith, (omega arith, (omega arith, (omega arith, (omega arith, (omega arith, tt))))))),
)

module _ (t : Table) where
  kids : ℕ → ℕ
  kids i = children (nodes t) (parent t) i

  fits : ℕ → Bool
  fits i = parent_fits i (parent t i)

  bad : ℕ → Bool
  bad i = misplaced i (label t i) (kids i)

  parents-kept : IsTree t → (i : ℕ) → i < nodes t → T (fits i)
  unfolding fits
  parents-kept g zero l = (early_parent-iff 0 (parent t 0) (omega arith)).1 g.root_parent
  parents-kept g (suc zero) l = (early_parent-iff 1 (parent t 1) (omega arith)).1 ((g.root_child 1).1 refl).below
  parents-kept g (suc (suc i)) l =
      (later_parent-iff (suc (suc i)) (parent t (suc (suc i))) (omega arith)).1
      (g.parents_range (suc (suc i)) (omega arith) l)

  pub tree_kept : IsTree t → Kept (tree_order t)
  unfolding tree_order arrays_order kids fits bad
  tree_kept g = (
    (not-lt-iff (length t) 2).1 (omega (arith, g.words)),
    (
      (not-not (tips_fit (tips t))).1 ((tips-iff (tips t)).1 g.tips_range),
      (
        (not-not (nodes_fit (tips t) (nodes t))).1 ((nodes-iff (tips t) (nodes t)).1 g.nodes_range),
        (
          (not-not (eqb (length t) (2 + 2 * nodes t))).1 ((eq_iff (length t) (2 + 2 * nodes t)).1 g.words),
          (
            (not-not (every (nodes t) fits)).1 ((every-iff (nodes t) fits).1 (parents-kept g)),
            (
              (not-not (labels_fit (tips t) (nodes t) (label t))).1 ((labels-iff (tips t) (nodes t) (label t)).1 (
                g.root_label,
                λ i l. (label-iff (tips t) (label t i)).1 (g.labels_range i l),
              )),
              (
                (not-not (labels_once (tips t) (nodes t) (label t))).1 ((labels_once-iff (tips t) (nodes t) (label t)).1
                    (λ x l. (once_iff t x).1 (g.once x l))),
                (
                  not_T (some (nodes t) bad) (λ h. let r = (some-iff (nodes t) bad).0 h in fine r.0 r.1 r.2),
                  tt,
                ),
              ),
            ),
          ),
        ),
      ),
    ),
  )
    where
      below : (i : ℕ) → i < nodes t → label t i ≢ inner_label → label t i < tips t
      below i l d = elim (g.labels_range i l) [ inl e ↦ absurd (d e) | inr q ↦ q ]

      fine : (i : ℕ) → i < nodes t → T (misplaced i (label t i) (kids i)) → ⊥
      fine i l = (placed-iff i (label t i) (kids i)).1 (
        λ o d. (childless_iff t i).1 (g.tip_bare i o l (below i l d)),
        λ e. (a_child_iff t i).1 (g.inner_child i l e),
      )

  pub kept_tree : Kept (tree_order t) → IsTree t
  unfolding tree_order arrays_order kids fits bad
  kept_tree (k1, (k2, (k3, (k4, (k5, (k6, (k31, (k7, z)))))))) =
      let n = (tips-iff (tips t)).0 ((not-not (tips_fit (tips t))).0 k2) in
      let m = (nodes-iff (tips t) (nodes t)).0 ((not-not (nodes_fit (tips t) (nodes t))).0 k3) in
      let p = (every-iff (nodes t) fits).0 ((not-not (every (nodes t) fits)).0 k5) in
      let p1 = (early_parent-iff 1 (parent t 1) (omega arith)).0 (p 1 (omega (arith, n, m))) in
      let l = (labels-iff (tips t) (nodes t) (label t)).0 ((not-not (labels_fit (tips t) (nodes t) (label t))).0 k6) in
      let o = (labels_once-iff (tips t) (nodes t) (label t)).0 ((not-not (labels_once (tips t) (nodes t) (label t))).0 k31) in
      record {
        words = (eq_iff (length t) (2 + 2 * nodes t)).0 ((not-not (eqb (length t) (2 + 2 * nodes t))).0 k4);
        tips_range = n;
        nodes_range = m;
        root_label = l.0;
        root_parent = (early_parent-iff 0 (parent t 0) (omega arith)).0 (p 0 (omega (arith, n, m)));
        root_child = λ j. (
          λ c. only j c (dec_le 2 j) (λ q. (later_parent-iff j (parent t j) q).0 (p j c.node)),
          λ e. record { other = omega arith; node = omega (arith, n, m); below = ap (parent t) e ∙ p1 },
        );
        parents_range = λ i q b. (later_parent-iff i (parent t i) q).0 (p i b);
        labels_range = λ i b. (label-iff (tips t) (label t i)).0 (l.1 i b);
        once = λ x b. (once_iff t x).0 (o x b);
        tip_bare = λ i q b s. (childless_iff t i).0 ((fine i b).0 q (λ e. omega (arith, e, n)));
        inner_child = λ i b s. (a_child_iff t i).0 ((fine i b).1 s);
      }
    where
      fine : (i : ℕ) → i < nodes t
          → (1 ≤ i → label t i ≢ inner_label → kids i ≡ 0) × (label t i ≡ inner_label → 1 ≤ kids i)
      fine i b = (placed-iff i (label t i) (kids i)).0 (λ h.
          T_not (some (nodes t) bad) k7 ((some-iff (nodes t) bad).1 (i, b, h)))

      only : (j : ℕ) → Child t 0 j → Dec (2 ≤ j) → (2 ≤ j → (1 ≤ parent t j) × (parent t j < j)) → j ≡ 1
      only j c (yes q) h = absurd (omega (arith, (h q).0, c.below))
      only j c (no q) h = omega (arith, lt_of_not-le q, c.other)

  -- the tree check accepts exactly the tree tables
  pub tree_check : (refusal (tree_order t) ≡ 0) ↔ IsTree t
  tree_check =
      let a = accepted (tree_order t) (tree_numbered t) in
      (λ e. kept_tree (a.0 e), λ g. a.1 (tree_kept g))
