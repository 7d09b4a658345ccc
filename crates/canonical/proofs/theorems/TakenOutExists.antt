-- Every tree table has one with its pass-through nodes taken out: its canonical copy with all marks 1.
-- Assumes nothing.
use Rattle.std.specs.Prelude.{◌≡◌, refl, not, ℕ, ◌-◌, ◌<◌, T}
use Rattle.std.proofs.Common.{sym, ◌∙◌, subst, inl, inr, arith, T_not}
use Rattle.std.proofs.Math.Path.{ap}
use Rattle.std.proofs.Math.Decide.{ℕ_discrete}
use Rattle.sums.specs.Bits.{bit}
use Rattle.sums.specs.theorems.BitLaws.{bit-T}
use Rattle.sums.specs.theorems.TestLaws.{T_dec}
use Rattle.shapes.specs.Ancestors.{anc}
use Rattle.shapes.specs.Splits.{SameSides, same, SameSplits}
use Rattle.shapes.proofs.theorems.SplitLaws.{split_moves}
use Rattle.shapes.proofs.theorems.SameSplits.{same_splits_trans}
use Rattle.shapes.proofs.theorems.AncestorLaws.{anc-le}
use Rattle.tree_check.specs.Table.{Table, tips, nodes, parent, label, node_of, beyond}
use Rattle.tree_check.specs.IsTree.{IsTree, Child}
use Rattle.walks.specs.theorems.NodeLabels.{node_at, node_only}
use Rattle.marks.specs.Marks.{is_kept}
use Rattle.marks.proofs.theorems.Ones.{ones, ones_keep}
use Rattle.counting.specs.Labels.{Labels}
use Rattle.counting.specs.Kept.{kept}
use Rattle.counting.specs.SplitCounts.{beyond_at}
use Rattle.counting.proofs.theorems.KeptLaws.{kept-rising, all_kept-number, all_kept_at}
use Rattle.counting.specs.theorems.PassThrough.{PassThrough, NextAbove, TakenOut}
use Rattle.canonical.specs.Copying.{tip, stays, copy_size, number, over, at, label_word, copy_of}
use Rattle.canonical.specs.theorems.Branches.{TipRooted, Branch}
use Rattle.canonical.proofs.theorems.Branches.{passed, full_of, tip_of, tip-label, tip_stays, two_stay, stays_cases}
use Rattle.canonical.proofs.theorems.Clusters.{some-label}
use Rattle.canonical.proofs.theorems.Positions.{number_lt, at_is, at_number}
use Rattle.canonical.specs.theorems.Over.{IsOver}
use Rattle.canonical.proofs.theorems.Over.{is_over}
use Rattle.canonical.proofs.theorems.CopyTree.{copy_tips, copy_nodes, copy_parent, label-number, place_pos, word-tip, word_inner}
use Rattle.canonical.proofs.theorems.Copies.{table_tip_rooted, copy_only}
use Rattle.canonical.proofs.theorems.CopyCanonical.{copy_canonical, copy_splits}
use Rattle.canonical.specs.IsCopy.{IsCopy}
use Rattle.canonical.specs.CanonicalCopy.{canonical_copy}

module _ (t : Table) (g : IsTree t) where
  abbrev up : ℕ → ℕ
  up = parent t

  abbrev m : ℕ
  m = nodes t

  abbrev n : ℕ
  n = tips t

  abbrev node : ℕ → ℕ
  node = λ x. node_of t x

  h : TipRooted (parent t) (nodes t) (λ x. node_of t x) (tips t)
  h = table_tip_rooted t g (λ x. x) (tips t) g.tips_range.0 (λ x l. l) (λ x y lx ly e. e) refl

  -- the copy with all labels
  abbrev u : Table
  u = copy_of (parent t) (nodes t) (λ x. node_of t x) (tips t)

  abbrev keeps : ℕ → Type 0
  keeps v = T (stays up m node n v)

  -- each child has a label at it or below
  child_branch : (i c : ℕ) → Child t i c → Branch up m node n i c
  unfolding beyond
  child_branch i c q =
      let x = some-label t g c q.node in
      record { pos = q.other; below = q.below; holds = full_of up m node n h c x.0 x.1 x.2 }

  -- a node stays exactly if it is no pass-through node
  stays_through : (i : ℕ) → i < m → keeps i → PassThrough t i → ⊥
  stays_through i l s p = elim (stays_cases up m node n h i s) [
    | inl a ↦ (
        let x = tip-label up m node n h i a in
        let q = node_at t g x.0 x.1 in
        let few = g.tips_range in
        omega (arith, p.inner, q.1, ap (label t) x.2, x.1))
    | inr b ↦ omega (
      arith,
      b.2,
      p.single b.0 (child b.0 (omega (arith, b.2, b.3)) b.4),
      p.single b.1 (child b.1 b.3 b.5),
    )
  ]
    where
      child : (c : ℕ) → c < m → Branch up m node n i c → Child t i c
      child c lc q = record { other = q.pos; node = lc; below = q.below }

  gone_through : (i : ℕ) → i < m → T (not (stays up m node n i)) → PassThrough t i
  gone_through i l z = elim (g.labels_range i l) [
    | inr q ↦ absurd (T_not (stays up m node n i) z (tip_stays up m node n h i
        (subst (λ (v : ℕ). T (tip up m node n v)) (node_only t g (label t i) i q l refl) (tip_of up m node n h (label t i) q))))
    | inl e ↦ (
        let c = g.inner_child i l e in
        record {
          inner = e;
          child = c.0;
          below = c.1;
          single = λ j q. elim (ℕ_discrete j c.0) [
            | yes d ↦ d
            | no d ↦ absurd (T_not (stays up m node n i) z
                (two_stay up m node n h i j c.0 q.node c.1.node d (child_branch i j q) (child_branch i c.0 c.1)))
          ];
        })
  ]

  -- the label of a node that stays
  same_label : (v : ℕ) → v < m → keeps v → label u (number up m node n v) ≡ label t v
  same_label v l s = label-number up m node n h v l s ∙ elim (g.labels_range v l) [
    | inr q ↦ (let e = node_only t g (label t v) v q l refl in
        subst (λ (w : ℕ). label_word up m node n w ≡ label t v) e (word-tip up m node n h (label t v) q))
    | inl e ↦ elim (T_dec (tip up m node n v)) [
      | inr z ↦ word_inner up m node n h v z ∙ sym e
      | inl y ↦ (
          let x = tip-label up m node n h v y in
          let few = g.tips_range in
          absurd (omega (arith, e, (node_at t g x.0 x.1).1, ap (label t) x.2, x.1)))
    ]
  ]

  taken_out : TakenOut t u
  taken_out = record {
    same_tips = sym (copy_tips up m node n h);
    node = at up m node n;
    kept = λ i l. let p = at_is up m node n h i (omega (arith, copy_nodes up m node n h)) in
        (p.0, stays_through (at up m node n i) p.0 p.1);
    different = λ i j li lj e.
        let p = at_is up m node n h i (omega (arith, copy_nodes up m node n h)) in
        let q = at_is up m node n h j (omega (arith, copy_nodes up m node n h)) in
        sym p.2 ∙ ap (number up m node n) e ∙ q.2;
    all = λ j l f. elim (T_dec (stays up m node n j)) [
      | inl s ↦ (number up m node n j, omega (arith, number_lt up m node n h j l s, copy_nodes up m node n h), at_number up m node n h j l s)
      | inr z ↦ absurd (f (gone_through j l z))
    ];
    labels = λ i l.
        let p = at_is up m node n h i (omega (arith, copy_nodes up m node n h)) in
        ap (label u) (sym p.2) ∙ same_label (at up m node n i) p.0 p.1;
    parents = λ i pos l.
        let k : i < copy_size up m node n 0 = omega (arith, copy_nodes up m node n h) in
        let p = at_is up m node n h i k in
        let q = place_pos up m node n h i k pos in
        let o = is_over up m node n h (at up m node n i) q in
        let e : at up m node n (parent u i) ≡ over up m node n (at up m node n i) =
        ap (at up m node n) (copy_parent up m node n h i k)
        ∙ at_number up m node n h (over up m node n (at up m node n i)) (omega (arith, o.less, p.0)) o.kept in
        subst (λ (w : ℕ). NextAbove t w (at up m node n i)) (sym e) (next (at up m node n i) p.0 (over up m node n (at up m node n i)) o);
  }
    where
      next : (v : ℕ) → v < m → (w : ℕ) → IsOver up m node n v w → NextAbove t w v
      next v lv w o = record {
        above = passed (anc up w v) o.above;
        apart = λ e. absurd (omega (arith, o.less));
        between = λ j a b d f.
            let lj : j < m = omega (arith, anc-le up h.tree j v (bit-T (anc up j v) b)) in
            elim (T_dec (stays up m node n j)) [
              | inr z ↦ gone_through j lj z
              | inl s ↦ (
                  let c = anc-le up h.tree j w (o.next j s (bit-T (anc up j v) b) f) in
                  let e = anc-le up h.tree w j (bit-T (anc up w j) a) in
                  absurd (d (omega arith)))
            ];
      }

  -- ---- it is the canonical copy with all marks 1

  abbrev l : Labels
  l = kept (ones (tips t)) (tips t)

  every : (x : ℕ) → x < tips t → bit (is_kept (ones (tips t)) x) ≡ 1
  every x q = unfold bit in ap bit (ones_keep (tips t) x q)

  number_is : (kept (ones (tips t)) (tips t)).number ≡ tips t
  number_is = all_kept-number (ones (tips t)) (tips t) every

  own : (i x : ℕ) → x < tips t → beyond_at l t i x ≡ anc up i (node_of t x)
  unfolding beyond_at beyond
  own i x q = ap (λ (y : ℕ). anc up i (node_of t y)) (all_kept_at (ones (tips t)) (tips t) every x q)

  all-sides : SameSplits (tips t) (nodes t - 1) (beyond_at l t) (nodes t - 1) (λ v x. anc up v (node_of t x))
  all-sides = record {
    there = λ i s. let d : SameSides n (beyond_at l t) (λ v x. anc up v (node_of t x)) i i = same (λ x q. own i x q) in
        (i, split_moves {b = beyond_at l t} {c = λ v x. anc up v (node_of t x)} s.above s.edge s d, d);
    back = λ i s. let d : SameSides n (λ v x. anc up v (node_of t x)) (beyond_at l t) i i = same (λ x q. sym (own i x q)) in
        (i, split_moves {b = λ v x. anc up v (node_of t x)} {c = beyond_at l t} s.above s.edge s d, d);
  }

  all_copied : IsCopy (kept (ones (tips t)) (tips t)) t u
  all_copied = record {
    canonical = copy_canonical up m node n h g.tips_range.1;
    labels = copy_tips up m node n h ∙ sym number_is;
    splits = subst (λ (k : ℕ). SameSplits k (nodes t - 1) (beyond_at l t) (nodes u - 1) (beyond u)) (sym number_is)
        (same_splits_trans {b = beyond_at l t} {c = λ v x. anc up v (node_of t x)} {d = beyond u} all-sides
        (copy_splits up m node n h g.tips_range.1));
  }

  -- so every tree table has one with its pass-through nodes taken out
  pub taken_out_exists : TakenOut t (canonical_copy (ones (tips t)) t)
  taken_out_exists = subst (TakenOut t)
      (copy_only l t g (kept-rising (ones (tips t)) (tips t)) (omega (arith, number_is, g.tips_range)) u all_copied) taken_out
