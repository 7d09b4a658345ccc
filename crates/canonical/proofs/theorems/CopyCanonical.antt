-- The copy is canonical, and its splits are those of the tree.
-- Assumes nothing.
use Rattle.std.specs.Prelude.{◌≡◌, refl, Bool, ◌≢◌, ℕ, ◌-◌, ◌≤◌, ◌<◌, T}
use Rattle.std.proofs.Common.{sym, ◌∙◌, subst, inl, inr, arith}
use Rattle.std.proofs.Math.Path.{ap}
use Rattle.std.proofs.Math.Decide.{dec_le}
use Rattle.sums.specs.Bits.{bit}
use Rattle.sums.specs.theorems.BitLaws.{bit-T, bit_cases, bit_inj, bit_no}
use Rattle.shapes.proofs.theorems.AncestorLaws.{anc-le, anc_past, anc_down, anc_self, anc_trans, anc-line, one_child, parent-lt}
use Rattle.shapes.specs.Ancestors.{anc}
use Rattle.shapes.specs.Splits.{Split, SameSides, same, SameSplits}
use Rattle.shapes.proofs.theorems.SplitLaws.{split_moves}
use Rattle.tree_check.specs.Table.{Table, tips, nodes, parent, node_of, beyond}
use Rattle.tree_check.specs.IsTree.{IsTree}
use Rattle.walks.specs.theorems.NodeLabels.{node_only}
use Rattle.shapes.specs.theorems.Siblings.{Siblings}
use Rattle.shapes.proofs.theorems.Siblings.{parting}
use Rattle.canonical.specs.Canonical.{IsCanonical}
use Rattle.canonical.specs.Copying.{full, low, stays, copy_size, number, over, at, copy_of}
use Rattle.canonical.specs.theorems.Branches.{TipRooted, Branch}
use Rattle.canonical.proofs.theorems.Branches.{full_of, full_up, tip_of, tip_stays, stays_full, Top, top, two_stay}
use Rattle.canonical.proofs.theorems.Numbers.{size-pos, low_label, low_least}
use Rattle.canonical.proofs.theorems.Positions.{number-one, number_lt, at_is, beside_cases}
use Rattle.canonical.specs.theorems.Over.{IsOver}
use Rattle.canonical.proofs.theorems.Over.{is_over, top_over}
use Rattle.canonical.proofs.theorems.CopyTree.{copy_tips, copy_nodes, copy_parent, copy_anc, copy_is_tree, copy_original, place_pos, number-pos, label_at, node_number, copy_rooted}

module _ (up : ℕ → ℕ) (m : ℕ) (node : ℕ → ℕ) (k : ℕ) (h : TipRooted up m node k) (small : k ≤ 256) where
  abbrev N : ℕ
  N = copy_size up m node k 0

  abbrev num : ℕ → ℕ
  num = number up m node k

  abbrev place : ℕ → ℕ
  place = at up m node k

  abbrev keeps : ℕ → Bool
  keeps = stays up m node k

  abbrev next : ℕ → ℕ
  next = over up m node k

  abbrev r : Table
  r = copy_of up m node k

  tree : IsTree r
  tree = copy_is_tree up m node k h small

  -- ---- clusters

  pub node_of_lem : (x : ℕ) → x < k → node_of r x ≡ num (node x)
  node_of_lem x l = node_only r tree x (num (node x)) (omega (arith, copy_tips up m node k h))
      (omega (arith, node_number up m node k h x l, copy_nodes up m node k h)) (label_at up m node k h x l)

  -- the labels beyond a node of the copy are those beyond the node that stays
  pub copy_beyond : (v x : ℕ) → v < m → T (keeps v) → x < k → beyond r (num v) x ≡ anc up v (node x)
  unfolding beyond
  copy_beyond v x lv sv l = bit_inj _ _ (
      ap (λ (w : ℕ). bit (anc (parent r) (num v) w)) (node_of_lem x l)
      ∙ copy_anc up m node k h v (node x) lv (h.node_lt x l) sv (tip_stays up m node k h (node x) (tip_of up m node k h x l)))

  -- ---- splits

  pub copy_splits : SameSplits k (m - 1) (λ v x. anc up v (node x)) (nodes r - 1) (beyond r)
  copy_splits = record { there = there; back = back }
    where
      there : (i : ℕ) → Split k (m - 1) (λ v x. anc up v (node x)) i
          → (j : ℕ) × Split k (nodes r - 1) (beyond r) j × SameSides k (λ v x. anc up v (node x)) (beyond r) i j
      there i s =
          let x = s.beyond in
          let li : i < m = omega (arith, s.edge, s.above) in
          let t = top up m node k h i li (full_of up m node k h i x.0 (omega (arith, x.2, x.3)) (bit-T (anc up i (node x.0)) x.4)) in
          let w = t.0 in
          let pos = number-pos up m node k h w t.1.node_lt t.1.kept (omega (arith, s.above, anc-le up h.tree i w t.1.below)) in
          let lt = number_lt up m node k h w t.1.node_lt t.1.kept in
          let e : SameSides k (λ v x. anc up v (node x)) (beyond r) i (num w) = same (λ y ly.
          bit_inj _ _ (same_label i w t.1 y ly) ∙ sym (copy_beyond w y t.1.node_lt t.1.kept ly)) in
          (num w, split_moves {b = λ v x. anc up v (node x)} {c = beyond r} pos (omega (arith, copy_nodes up m node k h)) s e, e)
        where
          same_label : (i w : ℕ) → Top up m node k h i w → (y : ℕ) → y < k → bit (anc up i (node y)) ≡ bit (anc up w (node y))
          same_label i w t y ly = elim (bit_cases (anc up i (node y))) [
            | inr o ↦ o ∙ sym (t.labels y ly o)
            | inl z ↦ elim (bit_cases (anc up w (node y))) [
              | inl q ↦ z ∙ sym q
              | inr o ↦ absurd (omega (arith, anc_trans up h.tree i w (node y) t.below o))
            ]
          ]

      back : (j : ℕ) → Split k (nodes r - 1) (beyond r) j
          → (i : ℕ) × Split k (m - 1) (λ v x. anc up v (node x)) i × SameSides k (beyond r) (λ v x. anc up v (node x)) j i
      back j s =
          let lj : j < N = omega (arith, s.edge, s.above, copy_nodes up m node k h) in
          let p = at_is up m node k h j lj in
          let pos = place_pos up m node k h j lj s.above in
          let e : SameSides k (beyond r) (λ v x. anc up v (node x)) j (place j) = same (λ y ly.
          ap (λ (i : ℕ). beyond r i y) (sym p.2) ∙ copy_beyond (place j) y p.0 p.1 ly) in
          (place j, split_moves {b = beyond r} {c = λ v x. anc up v (node x)} pos (omega (arith, p.0)) s e, e)

  -- ---- siblings of the copy

  -- two nodes that stay, with one over both: two branches of that one, in the order of their smallest labels
  pub record Beside (v w : ℕ) : Type 0 where
    pub pair : Siblings up v w
    pub first : Top up m node k h pair.one v
    pub second : Top up m node k h pair.two w
    pub order : low up m node k pair.one < low up m node k pair.two

  module _ (v w : ℕ) (lv : v < m) (lw : w < m) (sv : T (keeps v)) (sw : T (keeps w)) (pv : 1 ≤ v) (pw : 1 ≤ w)
      (e : next v ≡ next w) (l : num v < num w) where
    ov : IsOver up m node k v (next v)
    ov = is_over up m node k h v pv

    ow : IsOver up m node k w (next w)
    ow = is_over up m node k h w pw

    ne : v ≢ w
    ne q = omega (arith, ap num q)

    not_under : bit (anc up v w) ≡ 0
    not_under = bit_no (anc up v w) (λ t.
        let a = ow.next v sv (bit-T (anc up v w) t) ne in
        omega (arith, anc-le up h.tree v (next w) a, ov.less, e))

    not_over : bit (anc up w v) ≡ 0
    not_over = bit_no (anc up w v) (λ t.
        let a = ov.next w sw (bit-T (anc up w v) t) (λ q. ne (sym q)) in
        omega (arith, anc-le up h.tree w (next v) a, ow.less, e))

    s : Siblings up v w
    s = parting up h.tree v w not_under not_over

    fv : T (full up m node k v)
    fv = stays_full up m node k h v sv

    fw : T (full up m node k w)
    fw = stays_full up m node k h w sw

    branch_one : Branch up m node k (up s.one) s.one
    branch_one = record { pos = s.pos_one; below = refl; holds = full_up up m node k h s.one v s.over_one fv }

    branch_two : Branch up m node k (up s.one) s.two
    branch_two = record { pos = s.pos_two; below = sym s.level; holds = full_up up m node k h s.two w s.over_two fw }

    one-lt : s.one < m
    one-lt = omega (arith, anc-le up h.tree s.one v s.over_one)

    two_lt : s.two < m
    two_lt = omega (arith, anc-le up h.tree s.two w s.over_two)

    meet : ℕ
    meet = up s.one

    meet_keeps : T (keeps (up s.one))
    meet_keeps = two_stay up m node k h (up s.one) s.one s.two one-lt two_lt s.apart branch_one branch_two

    over_meet : next v ≡ up s.one
    over_meet =
        let g = h.tree in
        let p = up s.one in
        let lp = parent-lt up g s.one s.pos_one in
        let a = anc_down up g p s.one s.pos_one (anc_self up g p) in
        let b = ov.next p meet_keeps (anc_trans up g p s.one v a s.over_one)
        (omega (arith, anc-le up g s.one v s.over_one)) in
        elim (dec_le s.one (next v)) [
          | yes q ↦ (
              let c = anc-line up g s.one (next v) v q s.over_one ov.above in
              let d = anc_trans up g s.one (next w) w (subst (λ (x : ℕ). bit (anc up s.one x) ≡ 1) e c) ow.above in
              absurd (s.apart (one_child up g s.one s.two w s.pos_one s.pos_two s.level d s.over_two)))
          | no n ↦ (
              let c = anc-line up g (next v) s.one v (omega arith) ov.above s.over_one in
              let d = anc_past up g (next v) s.one (omega arith) c in
              omega (arith, anc-le up g (next v) p d, anc-le up g p (next v) b))
        ]

    pub beside : Beside v w
    beside = record {
      pair = s;
      first = top_over up m node k h (up s.one) s.one v one-lt lv branch_one sv s.over_one over_meet;
      second = top_over up m node k h (up s.one) s.two w two_lt lw branch_two sw s.over_two (sym e ∙ over_meet);
      order = elim (beside_cases up m node k h v w lv lw fv fw s) [
        | inl q ↦ q.0
        | inr q ↦ absurd (omega (arith, q.1))
      ];
    }

  -- two children of a node of the copy
  row_beside : (a b : ℕ) → 1 ≤ a → a < b → b < N → parent r a ≡ parent r b → Beside (place a) (place b)
  row_beside a b la l lb e =
      let pa = at_is up m node k h a (omega arith) in
      let pb = at_is up m node k h b lb in
      let qa = place_pos up m node k h a (omega arith) la in
      let qb = place_pos up m node k h b lb (omega arith) in
      let oa = is_over up m node k h (place a) qa in
      let ob = is_over up m node k h (place b) qb in
      let same_over : next (place a) ≡ next (place b) = number-one up m node k h (next (place a)) (next (place b))
      (omega (arith, oa.less, pa.0)) (omega (arith, ob.less, pb.0)) oa.kept ob.kept
      (sym (copy_parent up m node k h a (omega arith)) ∙ e ∙ copy_parent up m node k h b lb) in
      beside (place a) (place b) pa.0 pb.0 pa.1 pb.1 qa qb same_over (omega (arith, pa.2, pb.2))

  anc_of : (a i : ℕ) → a < N → i < N → bit (anc (parent r) a i) ≡ 1 → bit (anc up (place a) (place i)) ≡ 1
  anc_of a i la li o =
      let pa = at_is up m node k h a la in
      let pi = at_is up m node k h i li in
      sym (copy_anc up m node k h (place a) (place i) pa.0 pi.0 pa.1 pi.1)
      ∙ ap (λ (x : ℕ). bit (anc (parent r) x (num (place i)))) pa.2
      ∙ ap (λ (x : ℕ). bit (anc (parent r) a x)) pi.2 ∙ o

  copy_depth_first : (a b i j : ℕ) → 1 ≤ a → a < b → parent r a ≡ parent r b
      → bit (anc (parent r) a i) ≡ 1 → bit (anc (parent r) b j) ≡ 1 → i < nodes r → j < nodes r → i < j
  copy_depth_first a b i j la l e oi oj li lj =
      let c = copy_nodes up m node k h in
      let g = copy_rooted up m node k h in
      let li' : i < N = omega arith in
      let lj' : j < N = omega arith in
      let lb : b < N = omega (arith, anc-le (parent r) g b j oj) in
      let la' : a < N = omega arith in
      let z = row_beside a b la l lb e in
      let pi = at_is up m node k h i li' in
      let pj = at_is up m node k h j lj' in
      let s : Siblings up (place i) (place j) = record {
        one = z.pair.one;
        two = z.pair.two;
        pos_one = z.pair.pos_one;
        pos_two = z.pair.pos_two;
        level = z.pair.level;
        apart = z.pair.apart;
        over_one = anc_trans up h.tree z.pair.one (place a) (place i) z.pair.over_one (anc_of a i la' li' oi);
        over_two = anc_trans up h.tree z.pair.two (place b) (place j) z.pair.over_two (anc_of b j lb lj' oj);
      } in
      elim (beside_cases up m node k h (place i) (place j) pi.0 pj.0 (stays_full up m node k h (place i) pi.1)
      (stays_full up m node k h (place j) pj.1) s) [
        | inl q ↦ omega (arith, q.1, pi.2, pj.2, size-pos up m node k h (place i) pi.0 pi.1)
        | inr q ↦ absurd (omega (arith, q.0, z.order))
      ]

  copy_rising : (a b y : ℕ) → 1 ≤ a → a < b → b < nodes r → parent r a ≡ parent r b
      → y < tips r → bit (beyond r b y) ≡ 1 → (x : ℕ) × (x < y) × (bit (beyond r a x) ≡ 1)
  copy_rising a b y la l lb e ly o =
      let c = copy_nodes up m node k h in
      let d = copy_tips up m node k h in
      let lb' : b < N = omega arith in
      let la' : a < N = omega arith in
      let ly' : y < k = omega arith in
      let z = row_beside a b la l lb' e in
      let pa = at_is up m node k h a la' in
      let pb = at_is up m node k h b lb' in
      let ob : bit (anc up (place b) (node y)) ≡ 1 =
      ap bit (sym (copy_beyond (place b) y pb.0 pb.1 ly') ∙ ap (λ (i : ℕ). beyond r i y) pb.2) ∙ o in
      let two = anc_trans up h.tree z.pair.two (place b) (node y) z.pair.over_two ob in
      let x = low up m node k z.pair.one in
      let one = low_label up m node k h z.pair.one
      (full_up up m node k h z.pair.one (place a) z.pair.over_one (stays_full up m node k h (place a) pa.1)) in
      let oa = z.first.labels x one.0 one.1 in (
        x,
        omega (arith, z.order, low_least up m node k h z.pair.two y ly' two),
        ap bit (ap (λ (i : ℕ). beyond r i x) (sym pa.2) ∙ copy_beyond (place a) x pa.0 pa.1 one.0) ∙ oa,
      )

  pub copy_canonical : IsCanonical r
  copy_canonical = record { original = copy_original up m node k h small; depth_first = copy_depth_first; rising = copy_rising }
