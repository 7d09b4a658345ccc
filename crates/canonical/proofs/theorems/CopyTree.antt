-- The copy is a tree table under the original rules, one by one.
-- Assumes nothing.
use Rattle.std.specs.Prelude.{◌≡◌, refl, Bool, not, ◌⊎◌, ◌≢◌, ◌↔◌, ℕ, zero, suc, ◌+◌, ◌*◌, ◌-◌, ◌≤◌, ◌<◌, T, ltb, length}
use Rattle.std.proofs.Math.Path.{sym, ap, subst}
use Rattle.std.proofs.Common.{◌∙◌, T_not}
use Rattle.std.proofs.Math.Bool.{true, false}
use Rattle.std.proofs.Math.Logic.{inl, inr}
use mathlib.Core.List.{List, ◌∷◌, ◌++◌}
use Rattle.std.proofs.Math.Decide.{dec_le, dec_lt}
use native.Mathlib.Omega.{arith}
use Rattle.std.proofs.Math.Dec.{eqb}
use Rattle.std.proofs.Math.ListN.{get_or, length-append}
use Rattle.sums.specs.Sum.{sum}
use Rattle.sums.specs.theorems.SumLaws.{sum-add, sum_ext, sum_mono, sum_none, sum_one, sum-ge, sum_two, sum-swap, sum-mul_left, sum_const, sum_at_most_one}
use Rattle.sums.specs.Bits.{bit, is}
use Rattle.sums.specs.theorems.BitLaws.{bit_le, bit-T, T_true, T_false, bit_cases, bit_no, is_eq, is_self, is_other_lem, alike}
use Rattle.sums.specs.theorems.TestLaws.{lt_iff, eq_iff, T_dec, first_only}
use Rattle.shapes.specs.theorems.AncestorLaws.{Rooted}
use Rattle.shapes.proofs.theorems.AncestorLaws.{anc-le, anc_step, anc_root, anc_at_zero, one_child}
use Rattle.shapes.specs.Ancestors.{anc}
use Rattle.shapes.proofs.theorems.PathLaws.{towards}
use Rattle.tree_check.specs.Table.{Table, tips, nodes, parents, labels, parent, label}
use Rattle.tree_check.specs.lemmas.TableParts.{table_of, tips_of_lem, nodes_of_lem, parents_of, labels_of}
use Rattle.tree_check.specs.IsTree.{IsTree, Child, StandsOnce}
use Rattle.canonical.specs.Original.{TwoChildren, IsOriginal}
use Rattle.tree_check.specs.theorems.RootedTables.{parent_past}
use Rattle.sums.specs.Tests.{first}
use Rattle.sums.specs.Lists.{in_order}
use Rattle.sums.specs.theorems.ListLaws.{in_order-length, in_order_at}
use Rattle.canonical.specs.Copying.{tip, stays, copy_size, number, over, at, label_word, copy_of}
use Rattle.canonical.specs.theorems.Branches.{TipRooted, Branch}
use Rattle.canonical.proofs.theorems.Branches.{tip_of, tip-label, tip_stays, root_stays, stays_full, stays_cases, branch_towards, Top, top}
use Rattle.canonical.proofs.theorems.Numbers.{number-zero, number_below}
use Rattle.canonical.proofs.theorems.Positions.{number-one, number_lt, size-all, at_is, at_number}
use Rattle.canonical.proofs.theorems.Over.{is_over, over_root, over_anc, over_top, top_over}

pub ones : (n a : ℕ) → a < n → sum n (is a) ≡ 1
ones n a l = sum_one n a (is a) l (λ x m d. is_other_lem a x (λ e. d (sym e))) ∙ is_self a

module _ (up : ℕ → ℕ) (m : ℕ) (node : ℕ → ℕ) (k : ℕ) (h : TipRooted up m node k) where
  abbrev N : ℕ
  N = copy_size up m node k 0

  abbrev num : ℕ → ℕ
  num = number up m node k

  abbrev place : ℕ → ℕ
  place = at up m node k

  abbrev keeps : ℕ → Bool
  keeps = stays up m node k

  abbrev next : ℕ → ℕ
  next = over up m node k

  abbrev r : Table
  r = copy_of up m node k

  -- ---- the words

  abbrev parent_words : List ℕ
  parent_words = in_order N (λ i. num (next (place i)))

  abbrev label_words : List ℕ
  label_words = in_order N (λ i. label_word up m node k (place i))

  made : r ≡ table_of k parent_words label_words
  unfolding copy_of table_of
  made = ap (λ (n : ℕ). k ∷ n ∷ (parent_words ++ label_words)) (sym (in_order-length N (λ i. num (next (place i)))))

  pub copy_tips : tips r ≡ k
  copy_tips = ap tips made ∙ tips_of_lem k parent_words label_words

  pub copy_nodes : nodes r ≡ N
  copy_nodes = ap nodes made ∙ nodes_of_lem k parent_words label_words ∙ in_order-length N (λ i. num (next (place i)))

  copy_words : length r ≡ 2 + 2 * nodes r
  unfolding copy_of
  copy_words = omega (
    arith,
    copy_nodes,
    in_order-length N (λ i. num (next (place i))),
    in_order-length N (λ i. label_word up m node k (place i)),
    length-append parent_words label_words,
  )

  pub copy_parent : (i : ℕ) → i < N → parent r i ≡ num (next (place i))
  unfolding parent
  copy_parent i l =
      ap (λ (p : List ℕ). get_or p i 0) (ap parents made ∙ parents_of k parent_words label_words)
      ∙ in_order_at N (λ i. num (next (place i))) i l

  copy_label : (i : ℕ) → i < N → label r i ≡ label_word up m node k (place i)
  unfolding label
  copy_label i l =
      ap (λ (p : List ℕ). get_or p i 0) (ap labels made ∙ labels_of k parent_words label_words
      (in_order-length N (λ i. label_word up m node k (place i)) ∙ sym (in_order-length N (λ i. num (next (place i))))))
      ∙ in_order_at N (λ i. label_word up m node k (place i)) i l

  some_node : 0 < m
  some_node = omega (arith, h.node_lt 0 (omega (arith, h.two)))

  -- at the number of a node that stays
  pub parent-number : (v : ℕ) → v < m → T (keeps v) → parent r (num v) ≡ num (next v)
  parent-number v l s = copy_parent (num v) (number_lt up m node k h v l s) ∙ ap (λ (u : ℕ). num (next u)) (at_number up m node k h v l s)

  pub label-number : (v : ℕ) → v < m → T (keeps v) → label r (num v) ≡ label_word up m node k v
  label-number v l s = copy_label (num v) (number_lt up m node k h v l s) ∙ ap (label_word up m node k) (at_number up m node k h v l s)

  -- a number other than 0 is that of a node other than 0
  pub place_pos : (i : ℕ) → i < N → 1 ≤ i → 1 ≤ place i
  place_pos i l p = elim (dec_le 1 (place i)) [
    | yes q ↦ q
    | no n ↦ (let z : place i ≡ 0 = omega arith in
        absurd (omega (arith, (at_is up m node k h i l).2, number-zero up m node k h, ap num z)))
  ]

  pub number-pos : (v : ℕ) → v < m → T (keeps v) → 1 ≤ v → 1 ≤ num v
  number-pos v l s p = omega (
    arith,
    number_below up m node k h 0 v l (root_stays up m node k h) (stays_full up m node k h v s)
        (omega arith) (anc_root up h.tree v),
  )

  over_less : (v : ℕ) → v < m → T (keeps v) → 1 ≤ v → num (next v) < num v
  over_less v l s p =
      let i = is_over up m node k h v p in
      number_below up m node k h (next v) v l i.kept (stays_full up m node k h v s) (omega (arith, i.less)) i.above

  pub copy_rooted : Rooted (parent r)
  copy_rooted = record {
    root = ap (parent r) (sym (number-zero up m node k h)) ∙ parent-number 0 some_node (root_stays up m node k h)
        ∙ ap num (over_root up m node k h) ∙ number-zero up m node k h;
    falls = λ w. elim (dec_lt (suc w) N) [
      | yes l ↦ (let p = at_is up m node k h (suc w) l in
          omega (arith, copy_parent (suc w) l, over_less (place (suc w)) p.0 p.1 (place_pos (suc w) l (omega arith)), p.2))
      | no n ↦ omega (arith, parent_past r (suc w) (omega (arith, copy_nodes)))
    ];
  }

  -- ---- above in the copy is above in the tree

  anc-zero : (v : ℕ) → v < m → T (keeps v) → bit (anc (parent r) (num v) (num 0)) ≡ bit (anc up v 0)
  anc-zero v lv sv =
      let z = number-zero up m node k h in
      ap (λ (x : ℕ). bit (anc (parent r) (num v) x)) z ∙ anc_at_zero (parent r) copy_rooted (num v)
      ∙ elim (alike v 0) [
        | inl e ↦ is_eq (num v) 0 (ap num e.0 ∙ z) ∙ sym e.1
        | inr d ↦ (is_other_lem (num v) 0 (λ q. d.0 (number-one up m node k h v 0 lv some_node sv (root_stays up m node k h) (q ∙ sym z))) ∙ sym d.1)
      ]
      ∙ sym (anc_at_zero up h.tree v)

  anc_in_lem : (f v w : ℕ) → w ≤ f → v < m → w < m → T (keeps v) → T (keeps w)
      → bit (anc (parent r) (num v) (num w)) ≡ bit (anc up v w)
  anc_in_lem zero v zero lf lv lw sv sw = anc-zero v lv sv
  anc_in_lem (suc f) v zero lf lv lw sv sw = anc-zero v lv sv
  anc_in_lem zero v (suc w) lf lv lw sv sw = absurd (omega arith)
  anc_in_lem (suc f) v (suc w) lf lv lw sv sw =
      let i = is_over up m node k h (suc w) (omega arith) in
      let ih = anc_in_lem f v (next (suc w)) (omega (arith, i.less)) lv (omega (arith, i.less)) sv i.kept in
      let e = is_number (suc w) lw sw in
      omega (
        arith,
        anc_step (parent r) copy_rooted (num v) (num (suc w)) (number-pos (suc w) lw sw (omega arith)),
        ap (λ (x : ℕ). bit (anc (parent r) (num v) x)) (parent-number (suc w) lw sw),
        over_anc up m node k h v (suc w) sv (omega arith),
      )
    where
      is_number : (u : ℕ) → u < m → T (keeps u) → is (num v) (num u) ≡ is v u
      is_number u lu su = elim (alike v u) [
        | inl e ↦ is_eq (num v) (num u) (ap num e.0) ∙ sym e.1
        | inr d ↦ is_other_lem (num v) (num u) (λ q. d.0 (number-one up m node k h v u lv lu sv su q)) ∙ sym d.1
      ]

  pub copy_anc : (v w : ℕ) → v < m → w < m → T (keeps v) → T (keeps w)
      → bit (anc (parent r) (num v) (num w)) ≡ bit (anc up v w)
  copy_anc v w = anc_in_lem w v w (omega arith)

  -- ---- children

  -- a child of v's number is that of a node that has v over it
  pub child_over : (v j : ℕ) → v < m → T (keeps v) → Child r (num v) j → (1 ≤ place j) × (next (place j) ≡ v)
  child_over v j l s c =
      let lj : j < N = omega (arith, c.node, copy_nodes) in
      let p = at_is up m node k h j lj in
      let q = place_pos j lj c.other in
      let i = is_over up m node k h (place j) q in
      (q, number-one up m node k h (next (place j)) v (omega (arith, i.less, p.0)) l i.kept s (sym (copy_parent j lj) ∙ c.below))

  pub over_child : (w : ℕ) → w < m → T (keeps w) → 1 ≤ w → Child r (num (next w)) (num w)
  over_child w l s p = record {
    other = number-pos w l s p;
    node = omega (arith, number_lt up m node k h w l s, copy_nodes);
    below = parent-number w l s;
  }

  -- ---- labels

  pub word-tip : (x : ℕ) → x < k → label_word up m node k (node x) ≡ x
  unfolding label_word
  word-tip x l =
      ap (λ (b : Bool). elim b as (λ y. ℕ) [ true ↦ first k (λ y. eqb (node y) (node x)) | false ↦ 65535 ])
      (T_true (tip up m node k (node x)) (tip_of up m node k h x l))
      ∙ first_only k (λ y. eqb (node y) (node x)) x l ((eq_iff (node x) (node x)).1 refl)
      (λ j lj t. h.node_one j x lj l ((eq_iff (node j) (node x)).0 t))

  pub word_inner : (v : ℕ) → T (not (tip up m node k v)) → label_word up m node k v ≡ 65535
  unfolding label_word
  word_inner v t =
      ap (λ (b : Bool). elim b as (λ y. ℕ) [ true ↦ first k (λ y. eqb (node y) v) | false ↦ 65535 ])
      (T_false (tip up m node k v) (T_not (tip up m node k v) t))

  -- the label of the node numbered i
  label_cases : (i : ℕ) → i < N
      → ((x : ℕ) × (x < k) × (node x ≡ place i) × (label r i ≡ x)) ⊎ (T (not (tip up m node k (place i))) × (label r i ≡ 65535))
  label_cases i l = elim (T_dec (tip up m node k (place i))) [
    | inl t ↦ (let x = tip-label up m node k h (place i) t in
        inl (x.0, x.1, x.2, copy_label i l ∙ ap (label_word up m node k) (sym x.2) ∙ word-tip x.0 x.1))
    | inr t ↦ inr (t, copy_label i l ∙ word_inner (place i) t)
  ]

  node_keeps : (x : ℕ) → x < k → T (keeps (node x))
  node_keeps x l = tip_stays up m node k h (node x) (tip_of up m node k h x l)

  pub label_at : (x : ℕ) → x < k → label r (num (node x)) ≡ x
  label_at x l = label-number (node x) (h.node_lt x l) (node_keeps x l) ∙ word-tip x l

  pub node_number : (x : ℕ) → x < k → num (node x) < N
  node_number x l = number_lt up m node k h (node x) (h.node_lt x l) (node_keeps x l)

  -- ---- the rules

  module _ (small : k ≤ 256) where
    -- 'Node 0 is the tip labelled 0.'
    root_zero : num (node 0) ≡ 0
    root_zero = ap num h.root ∙ number-zero up m node k h

    copy_root_label : label r 0 ≡ 0
    copy_root_label = ap (label r) (sym root_zero) ∙ label_at 0 (omega (arith, h.two))

    -- one node that stays has node 0 over it
    one_top : (v w : ℕ) → v < m → w < m → 1 ≤ v → 1 ≤ w → T (keeps v) → T (keeps w) → next v ≡ 0 → next w ≡ 0 → v ≡ w
    one_top v w lv lw pv pw sv sw ev ew =
        let s = root_stays up m node k h in
        let c = branch_towards up m node k h 0 v lv (omega arith) (anc_root up h.tree v) (stays_full up m node k h v sv) in
        let d = branch_towards up m node k h 0 w lw (omega arith) (anc_root up h.tree w) (stays_full up m node k h w sw) in
        let e = h.stem d.0 c.0 d.2.pos d.1 c.2.pos c.1 d.2.below c.2.below in
        let tv = top_over up m node k h 0 c.0 v c.1 lv c.2 sv c.3 ev in
        let a = subst (λ (x : ℕ). bit (anc up x w) ≡ 1) e d.3 in
        let tw = top_over up m node k h 0 c.0 w c.1 lw c.2 sw a ew in
        omega (arith, anc-le up h.tree v w (tv.nodes w lw sw a), anc-le up h.tree w v (tw.nodes v lv sv c.3))

    -- ---- counts: k is at most the nodes

    tips_in : k ≤ N
    tips_in = omega (
      arith,
      size-all up m node k h,
      sum_mono m (λ v. sum k (λ x. is (node x) v)) (λ v. bit (keeps v)) (λ v l. each v),
      sum-swap m k (λ v x. is (node x) v),
      sum_ext k (λ x. sum m (λ v. is (node x) v)) (λ x. 1) (λ x l. ones m (node x) (h.node_lt x l)),
      sum_const k 1,
    )
      where
        each : (v : ℕ) → sum k (λ x. is (node x) v) ≤ bit (keeps v)
        each v = elim (bit_cases (keeps v)) [
          | inr o ↦ rw o (sum_at_most_one k (λ x. is (node x) v) (λ x l. bit_le (eqb (node x) v)) (λ x y lx ly a b.
              h.node_one x y lx ly (eq_of x v a ∙ sym (eq_of y v b))))
          | inl z ↦ rw z (omega (
            arith,
            sum_none k (λ x. is (node x) v) (λ x l. is_other_lem (node x) v (λ e.
                absurd (omega (arith, bit-T (keeps (node x)) (node_keeps x l), ap (λ (u : ℕ). bit (keeps u)) e)))),
          )
              )
        ]
          where
            eq_of : (x v : ℕ) → 1 ≤ is (node x) v → node x ≡ v
            eq_of x v l = elim (alike (node x) v) [ inl e ↦ e.0 | inr d ↦ absurd (omega (arith, d.1)) ]

    -- 'It has exactly one child, node 1, whose parent word is 0.'
    copy_root_child : (j : ℕ) → Child r 0 j ↔ (j ≡ 1)
    copy_root_child j = (
      λ c. let z = number-zero up m node k h in
          let s = root_stays up m node k h in
          let c0 : Child r (num 0) j = rw z c in
          let a = child_over 0 j some_node s c0 in
          let lj : j < N = omega (arith, c.node, copy_nodes) in
          let b = child_over 0 1 some_node s (rw z first) in
          let pj = at_is up m node k h j lj in
          let p1 = at_is up m node k h 1 one-lt in
          let e = one_top (place j) (place 1) pj.0 p1.0 a.0 b.0 pj.1 p1.1 a.1 b.1 in
          sym pj.2 ∙ ap num e ∙ p1.2,
      λ e. rw e first,
    )
      where
        one-lt : 1 < N
        one-lt = omega (arith, tips_in, h.two)

        first : Child r 0 1
        first = record {
          other = omega arith;
          node = omega (arith, one-lt, copy_nodes);
          below = omega (arith, copy_rooted.falls 0);
        }

    copy_parents : (i : ℕ) → 2 ≤ i → i < nodes r → (1 ≤ parent r i) × (parent r i < i)
    copy_parents zero l m' = absurd (omega arith)
    copy_parents (suc w) l m' = (
      elim (dec_le 1 (parent r (suc w))) [
        | yes p ↦ p
        | no n ↦ (let e = (copy_root_child (suc w)).0 (record { other = omega arith; node = m'; below = omega arith }) in absurd (omega arith))
      ],
      omega (arith, copy_rooted.falls w),
    )

    copy_once : (x : ℕ) → x < k → StandsOnce r x
    copy_once x l = record {
      at = num (node x);
      node = omega (arith, node_number x l, copy_nodes);
      labelled = label_at x l;
      only = λ j lj e. let lj' : j < N = omega (arith, copy_nodes) in
          elim (label_cases j lj') [
            | inl y ↦ (let q : y.0 ≡ x = sym y.3 ∙ e in
                sym (at_is up m node k h j lj').2 ∙ ap num (sym y.2 ∙ ap node q))
            | inr y ↦ absurd (omega (arith, y.1))
          ];
    }

    copy_bare : (i : ℕ) → 1 ≤ i → i < nodes r → label r i < k → (j : ℕ) → Child r i j → ⊥
    copy_bare i l li lx j c =
        let li' : i < N = omega (arith, copy_nodes) in
        let p = at_is up m node k h i li' in
        elim (label_cases i li') [
          | inr y ↦ absurd (omega (arith, y.1))
          | inl y ↦ (
              let o = child_over (place i) j p.0 p.1 (rw p.2 c) in
              let v = is_over up m node k h (place j) o.0 in
              let lj : j < N = omega (arith, c.node, copy_nodes) in
              let q = at_is up m node k h j lj in
              let a = subst (λ (u : ℕ). bit (anc up u (place j)) ≡ 1) o.1 v.above in
              let s = towards up h.tree (place j) (place i) (place j) (omega arith) (omega (arith, v.less, o.1)) a in
              h.bare y.0 (suc s.0) (pos y.0 y.2 (place_pos i li' l)) y.1 (omega arith) (omega (arith, s.1, q.0)) (s.2 ∙ sym y.2))
        ]
      where
        pos : (x : ℕ) → node x ≡ place i → 1 ≤ place i → 1 ≤ x
        pos x e q = elim (dec_le 1 x) [
          | yes p ↦ p
          | no n ↦ (let z : x ≡ 0 = omega arith in absurd (omega (arith, h.root, e, ap node z)))
        ]

    copy_two : (i : ℕ) → i < nodes r → label r i ≡ 65535 → TwoChildren r i
    copy_two i li e =
        let li' : i < N = omega (arith, copy_nodes) in
        let p = at_is up m node k h i li' in
        elim (label_cases i li') [
          | inl y ↦ absurd (omega (arith, y.1, y.3))
          | inr y ↦ elim (stays_cases up m node k h (place i) p.1) [
            | inl t ↦ absurd (T_not (tip up m node k (place i)) y.0 t)
            | inr b ↦ (
                let lc : b.0 < m = omega (arith, b.2, b.3) in
                let tc = top up m node k h b.0 lc b.4.holds in
                let td = top up m node k h b.1 b.3 b.5.holds in
                two p.1 p.2 b.0 b.1 b.2 b.4 b.5 tc.0 td.0 tc.1 td.1)
          ]
        ]
      where
        child : (v c w : ℕ) → num v ≡ i → T (keeps v) → Branch up m node k v c → Top up m node k h c w → Child r i (num w)
        child v c w e s q t =
            let o = over_top up m node k h v c w s q t in
            subst (λ (x : ℕ). Child r x (num w)) (ap num o ∙ e)
            (over_child w t.node_lt t.kept (omega (arith, q.pos, anc-le up h.tree c w t.below)))

        two : T (keeps (place i)) → num (place i) ≡ i → (c d : ℕ) → c < d → Branch up m node k (place i) c → Branch up m node k (place i) d
            → (v w : ℕ) → Top up m node k h c v → Top up m node k h d w → TwoChildren r i
        two s e c d l qc qd v w tc td =
            let a = child (place i) c v e s qc tc in
            let b = child (place i) d w e s qd td in
            let ne : num v ≢ num w = λ q. absurd (apart (number-one up m node k h v w tc.node_lt td.node_lt tc.kept td.kept q)) in
            elim (dec_lt (num v) (num w)) [
              | yes q ↦ record { one = num v; two = num w; apart = q; first = a; second = b }
              | no n ↦ record { one = num w; two = num v; apart = omega arith; first = b; second = a }
            ]
          where
            apart : v ≡ w → ⊥
            apart q =
                let z = one_child up h.tree c d w qc.pos qd.pos (qc.below ∙ sym qd.below)
                (subst (λ (x : ℕ). bit (anc up c x) ≡ 1) q tc.below) td.below in
                omega arith

    -- ---- counts: the nodes are at most 2k - 2

    -- 1 for a tip
    leafy : ℕ → ℕ
    leafy i = bit (ltb (label r i) k)

    children : ℕ → ℕ
    children i = sum (N - 1) (λ j. is (parent r (suc j)) i)

    pred-suc : (j : ℕ) → 1 ≤ j → suc (j - 1) ≡ j
    pred-suc j l = omega arith

    child_bit : (i j : ℕ) → Child r i j → (j - 1 < N - 1) × (is (parent r (suc (j - 1))) i ≡ 1)
    child_bit i j c = (
      omega (arith, c.node, c.other, copy_nodes),
      is_eq (parent r (suc (j - 1))) i (ap (parent r) (pred-suc j c.other) ∙ c.below),
    )

    enough : (i : ℕ) → i < N → 2 + is 0 i ≤ children i + 2 * leafy i
    unfolding leafy children
    enough i l = elim (label_cases i l) [
      | inl y ↦ (
          let b = bit-T (ltb (label r i) k) ((lt_iff (label r i) k).1 (omega (arith, y.1, y.3))) in
          elim (alike 0 i) [
            | inr d ↦ omega (arith, d.1)
            | inl e ↦ (
                let c : Child r i 1 = subst (λ (x : ℕ). Child r x 1) e.0 ((copy_root_child 1).1 refl) in
                let q = child_bit i 1 c in
                omega (arith, e.1, q.1, sum-ge (N - 1) (λ j. is (parent r (suc j)) i) 0 q.0))
          ])
      | inr y ↦ (
          let t = copy_two i (omega (arith, copy_nodes)) y.1 in
          let a = child_bit i t.one t.first in
          let b = child_bit i t.two t.second in
          let s = sum_two (N - 1) (λ j. is (parent r (suc j)) i) (t.one - 1) (t.two - 1) a.0 b.0
          (omega (arith, t.apart, t.first.other)) in
          let z : 0 ≢ i = λ e. absurd (omega (arith, copy_root_label, y.1, ap (label r) e)) in
          omega (arith, a.1, b.1, is_other_lem 0 i z))
    ]

    all-children : sum N children ≡ N - 1
    unfolding children
    all-children =
        sum-swap N (N - 1) (λ i j. is (parent r (suc j)) i)
        ∙ sum_ext (N - 1) (λ j. sum N (λ i. is (parent r (suc j)) i)) (λ j. 1)
        (λ j l. ones N (parent r (suc j)) (omega (arith, copy_rooted.falls j)))
        ∙ sum_const (N - 1) 1 ∙ (omega arith)

    few_leaves : sum N leafy ≤ k
    unfolding leafy
    few_leaves = omega (
      arith,
      sum_mono N (λ i. bit (ltb (label r i) k)) (λ i. sum k (λ x. is (num (node x)) i)) (λ i l. each i l),
      sum-swap N k (λ i x. is (num (node x)) i),
      sum_ext k (λ x. sum N (λ i. is (num (node x)) i)) (λ x. 1) (λ x l. ones N (num (node x)) (node_number x l)),
      sum_const k 1,
    )
      where
        each : (i : ℕ) → i < N → bit (ltb (label r i) k) ≤ sum k (λ x. is (num (node x)) i)
        each i l = elim (label_cases i l) [
          | inl y ↦ (
              let e = is_eq (num (node y.0)) i (ap num y.2 ∙ (at_is up m node k h i l).2) in
              omega (arith, bit_le (ltb (label r i) k), sum-ge k (λ x. is (num (node x)) i) y.0 y.1))
          | inr y ↦ omega (arith, bit_no (ltb (label r i) k) (λ t. absurd (omega (arith, y.1, (lt_iff (label r i) k).0 t))))
        ]

    few_nodes : N ≤ 2 * k - 2
    few_nodes = omega (
      arith,
      tips_in,
      h.two,
      all-children,
      few_leaves,
      sum_mono N (λ i. 2 + is 0 i) (λ i. children i + 2 * leafy i) (λ i l. enough i l),
      sum-add N (λ i. 2) (λ i. is 0 i),
      sum_const N 2,
      ones N 0 (omega (arith, tips_in, h.two)),
      sum-add N children (λ i. 2 * leafy i),
      sum-mul_left N 2 leafy,
    )

    -- the copy is a tree table
    pub copy_is_tree : IsTree r
    copy_is_tree = record {
      words = copy_words;
      tips_range = (omega (arith, copy_tips, h.two), omega (arith, copy_tips));
      nodes_range = (omega (arith, copy_tips, copy_nodes, tips_in), omega (arith, copy_tips, copy_nodes, few_nodes, h.two));
      root_label = copy_root_label;
      root_parent = copy_rooted.root;
      root_child = copy_root_child;
      parents_range = copy_parents;
      labels_range = λ i l. elim (label_cases i (omega (arith, copy_nodes))) [
        | inl y ↦ inr (omega (arith, y.1, y.3, copy_tips))
        | inr y ↦ inl y.1
      ];
      once = λ x l. copy_once x (omega (arith, copy_tips));
      tip_bare = λ i l li lx. copy_bare i l li (omega (arith, copy_tips));
      inner_child = λ i l e. let c = copy_two i l e in (c.one, c.first);
    }

    -- .. under the original rules
    pub copy_original : IsOriginal r
    copy_original = record {
      tree = copy_is_tree;
      nodes_few = omega (arith, copy_tips, copy_nodes, few_nodes);
      inner_two = copy_two;
    }
