-- The next node above that stays.
-- Assumes nothing.
use Rattle.std.proofs.Math.Path.{◌≡◌, refl, sym, ap}
use Rattle.std.proofs.Common.{◌∙◌, subst, inl, inr, arith}
use Rattle.std.specs.Prelude.{Bool, ◌≢◌}
use Rattle.std.proofs.Math.Bool.{true, false}
use Prim.Native.Nat.{ℕ, zero, suc, ◌+◌, ◌≤◌, ◌<◌}
use Rattle.std.proofs.Math.Decide.{dec_le, ℕ_discrete}
use Rattle.std.proofs.Math.Dec.{T}
use Rattle.sums.specs.Bits.{bit, is}
use Rattle.sums.specs.theorems.BitLaws.{bit_cases, is_other_lem, alike}
use Rattle.shapes.specs.theorems.AncestorLaws.{Rooted}
use Rattle.shapes.proofs.theorems.AncestorLaws.{up_ind, anc-le, anc-lt, anc_up, anc_self, anc_down, anc_past, anc_trans, anc-line}
use Rattle.shapes.specs.Ancestors.{anc}
use Rattle.canonical.specs.Copying.{stays, over_in, over}
use Rattle.canonical.specs.theorems.Branches.{TipRooted, Branch}
use Rattle.canonical.proofs.theorems.Branches.{root_stays, Top, top, branch_above, branch-lt}
use Rattle.canonical.specs.theorems.Over.{IsOver}

module _ (up : ℕ → ℕ) (m : ℕ) (node : ℕ → ℕ) (k : ℕ) (h : TipRooted up m node k) where
  over_zero : (f : ℕ) → over_in up m node k f 0 ≡ 0
  unfolding over_in
  over_zero zero = refl
  over_zero (suc f) = go (stays up m node k (up 0)) refl
    where
      go : (b : Bool) → stays up m node k (up 0) ≡ b
          → ◌≡◌ {A = ℕ} (elim b as (λ x. ℕ) [ true ↦ up 0 | false ↦ over_in up m node k f (up 0) ]) 0
      go true e = h.tree.root
      go false e = absurd (subst T e (subst (λ (v : ℕ). T (stays up m node k v)) (sym h.tree.root) (root_stays up m node k h)))

  pub over_root : over up m node k 0 ≡ 0
  unfolding over
  over_root = over_zero 0

  enough : (f g v : ℕ) → v ≤ f → v ≤ g → over_in up m node k f v ≡ over_in up m node k g v
  unfolding over_in
  enough zero g zero a b = over_zero 0 ∙ sym (over_zero g)
  enough (suc f) g zero a b = over_zero (suc f) ∙ sym (over_zero g)
  enough zero g (suc w) a b = absurd (omega arith)
  enough (suc f) zero (suc w) a b = absurd (omega arith)
  enough (suc f) (suc g) (suc w) a b =
      ap (λ (x : ℕ). elim (stays up m node k (up (suc w))) as (λ y. ℕ) [ true ↦ up (suc w) | false ↦ x ])
      (enough f g (up (suc w)) (omega (arith, h.tree.falls w)) (omega (arith, h.tree.falls w)))

  pub over_suc : (w : ℕ) → over up m node k (suc w)
      ≡ elim (stays up m node k (up (suc w))) as (λ y. ℕ) [ true ↦ up (suc w) | false ↦ over up m node k (up (suc w)) ]
  unfolding over over_in
  over_suc w =
      ap (λ (x : ℕ). elim (stays up m node k (up (suc w))) as (λ y. ℕ) [ true ↦ up (suc w) | false ↦ x ])
      (enough w (up (suc w)) (up (suc w)) (h.tree.falls w) (omega arith))

  over_step : (w : ℕ) → (1 ≤ up (suc w) → IsOver up m node k (up (suc w)) (over up m node k (up (suc w))))
      → IsOver up m node k (suc w) (over up m node k (suc w))
  over_step w ih = rw (over_suc w) (go (stays up m node k (up (suc w))) refl)
    where
      r : Rooted up
      r = h.tree

      parent_above : bit (anc up (up (suc w)) (suc w)) ≡ 1
      parent_above = anc_down up r (up (suc w)) (suc w) (omega arith) (anc_self up r (up (suc w)))

      to-parent : (u : ℕ) → bit (anc up u (suc w)) ≡ 1 → u ≢ suc w → bit (anc up u (up (suc w))) ≡ 1
      to-parent u o d = omega (arith, anc_up up r u w, is_other_lem u (suc w) d)

      go : (b : Bool) → stays up m node k (up (suc w)) ≡ b → IsOver up m node k (suc w)
          (elim b as (λ y. ℕ) [ true ↦ up (suc w) | false ↦ over up m node k (up (suc w)) ])
      go true e = record {
        kept = rw e tt;
        above = parent_above;
        less = omega (arith, r.falls w);
        next = λ u s o d. to-parent u o d;
      }
      go false e =
          let pos : 1 ≤ up (suc w) = elim (dec_le 1 (up (suc w))) [
            | yes p ↦ p
            | no n ↦ (let z : up (suc w) ≡ 0 = omega arith in
                absurd (subst T e (subst (λ (v : ℕ). T (stays up m node k v)) (sym z) (root_stays up m node k h))))
          ] in
          let i = ih pos in
          record {
            kept = i.kept;
            above = anc_trans up r (over up m node k (up (suc w))) (up (suc w)) (suc w) i.above parent_above;
            less = omega (arith, i.less, r.falls w);
            next = λ u s o d. i.next u s (to-parent u o d) (λ q. subst T e (subst (λ (v : ℕ). T (stays up m node k v)) q s));
          }

  pub is_over : (v : ℕ) → 1 ≤ v → IsOver up m node k v (over up m node k v)
  is_over =
      up_ind up h.tree (λ v. 1 ≤ v → IsOver up m node k v (over up m node k v))
      (λ l. absurd (omega arith))
      (λ w ih l. over_step w ih)

  -- a node that stays is above w exactly if it is w or above the next that stays
  pub over_anc : (v w : ℕ) → T (stays up m node k v) → 1 ≤ w
      → bit (anc up v w) ≡ is v w + bit (anc up v (over up m node k w))
  over_anc v w s l =
      let i = is_over w l in
      elim (alike v w) [
        | inl e ↦ (let a = anc_self up h.tree v in
            let b = anc-lt up h.tree v (over up m node k w) (omega (arith, i.less, e.0)) in
            omega (arith, ap (λ (x : ℕ). bit (anc up v x)) e.0, e.1))
        | inr d ↦ elim (bit_cases (anc up v w)) [
          | inr o ↦ omega (arith, d.1, i.next v s o d.0)
          | inl z ↦ elim (bit_cases (anc up v (over up m node k w))) [
            | inl y ↦ omega (arith, d.1)
            | inr y ↦ absurd (omega (arith, anc_trans up h.tree v (over up m node k w) w y i.above))
          ]
        ]
      ]

  -- two nodes above each other are one
  same_node : (v w : ℕ) → bit (anc up v w) ≡ 1 → bit (anc up w v) ≡ 1 → v ≡ w
  same_node v w a b = omega (arith, anc-le up h.tree v w a, anc-le up h.tree w v b)

  -- the first node that stays in a branch of v, which stays, has v over it
  pub over_top : (v c w : ℕ) → T (stays up m node k v) → Branch up m node k v c → Top up m node k h c w
      → over up m node k w ≡ v
  over_top v c w s q t =
      let r = h.tree in
      let lw = anc-le up r c w t.below in
      let lc = branch-lt up m node k h v c q in
      let i = is_over w (omega (arith, q.pos)) in
      let a = i.next v s (anc_trans up r v c w (branch_above up m node k h v c q) t.below) (omega arith) in
      let o = over up m node k w in
      elim (dec_le c o) [
        | yes l ↦ (let b = anc-line up r c o w l t.below i.above in
            let d = t.nodes o (omega (arith, i.less, t.node_lt)) i.kept b in
            absurd (omega (arith, anc-le up r w o d, i.less)))
        | no n ↦ (let b = anc-line up r o c w (omega arith) i.above t.below in
            let d = anc_past up r o c (omega arith) b in
            same_node o v (subst (λ (x : ℕ). bit (anc up o x) ≡ 1) q.below d) a)
      ]

  -- and only that one has
  pub top_over : (v c w : ℕ) → c < m → w < m → Branch up m node k v c → T (stays up m node k w) → bit (anc up c w) ≡ 1
      → over up m node k w ≡ v → Top up m node k h c w
  top_over v c w lc lw q s a e =
      let r = h.tree in
      let t = top up m node k h c lc q.holds in
      let b = t.1.nodes w lw s a in
      let lt = anc-le up r c t.0 t.1.below in
      elim (ℕ_discrete t.0 w) [
        | yes d ↦ subst (λ (x : ℕ). Top up m node k h c x) d t.1
        | no d ↦ (
            let i = is_over w (omega (arith, anc-le up r c w a, q.pos)) in
            let n = anc-le up r t.0 (over up m node k w) (i.next t.0 t.1.kept b d) in
            absurd (omega (arith, branch-lt up m node k h v c q)))
      ]
