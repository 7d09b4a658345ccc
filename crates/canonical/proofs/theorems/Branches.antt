-- Branches of a tree that is rooted at the tip of its label 0: what stays, and the first node that stays in a branch.
-- Assumes nothing.
use Rattle.std.specs.Prelude.{◌≡◌, refl, Bool, not, ◌⊎◌, ◌≢◌, ℕ, zero, suc, ◌+◌, ◌≤◌, ◌<◌, T}
use Rattle.std.proofs.Common.{sym, subst, T_not}
use Rattle.std.proofs.Math.Logic.{inl, inr}
use Rattle.std.proofs.Math.Decide.{ℕ_discrete}
use native.Mathlib.Omega.{arith}
use Rattle.sums.specs.theorems.SumLaws.{sum_two}
use Rattle.sums.specs.Bits.{bit}
use Rattle.sums.specs.theorems.BitLaws.{bit-T, T-bit}
use Rattle.sums.specs.theorems.TestLaws.{and-iff, or-iff, eq_iff, lt_iff, le_iff, some-iff, T_dec}
use Rattle.sums.specs.Counts.{count}
use Rattle.sums.specs.theorems.CountLaws.{count_twice}
use Rattle.shapes.proofs.theorems.AncestorLaws.{parent-lt, anc_self, anc_down, anc_trans}
use Rattle.shapes.specs.Ancestors.{anc}
use Rattle.shapes.proofs.theorems.PathLaws.{towards}
use Rattle.canonical.specs.Copying.{full, branch, tip, stays}
use Rattle.canonical.specs.theorems.Branches.{Branch, TipRooted}

pub passed : (b : Bool) → bit b ≡ 1 → T b
passed b o = T-bit b (omega arith)

module _ (up : ℕ → ℕ) (m : ℕ) (node : ℕ → ℕ) (k : ℕ) (h : TipRooted up m node k) where
  pub full_of : (v x : ℕ) → x < k → bit (anc up v (node x)) ≡ 1 → T (full up m node k v)
  unfolding full
  full_of v x l o = (some-iff k _).1 (x, l, passed (anc up v (node x)) o)

  pub full_label : (v : ℕ) → T (full up m node k v) → (x : ℕ) × (x < k) × (bit (anc up v (node x)) ≡ 1)
  unfolding full
  full_label v t = let r = (some-iff k _).0 t in (r.0, r.1, bit-T _ r.2)

  pub full_up : (v w : ℕ) → bit (anc up v w) ≡ 1 → T (full up m node k w) → T (full up m node k v)
  full_up v w a t = let x = full_label w t in full_of v x.0 x.1 (anc_trans up h.tree v w (node x.0) a x.2)

  pub branch-iff_to : (v c : ℕ) → T (branch up m node k v c) → Branch up m node k v c
  unfolding branch
  branch-iff_to v c t = let s = simp and-iff at t in
      record { pos = (lt_iff 0 c).0 s.0.0; below = (eq_iff (up c) v).0 s.0.1; holds = s.1 }

  pub branch-iff_of : (v c : ℕ) → Branch up m node k v c → T (branch up m node k v c)
  unfolding branch
  branch-iff_of v c s = simp and-iff (((lt_iff 0 c).1 s.pos, (eq_iff (up c) v).1 s.below), s.holds)

  pub tip_of : (x : ℕ) → x < k → T (tip up m node k (node x))
  unfolding tip
  tip_of x l = (some-iff k _).1 (x, l, (eq_iff (node x) (node x)).1 refl)

  pub tip-label : (v : ℕ) → T (tip up m node k v) → (x : ℕ) × (x < k) × (node x ≡ v)
  unfolding tip
  tip-label v t = let r = (some-iff k _).0 t in (r.0, r.1, (eq_iff _ v).0 r.2)

  pub tip_stays : (v : ℕ) → T (tip up m node k v) → T (stays up m node k v)
  unfolding stays
  tip_stays v t = (or-iff (tip up m node k v) _).1 (inl t)

  pub root_stays : T (stays up m node k 0)
  root_stays = tip_stays 0 (subst (λ (v : ℕ). T (tip up m node k v)) h.root (tip_of 0 (omega (arith, h.two))))

  -- the child of v on the way down to a node with labels is a branch
  pub branch_towards : (v w : ℕ) → w < m → v ≢ w → bit (anc up v w) ≡ 1 → T (full up m node k w)
      → (c : ℕ) × (c < m) × Branch up m node k v c × (bit (anc up c w) ≡ 1)
  branch_towards v w lw d a t =
      let s = towards up h.tree w v w (omega arith) d a in
      (suc s.0, omega (arith, s.1), record { pos = omega arith; below = s.2; holds = full_up (suc s.0) w s.3 t }, s.3)

  -- what stays has a label, or two branches
  pub stays_cases : (v : ℕ) → T (stays up m node k v)
      → T (tip up m node k v) ⊎ ((c : ℕ) × (d : ℕ) × (c < d) × (d < m) × Branch up m node k v c × Branch up m node k v d)
  unfolding stays
  stays_cases v t = elim ((or-iff (tip up m node k v) _).0 t) [
    | inl a ↦ inl a
    | inr b ↦ (let r = (count_twice m (branch up m node k v)).0 ((le_iff 2 _).0 b) in
        inr (r.0, r.1, r.2, r.3, branch-iff_to v r.0 r.4, branch-iff_to v r.1 r.5))
  ]

  -- two branches stay
  pub two_stay : (v c d : ℕ) → c < m → d < m → c ≢ d → Branch up m node k v c → Branch up m node k v d → T (stays up m node k v)
  unfolding stays
  two_stay v c d lc ld n a b = (or-iff (tip up m node k v) _).1 (inr ((le_iff 2 (count m (branch up m node k v))).1 (omega (
    arith,
    sum_two m (λ i. bit (branch up m node k v i)) c d lc ld n,
    bit-T (branch up m node k v c) (branch-iff_of v c a),
    bit-T (branch up m node k v d) (branch-iff_of v d b),
  ))))

  pub branch_above : (v c : ℕ) → Branch up m node k v c → bit (anc up v c) ≡ 1
  branch_above v c s = anc_down up h.tree v c s.pos (rw s.below (anc_self up h.tree v))

  pub branch-lt : (v c : ℕ) → Branch up m node k v c → v < c
  branch-lt v c s = omega (arith, parent-lt up h.tree c s.pos, s.below)

  pub stays_full : (v : ℕ) → T (stays up m node k v) → T (full up m node k v)
  stays_full v t = elim (stays_cases v t) [
    | inl a ↦ (let x = tip-label v a in full_of v x.0 x.1 (rw x.2 (anc_self up h.tree v)))
    | inr b ↦ full_up v b.0 (branch_above v b.0 b.4) b.4.holds
  ]

  -- ---- the first node that stays in a branch

  -- w stays in the branch of v; all labels and all nodes that stay there are at w or below
  pub record Top (v w : ℕ) : Type 0 where
    pub kept : T (stays up m node k w)
    pub node_lt : w < m
    pub below : bit (anc up v w) ≡ 1
    pub labels : (x : ℕ) → x < k → bit (anc up v (node x)) ≡ 1 → bit (anc up w (node x)) ≡ 1
    pub nodes : (u : ℕ) → u < m → T (stays up m node k u) → bit (anc up v u) ≡ 1 → bit (anc up w u) ≡ 1

  top_in : (f v : ℕ) → v < m → m ≤ v + f → T (full up m node k v) → (w : ℕ) × Top v w
  top_in zero v l b t = absurd (omega arith)
  top_in (suc f) v l b t = elim (T_dec (stays up m node k v)) [
    | inl y ↦ (
      v,
      record {
        kept = y;
        node_lt = l;
        below = anc_self up h.tree v;
        labels = λ x lx o. o;
        nodes = λ u lu s o. o;
      },
    )
    | inr z ↦ (
        let x = full_label v t in
        let c = branch_towards v (node x.0) (h.node_lt x.0 x.1) (not-tip z x.0 x.1) x.2
        (full_of (node x.0) x.0 x.1 (anc_self up h.tree (node x.0))) in
        let r = top_in f c.0 c.1 (omega (arith, branch-lt v c.0 c.2)) c.2.holds in
        (r.0, lift z c.0 c.1 c.2 r.0 r.1))
  ]
    where
      not-tip : T (not (stays up m node k v)) → (x : ℕ) → x < k → v ≢ node x
      not-tip z x lx e = T_not (stays up m node k v) z (tip_stays v (subst (λ (u : ℕ). T (tip up m node k u)) (sym e) (tip_of x lx)))

      lift : T (not (stays up m node k v)) → (c : ℕ) → c < m → Branch up m node k v c → (w : ℕ) → Top c w → Top v w
      lift z c lc s w r = record {
        kept = r.kept;
        node_lt = r.node_lt;
        below = anc_trans up h.tree v c w (branch_above v c s) r.below;
        labels = λ x lx o. r.labels x lx (through (node x) (h.node_lt x lx) (not-tip z x lx) o
            (full_of (node x) x lx (anc_self up h.tree (node x))));
        nodes = λ u lu y o. r.nodes u lu y (through u lu (other u y) o (stays_full u y));
      }
        where
          other : (u : ℕ) → T (stays up m node k u) → v ≢ u
          other u y e = T_not (stays up m node k v) z (subst (λ (a : ℕ). T (stays up m node k a)) (sym e) y)

          through : (u : ℕ) → u < m → v ≢ u → bit (anc up v u) ≡ 1 → T (full up m node k u) → bit (anc up c u) ≡ 1
          through u lu n o y =
              let d = branch_towards v u lu n o y in
              elim (ℕ_discrete d.0 c) [
                | yes e ↦ subst (λ (a : ℕ). bit (anc up a u) ≡ 1) e d.3
                | no ne ↦ absurd (T_not (stays up m node k v) z (two_stay v d.0 c d.1 lc ne d.2 s))
              ]

  pub top : (v : ℕ) → v < m → T (full up m node k v) → (w : ℕ) × Top v w
  top v l t = top_in m v l (omega arith) t
