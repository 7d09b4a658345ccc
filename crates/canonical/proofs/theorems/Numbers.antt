-- The numbers of the copy: a branch takes a run of numbers as long as its size, and the runs of branches lie apart.
-- Assumes nothing.
use Rattle.std.specs.Prelude.{◌≡◌, Bool, ◌&&◌, ◌≢◌, T}
use Rattle.std.proofs.Math.Path.{refl, sym, ap}
use Rattle.std.proofs.Common.{◌∙◌, subst, inl, inr, eq-zero-or-pos}
use Prim.Native.Nat.{ℕ, zero, suc, ◌+◌, ◌*◌, ◌≤◌, ◌<◌}
use native.Mathlib.Omega.{arith}
use Rattle.std.proofs.Math.Dec.{ltb}
use Rattle.sums.specs.Sum.{sum}
use Rattle.sums.specs.theorems.SumLaws.{sum-add, sum_ext, sum_mono, sum_none, sum-ge, sum-swap, sum-mul_left, sum_at_most_one}
use Rattle.sums.specs.Bits.{bit, is}
use Rattle.sums.specs.theorems.BitLaws.{bit_le, T-bit, bit-T, bit_cases, bit_no, alike, sum_is}
use Rattle.sums.specs.theorems.TestLaws.{and-iff, lt_iff, some-iff, first_least_lem, first_passes}
use Rattle.sums.specs.theorems.Products.{bit_and, product_le, times_pos}
use Rattle.sums.specs.Counts.{count}
use Rattle.shapes.proofs.theorems.AncestorLaws.{up_ind, anc-le, anc_up, anc_at_zero, anc_self, anc_trans, one_child}
use Rattle.shapes.specs.Ancestors.{anc}
use Rattle.shapes.specs.theorems.Siblings.{Siblings}
use Rattle.sums.specs.Tests.{first}
use Rattle.canonical.specs.Copying.{full, low, branch, stays, copy_size, earlier, number_in, number}
use Rattle.canonical.specs.theorems.Branches.{TipRooted, Branch}
use Rattle.canonical.proofs.theorems.Branches.{passed, full_label, full_up, branch-iff_to, branch-iff_of, branch_towards, branch_above, branch-lt}

pub both : (a b : Bool) → 1 ≤ bit a * bit b → T a × T b
both a b l = let p = times_pos (bit a) (bit b) l in (T-bit a p.0, T-bit b p.1)

-- a sum over fewer, with one term that is left out, is at most the sum over more
grows : (m c : ℕ) (A B : ℕ → Bool) (s : ℕ → ℕ) → c < m → ((e : ℕ) → T (A e) → T (B e)) → (T (A c) → ⊥) → T (B c)
    → sum m (λ e. bit (A e) * s e) + s c ≤ sum m (λ e. bit (B e) * s e)
grows m c A B s l ab na bc = omega (
  arith,
  sum_is m c s l,
  sum-add m (λ e. bit (A e) * s e) (λ e. is c e * s e),
  sum_mono m (λ e. bit (A e) * s e + is c e * s e) (λ e. bit (B e) * s e) (λ e le. each e),
)
  where
    each : (e : ℕ) → bit (A e) * s e + is c e * s e ≤ bit (B e) * s e
    each e = elim (alike c e) [
      | inl q ↦ (
          let a : bit (A e) ≡ 0 = bit_no (A e) (λ t. na (subst (λ (x : ℕ). T (A x)) (sym q.0) t)) in
          let b : bit (B e) ≡ 1 = bit-T (B e) (subst (λ (x : ℕ). T (B x)) q.0 bc) in
          rw (a, b, q.1) (omega arith))
      | inr d ↦ elim (bit_cases (A e)) [
        | inl a ↦ rw (a, d.1) (omega arith)
        | inr a ↦ (let b : bit (B e) ≡ 1 = bit-T (B e) (ab e (passed (A e) a)) in rw (a, b, d.1) (omega arith))
      ]
    ]

module _ (up : ℕ → ℕ) (m : ℕ) (node : ℕ → ℕ) (k : ℕ) (h : TipRooted up m node k) where
  -- ---- sizes

  pub size-pos : (v : ℕ) → v < m → T (stays up m node k v) → 1 ≤ copy_size up m node k v
  unfolding copy_size
  size-pos v l t = omega (
    arith,
    sum-ge m (λ w. bit (stays up m node k w && anc up v w)) v l,
    bit-T (stays up m node k v && anc up v v) ((and-iff (stays up m node k v) _).1 (t, passed (anc up v v) (anc_self up h.tree v))),
  )

  -- a node below v is v, or below one branch of v
  split_node : (v w : ℕ) → w < m
      → is v w * bit (stays up m node k w)
      + sum m (λ d. bit (branch up m node k v d) * bit (stays up m node k w && anc up d w))
      ≤ bit (stays up m node k w && anc up v w)
  split_node v w lw = elim (alike v w) [
    | inl e ↦ (
        let z = sum_none m (λ d. bit (branch up m node k v d) * bit (stays up m node k w && anc up d w)) (λ d ld. own d e.0) in
        let a : bit (anc up v w) ≡ 1 = subst (λ (x : ℕ). bit (anc up v x) ≡ 1) e.0 (anc_self up h.tree v) in
        rw (e.1, z, bit_and (stays up m node k w) (anc up v w), a) (omega arith))
    | inr d ↦ elim (bit_cases (stays up m node k w && anc up v w)) [
      | inr o ↦ rw (d.1, o) (omega (
        arith,
        sum_at_most_one m (λ d. bit (branch up m node k v d) * bit (stays up m node k w && anc up d w))
            (λ i l. product_le 1 1 _ _ (bit_le (branch up m node k v i)) (bit_le (stays up m node k w && anc up i w)))
            (λ i j li lj a b. let p = parts i a in let q = parts j b in
            one_child up h.tree i j w p.0.pos q.0.pos (p.0.below ∙ sym q.0.below) p.1 q.1),
      ))
      | inl z ↦ rw (d.1, z) (omega (
        arith,
        sum_none m (λ d. bit (branch up m node k v d) * bit (stays up m node k w && anc up d w)) (λ i l. none i z),
      ))
    ]
  ]
    where
      parts : (d : ℕ) → 1 ≤ bit (branch up m node k v d) * bit (stays up m node k w && anc up d w)
          → Branch up m node k v d × (bit (anc up d w) ≡ 1) × T (stays up m node k w)
      parts d l =
          let b = both (branch up m node k v d) (stays up m node k w && anc up d w) l in
          let s = (and-iff (stays up m node k w) (anc up d w)).0 b.1 in
          (branch-iff_to up m node k h v d b.0, bit-T (anc up d w) s.1, s.0)

      own : (d : ℕ) → v ≡ w → bit (branch up m node k v d) * bit (stays up m node k w && anc up d w) ≡ 0
      own d e = elim (eq-zero-or-pos (bit (branch up m node k v d) * bit (stays up m node k w && anc up d w))) [
        | inl z ↦ z
        | inr p ↦ (let s = parts d p in
            absurd (omega (arith, branch-lt up m node k h v d s.0, anc-le up h.tree d w s.1)))
      ]

      none : (d : ℕ) → bit (stays up m node k w && anc up v w) ≡ 0
          → bit (branch up m node k v d) * bit (stays up m node k w && anc up d w) ≡ 0
      none d z = elim (eq-zero-or-pos (bit (branch up m node k v d) * bit (stays up m node k w && anc up d w))) [
        | inl q ↦ q
        | inr p ↦ (
            let s = parts d p in
            let a = anc_trans up h.tree v d w (branch_above up m node k h v d s.0) s.1 in
            absurd (omega (
              arith,
              bit-T (stays up m node k w && anc up v w)
                  ((and-iff (stays up m node k w) (anc up v w)).1 (s.2, passed (anc up v w) a)),
            )))
      ]

  -- v, if it stays, and its branches are no more than the whole
  pub size-parts : (v : ℕ) → v < m
      → bit (stays up m node k v) + sum m (λ d. bit (branch up m node k v d) * copy_size up m node k d) ≤ copy_size up m node k v
  unfolding copy_size
  size-parts v l = omega (
    arith,
    sum_is m v (λ w. bit (stays up m node k w)) l,
    sum_ext m (λ d. bit (branch up m node k v d) * count m (λ w. stays up m node k w && anc up d w))
        (λ d. sum m (λ w. bit (branch up m node k v d) * bit (stays up m node k w && anc up d w)))
        (λ d ld. sym (sum-mul_left m (bit (branch up m node k v d)) (λ w. bit (stays up m node k w && anc up d w)))),
    sum-swap m m (λ d w. bit (branch up m node k v d) * bit (stays up m node k w && anc up d w)),
    sum-add m (λ w. is v w * bit (stays up m node k w))
        (λ w. sum m (λ d. bit (branch up m node k v d) * bit (stays up m node k w && anc up d w))),
    sum_mono m
        (λ w. is v w * bit (stays up m node k w)
        + sum m (λ d. bit (branch up m node k v d) * bit (stays up m node k w && anc up d w)))
        (λ w. bit (stays up m node k w && anc up v w)) (λ w lw. split_node v w lw),
  )

  -- ---- smallest labels

  pub low_label : (c : ℕ) → T (full up m node k c)
      → (low up m node k c < k) × (bit (anc up c (node (low up m node k c))) ≡ 1)
  unfolding low
  low_label c t =
      let x = full_label up m node k h c t in
      let r = first_passes k (λ x. anc up c (node x)) ((some-iff k (λ x. anc up c (node x))).1 (x.0, x.1, passed (anc up c (node x.0)) x.2)) in
      (r.0, bit-T (anc up c (node (first k (λ x. anc up c (node x))))) r.1)

  pub low_least : (c x : ℕ) → x < k → bit (anc up c (node x)) ≡ 1 → low up m node k c ≤ x
  unfolding low
  low_least c x l o = first_least_lem k (λ x. anc up c (node x)) x l (passed (anc up c (node x)) o)

  pub low_apart : (v c d : ℕ) → Branch up m node k v c → Branch up m node k v d → low up m node k c ≡ low up m node k d → c ≡ d
  low_apart v c d a b e =
      let x = low_label c a.holds in
      let y = low_label d b.holds in
      let z : bit (anc up d (node (low up m node k c))) ≡ 1 = rw e y.1 in
      one_child up h.tree c d (node (low up m node k c)) a.pos b.pos (a.below ∙ sym b.below) x.1 z

  -- ---- earlier branches

  pub earlier_next : (v c d : ℕ) → c < m → Branch up m node k v c → low up m node k c < low up m node k d
      → earlier up m node k v c + copy_size up m node k c ≤ earlier up m node k v d
  unfolding earlier
  earlier_next v c d l a q = grows m c (λ e. branch up m node k v e && ltb (low up m node k e) (low up m node k c))
      (λ e. branch up m node k v e && ltb (low up m node k e) (low up m node k d)) (copy_size up m node k) l
      (λ e t. let p = (and-iff (branch up m node k v e) _).0 t in
      (and-iff (branch up m node k v e) _).1 (p.0, (lt_iff _ _).1 (less e ((lt_iff _ _).0 p.1))))
      (λ t. let q : low up m node k c < low up m node k c = (lt_iff _ _).0 ((and-iff (branch up m node k v c) _).0 t).1 in omega arith)
      ((and-iff (branch up m node k v c) _).1 (branch-iff_of up m node k h v c a, (lt_iff _ _).1 q))
    where
      less : (e : ℕ) → low up m node k e < low up m node k c → low up m node k e < low up m node k d
      less e p = omega arith

  pub earlier_all : (v c : ℕ) → c < m → Branch up m node k v c
      → earlier up m node k v c + copy_size up m node k c ≤ sum m (λ d. bit (branch up m node k v d) * copy_size up m node k d)
  unfolding earlier
  earlier_all v c l a = grows m c (λ d. branch up m node k v d && ltb (low up m node k d) (low up m node k c)) (branch up m node k v) (copy_size up m node k) l
      (λ e t. ((and-iff (branch up m node k v e) _).0 t).0)
      (λ t. let q : low up m node k c < low up m node k c = (lt_iff _ _).0 ((and-iff (branch up m node k v c) _).0 t).1 in omega arith)
      (branch-iff_of up m node k h v c a)

  -- ---- numbers

  enough : (f g v : ℕ) → v ≤ f → v ≤ g → number_in up m node k f v ≡ number_in up m node k g v
  unfolding number_in
  enough zero zero zero a b = refl
  enough zero (suc g) zero a b = refl
  enough (suc f) zero zero a b = refl
  enough (suc f) (suc g) zero a b = refl
  enough zero g (suc w) a b = absurd (omega arith)
  enough (suc f) zero (suc w) a b = absurd (omega arith)
  enough (suc f) (suc g) (suc w) a b =
      ap (λ (x : ℕ). x + bit (stays up m node k (up (suc w))) + earlier up m node k (up (suc w)) (suc w))
      (enough f g (up (suc w)) (omega (arith, h.tree.falls w)) (omega (arith, h.tree.falls w)))

  pub number-zero : number up m node k 0 ≡ 0
  unfolding number number_in
  number-zero = refl

  number-suc : (w : ℕ) → number up m node k (suc w)
      ≡ number up m node k (up (suc w)) + bit (stays up m node k (up (suc w))) + earlier up m node k (up (suc w)) (suc w)
  unfolding number number_in
  number-suc w =
      ap (λ (x : ℕ). x + bit (stays up m node k (up (suc w))) + earlier up m node k (up (suc w)) (suc w))
      (enough w (up (suc w)) (up (suc w)) (h.tree.falls w) (omega arith))

  pub number-branch : (v c : ℕ) → Branch up m node k v c
      → number up m node k c ≡ number up m node k v + bit (stays up m node k v) + earlier up m node k v c
  number-branch v zero s = absurd (omega (arith, s.pos))
  number-branch v (suc w) s =
      number-suc w ∙ ap (λ (x : ℕ). number up m node k x + bit (stays up m node k x) + earlier up m node k x (suc w)) s.below

  -- a branch's run is inside that of its node
  pub branch_inside : (v c : ℕ) → c < m → Branch up m node k v c
      → (number up m node k v + bit (stays up m node k v) ≤ number up m node k c)
      × (number up m node k c + copy_size up m node k c ≤ number up m node k v + copy_size up m node k v)
  branch_inside v c l s =
      let e = number-branch v c s in
      let a = earlier_all v c l s in
      let b = size-parts v (omega (arith, branch-lt up m node k h v c s)) in
      (omega arith, omega arith)

  pub inside : (v w : ℕ) → w < m → T (full up m node k w) → bit (anc up v w) ≡ 1
      → (number up m node k v ≤ number up m node k w)
      × (number up m node k w + copy_size up m node k w ≤ number up m node k v + copy_size up m node k v)
  inside v =
      up_ind up h.tree (λ w. w < m → T (full up m node k w) → bit (anc up v w) ≡ 1
      → (number up m node k v ≤ number up m node k w)
      × (number up m node k w + copy_size up m node k w ≤ number up m node k v + copy_size up m node k v))
      (λ l t o. elim (alike v 0) [
        | inl e ↦ rw e.0 (omega arith, omega arith)
        | inr d ↦ absurd (omega (arith, anc_at_zero up h.tree v, d.1))
      ])
      (λ w ih l t o. elim (alike v (suc w)) [
        | inl e ↦ rw e.0 (omega arith, omega arith)
        | inr d ↦ (
            let p = up (suc w) in
            let s : Branch up m node k p (suc w) = record { pos = omega arith; below = refl; holds = t } in
            let r = ih (omega (arith, h.tree.falls w)) (full_up up m node k h p (suc w) (branch_above up m node k h p (suc w) s) t)
            (omega (arith, anc_up up h.tree v w, d.1)) in
            let q = branch_inside p (suc w) l s in
            (omega (arith, r.0, q.0), omega (arith, r.1, q.1)))
      ])

  -- a node below one that stays has a larger number
  pub number_below : (v w : ℕ) → w < m → T (stays up m node k v) → T (full up m node k w) → v ≢ w → bit (anc up v w) ≡ 1
      → number up m node k v < number up m node k w
  number_below v w l y t d o =
      let c = branch_towards up m node k h v w l d o t in
      omega (arith, (branch_inside v c.0 c.1 c.2).0, (inside c.0 w l t c.3).0, bit-T (stays up m node k v) y)

  -- the runs of two branches of a node follow each other by smallest label
  pub number_beside : (v w : ℕ) → v < m → w < m → T (full up m node k v) → T (full up m node k w) → (s : Siblings up v w)
      → low up m node k s.one < low up m node k s.two
      → number up m node k v + copy_size up m node k v ≤ number up m node k w
  number_beside v w lv lw tv tw s q =
      let r = h.tree in
      let a : Branch up m node k (up s.one) s.one = record { pos = s.pos_one; below = refl; holds = full_up up m node k h s.one v s.over_one tv } in
      let b : Branch up m node k (up s.one) s.two = record { pos = s.pos_two; below = sym s.level; holds = full_up up m node k h s.two w s.over_two tw } in
      omega (
        arith,
        (inside s.one v lv tv s.over_one).1,
        (inside s.two w lw tw s.over_two).0,
        number-branch (up s.one) s.one a,
        number-branch (up s.one) s.two b,
        earlier_next (up s.one) s.one s.two (omega (arith, anc-le up r s.one v s.over_one)) a q,
      )
