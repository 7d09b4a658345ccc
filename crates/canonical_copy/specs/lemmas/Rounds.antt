-- Numbers given rank by rank and node by node: what the branches of a node have taken when node v comes in the round of rank x.
-- Assumes nothing.
use Rattle.std.specs.Prelude.{◌≡◌, Bool, ◌&&◌, ◌||◌, ◌⊎◌, ℕ, suc, ◌+◌, ◌*◌, ◌<◌}
use Rattle.std.proofs.Common.{◌∙◌}
use Rattle.std.proofs.Math.Path.{ap}
use Rattle.std.proofs.Math.Logic.{inl, inr}
use Rattle.std.proofs.Math.Decide.{ℕ_discrete}
use native.Mathlib.Omega.{arith}
use Rattle.std.proofs.Math.Dec.{T, eqb, ltb}
use Rattle.sums.specs.Sum.{sum}
use Rattle.sums.specs.theorems.SumLaws.{sum-add, sum_ext, sum_none}
use Rattle.sums.specs.Bits.{bit, is}
use Rattle.sums.specs.theorems.BitLaws.{bit-T, bit_no, alike, sum_is}
use Rattle.sums.specs.theorems.Products.{bit_and}
use Rattle.sums.specs.theorems.TestLaws.{and-iff, or-iff, lt_iff, eq_iff, same_test}
use Rattle.shapes.proofs.theorems.AncestorLaws.{anc_trans}
use Rattle.canonical.specs.Copying.{low, branch, stays, copy_size, earlier, number}
use Rattle.canonical.specs.theorems.Branches.{TipRooted, Branch}
use Rattle.canonical.proofs.theorems.Branches.{branch-iff_to, branch_above, branch-lt}
use Rattle.canonical.proofs.theorems.Numbers.{low_label, low_least, low_apart, number-branch}

module _ (up : ℕ → ℕ) (m : ℕ) (node : ℕ → ℕ) (k : ℕ) (h : TipRooted up m node k) where
  -- d comes before node v in the round of rank x
  unfoldable pub done : ℕ → ℕ → ℕ → Bool
  done x v d = ltb (low up m node k d) x || (eqb (low up m node k d) x && ltb d v)

  -- what the branches of u that are done take
  unfoldable pub taken_by : ℕ → ℕ → ℕ → ℕ
  taken_by x v u = sum m (λ d. bit (branch up m node k u d && done x v d) * copy_size up m node k d)

  pub done_iff : (x v d : ℕ) → T (done x v d) → (low up m node k d < x) ⊎ ((low up m node k d ≡ x) × (d < v))
  unfolding done
  done_iff x v d t = elim ((or-iff (ltb (low up m node k d) x) (eqb (low up m node k d) x && ltb d v)).0 t) [
    | inl a ↦ inl ((lt_iff (low up m node k d) x).0 a)
    | inr b ↦ (let p = (and-iff (eqb (low up m node k d) x) (ltb d v)).0 b in
        inr ((eq_iff (low up m node k d) x).0 p.0, (lt_iff d v).0 p.1))
  ]

  pub done_of : (x v d : ℕ) → (low up m node k d < x) ⊎ ((low up m node k d ≡ x) × (d < v)) → T (done x v d)
  unfolding done
  done_of x v d (inl a) = (or-iff (ltb (low up m node k d) x) _).1 (inl ((lt_iff (low up m node k d) x).1 a))
  done_of x v d (inr b) = (or-iff (ltb (low up m node k d) x) _).1
      (inr ((and-iff (eqb (low up m node k d) x) (ltb d v)).1 ((eq_iff (low up m node k d) x).1 b.0, (lt_iff d v).1 b.1)))

  -- at its turn the earlier branches of its parent are done, and no others
  pub earlier_taken : (u v : ℕ) → Branch up m node k u v → earlier up m node k u v ≡ taken_by (low up m node k v) v u
  unfolding earlier taken_by
  earlier_taken u v s = sum_ext m _ _ (λ d l. ap (λ (b : Bool). bit b * copy_size up m node k d) (same_test _ _ (there d) (back d)))
    where
      there : (d : ℕ) → T (branch up m node k u d && ltb (low up m node k d) (low up m node k v))
          → T (branch up m node k u d && done (low up m node k v) v d)
      there d t = let p = (and-iff (branch up m node k u d) (ltb (low up m node k d) (low up m node k v))).0 t in
          (and-iff (branch up m node k u d) (done (low up m node k v) v d)).1 (p.0, done_of (low up m node k v) v d (inl ((lt_iff (low up m node k d) (low up m node k v)).0 p.1)))

      back : (d : ℕ) → T (branch up m node k u d && done (low up m node k v) v d)
          → T (branch up m node k u d && ltb (low up m node k d) (low up m node k v))
      back d t = let p = (and-iff (branch up m node k u d) (done (low up m node k v) v d)).0 t in
          elim (done_iff (low up m node k v) v d p.1) [
            | inl a ↦ (and-iff (branch up m node k u d) (ltb (low up m node k d) (low up m node k v))).1 (p.0, (lt_iff (low up m node k d) (low up m node k v)).1 a)
            | inr b ↦ (let e = low_apart up m node k h u d v (branch-iff_to up m node k h u d p.0) s b.0 in
                absurd (omega (arith, b.1)))
          ]

  -- so it takes the next free number of its parent
  pub number-taken : (u v : ℕ) → Branch up m node k u v
      → number up m node k v ≡ number up m node k u + bit (stays up m node k u) + taken_by (low up m node k v) v u
  number-taken u v s = omega (arith, number-branch up m node k h u v s, earlier_taken u v s)

  -- one node on: it is done if its label is the round's
  pub taken_next : (x v u : ℕ) → v < m
      → taken_by x (suc v) u ≡ taken_by x v u + bit (branch up m node k u v && eqb (low up m node k v) x) * copy_size up m node k v
  unfolding taken_by
  taken_next x v u l =
      sum_ext m _ _ (λ d ld. each d)
      ∙ sum-add m (λ d. bit (branch up m node k u d && done x v d) * copy_size up m node k d)
      (λ d. is v d * (bit (branch up m node k u d && eqb (low up m node k d) x) * copy_size up m node k d))
      ∙ ap (λ (y : ℕ). sum m (λ d. bit (branch up m node k u d && done x v d) * copy_size up m node k d) + y)
      (sum_is m v (λ d. bit (branch up m node k u d && eqb (low up m node k d) x) * copy_size up m node k d) l)
    where
      step : (d : ℕ) → bit (done x (suc v) d) ≡ bit (done x v d) + is v d * bit (eqb (low up m node k d) x)
      step d = elim (alike v d) [
        | inl e ↦ elim (alike (low up m node k d) x) [
          | inl q ↦ (
              let a = bit-T (done x (suc v) d) (done_of x (suc v) d (inr (q.0, omega (arith, e.0)))) in
              let b = bit_no (done x v d) (λ t. elim (done_iff x v d t) [ inl w ↦ omega (arith, q.0) | inr w ↦ omega (arith, w.1, e.0) ]) in
              rw (a, b, e.1, q.1) (omega arith))
          | inr q ↦ (
              let a : done x (suc v) d ≡ done x v d = same_test _ _
              (λ t. elim (done_iff x (suc v) d t) [ inl w ↦ done_of x v d (inl w) | inr w ↦ absurd (q.0 w.0) ])
              (λ t. elim (done_iff x v d t) [ inl w ↦ done_of x (suc v) d (inl w) | inr w ↦ absurd (q.0 w.0) ]) in
              rw (a, q.1) (omega arith))
        ]
        | inr n ↦ (
            let a : done x (suc v) d ≡ done x v d = same_test _ _
            (λ t. elim (done_iff x (suc v) d t) [ inl w ↦ done_of x v d (inl w) | inr w ↦ done_of x v d (inr (w.0, omega (arith, w.1, n.0))) ])
            (λ t. elim (done_iff x v d t) [ inl w ↦ done_of x (suc v) d (inl w) | inr w ↦ done_of x (suc v) d (inr (w.0, omega (arith, w.1))) ]) in
            rw (a, n.1) (omega arith))
      ]

      each : (d : ℕ) → bit (branch up m node k u d && done x (suc v) d) * copy_size up m node k d
          ≡ bit (branch up m node k u d && done x v d) * copy_size up m node k d
          + is v d * (bit (branch up m node k u d && eqb (low up m node k d) x) * copy_size up m node k d)
      each d = simp (bit_and) (omega (
        arith,
        ap (λ (y : ℕ). bit (branch up m node k u d) * (y * copy_size up m node k d)) (step d),
      ))

  -- the next round
  pub taken_round : (x u : ℕ) → taken_by (suc x) 0 u ≡ taken_by x m u
  unfolding taken_by
  taken_round x u = sum_ext m _ _ (λ d l. ap (λ (b : Bool). bit (branch up m node k u d && b) * copy_size up m node k d)
      (same_test (done (suc x) 0 d) (done x m d)
      (λ t. elim (done_iff (suc x) 0 d t) [
        | inl w ↦ elim (ℕ_discrete (low up m node k d) x) [
          | yes e ↦ done_of x m d (inr (e, l))
          | no n ↦ done_of x m d (inl (omega arith))
        ]
        | inr w ↦ absurd (omega (arith, w.1))
      ])
      (λ t. elim (done_iff x m d t) [
        | inl w ↦ done_of (suc x) 0 d (inl (omega arith))
        | inr w ↦ done_of (suc x) 0 d (inl (omega (arith, w.0)))
      ])))

  pub taken_none : (u : ℕ) → taken_by 0 0 u ≡ 0
  unfolding taken_by
  taken_none u = sum_none m _ (λ d l. rw (bit_no (branch up m node k u d && done 0 0 d) (λ t.
      elim (done_iff 0 0 d ((and-iff (branch up m node k u d) (done 0 0 d)).0 t).1) [ inl w ↦ omega arith | inr w ↦ omega (arith, w.1) ])) (omega arith))

  -- a parent is done before its child
  pub parent_done : (u v : ℕ) → Branch up m node k u v → T (done (low up m node k v) v u)
  parent_done u v s =
      let x = low_label up m node k h v s.holds in
      let a = low_least up m node k h u (low up m node k v) x.0
      (anc_trans up h.tree u v (node (low up m node k v)) (branch_above up m node k h u v s) x.1) in
      let l = branch-lt up m node k h u v s in
      done_of (low up m node k v) v u (elim (ℕ_discrete (low up m node k u) (low up m node k v)) [
        | yes e ↦ inr (e, l)
        | no n ↦ inl (omega arith)
      ])
