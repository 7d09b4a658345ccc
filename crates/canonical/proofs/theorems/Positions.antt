-- Nodes that stay have different numbers, and each number below the size of the whole is one of them.
-- Assumes nothing.
use Rattle.std.specs.Prelude.{◌≡◌, refl, ◌&&◌, ◌⊎◌, ◌≢◌, ℕ, ◌+◌, ◌*◌, ◌≤◌, ◌<◌, T}
use Rattle.std.proofs.Common.{sym, ◌∙◌, inl, inr, arith}
use Rattle.std.proofs.Math.Path.{ap}
use Rattle.std.proofs.Math.Decide.{dec_lt, ℕ_discrete}
use Rattle.std.proofs.Math.Dec.{eqb}
use Rattle.sums.specs.Sum.{sum}
use Rattle.sums.specs.theorems.SumLaws.{sum_ext, sum-swap, sum-mul_left, sum-pos, sum_at_most_one, sum-all-ones}
use Rattle.sums.specs.Bits.{bit, is}
use Rattle.sums.specs.theorems.BitLaws.{bit_le, bit_cases, sum_is}
use Rattle.sums.specs.theorems.TestLaws.{and-iff, eq_iff, same_test, some-iff, first_passes}
use Rattle.sums.specs.theorems.Products.{product_le}
use Rattle.sums.specs.Counts.{count}
use Rattle.shapes.proofs.theorems.AncestorLaws.{anc_root}
use Rattle.shapes.specs.Ancestors.{anc}
use Rattle.shapes.specs.theorems.Siblings.{Siblings, siblings_sym}
use Rattle.shapes.proofs.theorems.Siblings.{parting}
use Rattle.sums.specs.Tests.{first}
use Rattle.canonical.specs.Copying.{full, low, stays, copy_size, number, at}
use Rattle.canonical.specs.theorems.Branches.{TipRooted}
use Rattle.canonical.proofs.theorems.Branches.{passed, full_up, stays_full}
use Rattle.canonical.proofs.theorems.Numbers.{both, size-pos, low_apart, inside, number-zero, number_below, number_beside}

module _ (up : ℕ → ℕ) (m : ℕ) (node : ℕ → ℕ) (k : ℕ) (h : TipRooted up m node k) where
  -- the branches of two nodes beside each other come by their smallest labels
  pub beside_cases : (v w : ℕ) → v < m → w < m → T (full up m node k v) → T (full up m node k w) → (s : Siblings up v w)
      → ((low up m node k s.one < low up m node k s.two) × (number up m node k v + copy_size up m node k v ≤ number up m node k w))
      ⊎ ((low up m node k s.two < low up m node k s.one) × (number up m node k w + copy_size up m node k w ≤ number up m node k v))
  beside_cases v w lv lw tv tw s = elim (dec_lt (low up m node k s.one) (low up m node k s.two)) [
    | yes q ↦ inl (q, number_beside up m node k h v w lv lw tv tw s q)
    | no f ↦ (
        let d : low up m node k s.one ≢ low up m node k s.two = λ e. s.apart (low_apart up m node k h (up s.one) s.one s.two
        (record { pos = s.pos_one; below = refl; holds = full_up up m node k h s.one v s.over_one tv })
        (record { pos = s.pos_two; below = sym s.level; holds = full_up up m node k h s.two w s.over_two tw }) e) in
        let q : low up m node k s.two < low up m node k s.one = omega arith in
        inr (q, number_beside up m node k h w v lw lv tw tv (siblings_sym s) q))
  ]

  pub number-one : (v w : ℕ) → v < m → w < m → T (stays up m node k v) → T (stays up m node k w)
      → number up m node k v ≡ number up m node k w → v ≡ w
  number-one v w lv lw sv sw e = elim (ℕ_discrete v w) [
    | yes q ↦ q
    | no d ↦ elim (bit_cases (anc up v w)) [
      | inr o ↦ absurd (omega (arith, number_below up m node k h v w lw sv fw d o))
      | inl z ↦ elim (bit_cases (anc up w v)) [
        | inr o ↦ absurd (omega (arith, number_below up m node k h w v lv sw fv (λ q. d (sym q)) o))
        | inl y ↦ elim (beside_cases v w lv lw fv fw (parting up h.tree v w z y)) [
          | inl p ↦ absurd (omega (arith, p.1, size-pos up m node k h v lv sv))
          | inr p ↦ absurd (omega (arith, p.1, size-pos up m node k h w lw sw))
        ]
      ]
    ]
  ]
    where
      fv : T (full up m node k v)
      fv = stays_full up m node k h v sv

      fw : T (full up m node k w)
      fw = stays_full up m node k h w sw

  pub number_lt : (v : ℕ) → v < m → T (stays up m node k v) → number up m node k v < copy_size up m node k 0
  number_lt v l s = omega (
    arith,
    (inside up m node k h 0 v l (stays_full up m node k h v s) (anc_root up h.tree v)).1,
    number-zero up m node k h,
    size-pos up m node k h v l s,
  )

  -- the whole
  pub size-all : copy_size up m node k 0 ≡ count m (stays up m node k)
  unfolding copy_size
  size-all = sum_ext m _ _ (λ w l. ap bit (both_true w))
    where
      both_true : (w : ℕ) → (stays up m node k w && anc up 0 w) ≡ stays up m node k w
      both_true w = same_test (stays up m node k w && anc up 0 w) (stays up m node k w) (λ t. ((and-iff (stays up m node k w) (anc up 0 w)).0 t).0)
          (λ t. (and-iff (stays up m node k w) (anc up 0 w)).1 (t, passed (anc up 0 w) (anc_root up h.tree w)))

  numbered : (i : ℕ) → i < copy_size up m node k 0 → 1 ≤ sum m (λ v. bit (stays up m node k v) * is (number up m node k v) i)
  numbered = sum-all-ones (copy_size up m node k 0) (λ i. sum m (λ v. bit (stays up m node k v) * is (number up m node k v) i))
      (λ i l. sum_at_most_one m (λ v. bit (stays up m node k v) * is (number up m node k v) i)
      (λ v lv. product_le 1 1 _ _ (bit_le (stays up m node k v)) (bit_le (eqb (number up m node k v) i)))
      (λ v w lv lw a b.
      let p = both (stays up m node k v) (eqb (number up m node k v) i) a in
      let q = both (stays up m node k w) (eqb (number up m node k w) i) b in
      number-one v w lv lw p.0 q.0 ((eq_iff _ i).0 p.1 ∙ sym ((eq_iff _ i).0 q.1))))
      (omega (
        arith,
        size-all,
        sum-swap (copy_size up m node k 0) m (λ i v. bit (stays up m node k v) * is (number up m node k v) i),
        sum_ext m (λ v. sum (copy_size up m node k 0) (λ i. bit (stays up m node k v) * is (number up m node k v) i))
            (λ v. bit (stays up m node k v)) (λ v lv. each v lv),
      ))
    where
      each : (v : ℕ) → v < m
          → sum (copy_size up m node k 0) (λ i. bit (stays up m node k v) * is (number up m node k v) i) ≡ bit (stays up m node k v)
      each v lv = sum-mul_left (copy_size up m node k 0) (bit (stays up m node k v)) (λ i. is (number up m node k v) i) ∙
          elim (bit_cases (stays up m node k v)) [
            | inl z ↦ rw z (omega arith)
            | inr o ↦ (let l = number_lt v lv (passed (stays up m node k v) o) in
                let q = sum_is (copy_size up m node k 0) (number up m node k v) (λ i. 1) l in
                let e = sum_ext (copy_size up m node k 0) (λ i. is (number up m node k v) i * 1) (λ i. is (number up m node k v) i) (λ i li. omega arith) in
                rw o (omega (arith, q, e)))
          ]

  -- the node with the number i
  pub at_is : (i : ℕ) → i < copy_size up m node k 0
      → (at up m node k i < m) × T (stays up m node k (at up m node k i)) × (number up m node k (at up m node k i) ≡ i)
  unfolding at
  at_is i l =
      let r = sum-pos m (λ v. bit (stays up m node k v) * is (number up m node k v) i) (numbered i l) in
      let p = both (stays up m node k r.0) (eqb (number up m node k r.0) i) r.2 in
      let f = first_passes m (λ v. stays up m node k v && eqb (number up m node k v) i) ((some-iff m _).1 (
        r.0,
        r.1,
        (and-iff (stays up m node k r.0) _).1 p,
      )) in
      let g = (and-iff (stays up m node k (first m (λ v. stays up m node k v && eqb (number up m node k v) i))) _).0 f.1 in
      (f.0, g.0, (eq_iff _ i).0 g.1)

  pub at_number : (v : ℕ) → v < m → T (stays up m node k v) → at up m node k (number up m node k v) ≡ v
  at_number v l s =
      let r = at_is (number up m node k v) (number_lt v l s) in
      number-one (at up m node k (number up m node k v)) v r.0 l r.1 s r.2
