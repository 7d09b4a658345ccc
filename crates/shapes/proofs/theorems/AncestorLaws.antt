-- Trees given by parents, and the laws of ancestors in them.
-- Assumes nothing.
use Rattle.std.specs.Prelude.{◌≡◌, Bool, true, false, ◌||◌}
use Rattle.std.proofs.Math.Path.{refl, sym, ap}
use Rattle.std.proofs.Common.{◌∙◌, inl, inr, arith, lt_of_not-le}
use Rattle.std.proofs.Math.Bool.{or_self}
use Prim.Native.Nat.{ℕ, zero, suc, ◌+◌, ◌*◌, ◌≤◌, ◌<◌}
use Rattle.std.proofs.Math.Decide.{dec_le}
use Rattle.std.proofs.Math.Dec.{eqb}
use Rattle.sums.specs.Bits.{bit, is}
use Rattle.sums.specs.theorems.BitLaws.{bit_le, bit_or, is_self, is_other_lem, alike}
use Rattle.shapes.specs.Ancestors.{anc_in, anc}
use Rattle.shapes.specs.theorems.AncestorLaws.{Rooted}

either : (b x : Bool) → ◌≡◌ {A = Bool} (elim b [ true ↦ true | false ↦ x ]) (b || x)
either true x = refl
either false x = refl

anc_in-suc : (up : ℕ → ℕ) (k i v : ℕ) → anc_in up (suc k) i v ≡ (eqb i v || anc_in up k i (up v))
unfolding anc_in
anc_in-suc up k i v = either (eqb i v) (anc_in up k i (up v))

module _ (up : ℕ → ℕ) (r : Rooted up) where
  -- ---- more steps than v make no difference

  at_root : (k i : ℕ) → anc_in up k i 0 ≡ eqb i 0
  unfolding anc_in
  at_root zero i = refl
  at_root (suc k) i =
      anc_in-suc up k i 0
      ∙ ap (λ (v : ℕ). eqb i 0 || anc_in up k i v) r.root
      ∙ ap (λ (x : Bool). eqb i 0 || x) (at_root k i)
      ∙ or_self (eqb i 0)

  enough : (k l i v : ℕ) → v ≤ k → v ≤ l → anc_in up k i v ≡ anc_in up l i v
  unfolding anc_in
  enough zero l i zero h g = sym (at_root l i)
  enough (suc k) l i zero h g = at_root (suc k) i ∙ sym (at_root l i)
  enough zero l i (suc w) h g = absurd (omega arith)
  enough (suc k) zero i (suc w) h g = absurd (omega arith)
  enough (suc k) (suc l) i (suc w) h g =
      anc_in-suc up k i (suc w)
      ∙ ap (λ (x : Bool). eqb i (suc w) || x)
      (enough k l i (up (suc w)) (omega (arith, r.falls w)) (omega (arith, r.falls w)))
      ∙ sym (anc_in-suc up l i (suc w))

  anc-zero : (i : ℕ) → anc up i 0 ≡ eqb i 0
  unfolding anc
  anc-zero i = at_root 0 i

  anc-suc : (i w : ℕ) → anc up i (suc w) ≡ (eqb i (suc w) || anc up i (up (suc w)))
  unfolding anc anc_in
  anc-suc i w =
      anc_in-suc up w i (suc w)
      ∙ ap (λ (x : Bool). eqb i (suc w) || x)
      (enough w (up (suc w)) i (up (suc w)) (r.falls w) (omega arith))

  -- ---- what holds of a node's parent holds of the node

  climb : (P : ℕ → Type 0) → P 0 → ((w : ℕ) → P (up (suc w)) → P (suc w)) → (n v : ℕ) → v ≤ n → P v
  climb P base step zero zero h = base
  climb P base step (suc n) zero h = base
  climb P base step zero (suc w) h = absurd (omega arith)
  climb P base step (suc n) (suc w) h =
      step w (climb P base step n (up (suc w)) (omega (arith, r.falls w)))

  pub up_ind : (P : ℕ → Type 0) → P 0 → ((w : ℕ) → P (up (suc w)) → P (suc w)) → (v : ℕ) → P v
  up_ind P base step v = climb P base step v v (omega arith)

  pub parent-lt : (v : ℕ) → 1 ≤ v → up v < v
  parent-lt zero l = absurd (omega arith)
  parent-lt (suc w) l = omega (arith, r.falls w)

  -- ---- ancestors as numbers

  pub anc_at_zero : (i : ℕ) → bit (anc up i 0) ≡ is i 0
  anc_at_zero i = ap bit (anc-zero i)

  anc-or : (i w : ℕ)
      → bit (anc up i (suc w)) + is i (suc w) * bit (anc up i (up (suc w)))
      ≡ is i (suc w) + bit (anc up i (up (suc w)))
  anc-or i w = rw anc-suc (bit_or (eqb i (suc w)) (anc up i (up (suc w))))

  -- an ancestor has no larger number
  pub anc-lt : (i v : ℕ) → v < i → bit (anc up i v) ≡ 0
  anc-lt i =
      up_ind (λ v. v < i → bit (anc up i v) ≡ 0)
      (λ h. anc_at_zero i ∙ is_other_lem i 0 (omega arith))
      (λ w ih h. omega (
        arith,
        anc-or i w,
        is_other_lem i (suc w) (omega arith),
        ih (omega (arith, r.falls w)),
      ))

  pub anc-le : (i v : ℕ) → bit (anc up i v) ≡ 1 → i ≤ v
  anc-le i v h = elim (dec_le i v) [
    | yes l ↦ l
    | no m ↦ absurd (omega (arith, anc-lt i v (lt_of_not-le m)))
  ]

  -- node i is the node itself or above its parent, and never both
  pub anc_up : (i w : ℕ) → bit (anc up i (suc w)) ≡ is i (suc w) + bit (anc up i (up (suc w)))
  anc_up i w = elim (alike i (suc w)) [
    | inl e ↦ omega (
      arith,
      anc-or i w,
      ap (λ (x : ℕ). is i (suc w) * x) (anc-lt i (up (suc w)) (omega (arith, r.falls w, e.0))),
    )
    | inr d ↦ omega (arith, anc-or i w, ap (λ (x : ℕ). x * bit (anc up i (up (suc w)))) d.1)
  ]

  -- one step up
  pub anc_step : (i v : ℕ) → 1 ≤ v → bit (anc up i v) ≡ is i v + bit (anc up i (up v))
  anc_step i zero l = absurd (omega arith)
  anc_step i (suc w) l = anc_up i w

  pub anc_self : (v : ℕ) → bit (anc up v v) ≡ 1
  anc_self zero = anc_at_zero 0 ∙ is_self 0
  anc_self (suc w) = omega (
    arith,
    anc_up (suc w) w,
    is_self (suc w),
    anc-lt (suc w) (up (suc w)) (omega (arith, r.falls w)),
  )

  -- 0 is above every node
  pub anc_root : (v : ℕ) → bit (anc up 0 v) ≡ 1
  anc_root =
      up_ind (λ v. bit (anc up 0 v) ≡ 1) (anc_self 0)
      (λ w ih. omega (arith, anc_up 0 w, is_other_lem 0 (suc w) (omega arith)))

  -- the parent of a node other than i is below i with the node
  pub anc_down : (i v : ℕ) → 1 ≤ v → bit (anc up i (up v)) ≡ 1 → bit (anc up i v) ≡ 1
  anc_down i zero l h = absurd (omega arith)
  anc_down i (suc w) l h = omega (arith, anc_up i w, bit_le (anc up i (suc w)))

  pub anc_past : (i v : ℕ) → i < v → bit (anc up i v) ≡ 1 → bit (anc up i (up v)) ≡ 1
  anc_past i zero l h = absurd (omega arith)
  anc_past i (suc w) l h = omega (arith, anc_up i w, is_other_lem i (suc w) (omega arith))

  pub anc_trans : (i j v : ℕ) → bit (anc up i j) ≡ 1 → bit (anc up j v) ≡ 1 → bit (anc up i v) ≡ 1
  anc_trans i j v h =
      up_ind (λ v. bit (anc up j v) ≡ 1 → bit (anc up i v) ≡ 1)
      (λ g. elim (alike j 0) [
        | inl e ↦ rw e.0 at h
        | inr d ↦ absurd (omega (arith, anc_at_zero j, d.1))
      ])
      (λ w ih g. elim (alike j (suc w)) [
        | inl e ↦ rw e.0 at h
        | inr d ↦ omega (arith, anc_up i w, ih (omega (arith, anc_up j w, d.1)), bit_le (anc up i (suc w)))
      ])
      v

  -- the ancestors of a node are in line
  pub anc-line : (i j v : ℕ) → i ≤ j → bit (anc up i v) ≡ 1 → bit (anc up j v) ≡ 1 → bit (anc up i j) ≡ 1
  anc-line i j v l =
      up_ind (λ v. bit (anc up i v) ≡ 1 → bit (anc up j v) ≡ 1 → bit (anc up i j) ≡ 1)
      (λ h g. let e : j ≡ 0 = omega (arith, anc-le j 0 g) in rw e h)
      (λ w ih h g. elim (alike j (suc w)) [
        | inl e ↦ rw e.0 h
        | inr d ↦ elim (alike i (suc w)) [
          | inl e ↦ absurd (d.0 (omega (arith, anc-le j (suc w) g)))
          | inr f ↦ ih (omega (arith, anc_up i w, f.1)) (omega (arith, anc_up j w, d.1))
        ]
      ])
      v

  -- at most one child of a node is above v
  pub one_child : (i j v : ℕ) → 1 ≤ i → 1 ≤ j → up i ≡ up j
      → bit (anc up i v) ≡ 1 → bit (anc up j v) ≡ 1 → i ≡ j
  one_child i j v li lj e h g = elim (dec_le i j) [
    | yes l ↦ (elim (dec_le j i) [ yes m ↦ omega arith | no m ↦ absurd (lower i j li e h g (omega arith)) ])
    | no m ↦ absurd (lower j i lj (sym e) g h (omega arith))
  ]
    where
      lower : (i j : ℕ) → 1 ≤ i → up i ≡ up j → bit (anc up i v) ≡ 1 → bit (anc up j v) ≡ 1 → i < j → ⊥
      lower i j li e h g l =
          let a = anc_past i j l (anc-line i j v (omega arith) h g) in
          omega (arith, anc-le i (up j) a, parent-lt i li)
