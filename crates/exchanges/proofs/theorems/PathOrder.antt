-- Nodes along the path from x to y: which is nearer to x, and which hang in one subtree off the path.
-- Assumes nothing.
use Rattle.std.specs.Prelude.{◌≡◌, ◌⊎◌, ◌≢◌, ℕ, ◌+◌, ◌≤◌, ◌<◌, T}
use Rattle.std.proofs.Common.{sym, ◌∙◌, ap, subst, inl, inr, arith}
use Rattle.std.proofs.Math.Decide.{dec_lt, ℕ_discrete}
use Rattle.sums.specs.Bits.{bit}
use Rattle.sums.specs.theorems.BitLaws.{bit_le, bit_cases}
use Rattle.shapes.specs.theorems.AncestorLaws.{Rooted}
use Rattle.shapes.proofs.theorems.AncestorLaws.{anc-lt, anc_self}
use Rattle.shapes.specs.Ancestors.{anc}
use Rattle.shapes.specs.theorems.PathLaws.{OnPath}
use Rattle.shapes.proofs.theorems.PathLaws.{path_side}
use Rattle.shapes.specs.Quartets.{Apart, Parted, parted}
use Rattle.shapes.proofs.theorems.PartedFours.{parted-iff, parted_turn, parted-swap_right, parted_exclusive}
use Rattle.shapes.specs.theorems.OneCentre.{OnAll}
use Rattle.shapes.proofs.theorems.OneCentre.{on_all-iff, centre_on}
use Rattle.exchanges.specs.theorems.PathOrder.{ahead, hang, off}

-- a node is on one of the two sides of an edge
on_side : (up : ℕ → ℕ) (i p q z : ℕ) → bit (anc up i p) + bit (anc up i q) ≡ 1
    → (bit (anc up i z) ≡ bit (anc up i p)) ⊎ (bit (anc up i z) ≡ bit (anc up i q))
on_side up i p q z h = elim (ℕ_discrete (bit (anc up i z)) (bit (anc up i p))) [
  | yes e ↦ inl e
  | no d ↦ inr (omega (arith, bit_le (anc up i z), bit_le (anc up i p), bit_le (anc up i q)))
]

module _ (up : ℕ → ℕ) (r : Rooted up) (k : ℕ) where
  see : (a b c d : ℕ) → T (parted up k a b c d) → Parted up k a b c d
  see a b c d = (parted-iff up k a b c d).0

  make : (a b c d i : ℕ) → 1 ≤ i → i ≤ k → Apart up i a b c d → T (parted up k a b c d)
  make a b c d i l m h = (parted-iff up k a b c d).1 (i, l, m, h)

  module _ (x y : ℕ) where
    pub ahead_clash : (a b : ℕ) → T (ahead up k x y a b) → T (ahead up k x y b a) → ⊥
    ahead_clash a b t u = parted_exclusive up r k x a b y
        (subst T (parted-swap_right up k x a y b) t) (subst T (parted-swap_right up k x b y a) u)

    pub hang_clash : (a b : ℕ) → T (hang up k x y a b) → T (ahead up k x y a b) → ⊥
    hang_clash a b t u = parted_exclusive up r k x y a b (subst T (parted_turn up k a b x y) t) u

    pub ahead_trans : (a b c : ℕ) → T (ahead up k x y a b) → T (ahead up k x y b c) → T (ahead up k x y a c)
    ahead_trans a b c t u = let s = see x a y b t in elim (on_side up s.0 x y c s.3.ac) [
      | inl e ↦ absurd (ahead_clash c b (make x c y b s.0 s.1 s.2 (omega (arith, s.3))) u)
      | inr e ↦ make x a y c s.0 s.1 s.2 (omega (arith, s.3))
    ]

    -- one edge has x, a on one side and b, c on the other
    pub ahead_both : (a b c : ℕ) → T (ahead up k x y a b) → T (ahead up k x y a c) → T (parted up k x a b c)
    ahead_both a b c t u =
        let s = see x a y b t in
        let q = see x a y c u in
        elim (on_side up s.0 x y c s.3.ac) [
          | inr e ↦ make x a b c s.0 s.1 s.2 (omega (arith, s.3))
          | inl e ↦ elim (on_side up q.0 x y b q.3.ac) [
            | inr f ↦ make x a b c q.0 q.1 q.2 (omega (arith, q.3))
            | inl f ↦ absurd (ahead_clash c b (make x c y b s.0 s.1 s.2 (omega (arith, s.3)))
                (make x b y c q.0 q.1 q.2 (omega (arith, q.3))))
          ]
        ]

    -- a pairs with x and not with y exactly if it is ahead of two that do not hang together
    pub pairs_first : (a b c : ℕ) → T (parted up k x a b c) → (T (parted up k y a b c) → ⊥)
        → T (ahead up k x y a b) × T (ahead up k x y a c) × (T (hang up k x y b c) → ⊥)
    pairs_first a b c t no-y = let s = see x a b c t in elim (on_side up s.0 x b y s.3.ac) [
      | inl e ↦ absurd (no-y (make y a b c s.0 s.1 s.2 (omega (arith, s.3))))
      | inr e ↦ (
          let ab = make x a y b s.0 s.1 s.2 (omega (arith, s.3)) in
          let ac = make x a y c s.0 s.1 s.2 (omega (arith, s.3)) in
          (ab, ac, λ h. apart ab (see b c x y h)))
    ]
      where
        apart : T (ahead up k x y a b) → Parted up k b c x y → ⊥
        apart ab q = elim (on_side up q.0 b x a q.3.ac) [
          | inl e ↦ hang_clash a b (make a b x y q.0 q.1 q.2 (omega (arith, q.3))) ab
          | inr e ↦ no-y (make y a b c q.0 q.1 q.2 (omega (arith, q.3)))
        ]

    pub first_pairs : (a b c : ℕ) → T (ahead up k x y a b) → T (ahead up k x y a c)
        → (T (hang up k x y b c) → ⊥) → T (parted up k x a b c) × (T (parted up k y a b c) → ⊥)
    first_pairs a b c ab ac no-h = (ahead_both a b c ab ac, λ t. apart (see y a b c t))
      where
        apart : Parted up k y a b c → ⊥
        apart q = elim (on_side up q.0 y b x q.3.ac) [
          | inl e ↦ no-h (make b c x y q.0 q.1 q.2 (omega (arith, q.3)))
          | inr e ↦ ahead_clash a b ab (make x b y a q.0 q.1 q.2 (omega (arith, q.3)))
        ]

    -- ---- where they leave the path

    module _ (lx : x ≤ k) (ly : y ≤ k) where
      on_all_lem : (a : ℕ) → a ≤ k → OnAll up k (off up k x y a) x y a
      on_all_lem a la = (on_all-iff up k (off up k x y a) x y a).0 (centre_on up r k x y a lx ly la).1

      off_le : (a : ℕ) → a ≤ k → off up k x y a ≤ k
      off_le a la = (centre_on up r k x y a lx ly la).0

      -- at different nodes
      pub ahead_off : (a b : ℕ) → a ≤ k → b ≤ k → T (ahead up k x y a b) → off up k x y a ≢ off up k x y b
      ahead_off a b la lb t e =
          let s = see x a y b t in
          let o = on_all_lem a la in
          let q = on_all_lem b lb in
          omega (
            arith,
            s.3,
            path_side up r k s.0 (off up k x y a) x a s.2 (off_le a la) o.1 s.3.ab,
            path_side up r k s.0 (off up k x y b) y b s.2 (off_le b lb) q.2 s.3.cd,
            ap (λ (v : ℕ). bit (anc up s.0 v)) e,
          )

      between : (a b v w : ℕ) → v < w → w ≤ k → OnAll up k v x y a → OnAll up k w x y b
          → T (ahead up k x y a b) ⊎ T (ahead up k x y b a)
      between a b v w l lw o q = elim (ℕ_discrete (bit (anc up w x)) (bit (anc up w y))) [
        | yes e ↦ absurd (omega (arith, v-side x y o.0 e, w-side x y q.0 e))
        | no d ↦ (
            let x-le = bit_le (anc up w x) in
            let y-le = bit_le (anc up w y) in
            let a-le = bit_le (anc up w a) in
            let b-le = bit_le (anc up w b) in
            elim (bit_cases (anc up w x)) [
              | inl z ↦ inl (make x a y b w (omega arith) lw (record {
                ab = z ∙ sym (a-out y (omega arith) o.2);
                cd = omega (arith, b-in x z q.1);
                ac = omega arith;
              }))
              | inr z ↦ inr (make x b y a w (omega arith) lw (record {
                ab = z ∙ sym (b-in y (omega arith) q.2);
                cd = omega (arith, a-out x z o.1);
                ac = omega arith;
              }))
            ])
      ]
        where
          v-side : (p z : ℕ) → OnPath up k v p z → bit (anc up w p) ≡ bit (anc up w z) → bit (anc up w p) ≡ 0
          v-side p z f e =
              omega (arith, path_side up r k w v p z lw (omega arith) f e, anc-lt up r w v l)

          w-side : (p z : ℕ) → OnPath up k w p z → bit (anc up w p) ≡ bit (anc up w z) → bit (anc up w p) ≡ 1
          w-side p z f e = omega (arith, path_side up r k w w p z lw lw f e, anc_self up r w)

          a-out : (p : ℕ) → bit (anc up w p) ≡ 1 → OnPath up k v p a → bit (anc up w a) ≡ 0
          a-out p h f = elim (bit_cases (anc up w a)) [
            | inl z ↦ z
            | inr z ↦ absurd (omega (arith, v-side p a f (h ∙ sym z)))
          ]

          b-in : (p : ℕ) → bit (anc up w p) ≡ 0 → OnPath up k w p b → bit (anc up w b) ≡ 1
          b-in p h f = elim (bit_cases (anc up w b)) [
            | inl z ↦ absurd (omega (arith, w-side p b f (h ∙ sym z)))
            | inr z ↦ z
          ]

      pub off_ahead : (a b : ℕ) → a ≤ k → b ≤ k → off up k x y a ≢ off up k x y b
          → T (ahead up k x y a b) ⊎ T (ahead up k x y b a)
      off_ahead a b la lb d = elim (dec_lt (off up k x y a) (off up k x y b)) [
        | yes l ↦ between a b _ _ l (off_le b lb) (on_all_lem a la) (on_all_lem b lb)
        | no m ↦ elim (between b a _ _ (omega arith) (off_le a la) (on_all_lem b lb) (on_all_lem a la)) [
          | inl t ↦ inr t
          | inr t ↦ inl t
        ]
      ]
