-- Four nodes are claimed once, by one triple of codes, if an edge parts them, and never if none does.
-- Assumes nothing.
use Rattle.std.specs.Prelude.{◌≡◌, ◌⊎◌, ◌≢◌}
use Rattle.std.proofs.Common.{sym, ◌∙◌, ap, inl, inr, eq-zero-or-pos, arith, T_not}
use Prim.Native.Nat.{ℕ, suc, ◌+◌, ◌*◌, ◌/◌, ◌≤◌, ◌<◌}
use Rattle.sums.specs.Sum.{sum}
use Rattle.sums.specs.theorems.SumLaws.{sum_ext, sum-pos}
use Rattle.sums.specs.Bits.{bit}
use Rattle.sums.specs.theorems.BitLaws.{bit_le, bit_cases, bit_not, bit-T, bit_no}
use Rattle.sums.specs.theorems.TestLaws.{T_dec}
use Rattle.sums.specs.theorems.Products.{times_pos}
use Rattle.sums.specs.theorems.Exclusion.{two_apart, three_apart, TwoApart, two_apart-pos}
use Rattle.shapes.specs.theorems.AncestorLaws.{Rooted}
use Rattle.shapes.specs.Ancestors.{anc}
use Rattle.shapes.specs.Directions.{head, behind}
use Rattle.shapes.specs.theorems.DirectionLaws.{into}
use Rattle.shapes.proofs.theorems.DirectionLaws.{behind_even, behind_odd, code_cases, one_code}
use Rattle.shapes.proofs.theorems.PathLaws.{one_side}
use Rattle.shapes.specs.Quartets.{Apart, Parted, parted}
use Rattle.shapes.proofs.theorems.PartedFours.{parted-iff}
use Rattle.shapes.specs.theorems.Shape.{Leaf}
use Rattle.shapes.proofs.theorems.EulerCentre.{into_pos, one-centre}
use Rattle.shapes.specs.theorems.Triples.{triples}

-- a code with a and b behind it, and neither c nor d
pub code_apart : (up : ℕ → ℕ) (e a b c d : ℕ) → bit (behind up e a) ≡ 1 → bit (behind up e b) ≡ 1
    → bit (behind up e c) ≡ 0 → bit (behind up e d) ≡ 0 → Apart up (suc (e / 2)) a b c d
code_apart up e a b c d ha hb hc hd = elim (code_cases e) [
  | inl h ↦ omega (arith, even h a, even h b, even h c, even h d)
  | inr h ↦ omega (arith, odd h a, odd h b, odd h c, odd h d)
]
  where
    even : e ≡ 2 * (e / 2) → (x : ℕ) → bit (behind up e x) ≡ bit (anc up (suc (e / 2)) x)
    even h x = ap (λ (f : ℕ). bit (behind up f x)) h ∙ ap bit (behind_even up (e / 2) x)

    odd : e ≡ suc (2 * (e / 2)) → (x : ℕ) → bit (anc up (suc (e / 2)) x) + bit (behind up e x) ≡ 1
    odd h x = omega (
      arith,
      ap (λ (f : ℕ). bit (behind up f x)) h ∙ ap bit (behind_odd up (e / 2) x),
      bit_not (anc up (suc (e / 2)) x),
    )

module _ (up : ℕ → ℕ) (r : Rooted up) (k a b c d : ℕ) (la : a ≤ k) (lb : b ≤ k) (lc : c ≤ k)
    (ld : d ≤ k) where
  -- where an edge parts them, a triple with a behind its first code has b behind it too
  follow : Parted up k a b c d → (v e : ℕ) → v ≤ k → e < 2 * k → 1 ≤ into up v a e
      → 1 ≤ two_apart (2 * k) e (into up v c) (into up v d) → bit (behind up e b) ≡ 1
  follow p v e lv le h t = elim (bit_cases (anc up i v)) [
    | inl z ↦ elim (bit_cases (anc up i a)) [
      | inl y ↦ on-left (omega (arith, p.3))
      | inr y ↦ on-right (omega (arith, p.3))
    ]
    | inr z ↦ elim (bit_cases (anc up i a)) [
      | inl y ↦ on-right (omega (arith, p.3))
      | inr y ↦ on-left (omega (arith, p.3))
    ]
  ]
    where
      i : ℕ
      i = p.0

      s : TwoApart (2 * k) e (into up v c) (into up v d)
      s = two_apart-pos (2 * k) e (into up v c) (into up v d) t

      on-right : bit (anc up i v) + bit (anc up i a) ≡ 1 → bit (behind up e b) ≡ 1
      on-right q =
          let w = one_side up r k i v a b p.2 lv q p.3.ab in
          let x = into_pos up v a e h in
          rw (← one_code up r k v a w.0 e lv la w.1 le w.2 x.0 w.3 x.1) w.4

      on-left : bit (anc up i v) + bit (anc up i c) ≡ 1 → bit (behind up e b) ≡ 1
      on-left q =
          let w = one_side up r k i v c d p.2 lv q p.3.cd in
          let x = into_pos up v c s.f s.f_pos in
          let y = into_pos up v d s.g s.g_pos in
          let f-is = one_code up r k v c w.0 s.f lv lc w.1 s.f_lt w.2 x.0 w.3 x.1 in
          let g-is = one_code up r k v d w.0 s.g lv ld w.1 s.g_lt w.2 y.0 w.4 y.1 in
          absurd (s.f_g (sym f-is ∙ g-is))

  parted-one : Leaf up k a → Leaf up k c → Leaf up k d → a ≢ c → a ≢ d → c ≢ d
      → Parted up k a b c d → triples up k a b c d ≡ 1
  unfolding triples three_apart
  parted-one ta tc td ac ad cd p =
      sum_ext (suc k) _ _ (λ v lv. sum_ext (2 * k) _ _ (λ e le.
      same v (omega arith) e le (eq-zero-or-pos (into up v a e)) (eq-zero-or-pos (others v e))))
      ∙ one-centre up r k a c d la lc ld ta tc td ac ad cd
    where
      others : ℕ → ℕ → ℕ
      others v e = two_apart (2 * k) e (into up v c) (into up v d)

      same : (v : ℕ) → v ≤ k → (e : ℕ) → e < 2 * k
          → (into up v a e ≡ 0) ⊎ (0 < into up v a e) → (others v e ≡ 0) ⊎ (0 < others v e)
          → into up v a e * bit (behind up e b) * others v e ≡ into up v a e * others v e
      same v lv e le (inl z) t = rw z (omega arith)
      same v lv e le (inr h) (inl z) = rw z (omega arith)
      same v lv e le (inr h) (inr t) = rw (follow p v e lv le h t) (omega arith)

  -- the first code of a triple parts them
  pub claimed_parted : 1 ≤ triples up k a b c d → Parted up k a b c d × (c ≢ d)
  unfolding triples three_apart
  claimed_parted h =
      let o = sum-pos (suc k) (λ v. sum (2 * k) (first v)) h in
      let p = sum-pos (2 * k) (first o.0) o.2 in
      found o.0 p.0 (omega (arith, o.1)) p.1 (times_pos _ _ p.2)
    where
      first : ℕ → ℕ → ℕ
      first v e = into up v a e * bit (behind up e b) * two_apart (2 * k) e (into up v c) (into up v d)

      found : (v e : ℕ) → v ≤ k → e < 2 * k
          → (1 ≤ into up v a e * bit (behind up e b))
          × (1 ≤ two_apart (2 * k) e (into up v c) (into up v d))
          → Parted up k a b c d × (c ≢ d)
      found v e lv le h = (
        (
          suc (e / 2),
          omega arith,
          omega arith,
          code_apart up e a b c d at_a.1 (omega (arith, ab.1, bit_le (behind up e b)))
              (off c s.f lc s.f_lt s.e_f at_c) (off d s.g ld s.g_lt s.e_g at-d),
        ),
        λ q. s.f_g (one_code up r k v c s.f s.g lv lc s.f_lt s.g_lt at_c.0 at-d.0 at_c.1
            (ap (λ (x : ℕ). bit (behind up s.g x)) q ∙ at-d.1)),
      )
        where
          s : TwoApart (2 * k) e (into up v c) (into up v d)
          s = two_apart-pos (2 * k) e (into up v c) (into up v d) h.1

          ab : (1 ≤ into up v a e) × (1 ≤ bit (behind up e b))
          ab = times_pos (into up v a e) (bit (behind up e b)) h.0

          at_a : (head up e ≡ v) × (bit (behind up e a) ≡ 1)
          at_a = into_pos up v a e ab.0

          at_c : (head up s.f ≡ v) × (bit (behind up s.f c) ≡ 1)
          at_c = into_pos up v c s.f s.f_pos

          at-d : (head up s.g ≡ v) × (bit (behind up s.g d) ≡ 1)
          at-d = into_pos up v d s.g s.g_pos

          off : (x f : ℕ) → x ≤ k → f < 2 * k → e ≢ f → (head up f ≡ v) × (bit (behind up f x) ≡ 1)
              → bit (behind up e x) ≡ 0
          off x f lx lf n q = elim (bit_cases (behind up e x)) [
            | inl z ↦ z
            | inr o ↦ absurd (n (one_code up r k v x e f lv lx le lf at_a.0 q.0 o q.1))
          ]

  -- the triples of leaves
  pub claimed_once : Leaf up k a → Leaf up k c → Leaf up k d → a ≢ c → a ≢ d → c ≢ d
      → triples up k a b c d ≡ bit (parted up k a b c d)
  claimed_once ta tc td ac ad cd = elim (T_dec (parted up k a b c d)) [
    | inl t ↦ parted-one ta tc td ac ad cd ((parted-iff up k a b c d).0 t)
        ∙ sym (bit-T (parted up k a b c d) t)
    | inr z ↦ (let n = T_not (parted up k a b c d) z in elim (eq-zero-or-pos (triples up k a b c d)) [
      | inl e ↦ e ∙ sym (bit_no (parted up k a b c d) n)
      | inr h ↦ absurd (n ((parted-iff up k a b c d).1 (claimed_parted h).0))
    ])
  ]
