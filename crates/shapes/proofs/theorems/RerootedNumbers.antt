-- New numbers of a re-rooted tree: each number is taken once, the path comes first, and parents have smaller numbers.
-- Assumes nothing.
use Rattle.std.specs.Prelude.{◌≡◌, Bool, ◌&&◌, ℕ, zero, suc, ◌+◌, ◌*◌, ◌-◌, ◌≤◌, ◌<◌, T}
use Rattle.std.proofs.Math.Path.{sym, ap}
use Rattle.std.proofs.Common.{◌∙◌, inl, inr, eq-zero-or-pos, arith}
use Rattle.std.proofs.Math.Bool.{true, false}
use Rattle.std.proofs.Math.Decide.{dec_lt}
use Rattle.std.proofs.Math.Dec.{eqb, ltb}
use Rattle.sums.specs.Sum.{sum}
use Rattle.sums.specs.theorems.SumLaws.{sum-add, sum_ext, sum_none}
use Rattle.sums.specs.Bits.{bit, is}
use Rattle.sums.specs.theorems.BitLaws.{bit_le, bit-T, T-bit, T_true, T_false, bit_cases, bit_no, is_other_lem, alike, sum_is}
use Rattle.sums.specs.Tests.{first}
use Rattle.sums.specs.theorems.TestLaws.{and-iff, lt_iff, eq_iff, some-iff, first_passes, first-le, first_hit}
use Rattle.sums.specs.Counts.{count}
use Rattle.sums.specs.theorems.Permutations.{onto}
use Rattle.sums.specs.theorems.Products.{bit_and}
use Rattle.shapes.specs.Ancestors.{anc}
use Rattle.shapes.specs.theorems.AncestorLaws.{Rooted}
use Rattle.shapes.proofs.theorems.AncestorLaws.{anc-le, anc-lt, anc_self, anc_root, parent-lt}
use Rattle.shapes.specs.Rerooting.{path_after, renumbered, node_numbered, rerooted_up}

passed : (b : Bool) → bit b ≡ 1 → T b
passed b o = T-bit b (omega arith)

-- v < w, one step on
lt_step : (v w : ℕ) → bit (ltb v w) ≡ is (suc v) w + bit (ltb (suc v) w)
lt_step v w = elim (dec_lt v w) [
  | no n ↦ bit_no (ltb v w) (λ t. n ((lt_iff v w).0 t))
      ∙ sym (omega (arith, is_other_lem (suc v) w (omega arith), bit_no (ltb (suc v) w) (λ t. absurd (omega (arith, (lt_iff (suc v) w).0 t)))))
  | yes l ↦ elim (alike (suc v) w) [
    | inl e ↦ omega (
      arith,
      e.1,
      bit-T (ltb v w) ((lt_iff v w).1 l),
      bit_no (ltb (suc v) w) (λ t. absurd (omega (arith, e.0, (lt_iff (suc v) w).0 t))),
    )
    | inr d ↦ omega (
      arith,
      d.1,
      bit-T (ltb v w) ((lt_iff v w).1 l),
      bit-T (ltb (suc v) w) ((lt_iff (suc v) w).1 (omega (arith, d.0))),
    )
  ]
]

module _ (up : ℕ → ℕ) (m z : ℕ) (r : Rooted up) (lz : z < m) where
  abbrev aft : ℕ → ℕ
  aft = path_after up m z

  abbrev ρ : ℕ → ℕ
  ρ = renumbered up m z

  abbrev up' : ℕ → ℕ
  up' = rerooted_up up m z

  abbrev on : ℕ → ℕ
  on v = bit (anc up v z)

  -- ---- counting the path

  pub after_step : (v : ℕ) → aft v ≡ on (suc v) + aft (suc v)
  unfolding path_after
  after_step v =
      sum_ext m _ _ (λ w l. each w)
      ∙ sum-add m (λ w. is (suc v) w * bit (anc up w z)) (λ w. bit (anc up w z && ltb (suc v) w))
      ∙ ap (λ (x : ℕ). x + count m (λ w. anc up w z && ltb (suc v) w)) next
    where
      next : sum m (λ w. is (suc v) w * bit (anc up w z)) ≡ bit (anc up (suc v) z)
      next = elim (dec_lt (suc v) m) [
        | yes l ↦ sum_is m (suc v) (λ w. bit (anc up w z)) l
        | no n ↦ sum_none m (λ w. is (suc v) w * bit (anc up w z)) (λ w l. rw (is_other_lem (suc v) w (omega arith)) (omega arith))
            ∙ sym (anc-lt up r (suc v) z (omega arith))
      ]

      each : (w : ℕ) → bit (anc up w z && ltb v w) ≡ is (suc v) w * bit (anc up w z) + bit (anc up w z && ltb (suc v) w)
      each w = omega (
        arith,
        bit_and (anc up w z) (ltb v w),
        bit_and (anc up w z) (ltb (suc v) w),
        ap (λ (x : ℕ). bit (anc up w z) * x) (lt_step v w),
      )

  -- fewer come after a larger number, and each step takes one at most
  after_falls : (v d : ℕ) → (aft (v + d) ≤ aft v) × (v + aft v ≤ v + d + aft (v + d))
  after_falls v zero = let e : v + 0 ≡ v = omega arith in rw e (omega arith, omega arith)
  after_falls v (suc d) =
      let i = after_falls v d in
      let e : v + suc d ≡ suc (v + d) = omega arith in
      let s = after_step (v + d) in
      let b = bit_le (anc up (suc (v + d)) z) in
      rw e (omega (arith, i.0), omega (arith, i.1))

  pub after_le : (v w : ℕ) → v ≤ w → (aft w ≤ aft v) × (v + aft v ≤ w + aft w)
  after_le v w l = let e : v + (w - v) ≡ w = omega arith in rw e at (after_falls v (w - v))

  -- strictly past a node of the path, or past one off it
  after_on : (v w : ℕ) → v < w → on w ≡ 1 → aft w < aft v
  after_on v zero l o = absurd (omega arith)
  after_on v (suc w) l o = omega (arith, (after_le v w (omega arith)).0, after_step w)

  after_off : (v w : ℕ) → v < w → on w ≡ 0 → v + aft v < w + aft w
  after_off v zero l o = absurd (omega arith)
  after_off v (suc w) l o = omega (arith, (after_le v w (omega arith)).1, after_step w)

  pub after_end : aft z ≡ 0
  unfolding path_after
  after_end = sum_none m _ (λ w l. bit_no (anc up w z && ltb z w) (λ t.
      let p = (and-iff (anc up w z) (ltb z w)).0 t in
      omega (arith, (lt_iff z w).0 p.1, anc-le up r w z (bit-T (anc up w z) p.0))))

  -- ---- new numbers

  pub renumbered_on : (v : ℕ) → on v ≡ 1 → ρ v ≡ aft v
  unfolding renumbered
  renumbered_on v o =
      ap (λ (b : Bool). elim b as (λ x. ℕ) [ true ↦ 0 | false ↦ v ] + aft v) (T_true (anc up v z) (passed (anc up v z) o))
      ∙ (omega arith)

  pub renumbered_off : (v : ℕ) → on v ≡ 0 → ρ v ≡ v + aft v
  unfolding renumbered
  renumbered_off v o =
      ap (λ (b : Bool). elim b as (λ x. ℕ) [ true ↦ 0 | false ↦ v ] + aft v)
      (T_false (anc up v z) (λ t. absurd (omega (arith, bit-T (anc up v z) t))))

  -- the path comes first
  pub path_before : (v w : ℕ) → on v ≡ 1 → on w ≡ 0 → ρ v < ρ w
  path_before v w ov ow =
      let z0 = anc_root up r z in
      let pos : 0 < w = elim (eq-zero-or-pos w) [ inr p ↦ p | inl e ↦ absurd (omega (arith, ap on e)) ] in
      omega (arith, renumbered_on v ov, renumbered_off w ow, after_off 0 w pos ow, (after_le 0 v (omega arith)).0)

  pub path_back : (v w : ℕ) → on v ≡ 1 → on w ≡ 1 → v < w → ρ w < ρ v
  path_back v w ov ow l = omega (arith, renumbered_on v ov, renumbered_on w ow, after_on v w l ow)

  keep_order : (v w : ℕ) → on v ≡ 0 → on w ≡ 0 → v < w → ρ v < ρ w
  keep_order v w ov ow l = omega (arith, renumbered_off v ov, renumbered_off w ow, after_off v w l ow)

  pub renumbered-lt : (v : ℕ) → v < m → ρ v < m
  renumbered-lt v l =
      let e = after_le z (m - 1) (omega arith) in
      let f = after_le v (m - 1) (omega arith) in
      let g = after_le 0 (m - 1) (omega arith) in
      elim (bit_cases (anc up v z)) [
        | inl o ↦ omega (arith, renumbered_off v o, e.0, f.1, after_end)
        | inr o ↦ omega (arith, renumbered_on v o, e.0, g.1, after_end, (after_le 0 v (omega arith)).0)
      ]

  pub renumbered-one : (v w : ℕ) → ρ v ≡ ρ w → v ≡ w
  renumbered-one v w e = elim (dec_lt v w) [
    | yes l ↦ absurd (apart v w e l)
    | no n ↦ elim (dec_lt w v) [ yes l ↦ absurd (apart w v (sym e) l) | no q ↦ omega arith ]
  ]
    where
      apart : (v w : ℕ) → ρ v ≡ ρ w → v < w → ⊥
      apart v w e l = elim (bit_cases (anc up v z)) [
        | inl a ↦ elim (bit_cases (anc up w z)) [
          | inl b ↦ omega (arith, keep_order v w a b l)
          | inr b ↦ omega (arith, path_before w v b a)
        ]
        | inr a ↦ elim (bit_cases (anc up w z)) [
          | inl b ↦ omega (arith, path_before v w a b)
          | inr b ↦ omega (arith, path_back v w a b l)
        ]
      ]

  pub numbered_is : (i : ℕ) → i < m → (node_numbered up m z i < m) × (ρ (node_numbered up m z i) ≡ i)
  unfolding node_numbered
  numbered_is i l =
      let v = onto m ρ renumbered-lt (λ v w lv lw. renumbered-one v w) i l in
      let f = first_passes m (λ v. eqb (ρ v) i) ((some-iff m (λ v. eqb (ρ v) i)).1 (v.0, v.1, (eq_iff (ρ v.0) i).1 v.2)) in
      (f.0, (eq_iff _ i).0 f.1)

  pub numbered_back : (v : ℕ) → v < m → node_numbered up m z (ρ v) ≡ v
  numbered_back v l = renumbered-one (node_numbered up m z (ρ v)) v (numbered_is (ρ v) (renumbered-lt v l)).1

  pub path_end : on z ≡ 1
  path_end = anc_self up r z

  pub renumbered_root : ρ z ≡ 0
  renumbered_root = renumbered_on z path_end ∙ after_end

  -- ---- new parents

  pub up_on : (v : ℕ) → v < m → on v ≡ 1 → up' (ρ v) ≡ ρ v - 1
  unfolding rerooted_up
  up_on v l o =
      ap (λ (b : Bool). elim b as (λ x. ℕ) [ true ↦ ρ v - 1 | false ↦ ρ (up (node_numbered up m z (ρ v))) ])
      (ap (λ (x : ℕ). anc up x z) (numbered_back v l) ∙ T_true (anc up v z) (passed (anc up v z) o))

  pub up_off : (v : ℕ) → v < m → on v ≡ 0 → up' (ρ v) ≡ ρ (up v)
  unfolding rerooted_up
  up_off v l o =
      ap (λ (b : Bool). elim b as (λ x. ℕ) [ true ↦ ρ v - 1 | false ↦ ρ (up (node_numbered up m z (ρ v))) ])
      (ap (λ (x : ℕ). anc up x z) (numbered_back v l) ∙ T_false (anc up v z) (λ t. absurd (omega (arith, bit-T (anc up v z) t))))
      ∙ ap (λ (x : ℕ). ρ (up x)) (numbered_back v l)

  pub off_pos : (v : ℕ) → on v ≡ 0 → 1 ≤ v
  off_pos v o = elim (eq-zero-or-pos v) [ inr p ↦ p | inl e ↦ absurd (omega (arith, anc_root up r z, ap on e)) ]

  pub up_less : (v : ℕ) → on v ≡ 0 → ρ (up v) < ρ v
  up_less v o =
      let l = parent-lt up r v (off_pos v o) in
      elim (bit_cases (anc up (up v) z)) [
        | inl a ↦ keep_order (up v) v a o l
        | inr a ↦ path_before (up v) v a o
      ]

  past_end : (i : ℕ) → m ≤ i → up' i < m
  unfolding rerooted_up node_numbered
  past_end i l = go (first m (λ v. eqb (ρ v) i)) last
    where
      last : first m (λ v. eqb (ρ v) i) ≡ m
      last = elim (dec_lt (first m (λ v. eqb (ρ v) i)) m) [
        | yes q ↦ (let e = (eq_iff (ρ (first m (λ v. eqb (ρ v) i))) i).0 (first_hit m (λ v. eqb (ρ v) i) q) in
            absurd (omega (arith, renumbered-lt (first m (λ v. eqb (ρ v) i)) q)))
        | no n ↦ omega (arith, first-le m (λ v. eqb (ρ v) i))
      ]

      go : (u : ℕ) → u ≡ m → elim (anc up u z) as (λ x. ℕ) [ true ↦ i - 1 | false ↦ ρ (up u) ] < m
      go u e = rw (T_false (anc up u z) (λ t. absurd (omega (arith, anc-lt up r u z (omega arith), bit-T (anc up u z) t))))
          (renumbered-lt (up u) (omega (arith, parent-lt up r u (omega arith))))

  pub rerooted_rooted : Rooted up'
  rerooted_rooted = record {
    root = ap up' (sym renumbered_root) ∙ up_on z lz path_end ∙ (omega (arith, renumbered_root));
    falls = λ w. elim (dec_lt (suc w) m) [
      | no n ↦ omega (arith, past_end (suc w) (omega arith))
      | yes l ↦ (let p = numbered_is (suc w) l in elim (bit_cases (anc up (node_numbered up m z (suc w)) z)) [
        | inr o ↦ omega (arith, up_on (node_numbered up m z (suc w)) p.0 o, ap up' p.1, p.1)
        | inl o ↦ omega (arith, up_off (node_numbered up m z (suc w)) p.0 o, up_less (node_numbered up m z (suc w)) o, ap up' p.1, p.1)
      ])
    ];
  }
