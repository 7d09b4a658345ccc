-- Sums over the ordered claims of shapes, as sums over four labels.
-- Assumes nothing.
use Rattle.std.specs.Prelude.{◌≡◌, not, ◌⊎◌, ◌≢◌, ℕ, ◌*◌, ◌<◌, eqb}
use Rattle.std.proofs.Common.{sym, ◌∙◌, ap, ap₂, inl, inr, mul_comm, mul_assoc, eq-zero-or-pos, arith}
use Rattle.sums.specs.Sum.{sum}
use Rattle.sums.specs.Bits.{bit}
use Rattle.sums.specs.theorems.BitLaws.{ne, ne_self, ne_sym, alike}
use Rattle.sums.specs.theorems.SetLaws.{tuples4, tuples4_cong, tuples4_ext}
use Rattle.sums.specs.theorems.Products.{bit_sq, tuples2_times_sums, four_sums}
use Rattle.shapes.specs.Ancestors.{anc}
use Rattle.shapes.specs.Quartets.{Apart}
use Rattle.shapes.proofs.theorems.PartedFours.{parted-swap_left, parted-swap_right, parted_turn}
use Rattle.shapes.specs.theorems.Shape.{Shape}
use Rattle.shapes.proofs.theorems.Shape.{behind_in, butterfly_in}
use Rattle.shapes.specs.Claims.{choose2}
use Rattle.shapes.specs.theorems.Triples.{triples}
use Rattle.shapes.proofs.theorems.Triples.{claimed_parted, claimed_once}
use Rattle.shapes.specs.theorems.OrderedClaims.{sum_ordered}
use Rattle.shapes.proofs.theorems.OrderedClaims.{ordered_cong, ordered_mul, ordered_tuples4}
use Rattle.shapes.proofs.theorems.OrderedClaims.{triples_ordered, pairs_choose2}
use Rattle.sums.specs.theorems.Pairings.{Pairing}

module _ {n : ℕ} (t : Shape n) where
  -- the sum of F over the ordered claims
  abbrev pub sum_in : (ℕ → ℕ → ℕ → ℕ) → ℕ
  sum_in F = sum_ordered t.up (2 * t.edges) F

  -- 1 if the label x lies behind the code c
  abbrev pub bit_in : ℕ → ℕ → ℕ
  bit_in c x = bit (behind_in t c x)

  -- 1 if the labels a and b lie behind the code e, c behind f and d behind g
  abbrev four_in : ℕ → ℕ → ℕ → ℕ → ℕ → ℕ → ℕ → ℕ
  four_in a b c d e f g = bit_in e a * bit_in e b * (bit_in f c * bit_in g d)

  -- 1 if the four labels are different, and some edge has a, b on one side and c, d on the other
  abbrev pub quartet_in : ℕ → ℕ → ℕ → ℕ → ℕ
  quartet_in a b c d =
      ne a b * (ne a c * (ne a d * (ne b c * (ne b d * ne c d)))) * bit (butterfly_in t a b c d)

  pub quartet_pairing : Pairing quartet_in
  quartet_pairing = record {
    swap_left = λ a b c d. rw (parted-swap_left t.up t.edges (t.node a), ne_sym a b) (omega arith);
    swap_right = λ a b c d. rw (
      parted-swap_right t.up t.edges (t.node a) (t.node b) (t.node c),
      ne_sym c d,
    )
        (omega arith);
    turn = λ a b c d. rw (
      parted_turn t.up t.edges (t.node a),
      ne_sym a c,
      ne_sym a d,
      ne_sym b c,
      ne_sym b d,
    )
        (omega arith);
    none_left = λ a b c. rw (ne_self a) (omega arith);
    none_across = λ a b c. rw (ne_self a) (omega arith);
  }

-- ---- the ordered claims with four labels behind them

-- two labels of different codes are equal
abbrev Joined : ℕ → ℕ → ℕ → ℕ → Type 0
Joined a b c d = (a ≡ c) ⊎ ((a ≡ d) ⊎ ((b ≡ c) ⊎ ((b ≡ d) ⊎ (c ≡ d))))

module _ {n : ℕ} (t : Shape n) (a b c d : ℕ) (la : a < n) (lb : b < n) (lc : c < n) (ld : d < n) where
  as_triples : sum_in t (four_in t a b c d)
      ≡ triples t.up t.edges (t.node a) (t.node b) (t.node c) (t.node d)
  as_triples =
      sym (triples_ordered t.up t.tree t.edges (t.node a) (t.node b) (t.node c) (t.node d))

  joined_none : Joined a b c d → sum_in t (four_in t a b c d) ≡ 0
  joined_none j = elim (eq-zero-or-pos (sum_in t (four_in t a b c d))) [
    | inl e ↦ e
    | inr h ↦ (
        let s = claimed_parted t.up t.tree t.edges (t.node a) (t.node b) (t.node c) (t.node d)
        (t.node_le a la) (t.node_le b lb) (t.node_le c lc) (t.node_le d ld) (rw as_triples at h) in
        absurd (never s.0.0 s.0.3 s.1 j))
  ]
    where
      side : (i x y : ℕ) → x ≡ y → bit (anc t.up i (t.node x)) ≡ bit (anc t.up i (t.node y))
      side i x y e = ap (λ (z : ℕ). bit (anc t.up i (t.node z))) e

      never : (i : ℕ) → Apart t.up i (t.node a) (t.node b) (t.node c) (t.node d)
          → t.node c ≢ t.node d → Joined a b c d → ⊥
      never i s m (inl e) = omega (arith, side i a c e)
      never i s m (inr (inl e)) = omega (arith, side i a d e)
      never i s m (inr (inr (inl e))) = omega (arith, side i b c e)
      never i s m (inr (inr (inr (inl e)))) = omega (arith, side i b d e)
      never i s m (inr (inr (inr (inr e)))) = m (ap t.node e)

  once : a ≢ c → a ≢ d → c ≢ d → sum_in t (four_in t a b c d) ≡ bit (butterfly_in t a b c d)
  once ac ad cd =
      as_triples
      ∙ claimed_once t.up t.tree t.edges (t.node a) (t.node b) (t.node c) (t.node d)
      (t.node_le a la) (t.node_le b lb) (t.node_le c lc) (t.node_le d ld)
      (t.leaf a la) (t.leaf c lc) (t.leaf d ld)
      (t.node_ne a c la lc ac) (t.node_ne a d la ld ad) (t.node_ne c d lc ld cd)

  claims_quartet : ne a b * sum_in t (four_in t a b c d) ≡ quartet_in t a b c d
  claims_quartet = elim (alike a c) [
    | inl e ↦ rw (e.2, joined_none (inl e.0)) (omega arith)
    | inr ac ↦ elim (alike a d) [
      | inl e ↦ rw (e.2, joined_none (inr (inl e.0))) (omega arith)
      | inr ad ↦ elim (alike b c) [
        | inl e ↦ rw (e.2, joined_none (inr (inr (inl e.0)))) (omega arith)
        | inr bc ↦ elim (alike b d) [
          | inl e ↦ rw (e.2, joined_none (inr (inr (inr (inl e.0))))) (omega arith)
          | inr bd ↦ elim (alike c d) [
            | inl e ↦ rw (e.2, joined_none (inr (inr (inr (inr e.0))))) (omega arith)
            | inr cd ↦ rw (ac.2, ad.2, bc.2, bd.2, cd.2, once ac.0 ad.0 cd.0) (omega arith)
          ]
        ]
      ]
    ]
  ]

-- ---- one shape

-- over all ordered claims, twice what a claim adds to S
pub claims_quartets : {n : ℕ} (t : Shape n)
    → sum_in t (λ e f g. 2 * (choose2 (sum n (bit_in t e)) * sum n (bit_in t f) * sum n (bit_in t g)))
    ≡ tuples4 n (quartet_in t)
claims_quartets {n} t =
    ordered_cong t.up (2 * t.edges) at-claim
    ∙ ordered_tuples4 t.up (2 * t.edges) n (λ a b c d e f g. ne a b * four_in t a b c d e f g)
    ∙ tuples4_ext n _ _ (λ a b c d la lb lc ld.
    ordered_mul t.up (2 * t.edges) (ne a b) (four_in t a b c d) ∙ claims_quartet t a b c d la lb lc ld)
  where
    group : (x y z : ℕ) → 2 * (x * y * z) ≡ 2 * x * (y * z)
    group x y z = omega arith

    at-claim : (e f g : ℕ)
        → 2 * (choose2 (sum n (bit_in t e)) * sum n (bit_in t f) * sum n (bit_in t g))
        ≡ tuples4 n (λ a b c d. ne a b * four_in t a b c d e f g)
    at-claim e f g =
        group (choose2 (sum n (bit_in t e))) (sum n (bit_in t f)) (sum n (bit_in t g))
        ∙ ap (λ (x : ℕ). x * (sum n (bit_in t f) * sum n (bit_in t g)))
        (sym (pairs_choose2 n (bit_in t e) (λ a. bit_sq (behind_in t e a))))
        ∙ tuples2_times_sums n (λ a b. ne a b * (bit_in t e a * bit_in t e b)) (bit_in t f) (bit_in t g)
        ∙ tuples4_cong n (λ a b c d.
        mul_assoc (ne a b) (bit_in t e a * bit_in t e b) (bit_in t f c * bit_in t g d))

-- ---- two shapes

module _ {n : ℕ} (t u : Shape n) where
  -- how many labels lie behind the code c of t and behind the code d of u
  abbrev pub code_crossing : ℕ → ℕ → ℕ
  code_crossing c d = sum n (λ x. bit_in t c x * bit_in u d x)

  -- a sum over pairs of claims, of products of what their labels say in t and in u
  crossed : (F G : ℕ → ℕ → ℕ → ℕ → ℕ → ℕ → ℕ → ℕ)
      → sum_in t (λ e f g. sum_in u (λ e' f' g'. tuples4 n (λ a b c d. F a b c d e f g * G a b c d e' f' g')))
      ≡ tuples4 n (λ a b c d. sum_in t (F a b c d) * sum_in u (G a b c d))
  crossed F G =
      ordered_cong t.up (2 * t.edges) (λ e f g.
      ordered_tuples4 u.up (2 * u.edges) n (λ a b c d e' f' g'. F a b c d e f g * G a b c d e' f' g'))
      ∙ ordered_tuples4 t.up (2 * t.edges) n
      (λ a b c d e f g. sum_in u (λ e' f' g'. F a b c d e f g * G a b c d e' f' g'))
      ∙ tuples4_cong n (λ a b c d.
      ordered_cong t.up (2 * t.edges) (λ e f g.
      ordered_mul u.up (2 * u.edges) (F a b c d e f g) (G a b c d)
      ∙ mul_comm (F a b c d e f g) (sum_in u (G a b c d)))
      ∙ ordered_mul t.up (2 * t.edges) (sum_in u (G a b c d)) (F a b c d)
      ∙ mul_comm (sum_in u (G a b c d)) (sum_in t (F a b c d)))

  -- over all pairs of ordered claims, twice the first of the two terms of equation (1)
  pub claims_same :
      sum_in t (λ e f g. sum_in u (λ e' f' g'. 2 * (choose2 (code_crossing e e') * (code_crossing f f' * code_crossing g g'))))
      ≡ tuples4 n (λ a b c d. quartet_in t a b c d * quartet_in u a b c d)
  claims_same =
      ordered_cong t.up (2 * t.edges) (λ e f g. ordered_cong u.up (2 * u.edges) (at-claims e f g))
      ∙ crossed (λ a b c d e f g. ne a b * four_in t a b c d e f g) (four_in u)
      ∙ tuples4_ext n _ _ at-labels
    where
      square : (x y : ℕ) → x * x ≡ x → y * y ≡ y → (x * y) * (x * y) ≡ x * y
      square x y p q = omega (arith, ap₂ (λ (a b : ℕ). a * b) p q)

      group : (m a a' b b' c c' d d' : ℕ)
          → m * ((a * a') * (b * b')) * ((c * c') * (d * d')) ≡ m * (a * b * (c * d)) * (a' * b' * (c' * d'))
      group m a a' b b' c c' d d' = omega arith

      at-claims : (e f g e' f' g' : ℕ)
          → 2 * (choose2 (code_crossing e e') * (code_crossing f f' * code_crossing g g'))
          ≡ tuples4 n (λ a b c d. ne a b * four_in t a b c d e f g * four_in u a b c d e' f' g')
      at-claims e f g e' f' g' =
          sym (mul_assoc 2 (choose2 (code_crossing e e')) (code_crossing f f' * code_crossing g g'))
          ∙ ap (λ (x : ℕ). x * (code_crossing f f' * code_crossing g g'))
          (sym (pairs_choose2 n (λ x. bit_in t e x * bit_in u e' x) (λ a.
          square (bit_in t e a) (bit_in u e' a) (bit_sq (behind_in t e a)) (bit_sq (behind_in u e' a)))))
          ∙ tuples2_times_sums n
          (λ a b. ne a b * ((bit_in t e a * bit_in u e' a) * (bit_in t e b * bit_in u e' b)))
          (λ c. bit_in t f c * bit_in u f' c) (λ d. bit_in t g d * bit_in u g' d)
          ∙ tuples4_cong n (λ a b c d. group (ne a b) (bit_in t e a) (bit_in u e' a)
          (bit_in t e b) (bit_in u e' b) (bit_in t f c) (bit_in u f' c) (bit_in t g d) (bit_in u g' d))

      spread : (z x y : ℕ) → z * z ≡ z → z * x * y ≡ (z * x) * (z * y)
      spread z x y h = omega (arith, ap (λ (w : ℕ). w * (x * y)) h)

      at-labels : (a b c d : ℕ) → a < n → b < n → c < n → d < n
          → sum_in t (λ e f g. ne a b * four_in t a b c d e f g) * sum_in u (four_in u a b c d)
          ≡ quartet_in t a b c d * quartet_in u a b c d
      at-labels a b c d la lb lc ld =
          ap (λ (x : ℕ). x * sum_in u (four_in u a b c d))
          (ordered_mul t.up (2 * t.edges) (ne a b) (four_in t a b c d))
          ∙ spread (ne a b) (sum_in t (four_in t a b c d)) (sum_in u (four_in u a b c d)) (bit_sq (not (eqb a b)))
          ∙ ap₂ (λ (x y : ℕ). x * y)
          (claims_quartet t a b c d la lb lc ld) (claims_quartet u a b c d la lb lc ld)

  -- over all pairs of ordered claims, the first of the four terms of dcount
  pub claims_different :
      sum_in t (λ e f g. sum_in u (λ e' f' g'. code_crossing e e' * code_crossing e g' * (code_crossing f f' * code_crossing g e')))
      ≡ tuples4 n (λ a b c d. quartet_in t a b c d * quartet_in u a d c b)
  claims_different =
      ordered_cong t.up (2 * t.edges) (λ e f g. ordered_cong u.up (2 * u.edges) (at-claims e f g))
      ∙ crossed (four_in t) (λ a b c d. four_in u a d c b)
      ∙ tuples4_ext n _ _ at-labels
    where
      group : (a a' b b' c c' d d' : ℕ)
          → (a * a') * (b * b') * ((c * c') * (d * d')) ≡ a * b * (c * d) * (a' * d' * (c' * b'))
      group a a' b b' c c' d d' = omega arith

      at-claims : (e f g e' f' g' : ℕ)
          → code_crossing e e' * code_crossing e g' * (code_crossing f f' * code_crossing g e')
          ≡ tuples4 n (λ a b c d. four_in t a b c d e f g * four_in u a d c b e' f' g')
      at-claims e f g e' f' g' =
          four_sums n (λ a. bit_in t e a * bit_in u e' a) (λ b. bit_in t e b * bit_in u g' b)
          (λ c. bit_in t f c * bit_in u f' c) (λ d. bit_in t g d * bit_in u e' d)
          ∙ tuples4_cong n (λ a b c d. group (bit_in t e a) (bit_in u e' a) (bit_in t e b) (bit_in u g' b)
          (bit_in t f c) (bit_in u f' c) (bit_in t g d) (bit_in u e' d))

      one : {z x : ℕ} → z ≡ 1 → x ≡ z * x
      one {z} {x} h = rw h (omega arith)

      at-labels : (a b c d : ℕ) → a < n → b < n → c < n → d < n
          → sum_in t (four_in t a b c d) * sum_in u (four_in u a d c b)
          ≡ quartet_in t a b c d * quartet_in u a d c b
      at-labels a b c d la lb lc ld = elim (alike a b) [
        | inl e ↦ rw (joined_none u a d c b la ld lc lb (inr (inl e.0)), e.2) (omega arith)
        | inr p ↦ elim (alike a d) [
          | inl e ↦ rw (joined_none t a b c d la lb lc ld (inr (inl e.0)), e.2) (omega arith)
          | inr q ↦ ap₂ (λ (x y : ℕ). x * y)
              (one p.2 ∙ claims_quartet t a b c d la lb lc ld)
              (one q.2 ∙ claims_quartet u a d c b la ld lc lb)
        ]
      ]
