-- The nodes on the path between two, by the subtrees at a node.
-- Assumes nothing.
use Rattle.std.specs.Prelude.{◌≡◌, Bool, ◌&&◌, ◌≢◌, ◌↔◌, ℕ, zero, suc, ◌+◌, ◌*◌, ◌/◌, ◌≤◌, ◌<◌, T, eqb}
use Rattle.std.proofs.Common.{sym, ◌∙◌, ap, inl, inr, arith, T_not}
use Rattle.std.proofs.Math.Decide.{dec_le, ℕ_discrete}
use Rattle.std.proofs.Math.Dec.{not_T}
use Rattle.sums.specs.Bits.{bit}
use Rattle.sums.specs.theorems.BitLaws.{bit_le, bit_cases, bit_not, bit-T, T-bit, is_other_lem}
use Rattle.sums.specs.theorems.TestLaws.{and-iff, eq_iff, every-iff}
use Rattle.shapes.specs.theorems.AncestorLaws.{Rooted}
use Rattle.shapes.proofs.theorems.AncestorLaws.{up_ind, anc_at_zero, anc_up, anc_self, anc_root}
use Rattle.shapes.specs.Ancestors.{anc}
use Rattle.shapes.proofs.theorems.AncestorLaws.{anc-le, anc_down, anc_trans, anc-line, one_child}
use Rattle.shapes.specs.Directions.{head, behind}
use Rattle.shapes.proofs.theorems.DirectionLaws.{head_even, head_odd, behind_even, behind_odd}
use Rattle.shapes.proofs.theorems.DirectionLaws.{code_cases}
use Rattle.shapes.specs.Paths.{on_path}
use Rattle.shapes.specs.theorems.PathLaws.{OnPath, Together}

pub on_path-iff : (up : ℕ → ℕ) (k v a b : ℕ) → T (on_path up k v a b) ↔ OnPath up k v a b
unfolding on_path
on_path-iff up k v a b = (
  λ t c l h x y. T_not (holds c) ((every-iff (2 * k) _).0 t c l) (simp and-iff (
    ((eq_iff (head up c) v).1 h, T-bit (behind up c a) (omega arith)),
    T-bit (behind up c b) (omega arith),
  )),
  λ o. (every-iff (2 * k) _).1 (λ c l. not_T (holds c) (λ t.
      let s = simp and-iff at t in
      let h = (eq_iff (head up c) v).0 s.0.0 in
      o c l h (bit-T (behind up c a) s.0.1) (bit-T (behind up c b) s.1))),
)
  where
    holds : ℕ → Bool
    holds c = eqb (head up c) v && behind up c a && behind up c b

module _ (up : ℕ → ℕ) (r : Rooted up) where
  -- the child of v on the way to i
  pub towards : (k v i : ℕ) → i ≤ k → v ≢ i → bit (anc up v i) ≡ 1
      → (w : ℕ) × (w < k) × (up (suc w) ≡ v) × (bit (anc up (suc w) i) ≡ 1)
  towards k v =
      up_ind up r (λ i. i ≤ k → v ≢ i → bit (anc up v i) ≡ 1
      → (w : ℕ) × (w < k) × (up (suc w) ≡ v) × (bit (anc up (suc w) i) ≡ 1))
      (λ l n h. absurd (omega (arith, anc_at_zero up r v, is_other_lem v 0 n)))
      (λ j ih l n h. elim (ℕ_discrete v (up (suc j))) [
        | yes e ↦ (j, l, sym e, anc_self up r (suc j))
        | no d ↦ (
            let g : bit (anc up v (up (suc j))) ≡ 1 = omega (arith, anc_up up r v j, is_other_lem v (suc j) n) in
            let w = ih (omega (arith, r.falls j)) d g in
            (w.0, w.1, w.2, anc_down up r (suc w.0) (suc j) (omega arith) w.3))
      ])

  -- ---- an edge i with v on one side and x, y on the other

  -- if v is above x, it is above i
  above_edge : (i v x : ℕ) → bit (anc up i v) + bit (anc up i x) ≡ 1 → bit (anc up v x) ≡ 1
      → (bit (anc up i v) ≡ 0) × (bit (anc up v i) ≡ 1)
  above_edge i v x h g = elim (bit_cases (anc up i v)) [
    | inl z ↦ elim (dec_le v i) [
      | yes l ↦ (z, anc-line up r v i x l g (omega arith))
      | no m ↦ absurd (omega (arith, anc-line up r i v x (omega arith) (omega arith) g))
    ]
    | inr o ↦ absurd (omega (arith, anc_trans up r i v x o g))
  ]

  -- one subtree at v holds x and y
  pub one_side : (k i v x y : ℕ) → i ≤ k → v ≤ k
      → bit (anc up i v) + bit (anc up i x) ≡ 1 → bit (anc up i x) ≡ bit (anc up i y)
      → Together up k v x y
  one_side k i v x y li lv h e = elim (bit_cases (anc up v x)) [
    | inl zx ↦ elim (bit_cases (anc up v y)) [
      | inl zy ↦ falling v lv zx zy
      | inr o ↦ rising (above_edge i v y (omega arith) o)
    ]
    | inr o ↦ rising (above_edge i v x h o)
  ]
    where
      rising : (bit (anc up i v) ≡ 0) × (bit (anc up v i) ≡ 1) → Together up k v x y
      rising g =
          let d : v ≢ i = λ f. omega (arith, anc_self up r i, ap (λ (u : ℕ). bit (anc up i u)) f) in
          let w = towards k v i li d g.1 in (
            2 * w.0,
            omega (arith, w.1),
            head_even up w.0 ∙ w.2,
            rw behind_even (anc_trans up r (suc w.0) i x w.3 (omega arith)),
            rw behind_even (anc_trans up r (suc w.0) i y w.3 (omega arith)),
          )

      falling : (v : ℕ) → v ≤ k → bit (anc up v x) ≡ 0 → bit (anc up v y) ≡ 0 → Together up k v x y
      falling zero l zx zy = absurd (omega (arith, anc_root up r x))
      falling (suc w) l zx zy = (
        suc (2 * w),
        omega arith,
        head_odd up w,
        rw behind_odd (omega (arith, bit_not (anc up (suc w) x))),
        rw behind_odd (omega (arith, bit_not (anc up (suc w) y))),
      )

  -- an edge with a and b on one side has the nodes of their path there too
  pub path_side : (k i v a b : ℕ) → i ≤ k → v ≤ k → OnPath up k v a b
      → bit (anc up i a) ≡ bit (anc up i b) → bit (anc up i v) ≡ bit (anc up i a)
  path_side k i v a b li lv o e = elim (ℕ_discrete (bit (anc up i v) + bit (anc up i a)) 1) [
    | yes h ↦ (let s = one_side k i v a b li lv h e in absurd (o s.0 s.1 s.2 s.3 s.4))
    | no h ↦ omega (arith, bit_le (anc up i v), bit_le (anc up i a))
  ]

  -- ---- nodes on a path

  -- a node above a or b, none of whose children is above both
  pub children-apart : (k v a b : ℕ) → 1 ≤ bit (anc up v a) + bit (anc up v b)
      → ((j : ℕ) → up (suc j) ≡ v → bit (anc up (suc j) a) ≡ 1 → bit (anc up (suc j) b) ≡ 1 → ⊥)
      → OnPath up k v a b
  children-apart k v a b l f c m = elim (code_cases c) [
    | inl e ↦ rw e (simp (head_even, behind_even) (f (c / 2)))
    | inr e ↦ rw e (simp (head_odd, behind_odd) (λ h x y. omega (
      arith,
      rw (← h) at l,
      bit_not (anc up (suc (c / 2)) a),
      bit_not (anc up (suc (c / 2)) b),
    )))
  ]

  -- a node above a and not above b
  pub across : (k v a b : ℕ) → bit (anc up v a) ≡ 1 → bit (anc up v b) ≡ 0 → OnPath up k v a b
  across k v a b ha hb =
      children-apart k v a b (omega arith) (λ j e x y.
      let h = anc_down up r v (suc j) (omega arith) (rw e (anc_self up r v)) in
      omega (arith, anc_trans up r v (suc j) b h y))

  -- an end of the path
  pub end_on : (k v a b : ℕ) → v ≡ a → OnPath up k v a b
  end_on k v a b e = rw (← e) (children-apart k v v b (omega (arith, anc_self up r v)) (λ j d x y.
      omega (arith, anc-le up r (suc j) v x, r.falls j)))

  -- a node with a child above a and not above b
  pub fork : (k v w a b : ℕ) → up (suc w) ≡ v → bit (anc up (suc w) a) ≡ 1 → bit (anc up (suc w) b) ≡ 0
      → OnPath up k v a b
  fork k v w a b e ha hb =
      let below = anc_down up r v (suc w) (omega arith) (rw e (anc_self up r v)) in
      children-apart k v a b (omega (arith, anc_trans up r v (suc w) a below ha)) (λ j d x y.
      let one = one_child up r (suc j) (suc w) a (omega arith) (omega arith) (d ∙ sym e) x ha in
      omega (arith, ap (λ (i : ℕ). bit (anc up i b)) one))
