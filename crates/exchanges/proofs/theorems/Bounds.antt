-- Bounds of what the walk adds, and no difference below 0 on the way.
-- Assumes nothing.
use Rattle.std.specs.Prelude.{◌≡◌, refl, ◌≢◌, ℕ, suc, ◌+◌, ◌*◌, ◌-◌, ◌≤◌, ◌<◌}
use Rattle.std.proofs.Common.{sym, ◌∙◌}
use Rattle.std.proofs.Math.Path.{ap}
use Rattle.std.proofs.Math.Logic.{inl, inr}
use Rattle.std.proofs.Math.Nat.{mul-le-mul}
use Rattle.std.proofs.Math.Decide.{ℕ_discrete}
use native.Mathlib.Omega.{arith}
use Rattle.sums.specs.Sum.{sum}
use Rattle.sums.specs.theorems.SumLaws.{sum-ge, sum_mono, sum_const, sum-swap, sum-mul_left, sum-mul_right}
use Rattle.sums.specs.Bits.{bit, is}
use Rattle.sums.specs.theorems.BitLaws.{bit_cases, bit_not, is_ne}
use Rattle.sums.specs.theorems.CountLaws.{count-le}
use Rattle.shapes.specs.Ancestors.{anc}
use Rattle.shapes.specs.Directions.{head, behind}
use Rattle.shapes.specs.theorems.DirectionLaws.{into}
use Rattle.shapes.proofs.theorems.DirectionLaws.{head_even, head_odd, behind_even, behind_odd, one_way}
use Rattle.shapes.proofs.theorems.EulerCentre.{head-le}
use Rattle.shapes.specs.theorems.Shape.{Shape}
use Rattle.shapes.proofs.theorems.Shape.{behind_in}
use Rattle.shapes.proofs.theorems.Counting.{size_in}
use Rattle.exchanges.specs.theorems.Turns.{squares_into}
use Rattle.exchanges.specs.theorems.PathSum.{cost}
use Rattle.exchanges.proofs.theorems.PathSum.{head_cost, path_cost, code_to}
use Rattle.exchanges.specs.theorems.Steps.{toward}
use Rattle.exchanges.proofs.theorems.Steps.{labels_below, size-rising, size_falling, ends_behind, ends_at, goes_on, toward_code}
use Rattle.exchanges.proofs.theorems.Fits.{sizes_fit, squares_fit}
use Rattle.exchanges.specs.theorems.Bounds.{CostFits}

pub cost-le : (n e f q : ℕ) → e + f ≤ n → q ≤ n * n → cost n e f q ≤ 8 * (n * (n * n)) + 3 * (n * n)
unfolding cost
cost-le n e f q l m = omega (
  arith,
  cube (n - e - f) n (omega arith),
  square (n - e - f) n (omega arith),
  both (q - e * e - f * f) (n * n) (e + f - 2) n (omega arith) (omega arith),
)
  where
    both : (a b c d : ℕ) → a ≤ b → c ≤ d → a * c ≤ b * d
    both a b c d l m = mul-le-mul l m

    square : (a b : ℕ) → a ≤ b → a * a ≤ b * b
    square a b l = mul-le-mul l l

    cube : (a b : ℕ) → a ≤ b → a * (a * a) ≤ b * (b * b)
    cube a b l = mul-le-mul l (square a b l)

module _ {n : ℕ} (t : Shape n) where
  pub squares_le : (v : ℕ) → v ≤ t.edges → squares_into t v ≤ n * n
  unfolding squares_into
  squares_le v lv = omega (
    arith,
    sum_mono (2 * t.edges) (λ g. is v (head t.up g) * (size_in t g * size_in t g))
        (λ g. sum n (λ a. into t.up v (t.node a) g) * n) each,
    sum-mul_right (2 * t.edges) n (λ g. sum n (λ a. into t.up v (t.node a) g)),
    ap (λ (z : ℕ). z * n) (sum-swap (2 * t.edges) n (λ g a. into t.up v (t.node a) g)),
    all,
  )
    where
      each : (g : ℕ) → g < 2 * t.edges
          → is v (head t.up g) * (size_in t g * size_in t g) ≤ sum n (λ a. into t.up v (t.node a) g) * n
      each g l = rw (sum-mul_left n (is v (head t.up g)) (λ a. bit (behind_in t g a)))
          (low (is v (head t.up g)) (size_in t g) (count-le n (behind_in t g)))
        where
          low : (i s : ℕ) → s ≤ n → i * (s * s) ≤ i * s * n
          low i s l = omega (arith, mul-le-mul (same (i * s)) l)
            where
              same : (z : ℕ) → z ≤ z
              same z = omega arith

      one : (a : ℕ) → a < n → sum (2 * t.edges) (into t.up v (t.node a)) ≤ 1
      one a la = omega (
        arith,
        one_way t.up t.tree t.edges v (t.node a) lv (t.node_le a la),
        is_ne v (t.node a),
      )

      most : sum n (λ a. sum (2 * t.edges) (λ g. into t.up v (t.node a) g)) ≤ n
      most = omega (arith, sum_mono n (λ a. sum (2 * t.edges) (λ g. into t.up v (t.node a) g)) (λ a. 1) one, sum_const n 1)

      all : sum n (λ a. sum (2 * t.edges) (λ g. into t.up v (t.node a) g)) * n ≤ n * n
      all = let r : n ≤ n = omega arith in mul-le-mul most r

  module _ (p : ℕ) (lp : p ≤ t.edges) where
    -- where a path goes on from the code f
    fits_on : (f : ℕ) → f < 2 * t.edges → bit (behind t.up f p) ≡ 0 → head t.up f ≢ p
        → CostFits n (toward t p (head t.up f)) (size_in t f) (squares_into t (head t.up f))
    fits_on f lf pf d =
        let lv = head-le t.up t.tree t.edges f lf in
        let e = code_to t (head t.up f) p lv lp d in
        let ef : e.0 ≢ f = λ i. omega (arith, e.3, ap (λ (g : ℕ). bit (behind t.up g p)) i) in
        rw (toward_code t p lp (head t.up f) e.0 lv e.1 e.2 e.3) (record {
          sizes = sizes_fit t (head t.up f) e.0 f lv e.1 lf e.2 refl ef;
          sums = squares_fit t (head t.up f) e.0 f lv e.1 lf e.2 refl ef;
          few = squares_le (head t.up f) lv;
        })

    pub down_fits : (j : ℕ) → j < t.edges → bit (anc t.up (suc j) p) ≡ 0 → t.up (suc j) ≢ p
        → CostFits n (toward t p (t.up (suc j))) (labels_below t (suc j)) (squares_into t (t.up (suc j)))
    down_fits j l h d =
        rw (head_even t.up j, size-rising t j) at
        (fits_on (2 * j) (omega arith) (ap bit (behind_even t.up j p) ∙ h) (λ e. d (sym (head_even t.up j) ∙ e)))

    pub up_fits : (j : ℕ) → j < t.edges → bit (anc t.up (suc j) p) ≡ 1 → suc j ≢ p
        → CostFits n (toward t p (suc j)) (n - labels_below t (suc j)) (squares_into t (suc j))
    up_fits j l h d =
        let s : size_in t (suc (2 * j)) ≡ n - labels_below t (suc j) = omega (arith, size_falling t j) in
        rw (head_odd t.up j, s) at
        (fits_on (suc (2 * j)) (omega arith)
        (omega (arith, ap bit (behind_odd t.up j p), bit_not (anc t.up (suc j) p)))
        (λ e. d (sym (head_odd t.up j) ∙ e)))

    head_cost-le : (f : ℕ) → f < 2 * t.edges → head_cost t p f ≤ 8 * (n * (n * n)) + 3 * (n * n)
    head_cost-le f lf = elim (bit_cases (behind t.up f p)) [
      | inr o ↦ omega (arith, ends_behind t p lp f lf o)
      | inl z ↦ elim (ℕ_discrete (head t.up f) p) [
        | yes e ↦ omega (arith, ends_at t p lp f lf e)
        | no d ↦ (let c = fits_on f lf z d in
            omega (arith, goes_on t p lp f lf z d, cost-le n _ _ _ c.sizes c.few))
      ]
    ]

    -- so no sum on the way is large
    pub path_cost-le : (q : ℕ) → path_cost t p q ≤ 2 * t.edges * (8 * (n * (n * n)) + 3 * (n * n))
    unfolding path_cost
    path_cost-le q = omega (
      arith,
      sum_mono (2 * t.edges) (λ f. bit (behind t.up f q) * head_cost t p f)
          (λ f. 8 * (n * (n * n)) + 3 * (n * n)) (λ f lf. elim (bit_cases (behind t.up f q)) [
            | inl z ↦ rw z (omega arith)
            | inr o ↦ rw o (omega (arith, head_cost-le f lf))
          ]),
      sum_const (2 * t.edges) (8 * (n * (n * n)) + 3 * (n * n)),
    )

  -- the label x itself is behind the code towards its node
  pub toward_some : (x v : ℕ) → x < n → v ≤ t.edges → v ≢ t.node x → 1 ≤ toward t (t.node x) v
  toward_some x v lx lv d =
      let e = code_to t v (t.node x) lv (t.node_le x lx) d in
      omega (
        arith,
        toward_code t (t.node x) (t.node_le x lx) v e.0 lv e.1 e.2 e.3,
        sum-ge n (λ a. bit (behind_in t e.0 a)) x lx,
        e.3,
      )
