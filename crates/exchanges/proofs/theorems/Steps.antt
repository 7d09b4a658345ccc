-- The cost of the paths from one node p, node by node: what a walk down the numbers of the nodes adds at each.
-- Assumes nothing.
use Rattle.std.specs.Prelude.{◌≡◌, not, ◌≢◌}
use Rattle.std.proofs.Math.Path.{refl, ap, ap₂}
use Rattle.std.proofs.Common.{sym, ◌∙◌}
use Rattle.std.proofs.Math.Logic.{inl, inr}
use Prim.Native.Nat.{ℕ, zero, suc, ◌+◌, ◌*◌, ◌-◌, ◌≤◌, ◌<◌}
use native.Mathlib.Omega.{arith}
use Rattle.sums.specs.Sum.{sum}
use Rattle.sums.specs.theorems.SumLaws.{sum_ext, sum_cong, sum-add, sum_one, sum_none, sum_const}
use Rattle.sums.specs.Bits.{bit, is}
use Rattle.sums.specs.theorems.BitLaws.{bit_cases, bit_not, is_self, is_other_lem, ne_other, alike, sum_is}
use Rattle.sums.specs.Counts.{count}
use Rattle.shapes.specs.Ancestors.{anc}
use Rattle.shapes.proofs.theorems.AncestorLaws.{anc-lt, anc_self, anc_up, anc_root}
use Rattle.shapes.specs.Directions.{head, behind}
use Rattle.shapes.specs.theorems.DirectionLaws.{into}
use Rattle.shapes.proofs.theorems.DirectionLaws.{head_even, head_odd, behind_even, behind_odd, sum_codes}
use Rattle.shapes.proofs.theorems.DirectionLaws.{one_code}
use Rattle.shapes.proofs.theorems.EulerCentre.{head-le}
use Rattle.shapes.specs.theorems.Shape.{Shape}
use Rattle.shapes.proofs.theorems.Shape.{behind_in, beyond_in}
use Rattle.shapes.proofs.theorems.Counting.{size_in}
use Rattle.exchanges.specs.theorems.Turns.{squares_into}
use Rattle.exchanges.specs.theorems.PathSum.{cost}
use Rattle.exchanges.proofs.theorems.PathSum.{head_cost, path_cost, code_to, none_behind}
use Rattle.exchanges.specs.theorems.Steps.{toward}

-- how many labels are at v or below
abbrev pub labels_below : {n : ℕ} → Shape n → ℕ → ℕ
labels_below {n} t v = count n (beyond_in t v)

module _ {n : ℕ} (t : Shape n) where
  abbrev up : ℕ → ℕ
  up v = t.up v

  -- ---- the numbers of labels behind the two codes of an edge

  pub size-rising : (j : ℕ) → size_in t (2 * j) ≡ labels_below t (suc j)
  size-rising j = sum_cong n (λ a. ap bit (behind_even t.up j (t.node a)))

  pub size_falling : (j : ℕ) → size_in t (suc (2 * j)) + labels_below t (suc j) ≡ n
  size_falling j = omega (
    arith,
    sum-add n (λ a. bit (behind_in t (suc (2 * j)) a)) (λ a. bit (beyond_in t (suc j) a)),
    sum_cong n (λ a. each a),
    sum_const n 1,
  )
    where
      each : (a : ℕ) → bit (behind_in t (suc (2 * j)) a) + bit (beyond_in t (suc j) a) ≡ 1
      each a = omega (
        arith,
        ap bit (behind_odd t.up j (t.node a)),
        bit_not (beyond_in t (suc j) a),
      )

  pub below_root : labels_below t 0 ≡ n
  below_root = sum_cong n (λ a. anc_root t.up t.tree (t.node a)) ∙ sum_const n 1 ∙ omega arith

  -- the squares of the children's numbers, and of the number of labels that are not below v
  pub squares-children : (v : ℕ) → v ≤ t.edges
      → squares_into t v
      ≡ sum t.edges (λ j. is v (t.up (suc j)) * (labels_below t (suc j) * labels_below t (suc j)))
      + (n - labels_below t v) * (n - labels_below t v)
  unfolding squares_into
  squares-children v lv =
      sum_codes t.edges _
      ∙ sum_cong t.edges (λ j. ap₂ (λ (p q : ℕ). p + q) (even j) (odd j))
      ∙ sum-add t.edges _ _
      ∙ ap (λ (z : ℕ). sum t.edges (λ j. is v (t.up (suc j)) * (labels_below t (suc j) * labels_below t (suc j))) + z) (falling v lv)
    where
      even : (j : ℕ) → is v (head t.up (2 * j)) * (size_in t (2 * j) * size_in t (2 * j))
          ≡ is v (t.up (suc j)) * (labels_below t (suc j) * labels_below t (suc j))
      even j = rw (head_even t.up j, size-rising j)

      odd : (j : ℕ) → is v (head t.up (suc (2 * j))) * (size_in t (suc (2 * j)) * size_in t (suc (2 * j)))
          ≡ is v (suc j) * ((n - labels_below t (suc j)) * (n - labels_below t (suc j)))
      odd j =
          let s : size_in t (suc (2 * j)) ≡ n - labels_below t (suc j) = omega (arith, size_falling j) in
          rw (head_odd t.up j, s)

      falling : (v : ℕ) → v ≤ t.edges
          → sum t.edges (λ j. is v (suc j) * ((n - labels_below t (suc j)) * (n - labels_below t (suc j))))
          ≡ (n - labels_below t v) * (n - labels_below t v)
      falling zero l =
          sum_none t.edges _ (λ j m. rw (is_other_lem 0 (suc j) (omega arith)) (omega arith))
          ∙ sym (rw below_root (none n))
        where
          none : (n : ℕ) → (n - n) * (n - n) ≡ 0
          none n = let z : n - n ≡ 0 = omega arith in rw z (omega arith)
      falling (suc w) l =
          sum_one t.edges w _ l (λ j m d. rw (is_other_lem (suc w) (suc j) (omega arith)) (omega arith))
          ∙ rw (is_self (suc w)) (omega arith)

  -- ---- what the head of a code takes

  module _ (p : ℕ) (lp : p ≤ t.edges) where
    -- nothing, where the path does not go on
    pub ends_behind : (f : ℕ) → f < 2 * t.edges → bit (behind t.up f p) ≡ 1 → head_cost t p f ≡ 0
    unfolding head_cost
    ends_behind f lf pf = sum_none (2 * t.edges) _ (λ e le. elim (alike e f) [
      | inl i ↦ rw i.2 (omega arith)
      | inr d ↦ elim (alike (head t.up f) (head t.up e)) [
        | inr g ↦ rw g.1 (omega arith)
        | inl g ↦ elim (bit_cases (behind t.up e p)) [
          | inl z ↦ rw z (omega arith)
          | inr s ↦ absurd (d.0 (same e le g.0 s))
        ]
      ]
    ])
      where
        same : (e : ℕ) → e < 2 * t.edges → head t.up f ≡ head t.up e → bit (behind t.up e p) ≡ 1 → e ≡ f
        same e le g s = one_code t.up t.tree t.edges (head t.up f) p e f
            (head-bound f lf) lp le lf (sym g) refl s pf
          where
            head-bound : (f : ℕ) → f < 2 * t.edges → head t.up f ≤ t.edges
            head-bound = head-le t.up t.tree t.edges

    pub ends_at : (f : ℕ) → f < 2 * t.edges → head t.up f ≡ p → head_cost t p f ≡ 0
    unfolding head_cost
    ends_at f lf h = sum_none (2 * t.edges) _ (λ e le. elim (alike (head t.up f) (head t.up e)) [
      | inr g ↦ rw g.1 (omega arith)
      | inl g ↦ elim (bit_cases (behind t.up e p)) [
        | inl z ↦ rw z (omega arith)
        | inr s ↦ absurd (none_behind t p e lp le (sym g.0 ∙ h) s)
      ]
    ])

    -- the one code e into the head with p behind it
    one-cost : (e f : ℕ) → e < 2 * t.edges → f < 2 * t.edges → head t.up e ≡ head t.up f
        → bit (behind t.up e p) ≡ 1 → bit (behind t.up f p) ≡ 0
        → head_cost t p f ≡ cost n (size_in t e) (size_in t f) (squares_into t (head t.up f))
    unfolding head_cost
    one-cost e f le lf h pe pf =
        sum_one (2 * t.edges) e _ le (λ c lc d. elim (alike (head t.up f) (head t.up c)) [
          | inr g ↦ rw g.1 (omega arith)
          | inl g ↦ elim (bit_cases (behind t.up c p)) [
            | inl z ↦ rw z (omega arith)
            | inr s ↦ absurd (d (one_code t.up t.tree t.edges (head t.up f) p c e
                (head-le t.up t.tree t.edges f lf) lp lc le
                (sym g.0) h s pe))
          ]
        ])
        ∙ rw (
          ne_other e f (λ i. omega (arith, ap (λ (g : ℕ). bit (behind t.up g p)) i)),
          h,
          pe,
          is_self (head t.up f),
        )
        (omega arith)

    pub toward_code : (v e : ℕ) → v ≤ t.edges → e < 2 * t.edges → head t.up e ≡ v
        → bit (behind t.up e p) ≡ 1 → toward t p v ≡ size_in t e
    unfolding toward
    toward_code v e lv le h pe =
        sum_one (2 * t.edges) e _ le (λ c lc d. elim (alike v (head t.up c)) [
          | inr g ↦ rw g.1 (omega arith)
          | inl g ↦ elim (bit_cases (behind t.up c p)) [
            | inl z ↦ rw z (omega arith)
            | inr s ↦ absurd (d (one_code t.up t.tree t.edges v p c e lv lp lc le (sym g.0) h s pe))
          ]
        ])
        ∙ rw (h, pe, is_self v) (omega arith)

    pub goes_on : (f : ℕ) → f < 2 * t.edges → bit (behind t.up f p) ≡ 0 → head t.up f ≢ p
        → head_cost t p f ≡ cost n (toward t p (head t.up f)) (size_in t f) (squares_into t (head t.up f))
    goes_on f lf pf d =
        let lv = head-le t.up t.tree t.edges f lf in
        let e = code_to t (head t.up f) p lv lp d in
        one-cost e.0 f e.1 lf e.2 e.3 pf
        ∙ ap (λ (z : ℕ). cost n z (size_in t f) (squares_into t (head t.up f)))
        (sym (toward_code (head t.up f) e.0 lv e.1 e.2 e.3))

    -- ---- the walk

    pub path_here : path_cost t p p ≡ 0
    unfolding path_cost
    path_here = sum_none (2 * t.edges) _ (λ f lf. elim (bit_cases (behind t.up f p)) [
      | inl z ↦ rw z (omega arith)
      | inr o ↦ rw (ends_behind f lf o) (omega arith)
    ])

    -- from a node to its parent one edge changes sides
    pub path_step : (j : ℕ) → j < t.edges
        → path_cost t p (suc j) + head_cost t p (suc (2 * j)) ≡ path_cost t p (t.up (suc j)) + head_cost t p (2 * j)
    unfolding path_cost
    path_step j l = omega (
      arith,
      sum_codes t.edges (λ f. bit (behind t.up f (suc j)) * head_cost t p f),
      sum_codes t.edges (λ f. bit (behind t.up f (t.up (suc j))) * head_cost t p f),
      sum_ext t.edges _ _ (λ i m. each i),
      sum-add t.edges (λ i. side (suc j) i) (λ i. is j i * head_cost t p (suc (2 * i))),
      sum-add t.edges (λ i. side (t.up (suc j)) i) (λ i. is j i * head_cost t p (2 * i)),
      sum_is t.edges j (λ i. head_cost t p (suc (2 * i))) l,
      sum_is t.edges j (λ i. head_cost t p (2 * i)) l,
    )
      where
        side : ℕ → ℕ → ℕ
        side q i = bit (behind t.up (2 * i) q) * head_cost t p (2 * i)
            + bit (behind t.up (suc (2 * i)) q) * head_cost t p (suc (2 * i))

        each : (i : ℕ) → side (suc j) i + is j i * head_cost t p (suc (2 * i))
            ≡ side (t.up (suc j)) i + is j i * head_cost t p (2 * i)
        each i = rw (
          behind_even t.up i (suc j),
          behind_odd t.up i (suc j),
          behind_even t.up i (t.up (suc j)),
          behind_odd t.up i (t.up (suc j)),
        )
            (elim (alike j i) [
              | inl e ↦ rw (
                e.1,
                low e.0,
                high e.0,
                low-not e.0,
                high-not e.0,
              )
                  (omega arith)
              | inr d ↦ rw (
                d.1,
                same d.0,
                same_not d.0,
              )
                  (omega arith)
            ])
          where
            low : j ≡ i → bit (anc t.up (suc i) (suc j)) ≡ 1
            low e = ap (λ (z : ℕ). bit (anc t.up (suc i) (suc z))) e ∙ anc_self t.up t.tree (suc i)

            high : j ≡ i → bit (anc t.up (suc i) (t.up (suc j))) ≡ 0
            high e = anc-lt t.up t.tree (suc i) (t.up (suc j)) (omega (arith, t.tree.falls j, e))

            low-not : j ≡ i → bit (not (anc t.up (suc i) (suc j))) ≡ 0
            low-not e = omega (arith, bit_not (anc t.up (suc i) (suc j)), low e)

            high-not : j ≡ i → bit (not (anc t.up (suc i) (t.up (suc j)))) ≡ 1
            high-not e = omega (arith, bit_not (anc t.up (suc i) (t.up (suc j))), high e)

            same : j ≢ i → bit (anc t.up (suc i) (suc j)) ≡ bit (anc t.up (suc i) (t.up (suc j)))
            same d = omega (arith, anc_up t.up t.tree (suc i) j, is_other_lem (suc i) (suc j) (omega (arith, d)))

            same_not : j ≢ i → bit (not (anc t.up (suc i) (suc j))) ≡ bit (not (anc t.up (suc i) (t.up (suc j))))
            same_not d = omega (
              arith,
              same d,
              bit_not (anc t.up (suc i) (suc j)),
              bit_not (anc t.up (suc i) (t.up (suc j))),
            )
