-- Codes of directed edges, and the one direction at a node that leads to another.
-- Assumes nothing.
use Rattle.std.specs.Prelude.{◌≡◌, refl, Bool, true, false, not, ◌⊎◌, ℕ, zero, suc, ◌+◌, ◌*◌, ◌/◌, ◌%◌, ◌≤◌, ◌<◌, eqb}
use Rattle.std.proofs.Common.{sym, ◌∙◌, inl, inr, mul-add, arith}
use Rattle.std.proofs.Math.Path.{ap, ap₂}
use Rattle.std.proofs.Math.Decide.{ℕ_discrete}
use Rattle.sums.specs.Sum.{sum}
use Rattle.sums.specs.theorems.SumLaws.{sum_cong, sum-add, sum_none, sum_one, sum_two}
use Rattle.sums.specs.Bits.{bit, is}
use Rattle.sums.specs.theorems.BitLaws.{ne, bit_not, is_self, is_other_lem, is_ne, alike}
use Rattle.shapes.specs.theorems.AncestorLaws.{Rooted}
use Rattle.shapes.proofs.theorems.AncestorLaws.{up_ind, anc_at_zero, anc-lt, anc_up, anc_self, anc_root}
use Rattle.shapes.specs.Ancestors.{anc}
use Rattle.shapes.specs.Directions.{edge, rising, head, behind}
use Rattle.shapes.specs.theorems.DirectionLaws.{into}

-- ---- the two codes of an edge

rising_even : (j : ℕ) → rising (2 * j) ≡ true
unfolding rising
rising_even j = ap (λ (x : ℕ). eqb x 0) (even j)
  where
    even : (j : ℕ) → (2 * j) % 2 ≡ 0
    even j = omega arith

rising_odd : (j : ℕ) → rising (suc (2 * j)) ≡ false
unfolding rising
rising_odd j = ap (λ (x : ℕ). eqb x 0) (odd j)
  where
    odd : (j : ℕ) → suc (2 * j) % 2 ≡ 1
    odd j = omega arith

edge_even : (j : ℕ) → edge (2 * j) ≡ suc j
unfolding edge
edge_even j = omega arith

edge_odd : (j : ℕ) → edge (suc (2 * j)) ≡ suc j
unfolding edge
edge_odd j = omega arith

pickℕ : Bool → ℕ → ℕ → ℕ
pickℕ b x y = elim b [ true ↦ x | false ↦ y ]

pick_bool : Bool → Bool → Bool → Bool
pick_bool b x y = elim b [ true ↦ x | false ↦ y ]

module _ (up : ℕ → ℕ) where
  pub head_even : (j : ℕ) → head up (2 * j) ≡ up (suc j)
  unfolding head pickℕ
  head_even j =
      ap (λ (b : Bool). pickℕ b (up (edge (2 * j))) (edge (2 * j))) (rising_even j) ∙ ap up (edge_even j)

  pub head_odd : (j : ℕ) → head up (suc (2 * j)) ≡ suc j
  unfolding head pickℕ
  head_odd j =
      ap (λ (b : Bool). pickℕ b (up (edge (suc (2 * j)))) (edge (suc (2 * j)))) (rising_odd j) ∙ edge_odd j

  pub behind_even : (j v : ℕ) → behind up (2 * j) v ≡ anc up (suc j) v
  unfolding behind pick_bool
  behind_even j v =
      ap₂ (λ (b : Bool) (i : ℕ). pick_bool b (anc up i v) (not (anc up i v))) (rising_even j) (edge_even j)

  pub behind_odd : (j v : ℕ) → behind up (suc (2 * j)) v ≡ not (anc up (suc j) v)
  unfolding behind pick_bool
  behind_odd j v =
      ap₂ (λ (b : Bool) (i : ℕ). pick_bool b (anc up i v) (not (anc up i v))) (rising_odd j) (edge_odd j)

-- a code is one of the two of its edge
pub code_cases : (c : ℕ) → (c ≡ 2 * (c / 2)) ⊎ (c ≡ suc (2 * (c / 2)))
code_cases c = elim (ℕ_discrete (c % 2) 0) [ yes z ↦ inl (omega arith) | no z ↦ inr (omega arith) ]

-- a sum over the codes of k edges, edge by edge
pub sum_codes : (k : ℕ) (F : ℕ → ℕ) → sum (2 * k) F ≡ sum k (λ j. F (2 * j) + F (suc (2 * j)))
unfolding sum
sum_codes zero F = refl
sum_codes (suc k) F = ap (λ (n : ℕ). sum n F) (two_more k) ∙ omega (arith, sum_codes k F)
  where
    two_more : (k : ℕ) → 2 * suc k ≡ suc (suc (2 * k))
    two_more k = omega arith

pub into_one : (up : ℕ → ℕ) (v x c : ℕ) → head up c ≡ v → bit (behind up c x) ≡ 1 → into up v x c ≡ 1
into_one up v x c h s = rw (h, s, is_self) refl

-- ---- exactly one direction at v leads to another node

module _ (up : ℕ → ℕ) (r : Rooted up) where
  turn : (v w : ℕ)
      → is v (up (suc w)) + bit (anc up v (up (suc w))) * ne v (up (suc w))
      ≡ bit (anc up v (suc w)) * ne v (suc w)
  turn v w = elim (alike v (suc w)) [
    | inl e ↦ rw (
      e.2,
      is_other_lem v (up (suc w)) (omega (arith, r.falls w, e.0)),
      anc-lt up r v (up (suc w)) (omega (arith, r.falls w, e.0)),
    )
        (omega arith)
    | inr n ↦ elim (alike v (up (suc w))) [
      | inl d ↦ rw (n.2, d.2) (omega (
        arith,
        d.1,
        anc_up up r v w,
        n.1,
        ap (λ (x : ℕ). bit (anc up v x)) d.0,
        anc_self up r v,
      ))
      | inr d ↦ rw (n.2, d.2) (omega (arith, d.1, anc_up up r v w, n.1))
    ]
  ]

  -- of the children of v one is u or above u, if v is above u and not u itself
  pub children_above : (k v u : ℕ) → u ≤ k
      → sum k (λ j. is v (up (suc j)) * bit (anc up (suc j) u)) ≡ bit (anc up v u) * ne v u
  children_above k v =
      up_ind up r (λ u. u ≤ k
      → sum k (λ j. is v (up (suc j)) * bit (anc up (suc j) u)) ≡ bit (anc up v u) * ne v u)
      (λ l.
      sum_none k _ (λ j m. rw (anc_at_zero up r (suc j), is_other_lem (suc j) 0 (omega arith)) (omega arith))
      ∙ rw (anc_at_zero up r v) (sym (never v)))
      (λ w ih l.
      sum_cong k (λ j. ap (λ (x : ℕ). is v (up (suc j)) * x) (anc_up up r (suc j) w))
      ∙ simp (mul-add, sum-add) (omega (
        arith,
        ih (omega (arith, r.falls w)),
        turn v w,
        sum_one k w (λ j. is v (up (suc j)) * is (suc j) (suc w)) l
            (λ j m n. rw (is_other_lem (suc j) (suc w) (omega arith)) (omega arith)),
        ap (λ (x : ℕ). is v (up (suc w)) * x) (is_self (suc w)),
      )))
    where
      never : (v : ℕ) → is v 0 * ne v 0 ≡ 0
      never v = elim (alike v 0) [ inl e ↦ rw e.2 (omega arith) | inr d ↦ rw d.1 (omega arith) ]

  falling : (k v u : ℕ) → v ≤ k
      → sum k (λ j. is v (suc j) * bit (not (anc up (suc j) u))) ≡ bit (not (anc up v u))
  falling k zero u l =
      sum_none k _ (λ j m. rw (is_other_lem 0 (suc j) (omega arith)) (omega arith))
      ∙ omega (arith, anc_root up r u, bit_not (anc up 0 u))
  falling k (suc v) u l =
      sum_one k v (λ j. is (suc v) (suc j) * bit (not (anc up (suc j) u))) l
      (λ j m n. rw (is_other_lem (suc v) (suc j) (omega arith)) (omega arith))
      ∙ rw is_self (omega arith)

  pub one_way : (k v u : ℕ) → v ≤ k → u ≤ k → sum (2 * k) (into up v u) ≡ ne v u
  one_way k v u lv lu =
      sum_codes k _
      ∙ simp (head_even, head_odd, behind_even, behind_odd, sum-add) (elim (alike v u) [
        | inl e ↦ rw (children_above k v u lu, falling k v u lv, e.2) (omega (
          arith,
          bit_not (anc up v u),
          anc_self up r v,
          ap (λ (x : ℕ). bit (anc up v x)) e.0,
        ))
        | inr n ↦ rw (children_above k v u lu, falling k v u lv, n.2) (omega (arith, bit_not (anc up v u)))
      ])

  -- no two codes into v have x behind them
  pub one_code : (k v x c d : ℕ) → v ≤ k → x ≤ k → c < 2 * k → d < 2 * k
      → head up c ≡ v → head up d ≡ v → bit (behind up c x) ≡ 1 → bit (behind up d x) ≡ 1 → c ≡ d
  one_code k v x c d lv lx lc ld hc hd sc sd = elim (ℕ_discrete c d) [
    | yes e ↦ e
    | no n ↦ absurd (omega (
      arith,
      sum_two (2 * k) (into up v x) c d lc ld n,
      one_way k v x lv lx,
      is_ne v x,
      into_one up v x c hc sc,
      into_one up v x d hd sd,
    ))
  ]
