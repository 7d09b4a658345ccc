-- The quartet distance between a shape and the shape with the labels x and y exchanged, as sums over the nodes of
-- the path from x to y.
-- Assumes nothing.
use Rattle.std.specs.Prelude.{◌≡◌, refl, ℕ, suc, ◌+◌, ◌*◌, ◌<◌}
use Rattle.std.proofs.Math.Path.{sym, ap}
use Rattle.std.proofs.Common.{◌∙◌, inl, inr}
use native.Mathlib.Omega.{arith}
use Rattle.sums.specs.Sum.{sum}
use Rattle.sums.specs.theorems.SumLaws.{sum_cong, sum-add, sum-mul_left}
use Rattle.sums.specs.Bits.{is}
use Rattle.sums.specs.theorems.BitLaws.{ne, is_ne, is_sym, ne_sym, alike, sum_is}
use Rattle.shapes.specs.theorems.Shape.{Shape}
use Rattle.shapes.proofs.theorems.Topologies.{cases_in}
use Rattle.shapes.proofs.theorems.OneCentre.{centre_on}
use Rattle.exchanges.specs.theorems.Others.{Two, Other, sum_of_others, others2, others3, others4}
use Rattle.exchanges.proofs.theorems.Others.{others_cong}
use Rattle.exchanges.proofs.theorems.Others.{others-add, others_none, sets_parts}
use Rattle.exchanges.proofs.theorems.Products.{others2-sum, others3-sum, others2_ext, others3_ext, others4_ext}
use Rattle.exchanges.proofs.theorems.Products.{others2-add, others3-add, product2, product3, pair_first, pair_last, pair_ends}
use Rattle.exchanges.specs.theorems.Exchanged.{differ}
use Rattle.exchanges.proofs.theorems.Exchanged.{exchanged, differ_symmetric, differ_sets}
use Rattle.exchanges.specs.theorems.SetsChanged.{leaving_place, hangs}
use Rattle.exchanges.proofs.theorems.SetsChanged.{hangs_none, neither_changes, both_change}
use Rattle.exchanges.proofs.theorems.SetsChanged.{one_changes, y_as_x}

-- the sets of four whose topologies change where x and y are exchanged: cases B, C and D of the two shapes
unfoldable pub distance_in : {n : ℕ} (t : Shape n) (x y : ℕ) → Two n x y → ℕ
distance_in t x y two =
    cases_in t (exchanged t x y two) 1 + cases_in t (exchanged t x y two) 2 + cases_in t (exchanged t x y two) 3

module _ {n : ℕ} (t : Shape n) (x y : ℕ) where
  -- how many labels other than x and y leave the path from x to y at the node v
  unfoldable pub leaving_path : ℕ → ℕ
  leaving_path v = sum_of_others n x y (λ a. is (leaving_place t x y a) v)

  -- how many leave it elsewhere
  unfoldable pub elsewhere : ℕ → ℕ
  elsewhere v = sum_of_others n x y (λ a. ne (leaving_place t x y a) v)

  -- how many ordered pairs of them, a label and itself included, hang in one subtree at v
  unfoldable pub in_one_subtree : ℕ → ℕ
  in_one_subtree v = others2 n x y (λ a b. is (leaving_place t x y a) v * hangs t x y a b)

  -- how many labels there are beside x and y
  abbrev pub other_labels : ℕ
  other_labels = sum_of_others n x y (λ a. 1)

  pub leaving_elsewhere : (v : ℕ) → leaving_path v + elsewhere v ≡ other_labels
  unfolding leaving_path elsewhere
  leaving_elsewhere v =
      sym (others-add n x y (λ a. is (leaving_place t x y a) v) (λ a. ne (leaving_place t x y a) v))
      ∙ others_cong n x y (λ a. is_ne (leaving_place t x y a) v)

  module _ (two : Two n x y) where
    abbrev K : ℕ
    K = suc t.edges

    abbrev at : ℕ → ℕ
    at a = leaving_place t x y a

    abbrev changed : ℕ → ℕ → ℕ → ℕ → ℕ
    changed a b c d = differ t (exchanged t x y two) a b c d

    at_lt : (a : ℕ) → Other n x y a → at a < K
    at_lt a o = omega (
      arith,
      (centre_on t.up t.tree t.edges (t.node x) (t.node y) (t.node a)
          (t.node_le x two.lx) (t.node_le y two.ly) (t.node_le a o.la)).0,
    )

    -- a sum over the nodes with the one term at the place of a
    at_place : (a : ℕ) → Other n x y a → (f : ℕ → ℕ) → sum K (λ v. is (at a) v * f v) ≡ f (at a)
    at_place a o f = sum_is K (at a) f (at_lt a o)

    -- ---- sets with both

    pub both_sum : others2 n x y (changed x y) + sum K (λ v. leaving_path v * leaving_path v) ≡ other_labels * other_labels
    both_sum = omega (
      arith,
      others2-add n x y (changed x y) (λ a b. is (at a) (at b)),
      others2_ext n x y (λ a b. changed x y a b + is (at a) (at b)) (λ a b. 1 * 1)
          (λ a b oa ob. both_change t x y two a b oa ob),
      product2 n x y (λ a. 1) (λ b. 1),
      others2_ext n x y (λ a b. is (at a) (at b)) (λ a b. sum K (λ v. is (at a) v * is (at b) v))
          (λ a b oa ob. is_sym (at a) (at b) ∙ sym (at_place a oa (λ v. is (at b) v))),
      others2-sum n x y K (λ a b v. is (at a) v * is (at b) v),
      sum_cong K (λ v. square v),
    )
      where
        square : (v : ℕ) → others2 n x y (λ a b. is (at a) v * is (at b) v) ≡ leaving_path v * leaving_path v
        square v = unfold leaving_path in product2 n x y (λ a. is (at a) v) (λ b. is (at b) v)

    -- ---- sets with one

    all_joined : others3 n x y (λ a b c. is (at a) (at b) * is (at b) (at c))
        ≡ sum K (λ v. leaving_path v * (leaving_path v * leaving_path v))
    all_joined =
        others3_ext n x y _ (λ a b c. sum K (λ v. is (at a) v * (is (at b) v * is (at c) v)))
        (λ a b c oa ob oc. same a b c ∙ sym (at_place a oa (λ v. is (at b) v * is (at c) v)))
        ∙ others3-sum n x y K (λ a b c v. is (at a) v * (is (at b) v * is (at c) v))
        ∙ sum_cong K (λ v. cube v)
      where
        same : (a b c : ℕ) → is (at a) (at b) * is (at b) (at c) ≡ is (at b) (at a) * is (at c) (at a)
        same a b c = elim (alike (at a) (at b)) [
          | inl e ↦ rw e.0 (ap (λ (z : ℕ). is (at b) (at b) * z) (is_sym (at b) (at c)))
          | inr d ↦ rw (is_sym (at b) (at a), d.1) (omega arith)
        ]

        cube : (v : ℕ) → others3 n x y (λ a b c. is (at a) v * (is (at b) v * is (at c) v))
            ≡ leaving_path v * (leaving_path v * leaving_path v)
        cube v = unfold leaving_path in product3 n x y (λ a. is (at a) v) (λ b. is (at b) v) (λ c. is (at c) v)

    -- a and b hang together, and c leaves elsewhere
    at_pair : (a b c : ℕ) → Other n x y a → Other n x y b
        → hangs t x y a b * ne (at b) (at c)
        ≡ sum K (λ v. is (at a) v * hangs t x y a b * ne (at c) v)
    at_pair a b c oa ob =
        same ∙ sym (at_place a oa (λ v. hangs t x y a b * ne (at c) v))
        ∙ sum_cong K (λ v. regroup (is (at a) v) (hangs t x y a b) (ne (at c) v))
      where
        regroup : (p q r : ℕ) → p * (q * r) ≡ p * q * r
        regroup p q r = omega arith

        same : hangs t x y a b * ne (at b) (at c) ≡ hangs t x y a b * ne (at c) (at a)
        same = elim (alike (at a) (at b)) [
          | inl e ↦ rw e.0 (ap (λ (z : ℕ). hangs t x y a b * z) (ne_sym (at b) (at c)))
          | inr d ↦ rw (hangs_none t x y two a b oa ob d.0) (omega arith)
        ]

    abbrev pairs : ℕ
    pairs = sum K (λ v. in_one_subtree v * elsewhere v)

    pair_12 : others3 n x y (λ a b c. hangs t x y a b * ne (at b) (at c)) ≡ pairs
    unfolding in_one_subtree elsewhere
    pair_12 =
        others3_ext n x y _ (λ a b c. sum K (λ v. is (at a) v * hangs t x y a b * ne (at c) v))
        (λ a b c oa ob oc. at_pair a b c oa ob)
        ∙ others3-sum n x y K (λ a b c v. is (at a) v * hangs t x y a b * ne (at c) v)
        ∙ sum_cong K (λ v. pair_first n x y (λ a b. is (at a) v * hangs t x y a b) (λ c. ne (at c) v))

    pair_23 : others3 n x y (λ a b c. hangs t x y b c * ne (at a) (at b)) ≡ pairs
    unfolding in_one_subtree elsewhere
    pair_23 =
        others3_ext n x y _ (λ a b c. sum K (λ v. is (at b) v * hangs t x y b c * ne (at a) v))
        (λ a b c oa ob oc.
        sym (at_place b ob (λ v. hangs t x y b c * ne (at a) v))
        ∙ sum_cong K (λ v. regroup (is (at b) v) (hangs t x y b c) (ne (at a) v)))
        ∙ others3-sum n x y K (λ a b c v. is (at b) v * hangs t x y b c * ne (at a) v)
        ∙ sum_cong K (λ v. pair_last n x y (λ a b. is (at a) v * hangs t x y a b) (λ c. ne (at c) v))
      where
        regroup : (p q r : ℕ) → p * (q * r) ≡ p * q * r
        regroup p q r = omega arith

    pair_13 : others3 n x y (λ a b c. hangs t x y a c * ne (at a) (at b)) ≡ pairs
    unfolding in_one_subtree elsewhere
    pair_13 =
        others3_ext n x y _ (λ a b c. sum K (λ v. is (at a) v * hangs t x y a c * ne (at b) v))
        (λ a b c oa ob oc.
        ap (λ (z : ℕ). hangs t x y a c * z) (ne_sym (at a) (at b))
        ∙ sym (at_place a oa (λ v. hangs t x y a c * ne (at b) v))
        ∙ sum_cong K (λ v. regroup (is (at a) v) (hangs t x y a c) (ne (at b) v)))
        ∙ others3-sum n x y K (λ a b c v. is (at a) v * hangs t x y a c * ne (at b) v)
        ∙ sum_cong K (λ v. pair_ends n x y (λ a b. is (at a) v * hangs t x y a b) (λ c. ne (at c) v))
      where
        regroup : (p q r : ℕ) → p * (q * r) ≡ p * q * r
        regroup p q r = omega arith

    pub one-sum : others3 n x y (changed x) + sum K (λ v. leaving_path v * (leaving_path v * leaving_path v)) + 3 * pairs
        ≡ other_labels * (other_labels * other_labels)
    one-sum = omega (
      arith,
      others3_ext n x y
          (λ a b c. changed x a b c + is (at a) (at b) * is (at b) (at c) + hangs t x y a b * ne (at b) (at c)
          + hangs t x y b c * ne (at a) (at b) + hangs t x y a c * ne (at a) (at b))
          (λ a b c. 1 * (1 * 1)) (λ a b c oa ob oc. one_changes t x y two a b c oa ob oc),
      product3 n x y (λ a. 1) (λ b. 1) (λ c. 1),
      others3-add n x y
          (λ a b c. changed x a b c + is (at a) (at b) * is (at b) (at c) + hangs t x y a b * ne (at b) (at c)
          + hangs t x y b c * ne (at a) (at b))
          (λ a b c. hangs t x y a c * ne (at a) (at b)),
      others3-add n x y
          (λ a b c. changed x a b c + is (at a) (at b) * is (at b) (at c) + hangs t x y a b * ne (at b) (at c))
          (λ a b c. hangs t x y b c * ne (at a) (at b)),
      others3-add n x y (λ a b c. changed x a b c + is (at a) (at b) * is (at b) (at c))
          (λ a b c. hangs t x y a b * ne (at b) (at c)),
      others3-add n x y (changed x) (λ a b c. is (at a) (at b) * is (at b) (at c)),
      all_joined,
      pair_12,
      pair_23,
      pair_13,
    )

    -- ---- all sets of four

    none_sum : others4 n x y (differ t (exchanged t x y two)) ≡ 0
    unfolding others4 others3 others2
    none_sum =
        others4_ext n x y _ (λ a b c d. 0) (neither_changes t x y two)
        ∙ others_none n x y _ (λ a. others_none n x y _ (λ b. others_none n x y _ (λ c. others_none n x y _ (λ d. refl))))

    -- what a node takes from the distance
    abbrev pub taken : ℕ → ℕ
    taken v = 2 * (leaving_path v * (leaving_path v * leaving_path v)) + 3 * (leaving_path v * leaving_path v)
        + 6 * (in_one_subtree v * elsewhere v)

    pub six_distances : 6 * distance_in t x y two + sum K taken
        ≡ 2 * (other_labels * (other_labels * other_labels)) + 3 * (other_labels * other_labels)
    unfolding distance_in
    six_distances = omega (
      arith,
      differ_sets t (exchanged t x y two),
      sets_parts n x y two (differ t (exchanged t x y two)) (differ_symmetric t (exchanged t x y two)),
      none_sum,
      others3_ext n x y (changed y) (changed x) (λ a b c oa ob oc. y_as_x t x y two a b c oa ob oc),
      both_sum,
      one-sum,
      sum-add K (λ v. 2 * (leaving_path v * (leaving_path v * leaving_path v)) + 3 * (leaving_path v * leaving_path v))
          (λ v. 6 * (in_one_subtree v * elsewhere v)),
      sum-add K (λ v. 2 * (leaving_path v * (leaving_path v * leaving_path v))) (λ v. 3 * (leaving_path v * leaving_path v)),
      sum-mul_left K 2 (λ v. leaving_path v * (leaving_path v * leaving_path v)),
      sum-mul_left K 3 (λ v. leaving_path v * leaving_path v),
      sum-mul_left K 6 (λ v. in_one_subtree v * elsewhere v),
    )
