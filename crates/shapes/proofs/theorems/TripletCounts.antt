-- The triplets of two shapes with the label 0 at the root, counted by sums over pairs of edges.
-- Assumes nothing.
use Rattle.std.specs.Prelude.{◌≡◌, Bool, ◌&&◌, ◌≢◌, T, eqb}
use Rattle.std.proofs.Math.Path.{refl, sym, ap, ap₂}
use Rattle.std.proofs.Common.{◌∙◌, inl, inr}
use Rattle.std.proofs.Math.Bool.{true, false, not}
use Prim.Native.Nat.{ℕ, zero, suc, ◌+◌, ◌*◌, ◌-◌, ◌≤◌, ◌<◌}
use native.Mathlib.Omega.{arith}
use Rattle.sums.specs.Sum.{sum}
use Rattle.sums.specs.theorems.SumLaws.{sum_cong, sum-add, sum_none, sum_first}
use Rattle.sums.specs.Bits.{bit}
use Rattle.sums.specs.theorems.BitLaws.{ne, bit_le, bit_cases, bit_not, bit-T, T-bit, is_other_lem, ne_self, ne_other}
use Rattle.sums.specs.theorems.TestLaws.{same_test}
use Rattle.sums.specs.theorems.Products.{bit_sq}
use Rattle.sums.specs.SetsOfFour.{sets2, sets3}
use Rattle.sums.specs.theorems.SetLaws.{tuples3, six_ways, every_order, sets3-first, sets3_ext, sets3-add}
use Rattle.sums.specs.theorems.ThreesLaws.{sets_of_three}
use Rattle.sums.specs.theorems.TripleSums.{pairs_of, pairs_of_bits, pairs_with_third, pairs_alike, pairs_apart_lem}
use Rattle.shapes.specs.Ancestors.{anc}
use Rattle.shapes.specs.Triplets.{lowest, resolved}
use Rattle.shapes.proofs.theorems.AncestorLaws.{up_ind, anc_at_zero, anc_root, anc_self, anc_down, anc_trans}
use Rattle.shapes.specs.theorems.LowestAncestors.{leaves}
use Rattle.shapes.proofs.theorems.LowestAncestors.{leaves_once, lowest-le, lowest_above, above_lowest, resolved-sum}
use Rattle.shapes.specs.theorems.PartedFours.{AtMostOne}
use Rattle.shapes.proofs.theorems.PartedFours.{parted-iff, one-pairing}
use Rattle.shapes.specs.theorems.Shape.{Shape}
use Rattle.shapes.proofs.theorems.Shape.{beyond_in, butterfly_in}
use Rattle.shapes.specs.theorems.Topologies.{first_passed}
use Rattle.shapes.proofs.theorems.Topologies.{topology_in, case_in}
use Rattle.shapes.proofs.theorems.Counting.{Cases, cases}
use Rattle.shapes.specs.theorems.TripletCounts.{Outgroup, alike_term, apart_term, edge_term}

-- ---- what is counted

module _ {n : ℕ} (t : Shape n) where
  -- the labels a and b have a lowest common ancestor that is not an ancestor of c
  abbrev pub resolved_in : ℕ → ℕ → ℕ → Bool
  resolved_in a b c = resolved t.up (t.node a) (t.node b) (t.node c)

  -- 0 for unresolved, 1 for b and c against a, 2 for a and c against b, 3 for a and b against c
  unfoldable pub triplet_in : ℕ → ℕ → ℕ → ℕ
  triplet_in a b c = first_passed (resolved_in b c a) (resolved_in a c b) (resolved_in a b c)

  -- how many labels lie beyond edge i; all of them for i = 0
  abbrev pub beyond_count : ℕ → ℕ
  beyond_count i = sum n (λ a. bit (beyond_in t i a))

-- how many labels lie beyond edge i of the first shape and edge i' of the second
abbrev pub beyond_both : {n : ℕ} → Shape n → Shape n → ℕ → ℕ → ℕ
beyond_both {n} t u i i' = sum n (λ a. bit (beyond_in t i a) * bit (beyond_in u i' a))

-- the sets of three labels other than 0 that are in case k
unfoldable pub triplets_in : {n : ℕ} → Shape n → Shape n → ℕ → ℕ
triplets_in {n} t u k = sets3 (n - 1) (λ a b c.
    bit (eqb (case_in (triplet_in t (suc a) (suc b) (suc c)) (triplet_in u (suc a) (suc b) (suc c))) k))

-- ---- sums over sets of three

one_less : (n : ℕ) → suc n - 1 ≡ n
one_less n = omega arith

-- a function that is 0 where a label is 0
from_one : (n : ℕ) (f : ℕ → ℕ → ℕ → ℕ) → ((b c : ℕ) → f 0 b c ≡ 0)
    → sets3 n f ≡ sets3 (n - 1) (λ a b c. f (suc a) (suc b) (suc c))
unfolding sets3 sum
from_one zero f h = refl
from_one (suc n) f h =
    sets3-first n f ∙ omega (arith, none) ∙ ap (λ (k : ℕ). sets3 k (λ a b c. f (suc a) (suc b) (suc c))) (sym (one_less n))
  where
    none : sets2 n (λ b c. f 0 (suc b) (suc c)) ≡ 0
    none = unfold sets2 in sum_none n _ (λ c lc. sum_none c _ (λ b lb. h (suc b) (suc c)))

-- a set of three below n is three positive labels one higher
set-of_three : (n : ℕ) (f : ℕ → ℕ → ℕ → ℕ) (g : ℕ → ℕ → ℕ → ℕ) → ((b c : ℕ) → f 0 b c ≡ 0)
    → ((a b c : ℕ) → 1 ≤ a → a < b → b < c → c < n → f a b c ≡ g a b c)
    → sets3 n f ≡ sets3 (n - 1) (λ a b c. g (suc a) (suc b) (suc c))
set-of_three n f g h e =
    from_one n f h
    ∙ sets3_ext (n - 1) _ _ (λ a b c ab bc lc. e (suc a) (suc b) (suc c) (omega arith) (omega arith) (omega arith) (omega arith))

twice_sets : (k : ℕ) (f : ℕ → ℕ → ℕ → ℕ) → sets3 k (λ a b c. 2 * f a b c) ≡ 2 * sets3 k f
twice_sets k f =
    sets3_ext k _ (λ a b c. f a b c + f a b c) (λ a b c ab bc lc. omega arith) ∙ sets3-add k f f ∙ omega arith

zero_times : (x y : ℕ) → x ≡ 0 → x * y ≡ 0
zero_times x y e = rw e (omega arith)

times_zero : (x y : ℕ) → y ≡ 0 → x * y ≡ 0
times_zero x y e = rw e (omega arith)

-- ---- one shape

module _ {n : ℕ} (t : Shape n) where
  -- the label a lies beyond edge j + 2
  abbrev pub beyond_bit : ℕ → ℕ → ℕ
  beyond_bit j a = bit (beyond_in t (suc (suc j)) a)

  -- the label c lies beyond the parent's edge, and not beyond edge j + 2
  abbrev pub leaves_bit : ℕ → ℕ → ℕ
  leaves_bit j c = leaves t.up (suc (suc j)) (t.node c)

  -- the edges from edge 2 on beyond which a and b lie, and where c leaves
  unfoldable triple : ℕ → ℕ → ℕ → ℕ
  triple a b c = sum (t.edges - 1) (λ j. beyond_bit j a * (beyond_bit j b * leaves_bit j c))

  triple_sym : (a b c : ℕ) → triple b a c ≡ triple a b c
  unfolding triple
  triple_sym a b c = sum_cong (t.edges - 1) (λ j. turn (beyond_bit j b) (beyond_bit j a) (leaves_bit j c))
    where
      turn : (x y z : ℕ) → x * (y * z) ≡ y * (x * z)
      turn x y z = omega arith

  -- a label does not leave where it lies beyond
  clash : (j a : ℕ) → beyond_bit j a * leaves_bit j a ≡ 0
  unfolding leaves bit
  clash j a = never (anc t.up (t.up (suc (suc j))) (t.node a)) (beyond_in t (suc (suc j)) a)
    where
      never : (x y : Bool) → bit y * bit (x && not y) ≡ 0
      never true true = refl
      never true false = refl
      never false true = refl
      never false false = refl

  triple_first : (a b : ℕ) → triple a b a ≡ 0
  unfolding triple
  triple_first a b = sum_none (t.edges - 1) _ (λ j l.
      omega (arith, ap (λ (z : ℕ). beyond_bit j b * z) (clash j a)))

  triple_second : (a b : ℕ) → triple a b b ≡ 0
  triple_second a b = triple_sym b a b ∙ triple_first b a

  module _ (o : Outgroup t) where
    -- ---- label 0 lies beyond no edge, and leaves at none but edge 1

    zero_beyond : (j : ℕ) → bit (beyond_in t (suc j) 0) ≡ 0
    zero_beyond j = rw o.at_root (anc_at_zero t.up t.tree (suc j) ∙ is_other_lem (suc j) 0 (omega arith))

    zero-leaves : (j : ℕ) → j < t.edges - 1 → leaves_bit j 0 ≡ 0
    zero-leaves j l =
        let h = o.one_child (suc j) (omega arith) (omega arith) in
        omega (
          arith,
          leaves_once t.up t.tree (suc (suc j)) (t.node 0) (omega arith),
          ap (λ (v : ℕ). bit (anc t.up (t.up (suc (suc j))) v)) o.at_root,
          anc_at_zero t.up t.tree (t.up (suc (suc j))),
          is_other_lem (t.up (suc (suc j))) 0 (λ e. omega (arith, h, e)),
        )

    zero-first : (b c : ℕ) → triple 0 b c ≡ 0
    unfolding triple
    zero-first b c = sum_none (t.edges - 1) _ (λ j l. rw (zero_beyond (suc j)) (omega arith))

    zero_second : (a c : ℕ) → triple a 0 c ≡ 0
    zero_second a c = triple_sym 0 a c ∙ zero-first a c

    zero_third : (a b : ℕ) → triple a b 0 ≡ 0
    unfolding triple
    zero_third a b = sum_none (t.edges - 1) _ (λ j l. rw (zero-leaves j l) (omega arith))

    -- ---- every other label lies beyond edge 1

    under_one : (v : ℕ) → 1 ≤ v → v ≤ t.edges → bit (anc t.up 1 v) ≡ 1
    under_one = up_ind t.up t.tree (λ v. 1 ≤ v → v ≤ t.edges → bit (anc t.up 1 v) ≡ 1)
        (λ l m. absurd (omega arith)) step
      where
        step : (w : ℕ) → (1 ≤ t.up (suc w) → t.up (suc w) ≤ t.edges → bit (anc t.up 1 (t.up (suc w))) ≡ 1)
            → 1 ≤ suc w → suc w ≤ t.edges → bit (anc t.up 1 (suc w)) ≡ 1
        step zero h l m = anc_self t.up t.tree 1
        step (suc w) h l m =
            anc_down t.up t.tree 1 (suc (suc w)) (omega arith)
            (h (o.one_child (suc w) (omega arith) m) (omega (arith, t.tree.falls (suc w))))

    other_node : (x : ℕ) → x < n → 1 ≤ x → 1 ≤ t.node x
    other_node x lx l = positive (t.node x) (λ e.
        t.node_ne x 0 lx (omega arith) (λ z. omega arith) (e ∙ sym o.at_root))
      where
        positive : (v : ℕ) → v ≢ 0 → 1 ≤ v
        positive v d = omega arith

    -- so a triple of labels has one such edge if it is resolved, and none if it is not
    triple_is : (a b c : ℕ) → a < n → c < n → 1 ≤ c → triple a b c ≡ bit (resolved_in t a b c)
    unfolding triple
    triple_is a b c la lc l =
        sym (all t.edges o.some (λ j.
        bit (beyond_in t (suc j) a) * (bit (beyond_in t (suc j) b) * leaves t.up (suc j) (t.node c))) first)
        ∙ resolved-sum t.up t.tree t.edges (t.node a) (t.node b) (t.node c) (t.node_le a la)
      where
        first : bit (beyond_in t 1 a) * (bit (beyond_in t 1 b) * leaves t.up 1 (t.node c)) ≡ 0
        first = rw none (omega arith)
          where
            none : leaves t.up 1 (t.node c) ≡ 0
            none = omega (
              arith,
              leaves_once t.up t.tree 1 (t.node c) (omega arith),
              bit_le (anc t.up (t.up 1) (t.node c)),
              under_one (t.node c) (other_node c lc l) (t.node_le c lc),
            )

        all : (k : ℕ) → 1 ≤ k → (f : ℕ → ℕ) → f 0 ≡ 0 → sum k f ≡ sum (k - 1) (λ j. f (suc j))
        all zero l f z = absurd (omega arith)
        all (suc k) l f z =
            sum_first k f ∙ omega (arith, z) ∙ ap (λ (i : ℕ). sum i (λ j. f (suc j))) (sym (one_less k))

    -- ---- a triplet is the butterfly with label 0

    pub resolved-butterfly : (a b c : ℕ) → a < n → resolved_in t a b c ≡ butterfly_in t 0 c a b
    unfolding resolved
    resolved-butterfly a b c la = same_test _ _ there back
      where
        l : ℕ
        l = lowest t.up (t.node a) (t.node b)

        at_zero : (i : ℕ) → 1 ≤ i → bit (anc t.up i (t.node 0)) ≡ 0
        at_zero i m = rw o.at_root (anc_at_zero t.up t.tree i ∙ is_other_lem i 0 (omega arith))

        above : (bit (anc t.up l (t.node a)) ≡ 1) × (bit (anc t.up l (t.node b)) ≡ 1)
        above = lowest_above t.up t.tree (t.node a) (t.node b)

        there : T (not (anc t.up l (t.node c))) → T (butterfly_in t 0 c a b)
        there y = (parted-iff t.up t.edges (t.node 0) (t.node c) (t.node a) (t.node b)).1 (
          l,
          low l away,
          omega (arith, lowest-le t.up t.tree (t.node a) (t.node b), t.node_le a la),
          record {
            ab = omega (arith, at_zero l (low l away), away);
            cd = omega (arith, above.0, above.1);
            ac = omega (arith, at_zero l (low l away), above.0);
          },
        )
          where
            away : bit (anc t.up l (t.node c)) ≡ 0
            away = omega (arith, bit-T (not (anc t.up l (t.node c))) y, bit_not (anc t.up l (t.node c)))

            low : (i : ℕ) → bit (anc t.up i (t.node c)) ≡ 0 → 1 ≤ i
            low zero h = absurd (omega (arith, h, anc_root t.up t.tree (t.node c)))
            low (suc i) h = omega arith

        back : T (butterfly_in t 0 c a b) → T (not (anc t.up l (t.node c)))
        back y = elim (bit_cases (anc t.up l (t.node c))) [
          | inl z ↦ T-bit (not (anc t.up l (t.node c))) (omega (arith, z, bit_not (anc t.up l (t.node c))))
          | inr h ↦ (
              let s = (parted-iff t.up t.edges (t.node 0) (t.node c) (t.node a) (t.node b)).0 y in
              let i = s.0 in
              let z = at_zero i s.1 in
              let p = s.3 in
              absurd (omega (
                arith,
                z,
                p.ab,
                anc_trans t.up t.tree i l (t.node c)
                    (above_lowest t.up t.tree (t.node a) (t.node b) i
                    (omega (arith, z, p.ac)) (omega (arith, z, p.ac, p.cd))) h,
              )))
        ]

    pub triplet-topology : (a b c : ℕ) → a < n → b < n → triplet_in t a b c ≡ topology_in t 0 a b c
    unfolding triplet_in topology_in
    triplet-topology a b c la lb = rw (
      resolved-butterfly b c a lb,
      resolved-butterfly a c b la,
      resolved-butterfly a b c la,
    )

    -- at most one of the three pairs is resolved
    pub one-resolved : (a b c : ℕ) → a < n → b < n
        → AtMostOne (resolved_in t b c a) (resolved_in t a c b) (resolved_in t a b c)
    one-resolved a b c la lb = rw (
      resolved-butterfly b c a lb,
      resolved-butterfly a c b la,
      resolved-butterfly a b c la,
    )
        (one-pairing t.up t.tree t.edges (t.node 0) (t.node a) (t.node b) (t.node c))

-- ---- two shapes

module _ {n : ℕ} (t u : Shape n) (o : Outgroup t) (o' : Outgroup u) where
  -- the case of three labels
  abbrev case_bit : ℕ → ℕ → ℕ → ℕ → ℕ
  case_bit k a b c = bit (eqb (case_in (triplet_in t a b c) (triplet_in u a b c)) k)

  module _ (a b c : ℕ) (l : 1 ≤ a) (ab : a < b) (bc : b < c) (lc : c < n) where
    -- the three tests of either shape
    at_three : Cases (resolved_in t b c a) (resolved_in t a c b) (resolved_in t a b c)
        (resolved_in u b c a) (resolved_in u a c b) (resolved_in u a b c)
    at_three = cases (one-resolved t o a b c (omega arith) (omega arith)) (one-resolved u o' a b c (omega arith) (omega arith))

    six_first : six_ways (λ a b c. ne a b * triple t a b c) a b c
        ≡ 2 * (case_bit 0 a b c + case_bit 1 a b c + case_bit 2 a b c)
    unfolding triplet_in
    six_first = rw (
      ne_other a b (omega arith),
      ne_other a c (omega arith),
      ne_other b a (omega arith),
      ne_other b c (omega arith),
      ne_other c a (omega arith),
      ne_other c b (omega arith),
      triple_sym t a b c,
      triple_sym t a c b,
      triple_sym t b c a,
      triple_is t o a b c (omega arith) (omega arith) (omega arith),
      triple_is t o a c b (omega arith) (omega arith) (omega arith),
      triple_is t o b c a (omega arith) (omega arith) (omega arith),
    )
        (omega (arith, at_three.in_first))

    six_second : six_ways (λ a b c. ne a b * triple u a b c) a b c
        ≡ 2 * (case_bit 0 a b c + case_bit 1 a b c + case_bit 3 a b c)
    unfolding triplet_in
    six_second = rw (
      ne_other a b (omega arith),
      ne_other a c (omega arith),
      ne_other b a (omega arith),
      ne_other b c (omega arith),
      ne_other c a (omega arith),
      ne_other c b (omega arith),
      triple_sym u a b c,
      triple_sym u a c b,
      triple_sym u b c a,
      triple_is u o' a b c (omega arith) (omega arith) (omega arith),
      triple_is u o' a c b (omega arith) (omega arith) (omega arith),
      triple_is u o' b c a (omega arith) (omega arith) (omega arith),
    )
        (omega (arith, at_three.in_second))

    six_alike : six_ways (λ a b c. ne a b * (triple t a b c * triple u a b c)) a b c ≡ 2 * case_bit 0 a b c
    unfolding triplet_in
    six_alike = rw (
      ne_other a b (omega arith),
      ne_other a c (omega arith),
      ne_other b a (omega arith),
      ne_other b c (omega arith),
      ne_other c a (omega arith),
      ne_other c b (omega arith),
      triple_sym t a b c,
      triple_sym t a c b,
      triple_sym t b c a,
      triple_sym u a b c,
      triple_sym u a c b,
      triple_sym u b c a,
      triple_is t o a b c (omega arith) (omega arith) (omega arith),
      triple_is t o a c b (omega arith) (omega arith) (omega arith),
      triple_is t o b c a (omega arith) (omega arith) (omega arith),
      triple_is u o' a b c (omega arith) (omega arith) (omega arith),
      triple_is u o' a c b (omega arith) (omega arith) (omega arith),
      triple_is u o' b c a (omega arith) (omega arith) (omega arith),
    )
        (omega (arith, at_three.in_same))

    six_apart : six_ways (λ a b c. triple t a b c * triple u a c b) a b c ≡ case_bit 1 a b c
    unfolding triplet_in
    six_apart = rw (
      triple_sym t a b c,
      triple_sym t a c b,
      triple_sym t b c a,
      triple_sym u a b c,
      triple_sym u a c b,
      triple_sym u b c a,
      triple_is t o a b c (omega arith) (omega arith) (omega arith),
      triple_is t o a c b (omega arith) (omega arith) (omega arith),
      triple_is t o b c a (omega arith) (omega arith) (omega arith),
      triple_is u o' a b c (omega arith) (omega arith) (omega arith),
      triple_is u o' a c b (omega arith) (omega arith) (omega arith),
      triple_is u o' b c a (omega arith) (omega arith) (omega arith),
    )
        (omega (arith, at_three.in_different))

  -- ---- sums over triples of labels

  one_tree : (s : Shape n) → Outgroup s → (g : ℕ → ℕ → ℕ → ℕ)
      → ((a b c : ℕ) → 1 ≤ a → a < b → b < c → c < n → six_ways (λ a b c. ne a b * triple s a b c) a b c ≡ 2 * g a b c)
      → tuples3 n (λ a b c. ne a b * triple s a b c) ≡ 2 * sets3 (n - 1) (λ a b c. g (suc a) (suc b) (suc c))
  one_tree s q g six =
      every_order n (λ a b c. ne a b * triple s a b c)
      (λ a b. zero_times (ne a a) _ (ne_self a))
      (λ a b. times_zero (ne a b) _ (triple_first s a b))
      (λ a b. times_zero (ne a b) _ (triple_second s a b))
      ∙ set-of_three n _ (λ a b c. 2 * g a b c)
      (λ b c. rw (
        zero-first s q b c,
        zero-first s q c b,
        zero_second s q b c,
        zero_third s q b c,
        zero_second s q c b,
        zero_third s q c b,
      )
      (omega arith))
      six
      ∙ twice_sets (n - 1) (λ a b c. g (suc a) (suc b) (suc c))

  count-first : tuples3 n (λ a b c. ne a b * triple t a b c) ≡ 2 * (triplets_in t u 0 + triplets_in t u 1 + triplets_in t u 2)
  unfolding triplets_in
  count-first =
      one_tree t o (λ a b c. case_bit 0 a b c + case_bit 1 a b c + case_bit 2 a b c) six_first
      ∙ ap (λ (x : ℕ). 2 * x) (simp sets3-add)

  count_second : tuples3 n (λ a b c. ne a b * triple u a b c) ≡ 2 * (triplets_in t u 0 + triplets_in t u 1 + triplets_in t u 3)
  unfolding triplets_in
  count_second =
      one_tree u o' (λ a b c. case_bit 0 a b c + case_bit 1 a b c + case_bit 3 a b c) six_second
      ∙ ap (λ (x : ℕ). 2 * x) (simp sets3-add)

  count-alike : tuples3 n (λ a b c. ne a b * (triple t a b c * triple u a b c)) ≡ 2 * triplets_in t u 0
  unfolding triplets_in
  count-alike =
      every_order n (λ a b c. ne a b * (triple t a b c * triple u a b c))
      (λ a b. zero_times (ne a a) _ (ne_self a))
      (λ a b. times_zero (ne a b) _ (zero_times _ _ (triple_first t a b)))
      (λ a b. times_zero (ne a b) _ (zero_times _ _ (triple_second t a b)))
      ∙ set-of_three n _ (λ a b c. 2 * case_bit 0 a b c)
      (λ b c. rw (
        zero-first t o b c,
        zero-first t o c b,
        zero_second t o b c,
        zero_third t o b c,
        zero_second t o c b,
        zero_third t o c b,
      )
      (omega arith))
      six_alike
      ∙ twice_sets (n - 1) (λ a b c. case_bit 0 (suc a) (suc b) (suc c))

  count-apart : tuples3 n (λ a b c. triple t a b c * triple u a c b) ≡ triplets_in t u 1
  unfolding triplets_in
  count-apart =
      every_order n (λ a b c. triple t a b c * triple u a c b)
      (λ a b. times_zero (triple t a a b) _ (triple_first u a b))
      (λ a b. zero_times _ _ (triple_first t a b))
      (λ a b. zero_times _ _ (triple_second t a b))
      ∙ set-of_three n _ (λ a b c. case_bit 1 a b c)
      (λ b c. rw (
        zero-first t o b c,
        zero-first t o c b,
        zero_second t o b c,
        zero_third t o b c,
        zero_second t o c b,
        zero_third t o c b,
      )
      (omega arith))
      six_apart

  count-all : triplets_in t u 0 + triplets_in t u 1 + triplets_in t u 2 + triplets_in t u 3 + triplets_in t u 4
      ≡ sets_of_three (n - 1)
  unfolding triplets_in triplet_in sets_of_three
  count-all = simp (← sets3-add) (sets3_ext (n - 1) _ _ (λ a b c ab bc lc.
      (at_three (suc a) (suc b) (suc c) (omega arith) (omega arith) (omega arith) (omega arith)).in_one))

  -- ---- the terms of two edges

  bits_sq : (x y : Bool) → (bit x * bit y) * (bit x * bit y) ≡ bit x * bit y
  bits_sq x y = omega (arith, ap₂ (λ (a b : ℕ). a * b) (bit_sq x) (bit_sq y))

  -- the labels that leave at an edge of either shape, from those beyond the edges and beyond their parents'
  module _ (j k : ℕ) where
    p_up : (c : ℕ) → leaves_bit t j c + beyond_bit t j c ≡ bit (beyond_in t (t.up (suc (suc j))) c)
    p_up c = leaves_once t.up t.tree (suc (suc j)) (t.node c) (omega arith)

    q_up : (c : ℕ) → leaves_bit u k c + beyond_bit u k c ≡ bit (beyond_in u (u.up (suc (suc k))) c)
    q_up c = leaves_once u.up u.tree (suc (suc k)) (u.node c) (omega arith)

    pub leave_both : sum n (λ c. leaves_bit t j c * leaves_bit u k c)
        + beyond_both t u (t.up (suc (suc j))) (suc (suc k)) + beyond_both t u (suc (suc j)) (u.up (suc (suc k)))
        ≡ beyond_both t u (t.up (suc (suc j))) (u.up (suc (suc k))) + beyond_both t u (suc (suc j)) (suc (suc k))
    leave_both = simp sum-add at (sum_cong n (λ c.
        each (leaves_bit t j c) (beyond_bit t j c) _ (leaves_bit u k c) (beyond_bit u k c) _ (p_up c) (q_up c)))
      where
        each : (l p p' m q q' : ℕ) → l + p ≡ p' → m + q ≡ q' → l * m + p' * q + p * q' ≡ p' * q' + p * q
        each l p p' m q q' e f = rw (← e, ← f) (omega arith)

    pub leave_second : sum n (λ b. beyond_bit t j b * leaves_bit u k b) + beyond_both t u (suc (suc j)) (suc (suc k))
        ≡ beyond_both t u (suc (suc j)) (u.up (suc (suc k)))
    leave_second = simp sum-add at (sum_cong n (λ b. each (beyond_bit t j b) (leaves_bit u k b) (beyond_bit u k b) _ (q_up b)))
      where
        each : (p m q q' : ℕ) → m + q ≡ q' → p * m + p * q ≡ p * q'
        each p m q q' f = rw (← f) (omega arith)

    pub leave_first : sum n (λ c. leaves_bit t j c * beyond_bit u k c) + beyond_both t u (suc (suc j)) (suc (suc k))
        ≡ beyond_both t u (t.up (suc (suc j))) (suc (suc k))
    leave_first = simp sum-add at (sum_cong n (λ c. each (leaves_bit t j c) (beyond_bit t j c) _ (beyond_bit u k c) (p_up c)))
      where
        each : (l p p' q : ℕ) → l + p ≡ p' → l * q + p * q ≡ p' * q
        each l p p' q e = rw (← e) (omega arith)

    abbrev alike_at : ℕ
    alike_at = alike_term (beyond_both t u (suc (suc j)) (suc (suc k)))
        (beyond_both t u (suc (suc j)) (u.up (suc (suc k))))
        (beyond_both t u (t.up (suc (suc j))) (suc (suc k)))
        (beyond_both t u (t.up (suc (suc j))) (u.up (suc (suc k))))

    abbrev apart_at : ℕ
    apart_at = apart_term (beyond_both t u (suc (suc j)) (suc (suc k)))
        (beyond_both t u (suc (suc j)) (u.up (suc (suc k))))
        (beyond_both t u (t.up (suc (suc j))) (suc (suc k)))

    alike_at_lem : pairs_of n (λ a. beyond_bit t j a * beyond_bit u k a) * sum n (λ c. leaves_bit t j c * leaves_bit u k c) ≡ alike_at
    unfolding alike_term
    alike_at_lem = ap₂ (λ (x y : ℕ). x * y)
        (pairs_of_bits n (λ a. beyond_bit t j a * beyond_bit u k a)
        (λ a. bits_sq (beyond_in t (suc (suc j)) a) (beyond_in u (suc (suc k)) a)))
        (omega (arith, leave_both))

    apart_at_lem : sum n (λ a. beyond_bit t j a * beyond_bit u k a)
        * (sum n (λ b. beyond_bit t j b * leaves_bit u k b) * sum n (λ c. leaves_bit t j c * beyond_bit u k c)) ≡ apart_at
    unfolding apart_term
    apart_at_lem = ap₂ (λ (x y : ℕ). beyond_both t u (suc (suc j)) (suc (suc k)) * (x * y))
        (omega (arith, leave_second)) (omega (arith, leave_first))

-- ---- the theorem

-- one edge of a shape
edge_at_lem : {n : ℕ} (t : Shape n) (j : ℕ)
    → pairs_of n (beyond_bit t j) * sum n (leaves_bit t j)
    ≡ edge_term (beyond_count t (suc (suc j))) (beyond_count t (t.up (suc (suc j))))
unfolding edge_term
edge_at_lem {n} t j = ap₂ (λ (x y : ℕ). x * y)
    (pairs_of_bits n (beyond_bit t j) (λ a. bit_sq (beyond_in t (suc (suc j)) a)))
    (omega (arith, leave))
  where
    leave : sum n (leaves_bit t j) + beyond_count t (suc (suc j)) ≡ beyond_count t (t.up (suc (suc j)))
    leave = sym (sum-add n _ _) ∙ sum_cong n (λ c.
        leaves_once t.up t.tree (suc (suc j)) (t.node c) (omega arith))

-- what sums over edges, and over pairs of edges, from edge 2 on say of the sets of three labels in each case
pub record TripletSums {n : ℕ} (t u : Shape n) : Type 0 where
  pub first : sum (t.edges - 1) (λ j. edge_term (beyond_count t (suc (suc j))) (beyond_count t (t.up (suc (suc j)))))
      ≡ 2 * (triplets_in t u 0 + triplets_in t u 1 + triplets_in t u 2)
  pub second : sum (u.edges - 1) (λ k. edge_term (beyond_count u (suc (suc k))) (beyond_count u (u.up (suc (suc k)))))
      ≡ 2 * (triplets_in t u 0 + triplets_in t u 1 + triplets_in t u 3)
  pub alike : sum (t.edges - 1) (λ j. sum (u.edges - 1) (λ k. alike_term
      (beyond_both t u (suc (suc j)) (suc (suc k)))
      (beyond_both t u (suc (suc j)) (u.up (suc (suc k))))
      (beyond_both t u (t.up (suc (suc j))) (suc (suc k)))
      (beyond_both t u (t.up (suc (suc j))) (u.up (suc (suc k))))))
      ≡ 2 * triplets_in t u 0
  pub apart : sum (t.edges - 1) (λ j. sum (u.edges - 1) (λ k. apart_term
      (beyond_both t u (suc (suc j)) (suc (suc k)))
      (beyond_both t u (suc (suc j)) (u.up (suc (suc k))))
      (beyond_both t u (t.up (suc (suc j))) (suc (suc k)))))
      ≡ triplets_in t u 1
  pub all : triplets_in t u 0 + triplets_in t u 1 + triplets_in t u 2 + triplets_in t u 3 + triplets_in t u 4
      ≡ sets_of_three (n - 1)

pub triplet_sums : {n : ℕ} (t u : Shape n) → Outgroup t → Outgroup u → TripletSums t u
unfolding triple
triplet_sums {n} t u o o' = record {
  first = sum_cong (t.edges - 1) (λ j. sym (edge_at_lem t j))
      ∙ sym (pairs_with_third n (t.edges - 1) (beyond_bit t) (leaves_bit t)) ∙ count-first t u o o';
  second = sum_cong (u.edges - 1) (λ k. sym (edge_at_lem u k))
      ∙ sym (pairs_with_third n (u.edges - 1) (beyond_bit u) (leaves_bit u)) ∙ count_second t u o o';
  alike = sum_cong (t.edges - 1) (λ j. sum_cong (u.edges - 1) (λ k. sym (alike_at_lem t u o o' j k)))
      ∙ sym (pairs_alike n (t.edges - 1) (u.edges - 1) (beyond_bit t) (leaves_bit t) (beyond_bit u) (leaves_bit u))
      ∙ count-alike t u o o';
  apart = sum_cong (t.edges - 1) (λ j. sum_cong (u.edges - 1) (λ k. sym (apart_at_lem t u o o' j k)))
      ∙ sym (pairs_apart_lem n (t.edges - 1) (u.edges - 1) (beyond_bit t) (leaves_bit t) (beyond_bit u) (leaves_bit u))
      ∙ count-apart t u o o';
  all = count-all t u o o';
}
