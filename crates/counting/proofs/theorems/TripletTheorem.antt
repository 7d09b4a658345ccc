-- The triplet theorem: triplets are the quartets that hold tip 0, and what the five counts add up to.
-- Assumes nothing.
use Rattle.std.specs.Prelude.{◌≡◌, refl, ◌≢◌, ℕ, zero, suc, ◌+◌, ◌*◌, ◌-◌, ◌≤◌, ◌<◌, eqb}
use Rattle.std.proofs.Math.Path.{sym, ap}
use Rattle.std.proofs.Common.{◌∙◌, ap₂}
use native.Mathlib.Omega.{arith}
use Rattle.sums.specs.Bits.{bit, is}
use Rattle.sums.specs.theorems.BitLaws.{is_self, is_other_lem}
use Rattle.sums.specs.SetsOfFour.{sets3, sets4}
use Rattle.sums.specs.theorems.SetLaws.{sets3_ext, sets4-first, sets4_none}
use Rattle.sums.specs.theorems.ThreesLaws.{threes, threes-count, threes_exact, threes_none, threes_of_255, threes_mono}
use Rattle.shapes.specs.theorems.FourLabels.{Four}
use Rattle.shapes.specs.theorems.PartedFours.{AtMostOne}
use Rattle.shapes.specs.theorems.TripletCounts.{Outgroup}
use Rattle.shapes.proofs.theorems.TripletCounts.{triplet_in, triplets_in, resolved-butterfly, one-resolved, triplet_sums}
use Rattle.trees.specs.declared.quartet.Topology.{Topology}
use Rattle.tree_check.specs.Table.{Table, tips}
use Rattle.tree_check.specs.IsTree.{IsTree}
use Rattle.walks.specs.theorems.NodeLabels.{node_only}
use Rattle.trees.specs.Topology.{butterfly, topology}
use Rattle.trees.specs.theorems.PartnerLaws.{partner_of_smallest}
use Rattle.trees.specs.theorems.TopologyLaws.{any_order, as_is, middle, last_two}
use Rattle.counting.specs.Labels.{all}
use Rattle.counting.specs.declared.Case.{Case}
use Rattle.counting.specs.declared.Case.TheVariants.{A, B, C, D, E}
use Rattle.counting.specs.Cases.{case_of, case_number, is_case}
use Rattle.counting.specs.Triplets.{together, triplet, triplets}
use Rattle.counting.proofs.theorems.CasesInShapes.{case_named}
use Rattle.counting.proofs.theorems.LabelLaws.{all_of}
use Rattle.counting.proofs.theorems.TreeShape.{shape_of}
use Rattle.counting.specs.theorems.TripletTheorem.{holds_tip0, quartets_with_tip0}

-- ---- one table

module _ (t : Table) (g : IsTree t) (n : ℕ) (e : tips t ≡ n) where
  -- tip 0 is at node 0, whose one child is node 1
  pub outgroup : Outgroup (shape_of t g (all n) (all_of n (tips t) e))
  unfolding shape_of
  outgroup =
      let few = g.tips_range in
      let many = g.nodes_range in
      record {
        at_root = node_only t g 0 0 (omega arith) (omega arith) g.root_label;
        some = omega arith;
        one_child = λ j l m. (g.parents_range (suc j) (omega arith) (omega arith)).0;
      }

module _ (t : Table) (g : IsTree t) where
  -- a and b are together against c exactly if they are the butterfly 0c|ab
  pub together_butterfly : (a b c : ℕ) → a < tips t → together t a b c ≡ butterfly t 0 c a b
  unfolding together butterfly shape_of
  together_butterfly a b c la = resolved-butterfly (shape_of t g (all (tips t)) (all_of (tips t) (tips t) refl)) (outgroup t g (tips t) refl) a b c la

  -- at most one of the three pairs is
  pub one_together : (a b c : ℕ) → a < tips t → b < tips t
      → AtMostOne (together t b c a) (together t a c b) (together t a b c)
  unfolding together shape_of
  one_together a b c la lb = one-resolved (shape_of t g (all (tips t)) (all_of (tips t) (tips t) refl)) (outgroup t g (tips t) refl) a b c la lb

  -- so a triplet is the topology of its labels with tip 0
  pub triplet-topology : (a b c : ℕ) → 1 ≤ a → 1 ≤ b → 1 ≤ c → a < tips t → b < tips t
      → triplet t a b c ≡ topology t 0 a b c
  unfolding triplet topology
  triplet-topology a b c pa pb pc la lb = rw (
    together_butterfly b c a lb,
    together_butterfly a c b la,
    together_butterfly a b c la,
    partner_of_smallest 0 a b c pa pb pc,
    partner_of_smallest 0 b a c pb pa pc,
    partner_of_smallest 0 c a b pc pa pb,
  )

  -- in which order the three are given makes no difference
  pub triplet_order : (a b c : ℕ) → 1 ≤ a → 1 ≤ b → 1 ≤ c → a < tips t → b < tips t → c < tips t
      → a ≢ b → a ≢ c → b ≢ c
      → (triplet t b a c ≡ triplet t a b c) × (triplet t a c b ≡ triplet t a b c)
  triplet_order a b c pa pb pc la lb lc ab ac bc = (
    triplet-topology b a c pb pa pc lb la
        ∙ any_order t g 0 a b c four (middle as_is) ∙ sym (triplet-topology a b c pa pb pc la lb),
    triplet-topology a c b pa pc pb la lc
        ∙ any_order t g 0 a b c four (last_two as_is) ∙ sym (triplet-topology a b c pa pb pc la lb),
  )
    where
      four : Four (tips t) 0 a b c
      four = record {
        la = omega arith;
        lb = la;
        lc = lb;
        ld = lc;
        ab = λ z. omega arith;
        ac = λ z. omega arith;
        ad = λ z. omega arith;
        bc = ab;
        bd = ac;
        cd = bc;
      }

-- ---- two tables

module _ (t u : Table) (g : IsTree t) (h : IsTree u) (e : tips t ≡ tips u) where
  -- each figure is the number of sets of four that hold tip 0 in that case
  pub triplets_are_quartets : (k : Case) → triplets t u k ≡ quartets_with_tip0 t u k
  unfolding triplets quartets_with_tip0
  triplets_are_quartets k =
      sets3_ext (tips t - 1) _ _ (λ a b c ab bc lc. each (suc a) (suc b) (suc c) (omega arith) (omega arith) (omega arith)
      (omega arith) (omega arith) (omega arith))
      ∙ sym (with_first (tips t) few held (λ w x y z. rw (
        is_other_lem 0 (suc w) (λ q. omega arith),
        is_other_lem 0 (suc x) (λ q. omega arith),
        is_other_lem 0 (suc y) (λ q. omega arith),
        is_other_lem 0 (suc z) (λ q. omega arith),
      )
      (omega arith)))
    where
      few : 1 ≤ tips t
      few = let r = g.tips_range in omega arith

      case_bit : ℕ → ℕ → ℕ → ℕ → ℕ
      case_bit w x y z = bit (is_case (case_of (topology t w x y z) (topology u w x y z)) k)

      held : ℕ → ℕ → ℕ → ℕ → ℕ
      held w x y z = holds_tip0 w x y z * case_bit w x y z

      each : (a b c : ℕ) → 1 ≤ a → 1 ≤ b → 1 ≤ c → a < tips t → b < tips t → c < tips t
          → bit (is_case (case_of (triplet t a b c) (triplet u a b c)) k) ≡ held 0 a b c
      each a b c pa pb pc la lb lc =
          ap₂ (λ (x y : Topology). bit (is_case (case_of x y) k))
          (triplet-topology t g a b c pa pb pc la lb)
          (triplet-topology u h a b c pa pb pc (omega arith) (omega arith))
          ∙ sym (rw (
            is_self 0,
            is_other_lem 0 a (λ q. omega arith),
            is_other_lem 0 b (λ q. omega arith),
            is_other_lem 0 c (λ q. omega arith),
          )
          (omega arith))

      with_first : (n : ℕ) → 1 ≤ n → (f : ℕ → ℕ → ℕ → ℕ → ℕ)
          → ((w x y z : ℕ) → f (suc w) (suc x) (suc y) (suc z) ≡ 0)
          → sets4 n f ≡ sets3 (n - 1) (λ a b c. f 0 (suc a) (suc b) (suc c))
      with_first zero l f z = absurd (omega arith)
      with_first (suc n) l f z =
          sets4-first n f
          ∙ omega (arith, (sets4_none n (λ w x y z. f (suc w) (suc x) (suc y) (suc z))).1 (λ w x y v wx xy yv lv. z w x y v))
          ∙ ap (λ (i : ℕ). sets3 i (λ a b c. f 0 (suc a) (suc b) (suc c))) (sym (one_less n))
        where
          one_less : (n : ℕ) → suc n - 1 ≡ n
          one_less n = omega arith

  -- the cases of two tables are those of their shapes
  pub triplets_in_shapes : (k : Case)
      → triplets t u k ≡ triplets_in (shape_of t g (all (tips t)) (all_of (tips t) (tips t) refl)) (shape_of u h (all (tips t)) (all_of (tips t) (tips u) (sym e))) (case_number k)
  unfolding triplets triplets_in triplet_in is_case triplet together shape_of
  triplets_in_shapes k = sets3_ext (tips t - 1) _ _ (λ a b c ab bc lc.
      ap (λ (x : ℕ). bit (eqb x (case_number k)))
      (case_named (suc a) (suc b) (suc c) (λ q. omega arith) (λ q. omega arith) (λ q. omega arith) _ _ _ _ _ _))

  -- the five add up to the sets of three of the labels but 0, and none wraps
  pub triplets-total :
      triplets t u A + triplets t u B + triplets t u C + triplets t u D + triplets t u E ≡ threes (tips t - 1)
  triplets-total =
      let s = triplets_in_shapes in
      rw (s A, s B, s C, s D, s E)
      ((triplet_sums _ _ (outgroup t g (tips t) refl) (outgroup u h (tips t) (sym e))).all ∙ threes-count (tips t - 1))

-- how many sets of three there are: none with two or three tips, and at most 2731135
pub all-triplets : (t : Table) → IsTree t
    → (6 * threes (tips t - 1) ≡ (tips t - 1) * (tips t - 2) * (tips t - 3))
    × (tips t < 4 → threes (tips t - 1) ≡ 0)
    × (threes (tips t - 1) ≤ 2731135)
all-triplets t g = (
  threes_exact (tips t - 1) ∙ ap₂ (λ (x y : ℕ). (tips t - 1) * x * y) (less (tips t)) (less2 (tips t)),
  λ l. threes_none (tips t - 1) (omega arith),
  omega (arith, threes_mono (tips t - 1) 255 (omega (arith, g.tips_range.1)), threes_of_255),
)
  where
    less : (n : ℕ) → n - 1 - 1 ≡ n - 2
    less n = omega arith

    less2 : (n : ℕ) → n - 1 - 2 ≡ n - 3
    less2 n = omega arith
