-- The exchanges of a table are those of its shape: the distance by the cost of a path, and the tallies.
-- Assumes nothing.
use Rattle.std.specs.Prelude.{◌≡◌, refl, Bool, ℕ, suc, ◌+◌, ◌*◌, ◌-◌, ◌/◌, ◌≤◌, ◌<◌, eqb}
use Rattle.std.proofs.Common.{sym, ◌∙◌}
use Rattle.std.proofs.Math.Path.{ap, ap₂, fun_ext}
use native.Mathlib.Omega.{arith}
use Rattle.sums.specs.Sum.{sum}
use Rattle.sums.specs.Bits.{bit, is}
use Rattle.sums.specs.Fours.{fours}
use Rattle.sums.specs.SetsOfFour.{sets4}
use Rattle.sums.specs.theorems.SumLaws.{sum_cong}
use Rattle.sums.specs.theorems.BitLaws.{is_other_lem}
use Rattle.sums.specs.theorems.SetLaws.{sets4_ext}
use Rattle.sums.specs.theorems.Inserted.{sets2_ext, sets2_none}
use Rattle.sums.specs.theorems.FoursLaws.{pairs_count}
use Rattle.sums.specs.theorems.SwapLaws.{swapped_either}
use Rattle.sums.specs.theorems.FoursLaws.{pairs_count}
use Rattle.shapes.proofs.theorems.Topologies.{topology_in, case_in, cases_in}
use Rattle.trees.specs.declared.quartet.Topology.{Topology}
use Rattle.tree_check.specs.Table.{Table, tips, node_of}
use Rattle.tree_check.specs.IsTree.{IsTree}
use Rattle.trees.specs.Topology.{butterfly, partner, named, topology}
use Rattle.trees.specs.theorems.PartnerLaws.{partner_of_smallest}
use Rattle.counting.specs.Labels.{all}
use Rattle.counting.specs.declared.Case.{Case}
use Rattle.counting.specs.declared.Case.TheVariants.{B, C, D}
use Rattle.counting.specs.Cases.{case_of, case_number, is_case}
use Rattle.counting.proofs.theorems.TreeShape.{shape_of}
use Rattle.counting.proofs.theorems.CasesInShapes.{case_named}
use Rattle.exchanges.specs.Exchanges.{exchanged_butterfly, exchanged_topology, exchange_cases, exchange_distance}
use Rattle.exchanges.specs.Exchanges.{tally_of, tally}
use Rattle.exchanges.specs.theorems.Others.{Two}
use Rattle.exchanges.proofs.theorems.Exchanged.{exchanged}
use Rattle.exchanges.proofs.theorems.Distance.{distance_in}
use Rattle.exchanges.proofs.theorems.PathSum.{path_cost}
use Rattle.exchanges.specs.theorems.Walk.{whole_cost}
use Rattle.exchanges.proofs.theorems.Walk.{distance_whole}
use Rattle.exchanges.proofs.theorems.Tallies.{moved_by, moved_distance, moved_le, tally_in, tallies_all, tally_few}
use Rattle.exchanges.specs.theorems.ExchangedTables.{shape}

-- ---- the cases, the distance and the tallies are those of the shape

in_order : (p q r : Bool) (a b c d : ℕ) → a < b → b < c → c < d
    → named p q r (partner a b c d) (partner a c b d) (partner a d b c) ≡ named p q r b c d
in_order p q r a b c d ab bc cd = rw (
  partner_of_smallest a b c d (omega arith) (omega arith) (omega arith),
  partner_of_smallest a c b d (omega arith) (omega arith) (omega arith),
  partner_of_smallest a d b c (omega arith) (omega arith) (omega arith),
)

module _ (t : Table) (g : IsTree t) where
  module _ (x y : ℕ) (two : Two (tips t) x y) where
    case_in-shape : (a b c d : ℕ) → a < b → b < c → c < d
        → case_number (case_of (topology t a b c d) (exchanged_topology t x y a b c d))
        ≡ case_in (topology_in (shape t g) a b c d) (topology_in (exchanged (shape t g) x y two) a b c d)
    unfolding topology exchanged_topology exchanged_butterfly topology_in exchanged shape_of butterfly
    case_in-shape a b c d ab bc cd =
        ap₂ (λ (p q : Topology). case_number (case_of p q)) (in_order _ _ _ a b c d ab bc cd) (in_order _ _ _ a b c d ab bc cd)
        ∙ case_named b c d (omega arith) (omega arith) (omega arith) _ _ _ _ _ _

    pub cases_in-shape : (k : Case)
        → exchange_cases t x y k ≡ cases_in (shape t g) (exchanged (shape t g) x y two) (case_number k)
    unfolding exchange_cases cases_in is_case
    cases_in-shape k = sets4_ext (tips t) _ _ (λ a b c d ab bc cd l.
        ap (λ (z : ℕ). bit (eqb z (case_number k))) (case_in-shape a b c d ab bc cd))

    pub distance_in-shape : exchange_distance t x y ≡ distance_in (shape t g) x y two
    unfolding exchange_distance distance_in
    distance_in-shape = rw (cases_in-shape B, cases_in-shape C, cases_in-shape D)

    pub distance_moved : exchange_distance t x y ≡ moved_by (shape t g) x y
    distance_moved = distance_in-shape ∙ sym (moved_distance (shape t g) x y two)

    -- six times the distance, from the cost of the path between the two tips
    pub six_distances_path : 6 * exchange_distance t x y + path_cost (shape t g) (node_of t x) (node_of t y) ≡ whole_cost (tips t)
    unfolding shape_of
    six_distances_path = ap (λ (z : ℕ). 6 * z + path_cost (shape t g) (node_of t x) (node_of t y)) distance_in-shape
        ∙ distance_whole (shape t g) x y two

    -- no distance is larger than the number of sets of four
    pub exchange_le : exchange_distance t x y ≤ fours (tips t)
    exchange_le = omega (arith, distance_moved, moved_le (shape t g) x y two)

  pub tally_in-shape : (i : ℕ) → tally t i ≡ tally_in (shape t g) i
  unfolding tally tally_in
  tally_in-shape i = sets2_ext (tips t) _ _ (λ x y xy ly.
      ap (λ (z : ℕ). is (tally_of (tips t) z) i)
      (distance_moved x y (record { lx = omega arith; ly = ly; xy = λ e. omega arith })))

  -- 'The tallies add up to n(n − 1)/2.'
  pub tallies_add_up : sum 11 (tally t) ≡ tips t * (tips t - 1) / 2
  tallies_add_up = sum_cong 11 tally_in-shape ∙ tallies_all (shape t g)

-- ---- for every table, a tree's or not

-- an exchange has no order
pub exchange_either : (t : Table) (x y : ℕ) → exchange_distance t x y ≡ exchange_distance t y x
unfolding exchange_distance exchange_cases exchanged_topology exchanged_butterfly
exchange_either t x y = ap (distanceBy t) (fun_ext (swapped_either x y))
  where
    distanceBy : Table → (ℕ → ℕ) → ℕ
    distanceBy t s = casesBy B + casesBy C + casesBy D
      where
        test : ℕ → ℕ → ℕ → ℕ → Bool
        test a b c d = butterfly t (s a) (s b) (s c) (s d)

        casesBy : Case → ℕ
        casesBy k = sets4 (tips t) (λ a b c d. bit (is_case (case_of (topology t a b c d)
            (named (test a b c d) (test a c b d) (test a d b c) (partner a b c d) (partner a c b d) (partner a d b c))) k))

-- where every distance falls in tally 0
module _ (t : Table) (h : (x y : ℕ) → x < y → y < tips t → tally_of (tips t) (exchange_distance t x y) ≡ 0) where
  pub all_first : tally t 0 ≡ tips t * (tips t - 1) / 2
  unfolding tally
  all_first =
      sets2_ext (tips t) _ (λ x y. 1) (λ x y xy ly. ap (λ (z : ℕ). is z 0) (h x y xy ly) ∙ (unfold bit in refl))
      ∙ pairs_count (tips t)

  pub none_later : (i : ℕ) → tally t (suc i) ≡ 0
  unfolding tally
  none_later i = sets2_none (tips t) _ (λ x y xy ly.
      ap (λ (z : ℕ). is z (suc i)) (h x y xy ly) ∙ is_other_lem 0 (suc i) (λ e. omega arith))

-- 'With fewer than four tips all fall in tally 0.'
pub few_tips-first : (t : Table) → tips t < 4 → tally t 0 ≡ tips t * (tips t - 1) / 2
few_tips-first t l = all_first t (λ x y xy ly. tally_few (tips t) (exchange_distance t x y) l)

pub few_tips_later : (t : Table) (i : ℕ) → tips t < 4 → tally t (suc i) ≡ 0
few_tips_later t i l = none_later t (λ x y xy ly. tally_few (tips t) (exchange_distance t x y) l) i
