-- What an exchange depends on: the splits alone, so that pass-through nodes change nothing. Its closed form; and large trees,
-- which no exchange moves far.
-- Assumes nothing.
use Rattle.std.specs.Prelude.{◌≡◌}
use Rattle.std.proofs.Common.{sym, ◌∙◌, arith}
use Rattle.std.proofs.Math.Path.{ap, ap₂}
use Rattle.std.proofs.Math.Logic.{Ne-symm}
use Prim.Native.Nat.{ℕ, suc, ◌+◌, ◌*◌, ◌-◌, ◌/◌, ◌≤◌, ◌<◌}
use Rattle.sums.specs.Sum.{sum}
use Rattle.sums.specs.Bits.{bit, is}
use Rattle.sums.specs.SetsOfFour.{sets2, sets4}
use Rattle.sums.specs.theorems.SumLaws.{sum_cong}
use Rattle.sums.specs.theorems.Inserted.{sets2_ext}
use Rattle.sums.specs.theorems.SetLaws.{sets4_ext}
use Rattle.shapes.specs.theorems.FourLabels.{Four}
use Rattle.shapes.proofs.theorems.FourLabels.{swapped_four}
use Rattle.trees.specs.declared.quartet.Topology.{Topology}
use Rattle.tree_check.specs.Table.{Table, tips, nodes}
use Rattle.tree_check.specs.IsTree.{IsTree}
use Rattle.trees.specs.Topology.{butterfly, topology}
use Rattle.counting.specs.Labels.{all}
use Rattle.counting.specs.declared.Case.{Case}
use Rattle.counting.specs.declared.Case.TheVariants.{B, C, D}
use Rattle.counting.specs.Cases.{case_of, is_case, topology_at}
use Rattle.counting.specs.SplitCounts.{HaveSameSplits}
use Rattle.counting.specs.theorems.PassThrough.{TakenOut}
use Rattle.counting.proofs.theorems.LabelLaws.{all-rising, all_of}
use Rattle.counting.proofs.theorems.TreeShape.{shape_of}
use Rattle.counting.proofs.theorems.TipLabels as TipLabels
use Rattle.counting.proofs.theorems.PassingThrough.{taken_out_same_splits}
use Rattle.exchanges.specs.Exchanges.{exchanged_butterfly, exchanged_topology, exchange_cases, exchange_distance}
use Rattle.exchanges.specs.Exchanges.{tally_of, tally}
use Rattle.exchanges.specs.theorems.Others.{Two}
use Rattle.exchanges.proofs.theorems.Others.{others-count}
use Rattle.exchanges.proofs.theorems.Distance.{distance_in, leaving_path, elsewhere, in_one_subtree, other_labels, taken, six_distances, leaving_elsewhere}
use Rattle.exchanges.proofs.theorems.LargeTrees.{large_tally}
use Rattle.exchanges.specs.theorems.ExchangedTables.{shape}
use Rattle.exchanges.proofs.theorems.ExchangedTables.{all_first, none_later, distance_in-shape, distance_moved}

-- ---- tables with the same splits are moved as far

module _ (t u : Table) (g : IsTree t) (h : IsTree u) (e : tips t ≡ tips u) (s : HaveSameSplits (all (tips t)) t u) where
  same_butterflies : (a b c d : ℕ) → Four (tips t) a b c d → butterfly t a b c d ≡ butterfly u a b c d
  same_butterflies =
      TipLabels.same_butterflies (all (tips t)) t u g h (all-rising (tips t)) (all_of (tips t) (tips u) (sym e)) s

  same_topologies : (a b c d : ℕ) → Four (tips t) a b c d → topology t a b c d ≡ topology u a b c d
  unfolding topology_at
  same_topologies =
      TipLabels.same_topologies (all (tips t)) t u g h (all-rising (tips t)) (all_of (tips t) (tips u) (sym e)) s

  module _ (x y : ℕ) (lx : x < tips t) (ly : y < tips t) where
    same_moved : (a b c d : ℕ) → Four (tips t) a b c d → exchanged_butterfly t x y a b c d ≡ exchanged_butterfly u x y a b c d
    unfolding exchanged_butterfly
    same_moved a b c d f = same_butterflies _ _ _ _ (swapped_four (tips t) x y a b c d lx ly f)

    same_exchanged : (a b c d : ℕ) → Four (tips t) a b c d → exchanged_topology t x y a b c d ≡ exchanged_topology u x y a b c d
    unfolding exchanged_topology
    same_exchanged a b c d f = rw (
      same_moved a b c d f,
      same_moved a c b d (search Ne-symm),
      same_moved a d b c (search Ne-symm),
    )

    same_cases : (k : Case) → exchange_cases t x y k ≡ exchange_cases u x y k
    unfolding exchange_cases
    same_cases k =
        sets4_ext (tips t) _ _ (λ a b c d ab bc cd l.
        ap₂ (λ (p q : Topology). bit (is_case (case_of p q) k))
        (same_topologies a b c d (omega arith)) (same_exchanged a b c d (omega arith)))
        ∙ ap (λ (n : ℕ). sets4 n (λ a b c d. bit (is_case (case_of (topology u a b c d) (exchanged_topology u x y a b c d)) k))) e

    pub same_splits-distance : exchange_distance t x y ≡ exchange_distance u x y
    unfolding exchange_distance
    same_splits-distance = rw (same_cases B, same_cases C, same_cases D)

  pub same_splits-tally : (i : ℕ) → tally t i ≡ tally u i
  unfolding tally
  same_splits-tally i =
      sets2_ext (tips t) _ _ (λ x y xy ly. ap₂ (λ (n d : ℕ). is (tally_of n d) i) e (same_splits-distance x y (omega arith) ly))
      ∙ ap (λ (n : ℕ). sets2 n (λ x y. is (tally_of (tips u) (exchange_distance u x y)) i)) e

-- so pass-through nodes change no tally
pub taken_out_tally : (t u : Table) → IsTree t → IsTree u → TakenOut t u → (i : ℕ) → tally t i ≡ tally u i
taken_out_tally t u g h o = same_splits-tally t u g h o.same_tips (taken_out_same_splits t u g h o)

-- ---- the closed form, and large trees

module _ (t : Table) (g : IsTree t) where
  -- 6 · distance = 2M³ + 3M² − Σ (2s³ + 3s² + 6 · H2 · (M − s)): there are M labels beside x and y; at the node v of the path
  -- between their tips s of them leave it, and H2 is the sum of the squares of the sizes of the branches there, told as the ordered
  -- pairs of labels in one branch
  pub exchange_closed_form : (x y : ℕ) → Two (tips t) x y
      → let M = tips t - 2 in
      let s = leaving_path (shape t g) x y in
      let H2 = in_one_subtree (shape t g) x y in
      6 * exchange_distance t x y
      + sum (nodes t) (λ v. 2 * (s v * (s v * s v)) + 3 * (s v * s v) + 6 * (H2 v * (M - s v)))
      ≡ 2 * (M * (M * M)) + 3 * (M * M)
  unfolding shape_of
  exchange_closed_form x y two =
      ap₂ ◌+◌ (ap (λ (d : ℕ). 6 * d) (distance_in-shape t g x y two)) (ap (λ (k : ℕ). sum k term) nodes-here)
      ∙ ap (λ (z : ℕ). 6 * distance_in (shape t g) x y two + z) (sym (sum_cong (suc (nodes t - 1)) here))
      ∙ six_distances (shape t g) x y two
      ∙ ap (λ (z : ℕ). 2 * (z * (z * z)) + 3 * (z * z)) beside
    where
      s : ℕ → ℕ
      s v = leaving_path (shape t g) x y v

      term : ℕ → ℕ
      term v = 2 * (s v * (s v * s v)) + 3 * (s v * s v) + 6 * (in_one_subtree (shape t g) x y v * (tips t - 2 - s v))

      nodes-here : nodes t ≡ suc (nodes t - 1)
      nodes-here = omega (arith, g.nodes_range, g.tips_range)

      beside : other_labels (shape t g) x y ≡ tips t - 2
      beside = omega (arith, others-count (tips t) x y two)

      here : (v : ℕ) → taken (shape t g) x y two v ≡ term v
      here v =
          let e : elsewhere (shape t g) x y v ≡ tips t - 2 - s v = omega (arith, leaving_elsewhere (shape t g) x y v, beside) in
          ap (λ (z : ℕ). 2 * (s v * (s v * s v)) + 3 * (s v * s v) + 6 * (in_one_subtree (shape t g) x y v * z)) e

  -- from 82 tips on no exchange moves a tree by a tenth of the sets of four
  pub large_distance : (x y : ℕ) → Two (tips t) x y → 82 ≤ tips t → tally_of (tips t) (exchange_distance t x y) ≡ 0
  large_distance x y two l =
      ap (tally_of (tips t)) (distance_moved t g x y two) ∙ large_tally (shape t g) x y two l

  pub large_first : 82 ≤ tips t → tally t 0 ≡ tips t * (tips t - 1) / 2
  large_first l = all_first t (λ x y xy ly. large_distance x y (record { lx = omega arith; ly = ly; xy = λ e. omega arith }) l)

  pub large_later : (i : ℕ) → 82 ≤ tips t → tally t (suc i) ≡ 0
  large_later i l = none_later t (λ x y xy ly. large_distance x y (record { lx = omega arith; ly = ly; xy = λ e. omega arith }) l) i
