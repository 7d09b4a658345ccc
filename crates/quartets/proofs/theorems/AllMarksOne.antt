-- With all marks 1 the calls on a pair answer the figures of all labels, and the reference pairs as printed
-- (docs/SPECIFICATION.md, 'Kept labels', 'The figures K1 to K9').
-- Assumes nothing.
use Rattle.std.specs.Prelude.{◌≡◌, ℕ, ◌≤◌, length}
use Rattle.std.proofs.Math.Path.{refl, ap₂}
use Rattle.std.proofs.Common.{◌∙◌, ap, arith}
use mathlib.Core.List.{List, [], ◌∷◌, map}
use Rattle.sums.specs.Sum.{sum}
use Rattle.sums.specs.Bits.{bit}
use Rattle.sums.specs.Tests.{some, every}
use Rattle.tree_check.specs.Table.{Table, tips, nodes, parents, labels, parent, label}
use Rattle.tree_check.specs.Refusals.{refusal, if_accepted}
use Rattle.tree_check.specs.TreeOrder.{tips_fit, nodes_fit, parent_fits, label_fits, standing, labels_fit, labels_once}
use Rattle.tree_check.specs.TreeOrder.{is_child, children, misplaced, arrays_order, tree_order}
use Rattle.tree_check.specs.theorems.RefusalLaws.{if_accepted_lem}
use Rattle.walks.specs.theorems.WalkExamples.{P, Q, R, W, TwoTips, ThreeTips}
use Rattle.marks.proofs.theorems.Ones.{ones, ones-marks, ones_keep}
use Rattle.counting.specs.Labels.{all}
use Rattle.counting.specs.Kept.{kept}
use Rattle.counting.specs.declared.Case.TheVariants.{A, B, C, D, E}
use Rattle.counting.specs.theorems.AllKept.{Alike}
use Rattle.counting.proofs.theorems.AllKept.{all_alike, figures-alike}
use Rattle.counting.specs.theorems.ReferencePairs.{figures_over, figures}
use Rattle.counting.proofs.theorems.ReferencePairs.{reference_pairs}
use Rattle.pair_check.specs.PairOrder.{plus, tips_order, tables_order, cells_needed, PairWithCells, MarkedPair}
use Rattle.pair_check.specs.theorems.PairCheck.{tables_check, cells_check, pair_check, order_kept}
use Rattle.tree_pairs.specs.Crossings.{after_crossings, after_all}
use Rattle.tree_pairs.proofs.lemmas.AllLabels.{crossed-alike}
use Rattle.splits.specs.SplitAnswer.{split_answer}
use Rattle.triplets.specs.TripletAnswer.{triplets_of_pair, triplet_answer}
use Rattle.claims.specs.ClaimAnswer.{claim_answer}
use Rattle.quartets.proofs.theorems.DemandThree.{accepted}
use Rattle.quartets.specs.theorems.AllMarksOne.{AllMarksOne, answers}

pub ones-alike : (n : ℕ) → Alike (kept (ones n) n) (all n)
ones-alike n = all_alike (ones n) n (λ x l. unfold bit in rw (ones_keep n x l) refl)

module _ (t u : Table) where
  -- the cells of any two tables
  pub ones_cross_all : (work : List ℕ) → after_crossings t u (ones (tips t)) work ≡ after_all t u work
  unfolding after_crossings after_all
  ones_cross_all work =
      ap₂ (λ (k : ℕ) (new : List ℕ). if_accepted k new work)
      (order_kept t u (ones (tips t)) (length work) (ones-marks (tips t)))
      (crossed-alike (kept (ones (tips t)) (tips t)) (all (tips t)) (ones-alike (tips t)) t u work)

  -- a pair that is accepted without marks is accepted with marks of 1
  pub ones_marked : (cells : ℕ) → PairWithCells t u cells → MarkedPair t u (ones (tips t)) cells
  ones_marked cells p = record { with_cells = p; marked = ones-marks (tips t) }

  pub all-marks-one : (cells : ℕ) → PairWithCells t u cells → AllMarksOne t u cells
  unfolding claim_answer split_answer
  all-marks-one cells p =
      let m = ones_marked cells p in
      let z = (pair_check t u (ones (tips t)) cells).1 m in
      let f = figures-alike (kept (ones (tips t)) (tips t)) (all (tips t)) (ones-alike (tips t)) t u in
      record {
        crossings = ones_cross_all;
        claims = if_accepted_lem _ _ _ z ∙ rw (f.first, f.second, f.same, f.different) refl;
        cases = accepted t u (ones (tips t)) cells m
            ∙ rw (f.counts A, f.counts B, f.counts C, f.counts D, f.counts E) refl;
        splits = if_accepted_lem _ _ _ z ∙ rw (f.first_splits, f.second_splits, f.common, f.robinson_foulds_same) refl;
      }

-- ---- the reference pairs

-- no call refuses, and they answer the line of the reference table
pub answered : (t u : Table) (cells : ℕ) → PairWithCells t u cells → answers t u cells ≡ 0 ∷ 0 ∷ 0 ∷ 0 ∷ figures t u
unfolding answers figures figures_over triplet_answer
answered t u cells p =
    let o = all-marks-one t u cells p in
    rw (o.claims, o.cases, o.splits, if_accepted_lem _ (triplets_of_pair t u) _ ((cells_check t u cells).1 p)) refl

-- K1 to K9, with 49 cells or more: P has 7 edges, and no other table has more
module _ (cells : ℕ) (enough : 49 ≤ cells) where
  line : (t u : Table) → refusal (tables_order t u) ≡ 0 → cells_needed t u ≤ cells
      → answers t u cells ≡ 0 ∷ 0 ∷ 0 ∷ 0 ∷ figures t u
  line t u z l = answered t u cells (record { pair = (tables_check t u).0 z; room = l })

  pub reference_answers :
      answers P Q cells ∷ answers P R cells ∷ answers Q R cells ∷ answers P P cells ∷ answers W W cells
      ∷ answers P W cells ∷ answers W P cells ∷ answers TwoTips TwoTips cells ∷ answers ThreeTips ThreeTips cells ∷ []
      ≡ (0 ∷ 0 ∷ 0 ∷ 0 ∷ 10 ∷ 6 ∷ 6 ∷ 0 ∷ 3 ∷ 0 ∷ 2 ∷ 0 ∷ 0 ∷ 2 ∷ 2 ∷ 1 ∷ 1 ∷ 1 ∷ 3 ∷ 0 ∷ 1 ∷ 0 ∷ 0 ∷ [])
      ∷ (0 ∷ 0 ∷ 0 ∷ 0 ∷ 10 ∷ 10 ∷ 6 ∷ 8 ∷ 3 ∷ 2 ∷ 0 ∷ 0 ∷ 0 ∷ 2 ∷ 2 ∷ 2 ∷ 1 ∷ 2 ∷ 2 ∷ 2 ∷ 0 ∷ 0 ∷ 0 ∷ [])
      ∷ (0 ∷ 0 ∷ 0 ∷ 0 ∷ 6 ∷ 10 ∷ 2 ∷ 8 ∷ 1 ∷ 2 ∷ 0 ∷ 2 ∷ 0 ∷ 4 ∷ 1 ∷ 2 ∷ 0 ∷ 3 ∷ 1 ∷ 2 ∷ 0 ∷ 1 ∷ 0 ∷ [])
      ∷ (0 ∷ 0 ∷ 0 ∷ 0 ∷ 10 ∷ 10 ∷ 10 ∷ 0 ∷ 5 ∷ 0 ∷ 0 ∷ 0 ∷ 0 ∷ 0 ∷ 2 ∷ 2 ∷ 2 ∷ 0 ∷ 4 ∷ 0 ∷ 0 ∷ 0 ∷ 0 ∷ [])
      ∷ (0 ∷ 0 ∷ 0 ∷ 0 ∷ 0 ∷ 0 ∷ 0 ∷ 0 ∷ 0 ∷ 0 ∷ 0 ∷ 0 ∷ 5 ∷ 0 ∷ 0 ∷ 0 ∷ 0 ∷ 0 ∷ 0 ∷ 0 ∷ 0 ∷ 0 ∷ 4 ∷ [])
      ∷ (0 ∷ 0 ∷ 0 ∷ 0 ∷ 10 ∷ 0 ∷ 0 ∷ 0 ∷ 0 ∷ 0 ∷ 5 ∷ 0 ∷ 0 ∷ 5 ∷ 2 ∷ 0 ∷ 0 ∷ 2 ∷ 0 ∷ 0 ∷ 4 ∷ 0 ∷ 0 ∷ [])
      ∷ (0 ∷ 0 ∷ 0 ∷ 0 ∷ 0 ∷ 10 ∷ 0 ∷ 0 ∷ 0 ∷ 0 ∷ 0 ∷ 5 ∷ 0 ∷ 5 ∷ 0 ∷ 2 ∷ 0 ∷ 2 ∷ 0 ∷ 0 ∷ 0 ∷ 4 ∷ 0 ∷ [])
      ∷ (0 ∷ 0 ∷ 0 ∷ 0 ∷ 0 ∷ 0 ∷ 0 ∷ 0 ∷ 0 ∷ 0 ∷ 0 ∷ 0 ∷ 0 ∷ 0 ∷ 0 ∷ 0 ∷ 0 ∷ 0 ∷ 0 ∷ 0 ∷ 0 ∷ 0 ∷ 0 ∷ [])
      ∷ (0 ∷ 0 ∷ 0 ∷ 0 ∷ 0 ∷ 0 ∷ 0 ∷ 0 ∷ 0 ∷ 0 ∷ 0 ∷ 0 ∷ 0 ∷ 0 ∷ 0 ∷ 0 ∷ 0 ∷ 0 ∷ 0 ∷ 0 ∷ 0 ∷ 0 ∷ 0 ∷ []) ∷ []
  unfolding
      refusal tables_order tips_order plus tree_order arrays_order tips_fit nodes_fit parent_fits label_fits standing labels_fit labels_once
      is_child children misplaced sum bit some every tips nodes parents labels parent label
  reference_answers =
      rw (
        line P Q refl (omega arith),
        line P R refl (omega arith),
        line Q R refl (omega arith),
        line P P refl (omega arith),
        line W W refl (omega arith),
        line P W refl (omega arith),
        line W P refl (omega arith),
        line TwoTips TwoTips refl (omega arith),
        line ThreeTips ThreeTips refl (omega arith),
      )
      (ap (map (λ (l : List ℕ). 0 ∷ 0 ∷ 0 ∷ 0 ∷ l)) reference_pairs)
