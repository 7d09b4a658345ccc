-- The five formulas, as the code forms them, give the quartet table of a pair.
-- Assumes nothing.
use Rattle.std.specs.Prelude.{◌≡◌, ◌≢◌, List, ℕ, ◌+◌, ◌-◌, ◌/◌, ◌≤◌}
use Rattle.std.proofs.Math.Path.{refl}
use Rattle.std.proofs.Common.{sym, ◌∙◌, subst, arith}
use Rattle.sums.specs.Fours.{fours}
use Rattle.tree_check.specs.Table.{Table, tips}
use Rattle.tree_check.specs.Refusals.{refusal}
use Rattle.tree_check.specs.theorems.RefusalLaws.{if_accepted_lem}
use Rattle.marks.specs.Marks.{kept_of}
use Rattle.marks.proofs.theorems.MarksCheck.{kept_few}
use Rattle.counting.specs.Labels.{Labels}
use Rattle.counting.specs.Kept.{kept}
use Rattle.counting.specs.ClaimSums.{S, S2, S3}
use Rattle.counting.specs.QuartetTable.{formula_a, formula_b, formula_c, formula_e}
use Rattle.counting.specs.theorems.QuartetTheorem.{formula_distance, QuartetTheorem}
use Rattle.pair_check.specs.PairOrder.{MarkedPair, pair_order}
use Rattle.pair_check.specs.theorems.PairCheck.{pair_check}
use Rattle.claims.specs.declared.totals.ClaimSums.{ClaimSums}
use Rattle.claims.specs.ClaimAnswer.{sums_over, claim_answer}
use Rattle.quartets.specs.declared.tables.QuartetTable.{QuartetTable}
use Rattle.quartets.specs.QuartetAnswer.{refused_table, quartet_answer, DemandThree}
use Rattle.quartets.proofs.theorems.DemandThree.{accepted, refused, theorem, demand_three}
use Rattle.quartets.specs.lemmas.FormedTable.{TableFits, formed}

-- ---- the five formulas, as the code forms them

-- what is left for D once A, B and C are taken off
pub rest_fits : (all n a b c d : ℕ) → all ≡ fours n → a + b + c + d ≤ fours n → d ≤ all - a - b - c
rest_fits all n a b c d e l = omega arith

pub table_formed : (n s s' s2 s3 all : ℕ) → all ≡ fours n → record {
  refusal = 0;
  a = s2 / 2;
  b = s3 / 4;
  c = s / 2 - s2 / 2 - s3 / 4;
  d = s' / 2 - s2 / 2 - s3 / 4;
  e = all - s2 / 2 - s3 / 4 - (s / 2 - s2 / 2 - s3 / 4) - (s' / 2 - s2 / 2 - s3 / 4);
  distance = s3 / 4 + (s / 2 - s2 / 2 - s3 / 4) + (s' / 2 - s2 / 2 - s3 / 4);
}
    ≡ formed n s s' s2 s3
unfolding formed formula_a formula_b formula_c formula_e formula_distance
table_formed n s s' s2 s3 all e = rw e refl

-- ---- from the claim sums

-- the claim sums of a pair
module _ (t u : Table) (marks : List ℕ) (cells : ℕ) (p : MarkedPair t u marks cells) (r : ClaimSums)
    (e : r ≡ claim_answer t u marks cells) (n : ℕ) (en : n ≡ kept_of marks (tips t)) where
  abbrev l : Labels
  l = kept marks (tips t)

  h : QuartetTheorem l t u
  h = theorem t u marks cells p

  sums_are : (r.first ≡ S l t) × (r.second ≡ S l u) × (r.same ≡ S2 l t u) × (r.different ≡ S3 l t u)
  unfolding claim_answer
  sums_are = rw (e, if_accepted_lem _ (sums_over l t u) _ ((pair_check t u marks cells).1 p)) (refl, refl, refl, refl)

  pub sums_fit : TableFits n r.first r.second r.same r.different
  sums_fit = let k = sums_are in rw (en, k.0, k.1, k.2, k.3) own
    where
      own : TableFits l.number (S l t) (S l u) (S2 l t u) (S3 l t u)
      own = unfold formula_a formula_b formula_c in record {
        tips_few = omega (arith, kept_few marks (tips t), p.with_cells.pair.first.tips_range.1);
        S_most = h.S_most;
        S'_most = h.S'_most;
        C_fits = h.C_fits;
        D_fits = h.D_fits;
        E_fits = h.E_fits;
      }

  -- the table that the formulas give is the table of counts
  pub table_counts_lem : formed n r.first r.second r.same r.different ≡ quartet_answer t u marks cells
  unfolding formed
  table_counts_lem = let k = sums_are in rw (en, k.0, k.1, k.2, k.3) counted
    where
      counted : formed l.number (S l t) (S l u) (S2 l t u) (S3 l t u) ≡ quartet_answer t u marks cells
      counted =
          rw (h.A_counts, h.B_counts, h.C_counts, h.D_counts, h.E_counts, h.distance_counts)
          (sym (accepted t u marks cells p))

-- a refused pair
pub table_refused : (t u : Table) (marks : List ℕ) (cells k : ℕ) → k ≡ refusal (pair_order t u marks cells) → k ≢ 0
    → refused_table k ≡ quartet_answer t u marks cells
table_refused t u marks cells k e d = rw e (sym (refused t u marks cells (λ z. d (e ∙ z))))

-- whatever is the answer has all of demand 3
pub answer_has : (t u : Table) (marks : List ℕ) (cells : ℕ) (r : QuartetTable) → r ≡ quartet_answer t u marks cells
    → DemandThree t u marks cells r
answer_has t u marks cells r e = subst (DemandThree t u marks cells) (sym e) (demand_three t u marks cells)
