-- The quartet table of a pair call has all of demand 3.
-- Assumes nothing.
use Rattle.std.specs.Prelude.{◌≡◌, ◌≢◌, List}
use Rattle.std.proofs.Math.Path.{refl}
use Rattle.std.proofs.Common.{sym, ◌∙◌, arith}
use Prim.Native.Nat.{ℕ, zero, suc, ◌*◌, ◌%◌}
use Rattle.tree_check.specs.Table.{Table, tips}
use Rattle.tree_check.specs.Refusals.{refusal, if_accepted}
use Rattle.tree_check.specs.theorems.RefusalLaws.{if_accepted_lem, if_refused}
use Rattle.counting.specs.Labels.{Labels}
use Rattle.counting.specs.Kept.{kept}
use Rattle.counting.proofs.theorems.KeptLaws.{kept-rising}
use Rattle.counting.specs.declared.Case.TheVariants.{A, B, C, D, E}
use Rattle.counting.specs.theorems.QuartetTheorem.{QuartetTheorem}
use Rattle.counting.proofs.theorems.QuartetTheorem.{quartet_theorem}
use Rattle.pair_check.specs.PairOrder.{MarkedPair, pair_order}
use Rattle.pair_check.specs.theorems.PairCheck.{pair_check}
use Rattle.quartets.specs.QuartetAnswer.{cases_over, refused_table, quartet_answer, CountedRight, DemandThree}

module _ (t u : Table) (marks : List ℕ) (cells : ℕ) where
  -- the kept labels
  abbrev l : Labels
  l = kept marks (tips t)

  pub accepted : MarkedPair t u marks cells → quartet_answer t u marks cells ≡ cases_over l t u
  unfolding quartet_answer
  accepted p = if_accepted_lem _ _ _ ((pair_check t u marks cells).1 p)

  pub refused : refusal (pair_order t u marks cells) ≢ 0
      → quartet_answer t u marks cells ≡ refused_table (refusal (pair_order t u marks cells))
  unfolding quartet_answer
  refused d = if_refused _ _ _ d

  pub theorem : MarkedPair t u marks cells → QuartetTheorem l t u
  theorem p =
      let q = p.with_cells.pair in
      quartet_theorem l t u q.first q.second q.same_tips (kept-rising marks (tips t))

  own_number : (k : ℕ) → (if_accepted k (cases_over l t u) (refused_table k)).refusal ≡ k
  unfolding if_accepted
  own_number zero = refl
  own_number (suc k) = refl

  multiple : (x y : ℕ) → 24 * x ≡ y → y % 24 ≡ 0
  multiple x y e = omega arith

  counted_right : MarkedPair t u marks cells → CountedRight l t u (cases_over l t u)
  counted_right p = let h = theorem p in record {
    formulas = (sym h.A_counts, sym h.B_counts, sym h.C_counts, sym h.D_counts, sym h.E_counts);
    counts = (refl, refl, refl, refl, refl);
    exact = (h.S_even, h.S'_even, h.S2_even, h.S3_fourfold, multiple _ _ h.all_exact);
    fits = (
      h.S_most,
      h.S'_most,
      h.S2_most,
      h.S3_most,
      h.count_most A,
      h.count_most B,
      h.count_most C,
      h.count_most D,
      h.count_most E,
      omega (arith, h.C_fits, h.A_counts, h.B_counts),
      omega (arith, h.D_fits, h.A_counts, h.B_counts),
      omega (arith, h.E_fits, h.A_counts, h.B_counts, h.C_counts, h.D_counts),
    );
    total = omega (arith, h.total, h.A_counts, h.B_counts, h.C_counts, h.D_counts, h.E_counts);
    distance = refl;
    zero_distance = (
      λ z. h.distance_zero.0 (h.distance_counts ∙ z),
      λ s. sym h.distance_counts ∙ h.distance_zero.1 s,
    );
  }

  pub demand_three : DemandThree t u marks cells (quartet_answer t u marks cells)
  unfolding quartet_answer
  demand_three =
      let own = own_number (refusal (pair_order t u marks cells)) in
      let check = pair_check t u marks cells in
      record {
        number = own;
        accepted = (λ z. check.0 (sym own ∙ z), λ p. own ∙ check.1 p);
        refused = λ n. rw (refused (λ z. n (own ∙ z))) (refl, refl, refl, refl, refl, refl);
        counted = λ p. rw (accepted p) (counted_right p);
      }
