-- The five formulas give the five counts, for any numbers that the counting theorem is true of, and for any two shapes.
-- Assumes nothing.
use Rattle.std.specs.Prelude.{◌≡◌, ℕ, ◌+◌}
use Rattle.std.proofs.Common.{sym, ◌∙◌, arith}
use Rattle.sums.specs.Fours.{fours}
use Rattle.sums.specs.theorems.FoursLaws.{fours-count}
use Rattle.shapes.specs.theorems.Shape.{Shape}
use Rattle.shapes.proofs.theorems.Topologies.{cases_in}
use Rattle.shapes.specs.theorems.Counting.{SumsCount}
use Rattle.shapes.proofs.theorems.Counting.{S_in, S2_in, S3_in, counted}
use Rattle.counting.specs.QuartetTable.{formula_a, formula_b, formula_c, formula_d, formula_e}
use Rattle.counting.specs.theorems.FiveFormulas.{FormulasCount}

pub formulas-count : {n s s' s2 s3 a b c d e : ℕ} → SumsCount n s s' s2 s3 a b c d e
    → FormulasCount n s s' s2 s3 a b c d e
formulas-count {n} {s} {s'} {s2} {s3} {a} {b} {c} {d} {e} h = record {
  A_counts = eA;
  B_counts = eB;
  C_counts = eC;
  D_counts = eD;
  E_counts = eE;
  all = eAll;
}
  where
    eA : formula_a s2 ≡ a
    eA = unfold formula_a in omega (arith, h.same)

    eB : formula_b s3 ≡ b
    eB = unfold formula_b in omega (arith, h.different)

    eC : formula_c s s2 s3 ≡ c
    eC = unfold formula_c in omega (arith, eA, eB, h.first)

    eD : formula_d s' s2 s3 ≡ d
    eD = unfold formula_c in omega (arith, eA, eB, h.second)

    eAll : fours n ≡ a + b + c + d + e
    eAll = sym (fours-count n) ∙ h.all

    eE : formula_e n s s' s2 s3 ≡ e
    eE = unfold formula_e in omega (arith, eA, eB, eC, eD, eAll)

-- for any two shapes on n labels, n being any number
pub formulas_in_shapes : {n : ℕ} (t u : Shape n)
    → FormulasCount n (S_in t) (S_in u) (S2_in t u) (S3_in t u)
    (cases_in t u 0) (cases_in t u 1) (cases_in t u 2) (cases_in t u 3) (cases_in t u 4)
formulas_in_shapes t u = formulas-count (counted t u)
