-- Fewer than four labels give zero figures.
-- Assumes nothing.
use Rattle.std.specs.Prelude.{◌≡◌, not, ℕ, suc, ◌+◌, ◌-◌, ◌<◌, T, leb}
use Rattle.std.proofs.Common.{arith}
use Rattle.sums.specs.Bits.{bit}
use Rattle.sums.specs.Counts.{count}
use Rattle.sums.specs.theorems.BitLaws.{bit_not}
use Rattle.sums.specs.theorems.CountLaws.{count_none}
use Rattle.sums.specs.theorems.FoursLaws.{fours_none}
use Rattle.sums.specs.theorems.SumLaws.{sum_ext, sum-add, sum_const}
use Rattle.sums.specs.theorems.TestLaws.{and-iff, le_iff}
use Rattle.shapes.specs.Splits.{Sides, is_split, occurs, is_new_split, splits_of, common_of}
use Rattle.tree_check.specs.Table.{Table, tips, nodes}
use Rattle.tree_check.specs.IsTree.{IsTree}
use Rattle.counting.specs.Labels.{Labels}
use Rattle.counting.specs.theorems.LabelLaws.{Rising}
use Rattle.counting.specs.declared.Case.{Case}
use Rattle.counting.specs.declared.Case.TheVariants.{A, B, C, D, E}
use Rattle.counting.specs.Cases.{quartets}
use Rattle.counting.specs.SplitCounts.{beyond_at, splits, common_splits, robinson_foulds}
use Rattle.counting.specs.theorems.CountingTheorem.{ClaimCounts}
use Rattle.counting.proofs.theorems.CountingTheorem.{claim_counts}
use Rattle.counting.proofs.theorems.FiveFormulas.{formulas-count}
use Rattle.counting.specs.theorems.FewLabels.{NoFigures}

-- a split has two labels on each side, so four
no_split : (n : ℕ) → n < 4 → (b : Sides) (i : ℕ) → T (is_split n b i) → ⊥
unfolding is_split
no_split n few b i y =
    let s = (and-iff (leb 2 (count n (b i))) (leb 2 (count n (λ x. not (b i x))))).0 y in
    omega (
      arith,
      (le_iff 2 (count n (b i))).0 s.0,
      (le_iff 2 (count n (λ x. not (b i x)))).0 s.1,
      sum-add n (λ x. bit (b i x)) (λ x. bit (not (b i x))),
      sum_ext n (λ x. bit (b i x) + bit (not (b i x))) (λ x. 1) (λ x l. bit_not (b i x)),
      sum_const n 1,
    )

no_new_split : (n : ℕ) → n < 4 → (b : Sides) (i : ℕ) → T (is_new_split n b i) → ⊥
unfolding is_new_split
no_new_split n few b i y =
    no_split n few b (suc i) ((and-iff (is_split n b (suc i)) (not (occurs n b i b (suc i)))).0 y).0

pub few_labels : (l : Labels) (t u : Table) → IsTree t → IsTree u → tips t ≡ tips u → Rising (tips t) l → l.number < 4
    → NoFigures l t u
few_labels l t u g h e r few = record {
  sums = (
    omega (arith, c.first, zeros),
    omega (arith, c.second, zeros),
    omega (arith, c.same, zeros),
    omega (arith, c.different, zeros),
  );
  counts = none;
  split_counts = (of t, of u, common, unfold robinson_foulds in omega (arith, of t, of u));
}
  where
    c : ClaimCounts l t u
    c = claim_counts l t u g h e r

    zeros : quartets l t u A + quartets l t u B + quartets l t u C + quartets l t u D + quartets l t u E ≡ 0
    zeros = omega (arith, (formulas-count c).all, fours_none l.number few)

    none : (k : Case) → quartets l t u k ≡ 0
    none A = omega (arith, zeros)
    none B = omega (arith, zeros)
    none C = omega (arith, zeros)
    none D = omega (arith, zeros)
    none E = omega (arith, zeros)

    of : (v : Table) → splits l v ≡ 0
    of v = unfold splits splits_of in
        (count_none (nodes v - 1) _).1 (λ i m. no_new_split l.number few (beyond_at l v) i)

    common : common_splits l t u ≡ 0
    common = unfold common_splits common_of in (count_none (nodes t - 1) _).1 (λ i m y.
        no_new_split l.number few (beyond_at l t) i ((and-iff (is_new_split l.number (beyond_at l t) i) _).0 y).0)
