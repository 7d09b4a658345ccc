-- The quartet theorem: what the five formulas give, for two tree tables on the same tips and any labels of theirs.
-- Assumes nothing.
use Rattle.std.specs.Prelude.{◌≡◌, ◌↔◌, ◌+◌, ◌≤◌}
use Rattle.std.proofs.Common.{sym, ◌∙◌, arith}
use Rattle.table_words.specs.Sizes.{tips_most}
use Rattle.sums.specs.Fours.{fours}
use Rattle.sums.specs.theorems.FoursLaws.{fours_exact, fours_of_256, fours_mono}
use Rattle.shapes.proofs.theorems.ZeroRule.{zero_rule}
use Rattle.tree_check.specs.Table.{Table, tips, beyond}
use Rattle.tree_check.specs.IsTree.{IsTree}
use Rattle.counting.specs.Labels.{Labels}
use Rattle.counting.specs.theorems.LabelLaws.{Rising}
use Rattle.counting.proofs.theorems.LabelLaws.{rising_of, number-le}
use Rattle.counting.specs.ClaimSums.{S, S2, S3}
use Rattle.counting.specs.declared.Case.{Case}
use Rattle.counting.specs.declared.Case.TheVariants.{A, B, C, D, E}
use Rattle.counting.specs.Cases.{quartets, distance}
use Rattle.counting.specs.theorems.FiveFormulas.{FormulasCount}
use Rattle.counting.proofs.theorems.FiveFormulas.{formulas-count}
use Rattle.counting.specs.SplitCounts.{beyond_at, HaveSameSplits}
use Rattle.counting.proofs.theorems.TreeShape.{shape_of}
use Rattle.counting.proofs.theorems.CasesInShapes.{quartets_in_shapes}
use Rattle.counting.specs.theorems.CountingTheorem.{ClaimCounts}
use Rattle.counting.proofs.theorems.CountingTheorem.{claim_counts}
use Rattle.counting.specs.theorems.QuartetTheorem.{QuartetTheorem, formula_distance, table_distance}

-- ---- the formulas give the counts

-- of the sums of two tables
abbrev FormulasOf : Labels → Table → Table → Type 0
FormulasOf l t u = FormulasCount l.number (S l t) (S l u) (S2 l t u) (S3 l t u)
    (quartets l t u A) (quartets l t u B) (quartets l t u C) (quartets l t u D) (quartets l t u E)

-- ---- the zero rule over tables

-- labels of both, whose n may differ
pub zero_rule_of_tables : (l : Labels) (t u : Table) → IsTree t → IsTree u → Rising (tips t) l → Rising (tips u) l
    → (distance l t u ≡ 0) ↔ HaveSameSplits l t u
unfolding shape_of beyond beyond_at
zero_rule_of_tables l t u g h r s =
    let q = quartets_in_shapes l t u g h r s in
    rw (q B, q C, q D) (zero_rule (shape_of t g l r) (shape_of u h l s))

pub quartet_theorem : (l : Labels) (t u : Table) → IsTree t → IsTree u → tips t ≡ tips u → Rising (tips t) l → QuartetTheorem l t u
quartet_theorem l t u g h e r = record {
  A_counts = f.A_counts;
  B_counts = f.B_counts;
  C_counts = f.C_counts;
  D_counts = f.D_counts;
  E_counts = f.E_counts;
  S_even = omega (arith, c.first);
  S'_even = omega (arith, c.second);
  S2_even = omega (arith, c.same);
  S3_fourfold = omega (arith, c.different);
  all_exact = fours_exact l.number;
  C_fits = omega (arith, f.A_counts, f.B_counts, c.first);
  D_fits = omega (arith, f.A_counts, f.B_counts, c.second);
  E_fits = omega (arith, f.A_counts, f.B_counts, f.C_counts, f.D_counts, f.all);
  S_most = omega (arith, c.first, f.all, most);
  S'_most = omega (arith, c.second, f.all, most);
  S2_most = omega (arith, c.same, f.all, most);
  S3_most = omega (arith, c.different, f.all, most);
  all_most = most;
  count_most = λ k. omega (arith, in_all k, f.all, most);
  total = omega (arith, f.A_counts, f.B_counts, f.C_counts, f.D_counts, f.E_counts, f.all);
  distance_counts = counted;
  distance_zero = (
    λ z. (zero_rule_of_tables l t u g h r (rising_of (tips t) (tips u) l e r)).0 (sym counted ∙ z),
    λ s. counted ∙ (zero_rule_of_tables l t u g h r (rising_of (tips t) (tips u) l e r)).1 s,
  );
}
  where
    c : ClaimCounts l t u
    c = claim_counts l t u g h e r

    f : FormulasOf l t u
    f = formulas-count c

    most : fours l.number ≤ 174792640
    most =
        let few = g.tips_range in
        omega (arith, fours_mono l.number tips_most (omega (arith, number-le (tips t) l r)), fours_of_256)

    in_all : (k : Case) → quartets l t u k
        ≤ quartets l t u A + quartets l t u B + quartets l t u C + quartets l t u D + quartets l t u E
    in_all A = omega arith
    in_all B = omega arith
    in_all C = omega arith
    in_all D = omega arith
    in_all E = omega arith

    counted : table_distance l t u ≡ distance l t u
    counted = unfold formula_distance in omega (arith, f.B_counts, f.C_counts, f.D_counts)
