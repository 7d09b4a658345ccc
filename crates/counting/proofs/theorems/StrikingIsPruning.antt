-- Striking is pruning: the figures of two trees under marks are those of the two trees cut down to the kept labels.
-- Assumes nothing.
use Rattle.std.specs.Prelude.{◌≡◌, refl, List, ℕ, ◌*◌, ◌-◌, eqb}
use Rattle.std.proofs.Math.Path.{sym, ap₂}
use Rattle.std.proofs.Common.{◌∙◌, arith}
use Rattle.std.proofs.Math.Logic.{Ne-symm}
use Rattle.sums.specs.Bits.{bit}
use Rattle.sums.specs.SetsOfFour.{sets4}
use Rattle.sums.specs.theorems.SetLaws.{sets4_ext}
use Rattle.shapes.specs.theorems.FourLabels.{Four}
use Rattle.shapes.proofs.theorems.RobinsonFoulds.{common_turned}
use Rattle.shapes.proofs.theorems.SameSplits.{same_splits_as_many, same_splits_in_common}
use Rattle.shapes.proofs.theorems.Topologies.{topology_in, case_in, cases_in}
use Rattle.trees.specs.Topology.{topology}
use Rattle.tree_check.specs.Table.{Table, tips, nodes, beyond}
use Rattle.tree_check.specs.IsTree.{IsTree}
use Rattle.marks.specs.Marks.{is_kept}
use Rattle.counting.specs.Labels.{Labels, all}
use Rattle.counting.specs.Kept.{kept}
use Rattle.counting.specs.declared.Case.{Case}
use Rattle.counting.specs.declared.Case.TheVariants.{A, B, C, D}
use Rattle.counting.specs.Cases.{case_of, case_number, is_case, topology_at, quartets}
use Rattle.counting.specs.SplitCounts.{beyond_at, splits, common_splits, robinson_foulds}
use Rattle.counting.specs.theorems.LabelLaws.{Rising}
use Rattle.counting.proofs.theorems.LabelLaws.{rising_of}
use Rattle.counting.proofs.theorems.KeptLaws.{kept-rising, sets4-kept}
use Rattle.counting.proofs.theorems.CasesInShapes.{quartets_in_shapes}
use Rattle.counting.specs.theorems.CountingTheorem.{ClaimCounts}
use Rattle.counting.proofs.theorems.CountingTheorem.{claim_counts}
use Rattle.counting.specs.theorems.CutDown.{CutDown}
use Rattle.counting.proofs.theorems.CutDown.{whole_shape, cut_shape, cut_rising, same_fours}
use Rattle.counting.specs.theorems.StrikingIsPruning.{FiguresOfCut}

module _ (l : Labels) (t u c d : Table) (g : IsTree t) (h : IsTree u) (e : tips t ≡ tips u) (r : Rising (tips t) l)
    (p : CutDown l t c) (q : CutDown l u d) where
  r' : Rising (tips u) l
  r' = rising_of (tips t) (tips u) l e r

  topologies_in : (t c : Table) (g : IsTree t) (r : Rising (tips t) l) (p : CutDown l t c)
      (w x y z : ℕ) → Four l.number w x y z
      → topology_in (whole_shape l t c g r p) w x y z ≡ topology_in (cut_shape l t c g r p) w x y z
  unfolding topology_in
  topologies_in t c g r p w x y z f = rw (
    same_fours l t c g r p w x y z f,
    same_fours l t c g r p w y x z (search Ne-symm),
    same_fours l t c g r p w z x y (search Ne-symm),
  )

  same_cases : (k : Case) → quartets l t u k ≡ quartets (all l.number) c d k
  unfolding cases_in
  same_cases k =
      quartets_in_shapes l t u g h r r' k
      ∙ sets4_ext l.number _ _ (λ w x y z wx xy yz m.
      ap₂ (λ (a b : ℕ). bit (eqb (case_in a b) (case_number k)))
      (topologies_in t c g r p w x y z (omega arith)) (topologies_in u d h r' q w x y z (omega arith)))
      ∙ sym (quartets_in_shapes (all l.number) c d p.tree q.tree
      (cut_rising l t c g r p) (cut_rising l u d h r' q) k)

  as_many : (t c : Table) → CutDown l t c → splits l t ≡ splits (all l.number) c
  unfolding splits beyond_at
  as_many t c p = same_splits_as_many l.number (nodes t - 1) (beyond_at l t) (nodes c - 1) (beyond c) p.splits

  same_common : common_splits l t u ≡ common_splits (all l.number) c d
  unfolding common_splits beyond_at
  same_common =
      same_splits_in_common l.number (nodes t - 1) (beyond_at l t) (nodes u - 1) (beyond_at l u) (nodes d - 1) (beyond d) q.splits
      ∙ common_turned l.number (nodes t - 1) (beyond_at l t) (nodes d - 1) (beyond d)
      ∙ same_splits_in_common l.number (nodes d - 1) (beyond d) (nodes t - 1) (beyond_at l t) (nodes c - 1) (beyond c) p.splits
      ∙ common_turned l.number (nodes d - 1) (beyond d) (nodes c - 1) (beyond c)

  pub cut_figures : FiguresOfCut l t u c d
  cut_figures = record {
    first = omega (arith, m.first, m'.first, a, b, same_cases C);
    second = omega (arith, m.second, m'.second, a, b, same_cases D);
    same = omega (arith, m.same, m'.same, a);
    different = omega (arith, m.different, m'.different, b);
    counts = same_cases;
    first_splits = as_many t c p;
    second_splits = as_many u d q;
    common = same_common;
    robinson_foulds_same = unfold robinson_foulds in rw (as_many t c p, as_many u d q, same_common) refl;
  }
    where
      m : ClaimCounts l t u
      m = claim_counts l t u g h e r

      m' : ClaimCounts (all l.number) c d
      m' = claim_counts (all l.number) c d p.tree q.tree
          (p.labels ∙ sym q.labels) (cut_rising l t c g r p)

      a : quartets l t u A ≡ quartets (all l.number) c d A
      a = same_cases A

      b : quartets l t u B ≡ quartets (all l.number) c d B
      b = same_cases B

-- t' and u' are t and u cut down to the labels that the marks keep
pub striking_is_pruning : (marks : List ℕ) (t u t' u' : Table) → IsTree t → IsTree u → tips t ≡ tips u
    → CutDown (kept marks (tips t)) t t' → CutDown (kept marks (tips t)) u u'
    → FiguresOfCut (kept marks (tips t)) t u t' u'
striking_is_pruning marks t u t' u' g h e = cut_figures (kept marks (tips t)) t u t' u' g h e (kept-rising marks (tips t))

-- the cases count sets of four labels that are all kept, by the topologies of those labels
pub kept_cases : (marks : List ℕ) (n : ℕ) (t u : Table) (c : Case)
    → quartets (kept marks n) t u c
    ≡ sets4 n (λ w x y z. bit (is_kept marks z) * (bit (is_kept marks y) * (bit (is_kept marks x) * (bit (is_kept marks w)
    * bit (is_case (case_of (topology t w x y z) (topology u w x y z)) c)))))
unfolding quartets topology_at
kept_cases marks n t u c =
    sets4-kept (is_kept marks) n (λ w x y z. bit (is_case (case_of (topology t w x y z) (topology u w x y z)) c))
