-- The counting theorem over tables: what the claim sums say of the sets of four.
-- Assumes nothing.
use Rattle.std.specs.Prelude.{◌≡◌}
use Rattle.std.proofs.Math.Path.{refl}
use Rattle.std.proofs.Common.{sym, ◌∙◌}
use Rattle.shapes.specs.theorems.Shape.{Shape}
use Rattle.shapes.proofs.theorems.Topologies.{cases_in}
use Rattle.shapes.proofs.theorems.Counting.{S_in, S2_in, S3_in, Counted, counted}
use Rattle.tree_check.specs.Table.{Table, tips}
use Rattle.tree_check.specs.IsTree.{IsTree}
use Rattle.counting.specs.Labels.{Labels}
use Rattle.counting.specs.theorems.LabelLaws.{Rising}
use Rattle.counting.proofs.theorems.LabelLaws.{rising_of}
use Rattle.counting.specs.ClaimSums.{codes, behind_edge, size, crossing, S, S2, S3}
use Rattle.counting.specs.declared.Case.{Case}
use Rattle.counting.specs.declared.Case.TheVariants.{A, B, C, D, E}
use Rattle.counting.specs.Cases.{case_number, quartets}
use Rattle.counting.proofs.theorems.TreeShape.{shape_of}
use Rattle.counting.proofs.theorems.CasesInShapes.{quartets_in_shapes}
use Rattle.counting.specs.theorems.CountingTheorem.{ClaimCounts}

claim_sum_in : (l : Labels) (t : Table) (g : IsTree t) (r : Rising (tips t) l) → S l t ≡ S_in (shape_of t g l r)
unfolding S size behind_edge codes S_in shape_of
claim_sum_in l t g r = refl

pub claim_counts : (l : Labels) (t u : Table) → IsTree t → IsTree u → tips t ≡ tips u → Rising (tips t) l → ClaimCounts l t u
claim_counts l t u g h e r = record {
  first = claim_sum_in l t g r ∙ c.first ∙ sym (rw (q A, q B, q C));
  second = claim_sum_in l u h s ∙ c.second ∙ sym (rw (q A, q B, q D));
  same = S2-in-shapes ∙ c.same ∙ sym (rw (q A));
  different = S3-in-shapes ∙ c.different ∙ sym (rw (q B));
  all = c.all ∙ sym (rw (q A, q B, q C, q D, q E));
}
  where
    s : Rising (tips u) l
    s = rising_of (tips t) (tips u) l e r

    t' : Shape l.number
    t' = shape_of t g l r

    u' : Shape l.number
    u' = shape_of u h l s

    c : Counted t' u'
    c = counted t' u'

    q : (k : Case) → quartets l t u k ≡ cases_in t' u' (case_number k)
    q k = quartets_in_shapes l t u g h r s k

    S2-in-shapes : S2 l t u ≡ S2_in t' u'
    S2-in-shapes = unfold S2 codes crossing behind_edge S2_in shape_of in refl

    S3-in-shapes : S3 l t u ≡ S3_in t' u'
    S3-in-shapes = unfold S3 codes crossing behind_edge S3_in shape_of in refl
