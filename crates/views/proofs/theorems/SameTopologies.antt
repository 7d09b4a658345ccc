-- Two tree tables, whose n may differ, with the same topologies of each set of four of some labels: they have the same splits
-- among these labels, the same topologies in any order, and the same figures.
-- Assumes nothing.
use Rattle.std.specs.Prelude.{◌≡◌, ℕ}
use Rattle.std.proofs.Common.{sym, ◌∙◌, arith}
use Rattle.std.proofs.Math.Path.{ap, ap₂}
use Rattle.sums.specs.Bits.{bit}
use Rattle.sums.specs.theorems.SetLaws.{sets4_ext}
use Rattle.shapes.specs.theorems.FourLabels.{Four}
use Rattle.shapes.proofs.theorems.SameSplits.{same_splits-refl}
use Rattle.trees.specs.declared.quartet.Topology.{Topology}
use Rattle.tree_check.specs.Table.{Table, tips}
use Rattle.tree_check.specs.IsTree.{IsTree}
use Rattle.counting.specs.Labels.{Labels}
use Rattle.counting.specs.theorems.LabelLaws.{Rising}
use Rattle.counting.proofs.theorems.QuartetTheorem.{zero_rule_of_tables}
use Rattle.counting.proofs.theorems.TipLabels.{same_topologies}
use Rattle.counting.specs.declared.Case.{Case}
use Rattle.counting.specs.declared.Case.TheVariants.{B, C, D}
use Rattle.counting.specs.Cases.{case_of, is_case, topology_at, quartets}
use Rattle.counting.specs.SplitCounts.{common_splits, robinson_foulds, HaveSameSplits}
use Rattle.counting.proofs.theorems.TreeSplits.{common_from_either, same_splits_as_many, same_splits_in_common}
use Rattle.views.specs.theorems.SameTopologies.{SameSeen, SameSets}

module _ (l : Labels) (t t' : Table) (g : IsTree t) (g' : IsTree t') (r : Rising (tips t) l) (r' : Rising (tips t') l)
    (same : SameSets l t t') where
  as_itself : (k : Case) → quartets l t t' k ≡ quartets l t t k
  unfolding quartets
  as_itself k = sets4_ext l.number _ _ (λ w x y z wx xy yz m.
      ap (λ (p : Topology). bit (is_case (case_of (topology_at l t w x y z) p) k)) (sym (same w x y z wx xy yz m)))

  pub same_splits_among : HaveSameSplits l t t'
  same_splits_among = (zero_rule_of_tables l t t' g g' r r').0 (omega (
    arith,
    as_itself B,
    as_itself C,
    as_itself D,
    (zero_rule_of_tables l t t g g r r).1 (same_splits-refl _ _ _),
  ))

  pub same_in_any_order : (a b c d : ℕ) → Four l.number a b c d → topology_at l t a b c d ≡ topology_at l t' a b c d
  same_in_any_order = same_topologies l t t' g g' r r' same_splits_among

module _ (l : Labels) (t u t' u' : Table) (g : IsTree t) (h : IsTree u) (g' : IsTree t') (h' : IsTree u')
    (rt : Rising (tips t) l) (ru : Rising (tips u) l) (rt' : Rising (tips t') l) (ru' : Rising (tips u') l)
    (st : SameSets l t t') (su : SameSets l u u') where
  same_common : common_splits l t u ≡ common_splits l t' u'
  same_common =
      same_splits_in_common l t u u' (same_splits_among l u u' h h' ru ru' su)
      ∙ common_from_either l t u'
      ∙ same_splits_in_common l u' t t' (same_splits_among l t t' g g' rt rt' st)
      ∙ common_from_either l u' t'

  pub same_seen : SameSeen l t u t' u'
  same_seen =
      let a = same_splits_as_many l t t' (same_splits_among l t t' g g' rt rt' st) in
      let b = same_splits_as_many l u u' (same_splits_among l u u' h h' ru ru' su) in
      record {
        counts = λ k. unfold quartets in sets4_ext l.number _ _ (λ w x y z wx xy yz m.
            ap₂ (λ (p q : Topology). bit (is_case (case_of p q) k)) (st w x y z wx xy yz m) (su w x y z wx xy yz m));
        first_splits = a;
        second_splits = b;
        common = same_common;
        robinson_foulds_same = unfold robinson_foulds in rw (a, b, same_common);
      }
