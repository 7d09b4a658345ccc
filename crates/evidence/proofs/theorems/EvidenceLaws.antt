-- The evidence for one set of four: what is accepted, the case that the quartet table counts, and that the order of the labels
-- plays no part. What each tree's witness shows is in trees, theorems/WitnessLaws.
-- Assumes nothing.
use Rattle.std.specs.Prelude.{◌≡◌, refl, ◌↔◌, ℕ}
use Rattle.std.proofs.Math.Path.{sym, ap}
use Rattle.std.proofs.Common.{◌∙◌, arith}
use mathlib.Core.List.{List, [], ◌∷◌, ◌++◌}
use Rattle.std.proofs.Math.Decide.{ℕ_discrete}
use Rattle.shapes.specs.theorems.FourLabels.{Four}
use Rattle.tree_check.specs.Table.{Table, tips}
use Rattle.tree_check.specs.Refusals.{Rule, refusal, if_accepted}
use Rattle.tree_check.specs.theorems.RefusalLaws.{accepted, kept_append, numbered_append, if_accepted_lem, if_refused}
use Rattle.asked_labels.specs.LabelOrder.{asked_order}
use Rattle.trees.specs.Topology.{topology}
use Rattle.asked_labels.specs.theorems.LabelOrderLaws.{AllBelow, Different, below_iff, different_iff}
use Rattle.trees.specs.theorems.AskedFour.{asked_any_order}
use Rattle.trees.specs.theorems.TopologyLaws.{Rearranged, any_order}
use Rattle.trees.specs.theorems.WitnessLaws.{witness_any_order}
use Rattle.counting.specs.declared.Case.{Case}
use Rattle.counting.specs.Cases.{case_of, is_case}
use Rattle.pair_check.specs.PairOrder.{tables_order, IsPair}
use Rattle.pair_check.specs.theorems.PairCheck.{tables_kept, tables_numbered}
use Rattle.evidence.specs.declared.shown.EvidenceAnswer.{EvidenceAnswer}
use Rattle.evidence.specs.EvidenceAnswer.{evidence_order, evidence_of, refused_evidence, evidence_answer}

-- accepted exactly if the tables are a pair, and the labels are four different ones of its tips
pub evidence_check : (t u : Table) (xs : List ℕ) → (refusal (evidence_order t u xs) ≡ 0)
    ↔ (IsPair t u × AllBelow (tips t) xs × Different xs)
unfolding evidence_order asked_order
evidence_check t u xs =
    let a = accepted (tables_order t u ++ asked_order (tips t) xs)
    (numbered_append (tables_order t u) _ (tables_numbered t u) (omega arith, (omega arith, tt))) in
    let k = kept_append (tables_order t u) (asked_order (tips t) xs) in
    let p = tables_kept t u in
    let b = below_iff (tips t) xs in
    let d = different_iff xs in (
      λ e. let r = k.0 (a.0 e) in (p.0 r.0, b.0 r.1.0, d.0 r.1.1.0),
      λ h. a.1 (k.1 (p.1 h.0, (b.1 h.1, (d.1 h.2, tt)))),
    )

-- the case that is told is the one in which `quartets`, the number of sets of four in a case, counts the four labels
pub told_as_counted : (t u : Table) (a b c d : ℕ) (k : Case) → refusal (evidence_order t u (a ∷ b ∷ c ∷ d ∷ [])) ≡ 0
    → is_case (case_of (topology t a b c d) (topology u a b c d)) k ≡ is_case (evidence_answer t u a b c d).which k
unfolding evidence_answer
told_as_counted t u a b c d k z = rw (if_accepted_lem _ (evidence_of t u a b c d) (refused_evidence _) z) refl

-- ---- any order

module _ (t u : Table) (a b c d : ℕ) {w x y z : ℕ} (r : Rearranged a b c d w x y z) where
  same_order : evidence_order t u (w ∷ x ∷ y ∷ z ∷ []) ≡ evidence_order t u (a ∷ b ∷ c ∷ d ∷ [])
  unfolding evidence_order
  same_order = ap (λ (rs : List Rule). tables_order t u ++ rs) (asked_any_order (tips t) a b c d r)

  four_of : refusal (evidence_order t u (a ∷ b ∷ c ∷ d ∷ [])) ≡ 0 → IsPair t u × Four (tips t) a b c d
  four_of e =
      let h = (evidence_check t u (a ∷ b ∷ c ∷ d ∷ [])).0 e in
      let l = h.1 in
      let n = h.2 in (
        h.0,
        record {
          la = l 0 (omega arith);
          lb = l 1 (omega arith);
          lc = l 2 (omega arith);
          ld = l 3 (omega arith);
          ab = n 1 0 (omega arith) (omega arith);
          ac = n 2 0 (omega arith) (omega arith);
          ad = n 3 0 (omega arith) (omega arith);
          bc = n 2 1 (omega arith) (omega arith);
          bd = n 3 1 (omega arith) (omega arith);
          cd = n 3 2 (omega arith) (omega arith);
        },
      )

  same_evidence : IsPair t u → Four (tips t) a b c d → evidence_of t u w x y z ≡ evidence_of t u a b c d
  same_evidence p f = rw (
    any_order t p.first a b c d f r,
    any_order u p.second a b c d (rw p.same_tips at f) r,
    witness_any_order t a b c d r,
    witness_any_order u a b c d r,
  ) refl

  -- the order in which the four are given plays no part in any field, refused or not
  pub evidence_any_order : evidence_answer t u w x y z ≡ evidence_answer t u a b c d
  unfolding evidence_answer
  evidence_any_order =
      ap (λ (rs : List Rule). if_accepted (refusal rs) (evidence_of t u w x y z) (refused_evidence (refusal rs))) same_order
      ∙ elim (ℕ_discrete (refusal (evidence_order t u (a ∷ b ∷ c ∷ d ∷ []))) 0) [
        | yes e ↦ (let h = four_of e in
            ap (λ (x : EvidenceAnswer). if_accepted (refusal (evidence_order t u (a ∷ b ∷ c ∷ d ∷ []))) x
            (refused_evidence (refusal (evidence_order t u (a ∷ b ∷ c ∷ d ∷ []))))) (same_evidence h.0 h.1))
        | no n ↦ if_refused _ _ _ n ∙ sym (if_refused _ _ _ n)
      ]
