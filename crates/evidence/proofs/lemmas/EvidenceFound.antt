-- What `evidence` answers, as its code finds it.
-- Assumes nothing.
use Rattle.std.specs.Prelude.{◌≡◌, Bool, true, false, [], ◌∷◌, ◌≢◌, eqb}
use Rattle.std.proofs.Math.Path.{refl, sym, ap}
use Rattle.std.proofs.Common.{◌∙◌, subst, arith}
use Prim.Native.Nat.{ℕ, zero, suc, ◌<◌}
use Rattle.tree_check.specs.Table.{Table, tips}
use Rattle.tree_check.specs.Refusals.{refusal, if_accepted}
use Rattle.tree_check.specs.theorems.RefusalLaws.{if_accepted_lem, if_refused, refusal-first, refusal-kept}
use Rattle.tree_check.specs.IsTree.{IsTree}
use Rattle.walks.specs.theorems.WalkOrderLaws.{tree_accepted}
use Rattle.trees.specs.declared.quartet.Topology.{Topology}
use Rattle.trees.specs.declared.quartet.Topology.TheVariants.{Butterfly, Star}
use Rattle.trees.specs.declared.witness.Witness.TheVariants.{Meet}
use Rattle.trees.specs.declared.witness.WitnessAnswer.{WitnessAnswer}
use Rattle.asked_labels.specs.LabelOrder.{asked_order, label_order}
use Rattle.trees.specs.Topology.{topology, butterfly_of}
use Rattle.trees.specs.Witness.{witness, witness_answer, is_edge}
use Rattle.trees.specs.theorems.WitnessLaws.{butterfly_by_edge, witness_shown}
use Rattle.pair_check.specs.PairOrder.{tables_order, IsPair}
use Rattle.pair_check.specs.theorems.PairCheck.{tables_kept}
use Rattle.counting.specs.declared.Case.{Case}
use Rattle.counting.specs.declared.Case.TheVariants.{A, B, C, D, E}
use Rattle.counting.specs.Cases.{case_of}
use Rattle.evidence.specs.declared.shown.EvidenceAnswer.{EvidenceAnswer}
use Rattle.evidence.specs.EvidenceAnswer.{evidence_order, evidence_of, refused_evidence, evidence_answer}
use Rattle.evidence.specs.EvidenceAnswer.{first_parts, second_parts, EvidenceTold}
use Rattle.evidence.proofs.theorems.EvidenceLaws.{evidence_check}
use Rattle.evidence.specs.lemmas.EvidenceFound.{two_butterflies}

-- ---- the case

butterflies_told : (p q : ℕ) → two_butterflies p q ≡ case_of (Butterfly p) (Butterfly q)
unfolding two_butterflies case_of
butterflies_told p q = refl

module _ (x y : Topology) where
  pub two_butterflies_lem : (p q : ℕ) (r : Case) → x ≡ Butterfly p → y ≡ Butterfly q → r ≡ two_butterflies p q
      → r ≡ case_of x y
  two_butterflies_lem p q r ex ey e = rw (ex, ey) (e ∙ butterflies_told p q)

  pub first_alone : (p : ℕ) → x ≡ Butterfly p → y ≡ Star → C ≡ case_of x y
  unfolding case_of
  first_alone p ex ey = rw (ex, ey) refl

  pub second_alone : (q : ℕ) → x ≡ Star → y ≡ Butterfly q → D ≡ case_of x y
  unfolding case_of
  second_alone q ex ey = rw (ex, ey) refl

  pub two_stars : x ≡ Star → y ≡ Star → E ≡ case_of x y
  unfolding case_of
  two_stars ex ey = rw (ex, ey) refl

-- ---- the answer

module _ (t u : Table) (a b c d : ℕ) where
  turned_away : (k : ℕ) → refusal (evidence_order t u (a ∷ b ∷ c ∷ d ∷ [])) ≡ k → k ≢ 0
      → refused_evidence k ≡ evidence_answer t u a b c d
  unfolding evidence_answer
  turned_away k e n =
      sym (if_refused k (evidence_of t u a b c d) (refused_evidence k) n)
      ∙ ap (λ (j : ℕ). if_accepted j (evidence_of t u a b c d) (refused_evidence j)) (sym e)

  -- the tables are refused
  pub tables_turned_away : (k : ℕ) → k ≡ refusal (tables_order t u) → k ≢ 0 → refused_evidence k ≡ evidence_answer t u a b c d
  unfolding evidence_order
  tables_turned_away k e n = turned_away k (refusal-first (tables_order t u) _ (λ z. n (e ∙ z)) ∙ sym e) n

  module _ (p : IsPair t u) where
    asked : ℕ → ℕ
    asked n = refusal (asked_order n (a ∷ b ∷ c ∷ d ∷ []))

    after_tables : refusal (evidence_order t u (a ∷ b ∷ c ∷ d ∷ [])) ≡ asked (tips t)
    unfolding evidence_order asked
    after_tables = refusal-kept (tables_order t u) _ ((tables_kept t u).1 p)

    one_number : (v : Table) → IsTree v → (witness_answer v a b c d).refusal ≡ asked (tips v)
    unfolding witness_answer label_order asked
    one_number v g = tree_accepted v _ g

    -- the labels are refused
    pub labels_turned_away : (r : WitnessAnswer) → r ≡ witness_answer t a b c d → r.refusal ≢ 0
        → refused_evidence r.refusal ≡ evidence_answer t u a b c d
    labels_turned_away r e n =
        turned_away r.refusal (after_tables ∙ sym (one_number t p.first) ∙ ap (λ (x : WitnessAnswer). x.refusal) (sym e)) n

    topology_told : (v : Table) → (witness_answer v a b c d).refusal ≡ 0 → (witness_answer v a b c d).topology ≡ topology v a b c d
    unfolding witness_answer
    topology_told v z = if_accepted_lem _ (topology v a b c d) Star z

    witness_told : (v : Table) → (witness_answer v a b c d).refusal ≡ 0 → (witness_answer v a b c d).witness ≡ witness v a b c d
    unfolding witness_answer
    witness_told v z = if_accepted_lem _ (witness v a b c d) (Meet 0) z

    -- nothing is refused
    pub shown : (r s : WitnessAnswer) (w : Case) → r ≡ witness_answer t a b c d → s ≡ witness_answer u a b c d → r.refusal ≡ 0
        → w ≡ case_of r.topology s.topology
        → record { refusal = 0; which = w; first = r.witness; second = s.witness } ≡ evidence_answer t u a b c d
    unfolding evidence_answer
    shown r s w er es z ew = rw (ew, er, es, topology_told t zt, topology_told u zu, witness_told t zt, witness_told u zu)
        (sym (ap (λ (j : ℕ). if_accepted j (evidence_of t u a b c d) (refused_evidence j)) number
        ∙ if_accepted_lem 0 (evidence_of t u a b c d) (refused_evidence 0) refl))
      where
        zt : (witness_answer t a b c d).refusal ≡ 0
        zt = ap (λ (x : WitnessAnswer). x.refusal) (sym er) ∙ z

        zu : (witness_answer u a b c d).refusal ≡ 0
        zu = one_number u p.second ∙ ap asked (sym p.same_tips) ∙ sym (one_number t p.first) ∙ zt

        number : refusal (evidence_order t u (a ∷ b ∷ c ∷ d ∷ [])) ≡ 0
        number = after_tables ∙ sym (one_number t p.first) ∙ zt

-- ---- what the answer tells

first-parted : (x y : Topology) → butterfly_of x ≡ first_parts (case_of x y)
unfolding case_of
first-parted (Butterfly p) (Butterfly q) = either (eqb p q)
  where
    either : (b : Bool) → 1 ≡ first_parts (elim b as (λ z. Case) [ true ↦ A | false ↦ B ])
    either true = refl
    either false = refl
first-parted (Butterfly p) Star = refl
first-parted Star (Butterfly q) = refl
first-parted Star Star = refl

second_parted : (x y : Topology) → butterfly_of y ≡ second_parts (case_of x y)
unfolding case_of
second_parted (Butterfly p) (Butterfly q) = either (eqb p q)
  where
    either : (b : Bool) → 1 ≡ second_parts (elim b as (λ z. Case) [ true ↦ A | false ↦ B ])
    either true = refl
    either false = refl
second_parted (Butterfly p) Star = refl
second_parted Star (Butterfly q) = refl
second_parted Star Star = refl

module _ (t u : Table) (a b c d : ℕ) where
  answer_at : ℕ → EvidenceAnswer
  answer_at k = if_accepted k (evidence_of t u a b c d) (refused_evidence k)

  number_at : (k : ℕ) → (answer_at k).refusal ≡ k
  unfolding answer_at if_accepted
  number_at zero = refl
  number_at (suc k) = refl

  first_at : (k : ℕ) → is_edge (answer_at k).first ≡ first_parts (answer_at k).which
  unfolding answer_at if_accepted
  first_at zero = sym (butterfly_by_edge t a b c d) ∙ first-parted (topology t a b c d) (topology u a b c d)
  first_at (suc k) = refl

  second_at : (k : ℕ) → is_edge (answer_at k).second ≡ second_parts (answer_at k).which
  unfolding answer_at if_accepted
  second_at zero = sym (butterfly_by_edge u a b c d) ∙ second_parted (topology t a b c d) (topology u a b c d)
  second_at (suc k) = refl

  labels_low : refusal (evidence_order t u (a ∷ b ∷ c ∷ d ∷ [])) ≡ 0
      → IsPair t u × (a < tips t) × (b < tips t) × (c < tips t)
  labels_low z =
      let h = (evidence_check t u (a ∷ b ∷ c ∷ d ∷ [])).0 z in
      (h.0, h.1 0 (omega arith), h.1 1 (omega arith), h.1 2 (omega arith))

  own_told : EvidenceTold t u a b c d (evidence_answer t u a b c d)
  unfolding evidence_answer answer_at
  own_told =
      let number = refusal (evidence_order t u (a ∷ b ∷ c ∷ d ∷ [])) in
      let zero_number : (answer_at number).refusal ≡ 0 → number ≡ 0 = λ z. sym (number_at number) ∙ z in
      record {
        number_told = number_at number;
        refused = λ n. rw (if_refused number (evidence_of t u a b c d) (refused_evidence number)
            (λ z. n (number_at number ∙ z))) (refl, refl, refl, refl, refl);
        case_told = λ z. rw (if_accepted_lem number (evidence_of t u a b c d) (refused_evidence number) (zero_number z)) refl;
        first_edge = first_at number;
        second_edge = second_at number;
        first_shown = λ z.
            let e = zero_number z in
            let h = labels_low e in
            rw (if_accepted_lem number (evidence_of t u a b c d) (refused_evidence number) e)
            (witness_shown t h.0.first a b c d h.1 h.2 h.3);
        second_shown = λ z.
            let e = zero_number z in
            let h = labels_low e in
            let s = h.0.same_tips in
            rw (if_accepted_lem number (evidence_of t u a b c d) (refused_evidence number) e)
            (witness_shown u h.0.second a b c d (omega (arith, h.1, s)) (omega (arith, h.2, s)) (omega (arith, h.3, s)));
      }

  -- an answer, and what it tells
  pub evidence_told : (r : EvidenceAnswer) → r ≡ evidence_answer t u a b c d
      → (r ≡ evidence_answer t u a b c d) × EvidenceTold t u a b c d r
  evidence_told r e = (e, subst (EvidenceTold t u a b c d) (sym e) own_told)
