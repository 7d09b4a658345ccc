-- The evidence for one set of four labels (docs/SPECIFICATION.md, 'Evidence').
-- Assumes nothing.
use Rattle.std.specs.Prelude.{◌≡◌, ◌≢◌, List, [], ◌∷◌, ◌++◌, ℕ}
use Rattle.tree_check.specs.Table.{Table, tips}
use Rattle.tree_check.specs.Refusals.{Rule, refusal, if_accepted}
use Rattle.trees.specs.declared.witness.Witness.TheVariants.{Meet}
use Rattle.asked_labels.specs.LabelOrder.{asked_order}
use Rattle.trees.specs.Topology.{topology}
use Rattle.trees.specs.Witness.{witness, is_edge, witness_number, ShownBy}
use Rattle.counting.specs.declared.Case.{Case}
use Rattle.counting.specs.declared.Case.TheVariants.{A, B, C, D, E}
use Rattle.counting.specs.Cases.{case_of, case_number}
use Rattle.pair_check.specs.PairOrder.{tables_order}
use Rattle.evidence.specs.declared.shown.EvidenceAnswer.{EvidenceAnswer}

-- the order of a pair without work cells, then 10 and 11
unfoldable pub evidence_order : Table → Table → List ℕ → List Rule
evidence_order t u xs = tables_order t u ++ asked_order (tips t) xs

-- the case and the witness of each tree
abbrev pub evidence_of : Table → Table → ℕ → ℕ → ℕ → ℕ → EvidenceAnswer
evidence_of t u a b c d = record {
  refusal = 0;
  which = case_of (topology t a b c d) (topology u a b c d);
  first = witness t a b c d;
  second = witness u a b c d;
}

-- the number of a refusal, with case E and meeting node 0 for both trees
abbrev pub refused_evidence : ℕ → EvidenceAnswer
refused_evidence number = record { refusal = number; which = E; first = Meet 0; second = Meet 0 }

unfoldable pub evidence_answer : Table → Table → ℕ → ℕ → ℕ → ℕ → EvidenceAnswer
evidence_answer t u a b c d =
    let number = refusal (evidence_order t u (a ∷ b ∷ c ∷ d ∷ [])) in
    if_accepted number (evidence_of t u a b c d) (refused_evidence number)

-- ---- what an answer tells

-- 1 where the first tree parts the four, as the cases A, B and C say, else 0
abbrev pub first_parts : Case → ℕ
first_parts A = 1
first_parts B = 1
first_parts C = 1
first_parts D = 0
first_parts E = 0

-- .. and the second tree, as A, B and D say
abbrev pub second_parts : Case → ℕ
second_parts A = 1
second_parts B = 1
second_parts C = 0
second_parts D = 1
second_parts E = 0

-- the case is that of the two topologies; a tree that parts the four is shown by an edge, and one that does not by a node
pub record EvidenceTold (t u : Table) (a b c d : ℕ) (r : EvidenceAnswer) : Type 0 where
  pub number_told : r.refusal ≡ refusal (evidence_order t u (a ∷ b ∷ c ∷ d ∷ []))
  -- a refusal shows case E, and meeting node 0 for both trees
  pub refused : r.refusal ≢ 0 → (case_number r.which ≡ 4)
      × (is_edge r.first ≡ 0) × (witness_number r.first ≡ 0) × (is_edge r.second ≡ 0) × (witness_number r.second ≡ 0)
  pub case_told : r.refusal ≡ 0 → r.which ≡ case_of (topology t a b c d) (topology u a b c d)
  -- a butterfly with an edge, a star with a meeting node
  pub first_edge : is_edge r.first ≡ first_parts r.which
  pub second_edge : is_edge r.second ≡ second_parts r.which
  -- the edge is the lowest-numbered one that parts the four; a node only if none does
  pub first_shown : r.refusal ≡ 0 → ShownBy t a b c d r.first
  pub second_shown : r.refusal ≡ 0 → ShownBy u a b c d r.second
