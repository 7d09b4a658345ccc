-- What the centre's answer is, as its code finds it.
-- Assumes nothing.
use Rattle.std.specs.Prelude.{◌≡◌, refl, ◌≢◌, List, [], ◌∷◌, ℕ, ◌-◌, length}
use Rattle.std.proofs.Common.{sym, ◌∙◌}
use Rattle.std.proofs.Math.Path.{ap}
use Rattle.shapes.specs.Centres.{centre_of}
use Rattle.tree_check.specs.Table.{Table, word, tips, parents, labels, parent, label, node_below, node_of}
use Rattle.tree_check.specs.lemmas.TableParts.{parents-length, labels_length}
use Rattle.tree_check.specs.Refusals.{refusal, if_accepted}
use Rattle.tree_check.specs.theorems.RefusalLaws.{if_accepted_lem, if_refused}
use Rattle.tree_check.specs.IsTree.{IsTree}
use Rattle.tree_check.specs.TreeOrder.{tree_order}
use Rattle.walks.specs.theorems.WalkOrderLaws.{tree_refused, tree_accepted}
use Rattle.asked_labels.specs.LabelOrder.{asked_order, label_order}
use Rattle.trees.specs.Centre.{centre, centre_answer}
use Rattle.trees.specs.declared.centres.CentreAnswer.{CentreAnswer}

-- ---- the two parts of a table

-- the centre over the two parts of a table
unfoldable pub centre_over : List ℕ → List ℕ → ℕ → ℕ → ℕ → ℕ
centre_over ps ls a b c =
    let at : ℕ → ℕ = node_below (word ls) (length ls) in
    centre_of (word ps) (length ps - 1) (at a) (at b) (at c)

module _ (t : Table) (g : IsTree t) where
  pub centre_of-parts : (a b c : ℕ) → centre_over (parents t) (labels t) a b c ≡ centre t a b c
  unfolding centre_over centre parent label node_of
  centre_of-parts a b c = rw (parents-length t g.words, labels_length t g.words)

-- ---- the answer

abbrev pub centre_told : ℕ → ℕ → CentreAnswer
centre_told number node = record { refusal = number; node = node }

module _ (t : Table) (a b c : ℕ) where
  told : (k : ℕ) → refusal (label_order t (a ∷ b ∷ c ∷ [])) ≡ k
      → centre_told k (if_accepted k (centre t a b c) 0) ≡ centre_answer t a b c
  unfolding centre_answer
  told k e = ap (λ (j : ℕ). centre_told j (if_accepted j (centre t a b c) 0)) (sym e)

  refused : (k : ℕ) → refusal (label_order t (a ∷ b ∷ c ∷ [])) ≡ k → k ≢ 0 → centre_told k 0 ≡ centre_answer t a b c
  refused k e d = ap (centre_told k) (sym (if_refused k (centre t a b c) 0 d)) ∙ told k e

  -- 1 to 7 and 31
  pub centre_refused : (k : ℕ) → refusal (tree_order t) ≡ k → k ≢ 0 → centre_told k 0 ≡ centre_answer t a b c
  unfolding label_order
  centre_refused k e d = refused k (tree_refused t (asked_order (tips t) (a ∷ b ∷ c ∷ [])) k e d) d

  module _ (g : IsTree t) (n : ℕ) (en : n ≡ tips t) where
    asked : refusal (label_order t (a ∷ b ∷ c ∷ [])) ≡ refusal (asked_order n (a ∷ b ∷ c ∷ []))
    unfolding label_order
    asked = rw en (tree_accepted t (asked_order (tips t) (a ∷ b ∷ c ∷ [])) g)

    -- 10 or 11
    pub centre_asked_refused : (k : ℕ) → k ≡ refusal (asked_order n (a ∷ b ∷ c ∷ [])) → k ≢ 0
        → centre_told k 0 ≡ centre_answer t a b c
    centre_asked_refused k e d = refused k (asked ∙ sym e) d

    pub centre_accepted : (k v : ℕ) → k ≡ refusal (asked_order n (a ∷ b ∷ c ∷ [])) → k ≡ 0
        → v ≡ centre_over (parents t) (labels t) a b c → centre_told 0 v ≡ centre_answer t a b c
    centre_accepted k v e z q =
        ap (centre_told 0) (q ∙ centre_of-parts t g a b c ∙ sym (if_accepted_lem 0 (centre t a b c) 0 refl))
        ∙ told 0 (asked ∙ sym e ∙ z)
