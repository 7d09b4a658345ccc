-- The words of a re-rooted table.
-- Assumes nothing.
use Rattle.std.specs.Prelude.{◌≡◌, ℕ, ◌+◌, ◌*◌, ◌<◌, length}
use Rattle.std.proofs.Math.Path.{sym, ap}
use Rattle.std.proofs.Common.{◌∙◌}
use mathlib.Core.List.{List, ◌∷◌, ◌++◌}
use native.Mathlib.Omega.{arith}
use Rattle.std.proofs.Math.ListN.{get_or, length-append}
use Rattle.sums.specs.Lists.{in_order}
use Rattle.sums.specs.theorems.ListLaws.{in_order-length, in_order_at}
use Rattle.tree_check.specs.Table.{Table, tips, nodes, parents, labels, parent, label}
use Rattle.tree_check.specs.lemmas.TableParts.{table_of, tips_of_lem, nodes_of_lem, parents_of, labels_of}
use Rattle.rerooting.specs.Rerooted.{new_parent, new_label, rerooted}

-- ---- the table's parts

module _ (t : Table) (x : ℕ) where
  pub made : rerooted t x ≡ table_of (tips t) (in_order (nodes t) (new_parent t x)) (in_order (nodes t) (new_label t x))
  unfolding rerooted table_of
  made = ap (λ (m : ℕ). tips t ∷ m ∷ (in_order (nodes t) (new_parent t x) ++ in_order (nodes t) (new_label t x)))
      (sym (in_order-length (nodes t) (new_parent t x)))

  pub same_tips : tips (rerooted t x) ≡ tips t
  same_tips = ap tips made ∙ tips_of_lem (tips t) _ _

  pub same_nodes : nodes (rerooted t x) ≡ nodes t
  same_nodes = ap nodes made ∙ nodes_of_lem (tips t) _ _ ∙ in_order-length (nodes t) (new_parent t x)

  pub rerooted-length : length (rerooted t x) ≡ 2 + 2 * nodes t
  unfolding rerooted
  rerooted-length = omega (
    arith,
    length-append (in_order (nodes t) (new_parent t x)) (in_order (nodes t) (new_label t x)),
    in_order-length (nodes t) (new_parent t x),
    in_order-length (nodes t) (new_label t x),
  )

  pub new_parent_lem : (i : ℕ) → i < nodes t → parent (rerooted t x) i ≡ new_parent t x i
  unfolding parent
  new_parent_lem i l =
      ap (λ (u : Table). get_or (parents u) i 0) made
      ∙ ap (λ (ps : List ℕ). get_or ps i 0) (parents_of (tips t) _ _)
      ∙ in_order_at (nodes t) (new_parent t x) i l

  pub new_label_lem : (i : ℕ) → i < nodes t → label (rerooted t x) i ≡ new_label t x i
  unfolding label
  new_label_lem i l =
      ap (λ (u : Table). get_or (labels u) i 0) made
      ∙ ap (λ (ps : List ℕ). get_or ps i 0) (labels_of (tips t) _ _
      (in_order-length (nodes t) (new_label t x) ∙ sym (in_order-length (nodes t) (new_parent t x))))
      ∙ in_order_at (nodes t) (new_label t x) i l
