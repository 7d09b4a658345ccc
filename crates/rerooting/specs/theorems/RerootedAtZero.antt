-- Re-rooted at tip 0, a table is what it was.
-- Assumes nothing.
use Rattle.std.specs.Prelude.{◌≡◌, ℕ, ◌<◌, get_or}
use Rattle.std.proofs.Common.{sym, ◌∙◌, ap, ap₂, inl, inr, arith}
use Rattle.sums.specs.theorems.BitLaws.{bit_cases}
use Rattle.shapes.specs.Ancestors.{anc}
use Rattle.shapes.specs.theorems.AncestorLaws.{Rooted}
use Rattle.shapes.proofs.theorems.AncestorLaws.{anc-le}
use Rattle.sums.specs.theorems.ListLaws.{in_order_is}
use Rattle.sums.specs.theorems.SwapLaws.{swapped_none}
use Rattle.tree_check.specs.Table.{Table, tips, nodes, parents, labels, parent, label, node_of}
use Rattle.tree_check.specs.IsTree.{IsTree}
use Rattle.tree_check.specs.theorems.RootedTables.{rooted}
use Rattle.tree_check.specs.lemmas.TableParts.{table_of, parents-length, labels_length, table_of-parts}
use Rattle.walks.specs.theorems.NodeLabels.{node_only}
use Rattle.shapes.specs.Rerooting.{path_after, renumbered, node_numbered, rerooted_up}
use Rattle.rerooting.specs.Rerooted.{new_parent, new_label, rerooted}
use Rattle.shapes.proofs.theorems.RerootedNumbers.{renumbered_on, renumbered_off, after_end, after_le, numbered_back, up_on, up_off}
use Rattle.rerooting.specs.theorems.RerootedParts.{made}

module _ (up : ℕ → ℕ) (m : ℕ) (r : Rooted up) (lm : 0 < m) where
  stays : (v : ℕ) → renumbered up m 0 v ≡ v
  stays v = elim (bit_cases (anc up v 0)) [
    | inl o ↦ omega (arith, renumbered_off up m 0 r lm v o, low)
    | inr o ↦ omega (arith, renumbered_on up m 0 r lm v o, low, anc-le up r v 0 o)
  ]
    where
      low : path_after up m 0 v ≡ 0
      low = omega (arith, (after_le up m 0 r lm 0 v (omega arith)).0, after_end up m 0 r lm)

  numbered_same : (i : ℕ) → i < m → node_numbered up m 0 i ≡ i
  numbered_same i l = ap (node_numbered up m 0) (sym (stays i)) ∙ numbered_back up m 0 r lm i l

  up_same : (i : ℕ) → i < m → rerooted_up up m 0 i ≡ up i
  up_same i l = ap (rerooted_up up m 0) (sym (stays i)) ∙ elim (bit_cases (anc up i 0)) [
    | inl o ↦ up_off up m 0 r lm i l o ∙ stays (up i)
    | inr o ↦ (let e : i ≡ 0 = omega (arith, anc-le up r i 0 o) in
        up_on up m 0 r lm i l o ∙ omega (arith, stays i, ap up e, r.root))
  ]

pub rerooted_at_zero : (t : Table) → IsTree t → rerooted t 0 ≡ t
unfolding new_parent new_label parent label
rerooted_at_zero t g =
    made t 0 ∙ ap₂ (table_of (tips t))
    (in_order_is (nodes t) (new_parent t 0) (parents t) (parents-length t g.words) same-parent)
    (in_order_is (nodes t) (new_label t 0) (labels t) (labels_length t g.words) same_label)
    ∙ table_of-parts t g.words
  where
    some : 0 < nodes t
    some = let a = g.tips_range in let b = g.nodes_range in omega arith

    root : node_of t 0 ≡ 0
    root = node_only t g 0 0 (let a = g.tips_range in omega arith) some g.root_label

    same-parent : (i : ℕ) → i < nodes t → new_parent t 0 i ≡ get_or (parents t) i 0
    same-parent i l =
        ap (λ (z : ℕ). rerooted_up (parent t) (nodes t) z i) root ∙ up_same (parent t) (nodes t) (rooted t g) some i l

    same_label : (i : ℕ) → i < nodes t → new_label t 0 i ≡ get_or (labels t) i 0
    same_label i l =
        swapped_none 0 _ ∙ ap (λ (z : ℕ). label t (node_numbered (parent t) (nodes t) z i)) root
        ∙ ap (label t) (numbered_same (parent t) (nodes t) (rooted t g) some i l)
