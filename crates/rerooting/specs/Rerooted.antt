-- A tree table re-rooted at the tip x, with the labels 0 and x exchanged: the same unrooted tree, as a table whose node 0 is
-- that tip (docs/SPECIFICATION.md, 'Re-rooting').
-- Assumes nothing.
use Rattle.std.specs.Prelude.{List, [], ◌∷◌, ◌++◌, ℕ, ◌+◌, ◌*◌, ltb, leb, length, drop}
use Rattle.sums.specs.Lists.{in_order}
use Rattle.sums.specs.Swaps.{swapped}
use Rattle.shapes.specs.Rerooting.{node_numbered, rerooted_up}
use Rattle.tree_check.specs.Table.{Table, tips, nodes, parent, label, node_of}
use Rattle.tree_check.specs.Refusals.{Rule, refusal, if_accepted}
use Rattle.tree_check.specs.TreeOrder.{tree_order}

-- the parent and the label of the node with the new number i
unfoldable pub new_parent : Table → ℕ → ℕ → ℕ
new_parent t x = rerooted_up (parent t) (nodes t) (node_of t x)

unfoldable pub new_label : Table → ℕ → ℕ → ℕ
new_label t x i = swapped 0 x (label t (node_numbered (parent t) (nodes t) (node_of t x) i))

unfoldable pub rerooted : Table → ℕ → Table
rerooted t x = tips t ∷ nodes t ∷ (in_order (nodes t) (new_parent t x) ++ in_order (nodes t) (new_label t x))

-- ---- the call

-- the table's order, then 10: the label is n or more; then 12: there are fewer than 2 + 2m cells
unfoldable pub reroot_order : Table → ℕ → ℕ → List Rule
reroot_order t x cells = tree_order t ++ (10, leb (tips t) x) ∷ (12, ltb cells (2 + 2 * nodes t)) ∷ []

-- the lent cells once the table is written: later cells stay
unfoldable pub written : Table → ℕ → List ℕ → List ℕ
written t x cells = rerooted t x ++ drop (2 + 2 * nodes t) cells

-- a refusal leaves every lent cell as it was
unfoldable pub after_reroot : Table → ℕ → List ℕ → List ℕ
after_reroot t x cells = if_accepted (refusal (reroot_order t x (length cells))) (written t x cells) cells
