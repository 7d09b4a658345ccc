-- A tree table, rule by rule, in ordinary mathematics (docs/SPECIFICATION.md, 'Rules').
-- Assumes nothing.
use Rattle.std.specs.Prelude.{◌≡◌, ◌⊎◌, ◌↔◌, ℕ, ◌+◌, ◌*◌, ◌≤◌, ◌<◌, length}
use Rattle.table_words.specs.Sizes.{inner_label, tips_most}
use Rattle.tree_check.specs.Table.{Table, tips, nodes, parent, label}

-- node j is a child of node i
pub record Child (t : Table) (i j : ℕ) : Type 0 where
  pub other : 1 ≤ j
  pub node : j < nodes t
  pub below : parent t j ≡ i

-- exactly one node has the label x
pub record StandsOnce (t : Table) (x : ℕ) : Type 0 where
  pub at : ℕ
  pub node : at < nodes t
  pub labelled : label t at ≡ x
  pub only : (j : ℕ) → j < nodes t → label t j ≡ x → j ≡ at

pub record IsTree (t : Table) : Type 0 where
  -- it has 2 + 2m words, no fewer and no more
  pub words : length t ≡ 2 + 2 * nodes t
  -- n is 2 to 256, and m is n to 4n
  pub tips_range : (2 ≤ tips t) × (tips t ≤ tips_most)
  pub nodes_range : (tips t ≤ nodes t) × (nodes t ≤ 4 * tips t)
  -- node 0 is tip 0, and its parent word is 0
  pub root_label : label t 0 ≡ 0
  pub root_parent : parent t 0 ≡ 0
  -- node 1 is the only child of node 0
  pub root_child : (j : ℕ) → Child t 0 j ↔ (j ≡ 1)
  -- the parent word of a node i ≥ 2 is 1 to i − 1
  pub parents_range : (i : ℕ) → 2 ≤ i → i < nodes t → (1 ≤ parent t i) × (parent t i < i)
  -- each label word is 65535, for an inner node, or one of 0 to n − 1
  pub labels_range : (i : ℕ) → i < nodes t → (label t i ≡ inner_label) ⊎ (label t i < tips t)
  -- each of 0 to n − 1 is the label of exactly one node
  pub once : (x : ℕ) → x < tips t → StandsOnce t x
  -- a tip other than node 0 has no children
  pub tip_bare : (i : ℕ) → 1 ≤ i → i < nodes t → label t i < tips t → (j : ℕ) → Child t i j → ⊥
  -- an inner node has at least one child
  pub inner_child : (i : ℕ) → i < nodes t → label t i ≡ inner_label → (j : ℕ) × Child t i j
