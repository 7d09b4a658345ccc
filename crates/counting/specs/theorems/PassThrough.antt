-- Pass-through nodes, and a table with them taken out (docs/SPECIFICATION.md, 'Pass-through nodes').
-- Assumes nothing.
use Rattle.std.specs.Prelude.{◌≡◌, ◌≢◌, ℕ, ◌≤◌, ◌<◌, T}
use Rattle.table_words.specs.Sizes.{inner_label}
use Rattle.shapes.specs.Ancestors.{anc}
use Rattle.tree_check.specs.Table.{Table, tips, nodes, parent, label}
use Rattle.tree_check.specs.IsTree.{Child}

-- an inner node with a single child
pub record PassThrough (t : Table) (i : ℕ) : Type 0 where
  pub inner : label t i ≡ inner_label
  pub child : ℕ
  pub below : Child t i child
  pub single : (j : ℕ) → Child t i j → j ≡ child

-- a table without pass-through nodes
abbrev pub NoPassThrough : Table → Type 0
NoPassThrough t = (i : ℕ) → i < nodes t → PassThrough t i → ⊥

-- above node v comes node p, after pass-through nodes alone
pub record NextAbove (t : Table) (p v : ℕ) : Type 0 where
  pub above : T (anc (parent t) p v)
  pub apart : p ≢ v
  pub between : (j : ℕ) → T (anc (parent t) p j) → T (anc (parent t) j v) → j ≢ p → j ≢ v → PassThrough t j

-- u is t with its pass-through nodes taken out: the other nodes, under any numbers, each with its label and below the
-- next of them above it
pub record TakenOut (t u : Table) : Type 0 where
  pub same_tips : tips t ≡ tips u
  -- the node of t that a node of u is
  pub node : ℕ → ℕ
  pub kept : (i : ℕ) → i < nodes u → (node i < nodes t) × (PassThrough t (node i) → ⊥)
  pub different : (i j : ℕ) → i < nodes u → j < nodes u → node i ≡ node j → i ≡ j
  pub all : (j : ℕ) → j < nodes t → (PassThrough t j → ⊥) → (i : ℕ) × (i < nodes u) × (node i ≡ j)
  pub labels : (i : ℕ) → i < nodes u → label u i ≡ label t (node i)
  pub parents : (i : ℕ) → 1 ≤ i → i < nodes u → NextAbove t (node (parent u i)) (node i)
