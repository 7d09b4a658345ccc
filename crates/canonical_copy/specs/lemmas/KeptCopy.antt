-- The kept part of a tree table, re-rooted at the smallest kept label: from its words to the arrays of a tree that is rooted at
-- the tip of rank 0.
-- Assumes nothing.
use Rattle.std.specs.Prelude.{◌≡◌, ℕ, ◌+◌, ◌*◌, ◌≤◌, length}
use mathlib.Core.List.{List}
use Rattle.tree_check.specs.Table.{Table, tips, nodes, parents, labels}
use Rattle.tree_check.specs.lemmas.Sized.{Sized}
use Rattle.marks.specs.Marks.{kept_of, AreMarks}
use Rattle.canonical_copy.specs.lemmas.RootedCopy.{RootedRanks, CopiedFrom}

-- a table with m nodes whose parents and labels are those of such a tree
pub record RootedTable (t : Table) (m : ℕ) (ranks : List ℕ) (k : ℕ) : Type 0 where
  pub nodes_are : m ≡ nodes t
  pub words : length t ≡ 2 + 2 * nodes t
  pub arrays : RootedRanks (parents t) (labels t) ranks k

pub record TableCopied (t : Table) (m : ℕ) (ranks : List ℕ) (k : ℕ) (old new : List ℕ) (r : ℕ) : Type 0 where
  pub copied : CopiedFrom (parents t) (labels t) ranks k old new r

-- a tree table with m nodes, and marks that keep k of its labels, two or more
pub record KeptTable (t : Table) (marks : List ℕ) (m k : ℕ) : Type 0 where
  pub sized : Sized t (tips t) m
  pub are_marks : AreMarks marks (tips t)
  pub number : k ≡ kept_of marks (tips t)
  pub two : 2 ≤ k
