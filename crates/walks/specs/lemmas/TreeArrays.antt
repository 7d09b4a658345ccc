-- The two arrays of a tree table, the parents ps and the labels ls, as they are passed on.
-- Assumes nothing.
use Rattle.std.specs.Prelude.{◌≡◌, ℕ, ◌≤◌, List, length}
use Rattle.std.proofs.Common.{sym, ◌∙◌, subst, arith}
use Rattle.std.proofs.Math.Path.{ap}
use Rattle.table_words.specs.Sizes.{tips_most, nodes_most}
use Rattle.shapes.specs.theorems.AncestorLaws.{Rooted}
use Rattle.tree_check.specs.Table.{Table, word, tips, parents, labels, parent, label}
use Rattle.tree_check.specs.lemmas.TableParts.{table_of}
use Rattle.tree_check.specs.lemmas.TableParts.{tips_of_lem, nodes_of_lem, parents_of, labels_of, parents-length, labels_length}
use Rattle.tree_check.specs.lemmas.TableParts.{table_of-parts}
use Rattle.tree_check.specs.IsTree.{IsTree}
use Rattle.tree_check.specs.theorems.RootedTables.{rooted}

-- with n: the table made of them is a tree table
pub record TreeArrays (n : ℕ) (ps ls : List ℕ) : Type 0 where
  pub tree : IsTree (table_of n ps ls)
  pub same : length ls ≡ length ps

-- those of a tree table
pub tree_arrays : (t : Table) → IsTree t → TreeArrays (tips t) (parents t) (labels t)
tree_arrays t g = record {
  tree = subst IsTree (sym (table_of-parts t g.words)) g;
  same = labels_length t g.words ∙ sym (parents-length t g.words);
}

module _ (n : ℕ) (ps ls : List ℕ) (a : TreeArrays n ps ls) where
  pub parent_is : parent (table_of n ps ls) ≡ word ps
  unfolding parent
  parent_is = ap word (parents_of n ps ls)

  pub label_is : label (table_of n ps ls) ≡ word ls
  unfolding label
  label_is = ap word (labels_of n ps ls a.same)

  pub few_tips : (2 ≤ n) × (n ≤ tips_most)
  few_tips = omega (arith, a.tree.tips_range, tips_of_lem n ps ls)

  pub few_nodes : (2 ≤ length ps) × (length ps ≤ nodes_most)
  few_nodes = omega (arith, a.tree.tips_range, a.tree.nodes_range, nodes_of_lem n ps ls)

  pub rooted_parents : Rooted (word ps)
  rooted_parents = subst Rooted parent_is (rooted (table_of n ps ls) a.tree)
