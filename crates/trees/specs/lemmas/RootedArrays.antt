-- The two arrays of a tree table, the parents ps and the labels ls, without n: nodes that can climb, and labels that can
-- be looked up.
-- Assumes nothing.
use Rattle.std.specs.Prelude.{◌≡◌, List, ℕ, ◌≤◌, ◌<◌, length}
use Rattle.std.proofs.Common.{arith}
use Rattle.table_words.specs.Sizes.{node_room}
use Rattle.shapes.specs.theorems.AncestorLaws.{Rooted}
use Rattle.tree_check.specs.Table.{Table, word, tips, parents, labels, node_below}
use Rattle.tree_check.specs.IsTree.{IsTree}
use Rattle.walks.specs.theorems.NodeLabels.{node_below_lem}
use Rattle.walks.specs.lemmas.TreeArrays.{tree_arrays, few_nodes, rooted_parents}

pub record RootedArrays (ps ls : List ℕ) : Type 0 where
  pub tree : Rooted (word ps)
  pub some : 1 ≤ length ps
  pub few : length ps ≤ node_room
  pub same : length ls ≡ length ps

pub rooted_arrays : (t : Table) → IsTree t → RootedArrays (parents t) (labels t)
rooted_arrays t g =
    let a = tree_arrays t g in
    let m = few_nodes (tips t) (parents t) (labels t) a in
    record {
      tree = rooted_parents (tips t) (parents t) (labels t) a;
      some = omega arith;
      few = omega arith;
      same = a.same;
    }

-- what is found among the labels is a node
pub node_found : (ps ls : List ℕ) → RootedArrays ps ls → (x v : ℕ) → v ≡ node_below (word ls) (length ls) x
    → v < length ps
node_found ps ls a x v e =
    omega (arith, e, a.same, node_below_lem (word ls) (length ls) x (omega (arith, a.some, a.same)))
