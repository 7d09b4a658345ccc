-- The centre of three labels is the one node on all three paths between them.
-- Assumes nothing.
use Rattle.std.specs.Prelude.{◌≡◌, ℕ, suc, ◌-◌, ◌≤◌, ◌<◌, T}
use Rattle.std.proofs.Common.{subst, arith}
use Rattle.sums.specs.theorems.CountLaws.{Once}
use Rattle.shapes.specs.Centres.{on_all}
use Rattle.shapes.proofs.theorems.OneCentre.{centre_once, centre_on}
use Rattle.tree_check.specs.Table.{Table, tips, nodes, parent, node_of}
use Rattle.tree_check.specs.IsTree.{IsTree}
use Rattle.tree_check.specs.theorems.RootedTables.{rooted}
use Rattle.walks.specs.theorems.NodeLabels.{node_at}
use Rattle.trees.specs.Centre.{centre}

module _ (t : Table) (g : IsTree t) (a b c : ℕ) (la : a < tips t) (lb : b < tips t) (lc : c < tips t) where
  last_node : (x : ℕ) → x < tips t → node_of t x ≤ nodes t - 1
  last_node x l = omega (arith, (node_at t g x l).0)

  some-nodes : suc (nodes t - 1) ≡ nodes t
  some-nodes = omega (arith, (node_at t g a la).0)

  -- exactly one node lies on all three paths
  pub one-centre : Once (nodes t)
      (λ v. on_all (parent t) (nodes t - 1) v (node_of t a) (node_of t b) (node_of t c))
  one-centre = subst
      (λ (m : ℕ). Once m (λ v. on_all (parent t) (nodes t - 1) v (node_of t a) (node_of t b) (node_of t c)))
      some-nodes
      (centre_once (parent t) (rooted t g) (nodes t - 1) (node_of t a) (node_of t b) (node_of t c)
      (last_node a la) (last_node b lb) (last_node c lc))

  -- and the centre is that node
  pub centre_is_it : (centre t a b c < nodes t)
      × T (on_all (parent t) (nodes t - 1) (centre t a b c) (node_of t a) (node_of t b) (node_of t c))
  unfolding centre
  centre_is_it =
      let o = centre_on (parent t) (rooted t g) (nodes t - 1) (node_of t a) (node_of t b) (node_of t c)
      (last_node a la) (last_node b lb) (last_node c lc) in
      (omega (arith, o.0, some-nodes), o.1)
