-- The nodes of the three labels are nodes, so they can climb.
-- Assumes nothing.
use mathlib.Core.Path.{◌∙◌}
use native.Mathlib.Nat.{mod-eq_of_lt}
use native.Mathlib.Omega.{arith}
use Rattle.trees.specs.lemmas.CentreOutcomes.{centre_over}
use Rattle.trees.specs.lemmas.RootedArrays.{node_found}
use Rattle.trees.proofs.centres.centre_node.Goals as goal

pub join-requires : goal.join-requires
join-requires c =
    let found = node_found c.args.parents.now c.args.labels.now c.requires in
    record {
      tree = c.requires.tree;
      few = c.requires.few;
      la = found c.args.a _ c.node_of-x.ensures;
      lb = found c.args.b _ c.node_of-y.ensures;
      lc = found c.args.c _ c.node_of-z.ensures;
    }

pub returns : goal.returns
unfolding centre_over
returns c =
    let j = c.join.ensures in
    let few = c.requires.few in
    c.as_word.ensures ∙ mod-eq_of_lt (omega (arith, j.1, few)) ∙ j.0 ∙ cc
