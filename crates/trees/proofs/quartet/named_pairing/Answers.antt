-- `named_pairing` tells what `topology_shown` does, arm by arm.
-- Assumes nothing.
use mathlib.Core.Path.{sym, ◌∙◌, ap}
use borrow.Author.Tests.{eq-eqb, ne_eqb}
use Rattle.trees.specs.lemmas.Sides.{topology_shown}
use Rattle.trees.specs.declared.quartet.Topology.TheVariants.{Butterfly}
use Rattle.trees.proofs.quartet.named_pairing.Goals as goal

pub returns-then-k-eq1 : goal.returns-then-k-eq1
unfolding topology_shown
returns-then-k-eq1 c = ap Butterfly c.partner_of.ensures ∙ sym (rw (eq-eqb _ _ c.if-k-eq1.true, topology_shown))

pub returns-then-k-eq2 : goal.returns-then-k-eq2
unfolding topology_shown
returns-then-k-eq2 c =
    ap Butterfly c.partner_of-then-k-eq2.ensures
    ∙ sym (rw (ne_eqb _ _ c.if-k-eq1.false, eq-eqb _ _ c.if-k-eq2.true, topology_shown))

pub returns-then-k-eq3 : goal.returns-then-k-eq3
unfolding topology_shown
returns-then-k-eq3 c =
    ap Butterfly c.partner_of-then-k-eq3.ensures
    ∙ sym (rw (
      ne_eqb _ _ c.if-k-eq1.false,
      ne_eqb _ _ c.if-k-eq2.false,
      eq-eqb _ _ c.if-k-eq3.true,
      topology_shown,
    ))

pub returns : goal.returns
unfolding topology_shown
returns c =
    sym (rw (
      ne_eqb _ _ c.if-k-eq1.false,
      ne_eqb _ _ c.if-k-eq2.false,
      ne_eqb _ _ c.if-k-eq3.false,
      topology_shown,
    ))
