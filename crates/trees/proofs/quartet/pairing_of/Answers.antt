-- Each number that is told is the pairing that the sides show.
-- Assumes nothing.
use mathlib.Core.Path.{sym, ap}
use borrow.Author.Tests.{ne_eqb}
use Rattle.trees.specs.lemmas.Sides.{pairing}
use Rattle.trees.proofs.quartet.pairing_of.Goals as goal

pub returns-then-sides-eq3 : goal.returns-then-sides-eq3
unfolding pairing
returns-then-sides-eq3 c = sym (ap pairing c.if-sides-eq3.true)

pub returns-then-sides-eq12 : goal.returns-then-sides-eq12
unfolding pairing
returns-then-sides-eq12 c = sym (ap pairing c.if-sides-eq12.true)

pub returns-then-sides-eq5 : goal.returns-then-sides-eq5
unfolding pairing
returns-then-sides-eq5 c = sym (ap pairing c.if-sides-eq5.true)

pub returns-then-sides-eq10 : goal.returns-then-sides-eq10
unfolding pairing
returns-then-sides-eq10 c = sym (ap pairing c.if-sides-eq10.true)

pub returns-then-sides-eq6 : goal.returns-then-sides-eq6
unfolding pairing
returns-then-sides-eq6 c = sym (ap pairing c.if-sides-eq6.true)

pub returns-then-sides-eq9 : goal.returns-then-sides-eq9
unfolding pairing
returns-then-sides-eq9 c = sym (ap pairing c.if-sides-eq9.true)

pub returns : goal.returns
unfolding pairing
returns c =
    rw (
      ne_eqb _ _ c.if-sides-eq3.false,
      ne_eqb _ _ c.if-sides-eq12.false,
      ne_eqb _ _ c.if-sides-eq5.false,
      ne_eqb _ _ c.if-sides-eq10.false,
      ne_eqb _ _ c.if-sides-eq6.false,
      ne_eqb _ _ c.if-sides-eq9.false,
      pairing,
    )
