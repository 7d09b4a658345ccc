-- `partner_of` tells what `partner` does: the test compares the smaller ones, and the larger one is told.
-- Assumes nothing.
use mathlib.Core.Path.{sym, ◌∙◌, subst₂}
use Prim.Native.Nat.{ℕ, ◌<◌, ◌≤◌}
use borrow.Author.Tests.{lt-ltb, le-ltb}
use Rattle.trees.specs.Topology.{partner}
use Rattle.trees.proofs.quartet.partner_of.Goals as goal

pub returns-then-smaller : goal.returns-then-smaller
unfolding partner
returns-then-smaller c =
    let e = c.smaller.ensures in
    let l = subst₂ (λ (x y : ℕ). x < y) e c.smaller-2.ensures c.if-smaller.true in
    c.larger.ensures ∙ sym (rw (lt-ltb _ _ l, partner))

pub returns : goal.returns
unfolding partner
returns c =
    let e = c.smaller.ensures in
    let l = subst₂ (λ (x y : ℕ). y ≤ x) e c.smaller-2.ensures c.if-smaller.false in
    c.larger-2.ensures ∙ sym (rw (le-ltb _ _ l, partner))
