-- What is known where the search needs a hint.
-- Assumes nothing.
use Rattle.std.proofs.Common.{ℕ, ◌+◌, ◌<◌, ◌≤◌, ltb, ap, ◌∙◌, arith}
use Rattle.table_words.specs.Sizes.{tips_most, nodes_most}
use Rattle.sums.specs.Bits.{bit}
use Rattle.tree_check.specs.Table.{word}
use Rattle.walks.specs.lemmas.TreeArrays.{few_nodes, rooted_parents}
use Rattle.walks.specs.lemmas.Positions.{reached_first, reached_fits, reached_next, reached_all}
use Rattle.shapes.proofs.theorems.AncestorLaws.{parent-lt}
use Rattle.walks.proofs.sizes.ends.Goals.{After-from-p, After-own_label, In-loop-c}
use Rattle.walks.proofs.sizes.ends.Goals as goal

-- ---- what is known there

-- the parent read has a smaller number
low : (c : After-from-p) → c.from-p.result < c.loop-c.c
low c =
    omega (
      arith,
      c.from-p.ensures,
      parent-lt _ (rooted_parents _ _ _ c.requires.0) c.loop-c.c c.loop-c.auto.c,
    )

few : (c : In-loop-c) → c.loop-c.c < nodes_most
few c = omega (arith, c.loop-c-test.true, few_nodes _ _ _ c.requires.0)

-- the two positions fit
fits : (c : After-own_label)
    → let p = c.from-p.result in
    (p < c.loop-c.c) × (word c.loop-c.reach p + c.own_label.result ≤ tips_most)
    × (word c.loop-c.reach p + word c.args.size.now c.loop-c.c ≤ tips_most)
fits c =
    reached_fits _ _ _ c.requires.0 _ _ c.requires.1 c.loop-c.c c.from-p.result c.own_label.result
    c.loop-c.auto.c c.loop-c-test.true c.from-p.ensures
    (c.own_label.ensures ∙ ap (λ (x : ℕ). bit (ltb x c.args.n)) c.from.ensures) c.loop-c.invariant

pub loop-c-init : goal.loop-c-init
loop-c-init c =
    reached_first _ _ _ c.requires.0 c.args.reach.now c.requires.2

pub bounds-reach-p : goal.bounds-reach-p
bounds-reach-p c = omega (arith, low (goal.at.bounds-reach-p c).After-from-p, few (goal.at.bounds-reach-p c).In-loop-c)

pub overflow_add-reach : goal.overflow_add-reach
overflow_add-reach c = omega (arith, fits c)

pub offset_bounds-reach-c : goal.offset_bounds-reach-c
offset_bounds-reach-c c = omega (arith, few (goal.at.offset_bounds-reach-c c).In-loop-c)

pub bounds-reach-c : goal.bounds-reach-c
bounds-reach-c c = omega (arith, few (goal.at.bounds-reach-c c).In-loop-c)

pub offset_bounds-size-c : goal.offset_bounds-size-c
offset_bounds-size-c c = omega (arith, few (goal.at.offset_bounds-size-c c).In-loop-c)

pub bounds-size-c : goal.bounds-size-c
bounds-size-c c = omega (arith, few (goal.at.bounds-size-c c).In-loop-c)

pub overflow_add-reach-in-loop-c : goal.overflow_add-reach-in-loop-c
overflow_add-reach-in-loop-c c = omega (arith, fits (goal.at.overflow_add-reach-in-loop-c c).After-own_label)

pub bounds-reach-p-in-loop-c : goal.bounds-reach-p-in-loop-c
bounds-reach-p-in-loop-c c = omega (arith, fits (goal.at.bounds-reach-p-in-loop-c c).After-own_label, few (goal.at.bounds-reach-p-in-loop-c c).In-loop-c)

pub loop-c-preserved : goal.loop-c-preserved
loop-c-preserved c =
    reached_next _ _ _ c.requires.0 _ _ c.requires.1 c.loop-c.c c.from-p.result c.own_label.result
    c.loop-c.auto.c c.loop-c-test.true c.from-p.ensures
    (c.own_label.ensures ∙ ap (λ (x : ℕ). bit (ltb x c.args.n)) c.from.ensures) c.loop-c.invariant

pub returns : goal.returns
returns c =
    reached_all _ _ _ c.requires.0 c.loop-c.c _ c.loop-c-test.false (omega (arith, few_nodes _ _ _ c.requires.0)) c.loop-c.invariant
