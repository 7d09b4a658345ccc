-- What is known where the search needs a hint.
-- Assumes nothing.
use Prim.Native.Nat.{◌<◌}
use mathlib.Core.Path.{◌≡◌, sym, ◌∙◌, ap}
use mathlib.Core.Bool.{true}
use native.Mathlib.Omega.{arith}
use Rattle.table_words.specs.Sizes.{node_room}
use Rattle.tree_pairs.specs.lemmas.TipRows.{counted_label}
use Rattle.tree_pairs.proofs.lemmas.TipRows.{counted_inside}
use Rattle.tree_pairs.proofs.lemmas.TipRows.{rows_tip, rows_empty}
use Rattle.tree_pairs.proofs.rows_of_tips.tip_rows.Goals.{else-is_counted, then-is_counted, After-is_counted, After-way_told-then-is_counted-1}
use Rattle.tree_pairs.proofs.rows_of_tips.tip_rows.Goals as goal

-- ---- what is known there

-- a counted label is one of n
label_inside : (c : After-is_counted) → c.is_counted.result ≡ true
    → c.from-x.result < c.args.n
label_inside c e = counted_inside _ _ _ (sym e ∙ c.is_counted.ensures)

-- .. and its node has a span
node-inside : (c : After-way_told-then-is_counted-1) → c.from-node.result < node_room
node-inside c =
    omega (
      arith,
      c.from-node.ensures,
      c.requires.node _ (label_inside (goal.at.After-way_told-then-is_counted-1 c).After-is_counted c.if-is_counted.true),
    )

-- ---- the needs

pub bounds-labelled-x : goal.bounds-labelled-x
bounds-labelled-x c = omega (arith, label_inside (goal.at.bounds-labelled-x c).After-is_counted c.if-is_counted.true, c.requires.tips)

pub bounds-begin-node : goal.bounds-begin-node
bounds-begin-node c = omega (arith, node-inside c)

pub loop-v-preserved : goal.loop-v-preserved
loop-v-preserved c =
    let l = c.loop-v in
    let q = c.is_counted.ensures in
    elim c.if-is_counted.branch [
      | then-is_counted h ↦ rw h.work-is (rows_tip _ _ _ _ _ _ _ _ c.requires _ l.v (omega arith) c.loop-v-test.true l.invariant
          c.from-x.result c.from-x.ensures (sym h.if-is_counted.true ∙ q) _ h.from-node.ensures _ h.tip_row.ensures)
      | else-is_counted h ↦ rw h.work-is (rows_empty _ _ _ _ _ _ _ _ c.requires _ l.v (omega arith) c.loop-v-test.true l.invariant
          (sym h.if-is_counted.false ∙ q ∙ ap (counted_label c.args.marks.now c.args.n) c.from-x.ensures) _ h.empty_row.ensures)
    ]
