-- What is known where the search needs a hint.
-- Assumes nothing.
use Rattle.std.proofs.Common.{arith}
use Rattle.walks.specs.lemmas.SpanLists.{listed_next, listed_skip}
use Rattle.walks.proofs.span_lists.list_nodes.Goals.{else-is_label, then-is_label}
use Rattle.walks.proofs.span_lists.list_nodes.Goals as goal

pub loop-v-preserved : goal.loop-v-preserved
loop-v-preserved c =
    let l = c.loop-v in
    let w = c.from-x in
    elim c.if-is_label.branch [
      | then-is_label h ↦ rw h.labelled-is (listed_next _ _ l.v _ _ l.invariant w.result _ w.ensures h.if-is_label.true c.requires.1
          h.as_word.ensures (omega (arith, c.loop-v-test.true, c.requires.0)))
      | else-is_label h ↦ rw h.labelled-is (listed_skip _ _ l.v _ _ l.invariant (omega (arith, h.if-is_label.false, w.ensures)))
    ]
