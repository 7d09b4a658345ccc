-- The three tests, each the outcome of a law.
-- Assumes nothing.
use Rattle.std.proofs.Common.{refl, sym, arith}
use Rattle.tree_check.specs.theorems.NumberLaws.{answer_ok, answer_err}
use Rattle.walks.specs.lemmas.SpanLists.{rooms_few, begins_few, ends_few, rooms_enough}
use Rattle.walks.proofs.span_lists.have_room.Goals as goal

pub returns-then-labelled-n : goal.returns-then-labelled-n
returns-then-labelled-n c =
    let a = c.args in
    answer_err _ _ _ (sym (rooms_few a.labelled a.begin a.end a.n a.m c.if-labelled-n.true))

pub returns-then-begin-m : goal.returns-then-begin-m
returns-then-begin-m c =
    let a = c.args in
    answer_err _ _ _ (sym (begins_few a.labelled a.begin a.end a.n a.m (omega (arith, c.if-labelled-n.false)) c.if-begin-m.true))

pub returns-then-end-m : goal.returns-then-end-m
returns-then-end-m c =
    let a = c.args in
    answer_err _ _ _ (sym (ends_few a.labelled a.begin a.end a.n a.m (omega (arith, c.if-labelled-n.false))
    (omega (arith, c.if-begin-m.false)) c.if-end-m.true))

pub returns : goal.returns
returns c =
    let a = c.args in
    answer_ok _ _ _ (sym (rooms_enough a.labelled a.begin a.end a.n a.m (omega (arith, c.if-labelled-n.false))
    (omega (arith, c.if-begin-m.false)) (omega (arith, c.if-end-m.false)))) refl
