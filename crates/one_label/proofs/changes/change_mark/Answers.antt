-- Each return is an outcome of the call's order.
-- Assumes nothing.
use Rattle.std.specs.Prelude.{Ok}
use mathlib.Core.Path.{◌≡◌, sym, ap, ◌∙◌}
use mathlib.Core.Bool.{Bool, true, false, not, ◌&&◌, beq}
use native.Mathlib.Omega.{arith}
use lib.Dec.{eqb}
use Rattle.sums.specs.Fours.{fours}
use Rattle.tree_check.specs.Table.{tips}
use Rattle.marks.specs.Marks.{is_kept, kept_of}
use Rattle.one_label.specs.FiveAnswers.{refused_five, counts_of}
use Rattle.one_label.specs.Changes.{restores, total_of, overdrawn}
use Rattle.one_label.specs.lemmas.LabelCheck.{LabelFound, LabelTold}
use Rattle.one_label.proofs.lemmas.LabelCheck.{label_told}
use Rattle.one_label.proofs.lemmas.Changed.{label_refused, mark_refused, total_refused, draw_refused, change_accepted, all_fit, fours_few}
use Rattle.one_label.proofs.lemmas.Changed.{told_same, told_total, told_draw, kept_fits, total_fits, marks_changed}
use Rattle.one_label.proofs.changes.change_mark.Goals.{After-adds_up, After-is_kept, After-overdraws, In-Ok}
use Rattle.one_label.proofs.changes.change_mark.Goals as goal

-- ---- what is known there

told : (c : In-Ok) → let a = c.args in LabelTold a.first.now a.second.now a.marks.now a.label (Ok c.in-Ok.sizes)
told c = rw c.in-Ok.is at c.check_label-answer.ensures

found : (c : In-Ok) → let s = c.in-Ok.sizes in let a = c.args in
    LabelFound a.first.now a.second.now a.marks.now a.label s.tips s.kept s.first s.second
found c = (told c).found

alike : (c : After-is_kept) (v : Bool) → beq c.is_kept.result c.restores-restore.result ≡ v → let a = c.args in
    beq (is_kept a.marks.now a.label) (restores a.wish) ≡ v
alike c v e = told_same c.args.marks.now _ _ _ _ _ v c.is_kept.ensures c.from-x.ensures c.restores-restore.ensures e

total : (c : After-adds_up) (v : Bool) → c.adds_up.result ≡ v → let a = c.args in
    eqb (total_of (counts_of a.counts)) (fours (kept_of a.marks.now (tips a.first.now))) ≡ v
total c v e = let a = c.args in
    told_total a.first.now a.marks.now a.counts _ _ _ v c.adds_up.ensures c.sets_of_four.ensures
    (found (goal.at.After-adds_up c).In-Ok).kept_are e

drawn : (c : After-overdraws) (v : Bool) → c.overdraws.result ≡ v → let a = c.args in
    (not (restores a.wish) && overdrawn (counts_of a.counts) (counts_of c.held_counts-held.result)) ≡ v
drawn c v e = told_draw c.args.counts _ _ _ _ v c.overdraws.ensures c.restores-restore.ensures e

-- the label was not as wished, and the counts add up
other : (c : After-overdraws) → let a = c.args in
    beq (is_kept a.marks.now a.label) (restores a.wish) ≡ false
other c = alike (goal.at.After-overdraws c).After-is_kept false c.if-is_kept-restore.false

whole : (c : After-overdraws) → let a = c.args in
    eqb (total_of (counts_of a.counts)) (fours (kept_of a.marks.now (tips a.first.now))) ≡ true
whole c = total (goal.at.After-overdraws c).After-adds_up true c.if-not-adds_up.false

pub returns-in_default : goal.returns-in_default
returns-in_default c =
    let o = label_refused c.args.first.now c.args.second.now c.args.marks.now c.args.counts c.args.label c.args.wish _
    (label_told _ _ _ _ _ _ _ c.check_label-answer.ensures c.in_default.is c.refusal_of.ensures) in
    (c.refused.ensures ∙ o.0, o.1)

pub returns-then-is_kept-restore : goal.returns-then-is_kept-restore
returns-then-is_kept-restore c =
    let o = mark_refused c.args.first.now c.args.second.now c.args.marks.now c.args.counts c.args.label c.args.wish _ (told (goal.at.returns-then-is_kept-restore c).In-Ok)
    (alike (goal.at.returns-then-is_kept-restore c).After-is_kept true c.if-is_kept-restore.true) in
    (c.refused-then-is_kept-restore.ensures ∙ ap refused_five c.from.ensures ∙ o.0, o.1)

pub adds_up-requires : goal.adds_up-requires
adds_up-requires c =
    omega (
      arith,
      c.sets_of_four.ensures,
      fours_few _ (kept_fits _ _ _ _ _ _ _ _ (found (goal.at.adds_up-requires c).In-Ok)),
    )

pub returns-then-not-adds_up : goal.returns-then-not-adds_up
returns-then-not-adds_up c =
    let o = total_refused c.args.first.now c.args.second.now c.args.marks.now c.args.counts c.args.label c.args.wish _ (told (goal.at.returns-then-not-adds_up c).In-Ok)
    (alike (goal.at.returns-then-not-adds_up c).After-is_kept false c.if-is_kept-restore.false) (total (goal.at.returns-then-not-adds_up c).After-adds_up false c.if-not-adds_up.true) in
    (c.refused-then-not-adds_up.ensures ∙ ap refused_five c.from-then-not-adds_up.ensures ∙ o.0, o.1)

pub held_counts-held-requires : goal.held_counts-held-requires
held_counts-held-requires c = let f = found (goal.at.held_counts-held-requires c).In-Ok in (f.first_sized, f.second_sized, f.marked, f.label_lt)

pub returns-then-overdraws : goal.returns-then-overdraws
returns-then-overdraws c =
    let o = draw_refused c.args.first.now c.args.second.now c.args.marks.now c.args.counts c.args.label c.args.wish _ (told (goal.at.returns-then-overdraws c).In-Ok)
    (other (goal.at.returns-then-overdraws c).After-overdraws) (whole (goal.at.returns-then-overdraws c).After-overdraws) _ c.held_counts-held.ensures (drawn (goal.at.returns-then-overdraws c).After-overdraws true c.if-overdraws.true) in
    (c.refused-then-overdraws.ensures ∙ ap refused_five c.from-then-overdraws.ensures ∙ o.0, o.1)

pub bounds-marks-x : goal.bounds-marks-x
bounds-marks-x c =
    let f = found (goal.at.bounds-marks-x c).In-Ok in
    omega (arith, f.label_lt, f.marked.long, c.from-x.ensures)

pub changed-requires : goal.changed-requires
changed-requires c =
    all_fit c.args.counts _ _ (total_fits _ _ _ _ _ _ _ _ c.args.counts (found (goal.at.changed-requires c).In-Ok) (whole (goal.at.changed-requires c).After-overdraws))
    c.held_counts-held.ensures.few (sym c.overdraws.ensures ∙ c.if-overdraws.false)

pub returns : goal.returns
returns c =
    marks_changed _ _ _ _ _ _ _ _ _ _ _ c.restores-restore.ensures c.from-x.ensures c.mark_of.ensures
    c.changed.ensures
    (change_accepted c.args.first.now c.args.second.now c.args.marks.now c.args.counts c.args.label c.args.wish _ (told (goal.at.returns c).In-Ok)
    (other (goal.at.returns c).After-overdraws) (whole (goal.at.returns c).After-overdraws) _ c.held_counts-held.ensures (drawn (goal.at.returns c).After-overdraws false c.if-overdraws.false))
