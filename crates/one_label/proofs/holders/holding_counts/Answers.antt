-- Two outcomes.
-- Assumes nothing.
use Rattle.std.specs.Prelude.{Ok}
use mathlib.Core.Path.{◌∙◌}
use Rattle.one_label.specs.lemmas.LabelCheck.{LabelTold}
use Rattle.one_label.proofs.lemmas.LabelCheck.{label_told, held_refused, held_answered}
use Rattle.one_label.proofs.holders.holding_counts.Goals.{In-Ok}
use Rattle.one_label.proofs.holders.holding_counts.Goals as goal

-- what is told of the label
told : (c : In-Ok) → let a = c.args in LabelTold a.first.now a.second.now a.marks.now a.label (Ok c.in-Ok.sizes)
told c = rw c.in-Ok.is at c.check_label-answer.ensures

pub returns-in_default : goal.returns-in_default
returns-in_default c =
    c.refused.ensures
    ∙ held_refused _ _ _ _ _ (label_told _ _ _ _ _ _ _ c.check_label-answer.ensures c.in_default.is c.refusal_of.ensures)

pub held_counts-held-requires : goal.held_counts-held-requires
held_counts-held-requires c =
    let f = (told (goal.at.held_counts-held-requires c).In-Ok).found in (f.first_sized, f.second_sized, f.marked, f.label_lt)

pub returns : goal.returns
returns c = held_answered _ _ _ _ _ (told (goal.at.returns c).In-Ok) _ c.held_counts-held.ensures
