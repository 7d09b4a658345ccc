-- Each return is an outcome of the levels' order.
-- Assumes nothing.
use mathlib.Core.Path.{sym, ◌∙◌}
use Rattle.levels.specs.lemmas.LevelOutcomes.{levels_short, levels_high, viewer_high, levels_right}
use Rattle.levels.proofs.levels.check_levels.Goals as goal

pub returns-then-levels-from : goal.returns-then-levels-from
returns-then-levels-from c =
    c.refused.ensures ∙ levels_short _ _ _ (λ e. c.if-levels-from.true (e ∙ sym c.from.ensures))

pub returns-then-some_high : goal.returns-then-some_high
returns-then-some_high c =
    c.refused-then-some_high.ensures
    ∙ levels_high _ _ _ (c.if-levels-from.false ∙ c.from.ensures) _ c.some_high.ensures c.if-some_high.true

pub returns-then-viewer-gt-HIGHEST : goal.returns-then-viewer-gt-HIGHEST
returns-then-viewer-gt-HIGHEST c =
    c.refused-then-viewer-gt-HIGHEST.ensures
    ∙ viewer_high _ _ _ (c.if-levels-from.false ∙ c.from.ensures) _ c.some_high.ensures c.if-some_high.false
    c.if-viewer-gt-HIGHEST.true

pub returns : goal.returns
returns c =
    levels_right _ _ _ (c.if-levels-from.false ∙ c.from.ensures) _ c.some_high.ensures c.if-some_high.false
    c.if-viewer-gt-HIGHEST.false _ c.visible_labels.ensures
