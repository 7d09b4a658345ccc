-- A struck label is not counted, nor one that is not below n.
-- Assumes nothing.
use mathlib.Core.Path.{refl, sym, ◌∙◌}
use Rattle.tree_pairs.specs.lemmas.TipRows.{counted_label}
use Rattle.tree_pairs.proofs.rows_of_tips.is_counted.Goals as goal

pub returns-then-not-is_kept : goal.returns-then-not-is_kept
unfolding counted_label
returns-then-not-is_kept c = rw (sym c.is_kept.ensures ∙ c.if-not-is_kept.true) refl

pub returns : goal.returns
unfolding counted_label
returns c = rw (sym c.is_kept.ensures ∙ c.if-not-is_kept.false) refl
