-- The number of the tables, or what follows it.
-- Assumes nothing.
use mathlib.Core.Path.{refl, sym}
use Rattle.pair_check.specs.lemmas.PairOutcomes.{pair_passed}
use Rattle.capi.specs.lemmas.MarkLaws.{tables_first, tables_or_32}
use Rattle.capi.proofs.labels.tables_or_32.Goals as goal

pub returns-in-Ok : goal.returns-in-Ok
returns-in-Ok c = tables_or_32 _ _ (sym c.in-Ok.ensures.1.number_told)

pub returns-in-Err : goal.returns-in-Err
returns-in-Err c = let h = pair_passed _ _ _ _ _ c.in-Err.ensures.0 refl c.from.ensures in tables_first _ _ _ _ h.0 h.1
