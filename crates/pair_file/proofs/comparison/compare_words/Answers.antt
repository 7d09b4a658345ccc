-- The two parts are the first table and the second.
-- Assumes nothing.
use mathlib.Core.Path.{sym, ◌∙◌}
use native.Mathlib.Omega.{arith}
use lib.Seq.{length-take-le}
use Rattle.pair_file.specs.lemmas.PairFigures.{parts_compared}
use Rattle.pair_file.proofs.comparison.compare_words.Goals as goal

pub slice_bounds-compare_tables-end : goal.slice_bounds-compare_tables-end
slice_bounds-compare_tables-end c = sym (length-take-le _ _ (omega (arith, c.table_length-k.ensures.1)))

pub returns : goal.returns
returns c =
    let f = c.table_length-k in
    let a = c.args in
    c.compare_tables.ensures ∙ parts_compared a.words.now f.result f.ensures.0
