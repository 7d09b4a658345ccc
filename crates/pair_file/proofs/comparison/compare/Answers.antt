-- Too many bytes, then an odd number of them, then the words that are decoded.
-- Assumes nothing.
use mathlib.Core.Path.{sym, ◌∙◌, ap}
use native.Mathlib.Omega.{arith}
use lib.Seq.{length-take-le}
use Rattle.listings.specs.Listing.{of_refusal}
use Rattle.pair_file.specs.lemmas.PairFigures.{word_figures, file_too_long, file_odd, file_compared}
use Rattle.pair_file.proofs.comparison.compare.Goals as goal

pub returns-then-bytes-gt-BYTES : goal.returns-then-bytes-gt-BYTES
returns-then-bytes-gt-BYTES c =
    let a = c.args in
    c.refused.ensures ∙ ap of_refusal c.from.ensures ∙ file_too_long a.bytes.now c.if-bytes-gt-BYTES.true

pub returns-then-bytes-ne0 : goal.returns-then-bytes-ne0
returns-then-bytes-ne0 c =
    let a = c.args in
    c.refused-then-bytes-ne0.ensures ∙ ap of_refusal c.from-then-bytes-ne0.ensures ∙ file_odd a.bytes.now (omega arith) c.if-bytes-ne0.true

pub slice_bounds-compare_words-end : goal.slice_bounds-compare_words-end
slice_bounds-compare_words-end c =
    let d = c.decode-count in
    sym (length-take-le _ d.new.words (omega (arith, d.auto.words)))

pub returns : goal.returns
returns c =
    let d = c.decode-count in
    let a = c.args in
    c.compare_words.ensures
    ∙ ap word_figures d.ensures.1
    ∙ file_compared a.bytes.now (omega arith) c.if-bytes-ne0.false
