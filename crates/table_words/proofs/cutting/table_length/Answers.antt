-- The three ways to cut, each the outcome of a law.
-- Assumes nothing.
use native.Mathlib.Omega.{arith}
use Rattle.table_words.proofs.lemmas.CutWords.{length_few, length_short, length_whole}
use Rattle.table_words.proofs.cutting.table_length.Goals as goal

pub returns-then-words-lt2 : goal.returns-then-words-lt2
returns-then-words-lt2 c =
    let a = c.args in
    (length_few a.words.now c.if-words-lt2.true, omega arith)

pub returns-then-words-whole : goal.returns-then-words-whole
returns-then-words-whole c =
    let w = c.from in
    let a = c.args in
    (length_short a.words.now w.result w.ensures (omega arith) c.if-words-whole.true, omega arith)

pub returns : goal.returns
returns c =
    let w = c.from in
    let a = c.args in
    (length_whole a.words.now w.result w.ensures (omega arith) (omega arith), omega arith)
