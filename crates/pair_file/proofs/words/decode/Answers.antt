-- What is known where the search needs a hint.
-- Assumes nothing.
use mathlib.Core.Path.{◌≡◌, refl}
use Prim.Native.Nat.{◌/◌}
use native.Mathlib.Omega.{arith}
use lib.ListN.{length}
use Rattle.pair_file.specs.lemmas.FileWords.{words_next, words_all}
use Rattle.pair_file.proofs.words.decode.Goals as goal

-- ---- the needs

pub loop-i-preserved : goal.loop-i-preserved
loop-i-preserved c =
    let l = c.loop-i in
    words_next c.args.bytes.now l.words l.i c.word_of.result (omega arith) (omega arith) l.invariant c.word_of.ensures

pub returns : goal.returns
returns c =
    let l = c.loop-i in
    let e : l.i ≡ length c.args.bytes.now / 2 = omega (arith, c.loop-i-test.false) in
    (refl, words_all c.args.bytes.now l.words _ refl (rw e at l.invariant))
