-- The invariant: the first `i` words are the file's.
-- Assumes nothing.
use mathlib.Core.Path.{◌≡◌}
use lib.ListN.{take}
use Rattle.pair_file.specs.PairFile.{file_words}
use Rattle.pair_file.proofs.words.decode.Given as goal

abbrev pub invariant-loop-i : goal.invariant-loop-i
invariant-loop-i l = take l.i l.words ≡ take l.i (file_words l.bytes)
