-- The invariant: the numbers before `number` are written.
-- Assumes nothing.
use Prim.Native.Nat.{◌+◌, ◌*◌, ◌≤◌}
use lib.ListN.{take}
use Rattle.listings.specs.lemmas.Written.{TextWritten}
use Rattle.listings.specs.Lines.{spaced_all}
use Rattle.listings.proofs.text.put_numbers.Given as goal

abbrev pub invariant-loop-number : goal.invariant-loop-number
invariant-loop-number l = (l.end ≤ l.at + 21 * l.number-index)
    × TextWritten l.at l.initial.out (spaced_all (take l.number-index l.numbers)) l.end l.out
