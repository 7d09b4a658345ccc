-- The invariant: the nodes below `v` are written.
-- Assumes nothing.
use Prim.Native.Nat.{ℕ}
use Rattle.canonical_copy.specs.lemmas.Writing.{Writable, CopyWritten}
use mathlib.Core.List.{List}
use Rattle.canonical_copy.proofs.words.write_words.Given as goal

abbrev pub invariant-loop-v : goal.invariant-loop-v
invariant-loop-v l = (old : List ℕ) → Writable l.bits l.numbers l.m l.count old → CopyWritten l.ranks l.bits l.numbers l.above 0 l.k l.count old l.initial.copy
    → CopyWritten l.ranks l.bits l.numbers l.above l.v l.k l.count old l.copy
