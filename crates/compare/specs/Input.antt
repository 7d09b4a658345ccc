-- The bytes that the program has read. Assumes nothing.
use Rattle.std.specs.Prelude.{ℕ, List, Result, Ok, Err}
use Rattle.std.specs.declared.io.Error.{Error}
use Rattle.io.specs.Counts.{IsPrefixLen}

-- The bytes that came stand in front of the buffer.
abbrev pub Within : Result ℕ Error → List ℕ → Type 0
Within (Ok n) buffer = IsPrefixLen n buffer
Within (Err e) buffer = Unit {0}
