-- What the program takes from a read's answer: the bytes that came stand within the buffer.
-- Assumes nothing.
use Rattle.std.specs.Prelude.{ℕ, ◌≤◌, min, ◌≡◌, List, length, Result, Ok, Err}
use Rattle.std.specs.declared.io.Error.{Error}
use Rattle.std.proofs.Common.{arith, sym, subst, length-take-le}
use Rattle.io.specs.Counts.{IsPrefixLen}
use Rattle.compare.specs.Input.{Within}

-- A read of at most `most` bytes answers how many came, none at the end, or an error where it failed.
abbrev pub read_answer : Result ℕ Error → ℕ → Result ℕ Error
read_answer (Ok n) most = Ok (min n most)
read_answer (Err e) most = Err e

pub within_of_le : (n : ℕ) (buffer : List ℕ) → n ≤ length buffer → Within (Ok n) buffer
within_of_le n buffer h = (h, sym (length-take-le n buffer h))

pub answered_within : (got : Result ℕ Error) (buffer : List ℕ) → Within (read_answer got (length buffer)) buffer
answered_within (Ok n) buffer = within_of_le _ buffer (omega arith)
answered_within (Err e) buffer = tt

pub counts_of_within : (input : Result ℕ Error) (n : ℕ) (buffer : List ℕ) → Within input buffer → input ≡ Ok n → IsPrefixLen n buffer
counts_of_within input n buffer h e = subst (λ i. Within i buffer) e h
