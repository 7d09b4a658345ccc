-- Tests as numbers: `bit` is 1 for a test that is passed and 0 for one that is not.
-- Assumes nothing.
use Rattle.std.specs.Prelude.{Bool, true, false, ℕ, eqb}

unfoldable pub bit : Bool → ℕ
bit true = 1
bit false = 0

-- equal numbers, as a bit
abbrev pub is : ℕ → ℕ → ℕ
is a b = bit (eqb a b)
