-- A number in decimal, without leading zeros, as `io::decimal` writes it.
-- Assumes nothing.
use Rattle.std.specs.Prelude.{true, false, List, [], ◌∷◌, ◌++◌, ℕ, zero, suc, ◌/◌, ◌%◌, ltb}
use Rattle.io.specs.Digits.{hex_digit_ascii}

-- the last digit of n, in ASCII
abbrev pub last_digit : ℕ → List ℕ
last_digit n = hex_digit_ascii (n % 10) ∷ []

-- n in at most k + 1 digits, without leading zeros: the digits of n / 10, if that is not 0, then the last digit of n
unfoldable pub decimal_in : ℕ → ℕ → List ℕ
decimal_in zero n = last_digit n
decimal_in (suc k) n = elim (ltb n 10) [ true ↦ last_digit n | false ↦ decimal_in k (n / 10) ++ last_digit n ]

-- the decimal digits of n, without leading zeros; n + 1 digits are always enough
unfoldable pub decimal_of : ℕ → List ℕ
decimal_of n = decimal_in n n
