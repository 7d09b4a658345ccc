-- Four different labels below n, in any order.
-- Assumes nothing.
use Rattle.std.specs.Prelude.{◌≢◌, ℕ, ◌<◌}

pub record Four (n a b c d : ℕ) : Type 0 where
  pub la : a < n
  pub lb : b < n
  pub lc : c < n
  pub ld : d < n
  pub ab : a ≢ b
  pub ac : a ≢ c
  pub ad : a ≢ d
  pub bc : b ≢ c
  pub bd : b ≢ d
  pub cd : c ≢ d
