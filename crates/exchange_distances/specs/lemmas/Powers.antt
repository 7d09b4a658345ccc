-- Products of numbers up to 256.
-- Assumes nothing.
use Rattle.std.specs.Prelude.{ℕ, ◌*◌, ◌≤◌}
use Rattle.std.proofs.Common.{mul-le-mul, arith}

pub square_le : (a : ℕ) → a ≤ 256 → a * a ≤ 65536
square_le a l = let r : a * a ≤ 256 * 256 = mul-le-mul l l in omega arith

pub cube_le : (a : ℕ) → a ≤ 256 → a * (a * a) ≤ 16777216
cube_le a l = let r : a * (a * a) ≤ 256 * 65536 = mul-le-mul l (square_le a l) in omega arith
