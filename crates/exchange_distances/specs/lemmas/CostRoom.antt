-- The cost of a node in 64 bits: no product wraps, and no difference goes below 0.
-- Assumes nothing.
use Rattle.std.specs.Prelude.{ℕ, ◌+◌, ◌*◌, ◌-◌, ◌≤◌}
use Rattle.std.proofs.Common.{mul-le-mul, arith}
use Rattle.table_words.specs.Sizes.{tips_most}
use Rattle.exchanges.specs.theorems.PathSum.{cost}
use Rattle.exchanges.specs.theorems.Bounds.{CostFits}
use Rattle.exchanges.proofs.theorems.Bounds.{cost-le}
use Rattle.exchange_distances.specs.lemmas.Powers.{square_le, cube_le}

-- the most that one node takes, for 256 labels: 8 · 256³ + 3 · 256²
abbrev pub cost_most : ℕ
cost_most = 134414336

pub record CostRoom (n e f q : ℕ) : Type 0 where
  pub fits : CostFits n e f q
  pub two : 2 ≤ e + f
  pub tips : n ≤ tips_most

pub record CostParts (n e f q : ℕ) : Type 0 where
  pub square : (n - e - f) * (n - e - f) ≤ 65536
  pub cube : (n - e - f) * ((n - e - f) * (n - e - f)) ≤ 16777216
  pub first : e * e ≤ 65536
  pub second : f * f ≤ 65536
  pub pairs : q ≤ 65536
  pub product : (q - e * e - f * f) * (e + f - 2) ≤ 16777216

pub cost-parts : (n e f q : ℕ) → CostRoom n e f q → CostParts n e f q
cost-parts n e f q h =
    let l = h.tips in
    let m = h.fits.sizes in
    let few : q ≤ 65536 = omega (arith, h.fits.few, square_le n l) in
    let rest : q - e * e - f * f ≤ 65536 = omega arith in
    let others : e + f - 2 ≤ 256 = omega arith in
    let both : (q - e * e - f * f) * (e + f - 2) ≤ 65536 * 256 = mul-le-mul rest others in
    record {
      square = square_le (n - e - f) (omega arith);
      cube = cube_le (n - e - f) (omega arith);
      first = square_le e (omega arith);
      second = square_le f (omega arith);
      pairs = few;
      product = omega arith;
    }

pub cost_most_lem : (n e f q : ℕ) → CostRoom n e f q → cost n e f q ≤ cost_most
cost_most_lem n e f q h = omega (
  arith,
  cost-le n e f q h.fits.sizes h.fits.few,
  square_le n h.tips,
  cube_le n h.tips,
)
