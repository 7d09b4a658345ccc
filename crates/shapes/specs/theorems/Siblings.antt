-- Two nodes in different branches: two children of one node, one above each.
-- Assumes nothing.
use Rattle.std.specs.Prelude.{◌≡◌, ◌≢◌, ℕ, ◌≤◌}
use Rattle.std.proofs.Common.{sym}
use Rattle.sums.specs.Bits.{bit}
use Rattle.shapes.specs.Ancestors.{anc}

-- two children of one node, one above i and one above j
pub record Siblings (up : ℕ → ℕ) (i j : ℕ) : Type 0 where
  pub one : ℕ
  pub two : ℕ
  pub pos_one : 1 ≤ one
  pub pos_two : 1 ≤ two
  pub level : up one ≡ up two
  pub apart : one ≢ two
  pub over_one : bit (anc up one i) ≡ 1
  pub over_two : bit (anc up two j) ≡ 1

abbrev pub siblings_sym : {up : ℕ → ℕ} {i j : ℕ} → Siblings up i j → Siblings up j i
siblings_sym s = record {
  one = s.two;
  two = s.one;
  pos_one = s.pos_two;
  pos_two = s.pos_one;
  level = sym s.level;
  apart = λ e. s.apart (sym e);
  over_one = s.over_two;
  over_two = s.over_one;
}
