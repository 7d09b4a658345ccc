-- The labels that are counted, by rank (docs/SPECIFICATION.md, 'Labels that are counted').
-- Assumes nothing.
use Rattle.std.specs.Prelude.{ℕ}

-- so many labels, and the label of each rank
pub record Labels : Type 0 where
  pub number : ℕ
  pub at : ℕ → ℕ

-- every label below n
abbrev pub all : ℕ → Labels
all n = record { number = n; at = λ x. x }
