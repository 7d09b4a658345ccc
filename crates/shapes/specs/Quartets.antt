-- Four nodes parted two and two by an edge.
-- Assumes nothing.
use Rattle.std.specs.Prelude.{◌≡◌, Bool, not, ◌&&◌, ◌||◌, ℕ, suc, ◌+◌, ◌≤◌}
use Rattle.std.specs.Bool.{beq}
use Rattle.sums.specs.Bits.{bit}
use Rattle.sums.specs.Tests.{some}
use Rattle.shapes.specs.Ancestors.{anc}

-- edge i has a, b on one side and c, d on the other
unfoldable pub parts : (ℕ → ℕ) → ℕ → ℕ → ℕ → ℕ → ℕ → Bool
parts up i a b c d =
    beq (anc up i a) (anc up i b)
    && beq (anc up i c) (anc up i d)
    && not (beq (anc up i a) (anc up i c))

-- edge i has two of the four on each side
unfoldable pub parts_four : (ℕ → ℕ) → ℕ → ℕ → ℕ → ℕ → ℕ → Bool
parts_four up i a b c d = parts up i a b c d || parts up i a c b d || parts up i a d b c

-- one of the k edges has a, b on one side and c, d on the other
unfoldable pub parted : (ℕ → ℕ) → ℕ → ℕ → ℕ → ℕ → ℕ → Bool
parted up k a b c d = some k (λ j. parts up (suc j) a b c d)

-- ---- the same in ordinary mathematics

pub record Apart (up : ℕ → ℕ) (i a b c d : ℕ) : Type 0 where
  pub ab : bit (anc up i a) ≡ bit (anc up i b)
  pub cd : bit (anc up i c) ≡ bit (anc up i d)
  pub ac : bit (anc up i a) + bit (anc up i c) ≡ 1

-- edge i has two of the four on each side
pub data TwoAndTwo (up : ℕ → ℕ) (i a b c d : ℕ) : Type 0 where
  with_b : Apart up i a b c d → TwoAndTwo up i a b c d
  with_c : Apart up i a c b d → TwoAndTwo up i a b c d
  with_d : Apart up i a d b c → TwoAndTwo up i a b c d

abbrev pub Parted : (ℕ → ℕ) → ℕ → ℕ → ℕ → ℕ → ℕ → Type 0
Parted up k a b c d = (i : ℕ) × (1 ≤ i) × (i ≤ k) × Apart up i a b c d
