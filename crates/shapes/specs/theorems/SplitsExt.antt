-- Splits are a matter of the labels that there are: sides that agree on them give the same counts.
-- Assumes nothing.
use Rattle.std.specs.Prelude.{◌≡◌, ℕ, ◌<◌}
use Rattle.shapes.specs.Splits.{Sides}

-- on n labels the two are the same
abbrev pub Agree : ℕ → Sides → Sides → Type 0
Agree n b c = (i x : ℕ) → x < n → b i x ≡ c i x
