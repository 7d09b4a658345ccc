-- A tree replaced by another accepted table of that n with the same kept splits gives the same quartet table: the statement.
-- Assumes nothing.
use Rattle.std.specs.Prelude.{◌≡◌, List, ℕ}
use Rattle.tree_check.specs.Table.{Table, tips}
use Rattle.counting.specs.Kept.{kept}
use Rattle.counting.specs.SplitCounts.{HaveSameSplits}
use Rattle.quartets.specs.QuartetAnswer.{quartet_answer}

-- what `replaced` says: as the first of two
abbrev pub ReplacedFirst : Table → Table → Table → List ℕ → ℕ → ℕ → Type 0
ReplacedFirst t t' u marks c c' =
    HaveSameSplits (kept marks (tips t)) t t' → (quartet_answer t u marks c).refusal ≡ 0
    → (quartet_answer t' u marks c').refusal ≡ 0 → quartet_answer t' u marks c' ≡ quartet_answer t u marks c
