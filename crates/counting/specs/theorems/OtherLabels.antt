-- Laws of the kept labels other than one, and of sums over them.
-- Assumes nothing.
use Rattle.std.specs.Prelude.{List, ℕ, zero, suc, ◌-◌}
use Rattle.sums.specs.Counts.{count}
use Rattle.counting.specs.Labels.{Labels}
use Rattle.counting.specs.Kept.{kept_at}
use Rattle.counting.specs.Kept.{is_other}

-- some labels without the first of them
abbrev pub after_first : Labels → Labels
after_first l = record { number = l.number - 1; at = λ i. l.at (suc i) }

-- tip 0, then the labels of l
unfoldable pub after_tip0 : (ℕ → ℕ) → ℕ → ℕ
after_tip0 f zero = 0
after_tip0 f (suc i) = f i

abbrev pub with_tip0 : List ℕ → ℕ → Labels
with_tip0 marks n = record { number = suc (count n (is_other marks 0)); at = after_tip0 (kept_at (is_other marks 0) n) }
