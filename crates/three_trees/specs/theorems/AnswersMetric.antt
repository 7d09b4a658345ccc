-- The distance that `quartet_table` answers is a metric on the trees with n tips, up to their kept splits: the statement.
-- Assumes nothing.
use Rattle.std.specs.Prelude.{List, ℕ}
use Rattle.counting.specs.Kept.{kept}
use Rattle.metric.specs.theorems.IsMetric.{IsMetric, Tree, SameTree}
use Rattle.quartets.specs.QuartetAnswer.{quartet_answer}

-- what `answers_metric` says
abbrev pub AnswersAreMetric : ℕ → List ℕ → ℕ → Type 0
AnswersAreMetric n marks c =
    IsMetric (Tree n) (SameTree (kept marks n)) (λ (t u : Tree n). (quartet_answer t.table u.table marks c).distance)
