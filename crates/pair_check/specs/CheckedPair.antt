-- What the pair check answers.
-- Assumes nothing.
use Rattle.std.specs.Prelude.{◌≡◌, List, ℕ, ◌-◌, Result, Ok, Err}
use Rattle.tree_check.specs.Table.{Table, tips, nodes}
use Rattle.tree_check.specs.Refusals.{refusal, if_accepted}
use Rattle.tree_check.specs.declared.refusals.Refusal.{Refusal}
use Rattle.tree_check.specs.Numbers.{refusal_number, answer_by}
use Rattle.marks.specs.Marks.{kept_of}
use Rattle.pair_check.specs.declared.pairs.Pair.{Pair}
use Rattle.pair_check.specs.PairOrder.{tables_order, cells_order, pair_order}

-- what the check finds: a pair, or the rule that is broken
abbrev pub CheckedPair : Type 0
CheckedPair = Result Pair Refusal

-- accepted with n, how many labels are counted, m − 1 and m' − 1, or refused with the number
unfoldable pub pair_verdict : ℕ → Table → Table → ℕ → CheckedPair
pair_verdict k t u counted = answer_by k (record { tips = tips t; counted = counted; rows = nodes t - 1; columns = nodes u - 1 })

-- by the tables alone: all labels are counted
unfoldable pub checked_pair : Table → Table → CheckedPair
checked_pair t u = pair_verdict (refusal (tables_order t u)) t u (tips t)

-- .. and by the number of work cells
unfoldable pub checked_cells : Table → Table → ℕ → CheckedPair
checked_cells t u cells = pair_verdict (refusal (cells_order t u cells)) t u (tips t)

-- .. and by the marks: the kept labels are counted
unfoldable pub checked_work : Table → Table → List ℕ → ℕ → CheckedPair
checked_work t u marks cells = pair_verdict (refusal (pair_order t u marks cells)) t u (kept_of marks (tips t))

-- the number and values of each case: 0 with n, the counted labels and the edges of both trees, or the number with zeros
abbrev pub pair_number : CheckedPair → ℕ
pair_number (Ok pair) = 0
pair_number (Err r) = refusal_number r

abbrev pub pair_tips : CheckedPair → ℕ
pair_tips (Ok pair) = pair.tips
pair_tips (Err r) = 0

abbrev pub counted_of : CheckedPair → ℕ
counted_of (Ok pair) = pair.counted
counted_of (Err r) = 0

abbrev pub rows_of : CheckedPair → ℕ
rows_of (Ok pair) = pair.rows
rows_of (Err r) = 0

abbrev pub columns_of : CheckedPair → ℕ
columns_of (Ok pair) = pair.columns
columns_of (Err r) = 0

-- an answer tells this number, and the values or zeros
pub record PairTold (number : ℕ) (t u : Table) (counted : ℕ) (r : CheckedPair) : Type 0 where
  pub number_told : pair_number r ≡ number
  pub tips_told : pair_tips r ≡ if_accepted number (tips t) 0
  pub counted_told : counted_of r ≡ if_accepted number counted 0
  pub rows_told : rows_of r ≡ if_accepted number (nodes t - 1) 0
  pub columns_told : columns_of r ≡ if_accepted number (nodes u - 1) 0
