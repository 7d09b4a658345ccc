-- Two tables, the marks and a label, as code checks them.
-- Assumes nothing.
use Rattle.std.specs.Prelude.{◌≡◌, List, ℕ, ◌<◌, Result, IfOk}
use Rattle.tree_check.specs.Table.{Table, tips}
use Rattle.tree_check.specs.Refusals.{refusal}
use Rattle.tree_check.specs.declared.refusals.Refusal.{Refusal}
use Rattle.tree_check.specs.theorems.NumberLaws.{answer_number}
use Rattle.marks.specs.Marks.{kept_of, AreMarks}
use Rattle.tree_check.specs.lemmas.Sized.{Sized}
use Rattle.one_label.specs.declared.checks.Sizes.{Sizes}
use Rattle.one_label.specs.FiveAnswers.{holding_order}

-- a pair, its marks and one of its labels, with n tips, some kept, and m and k nodes
pub record LabelFound (t u : Table) (marks : List ℕ) (x n some m k : ℕ) : Type 0 where
  pub first_sized : Sized t n m
  pub second_sized : Sized u n k
  pub marked : AreMarks marks n
  pub label_lt : x < n
  pub kept_are : some ≡ kept_of marks (tips t)

-- what the check answers: a label found, or the first rule that is broken
pub record LabelTold (t u : Table) (marks : List ℕ) (x : ℕ) (r : Result Sizes Refusal) : Type 0 where
  pub number : answer_number r ≡ refusal (holding_order t u marks x)
  pub found : IfOk r (λ sizes. LabelFound t u marks x sizes.tips sizes.kept sizes.first sizes.second)
