-- What the tree check answers.
-- Assumes nothing.
use Rattle.std.specs.Prelude.{◌≡◌, ℕ, zero, suc, Result, Ok, Err}
use Rattle.tree_check.specs.declared.refusals.TableRefusal.{TableRefusal}
use Rattle.tree_check.specs.declared.table.Tree.{Tree}
use Rattle.tree_check.specs.Numbers.{table_number, table_named}
use Rattle.tree_check.specs.Table.{Table, tips, nodes}
use Rattle.tree_check.specs.Refusals.{refusal, if_accepted}
use Rattle.tree_check.specs.TreeOrder.{tree_order}

-- what the check finds: a tree, or the rule that is broken
abbrev pub Checked : Type 0
Checked = Result Tree TableRefusal

-- accepted with n and m, or refused with the number
unfoldable pub verdict : ℕ → Table → Checked
verdict zero t = Ok (record { tips = tips t; nodes = nodes t })
verdict (suc k) t = Err (table_named (suc k))

unfoldable pub checked : Table → Checked
checked t = verdict (refusal (tree_order t)) t

-- the number and values of each case: 0 with n and m, or the number with zeros
abbrev pub number_of : Checked → ℕ
number_of (Ok tree) = 0
number_of (Err r) = table_number r

abbrev pub tips_of : Checked → ℕ
tips_of (Ok tree) = tree.tips
tips_of (Err r) = 0

abbrev pub nodes_of : Checked → ℕ
nodes_of (Ok tree) = tree.nodes
nodes_of (Err r) = 0

-- an answer tells the tree check's number, and n and m or zeros
pub record TreeTold (t : Table) (r : Checked) : Type 0 where
  pub number_told : number_of r ≡ refusal (tree_order t)
  pub tips_told : tips_of r ≡ if_accepted (refusal (tree_order t)) (tips t) 0
  pub nodes_told : nodes_of r ≡ if_accepted (refusal (tree_order t)) (nodes t) 0
