-- What a viewer is told of two tables, and the cells afterwards (docs/SPECIFICATION.md, 'View').
-- Assumes nothing.
use Rattle.std.specs.Prelude.{List, ◌++◌, ℕ, length}
use Rattle.tree_check.specs.Table.{Table, tips}
use Rattle.tree_check.specs.Refusals.{Rule, refusal, if_accepted}
use Rattle.counting.specs.Labels.{Labels}
use Rattle.counting.specs.Kept.{passing}
use Rattle.counting.specs.declared.Case.TheVariants.{A, B, C, D, E}
use Rattle.counting.specs.Cases.{quartets, distance}
use Rattle.counting.specs.SplitCounts.{splits, common_splits, robinson_foulds}
use Rattle.pair_check.specs.PairOrder.{tables_order, work_order}
use Rattle.tree_pairs.specs.Crossings.{crossed}
use Rattle.levels.specs.Levels.{is_visible, levels_order}
use Rattle.views.specs.declared.pairs.ViewAnswer.{ViewAnswer}

-- those of n labels that a viewer sees, by rank
abbrev pub visible : List ℕ → ℕ → ℕ → Labels
visible levels viewer n = passing (is_visible levels viewer) n

-- the order of two tables, then 37, then 9
unfoldable pub view_order : Table → Table → List ℕ → ℕ → ℕ → List Rule
view_order t u levels viewer cells = tables_order t u ++ (levels_order levels viewer (tips t) ++ work_order t u cells)

-- how many these labels are, how many sets of four of them are in each case, and the splits among them
abbrev pub view_over : Labels → Table → Table → ViewAnswer
view_over l t u = record {
  refusal = 0;
  visible = l.number;
  a = quartets l t u A;
  b = quartets l t u B;
  c = quartets l t u C;
  d = quartets l t u D;
  e = quartets l t u E;
  distance = distance l t u;
  first_splits = splits l t;
  second_splits = splits l u;
  common_splits = common_splits l t u;
  robinson_foulds = robinson_foulds l t u;
}

-- the number of a refused call, with zeros
abbrev pub refused_view : ℕ → ViewAnswer
refused_view number = record {
  refusal = number;
  visible = 0;
  a = 0;
  b = 0;
  c = 0;
  d = 0;
  e = 0;
  distance = 0;
  first_splits = 0;
  second_splits = 0;
  common_splits = 0;
  robinson_foulds = 0;
}

-- .. of the visible labels
unfoldable pub view_answer : Table → Table → List ℕ → ℕ → ℕ → ViewAnswer
view_answer t u levels viewer cells =
    let number = refusal (view_order t u levels viewer cells) in
    if_accepted number (view_over (visible levels viewer (tips t)) t u) (refused_view number)

-- the cells afterwards, which stay with the desk: the crossings of the visible labels; a refusal leaves every cell as it was
unfoldable pub after_view : Table → Table → List ℕ → ℕ → List ℕ → List ℕ
after_view t u levels viewer work =
    if_accepted (refusal (view_order t u levels viewer (length work))) (crossed (visible levels viewer (tips t)) t u work) work
