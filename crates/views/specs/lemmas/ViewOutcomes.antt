-- What a viewer is told, as code finds it.
-- Assumes nothing.
use Rattle.std.specs.Prelude.{◌≡◌, ℕ, length}
use mathlib.Core.List.{List}
use Rattle.tree_check.specs.Table.{Table}
use Rattle.tree_check.specs.Refusals.{refusal}
use Rattle.quartets.specs.declared.tables.QuartetTable.{QuartetTable}
use Rattle.views.specs.declared.pairs.ViewAnswer.{ViewAnswer}
use Rattle.views.specs.View.{visible, view_answer, after_view}

-- a quartet table and split counts, as one answer
abbrev pub as_view : ℕ → QuartetTable → ℕ → ℕ → ℕ → ℕ → ViewAnswer
as_view visible table first second common robinson = record {
  refusal = 0;
  visible = visible;
  a = table.a;
  b = table.b;
  c = table.c;
  d = table.d;
  e = table.e;
  distance = table.distance;
  first_splits = first;
  second_splits = second;
  common_splits = common;
  robinson_foulds = robinson;
}

abbrev pub PairViewed : Table → Table → List ℕ → ℕ → List ℕ → ViewAnswer → List ℕ → Type 0
PairViewed t u levels viewer work r new =
    (r ≡ view_answer t u levels viewer (length work)) × (new ≡ after_view t u levels viewer work)
