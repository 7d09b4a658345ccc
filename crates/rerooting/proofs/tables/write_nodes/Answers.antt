-- What is known where the search needs a hint.
-- Assumes nothing.
use mathlib.Core.Path.{refl, ◌∙◌, ap, subst}
use Prim.Native.Nat.{ℕ, ◌+◌, ◌≤◌, ◌<◌}
use native.Mathlib.Omega.{arith}
use native.Mathlib.Nat.{mod-eq_of_lt}
use lib.ListN.{length, length-set}
use Rattle.tree_check.specs.Table.{word}
use Rattle.rerooting.specs.lemmas.Writing.{NodesWritten, Places, none_written, places, few_nodes, node_written}
use Rattle.rerooting.proofs.tables.write_nodes.Goals.{After-from, After-as_word, In-loop-v}
use Rattle.rerooting.proofs.tables.write_nodes.Goals as goal

-- ---- what is known there

at : (c : In-loop-v) → let v = c.loop-v.v in let news = c.args.news.now in let t = c.args.table.now in
    Places t c.args.m c.args.x news c.requires.0 v (word news v) (word news (word t (2 + v)))
at c = places _ _ _ _ c.requires.0 _ _ _ c.loop-v-test.true refl refl

read : (c : After-from) → let v = c.loop-v.v in let news = c.args.news.now in let t = c.args.table.now in
    Places t c.args.m c.args.x news c.requires.0 v (word news v) (word news c.from.result)
read c = places _ _ _ _ c.requires.0 _ _ _ c.loop-v-test.true refl (ap (word c.args.news.now) c.from.ensures)

low : (c : After-as_word) → (word c.args.news.now c.loop-v.v < 1024) × (c.args.m ≤ 1024)
low c = omega (arith, (read (goal.at.After-as_word c).After-from).low, few_nodes _ _ _ _ c.requires.0, c.requires.0.nodes_are)

inside : (c : After-as_word) → let i = word c.args.news.now c.loop-v.v in
    (2 + i < length c.loop-v.out) × (2 + (c.args.m + i) < length c.loop-v.out)
inside c = omega (arith, (read (goal.at.After-as_word c).After-from).low, c.requires.1, c.requires.0.nodes_are)

pub loop-v-init : goal.loop-v-init
loop-v-init c = none_written _ _ _

pub offset_bounds-news-v : goal.offset_bounds-news-v
offset_bounds-news-v c = omega (arith, (at c).in_news)

pub bounds-news-v : goal.bounds-news-v
bounds-news-v c = omega (arith, (at (goal.at.bounds-news-v c).In-loop-v).in_news)

pub overflow_add-v : goal.overflow_add-v
overflow_add-v c = omega (arith, (at (goal.at.overflow_add-v c).In-loop-v).in_news)

pub offset_bounds-table-v : goal.offset_bounds-table-v
offset_bounds-table-v c = omega (arith, (at (goal.at.offset_bounds-table-v c).In-loop-v).in_news)

pub bounds-table-v : goal.bounds-table-v
bounds-table-v c = (at (goal.at.bounds-table-v c).In-loop-v).in_table.0

pub offset_bounds-news-from : goal.offset_bounds-news-from
offset_bounds-news-from c = omega (arith, (at (goal.at.offset_bounds-news-from c).In-loop-v).parent_in, c.from.ensures)

pub bounds-news-from : goal.bounds-news-from
bounds-news-from c = omega (arith, (at (goal.at.bounds-news-from c).In-loop-v).parent_in, c.from.ensures)

pub overflow_add-out : goal.overflow_add-out
overflow_add-out c = omega (arith, low c, c.loop-v-test.true)

pub offset_bounds-out-i : goal.offset_bounds-out-i
offset_bounds-out-i c = omega (arith, low c, c.loop-v-test.true)

pub bounds-out-i : goal.bounds-out-i
bounds-out-i c = (inside c).0

pub overflow_add-m : goal.overflow_add-m
overflow_add-m c = omega (arith, low c, c.loop-v-test.true)

pub overflow_add-m-in-loop-v : goal.overflow_add-m-in-loop-v
overflow_add-m-in-loop-v c = omega (arith, low c, c.loop-v-test.true)

pub offset_bounds-table-m : goal.offset_bounds-table-m
offset_bounds-table-m c = omega (arith, low c, c.loop-v-test.true)

pub bounds-table-m : goal.bounds-table-m
bounds-table-m c = (at (goal.at.bounds-table-m c).In-loop-v).in_table.1

pub overflow_add-out-in-loop-v : goal.overflow_add-out-in-loop-v
overflow_add-out-in-loop-v c = omega (arith, low (goal.at.overflow_add-out-in-loop-v c).After-as_word, c.loop-v-test.true)

pub overflow_add-out-in-loop-v-2 : goal.overflow_add-out-in-loop-v-2
overflow_add-out-in-loop-v-2 c = omega (arith, low (goal.at.overflow_add-out-in-loop-v-2 c).After-as_word, c.loop-v-test.true)

pub offset_bounds-out-m : goal.offset_bounds-out-m
offset_bounds-out-m c = omega (arith, low (goal.at.offset_bounds-out-m c).After-as_word, c.loop-v-test.true)

pub bounds-out-m : goal.bounds-out-m
bounds-out-m c = rw (length-set c.loop-v.out _ _) (inside (goal.at.bounds-out-m c).After-as_word).1

pub loop-v-preserved : goal.loop-v-preserved
loop-v-preserved c =
    node_written _ _ _ _ c.requires.0 c.loop-v.v _ (word c.args.news.now c.from.result) _ _ c.loop-v-test.true refl
    (ap (word c.args.news.now) c.from.ensures) c.requires.1 _ _ (c.as_word.ensures ∙ mod-eq_of_lt (omega (arith, c.parent_for.ensures, (read (goal.at.loop-v-preserved c).After-from).parent_fits)) ∙ c.parent_for.ensures) c.exchange.ensures c.loop-v.invariant

pub returns : goal.returns
returns c =
    subst (λ (k : ℕ). NodesWritten c.args.table.now c.args.x k c.args.out.now c.loop-v.out) (omega (arith, c.loop-v-test.false)) c.loop-v.invariant
