-- The invariant: the places of the nodes before `v` are written.
-- Assumes nothing.
use Rattle.std.proofs.Common.{◌≡◌}
use Rattle.sums.specs.Lists.{in_front}
use Rattle.tree_check.specs.lemmas.TableParts.{table_of}
use Rattle.walks.specs.Spans.{span_begin, span_end}
use Rattle.walks.proofs.span_lists.list_spans.Given as goal

abbrev pub invariant-loop-v : goal.invariant-loop-v
invariant-loop-v l = (l.begin ≡ in_front l.v (span_begin (table_of l.n l.parents l.labels)) l.initial.begin)
    × (l.end ≡ in_front l.v (span_end (table_of l.n l.parents l.labels)) l.initial.end)
