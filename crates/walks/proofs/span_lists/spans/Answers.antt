-- Each return is an outcome of the order of spans; the lists are those of the table made of its parts.
-- Assumes nothing.
use Rattle.std.proofs.Common.{◌≡◌, refl, ℕ, ◌+◌, ◌-◌, ◌≤◌, length, take, drop, sym, ap, ◌∙◌, ap₂, arith}
use Rattle.sums.specs.Lists.{in_front}
use Rattle.table_words.specs.Sizes.{node_room}
use Rattle.tree_check.specs.Table.{Table, tips, nodes, node_of}
use Rattle.tree_check.specs.lemmas.TableParts.{table_of, rest, to_parts, of_parts, table_of-parts}
use Rattle.tree_check.specs.lemmas.TableParts.{parents-length, labels_length}
use Rattle.tree_check.specs.IsTree.{IsTree}
use Rattle.tree_check.specs.theorems.CheckLaws.{checked_accepted, table_told}
use Rattle.tree_check.specs.Refusals.{refusal}
use Rattle.tree_check.specs.theorems.NumberLaws.{answered_ok}
use Rattle.walks.specs.Spans.{lists_order, span_begin, span_end}
use Rattle.walks.specs.lemmas.TreeArrays.{TreeArrays, tree_arrays}
use Rattle.walks.specs.lemmas.SpanLists.{lists_passed, listed-all, spans_tree_refused, spans_too_short, spans_room, spans_filled}
use Rattle.walks.proofs.span_lists.spans.Goals.{After-from-m, In_default-have_room}
use Rattle.walks.proofs.span_lists.spans.Goals as goal

-- ---- what is known there

-- the table is a tree table, and n and m are its own
record Known (c : After-from-m) : Type 0 where
  tree : IsTree c.args.table.now
  n_is : c.from-n.result ≡ tips c.args.table.now
  m_is : c.from-m.result ≡ nodes c.args.table.now

known : (c : After-from-m) → Known c
known c =
    let a = checked_accepted _ _ (sym c.check-answer.ensures.0 ∙ c.in-Ok.is) in
    record { tree = a.0; n_is = c.from-n.ensures ∙ a.1; m_is = c.from-m.ensures ∙ a.2 }

-- the lists are long enough
kept : (c : In_default-have_room)
    → 0 ≡ refusal (lists_order (length c.args.labelled.now) (length c.args.begin.now) (length c.args.end.now) c.from-n.result c.from-m.result)
kept c = sym (answered_ok _ _ _ c.in_default-have_room.ensures).0

room : (c : In_default-have_room)
    → (c.from-n.result ≤ length c.args.labelled.now)
    × (c.from-m.result ≤ length c.args.begin.now)
    × (c.from-m.result ≤ length c.args.end.now)
room c =
    let k = known (goal.at.In_default-have_room c).After-from-m in
    spans_room c.args.table.now c.args.labelled.now c.args.begin.now c.args.end.now _ k.tree _ _
    k.n_is k.m_is (kept c) refl

-- the arrays of the table, as they are lent
arrays : (c : After-from-m)
    → TreeArrays c.from-n.result
    (take (2 + c.from-m.result - 2) (drop 2 c.args.table.now))
    (rest (2 + c.from-m.result) c.args.table.now)
arrays c = let k = known c in to_parts TreeArrays _ _ _ k.tree.words k.n_is k.m_is (tree_arrays _ k.tree)

-- ---- the needs

pub returns-in-Err : goal.returns-in-Err
returns-in-Err c =
    let k = known (goal.at.returns-in-Err c).After-from-m in
    let h = lists_passed _ _ _ _ _ _ _ c.in-Err.ensures c.from.ensures in
    spans_too_short _ _ _ _ _ k.tree _ _ k.n_is k.m_is (sym h.0) h.1

pub returns-in_default : goal.returns-in_default
returns-in_default c =
    let h = table_told _ _ _ _ c.check-answer.ensures.0 c.in_default.is c.refusal_of.ensures in
    spans_tree_refused _ _ _ _ _ h.0 h.1

pub slice_bounds-list_nodes-count : goal.slice_bounds-list_nodes-count
slice_bounds-list_nodes-count c = let k = known (goal.at.slice_bounds-list_nodes-count c).After-from-m in omega (arith, k.m_is, k.tree.words)

pub slice_bounds-list_nodes-start : goal.slice_bounds-list_nodes-start
slice_bounds-list_nodes-start c = let k = known (goal.at.slice_bounds-list_nodes-start c).After-from-m in omega (arith, k.m_is, k.tree.words)

pub list_nodes-requires : goal.list_nodes-requires
list_nodes-requires c =
    let k = known (goal.at.list_nodes-requires c).After-from-m in (
      to_parts (λ n ps ls. length ls ≤ node_room) _ _ _ k.tree.words k.n_is k.m_is
          (let g = k.tree in omega (arith, labels_length _ g.words, g.tips_range, g.nodes_range)),
      (room (goal.at.list_nodes-requires c).In_default-have_room).0,
    )

pub slice_bounds-list_spans-end : goal.slice_bounds-list_spans-end
slice_bounds-list_spans-end c = let k = known (goal.at.slice_bounds-list_spans-end c).After-from-m in omega (arith, k.m_is, k.tree.words)

pub slice_bounds-list_spans-count-2 : goal.slice_bounds-list_spans-count-2
slice_bounds-list_spans-count-2 c = let k = known (goal.at.slice_bounds-list_spans-count-2 c).After-from-m in omega (arith, k.m_is, k.tree.words)

pub slice_bounds-list_spans-start-2 : goal.slice_bounds-list_spans-start-2
slice_bounds-list_spans-start-2 c = let k = known (goal.at.slice_bounds-list_spans-start-2 c).After-from-m in omega (arith, k.m_is, k.tree.words)

pub list_spans-requires : goal.list_spans-requires
list_spans-requires c =
    let k = known (goal.at.list_spans-requires c).After-from-m in
    let q = room (goal.at.list_spans-requires c).In_default-have_room in (
      arrays (goal.at.list_spans-requires c).After-from-m,
      to_parts (λ n ps ls. length ps ≤ length c.args.begin.now) _ _ _ k.tree.words k.n_is k.m_is
          (omega (arith, parents-length _ k.tree.words, k.m_is, q.1)),
      to_parts (λ n ps ls. length ps ≤ length c.args.end.now) _ _ _ k.tree.words k.n_is k.m_is
          (omega (arith, parents-length _ k.tree.words, k.m_is, q.2)),
    )

pub returns : goal.returns
returns c =
    let k = known (goal.at.returns c).After-from-m in
    let parts = table_of-parts _ k.tree.words in
    spans_filled _ _ _ _ _ k.tree _ _ k.n_is k.m_is (kept (goal.at.returns c).In_default-have_room) refl _ _ _
    (of_parts (λ n ps ls. c.list_nodes.new.labelled ≡ in_front n (node_of (table_of n ps ls)) c.args.labelled.now)
    _ _ _ k.tree.words k.n_is k.m_is (listed-all _ _ _ (arrays (goal.at.returns c).After-from-m) _ _ (room (goal.at.returns c).In_default-have_room).0 c.list_nodes.ensures)
    ∙ ap (λ (t : Table). in_front (tips c.args.table.now) (node_of t) c.args.labelled.now) parts)
    (of_parts (λ n ps ls. c.list_spans.new.begin ≡ in_front (length ps) (span_begin (table_of n ps ls)) c.args.begin.now)
    _ _ _ k.tree.words k.n_is k.m_is c.list_spans.ensures.0
    ∙ ap₂ (λ (i : ℕ) (t : Table). in_front i (span_begin t) c.args.begin.now) (parents-length _ k.tree.words) parts)
    (of_parts (λ n ps ls. c.list_spans.new.end ≡ in_front (length ps) (span_end (table_of n ps ls)) c.args.end.now)
    _ _ _ k.tree.words k.n_is k.m_is c.list_spans.ensures.1
    ∙ ap₂ (λ (i : ℕ) (t : Table). in_front i (span_end t) c.args.end.now) (parents-length _ k.tree.words) parts)
