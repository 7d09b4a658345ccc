-- Each return is an outcome of the walk's order; the cells are those of the table made of its parts.
-- Assumes nothing.
use Rattle.std.proofs.Common.{◌≡◌, sym, ap, ◌∙◌, arith}
use Rattle.tree_check.specs.Table.{Table, tips, nodes}
use Rattle.tree_check.specs.lemmas.TableParts.{table_of, to_parts, of_parts, table_of-parts}
use Rattle.tree_check.specs.IsTree.{IsTree}
use Rattle.tree_check.specs.theorems.CheckLaws.{checked_accepted, table_told}
use Rattle.walks.specs.Walk.{walked}
use Rattle.walks.specs.lemmas.TreeArrays.{TreeArrays, tree_arrays}
use Rattle.walks.specs.lemmas.WalkOutcomes.{room_kept, room_passed, walk_tree_refused, walk_too_short, walk_accepted}
use Rattle.walks.proofs.walks.walk.Goals.{After-from-n}
use Rattle.walks.proofs.walks.walk.Goals as goal

-- ---- what is known there

-- the table is a tree table, and n and m are its own
record Known (c : After-from-n) : Type 0 where
  tree : IsTree c.args.table.now
  n_is : c.from-n.result ≡ tips c.args.table.now
  m_is : c.in-Ok.tree.nodes ≡ nodes c.args.table.now

known : (c : After-from-n) → Known c
known c =
    let a = checked_accepted _ _ (sym c.check-answer.ensures.0 ∙ c.in-Ok.is) in
    record { tree = a.0; n_is = c.from-n.ensures ∙ a.1; m_is = a.2 }

pub returns-in_default : goal.returns-in_default
returns-in_default c =
    let h = table_told _ _ _ _ c.check-answer.ensures.0 c.in_default.is c.refusal_of.ensures in
    walk_tree_refused _ _ _ h.0 h.1

pub returns-in-Err : goal.returns-in-Err
returns-in-Err c =
    let k = known (goal.at.returns-in-Err c).After-from-n in
    let h = room_passed _ _ _ _ (rw k.n_is at c.in-Err.ensures) c.from.ensures in
    walk_too_short _ _ k.tree _ (sym h.0) h.1

pub slice_bounds-write_walk-end : goal.slice_bounds-write_walk-end
slice_bounds-write_walk-end c = let k = known (goal.at.slice_bounds-write_walk-end c).After-from-n in omega (arith, c.from-m.ensures, k.m_is, k.tree.words)

pub slice_bounds-write_walk-count-2 : goal.slice_bounds-write_walk-count-2
slice_bounds-write_walk-count-2 c = let k = known (goal.at.slice_bounds-write_walk-count-2 c).After-from-n in omega (arith, c.from-m.ensures, k.m_is, k.tree.words)

pub slice_bounds-write_walk-start-2 : goal.slice_bounds-write_walk-start-2
slice_bounds-write_walk-start-2 c = let k = known (goal.at.slice_bounds-write_walk-start-2 c).After-from-n in omega (arith, c.from-m.ensures, k.m_is, k.tree.words)

pub write_walk-requires : goal.write_walk-requires
write_walk-requires c =
    let k = known (goal.at.write_walk-requires c).After-from-n in (
      to_parts TreeArrays _ _ _ k.tree.words k.n_is (c.from-m.ensures ∙ k.m_is) (tree_arrays _ k.tree),
      room_kept _ _ c.in_default-has_room.ensures,
    )

pub returns : goal.returns
returns c =
    let k = known (goal.at.returns c).After-from-n in
    let cells = c.args.cells.now in
    let w = walk_accepted _ cells k.tree (omega (arith, k.n_is, room_kept _ _ c.in_default-has_room.ensures)) in (
      w.0,
      of_parts (λ n ps ls. c.write_walk.new.cells ≡ walked (table_of n ps ls) cells)
          _ _ _ k.tree.words k.n_is (c.from-m.ensures ∙ k.m_is) c.write_walk.ensures
          ∙ ap (λ (t : Table). walked t cells) (table_of-parts _ k.tree.words)
          ∙ w.1,
    )
