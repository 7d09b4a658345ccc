-- What is known where the search needs a hint.
-- Assumes nothing.
use mathlib.Core.Path.{◌≡◌}
use Prim.Native.Nat.{◌+◌, ◌*◌, ◌≤◌, ◌<◌}
use native.Mathlib.Omega.{arith}
use lib.ListN.{length}
use Rattle.table_words.specs.Sizes.{node_room}
use Rattle.tree_check.specs.Table.{word}
use Rattle.canonical_copy.specs.lemmas.Writing.{CopyWritten}
use Rattle.canonical_copy.proofs.lemmas.Writing.{written_none, written_skip, written_room, written-take}
use lib.ListN.{length-set}
use Rattle.canonical_copy.proofs.words.write_words.Goals.{else-bits-v-eq1, then-bits-v-eq1, After-from-i, In-loop-v}
use Rattle.canonical_copy.proofs.words.write_words.Goals as goal

-- what is written when the loop comes to node v
begun : (c : In-loop-v)
    → let s = c.args in
    CopyWritten s.ranks.now s.bits.now s.numbers.now s.above.now c.loop-v.v s.k s.count s.copy.now
    c.loop-v.copy
begun c =
    c.loop-v.invariant _ c.requires (written_none _ _ _ _ _ _ _ _ c.requires.room (omega (arith, c.as_word.ensures, c.requires.count_few)))

-- the words of a node that stays are in the slice
room : (c : After-from-i)
    → let n = c.args.count in
    (c.from-i.result < n) × (n ≤ node_room) × (2 + 2 * n ≤ length c.loop-v.copy)
room c =
    let q = written_room _ _ _ _ _ _ _ c.loop-v.v _ _ c.requires c.loop-v-test.true (begun (goal.at.After-from-i c).In-loop-v) c.if-bits-v-eq1.true in
    omega (arith, q, c.from-i.ensures)

pub bounds-copy-0 : goal.bounds-copy-0
bounds-copy-0 c = omega (arith, c.requires.room)

pub bounds-copy-1 : goal.bounds-copy-1
bounds-copy-1 c = omega (arith, c.requires.room, length-set c.args.copy.now 0 c.args.k)

pub loop-v-init : goal.loop-v-init
loop-v-init c = λ old y w. w

pub overflow_add-copy : goal.overflow_add-copy
overflow_add-copy c = omega (arith, room (goal.at.overflow_add-copy c).After-from-i)

pub bounds-copy-i : goal.bounds-copy-i
bounds-copy-i c = omega (arith, room (goal.at.bounds-copy-i c).After-from-i)

pub overflow_add-copy-then-bits-v-eq1 : goal.overflow_add-copy-then-bits-v-eq1
overflow_add-copy-then-bits-v-eq1 c = omega (arith, room (goal.at.overflow_add-copy-then-bits-v-eq1 c).After-from-i)

pub overflow_add-copy-then-bits-v-eq1-2 : goal.overflow_add-copy-then-bits-v-eq1-2
overflow_add-copy-then-bits-v-eq1-2 c = omega (arith, room (goal.at.overflow_add-copy-then-bits-v-eq1-2 c).After-from-i)

pub bounds-copy-count : goal.bounds-copy-count
bounds-copy-count c =
    omega (arith, room (goal.at.bounds-copy-count c).After-from-i, length-set c.loop-v.copy (2 + c.from-i.result) (word c.args.above.now c.loop-v.v))

pub loop-v-preserved : goal.loop-v-preserved
loop-v-preserved c =
    λ old y w. elim c.if-bits-v-eq1.branch [
      | then-bits-v-eq1 h ↦ rw h.copy-is (written-take _ _ _ _ _ _ _ c.loop-v.v _ _ y c.loop-v-test.true (c.loop-v.invariant old y w) h.if-bits-v-eq1.true _ _
          h.from-i.ensures h.label_for.ensures)
      | else-bits-v-eq1 h ↦ rw h.copy-is (written_skip _ _ _ _ _ _ _ c.loop-v.v _ _ y c.loop-v-test.true (c.loop-v.invariant old y w) h.if-bits-v-eq1.false)
    ]

pub returns : goal.returns
returns c =
    let e : c.loop-v.v ≡ c.args.m = omega (arith, c.loop-v-test.false) in
    rw e at (c.loop-v.invariant _ c.requires (written_none _ _ _ _ _ _ _ _ c.requires.room (omega (arith, c.as_word.ensures, c.requires.count_few))))
