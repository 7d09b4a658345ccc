-- A row of one label adds nothing; any other adds what the listed columns do.
-- Assumes nothing.
use mathlib.Core.Path.{◌≡◌, sym, ◌∙◌, ap}
use Prim.Native.Nat.{ℕ, ◌*◌, ◌-◌, ◌≤◌, ◌<◌}
use native.Mathlib.Omega.{arith}
use lib.ListN.{length}
use Rattle.table_words.specs.lemmas.Rooms.{work_room}
use Rattle.tree_check.specs.Table.{word}
use Rattle.tree_pairs.specs.lemmas.EdgeRows.{above_in}
use Rattle.triplets.proofs.lemmas.PairCells.{alike_row_none, apart_row-zero}
use Rattle.triplets.proofs.lemmas.ListedRows.{row_starts, row_cells_at, row_is}
use Rattle.triplets.proofs.pairs.row_sums.Goals.{After-from, After-shared_slice_known-5-1}
use Rattle.triplets.proofs.pairs.row_sums.Goals as goal

-- ---- what is known there

starts : (c : After-shared_slice_known-5-1)
    → (let s = c.args in
    let w = length s.second_parents.now - 1 in
    (s.row * w ≤ work_room) × (above_in s.first_parents.now s.row * w ≤ work_room) × (s.row * w < length s.work.now))
starts c = row_starts _ _ _ c.requires.0 _ c.requires.2 c.requires.3

up_is : (c : After-from)
    → (let s = c.args in
    let w = length s.second_parents.now - 1 in
    (c.from.result - 1) * w ≡ above_in s.first_parents.now s.row * w)
up_is c = ap (λ (x : ℕ). (x - 1) * (length c.args.second_parents.now - 1)) c.from.ensures

-- ---- the needs

pub overflow_mul-base : goal.overflow_mul-base
overflow_mul-base c = omega (arith, (starts c).0)

pub bounds-work-base : goal.bounds-work-base
bounds-work-base c = (starts (goal.at.bounds-work-base c).After-shared_slice_known-5-1).2

pub returns-then-cell_count-lt2 : goal.returns-then-cell_count-lt2
returns-then-cell_count-lt2 c =
    let one : word c.args.work.now (c.args.row * (length c.args.second_parents.now - 1)) < 2 =
    omega (arith, c.cell_count.ensures.0, c.if-cell_count-lt2.true) in (
      sym (alike_row_none _ _ _ c.requires.0 _ c.requires.2 c.requires.3 one),
      sym (apart_row-zero _ _ _ c.requires.0 _ c.requires.2 c.requires.3 one),
    )

pub overflow_sub-up : goal.overflow_sub-up
overflow_sub-up c =
    omega (arith, c.from.ensures, (c.requires.0.first.earlier _ c.requires.2 c.requires.3).0)

pub overflow_mul-up : goal.overflow_mul-up
overflow_mul-up c = omega (arith, up_is c, (starts (goal.at.overflow_mul-up c).After-shared_slice_known-5-1).1)

pub row_terms-requires : goal.row_terms-requires
row_terms-requires c =
    row_cells_at _ _ _ c.requires.0 _ c.requires.2 c.requires.3 _ _ _ c.requires.1 _ (up_is c)

pub returns : goal.returns
returns c =
    let r = row_is _ _ _ c.requires.0 _ c.requires.2 c.requires.3 _ _ _ c.requires.1 _ (up_is (goal.at.returns c).After-from) in
    (c.row_terms.ensures.0 ∙ r.0, c.row_terms.ensures.1 ∙ r.1)
