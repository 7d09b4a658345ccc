-- The five formulas: no subtraction goes below 0.
-- Assumes nothing.
use native.Mathlib.Omega.{arith}
use Rattle.quartets.proofs.lemmas.FormedTable.{rest_fits, table_formed}
use Rattle.quartets.proofs.tables.form_table.Goals as goal

pub overflow_sub-c : goal.overflow_sub-c
overflow_sub-c c = omega (arith, c.requires.C_fits)

pub overflow_sub-c-2 : goal.overflow_sub-c-2
overflow_sub-c-2 c = omega (arith, c.requires.C_fits)

pub overflow_sub-d : goal.overflow_sub-d
overflow_sub-d c = omega (arith, c.requires.D_fits)

pub overflow_sub-d-2 : goal.overflow_sub-d-2
overflow_sub-d-2 c = omega (arith, c.requires.D_fits)

pub overflow_sub-e : goal.overflow_sub-e
overflow_sub-e c =
    let all = c.sets_of_four-all.ensures in
    omega (arith, all, c.requires.E_fits)

pub overflow_sub-e-2 : goal.overflow_sub-e-2
overflow_sub-e-2 c =
    let all = c.sets_of_four-all.ensures in
    omega (arith, all, c.requires.E_fits)

pub overflow_sub-e-3 : goal.overflow_sub-e-3
overflow_sub-e-3 c =
    let all = c.sets_of_four-all.ensures in
    omega (arith, all, c.requires.E_fits)

pub overflow_sub-e-4 : goal.overflow_sub-e-4
overflow_sub-e-4 c =
    let all = c.sets_of_four-all.ensures in
    rest_fits _ _ _ _ _ _ all c.requires.E_fits

pub overflow_add-distance : goal.overflow_add-distance
overflow_add-distance c =
    omega (arith, c.requires.C_fits, c.requires.S_most, c.requires.S'_most)

pub overflow_add-distance-2 : goal.overflow_add-distance-2
overflow_add-distance-2 c =
    omega (arith, c.requires.C_fits, c.requires.S_most, c.requires.S'_most)

pub returns : goal.returns
returns c =
    table_formed c.args.n _ _ _ _ _
    (c.sets_of_four-all.ensures)
