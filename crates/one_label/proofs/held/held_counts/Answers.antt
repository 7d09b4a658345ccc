-- The fronts of the two arrays are the re-rooted tables.
-- Assumes nothing.
use mathlib.Core.Path.{sym, ◌∙◌, ap₂, subst}
use Prim.Native.Nat.{ℕ}
use native.Mathlib.Omega.{arith}
use lib.ListN.{take, replicate}
use lib.Seq.{length-take-le}
use Rattle.tree_check.specs.Table.{Table}
use Rattle.kept_triplets.specs.KeptAnswer.{kept_answer}
use Rattle.rerooting.specs.lemmas.Front.{front_is, front_length, words_fit}
use Rattle.one_label.specs.lemmas.HeldCounts.{MarksExchanged}
use Rattle.one_label.proofs.lemmas.HeldCounts.{held_are}
use Rattle.one_label.proofs.held.held_counts.Goals as goal

pub slice_bounds-kept_triplets-end : goal.slice_bounds-kept_triplets-end
slice_bounds-kept_triplets-end c = front_length _ c.args.n c.args.m c.args.x (replicate 2050 0) _ c.requires.0 c.requires.3 (words_fit _ _ _ c.requires.0).0 c.reroot.ensures.1

pub slice_bounds-kept_triplets-end-2 : goal.slice_bounds-kept_triplets-end-2
slice_bounds-kept_triplets-end-2 c = front_length _ c.args.n c.args.k c.args.x (replicate 2050 0) _ c.requires.1 c.requires.3 (words_fit _ _ _ c.requires.1).0 c.reroot-2.ensures.1

pub slice_bounds-kept_triplets-end-3 : goal.slice_bounds-kept_triplets-end-3
slice_bounds-kept_triplets-end-3 c = sym (length-take-le c.args.n c.exchanged_marks-turned.result (omega (arith, c.exchanged_marks-turned.ensures.long, (words_fit _ _ _ c.requires.0).1)))

pub returns : goal.returns
returns c =
    let out = c.exchanged_marks-turned.result in
    let ex = subst (λ (z : ℕ). MarksExchanged c.args.marks.now z out) c.from.ensures c.exchanged_marks-turned.ensures in
    held_are _ _ _ _ _ _ _ out c.requires.0 c.requires.1 c.requires.2 c.requires.3 ex _
    (c.kept_triplets-table.ensures ∙ ap₂ (λ (a b : Table). kept_answer a b (take c.args.n out)) (front_is _ c.args.n c.args.m c.args.x (replicate 2050 0) _ c.requires.0 c.requires.3 (words_fit _ _ _ c.requires.0).0 c.reroot.ensures.1) (front_is _ c.args.n c.args.k c.args.x (replicate 2050 0) _ c.requires.1 c.requires.3 (words_fit _ _ _ c.requires.1).0 c.reroot-2.ensures.1))
