-- Each answer is told by the first rule that refuses, or by the copy.
-- Assumes nothing.
use mathlib.Core.Path.{◌≡◌, refl, sym, ◌∙◌}
use native.Mathlib.Omega.{arith}
use Rattle.marks.proofs.lemmas.MarkOutcomes.{marks_say, marks_refused_by}
use Rattle.canonical_copy.proofs.lemmas.Outcomes.{tree_away, marks_away, few_away, short_away, accepted}
use Rattle.canonical_copy.specs.lemmas.KeptCopy.{KeptTable}
use Rattle.tree_check.specs.Table.{tips, nodes}
use Rattle.tree_check.specs.IsTree.{IsTree}
use Rattle.tree_check.specs.theorems.CheckLaws.{checked_accepted, table_told}
use Rattle.tree_check.specs.theorems.NumberLaws.{passed_on}
use Rattle.marks.specs.Marks.{kept_of, AreMarks}
use Rattle.canonical_copy.proofs.copies.canonical_copy.Goals.{After-kept_copy-arg-1, In-Ok, In-Ok-check_marks}
use Rattle.canonical_copy.proofs.copies.canonical_copy.Goals as goal

-- ---- what is known there

-- the table is a tree table, with n and m as told
tree : (c : In-Ok)
    → let t = c.args.table.now in
    IsTree t × (c.in-Ok.tree.tips ≡ tips t) × (c.in-Ok.tree.nodes ≡ nodes t)
tree c = checked_accepted _ _ (sym c.check-answer.ensures.0 ∙ c.in-Ok.is)

-- the marks are marks of its labels, and k of them are kept
marked : (c : In-Ok-check_marks)
    → let s = c.args in
    AreMarks s.marks.now (tips s.table.now) × (c.in-Ok-check_marks.kept ≡ kept_of s.marks.now (tips s.table.now))
marked c = marks_say _ _ _ _ (tree (goal.at.In-Ok-check_marks c).In-Ok).1 c.in-Ok-check_marks.ensures

-- .. two labels or more
kept_table : (c : After-kept_copy-arg-1)
    → let s = c.args in
    KeptTable s.table.now s.marks.now c.from-2.result c.in-Ok-check_marks.kept
kept_table c =
    let t = tree (goal.at.After-kept_copy-arg-1 c).In-Ok in
    let q = marked (goal.at.After-kept_copy-arg-1 c).In-Ok-check_marks in
    record {
      sized = record { tree = t.0; tips_are = refl; nodes_are = c.from-2.ensures ∙ t.2 };
      are_marks = q.0;
      number = q.1;
      two = omega (arith, c.if-kept-lt2.false);
    }

pub returns-in_default : goal.returns-in_default
returns-in_default c =
    let h = table_told _ _ _ _ c.check-answer.ensures.0 c.in_default.is c.refusal_of.ensures in
    rw c.refused.ensures (tree_away _ _ _ _ h.0 h.1)

pub returns-in-Err : goal.returns-in-Err
returns-in-Err c =
    let t = tree (goal.at.returns-in-Err c).In-Ok in
    let h = passed_on (marks_refused_by _ _ _ _ t.1 c.in-Err.ensures) c.from.ensures in
    rw c.refused-in-Err.ensures (marks_away _ _ _ t.0 _ (sym h.0) h.1)

pub returns-then-kept-lt2 : goal.returns-then-kept-lt2
returns-then-kept-lt2 c =
    let t = tree (goal.at.returns-then-kept-lt2 c).In-Ok in
    let q = marked (goal.at.returns-then-kept-lt2 c).In-Ok-check_marks in
    rw (c.refused-then-kept-lt2.ensures, c.from-then-kept-lt2.ensures) (few_away _ _ _ t.0 q.0 _ q.1 c.if-kept-lt2.true)

pub kept_copy-words-requires : goal.kept_copy-words-requires
kept_copy-words-requires c = kept_table c

pub returns-then-words-eq0 : goal.returns-then-words-eq0
returns-then-words-eq0 c =
    let y = kept_table (goal.at.returns-then-words-eq0 c).After-kept_copy-arg-1 in
    rw (c.refused-then-words-eq0.ensures, c.from-then-words-eq0.ensures) (short_away _ _ _ y.sized.tree y.are_marks (omega (arith, y.number, y.two)) _ _ c.kept_copy-words.ensures
    c.if-words-eq0.true)

pub returns : goal.returns
returns c =
    let y = kept_table (goal.at.returns c).After-kept_copy-arg-1 in
    accepted _ _ _ y.sized.tree y.are_marks (omega (arith, y.number, y.two)) _ _ c.kept_copy-words.ensures c.if-words-eq0.false _
    c.as_word.ensures
