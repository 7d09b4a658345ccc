-- A tree replaced by another accepted table of that n with the same kept splits gives the same quartet table, on either side.
-- Assumes nothing.
use Rattle.std.specs.Prelude.{◌≡◌, refl, List, ℕ}
use Rattle.std.proofs.Common.{sym, ◌∙◌}
use Rattle.tree_check.specs.Table.{Table, tips}
use Rattle.counting.specs.Labels.{Labels}
use Rattle.counting.specs.Kept.{kept}
use Rattle.counting.specs.declared.Case.TheVariants.{A, B, C, D, E}
use Rattle.counting.specs.SplitCounts.{HaveSameSplits}
use Rattle.counting.proofs.theorems.KeptLaws.{kept-rising}
use Rattle.counting.proofs.theorems.TipLabels.{alone_at}
use Rattle.quartets.specs.QuartetAnswer.{quartet_answer}
use Rattle.three_trees.specs.theorems.ReplacedAnswers.{ReplacedFirst}
use Rattle.three_trees.proofs.theorems.AcceptedAnswers.{accepted_pair, counted}

module _ (t t' u : Table) (marks : List ℕ) (c c' : ℕ) where
  abbrev l : Labels
  l = kept marks (tips t)

  -- as the first of two ..
  pub replaced : ReplacedFirst t t' u marks c c'
  replaced s a' b' =
      let p = accepted_pair t u marks c a' in
      let q = accepted_pair t' u marks c' b' in
      let a = p.with_cells.pair in
      let b = q.with_cells.pair in
      let e : tips t ≡ tips t' = a.same_tips ∙ sym b.same_tips in
      let alone = (alone_at l t t' a.first b.first e (kept-rising marks (tips t)) s).as_first u a.second a.same_tips in
      counted t' u marks c' (tips t) e q
      ∙ rw (alone.counts A, alone.counts B, alone.counts C, alone.counts D, alone.counts E) refl
      ∙ sym (counted t u marks c (tips t) refl p)

  -- .. and as the second
  pub replaced_second : HaveSameSplits l t t' → (quartet_answer u t marks c).refusal ≡ 0 → (quartet_answer u t' marks c').refusal ≡ 0
      → quartet_answer u t' marks c' ≡ quartet_answer u t marks c
  replaced_second s a' b' =
      let p = accepted_pair u t marks c a' in
      let q = accepted_pair u t' marks c' b' in
      let a = p.with_cells.pair in
      let b = q.with_cells.pair in
      let e : tips t ≡ tips t' = sym a.same_tips ∙ b.same_tips in
      let alone = (alone_at l t t' a.second b.second e (kept-rising marks (tips t)) s).as_second u a.first a.same_tips in
      counted u t' marks c' (tips t) (sym a.same_tips) q
      ∙ rw (alone.counts A, alone.counts B, alone.counts C, alone.counts D, alone.counts E) refl
      ∙ sym (counted u t marks c (tips t) (sym a.same_tips) p)
