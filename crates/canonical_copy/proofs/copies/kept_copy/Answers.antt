-- The front of the lent words is the re-rooted table.
-- Assumes nothing.
use mathlib.Core.Path.{◌≡◌, ◌∙◌, ap}
use Prim.Native.Nat.{ℕ}
use native.Mathlib.Omega.{arith}
use lib.ListN.{replicate}
use Rattle.canonical_copy.proofs.lemmas.KeptCopy.{rankable, label_small, front, rooted_table, kept_copied}
use Rattle.rerooting.specs.lemmas.Front.{front_length, words_fit}
use Rattle.rerooting.specs.Rerooted.{after_reroot}
use Rattle.canonical_copy.proofs.copies.kept_copy.Goals.{After-words-2-1}
use Rattle.canonical_copy.proofs.copies.kept_copy.Goals as goal

-- ---- what is known there

-- the label as a word
label_is : (c : After-words-2-1) → c.as_word.result ≡ c.first_kept-x.result
label_is c =
    omega (
      arith,
      c.as_word.ensures,
      label_small _ _ _ _ c.requires _ c.first_kept-x.ensures,
      (words_fit _ _ _ c.requires.sized).1,
    )

pub label_ranks-ranks-requires : goal.label_ranks-ranks-requires
label_ranks-ranks-requires c = rankable _ _ _ _ c.requires _ c.first_kept-x.ensures

pub slice_bounds-table_copy-end : goal.slice_bounds-table_copy-end
slice_bounds-table_copy-end c =
    front_length _ _ _ _ (replicate 2050 0) _ c.requires.sized
    (omega (arith, label_is (goal.at.slice_bounds-table_copy-end c).After-words-2-1, label_small _ _ _ _ c.requires _ c.first_kept-x.ensures)) (words_fit _ _ _ c.requires.sized).0 c.reroot.ensures.1

pub table_copy-requires : goal.table_copy-requires
table_copy-requires c =
    rooted_table _ _ _ _ c.requires _ c.first_kept-x.ensures _ c.label_ranks-ranks.ensures _
    (front _ _ _ _ c.requires _ c.first_kept-x.ensures (replicate 2050 0) _ (words_fit _ _ _ c.requires.sized).0
    (c.reroot.ensures.1 ∙ ap (λ (z : ℕ). after_reroot c.args.table.now z (replicate 2050 0)) (label_is (goal.at.table_copy-requires c).After-words-2-1)))

pub returns : goal.returns
returns c =
    kept_copied _ _ _ _ c.requires _ c.first_kept-x.ensures _ c.label_ranks-ranks.ensures _
    (front _ _ _ _ c.requires _ c.first_kept-x.ensures (replicate 2050 0) _ (words_fit _ _ _ c.requires.sized).0
    (c.reroot.ensures.1 ∙ ap (λ (z : ℕ). after_reroot c.args.table.now z (replicate 2050 0)) (label_is (goal.at.returns c).After-words-2-1))) _ _ _ c.table_copy.ensures
