-- Spans, places, then the sums.
-- Assumes nothing.
use Prim.Native.Nat.{ℕ}
use lib.ListN.{length-replicate}
use Rattle.table_words.specs.Sizes.{tips_most}
use Rattle.walks.specs.theorems.SpanLaws.{SpansOf}
use Rattle.kept_triplets.specs.lemmas.Found.{spanned, place_room, unprepared}
use Rattle.kept_triplets.proofs.totals.kept_sums.Goals.{After-at-1}
use Rattle.kept_triplets.proofs.totals.kept_sums.Goals as goal

-- ---- what is known there

one : (c : After-at-1) → SpansOf c.args.first.now c.spans.new.labelled c.spans.new.begin c.spans.new.end
one c = spanned _ _ _ c.requires.0 _ _ _ _ c.spans.ensures

two : (c : After-at-1) → SpansOf c.args.second.now c.spans-2.new.labelled c.spans-2.new.begin c.spans-2.new.end
two c = spanned _ _ _ c.requires.1 _ _ _ _ c.spans-2.ensures

pub fill_places-requires : goal.fill_places-requires
fill_places-requires c =
    place_room _ _ _ _ _ c.requires.0 c.requires.1 _ _ _ _ _ _ (one c) (two c) _ (length-replicate {A = ℕ} tips_most 0)

pub fill_places-requires-2 : goal.fill_places-requires-2
fill_places-requires-2 c =
    place_room _ _ _ _ _ c.requires.1 c.requires.0 _ _ _ _ _ _ (two (goal.at.fill_places-requires-2 c).After-at-1) (one (goal.at.fill_places-requires-2 c).After-at-1) _ (length-replicate {A = ℕ} tips_most 0)

pub sums_of-requires : goal.sums_of-requires
sums_of-requires c =
    unprepared _ _ _ _ _ c.requires.0 c.requires.1 _ _ _ _ _ _ (one (goal.at.sums_of-requires c).After-at-1) (two (goal.at.sums_of-requires c).After-at-1) _ _ _ c.fill_places.ensures c.fill_places-2.ensures
