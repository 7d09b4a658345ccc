-- Spans, sizes, squares: each call leaves what the next one asks.
-- Assumes nothing.
use Prim.Native.Nat.{ℕ}
use lib.ListN.{length-replicate}
use Rattle.walks.specs.theorems.SpanLaws.{SpansOf}
use Rattle.exchange_distances.specs.lemmas.TableArrays.{lent_spans, lent_fit, lent_sizing, lent_arrays}
use Rattle.exchange_distances.proofs.arrays.arrays_of.Goals.{After-sizes-arg-1}
use Rattle.exchange_distances.proofs.arrays.arrays_of.Goals as goal

-- ---- what is known there

spans-are : (c : After-sizes-arg-1) → SpansOf c.args.table.now
    c.spans.new.labelled c.spans.new.begin c.spans.new.end
spans-are c = lent_spans _ _ _ c.requires.0 _ _ _ c.requires.1 _ _ _ _ (length-replicate {A = ℕ} 1024 0) (length-replicate {A = ℕ} 1024 0) c.spans.ensures

pub sizes-requires : goal.sizes-requires
sizes-requires c =
    lent_fit _ _ _ c.requires.0 _ _ _ (spans-are c) _ c.requires.2

pub squares-requires : goal.squares-requires
squares-requires c =
    (lent_sizing _ _ _ c.requires.0 _ _ _ (spans-are (goal.at.squares-requires c).After-sizes-arg-1) _ c.sizes.ensures, c.requires.3)

pub returns : goal.returns
returns c =
    lent_arrays _ _ _ c.requires.0 _ _ _ (spans-are (goal.at.returns c).After-sizes-arg-1) _ c.sizes.ensures _ c.squares.ensures
