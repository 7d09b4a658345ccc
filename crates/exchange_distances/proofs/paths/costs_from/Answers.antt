-- The climb, then the sweep over the nodes that it left.
-- Assumes nothing.
use Prim.Native.Nat.{ℕ}
use lib.ListN.{length-replicate}
use Rattle.table_words.specs.Sizes.{node_room}
use Rattle.exchange_distances.specs.lemmas.WalkArrays.{no_marks}
use Rattle.exchange_distances.proofs.paths.costs_from.Goals as goal

pub climb-requires : goal.climb-requires
climb-requires c =
    let s = c.requires in
    (s.0, record { long_marks = length-replicate {A = ℕ} node_room 0; long_tw = s.1; long_acc = s.2 }, no_marks)
