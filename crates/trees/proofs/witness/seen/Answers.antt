-- The sides are looked up, the first edge that shows a pairing is found, and what it shows is told.
-- Assumes nothing.
use mathlib.Core.Path.{◌∙◌, ap, ap₂}
use Prim.Native.Nat.{ℕ, ◌<◌}
use native.Mathlib.Omega.{arith}
use Rattle.table_words.specs.Sizes.{node_room}
use Rattle.trees.specs.lemmas.Sides.{topology_shown}
use Rattle.trees.specs.lemmas.Seen.{edge_low, witnessed_as}
use Rattle.trees.proofs.witness.seen.Goals.{After-shown_edge-i}
use Rattle.trees.proofs.witness.seen.Goals as goal

-- the edge has a cell
low : (c : After-shown_edge-i) → c.shown_edge-i.result < node_room
low c = edge_low _ _ _ c.requires.few c.shown_edge-i.ensures

pub offset_bounds-sides-i : goal.offset_bounds-sides-i
offset_bounds-sides-i c = omega (arith, low c)

pub bounds-sides-i : goal.bounds-sides-i
bounds-sides-i c = low c

pub witness_at-requires : goal.witness_at-requires
witness_at-requires c =
    (c.requires, omega (arith, low (goal.at.witness_at-requires c).After-shown_edge-i))

pub returns : goal.returns
returns c =
    let s = c.args in
    record {
      cells = c.sides_of-sides.result;
      sides_are = c.sides_of-sides.ensures;
      edge = c.shown_edge-i.result;
      edge_is = c.shown_edge-i.ensures;
      answer_is = ap₂ (witnessed_as 0)
          (c.named_pairing.ensures ∙ ap (λ (k : ℕ). topology_shown k s.a s.b s.c s.d) c.pairing_of-k.ensures)
          c.witness_at.ensures;
    }
