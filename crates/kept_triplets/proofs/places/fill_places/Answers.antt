-- What is known where the search needs a hint.
-- Assumes nothing.
use mathlib.Core.Path.{◌≡◌, sym, ◌∙◌, ap, ap₂, subst}
use mathlib.Core.Bool.{Bool}
use Prim.Native.Nat.{ℕ, ◌<◌}
use native.Mathlib.Omega.{arith}
use Rattle.tree_check.specs.Table.{word}
use Rattle.kept_triplets.specs.lemmas.Places.{place_of}
use Rattle.kept_triplets.specs.lemmas.Filling.{places_none, places_next, places_fewer}
use Rattle.kept_triplets.proofs.places.fill_places.Goals.{In-loop-y}
use Rattle.kept_triplets.proofs.places.fill_places.Goals as goal

-- ---- what is known there

low : (c : In-loop-y) → c.loop-y.y < 256
low c = omega (arith, c.loop-y-test.true, c.requires.few)

pub loop-y-init : goal.loop-y-init
loop-y-init c = places_none _ _ _ _ _ _ c.requires.long

pub offset_bounds-first_nodes-y : goal.offset_bounds-first_nodes-y
offset_bounds-first_nodes-y c = omega (arith, low c)

pub bounds-first_nodes-y : goal.bounds-first_nodes-y
bounds-first_nodes-y c = low (goal.at.bounds-first_nodes-y c).In-loop-y

pub offset_bounds-second_nodes-y : goal.offset_bounds-second_nodes-y
offset_bounds-second_nodes-y c = omega (arith, low (goal.at.offset_bounds-second_nodes-y c).In-loop-y)

pub bounds-second_nodes-y : goal.bounds-second_nodes-y
bounds-second_nodes-y c = low (goal.at.bounds-second_nodes-y c).In-loop-y

pub bounds-first_begin-node : goal.bounds-first_begin-node
bounds-first_begin-node c =
    subst (λ (v : ℕ). v < 1024) (sym c.from-node.ensures)
    (c.requires.first_node _ c.loop-y.auto.y c.loop-y-test.true)

pub bounds-second_begin-other : goal.bounds-second_begin-other
bounds-second_begin-other c =
    subst (λ (v : ℕ). v < 1024) (sym c.from-other.ensures)
    (c.requires.second_node _ c.loop-y.auto.y c.loop-y-test.true)

pub bounds-at-cell_index : goal.bounds-at-cell_index
bounds-at-cell_index c = omega (arith, c.cell_index.ensures.1)

pub loop-y-preserved : goal.loop-y-preserved
loop-y-preserved c =
    let e : c.cell_index.result ≡ word c.args.second_begin.now (word c.args.second_nodes.now c.loop-y.y) =
    c.cell_index.ensures.0 ∙ ap (word c.args.second_begin.now) c.from-other.ensures in
    rw e (places_next _ _ _ _ _ _ _ _ _ _ c.requires c.loop-y.auto.y c.loop-y-test.true
    (c.place_of.ensures ∙ ap₂ (λ (b : Bool) (v : ℕ). place_of b (word c.args.first_begin.now v)) c.is_kept.ensures c.from-node.ensures)
    c.loop-y.invariant)

pub returns : goal.returns
returns c = places_fewer _ _ _ _ _ _ _ _ (omega (arith, c.loop-y-test.false)) c.loop-y.invariant
