-- What the walk and the part beyond an edge give, as their code finds it.
-- Assumes nothing.
use Rattle.std.specs.Prelude.{◌≡◌, ℕ, zero, suc, ◌+◌, ◌-◌, ◌<◌, ◌≤◌, true, false, ◌||◌, ◌≢◌, List, [], ◌∷◌, length, take, drop, Ok, Err, ◌==◌, nat_le, nat_lt}
use Rattle.std.proofs.Math.Path.{refl, sym, ap}
use Rattle.std.proofs.Common.{◌∙◌, lt-ltb, le-ltb}
use native.Mathlib.Omega.{arith}
use Rattle.tree_check.specs.Table.{Table, tips, nodes}
use Rattle.tree_check.specs.Refusals.{refusal, if_accepted}
use Rattle.tree_check.specs.theorems.RefusalLaws.{refusal_none, refusal_here, refusal_next, if_accepted_lem}
use Rattle.tree_check.specs.theorems.RefusalLaws.{if_refused}
use Rattle.tree_check.specs.declared.refusals.Refusal.{Refusal}
use Rattle.tree_check.specs.Numbers.{refusal_number, refusal_named, answer_by}
use Rattle.tree_check.specs.theorems.NumberLaws.{answered_ok}
use Rattle.tree_check.specs.IsTree.{IsTree}
use Rattle.tree_check.specs.TreeOrder.{tree_order}
use Rattle.walks.specs.WalkOrders.{room_order, walk_order, edge_order}
use Rattle.walks.specs.Walk.{walked, after_walk, below, start, part, place_beyond, part_beyond}
use Rattle.walks.specs.theorems.WalkOrderLaws.{room_check, rules_passed, edge_check, tree_refused, tree_accepted}
use Rattle.walks.specs.theorems.WalkLaws.{part_fits}
use Rattle.walks.specs.lemmas.Positions.{placed}
use Rattle.walks.specs.declared.edges.PartBeyond.{PartBeyond}

-- ---- room for a walk, as code tests it

module _ (cells n : ℕ) where
  pub room_kept : Ok tt ≡ answer_by (refusal (room_order cells n)) (tt {0}) → n ≤ cells
  room_kept e = (room_check cells n).0 (answered_ok _ _ _ e).0

  pub room_passed : (r : Refusal) (number : ℕ) → Err r ≡ answer_by (refusal (room_order cells n)) (tt {0})
      → number ≡ refusal_number r → (refusal (room_order cells n) ≡ number) × (number ≢ 0)
  room_passed = rules_passed (room_order cells n) (unfold refusal_named in (refl, tt))

-- ---- the walk: its number, and the cells afterwards

abbrev pub Walked : Table → List ℕ → ℕ → List ℕ → Type 0
Walked t cells number after = (number ≡ refusal (walk_order t (length cells))) × (after ≡ after_walk t cells)

module _ (t : Table) (cells : List ℕ) where
  refused : (k : ℕ) → k ≢ 0 → k ≡ refusal (walk_order t (length cells)) → Walked t cells k cells
  unfolding after_walk
  refused k d e = (e, sym (if_refused _ (walked t cells) cells (λ z. d (e ∙ z))))

  pub walk_tree_refused : (k : ℕ) → refusal (tree_order t) ≡ k → k ≢ 0 → Walked t cells k cells
  unfolding walk_order
  walk_tree_refused k e d = refused k d (sym (tree_refused t _ k e d))

  pub walk_too_short : IsTree t → (k : ℕ) → k ≡ refusal (room_order (length cells) (tips t)) → k ≢ 0 → Walked t cells k cells
  unfolding walk_order
  walk_too_short g k e d = refused k d (e ∙ sym (tree_accepted t _ g))

  pub walk_accepted : IsTree t → tips t ≤ length cells → Walked t cells 0 (walked t cells)
  unfolding walk_order after_walk
  walk_accepted g l = (sym zero_is, sym (if_accepted_lem _ (walked t cells) cells zero_is))
    where
      zero_is : refusal (walk_order t (length cells)) ≡ 0
      zero_is = tree_accepted t _ g ∙ refusal_next 12 _ [] (le-ltb (length cells) (tips t) l) ∙ refusal_none

-- ---- the part beyond an edge: the number

module _ (t : Table) (i cells : ℕ) where
  pub edge_tree_refused : (k : ℕ) → refusal (tree_order t) ≡ k → k ≢ 0 → refusal (edge_order t i cells) ≡ k
  unfolding edge_order
  edge_tree_refused k e d = tree_refused t _ k e d

  module _ (g : IsTree t) where
    pub edge_missing : (i == 0 || nat_le (nodes t) i) ≡ true → refusal (edge_order t i cells) ≡ 13
    unfolding edge_order
    edge_missing h = tree_accepted t _ g ∙ refusal_here 13 _ _ h

    module _ (h : (i == 0 || nat_le (nodes t) i) ≡ false) where
      inside : refusal (edge_order t i cells) ≡ refusal ((12, nat_lt cells (tips t)) ∷ [])
      unfolding edge_order
      inside = tree_accepted t _ g ∙ refusal_next 13 _ _ h

      pub edge-walk_short : cells < tips t → refusal (edge_order t i cells) ≡ 12
      edge-walk_short l = inside ∙ refusal_here 12 _ _ (lt-ltb cells (tips t) l)

      pub edge_accepted : tips t ≤ cells → refusal (edge_order t i cells) ≡ 0
      edge_accepted l = inside ∙ refusal_next 12 _ [] (le-ltb cells (tips t) l) ∙ refusal_none

-- ---- its place

-- of a number k, refused or not
place : Table → ℕ → ℕ → PartBeyond
place t i k = record { refusal = k; start = if_accepted k (start t i) 0; count = if_accepted k (below t i) 0 }

module _ (t : Table) (i cells : ℕ) where
  placed_by : place_beyond t i cells ≡ place t i (refusal (edge_order t i cells))
  unfolding place_beyond place
  placed_by = refl

  pub place_number : (r : PartBeyond) → r ≡ place_beyond t i cells → r.refusal ≡ refusal (edge_order t i cells)
  unfolding place_beyond
  place_number r e = ap (λ (x : PartBeyond). x.refusal) e

  pub place_refused : (k : ℕ) → refusal (edge_order t i cells) ≡ k → k ≢ 0
      → record { refusal = k; start = 0; count = 0 } ≡ place_beyond t i cells
  place_refused k e d = go k d ∙ sym (placed_by ∙ ap (place t i) e)
    where
      go : (k : ℕ) → k ≢ 0 → record { refusal = k; start = 0; count = 0 } ≡ place t i k
      go zero d = absurd (d refl)
      go (suc k) d = unfold place if_accepted in refl

  pub place_accepted : refusal (edge_order t i cells) ≡ 0 → placed t i ≡ place_beyond t i cells
  place_accepted e = at_zero ∙ sym (placed_by ∙ ap (place t i) e)
    where
      at_zero : placed t i ≡ place t i 0
      at_zero = unfold placed place if_accepted in refl

-- the words from the start on, as many as there are labels, are the part
module _ (t : Table) (i : ℕ) (w : List ℕ) where
  -- of a number k, refused or not
  cut : (k : ℕ) → take (if_accepted k (below t i) 0) (drop (if_accepted k (start t i) 0) w) ≡ if_accepted k (part t i w) []
  unfolding if_accepted part
  cut zero = refl
  cut (suc k) = refl

  fits : (k : ℕ) → (k ≡ 0 → start t i + below t i ≤ length w)
      → if_accepted k (start t i) 0 + if_accepted k (below t i) 0 ≤ length w
  unfolding if_accepted
  fits zero h = h refl
  fits (suc k) h = omega arith

  module _ (r : PartBeyond) (e : r ≡ place_beyond t i (length w)) where
    pub place_fits : r.start + r.count ≤ length w
    unfolding place_beyond
    place_fits = rw e (fits (refusal (edge_order t i (length w))) (λ z.
        let g = (edge_check t i (length w)).0 z in omega (arith, part_fits t g.0 i g.2, g.3)))

    pub part_cut : (from to : ℕ) → from ≡ r.start → to ≡ from + r.count
        → take (to - from) (drop from w) ≡ part_beyond t i w
    unfolding part_beyond
    part_cut from to ef et =
        let q : to - from ≡ r.count = omega arith in
        rw (q, ef, e) (unfold place_beyond in cut (refusal (edge_order t i (length w))))
