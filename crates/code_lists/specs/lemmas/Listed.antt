-- The cells that the list of codes leaves, from the codes placed one by one, and what they tell of a tree.
-- Assumes nothing.
use Rattle.std.specs.Prelude.{◌≡◌, true, false, List, ℕ, zero, suc, ◌+◌, ◌-◌, ◌/◌, ◌≤◌, ◌<◌, length}
use Rattle.std.proofs.Math.Path.{sym}
use Rattle.std.proofs.Common.{◌∙◌, ap, inl, inr, eq-or-lt_of_le, le_of_suc-le-suc, lt_of_not-le, arith}
use Rattle.std.proofs.Math.Decide.{dec_lt}
use Rattle.table_words.specs.lemmas.Rooms.{code_room, start_room}
use Rattle.sums.specs.Sum.{sum}
use Rattle.sums.specs.theorems.SumLaws.{sum-part}
use Rattle.tree_check.specs.Table.{word}
use Rattle.code_lists.specs.ListedCodes.{codes_of, degree_at, code_into, codes_before}
use Rattle.code_lists.specs.ListedCodes.{codes_fit, start_cell, edge_at, edge_cell}
use Rattle.code_lists.specs.lemmas.CodesAt.{Parents, CodeStarts, EdgeList, starts_suc}
use Rattle.code_lists.specs.lemmas.CodeCounts.{StartsIn}
use Rattle.code_lists.specs.lemmas.EdgePlaces.{EdgesIn}
use Rattle.code_lists.specs.lemmas.FitParents.{codes_fit_lem, fit_codes}
use Rattle.code_lists.specs.lemmas.Passed.{if_passed_lem, if_not, both_true, first-false, second_false}
use Rattle.code_lists.specs.lemmas.Passed.{lt-true, lt-false, le-true, le-false}

-- what the contract asks of the parents and of the cells before the call
pub record Fit (ps starts edges : List ℕ) : Type 0 where
  pub parents : Parents ps
  pub starts_room : length ps < length starts
  pub edges_room : codes_of ps ≤ length edges

fit : (ps starts edges : List ℕ) → Fit ps starts edges → codes_fit ps (length starts) (length edges) ≡ true
fit ps starts edges p = codes_fit_lem ps _ _ p.parents p.starts_room p.edges_room

pub fit_says : (ps starts edges : List ℕ) → codes_fit ps (length starts) (length edges) ≡ true → Fit ps starts edges
fit_says ps starts edges e =
    let h = fit_codes ps (length starts) (length edges) e in
    record { parents = h.0; starts_room = h.1; edges_room = h.2 }

-- ---- the starts

module _ (ps starts edges : List ℕ) where
  start_in_lem : Fit ps starts edges → (v : ℕ) → v ≤ length ps → start_cell ps starts edges v ≡ codes_before ps v
  unfolding start_cell
  start_in_lem p v l = if_passed_lem _ _ _ (both_true _ _ (fit ps starts edges p) (le-true v (length ps) l))

  start_after : (v : ℕ) → length ps < v → start_cell ps starts edges v ≡ word starts v
  unfolding start_cell
  start_after v l =
      if_not _ _ _ (second_false (codes_fit ps (length starts) (length edges)) _ (le-false v (length ps) l))

  -- the starts are written
  pub start-cells : Fit ps starts edges → (next new : List ℕ) → StartsIn ps starts next new
      → (v : ℕ) → word new v ≡ start_cell ps starts edges v
  start-cells p next new h v = elim (dec_lt (length ps) v) [
    | yes l ↦ h.later v l ∙ sym (start_after v l)
    | no l ↦ (let m : v ≤ length ps = omega (arith, lt_of_not-le l) in h.start v m ∙ sym (start_in_lem p v m))
  ]

  -- .. or stay
  pub starts_stay : codes_fit ps (length starts) (length edges) ≡ false
      → (v : ℕ) → word starts v ≡ start_cell ps starts edges v
  unfolding start_cell
  starts_stay e v = sym (if_not _ _ _ (first-false _ _ e))

  -- where the codes into a tree's nodes begin
  pub listed_starts : Fit ps starts edges → (new : List ℕ) → length new ≡ start_room
      → ((v : ℕ) → word new v ≡ start_cell ps starts edges v) → CodeStarts ps new
  listed_starts p new l h = record { long = l; at = λ v m. h v ∙ start_in_lem p v m }

-- ---- the edges

-- the c-th of the codes into the nodes before k is a code into one of them
record Place (ps : List ℕ) (k c : ℕ) : Type 0 where
  node : ℕ
  nth : ℕ
  below : node < k
  within : nth < degree_at ps node
  place : c ≡ codes_before ps node + nth

place_of : (ps : List ℕ) (k c : ℕ) → c < codes_before ps k → Place ps k c
place_of ps zero c l = absurd (unfold sum in omega arith)
place_of ps (suc v) c l = elim (dec_lt c (codes_before ps v)) [
  | yes m ↦ (let q = place_of ps v c m in record {
    node = q.node;
    nth = q.nth;
    below = omega (arith, q.below);
    within = q.within;
    place = q.place;
  })
  | no m ↦ record {
    node = v;
    nth = c - codes_before ps v;
    below = omega arith;
    within = omega (arith, starts_suc ps v, lt_of_not-le m);
    place = omega (arith, lt_of_not-le m);
  }
]

edge_at_lem : (ps : List ℕ) (k v i : ℕ) → v < k → i < degree_at ps v
    → edge_at ps k (codes_before ps v + i) ≡ code_into ps v i / 2
unfolding edge_at
edge_at_lem ps zero v i l m = absurd (omega arith)
edge_at_lem ps (suc u) v i l m = elim (eq-or-lt_of_le (le_of_suc-le-suc l)) [
  | inl e ↦ rw (lt-false (codes_before ps v + i) (codes_before ps u) (omega (arith, ap (codes_before ps) e)), edge_at)
      (ap (λ (z : ℕ). code_into ps u z / 2) (omega (arith, ap (codes_before ps) e))
      ∙ ap (λ (z : ℕ). code_into ps z i / 2) (sym e))
  | inr n ↦ rw (
    lt-true (codes_before ps v + i) (codes_before ps u)
        (omega (arith, starts_suc ps v, sum-part (suc v) u (degree_at ps) n)),
    edge_at,
  ) (edge_at_lem ps u v i n m)
]

module _ (ps starts edges : List ℕ) where
  edge_in : Fit ps starts edges → (c : ℕ) → c < codes_before ps (length ps)
      → edge_cell ps starts edges c ≡ edge_at ps (length ps) c
  unfolding edge_cell
  edge_in p c l =
      if_passed_lem _ _ _ (both_true _ _ (fit ps starts edges p) (lt-true c (codes_before ps (length ps)) l))

  edge_after : (c : ℕ) → codes_before ps (length ps) ≤ c → edge_cell ps starts edges c ≡ word edges c
  unfolding edge_cell
  edge_after c l = if_not _ _ _ (second_false (codes_fit ps (length starts) (length edges)) _
      (lt-false c (codes_before ps (length ps)) l))

  -- the edges are written
  pub edge-cells : Fit ps starts edges → (new : List ℕ) → EdgesIn ps edges new
      → (c : ℕ) → word new c ≡ edge_cell ps starts edges c
  edge-cells p new h c = elim (dec_lt c (codes_before ps (length ps))) [
    | yes l ↦ (let q = place_of ps (length ps) c l in
        ap (word new) q.place
        ∙ h.edge q.node q.nth q.below q.within
        ∙ sym (edge_at_lem ps (length ps) q.node q.nth q.below q.within)
        ∙ ap (edge_at ps (length ps)) (sym q.place)
        ∙ sym (edge_in p c l))
    | no l ↦ (let m : codes_before ps (length ps) ≤ c = omega (arith, lt_of_not-le l) in
        h.later c m ∙ sym (edge_after c m))
  ]

  -- .. or stay
  pub edges_stay : codes_fit ps (length starts) (length edges) ≡ false
      → (c : ℕ) → word edges c ≡ edge_cell ps starts edges c
  unfolding edge_cell
  edges_stay e c = sym (if_not _ _ _ (first-false _ _ e))

  -- the edges of the codes into a tree's nodes
  pub listed_edges : Fit ps starts edges → (new : List ℕ) → length new ≡ code_room
      → ((c : ℕ) → word new c ≡ edge_cell ps starts edges c) → EdgeList ps new
  listed_edges p new l h = record {
    long = l;
    at = λ v i n m.
        h (codes_before ps v + i)
        ∙ edge_in p (codes_before ps v + i)
        (omega (arith, starts_suc ps v, sum-part (suc v) (length ps) (degree_at ps) n))
        ∙ edge_at_lem ps (length ps) v i n m;
  }
