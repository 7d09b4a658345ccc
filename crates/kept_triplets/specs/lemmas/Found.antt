-- Places of two tables' labels, as code finds them.
-- Assumes nothing.
use Rattle.std.specs.Prelude.{◌≡◌, List, ℕ, ◌≤◌, ◌<◌, length, replicate}
use Rattle.std.proofs.Common.{sym, ◌∙◌, ap, arith}
use Rattle.std.proofs.lemmas.List.{length-replicate}
use Rattle.table_words.specs.Sizes.{node_room, tips_most}
use Rattle.tree_check.specs.Table.{Table, word, tips, nodes, node_of}
use Rattle.tree_check.specs.lemmas.Sized.{Sized, sized_fit}
use Rattle.walks.specs.theorems.NodeLabels.{node_at}
use Rattle.walks.specs.theorems.SpanLaws.{SpansOf}
use Rattle.walks.specs.lemmas.SpanLists.{Spanned, spans_listed}
use Rattle.marks.specs.Marks.{is_kept}
use Rattle.kept_triplets.specs.lemmas.Places.{place_of, PlacesTo, span_lists, place_lt, place_one}
use Rattle.kept_triplets.specs.lemmas.Filling.{PlaceRoom, PlacesListed}
use Rattle.kept_triplets.specs.lemmas.Prepare.{Unprepared}

-- the spans of a checked table, in lists that are long enough for any
pub spanned : (t : Table) (n m : ℕ) → Sized t n m → (k : ℕ) (labelled begin end : List ℕ)
    → Spanned t (replicate tips_most 0) (replicate node_room 0) (replicate node_room 0) k labelled begin end
    → SpansOf t labelled begin end
spanned t n m h =
    let f = sized_fit t n m h in
    spans_listed t _ _ _ h.tree
    (omega (arith, f.1, h.tips_are, length-replicate {A = ℕ} tips_most 0))
    (omega (arith, f.3, h.nodes_are, length-replicate {A = ℕ} node_room 0))
    (omega (arith, f.3, h.nodes_are, length-replicate {A = ℕ} node_room 0))

-- the places of the first walk in the order of the second
module _ (t u : Table) (n m k : ℕ) (h : Sized t n m) (h' : Sized u n k) (fn fb fe sn sb se : List ℕ)
    (s : SpansOf t fn fb fe) (s' : SpansOf u sn sb se) where
  few : (tips t ≡ tips u) × (tips t ≤ tips_most) × (nodes t ≤ node_room) × (nodes u ≤ node_room)
  few = let g = h.tree in let g' = h'.tree in
      omega (arith, h.tips_are, h'.tips_are, g.tips_range, g.nodes_range, g'.tips_range, g'.nodes_range)

  first_is : (y : ℕ) → y < n → word fn y ≡ node_of t y
  first_is y l = s.node y (omega (arith, h.tips_are))

  second_is : (y : ℕ) → y < n → word sn y ≡ node_of u y
  second_is y l = s'.node y (omega (arith, h'.tips_are))

  pub place_room : (at : List ℕ) → length at ≡ tips_most → PlaceRoom n fn sn fb sb at
  place_room at l =
      let o = span_lists u sn sb se s' in record {
        few = omega (arith, h.tips_are, few.1);
        long = l;
        first_node = λ y p q. omega (arith, first_is y q, (node_at t h.tree y (omega (arith, h.tips_are))).0, few.2);
        second_node = λ y p q. omega (arith, second_is y q, (node_at u h'.tree y (omega (arith, h'.tips_are))).0, few.3);
        place_in = λ y p q. rw (second_is y q) (omega (arith, place_lt u h'.tree sb se o y p (omega (arith, h'.tips_are)), few));
        own_place = λ y y' p q p' q' e. place_one u h'.tree sb se o y y' p (omega (arith, h'.tips_are)) p' (omega (arith, h'.tips_are))
            (rw (second_is y q, second_is y' q') at e);
      }

  pub places_to : (marks at : List ℕ) → PlacesListed n marks fn sn fb sb at → PlacesTo (tips t) t u marks fb sb at
  places_to marks at l = record {
    long = l.long;
    at_is = λ y p q.
        let ly : y < n = omega (arith, h.tips_are) in
        ap (λ (v : ℕ). word at (word sb v)) (sym (second_is y ly)) ∙ l.at_is y p ly
        ∙ ap (λ (v : ℕ). place_of (is_kept marks y) (word fb v)) (first_is y ly);
  }

-- .. and the other way round
pub unprepared : (t u : Table) (n m k : ℕ) → Sized t n m → Sized u n k → (fn fb fe sn sb se : List ℕ) → SpansOf t fn fb fe
    → SpansOf u sn sb se → (marks at back : List ℕ) → PlacesListed n marks fn sn fb sb at → PlacesListed n marks sn fn sb fb back
    → Unprepared t u marks n m k fb fe sb se at back
unprepared t u n m k h h' fn fb fe sn sb se s s' marks at back a b = record {
  tree = h.tree;
  tree' = h'.tree;
  same = sym h.tips_are ∙ h'.tips_are;
  tips_are = h.tips_are;
  nodes_are = h.nodes_are;
  nodes_are' = h'.nodes_are;
  spans = span_lists t fn fb fe s;
  spans' = span_lists u sn sb se s';
  places = places_to t u n m k h h' fn fb fe sn sb se s s' marks at a;
  places' = places_to u t n k m h' h sn sb se fn fb fe s' s marks back b;
}
