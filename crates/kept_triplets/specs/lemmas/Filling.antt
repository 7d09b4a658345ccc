-- The loops that fill the places and the sums over places.
-- Assumes nothing.
use Rattle.std.specs.Prelude.{◌≡◌, refl, Bool, true, false, List, ℕ, ◌+◌, ◌≤◌, ◌<◌, length, set}
use Rattle.std.proofs.Common.{◌∙◌, arith, length-set, get_or-set_same, get_or-set_other}
use Rattle.std.proofs.Math.Decide.{ℕ_discrete}
use Rattle.table_words.specs.Sizes.{node_room, tips_most, cell_most}
use Rattle.sums.specs.Sum.{sum}
use Rattle.tree_check.specs.Table.{word}
use Rattle.marks.specs.Marks.{is_kept}
use Rattle.kept_triplets.specs.lemmas.Places.{place_of}

pub place_kept : (b : Bool) (p : ℕ) → b ≡ true → place_of b p ≡ p
unfolding place_of
place_kept b p e = rw (e, place_of)

pub place_struck : (b : Bool) (p : ℕ) → b ≡ false → place_of b p ≡ cell_most
unfolding place_of
place_struck b p e = rw (e, place_of)

-- ---- the places, label by label

-- the nodes of n labels in both trees, and a place of its own for each label but 0
pub record PlaceRoom (n : ℕ) (firstNodes secondNodes firstBegin secondBegin at : List ℕ) : Type 0 where
  pub few : n ≤ tips_most
  pub long : length at ≡ tips_most
  pub first_node : (y : ℕ) → 1 ≤ y → y < n → word firstNodes y < node_room
  pub second_node : (y : ℕ) → 1 ≤ y → y < n → word secondNodes y < node_room
  pub place_in : (y : ℕ) → 1 ≤ y → y < n → word secondBegin (word secondNodes y) < tips_most
  pub own_place : (y y' : ℕ) → 1 ≤ y → y < n → 1 ≤ y' → y' < n
      → word secondBegin (word secondNodes y) ≡ word secondBegin (word secondNodes y') → y ≡ y'

pub record PlacesListed (k : ℕ) (marks firstNodes secondNodes firstBegin secondBegin at : List ℕ) : Type 0 where
  pub long : length at ≡ tips_most
  pub at_is : (y : ℕ) → 1 ≤ y → y < k
      → word at (word secondBegin (word secondNodes y)) ≡ place_of (is_kept marks y) (word firstBegin (word firstNodes y))

pub places_none : (marks fn sn fb sb at : List ℕ) → length at ≡ tips_most → PlacesListed 1 marks fn sn fb sb at
places_none marks fn sn fb sb at l = record { long = l; at_is = λ y p q. absurd (omega arith) }

pub places_next : (n k : ℕ) (marks fn sn fb sb old at : List ℕ) (x : ℕ) → PlaceRoom n fn sn fb sb old → 1 ≤ k → k < n
    → x ≡ place_of (is_kept marks k) (word fb (word fn k)) → PlacesListed k marks fn sn fb sb at
    → PlacesListed (k + 1) marks fn sn fb sb (set at (word sb (word sn k)) x)
places_next n k marks fn sn fb sb old at x r p l e h = record {
  long = length-set at (word sb (word sn k)) x ∙ h.long;
  at_is = λ y py ly. elim (ℕ_discrete y k) [
    | yes d ↦ rw d (get_or-set_same at (word sb (word sn k)) x 0 (omega (arith, h.long, r.place_in k p l)) ∙ e)
    | no d ↦ get_or-set_other at (word sb (word sn k)) (word sb (word sn y)) x 0
        (λ q. d (r.own_place y k py (omega arith) p l q)) ∙ h.at_is y py (omega arith)
  ];
}

pub places_fewer : (n k : ℕ) (marks fn sn fb sb at : List ℕ) → n ≤ k → PlacesListed k marks fn sn fb sb at → PlacesListed n marks fn sn fb sb at
places_fewer n k marks fn sn fb sb at l h = record { long = h.long; at_is = λ y p q. h.at_is y p (omega arith) }

-- ---- running sums, place by place

pub sums_none : (f : ℕ → ℕ) (sums : List ℕ) → length sums ≡ tips_most → (k : ℕ) → k ≤ 0 → word (set sums 0 0) k ≡ sum k f
sums_none f sums l k q = let z : k ≡ 0 = omega arith in rw z (get_or-set_same sums 0 0 0 (omega (arith, l)) ∙ (unfold sum in refl))

pub sums_next : (f : ℕ → ℕ) (n : ℕ) (sums : List ℕ) (x : ℕ) → length sums ≡ tips_most → n + 1 < tips_most → x ≡ sum (n + 1) f
    → ((k : ℕ) → k ≤ n → word sums k ≡ sum k f) → (k : ℕ) → k ≤ n + 1 → word (set sums (n + 1) x) k ≡ sum k f
sums_next f n sums x l m q h k o = elim (ℕ_discrete k (n + 1)) [
  | yes d ↦ rw d (get_or-set_same sums (n + 1) x 0 (omega (arith, l)) ∙ q)
  | no d ↦ get_or-set_other sums (n + 1) k x 0 d ∙ h k (omega arith)
]
