-- The codes taken one by one: the edge of each placed in the part of the list of the node that the code leads into.
-- Assumes nothing.
use Rattle.std.specs.Prelude.{◌≡◌, refl, List, ◌≢◌, ℕ, suc, ◌+◌, ◌*◌, ◌-◌, ◌/◌, ◌≤◌, ◌<◌, length, set}
use Rattle.std.proofs.Common.{sym, ◌∙◌, ap, lt_of_not-le, length-set, get_or-set_same, get_or-set_other}
use Rattle.std.proofs.Math.Decide.{ℕ_discrete, dec_lt}
use native.Mathlib.Omega.{arith}
use Rattle.sums.specs.Sum.{sum}
use Rattle.sums.specs.theorems.SumLaws.{sum-part}
use Rattle.sums.specs.theorems.BitLaws.{is_eq, is_other_lem}
use Rattle.shapes.specs.Directions.{head}
use Rattle.node_pairs.specs.CodesInto.{degree_of, code_at}
use Rattle.node_pairs.specs.theorems.CodesOfANode.{code_before, code_last, degree-suc}
use Rattle.tree_check.specs.Table.{word}
use Rattle.code_lists.specs.ListedCodes.{codes_of, degree_at, code_into, codes_before}
use Rattle.code_lists.specs.lemmas.CodesAt.{Parents, degree_mono, starts_inside, starts_suc}
use Rattle.code_lists.specs.lemmas.CodeCounts.{CountedCodes, counted_next}
use Rattle.code_lists.specs.lemmas.CodeCounts.{up_head, down_head, parent_inside, two_more}

-- the codes below k stand in the list, whose cells were `old`
pub record Placed (ps old : List ℕ) (k : ℕ) (next list : List ℕ) : Type 0 where
  pub counted : CountedCodes ps (codes_before ps) k next
  pub same : length list ≡ length old
  pub at : (v i : ℕ) → v < length ps → i < degree_of k (head (word ps)) v
      → word list (codes_before ps v + i) ≡ code_at k (head (word ps)) v i / 2
  pub later : (c : ℕ) → codes_before ps (length ps) ≤ c → word list c ≡ word old c

-- all codes do
pub record EdgesIn (ps old list : List ℕ) : Type 0 where
  pub edge : (v i : ℕ) → v < length ps → i < degree_at ps v
      → word list (codes_before ps v + i) ≡ code_into ps v i / 2
  pub later : (c : ℕ) → codes_before ps (length ps) ≤ c → word list c ≡ word old c

-- the next code into v has a place in its part of the list
next_inside : (ps : List ℕ) (k v : ℕ) → k < codes_of ps → head (word ps) k ≡ v
    → codes_before ps v + degree_of k (head (word ps)) v < codes_before ps (suc v)
next_inside ps k v l e = omega (
  arith,
  starts_suc ps v,
  degree_mono (head (word ps)) v (suc k) (codes_of ps) l,
  degree-suc (head (word ps)) v k,
  is_eq v (head (word ps) k) (sym e),
)

-- the parts of two nodes have no cell in common
parts-apart : (ps : List ℕ) (u i v j : ℕ) → u ≢ v → codes_before ps u + i < codes_before ps (suc u)
    → codes_before ps v + j < codes_before ps (suc v) → codes_before ps u + i ≢ codes_before ps v + j
parts-apart ps u i v j d l m e = elim (dec_lt u v) [
  | yes n ↦ omega (arith, sum-part (suc u) v (degree_at ps) n)
  | no n ↦ omega (arith, sum-part (suc v) u (degree_at ps) (omega (arith, lt_of_not-le n, d)))
]

-- a code that stands in the list has its place in its node's part
placed_inside : (ps : List ℕ) (k u i : ℕ) → k ≤ codes_of ps → i < degree_of k (head (word ps)) u
    → codes_before ps u + i < codes_before ps (suc u)
placed_inside ps k u i l m = omega (arith, starts_suc ps u, degree_mono (head (word ps)) u k (codes_of ps) l)

-- nothing stands in the list yet
pub placed_none : (ps old next : List ℕ) → CountedCodes ps (codes_before ps) 0 next → Placed ps old 0 next old
placed_none ps old next h = record {
  counted = h;
  same = refl;
  at = λ v i n o. absurd (none v i o);
  later = λ c m. refl;
}
  where
    none : (v i : ℕ) → i < degree_of 0 (head (word ps)) v → ⊥
    none v i o = unfold degree_of sum in omega arith

module _ (ps was : List ℕ) (p : Parents ps) (room : codes_of ps ≤ length was) where
  -- the list has room for code k, which leads into v
  place_fits : (k v : ℕ) (next list : List ℕ) → k < codes_of ps → head (word ps) k ≡ v → v < length ps
      → Placed ps was k next list → word next v < codes_of ps
  place_fits k v next list l e m h =
      omega (arith, h.counted.at v m, next_inside ps k v l e, starts_inside ps (suc v))

  -- code k, of edge j, is placed at v
  placed_next : (k v j : ℕ) (next list : List ℕ) → k < codes_of ps → head (word ps) k ≡ v → v < length ps
      → j ≡ k / 2 → Placed ps was k next list
      → Placed ps was (suc k) (set next v (word next v + 1)) (set list (word next v) j)
  placed_next k v j next list l e m q h = record {
    counted = counted_next ps (codes_before ps) k v next e (omega (arith, p.few)) h.counted;
    same = length-set list (word next v) j ∙ h.same;
    at = λ u i n o. elim (ℕ_discrete u v) [
      | yes d ↦ elim (dec_lt i (degree_of k (head (word ps)) u)) [
        | yes s ↦ old u i n s (λ z. omega (
          arith,
          place,
          ap (codes_before ps) d,
          s,
          ap (degree_of k (head (word ps))) d,
        ))
        | no s ↦ new u i d (omega (
          arith,
          lt_of_not-le s,
          o,
          degree-suc (head (word ps)) u k,
          is_eq u (head (word ps) k) (d ∙ sym e),
        ))
      ]
      | no d ↦ (let s : i < degree_of k (head (word ps)) u = other u i d o in
          old u i n s (λ z. parts-apart ps u i v (degree_of k (head (word ps)) v) d
          (placed_inside ps k u i (omega arith) s) (next_inside ps k v l e) (z ∙ place)))
    ];
    later = λ c n. get_or-set_other list (word next v) c j 0 (λ z. omega (
      arith,
      z,
      place,
      next_inside ps k v l e,
      sum-part (suc v) (length ps) (degree_at ps) m,
    )) ∙ h.later c n;
  }
    where
      place : word next v ≡ codes_before ps v + degree_of k (head (word ps)) v
      place = h.counted.at v m

      other : (u i : ℕ) → u ≢ v → i < degree_of (suc k) (head (word ps)) u → i < degree_of k (head (word ps)) u
      other u i d o = omega (
        arith,
        degree-suc (head (word ps)) u k,
        is_other_lem u (head (word ps) k) (λ z. d (z ∙ e)),
      )

      old : (u i : ℕ) → u < length ps → i < degree_of k (head (word ps)) u
          → codes_before ps u + i ≢ word next v
          → word (set list (word next v) j) (codes_before ps u + i) ≡ code_at (suc k) (head (word ps)) u i / 2
      old u i n s d =
          get_or-set_other list (word next v) (codes_before ps u + i) j 0 d
          ∙ h.at u i n s
          ∙ ap (λ (z : ℕ). z / 2) (sym (code_before (head (word ps)) u k i s))

      new : (u i : ℕ) → u ≡ v → i ≡ degree_of k (head (word ps)) u
          → word (set list (word next v) j) (codes_before ps u + i) ≡ code_at (suc k) (head (word ps)) u i / 2
      new u i d s =
          ap (word (set list (word next v) j)) (omega (
            arith,
            place,
            s,
            ap (codes_before ps) d,
            ap (degree_of k (head (word ps))) d,
          ))
          ∙ get_or-set_same list (word next v) j 0 (omega (arith, h.same, room, place_fits k v next list l e m h))
          ∙ q
          ∙ ap (λ (z : ℕ). z / 2) (sym (ap (code_at (suc k) (head (word ps)) u) s
          ∙ code_last (head (word ps)) u k (is_eq u (head (word ps) k) (d ∙ sym e))))

  -- node i's edge, with its parent v
  module _ (i v : ℕ) (l : 1 ≤ i) (m : i < length ps) (e : word ps i ≡ v) (next list : List ℕ)
      (h : Placed ps was (2 * (i - 1)) next list) where
    -- there is room for the edge at the parent, ..
    pub up_fits : word next v < codes_of ps
    up_fits = place_fits (2 * (i - 1)) v next list (omega arith) (up_head ps p i v l m e)
        (parent_inside ps p i v l m e) h

    -- the next places then
    abbrev after : List ℕ
    after = set next v (word next v + 1)

    -- the code into the parent is placed
    up_placed : Placed ps was (suc (2 * (i - 1))) after (set list (word next v) (i - 1))
    up_placed = placed_next (2 * (i - 1)) v (i - 1) next list (omega arith) (up_head ps p i v l m e)
        (parent_inside ps p i v l m e) (omega arith) h

    -- .. and then at node i
    pub down_fits : word after i < codes_of ps
    down_fits = place_fits (suc (2 * (i - 1))) i after (set list (word next v) (i - 1)) (omega arith)
        (down_head ps p i v l m e) m up_placed

    -- both codes are placed
    pub placed-edge : Placed ps was (2 * (i + 1 - 1)) (set after i (word after i + 1))
        (set (set list (word next v) (i - 1)) (word after i) (i - 1))
    placed-edge = rw (two_more i l) (placed_next (suc (2 * (i - 1))) i (i - 1) after
        (set list (word next v) (i - 1)) (omega arith) (down_head ps p i v l m e) m (omega arith) up_placed)

-- all codes are placed
pub placed-all : (ps old next list : List ℕ) → Placed ps old (codes_of ps) next list → EdgesIn ps old list
placed-all ps old next list h = record { edge = h.at; later = h.later }
