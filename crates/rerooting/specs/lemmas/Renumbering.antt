-- New numbers for the nodes of a renumbered tree, as the code gives them: along the path first, then the others in order.
-- Assumes nothing.
use Rattle.std.specs.Prelude.{◌≡◌, ◌⊎◌, ◌≢◌, List, ℕ, suc, ◌+◌, ◌≤◌, ◌<◌, length, get_or, set, replicate}
use Rattle.std.proofs.Common.{sym, ◌∙◌, ap, subst, inl, inr, arith, length-set, get_or-set_same, get_or-set_other}
use Rattle.std.proofs.Math.Decide.{dec_lt, ℕ_discrete}
use Rattle.std.proofs.lemmas.List.{length-replicate, get_or-replicate}
use Rattle.table_words.specs.Sizes.{node_room}
use Rattle.sums.specs.Bits.{bit}
use Rattle.sums.specs.theorems.BitLaws.{bit_cases}
use Rattle.shapes.specs.Ancestors.{anc}
use Rattle.shapes.specs.theorems.AncestorLaws.{Rooted}
use Rattle.shapes.proofs.theorems.AncestorLaws.{anc-le, anc_self, anc_root, anc_down, anc_trans, anc-line, anc_past, parent-lt}
use Rattle.tree_check.specs.Table.{word}
use Rattle.shapes.specs.Rerooting.{path_after, renumbered}
use Rattle.shapes.proofs.theorems.RerootedNumbers.{renumbered-lt, renumbered_root, renumbered_on, renumbered_off, after_step}
use Rattle.shapes.proofs.theorems.RerootedSides.{step_up}

-- the number of the next node off the path, when it comes to v
unfoldable pub counter : (ℕ → ℕ) → ℕ → ℕ → ℕ → ℕ
counter up m z v = v + path_after up m z v + bit (anc up v z)

module _ (up : ℕ → ℕ) (m z : ℕ) (r : Rooted up) (lz : z < m) where
  -- climbing the path from z: each next node gets the next number
  renumbered_climb : (v : ℕ) → 1 ≤ v → v < m → bit (anc up v z) ≡ 1 → renumbered up m z (up v) ≡ suc (renumbered up m z v)
  renumbered_climb v p l o = (step_up up m z r lz v p l o).2.number

  counter_off : (v : ℕ) → bit (anc up v z) ≡ 0 → (renumbered up m z v ≡ counter up m z v) × (counter up m z (suc v) ≡ suc (counter up m z v))
  unfolding counter
  counter_off v o = (omega (arith, renumbered_off up m z r lz v o), omega (arith, after_step up m z r lz v))

  counter_on : (v : ℕ) → bit (anc up v z) ≡ 1 → counter up m z (suc v) ≡ counter up m z v
  unfolding counter
  counter_on v o = omega (arith, after_step up m z r lz v)

  -- it begins past the number of the old root
  counter_begins : counter up m z 0 ≡ suc (renumbered up m z 0)
  unfolding counter
  counter_begins = let o = anc_root up r z in omega (arith, renumbered_on up m z r lz 0 o)

pub record Rerootable (ps : List ℕ) (m z : ℕ) : Type 0 where
  pub tree : Rooted (word ps)
  pub few : m ≤ node_room
  pub node : z < m

-- the path is numbered below v, the next number is i, and node_room stands elsewhere
pub record PathNumbered (ps : List ℕ) (m z v i : ℕ) (news : List ℕ) : Type 0 where
  pub long : length news ≡ node_room
  pub path : bit (anc (word ps) v z) ≡ 1
  pub next : i ≡ renumbered (word ps) m z v
  pub given : (w : ℕ) → w < m → bit (anc (word ps) w z) ≡ 1 → v < w → word news w ≡ renumbered (word ps) m z w
  pub blank : (w : ℕ) → w < m → (bit (anc (word ps) w z) ≡ 0) ⊎ (w ≤ v) → word news w ≡ node_room

-- the path is numbered, and the others below w
pub record OffPath (ps : List ℕ) (m z w i : ℕ) (news : List ℕ) : Type 0 where
  pub long : length news ≡ node_room
  pub next : i ≡ counter (word ps) m z w
  pub given : (u : ℕ) → u < m → (bit (anc (word ps) u z) ≡ 1) ⊎ (u < w) → word news u ≡ renumbered (word ps) m z u
  pub blank : (u : ℕ) → u < m → bit (anc (word ps) u z) ≡ 0 → w ≤ u → word news u ≡ node_room

pub record RenumberedAre (ps : List ℕ) (m z : ℕ) (news : List ℕ) : Type 0 where
  pub long : length news ≡ node_room
  pub new_is : (v : ℕ) → v < m → word news v ≡ renumbered (word ps) m z v

blank_cells : (v : ℕ) → v < node_room → ◌≡◌ {A = ℕ} (get_or {A = ℕ} (replicate {A = ℕ} node_room node_room) v 0) node_room
blank_cells v l = get_or-replicate {A = ℕ} node_room v node_room 0 l

module _ (ps : List ℕ) (m z : ℕ) (y : Rerootable ps m z) where
  abbrev up : ℕ → ℕ
  up = word ps

  abbrev r : Rooted (word ps)
  r = y.tree

  on_lt : (v : ℕ) → bit (anc up v z) ≡ 1 → v < m
  on_lt v o = omega (arith, anc-le up r v z o, y.node)

  pub path_low : (v i : ℕ) (news : List ℕ) → PathNumbered ps m z v i news → (v < node_room) × (i < node_room)
  path_low v i news w =
      let l = on_lt v w.path in
      (omega (arith, y.few), omega (arith, w.next, renumbered-lt up m z r y.node v l, y.few))

  pub path_in : (v i : ℕ) (news : List ℕ) → PathNumbered ps m z v i news → v < m
  path_in v i news w = on_lt v w.path

  -- v is numbered, and its parent is next
  pub path_next : (v i : ℕ) (news : List ℕ) → 1 ≤ v → PathNumbered ps m z v i news → (p : ℕ) → p ≡ word ps v
      → PathNumbered ps m z p (suc i) (set news v i)
  path_next v i news pv w p e =
      let l = on_lt v w.path in
      let above = anc_down up r (up v) v pv (anc_self up r (up v)) in
      let onp = anc_trans up r (up v) v z above w.path in
      let lp = parent-lt up r v pv in
      record {
        long = length-set news v i ∙ w.long;
        path = rw e onp;
        next = rw e (omega (arith, w.next, renumbered_climb up m z r y.node v pv l w.path));
        given = λ u lu ou q. elim (ℕ_discrete u v) [
          | yes d ↦ rw d (get_or-set_same news v i 0 (omega (arith, w.long, y.few)) ∙ w.next)
          | no d ↦ get_or-set_other news v u i 0 d ∙ w.given u lu ou (past u ou (omega arith) d)
        ];
        blank = λ u lu q. elim q [
          | inl o ↦ (let d : u ≢ v = λ f. absurd (omega (arith, w.path, ap (λ (x : ℕ). bit (anc up x z)) f)) in
              get_or-set_other news v u i 0 d ∙ w.blank u lu (inl o))
          | inr g ↦ get_or-set_other news v u i 0 (omega arith) ∙ w.blank u lu (inr (omega arith))
        ];
      }
    where
      past : (u : ℕ) → bit (anc up u z) ≡ 1 → up v < u → u ≢ v → v < u
      past u ou q d = elim (dec_lt v u) [
        | yes g ↦ g
        | no g ↦ (
            let a = anc-line up r u v z (omega arith) ou w.path in
            let b = anc_past up r u v (omega arith) a in
            absurd (omega (arith, anc-le up r u (up v) b)))
      ]

  -- node 0 is the last of the path
  pub path_ends : (i : ℕ) (news : List ℕ) → PathNumbered ps m z 0 i news → OffPath ps m z 0 (suc i) (set news 0 i)
  path_ends i news w = record {
    long = length-set news 0 i ∙ w.long;
    next = omega (arith, w.next, counter_begins up m z r y.node);
    given = λ u lu q. elim (ℕ_discrete u 0) [
      | yes d ↦ rw d (get_or-set_same news 0 i 0 (omega (arith, w.long)) ∙ w.next)
      | no d ↦ get_or-set_other news 0 u i 0 d ∙ elim q [
        | inl o ↦ w.given u lu o (omega arith)
        | inr g ↦ absurd (omega arith)
      ]
    ];
    blank = λ u lu o q.
        let d : u ≢ 0 = λ f. absurd (omega (arith, anc_root up r z, ap (λ (x : ℕ). bit (anc up x z)) f)) in
        get_or-set_other news 0 u i 0 d ∙ w.blank u lu (inl o);
  }

  pub off_low : (w i : ℕ) (news : List ℕ) → w < m → OffPath ps m z w i news → word news w ≡ node_room → i < node_room
  off_low w i news l o e = elim (bit_cases (anc up w z)) [
    | inr a ↦ absurd (omega (arith, e, o.given w l (inl a), renumbered-lt up m z r y.node w l, y.few))
    | inl a ↦ omega (arith, o.next, (counter_off up m z r y.node w a).0, renumbered-lt up m z r y.node w l, y.few)
  ]

  -- a node off the path takes the next number
  pub off_take : (w i : ℕ) (news : List ℕ) → w < m → OffPath ps m z w i news → word news w ≡ node_room
      → OffPath ps m z (suc w) (suc i) (set news w i)
  off_take w i news l o e = elim (bit_cases (anc up w z)) [
    | inr a ↦ absurd (omega (arith, e, o.given w l (inl a), renumbered-lt up m z r y.node w l, y.few))
    | inl a ↦ (let c = counter_off up m z r y.node w a in record {
      long = length-set news w i ∙ o.long;
      next = omega (arith, o.next, c.1);
      given = λ u lu q. elim (ℕ_discrete u w) [
        | yes d ↦ rw d (get_or-set_same news w i 0 (omega (arith, o.long, y.few)) ∙ o.next ∙ sym c.0)
        | no d ↦ get_or-set_other news w u i 0 d ∙ o.given u lu (elim q [ inl b ↦ inl b | inr b ↦ inr (omega arith) ])
      ];
      blank = λ u lu b q. get_or-set_other news w u i 0 (omega arith) ∙ o.blank u lu b (omega arith);
    })
  ]

  -- one of the path has its number
  pub off_skip : (w i : ℕ) (news : List ℕ) → w < m → OffPath ps m z w i news → word news w ≢ node_room
      → OffPath ps m z (suc w) i news
  off_skip w i news l o e = elim (bit_cases (anc up w z)) [
    | inl a ↦ absurd (e (o.blank w l a (omega arith)))
    | inr a ↦ record {
      long = o.long;
      next = o.next ∙ sym (counter_on up m z r y.node w a);
      given = λ u lu q. elim (ℕ_discrete u w) [
        | yes d ↦ o.given u lu (inl (subst (λ (x : ℕ). bit (anc up x z) ≡ 1) (sym d) a))
        | no d ↦ o.given u lu (elim q [ inl b ↦ inl b | inr b ↦ inr (omega arith) ])
      ];
      blank = λ u lu b q. o.blank u lu b (omega arith);
    }
  ]

  pub off_all : (w i : ℕ) (news : List ℕ) → m ≤ w → OffPath ps m z w i news → RenumberedAre ps m z news
  off_all w i news l o = record { long = o.long; new_is = λ v lv. o.given v lv (inr (omega arith)) }

  pub path_first : PathNumbered ps m z z 0 (replicate node_room node_room)
  path_first = record {
    long = length-replicate {A = ℕ} node_room node_room;
    path = anc_self up r z;
    next = sym (renumbered_root up m z r y.node);
    given = λ w lw o q. absurd (omega (arith, anc-le up r w z o));
    blank = λ w lw q. blank_cells w (omega (arith, y.few));
  }
