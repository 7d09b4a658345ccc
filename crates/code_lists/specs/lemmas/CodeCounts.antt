-- The codes counted one by one, each at the node that it leads into, and the counts added up.
-- Assumes nothing.
use Rattle.std.specs.Prelude.{◌≡◌, refl, List, ℕ, suc, ◌+◌, ◌*◌, ◌-◌, ◌≤◌, ◌<◌, length, set, replicate}
use Rattle.std.proofs.Common.{sym, ◌∙◌, ap, add-one, length-set, get_or-set_same, get_or-set_other}
use Rattle.std.proofs.Math.Decide.{ℕ_discrete}
use native.Mathlib.Omega.{arith}
use Rattle.std.proofs.lemmas.List.{length-replicate, get_or-replicate}
use Rattle.table_words.specs.Sizes.{node_room}
use Rattle.table_words.specs.lemmas.Rooms.{code_room}
use Rattle.sums.specs.Sum.{sum}
use Rattle.sums.specs.theorems.BitLaws.{is_eq, is_other_lem}
use Rattle.shapes.specs.Directions.{head}
use Rattle.shapes.proofs.theorems.DirectionLaws.{head_even, head_odd}
use Rattle.node_pairs.specs.CodesInto.{degree_of}
use Rattle.node_pairs.specs.theorems.CodesOfANode.{degree-suc}
use Rattle.tree_check.specs.Table.{word}
use Rattle.code_lists.specs.ListedCodes.{codes_of, degree_at, codes_before}
use Rattle.code_lists.specs.lemmas.CodesAt.{Parents, degree_mono, starts_inside, starts_suc}

-- the codes below k are counted at the nodes that they lead into: at node v from the number `from v` on
pub record CountedCodes (ps : List ℕ) (from : ℕ → ℕ) (k : ℕ) (cells : List ℕ) : Type 0 where
  pub long : length cells ≡ node_room
  pub at : (v : ℕ) → v < length ps → word cells v ≡ from v + degree_of k (head (word ps)) v

-- the counts of the nodes before v are added up to `at`: in the cells of `starts`, which were `old`, and of `next`, where
-- the other nodes' counts are left
pub record AddedStarts (ps old : List ℕ) (v at : ℕ) (next starts : List ℕ) : Type 0 where
  pub sum_is : at ≡ codes_before ps v
  pub long : length next ≡ node_room
  pub same : length starts ≡ length old
  pub place : (u : ℕ) → u < v → word next u ≡ codes_before ps u
  pub count : (u : ℕ) → v ≤ u → u < length ps → word next u ≡ degree_at ps u
  pub start : (u : ℕ) → u < v → word starts u ≡ codes_before ps u
  pub later : (u : ℕ) → v ≤ u → word starts u ≡ word old u

-- all starts are, and the first code into each node has its place
pub record StartsIn (ps old next starts : List ℕ) : Type 0 where
  pub places : CountedCodes ps (codes_before ps) 0 next
  pub start : (v : ℕ) → v ≤ length ps → word starts v ≡ codes_before ps v
  pub later : (v : ℕ) → length ps < v → word starts v ≡ word old v

-- ---- counting

-- no code is counted yet
pub counted_start : (ps : List ℕ) (from : ℕ → ℕ) (cells : List ℕ) → length cells ≡ node_room
    → ((v : ℕ) → v < length ps → word cells v ≡ from v) → CountedCodes ps from 0 cells
counted_start ps from cells l h = record { long = l; at = λ v m. h v m ∙ none v }
  where
    none : (v : ℕ) → from v ≡ from v + degree_of 0 (head (word ps)) v
    none v = unfold degree_of sum in omega arith

-- counting begins with zeros
pub counted_none : (ps : List ℕ) → length ps ≤ node_room → CountedCodes ps (λ v. 0) 0 (replicate node_room 0)
counted_none ps l = counted_start ps (λ v. 0) (replicate node_room 0) (length-replicate {A = ℕ} node_room 0)
    (λ v m. get_or-replicate node_room v 0 0 (omega arith))

-- code k leads into v, and is counted there
pub counted_next : (ps : List ℕ) (from : ℕ → ℕ) (k v : ℕ) (cells : List ℕ) → head (word ps) k ≡ v → v < node_room
    → CountedCodes ps from k cells → CountedCodes ps from (suc k) (set cells v (word cells v + 1))
counted_next ps from k v cells e l h = record {
  long = length-set cells v (word cells v + 1) ∙ h.long;
  at = λ u m. elim (ℕ_discrete u v) [
    | yes d ↦ rw d (get_or-set_same cells v (word cells v + 1) 0 (omega (arith, h.long))
        ∙ omega (
          arith,
          h.at v (omega (arith, d)),
          degree-suc (head (word ps)) v k,
          is_eq v (head (word ps) k) (sym e),
        ))
    | no d ↦ get_or-set_other cells v u (word cells v + 1) 0 d
        ∙ omega (
          arith,
          h.at u m,
          degree-suc (head (word ps)) u k,
          is_other_lem u (head (word ps) k) (λ q. d (q ∙ e)),
        )
  ];
}

-- the codes below k are few
counted_few : (ps : List ℕ) (k v : ℕ) (cells : List ℕ) → Parents ps → k ≤ codes_of ps → v < length ps
    → CountedCodes ps (λ v. 0) k cells → word cells v < code_room
counted_few ps k v cells p l m h = omega (
  arith,
  h.at v m,
  degree_mono (head (word ps)) v k (codes_of ps) l,
  starts_suc ps v,
  starts_inside ps (suc v),
  p.few,
)

-- node i's edge is the one after i - 1 others
pub two_more : (i : ℕ) → 1 ≤ i → 2 * (i + 1 - 1) ≡ suc (suc (2 * (i - 1)))
two_more i l = omega arith

-- the two codes of node i's edge: one leads into its parent v, the other into node i
module _ (ps : List ℕ) (p : Parents ps) (i v : ℕ) (l : 1 ≤ i) (m : i < length ps) (e : word ps i ≡ v) where
  pred-suc : suc (i - 1) ≡ i
  pred-suc = omega arith

  pub up_head : head (word ps) (2 * (i - 1)) ≡ v
  up_head = head_even (word ps) (i - 1) ∙ ap (word ps) pred-suc ∙ e

  pub down_head : head (word ps) (suc (2 * (i - 1))) ≡ i
  down_head = head_odd (word ps) (i - 1) ∙ pred-suc

  -- the parent is a node
  pub parent_inside : v < length ps
  parent_inside = omega (arith, e, p.before i l m)

  module _ (cells : List ℕ) (h : CountedCodes ps (λ v. 0) (2 * (i - 1)) cells) where
    -- the count at the parent is low, ..
    pub up_few : word cells v < code_room
    up_few = counted_few ps (2 * (i - 1)) v cells p (omega arith) parent_inside h

    -- the code into the parent is counted
    up_counted : CountedCodes ps (λ v. 0) (suc (2 * (i - 1))) (set cells v (word cells v + 1))
    up_counted =
        counted_next ps (λ v. 0) (2 * (i - 1)) v cells up_head (omega (arith, parent_inside, p.few)) h

    -- .. and so is then that at node i
    pub down_few : word (set cells v (word cells v + 1)) i < code_room
    down_few = counted_few ps (suc (2 * (i - 1))) i _ p (omega arith) m up_counted

    -- both codes are counted
    pub counted_edge : CountedCodes ps (λ v. 0) (2 * (i + 1 - 1))
        (set (set cells v (word cells v + 1)) i (word (set cells v (word cells v + 1)) i + 1))
    counted_edge = rw (two_more i l)
        (counted_next ps (λ v. 0) (suc (2 * (i - 1))) i _ down_head (omega (arith, p.few)) up_counted)

-- ---- adding up

-- the codes into node 0 begin at 0
pub added_none : (ps old next : List ℕ) → CountedCodes ps (λ v. 0) (codes_of ps) next → AddedStarts ps old 0 0 next old
added_none ps old next h = record {
  sum_is = unfold sum in refl;
  long = h.long;
  same = refl;
  place = λ u l. absurd (omega arith);
  count = λ u l m. omega (arith, h.at u m);
  start = λ u l. absurd (omega arith);
  later = λ u l. refl;
}

module _ (ps old : List ℕ) (v at : ℕ) (next starts : List ℕ) (h : AddedStarts ps old v at next starts) where
  -- those into node v + 1 begin where those into node v end
  pub added_next : v < length ps → v < node_room → v < length starts
      → AddedStarts ps old (v + 1) (at + word next v) (set next v at) (set starts v at)
  added_next l m n = record {
    sum_is = omega (arith, h.sum_is, h.count v (omega arith) l, starts_suc ps v, ap (codes_before ps) (add-one v));
    long = length-set next v at ∙ h.long;
    same = length-set starts v at ∙ h.same;
    place = λ u o. elim (ℕ_discrete u v) [
      | yes d ↦ rw d (get_or-set_same next v at 0 (omega (arith, h.long)) ∙ h.sum_is)
      | no d ↦ get_or-set_other next v u at 0 d ∙ h.place u (omega (arith, d))
    ];
    count = λ u o k. get_or-set_other next v u at 0 (λ d. omega arith) ∙ h.count u (omega arith) k;
    start = λ u o. elim (ℕ_discrete u v) [
      | yes d ↦ rw d (get_or-set_same starts v at 0 n ∙ h.sum_is)
      | no d ↦ get_or-set_other starts v u at 0 d ∙ h.start u (omega (arith, d))
    ];
    later = λ u o. get_or-set_other starts v u at 0 (λ d. omega arith) ∙ h.later u (omega arith);
  }

  -- those into the last node end at the sum of all
  pub added-all : v ≡ length ps → v < length starts → StartsIn ps old next (set starts v at)
  added-all e n = record {
    places = counted_start ps (codes_before ps) next h.long (λ u l. h.place u (omega arith));
    start = λ u o. elim (ℕ_discrete u v) [
      | yes d ↦ rw d (get_or-set_same starts v at 0 n ∙ h.sum_is)
      | no d ↦ get_or-set_other starts v u at 0 d ∙ h.start u (omega (arith, d))
    ];
    later = λ u o. get_or-set_other starts v u at 0 (λ d. omega arith) ∙ h.later u (omega arith);
  }

  -- and the sum is low
  pub added_few : Parents ps → v < length ps → at + word next v < code_room
  added_few p l = omega (
    arith,
    h.sum_is,
    h.count v (omega arith) l,
    starts_suc ps v,
    starts_inside ps (suc v),
    p.few,
  )
