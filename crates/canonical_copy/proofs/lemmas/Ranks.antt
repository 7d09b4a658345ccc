-- The ranks of labels in the table that is re-rooted at the smallest kept label, and the rank at each node.
-- Assumes nothing.
use Rattle.std.specs.Prelude.{◌≡◌, true, false, List, length, set, replicate}
use Rattle.std.proofs.Common.{sym, ◌∙◌, lt-ltb, le-ltb, get_or-set_same}
use Rattle.std.proofs.Math.Path.{ap}
use Prim.Native.Nat.{ℕ, suc, ◌+◌, ◌≤◌, ◌<◌}
use Rattle.std.proofs.Math.Decide.{ℕ_discrete}
use native.Mathlib.Omega.{arith}
use Rattle.std.proofs.Math.ListN.{length-set}
use Rattle.std.proofs.lemmas.List.{length-replicate, get_or-replicate}
use Rattle.std.proofs.Math.Seq.{get_or-set_other}
use Rattle.table_words.specs.Sizes.{tips_most, node_room}
use Rattle.sums.specs.Bits.{bit}
use Rattle.sums.specs.Counts.{count}
use Rattle.sums.specs.theorems.SumLaws.{sum-suc}
use Rattle.sums.specs.theorems.CountLaws.{count-le}
use Rattle.tree_check.specs.Table.{word}
use Rattle.marks.specs.Marks.{is_kept}
use Rattle.canonical_copy.specs.lemmas.Ranks.{NodeRanks, Rankable, RankedTo, RanksAre, rank_of}

-- one label more that is not kept
pub none_next : (marks : List ℕ) (x : ℕ) → ((j : ℕ) → j < x → is_kept marks j ≡ false) → is_kept marks x ≡ false
    → (j : ℕ) → j < x + 1 → is_kept marks j ≡ false
none_next marks x h e j l = elim (ℕ_discrete j x) [ yes d ↦ ap (is_kept marks) d ∙ e | no d ↦ h j (omega arith) ]

module _ (marks : List ℕ) (x k : ℕ) (h : Rankable marks x k) where
  more : (y : ℕ) → count (suc y) (is_kept marks) ≡ count y (is_kept marks) + bit (is_kept marks y)
  more y = sum-suc y (λ z. bit (is_kept marks z))

  pub ranked_none : RankedTo marks x k (x + 1) 1 (set (replicate tips_most k) 0 0)
  ranked_none = let e : x + 1 ≡ suc x = omega arith in rw e (record {
    long = length-set (replicate tips_most k) 0 0 ∙ length-replicate {A = ℕ} tips_most k;
    next = omega (arith, more x, h.bit_kept, h.first);
    zero = get_or-set_same (replicate tips_most k) 0 0 0 (omega (arith, length-replicate {A = ℕ} tips_most k));
    later = λ z a b. absurd (omega arith);
    other = λ z p l d. get_or-set_other (replicate tips_most k) 0 z 0 0 (omega arith) ∙ get_or-replicate {A = ℕ} tips_most z k 0 l;
  })

  module _ (y rank : ℕ) (ranks : List ℕ) (ly : x < y) (my : y < length marks) (s : RankedTo marks x k y rank ranks) where
    pub rank_few : rank ≤ tips_most
    rank_few = omega (arith, s.next, count-le y (is_kept marks), h.few)

    pub ranked_take : is_kept marks y ≡ true → RankedTo marks x k (y + 1) (rank + 1) (set ranks y rank)
    ranked_take b = let q : bit (is_kept marks y) ≡ 1 = unfold bit in ap bit b in let e : y + 1 ≡ suc y = omega arith in rw e (record {
      long = length-set ranks y rank ∙ s.long;
      next = omega (arith, s.next, more y, q);
      zero = get_or-set_other ranks y 0 rank 0 (omega arith) ∙ s.zero;
      later = λ z a b c. elim (ℕ_discrete z y) [
        | yes d ↦ rw d (get_or-set_same ranks y rank 0 (omega (arith, s.long, h.few)) ∙ s.next)
        | no d ↦ get_or-set_other ranks y z rank 0 d ∙ s.later z a (omega arith) c
      ];
      other = λ z p l d. elim (ℕ_discrete z y) [
        | yes w ↦ absurd (d (omega arith) (omega arith) (ap (λ (u : ℕ). bit (is_kept marks u)) w ∙ q))
        | no w ↦ get_or-set_other ranks y z rank 0 w ∙ s.other z p l (λ a b c. d a (omega arith) c)
      ];
    })

    pub ranked_skip : is_kept marks y ≡ false → RankedTo marks x k (y + 1) rank ranks
    ranked_skip b = let q : bit (is_kept marks y) ≡ 0 = unfold bit in ap bit b in let e : y + 1 ≡ suc y = omega arith in rw e (record {
      long = s.long;
      next = omega (arith, s.next, more y, q);
      zero = s.zero;
      later = λ z a b c. elim (ℕ_discrete z y) [
        | yes d ↦ absurd (omega (arith, q, c, ap (λ (u : ℕ). bit (is_kept marks u)) d))
        | no d ↦ s.later z a (omega arith) c
      ];
      other = λ z p l d. s.other z p l (λ a b c. d a (omega arith) c);
    })

  pub ranked_all : (y rank : ℕ) (ranks : List ℕ) → length marks ≤ y → y ≤ length marks → RankedTo marks x k y rank ranks
      → RanksAre marks x k ranks
  ranked_all y rank ranks a b s = record {
    long = s.long;
    zero = s.zero;
    later = λ z p l. s.later z p (omega arith);
    other = λ z p l d. s.other z p l (λ u v. d u (omega arith));
  }

-- ---- at each node

pub rank_label : (ranks : List ℕ) (k y : ℕ) → y < tips_most → rank_of ranks k y ≡ word ranks y
unfolding rank_of
rank_label ranks k y l = rw (lt-ltb y tips_most l, rank_of)

pub rank_inner : (ranks : List ℕ) (k y : ℕ) → tips_most ≤ y → rank_of ranks k y ≡ k
unfolding rank_of
rank_inner ranks k y l = rw (le-ltb y tips_most l, rank_of)

pub nodes_none : (labels ranks : List ℕ) (k : ℕ) → NodeRanks labels ranks k 0 (replicate node_room k)
nodes_none labels ranks k = record {
  long = length-replicate {A = ℕ} node_room k;
  rank_is = λ v l. absurd (omega arith);
  later = λ v a l. get_or-replicate {A = ℕ} node_room v k 0 l;
}

module _ (labels ranks : List ℕ) (k v : ℕ) (at : List ℕ) (l : v < node_room) (s : NodeRanks labels ranks k v at) where
  nodes-set : (z : ℕ) → z ≡ rank_of ranks k (word labels v) → NodeRanks labels ranks k (v + 1) (set at v z)
  nodes-set z ez = record {
    long = length-set at v z ∙ s.long;
    rank_is = λ w lw. elim (ℕ_discrete w v) [
      | yes e ↦ rw e (get_or-set_same at v z 0 (omega (arith, s.long)) ∙ ez)
      | no d ↦ get_or-set_other at v w z 0 d ∙ s.rank_is w (omega arith)
    ];
    later = λ w a b. get_or-set_other at v w z 0 (omega arith) ∙ s.later w (omega arith) b;
  }

  pub nodes-take : (y : ℕ) → y ≡ word labels v → y < tips_most → NodeRanks labels ranks k (v + 1) (set at v (word ranks y))
  nodes-take y ey m = nodes-set (word ranks y) (sym (rank_label ranks k y m) ∙ ap (rank_of ranks k) ey)

  pub nodes_skip : (y : ℕ) → y ≡ word labels v → tips_most ≤ y → NodeRanks labels ranks k (v + 1) at
  nodes_skip y ey m = record {
    long = s.long;
    rank_is = λ w lw. elim (ℕ_discrete w v) [
      | yes e ↦ rw e (s.later v (omega arith) l ∙ sym (rank_inner ranks k (word labels v) (omega (arith, ey))))
      | no d ↦ s.rank_is w (omega arith)
    ];
    later = λ w a b. s.later w (omega arith) b;
  }
