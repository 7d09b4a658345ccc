-- How many branches each node has, which nodes stay, and how many at each node and below.
-- Assumes nothing.
use Rattle.std.specs.Prelude.{◌≡◌, ◌||◌, List, ℕ, suc, ◌+◌, ◌*◌, ◌-◌, ◌≤◌, ◌<◌, ltb, leb, length, set, replicate}
use Rattle.std.proofs.Math.Path.{refl}
use Rattle.std.proofs.Common.{sym, ◌∙◌, subst, inl, inr, length-set, get_or-set_same, get_or-set_other}
use Rattle.std.proofs.Math.Decide.{ℕ_discrete}
use native.Mathlib.Omega.{arith}
use Rattle.std.proofs.lemmas.List.{length-replicate, get_or-replicate}
use Rattle.table_words.specs.Sizes.{node_room}
use Rattle.sums.specs.Bits.{bit}
use Rattle.sums.specs.Counts.{count}
use Rattle.sums.specs.Sum.{sum}
use Rattle.sums.specs.theorems.BitLaws.{bit_le, bit-T, bit_no}
use Rattle.sums.specs.theorems.Products.{product_le}
use Rattle.sums.specs.theorems.SumLaws.{sum-suc, sum_mono, sum_const}
use Rattle.sums.specs.theorems.CountLaws.{count-le}
use Rattle.sums.specs.theorems.TestLaws.{and-iff, or-iff, lt_iff, le_iff, eq_iff}
use Rattle.shapes.specs.Ancestors.{anc}
use Rattle.shapes.specs.theorems.Totals.{Added, total}
use Rattle.shapes.proofs.theorems.Totals.{added_none, added_next, added-le}
use Rattle.tree_check.specs.Table.{word}
use Rattle.canonical_copy.specs.lemmas.Parents.{ParentsBefore}
use Rattle.canonical_copy.proofs.lemmas.Parents.{parent_room}
use Rattle.canonical_copy.specs.lemmas.Staying.{BranchCounts, OwnAtMostOne, SizesAre, StayBits, branch_at}

-- ---- branches

module _ (ps lows : List ℕ) (k : ℕ) (y : ParentsBefore ps) where
  one_more : (v c : ℕ) → count (suc c) (branch_at ps lows k v) ≡ count c (branch_at ps lows k v) + bit (branch_at ps lows k v c)
  one_more v c = sum-suc c (λ d. bit (branch_at ps lows k v d))

  no_zero : (v : ℕ) → bit (branch_at ps lows k v 0) ≡ 0
  unfolding branch_at
  no_zero v = bit_no (branch_at ps lows k v 0) (λ t.
      let q = simp and-iff at t in absurd (omega (arith, (lt_iff 0 0).0 q.0.0)))

  is_branch : (v c : ℕ) → 1 ≤ c → word ps c ≡ v → word lows c < k → bit (branch_at ps lows k v c) ≡ 1
  unfolding branch_at
  is_branch v c p e l = bit-T (branch_at ps lows k v c)
      (simp and-iff (((lt_iff 0 c).1 p, (eq_iff (word ps c) v).1 e), (lt_iff (word lows c) k).1 l))

  other_node : (v c : ℕ) → (word ps c ≡ v → ⊥) → bit (branch_at ps lows k v c) ≡ 0
  unfolding branch_at
  other_node v c n = bit_no (branch_at ps lows k v c) (λ t.
      let q = simp and-iff at t in n ((eq_iff (word ps c) v).0 q.0.1))

  no_rank : (v c : ℕ) → k ≤ word lows c → bit (branch_at ps lows k v c) ≡ 0
  unfolding branch_at
  no_rank v c l = bit_no (branch_at ps lows k v c) (λ t.
      let q = simp and-iff at t in absurd (omega (arith, (lt_iff (word lows c) k).0 q.1)))

  pub counts_none : BranchCounts ps lows k 1 (replicate node_room 0)
  counts_none = record {
    long = length-replicate {A = ℕ} node_room 0;
    counts_are = λ v l.
        let a : word (replicate node_room 0) v ≡ 0 = get_or-replicate {A = ℕ} node_room v 0 0 (omega (arith, y.few)) in
        omega (arith, a, one_more v 0, none v, no_zero v);
  }
    where
      none : (v : ℕ) → count 0 (branch_at ps lows k v) ≡ 0
      none v = unfold sum in refl

  module _ (c : ℕ) (counts : List ℕ) (pc : 1 ≤ c) (lc : c < length ps) (s : BranchCounts ps lows k c counts) where
    lp : word ps c < length ps
    lp = omega (arith, parent_room ps y c pc lc)

    counts_few : word counts (word ps c) < node_room
    counts_few = omega (arith, s.counts_are (word ps c) lp, count-le c (branch_at ps lows k (word ps c)), y.few)

    pub counts_fit : (p : ℕ) → p ≡ word ps c → (p < node_room) × (word counts p < node_room)
    counts_fit p e = (omega (arith, lp, y.few), rw e counts_few)

    counts_set : word lows c < k → BranchCounts ps lows k (c + 1) (set counts (word ps c) (word counts (word ps c) + 1))
    counts_set l = let e : c + 1 ≡ suc c = omega arith in rw e (record {
      long = length-set counts (word ps c) (word counts (word ps c) + 1) ∙ s.long;
      counts_are = λ v lv. elim (ℕ_discrete v (word ps c)) [
        | yes e ↦ rw e (
            get_or-set_same counts (word ps c) (word counts (word ps c) + 1) 0 (omega (arith, s.long, lp, y.few))
            ∙ omega (arith, s.counts_are (word ps c) lp, one_more (word ps c) c, is_branch (word ps c) c pc refl l))
        | no d ↦ get_or-set_other counts (word ps c) v (word counts (word ps c) + 1) 0 d
            ∙ omega (arith, s.counts_are v lv, one_more v c, other_node v c (λ q. d (sym q)))
      ];
    })

    pub counts_take : (p : ℕ) → p ≡ word ps c → word lows c < k → BranchCounts ps lows k (c + 1) (set counts p (word counts p + 1))
    counts_take p ep l = rw ep (counts_set l)

    pub counts_skip : k ≤ word lows c → BranchCounts ps lows k (c + 1) counts
    counts_skip l = let e : c + 1 ≡ suc c = omega arith in rw e (record {
      long = s.long;
      counts_are = λ v lv. omega (arith, s.counts_are v lv, one_more v c, no_rank v c l);
    })

-- ---- what stays

pub bit_rank : (rank k n : ℕ) → rank < k → 1 ≡ bit (ltb rank k || leb 2 n)
bit_rank rank k n l = sym (bit-T (ltb rank k || leb 2 n) ((or-iff (ltb rank k) (leb 2 n)).1 (inl ((lt_iff rank k).1 l))))

pub bit_branches : (rank k n : ℕ) → 2 ≤ n → 1 ≡ bit (ltb rank k || leb 2 n)
bit_branches rank k n l = sym (bit-T (ltb rank k || leb 2 n) ((or-iff (ltb rank k) (leb 2 n)).1 (inr ((le_iff 2 n).1 l))))

pub bit_none : (rank k n : ℕ) → k ≤ rank → n < 2 → 0 ≡ bit (ltb rank k || leb 2 n)
bit_none rank k n a b = sym (bit_no (ltb rank k || leb 2 n) (λ t. elim ((or-iff (ltb rank k) (leb 2 n)).0 t) [
  | inl q ↦ omega (arith, (lt_iff rank k).0 q)
  | inr q ↦ omega (arith, (le_iff 2 n).0 q)
]))

pub bits_none : (ranks branches : List ℕ) (k : ℕ) → StayBits ranks branches k 0 (replicate node_room 0)
bits_none ranks branches k = record { long = length-replicate {A = ℕ} node_room 0; bits_are = λ v l. absurd (omega arith) }

pub bits_next : (ranks branches : List ℕ) (k v : ℕ) (bits : List ℕ) (z : ℕ) → v < node_room
    → z ≡ bit (ltb (word ranks v) k || leb 2 (word branches v)) → StayBits ranks branches k v bits
    → StayBits ranks branches k (v + 1) (set bits v z)
bits_next ranks branches k v bits z l ez s = record {
  long = length-set bits v z ∙ s.long;
  bits_are = λ u lu. elim (ℕ_discrete u v) [
    | yes e ↦ rw e (get_or-set_same bits v z 0 (omega (arith, s.long)) ∙ ez)
    | no d ↦ get_or-set_other bits v u z 0 d ∙ s.bits_are u (omega arith)
  ];
}

-- ---- sizes

module _ (ps own : List ℕ) (y : ParentsBefore ps) (o : OwnAtMostOne (length ps) own) where
  pub sizes_none : SizesAre ps own (length ps) own
  sizes_none = record { long = o.long; added = added_none (word ps) y.rooted (length ps) (word own) (word own) (λ v l. refl) }

  few : (v : ℕ) → total (word ps) (length ps) (word own) v ≤ length ps
  unfolding total
  few v = omega (
    arith,
    sum_mono (length ps) (λ w. bit (anc (word ps) v w) * word own w) (λ w. 1)
        (λ w l. product_le 1 1 _ _ (bit_le (anc (word ps) v w)) (o.small w l)),
    sum_const (length ps) 1,
  )

  module _ (c : ℕ) (sizes : List ℕ) (more : 1 < c) (last : c ≤ length ps) (s : SizesAre ps own c sizes) where
    next : Added (word ps) (length ps) (word own) (word sizes) (c - 1 + 1)
    next = let e : c ≡ c - 1 + 1 = omega arith in subst (λ (i : ℕ). Added (word ps) (length ps) (word own) (word sizes) i) e s.added

    sizes_few : word sizes (word ps (c - 1)) + word sizes (c - 1) ≤ node_room
    sizes_few = omega (
      arith,
      added-le (word ps) y.rooted (length ps) (word own) (word sizes) (c - 1) (omega arith) (omega arith) next,
      few (word ps (c - 1)),
      y.few,
    )

    sizes_set : SizesAre ps own (c - 1) (set sizes (word ps (c - 1)) (word sizes (word ps (c - 1)) + word sizes (c - 1)))
    sizes_set = let z = word sizes (word ps (c - 1)) + word sizes (c - 1) in record {
      long = length-set sizes (word ps (c - 1)) z ∙ s.long;
      added = added_next (word ps) y.rooted (length ps) (word own) (word sizes) _ (c - 1) (omega arith) (omega arith)
          (get_or-set_same sizes (word ps (c - 1)) z 0 (omega (arith, s.long, parent_room ps y (c - 1) (omega arith) (omega arith))))
          (λ v lv d. get_or-set_other sizes (word ps (c - 1)) v z 0 d) next;
    }

    pub sizes_fit : (p : ℕ) → p ≡ word ps (c - 1) → (p < node_room) × (word sizes p + word sizes (c - 1) ≤ node_room)
    sizes_fit p e = (omega (arith, parent_room ps y (c - 1) (omega arith) (omega arith)), rw e sizes_few)

    pub sizes_next : (p : ℕ) → p ≡ word ps (c - 1) → SizesAre ps own (c - 1) (set sizes p (word sizes p + word sizes (c - 1)))
    sizes_next p e = rw e sizes_set
