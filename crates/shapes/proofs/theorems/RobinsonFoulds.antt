-- Splits as different pairs of tip sets: common splits, counted from either tree, and the Robinson-Foulds distance.
-- Assumes nothing.
use Rattle.std.specs.Prelude.{◌≡◌, refl, Bool, ◌&&◌, ◌↔◌, ℕ, suc, ◌+◌, ◌*◌, ◌≤◌, ◌<◌}
use Rattle.std.proofs.Common.{sym, ◌∙◌, T_not}
use Rattle.std.proofs.Math.Path.{ap}
use Rattle.std.proofs.Math.Decide.{dec_lt}
use native.Mathlib.Omega.{arith}
use Rattle.std.proofs.Math.Dec.{T, not_T}
use Rattle.sums.specs.theorems.SumLaws.{sum_ext}
use Rattle.sums.specs.Bits.{bit}
use Rattle.sums.specs.theorems.TestLaws.{and-iff, same_test, some_ext, some-iff, not-some-iff, some_first}
use Rattle.sums.specs.Tests.{some}
use Rattle.sums.specs.Counts.{count}
use Rattle.sums.specs.theorems.Matchings.{count_mono, count_same, partners}
use Rattle.shapes.specs.Splits.{Sides, is_split, same_sides, occurs, is_new_split, splits_of, common_of}
use Rattle.shapes.specs.theorems.SplitLaws.{robinson_foulds_of}
use Rattle.shapes.specs.Splits.{Split, SameSides, same, AllOccur, SameSplits}
use Rattle.shapes.specs.theorems.SplitLaws.{NewSplit}
use Rattle.shapes.specs.theorems.SplitLaws.{Distinct}
use Rattle.shapes.proofs.theorems.SplitLaws.{sides_sym}
use Rattle.shapes.proofs.theorems.SplitLaws.{sides_trans, split_moves, split_iff, same_sides-iff, occurs-iff}

-- ---- the first edge with its two tip sets

pub new_iff : (n k : ℕ) (b : Sides) (i : ℕ) → i < k → T (is_new_split n b i) ↔ NewSplit n k b i
unfolding is_new_split occurs
new_iff n k b i l = (
  λ t. let r = (and-iff (is_split n b (suc i)) _).0 t in record {
    split = (split_iff n k b (suc i) (omega arith) l).0 r.0;
    new = λ j m h. T_not (same_sides n b b (suc i) (suc j)) ((not-some-iff i _).0 r.1 j m)
        ((same_sides-iff n b b (suc i) (suc j)).1 h);
  },
  λ f. (and-iff (is_split n b (suc i)) _).1 (
    (split_iff n k b (suc i) (omega arith) l).1 f.split,
    (not-some-iff i _).1 (λ j m. not_T (same_sides n b b (suc i) (suc j))
        (λ t. f.new j m ((same_sides-iff n b b (suc i) (suc j)).0 t))),
  ),
)

-- two of them with the same tip sets are one
new_one : {n k : ℕ} {b : Sides} {i j : ℕ} → NewSplit n k b i → NewSplit n k b j
    → SameSides n b b (suc i) (suc j) → i ≡ j
new_one {i = i} {j = j} f g h = elim (dec_lt i j) [
  | yes l ↦ absurd (g.new i l (sides_sym h))
  | no m ↦ elim (dec_lt j i) [ yes l ↦ absurd (f.new j l h) | no o ↦ omega arith ]
]

-- the tip sets of a split, where they occur in a tree: the first edge with them
new_of : {n k : ℕ} {b : Sides} {i : ℕ} (l : ℕ) (c : Sides) → Split n k b i → T (occurs n b l c i)
    → (j : ℕ) × (j < l) × NewSplit n l c j × SameSides n b c i (suc j)
unfolding occurs
new_of {n} {b = b} {i = i} l c s t =
    let r = some_first l (λ j. same_sides n b c i (suc j)) t in
    let a = (same_sides-iff n b c i (suc r.0)).0 r.2 in (
      r.0,
      r.1,
      record {
        split = split_moves (omega arith) r.1 s a;
        new = λ j m h. r.3 j m ((same_sides-iff n b c i (suc j)).1 (sides_trans a h));
      },
      a,
    )

-- where different splits have different tip sets, each split is the first with its own
pub new_where_distinct : (n k : ℕ) (b : Sides) → Distinct n k b → (i : ℕ) → i < k
    → is_new_split n b i ≡ is_split n b (suc i)
new_where_distinct n k b d i l = same_test _ _
    (λ t. (split_iff n k b (suc i) (omega arith) l).1 ((new_iff n k b i l).0 t).split)
    (λ t. let s = (split_iff n k b (suc i) (omega arith) l).0 t in (new_iff n k b i l).1 (record {
      split = s;
      new = λ j m h. apart j m (d (suc i) (suc j) s (split_moves (omega arith) (omega (arith, l, m)) s h) h);
    }))
  where
    apart : (j : ℕ) → j < i → suc i ≡ suc j → ⊥
    apart j m e = omega arith

-- ---- a split of both trees

-- edge i + 1 of the one and edge j + 1 of the other are the first with the same two tip sets
shared : ℕ → Sides → Sides → ℕ → ℕ → Bool
shared n b c i j = is_new_split n b i && (is_new_split n c j && same_sides n b c (suc i) (suc j))

record Shared (n k : ℕ) (b : Sides) (l : ℕ) (c : Sides) (i j : ℕ) : Type 0 where
  one : NewSplit n k b i
  other : NewSplit n l c j
  sides : SameSides n b c (suc i) (suc j)

module _ (n k : ℕ) (b : Sides) (l : ℕ) (c : Sides) where
  shared_iff : (i j : ℕ) → i < k → j < l → T (shared n b c i j) ↔ Shared n k b l c i j
  unfolding shared
  shared_iff i j li lj = (
    λ t. let r = (and-iff (is_new_split n b i) _).0 t in
        let q = (and-iff (is_new_split n c j) _).0 r.1 in
        record {
          one = (new_iff n k b i li).0 r.0;
          other = (new_iff n l c j lj).0 q.0;
          sides = (same_sides-iff n b c (suc i) (suc j)).0 q.1;
        },
    λ s. (and-iff (is_new_split n b i) _).1 (
      (new_iff n k b i li).1 s.one,
      (and-iff (is_new_split n c j) _).1 (
        (new_iff n l c j lj).1 s.other,
        (same_sides-iff n b c (suc i) (suc j)).1 s.sides,
      ),
    ),
  )

  common_shared : common_of n k b l c ≡ count k (λ i. some l (shared n b c i))
  unfolding common_of occurs
  common_shared = sum_ext k _ _ (λ i li. ap bit (same_test _ _ (there i li) (back i li)))
    where
      there : (i : ℕ) → i < k → T (is_new_split n b i && occurs n b l c (suc i)) → T (some l (shared n b c i))
      there i li t =
          let r = (and-iff (is_new_split n b i) _).0 t in
          let f = (new_iff n k b i li).0 r.0 in
          let o = new_of l c f.split r.1 in
          (some-iff l _).1 (o.0, o.1, (shared_iff i o.0 li o.1).1 (record { one = f; other = o.2; sides = o.3 }))

      back : (i : ℕ) → i < k → T (some l (shared n b c i)) → T (is_new_split n b i && occurs n b l c (suc i))
      back i li t =
          let r = (some-iff l _).0 t in
          let s = (shared_iff i r.0 li r.1).0 r.2 in
          (and-iff (is_new_split n b i) _).1 (
            (new_iff n k b i li).1 s.one,
            (some-iff l _).1 (r.0, r.1, (same_sides-iff n b c (suc i) (suc r.0)).1 s.sides),
          )

shared_turn : {n k l : ℕ} {b c : Sides} {i j : ℕ} → Shared n k b l c i j → Shared n l c k b j i
shared_turn s = record { one = s.other; other = s.one; sides = sides_sym s.sides }

-- ---- common splits

module _ (n k : ℕ) (b : Sides) (l : ℕ) (c : Sides) where
  -- the common splits are as many counted from the other tree
  pub common_turned : common_of n k b l c ≡ common_of n l c k b
  common_turned =
      common_shared n k b l c
      ∙ partners k l (shared n b c) one-partner one-origin
      ∙ sum_ext l _ _ (λ j lj. ap bit (some_ext k _ _ (λ i li. turn i j li lj)))
      ∙ sym (common_shared n l c k b)
    where
      turn : (i j : ℕ) → i < k → j < l → shared n b c i j ≡ shared n c b j i
      turn i j li lj =
          let s = shared_iff n k b l c i j li lj in
          let r = shared_iff n l c k b j i lj li in
          same_test _ _ (λ t. r.1 (shared_turn (s.0 t))) (λ t. s.1 (shared_turn (r.0 t)))

      one-partner : (i j j' : ℕ) → i < k → j < l → j' < l
          → T (shared n b c i j) → T (shared n b c i j') → j ≡ j'
      one-partner i j j' li lj lj' t t' =
          let s = (shared_iff n k b l c i j li lj).0 t in
          let r = (shared_iff n k b l c i j' li lj').0 t' in
          new_one s.other r.other (sides_trans (sides_sym s.sides) r.sides)

      one-origin : (i i' j : ℕ) → i < k → i' < k → j < l
          → T (shared n b c i j) → T (shared n b c i' j) → i ≡ i'
      one-origin i i' j li li' lj t t' =
          let s = (shared_iff n k b l c i j li lj).0 t in
          let r = (shared_iff n k b l c i' j li' lj).0 t' in
          new_one s.one r.one (sides_trans s.sides (sides_sym r.sides))

  is_new : (i : ℕ) → i < k → T (is_new_split n b i && occurs n b l c (suc i)) → T (is_new_split n b i)
  is_new i m t = ((and-iff (is_new_split n b i) _).0 t).0

  common_le : common_of n k b l c ≤ splits_of n k b
  unfolding common_of splits_of
  common_le = count_mono k _ _ is_new

  -- as many are common as there are exactly if all are
  pub common_all : (common_of n k b l c ≡ splits_of n k b) ↔ AllOccur n k b l c
  unfolding common_of splits_of
  common_all = (
    λ e i s. let f = new_of k b s ((occurs-iff k b s).1 (i, s, same (λ x m. refl))) in
        let t = count_same k _ _ is_new e f.0 f.1 ((new_iff n k b f.0 f.1).1 f.2) in
        let o = (occurs-iff l c f.2.split).0 ((and-iff (is_new_split n b f.0) _).0 t).1 in
        (o.0, o.1, sides_trans f.3 o.2),
    λ h. sum_ext k _ _ (λ i m. ap bit (same_test _ _ (is_new i m) (λ t.
        let f = (new_iff n k b i m).0 t in
        (and-iff (is_new_split n b i) _).1 (t, (occurs-iff l c f.split).1 (h (suc i) f.split))))),
  )

-- ---- the Robinson-Foulds distance

module _ (n k : ℕ) (b : Sides) (l : ℕ) (c : Sides) where
  -- no more is taken off than is there
  pub robinson_foulds_fits : 2 * common_of n k b l c ≤ splits_of n k b + splits_of n l c
  robinson_foulds_fits =
      omega (arith, common_le n k b l c, common_le n l c k b, common_turned n k b l c)

  pub robinson_foulds-zero : (robinson_foulds_of n k b l c ≡ 0) ↔ SameSplits n k b l c
  unfolding robinson_foulds_of
  robinson_foulds-zero =
      let x = common_le n k b l c in
      let y = common_le n l c k b in
      let z = common_turned n k b l c in
      let f = common_all n k b l c in
      let g = common_all n l c k b in (
        λ e. record { there = f.0 (omega arith); back = g.0 (omega arith) },
        λ h. let p = f.1 h.there in let q = g.1 h.back in omega arith,
      )
