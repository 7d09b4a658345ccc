-- What the tests of splits say in ordinary mathematics, and edges with the same tip sets.
-- Assumes nothing.
use Rattle.std.specs.Prelude.{◌≡◌, Bool, not, ◌↔◌, ℕ, zero, suc, ◌≤◌, ◌<◌, T}
use Rattle.std.proofs.Common.{sym, ◌∙◌, ap, subst, inl, inr, arith}
use Rattle.std.specs.Bool.{beq}
use Rattle.std.proofs.Math.Bool.{not-not}
use Rattle.sums.specs.theorems.TestLaws.{and-iff, or-iff, implies_iff, beq_iff, le_iff, some-iff, every-iff}
use Rattle.sums.specs.Tests.{every}
use Rattle.sums.specs.theorems.CountLaws.{count_twice}
use Rattle.sums.specs.Counts.{Twice}
use Rattle.shapes.specs.Splits.{Sides, is_split, same_sides, occurs}
use Rattle.shapes.specs.Splits.{Split, SameSides, same, turned, Occurs, AllOccur, SameSplits}
use Rattle.shapes.specs.theorems.SplitLaws.{all_occur, same_splits_of}

-- ---- edges with the same tip sets

not_turn : (x y : Bool) → x ≡ not y → y ≡ not x
not_turn x y e = sym (ap not e ∙ not-not y)

pub sides_sym : {n : ℕ} {b c : Sides} {i j : ℕ} → SameSides n b c i j → SameSides n c b j i
sides_sym (same h) = same (λ x l. sym (h x l))
sides_sym {b = b} {c = c} {i = i} {j = j} (turned h) = turned (λ x l. not_turn (b i x) (c j x) (h x l))

pub sides_trans : {n : ℕ} {b c d : Sides} {i j k : ℕ}
    → SameSides n b c i j → SameSides n c d j k → SameSides n b d i k
sides_trans (same h) (same g) = same (λ x l. h x l ∙ g x l)
sides_trans (same h) (turned g) = turned (λ x l. h x l ∙ g x l)
sides_trans (turned h) (same g) = turned (λ x l. h x l ∙ ap not (g x l))
sides_trans {d = d} {k = k} (turned h) (turned g) =
    same (λ x l. h x l ∙ ap not (g x l) ∙ not-not (d k x))

twice_ext : {n : ℕ} (p q : ℕ → Bool) → ((x : ℕ) → x < n → p x ≡ q x) → Twice n p → Twice n q
twice_ext p q h r = (
  r.0,
  r.1,
  r.2,
  r.3,
  subst T (h r.0 (omega (arith, r.2, r.3))) r.4,
  subst T (h r.1 r.3) r.5,
)

-- an edge with the tip sets of a split is a split
pub split_moves : {n k l : ℕ} {b c : Sides} {i j : ℕ} → 1 ≤ j → j ≤ l → Split n k b i → SameSides n b c i j
    → Split n l c j
split_moves {b = b} {c = c} {i = i} {j = j} l1 lj s (same h) = record {
  above = l1;
  edge = lj;
  beyond = twice_ext (b i) (c j) h s.beyond;
  here = twice_ext (λ x. not (b i x)) (λ x. not (c j x)) (λ x m. ap not (h x m)) s.here;
}
split_moves {b = b} {c = c} {i = i} {j = j} l1 lj s (turned h) = record {
  above = l1;
  edge = lj;
  beyond = twice_ext (λ x. not (b i x)) (c j) (λ x m. sym (not_turn (b i x) (c j x) (h x m))) s.here;
  here = twice_ext (b i) (λ x. not (c j x)) h s.beyond;
}

-- ---- the tests say it

pub split_iff : (n k : ℕ) (b : Sides) (i : ℕ) → 1 ≤ i → i ≤ k → T (is_split n b i) ↔ Split n k b i
unfolding is_split
split_iff n k b i l1 lk = (
  λ t. let s = simp (and-iff, le_iff, count_twice) at t in
      record { above = l1; edge = lk; beyond = s.0; here = s.1 },
  λ s. simp (and-iff, le_iff, count_twice) (s.beyond, s.here),
)

pub same_sides-iff : (n : ℕ) (b c : Sides) (i j : ℕ) → T (same_sides n b c i j) ↔ SameSides n b c i j
unfolding same_sides
same_sides-iff n b c i j =
    let e = every-iff n (λ x. beq (b i x) (c j x)) in
    let f = every-iff n (λ x. beq (b i x) (not (c j x))) in
    let o = or-iff (every n (λ x. beq (b i x) (c j x))) (every n _) in (
      λ t. elim (o.0 t) [
        | inl y ↦ same (λ x l. (beq_iff (b i x) (c j x)).0 (e.0 y x l))
        | inr z ↦ turned (λ x l. (beq_iff (b i x) (not (c j x))).0 (f.0 z x l))
      ],
      λ h. o.1 (elim h [
        | same y ↦ inl (e.1 (λ x l. (beq_iff (b i x) (c j x)).1 (y x l)))
        | turned z ↦ inr (f.1 (λ x l. (beq_iff (b i x) (not (c j x))).1 (z x l)))
      ]),
    )

pub occurs-iff : {n k : ℕ} {b : Sides} {i : ℕ} (l : ℕ) (c : Sides) → Split n k b i
    → T (occurs n b l c i) ↔ Occurs n b l c i
unfolding occurs
occurs-iff {n} {b = b} {i = i} l c s = (
  λ t. let r = (some-iff l _).0 t in
      let a = (same_sides-iff n b c i (suc r.0)).0 r.2 in
      (suc r.0, split_moves (omega arith) r.1 s a, a),
  λ o. (some-iff l _).1 (index o.0 o.1 o.2),
)
  where
    index : (j : ℕ) → Split n l c j → SameSides n b c i j → (j : ℕ) × (j < l) × T (same_sides n b c i (suc j))
    index zero q a = absurd (omega (arith, q.above))
    index (suc j) q a = (j, q.edge, (same_sides-iff n b c i (suc j)).1 a)

module _ (n k : ℕ) (b : Sides) (l : ℕ) (c : Sides) where
  pub all_occur_lem : ((i : ℕ) → i < k → T (is_split n b (suc i)) → T (occurs n b l c (suc i)))
      ↔ AllOccur n k b l c
  all_occur_lem = (
    go,
    λ h i m t. let s = (split_iff n k b (suc i) (omega arith) m).0 t in (occurs-iff l c s).1 (h (suc i) s),
  )
    where
      go : ((i : ℕ) → i < k → T (is_split n b (suc i)) → T (occurs n b l c (suc i))) → AllOccur n k b l c
      go h zero s = absurd (omega (arith, s.above))
      go h (suc i) s =
          (occurs-iff l c s).0 (h i s.edge ((split_iff n k b (suc i) s.above s.edge).1 s))

  all_occur-iff : T (all_occur n k b l c) ↔ AllOccur n k b l c
  unfolding all_occur
  all_occur-iff = (
    λ t. all_occur_lem.0 (λ i m. (implies_iff (is_split n b (suc i)) _).0 ((every-iff k _).0 t i m)),
    λ h. (every-iff k _).1 (λ i m. (implies_iff (is_split n b (suc i)) _).1 (all_occur_lem.1 h i m)),
  )

pub same_splits-iff : (n k : ℕ) (b : Sides) (l : ℕ) (c : Sides)
    → T (same_splits_of n k b l c) ↔ SameSplits n k b l c
unfolding same_splits_of
same_splits-iff n k b l c = (
  λ t. let s = simp (and-iff, all_occur-iff) at t in record { there = s.0; back = s.1 },
  λ h. simp (and-iff, all_occur-iff) (h.there, h.back),
)
