-- The pairs of labels, counted in eleven tallies.
-- Assumes nothing.
use Rattle.std.specs.Prelude.{◌≡◌, List, ℕ, suc, ◌+◌, ◌*◌, ◌-◌, ◌/◌, ◌≤◌, ◌<◌, length, set, replicate}
use Rattle.std.proofs.Common.{sym, ◌∙◌, ap, arith, length-set, get_or-set_same, get_or-set_other}
use Rattle.std.proofs.Math.Decide.{ℕ_discrete}
use Rattle.std.proofs.lemmas.List.{length-replicate, get_or-replicate}
use Rattle.sums.specs.Sum.{sum}
use Rattle.sums.specs.Bits.{is}
use Rattle.sums.specs.theorems.SumLaws.{sum-suc, sum_ext, sum_mono, sum_const}
use Rattle.sums.specs.theorems.BitLaws.{is_self, is_other_lem, bit_le}
use Rattle.tree_check.specs.Table.{word}
use Rattle.exchanges.specs.theorems.Walk.{whole_cost}

-- the tally of the label x, from the costs of paths to the nodes of labels
abbrev pub falls_at : ℕ → ℕ → List ℕ → List ℕ → ℕ → ℕ
falls_at whole_cost sets nodes costs x = 10 * ((whole_cost - word costs (word nodes x)) / 6) / sets

-- of the tallies f 0 .. f (k − 1) each has been counted once more
pub record CountedTallies (f : ℕ → ℕ) (k : ℕ) (old new : List ℕ) : Type 0 where
  pub long : length new ≡ 11
  pub cells : (i : ℕ) → i < 11 → word new i ≡ word old i + sum k (λ x. is (f x) i)

pub counted_none : (f : ℕ → ℕ) (old : List ℕ) → length old ≡ 11 → CountedTallies f 0 old old
unfolding sum
counted_none f old e = record { long = e; cells = λ i l. omega arith }

pub counted_next : (f : ℕ → ℕ) (k : ℕ) (old new : List ℕ) (i : ℕ) → i ≡ f k → i < 11 → CountedTallies f k old new
    → CountedTallies f (k + 1) old (set new i (word new i + 1))
counted_next f k old new i e l h = record {
  long = length-set new i (word new i + 1) ∙ h.long;
  cells = λ j m.
      let q : k + 1 ≡ suc k = omega arith in
      elim (ℕ_discrete j i) [
        | yes d ↦ rw d (get_or-set_same new i (word new i + 1) 0 (omega (arith, h.long))
            ∙ rw (h.cells i l, q, sum-suc k (λ x. is (f x) i), ← e, is_self i) (omega arith))
        | no d ↦ get_or-set_other new i j (word new i + 1) 0 d
            ∙ rw (h.cells j m, q, sum-suc k (λ x. is (f x) j), ← e, is_other_lem i j (λ p. d (sym p))) (omega arith)
      ];
}

-- no tally is above what was there and the number of pairs
pub counted_le : (f : ℕ → ℕ) (k : ℕ) (old new : List ℕ) (i : ℕ) → i < 11 → CountedTallies f k old new → word new i ≤ word old i + k
counted_le f k old new i l h = omega (
  arith,
  h.cells i l,
  sum_mono k (λ x. is (f x) i) (λ x. 1) (λ x m. bit_le _),
  sum_const k 1,
)

-- ---- row by row: g x y is the tally of the pair x < y

pub record Rows (g : ℕ → ℕ → ℕ) (y : ℕ) (tallies : List ℕ) : Type 0 where
  pub long : length tallies ≡ 11
  pub cells : (i : ℕ) → i < 11 → word tallies i ≡ sum y (λ y. sum y (λ x. is (g x y) i))

pub rows_none : (g : ℕ → ℕ → ℕ) → Rows g 0 (replicate 11 0)
unfolding sum
rows_none g = record { long = length-replicate {A = ℕ} 11 0; cells = λ i l. get_or-replicate 11 i 0 0 l }

pub rows_next : (g : ℕ → ℕ → ℕ) (y : ℕ) (old new : List ℕ) (f : ℕ → ℕ) → ((x : ℕ) → x < y → f x ≡ g x y)
    → Rows g y old → CountedTallies f y old new → Rows g (y + 1) new
rows_next g y old new f e h c = record {
  long = c.long;
  cells = λ i l.
      let q : y + 1 ≡ suc y = omega arith in
      rw (q, sum-suc y (λ y. sum y (λ x. is (g x y) i))) (
      c.cells i l
      ∙ rw (h.cells i l) (ap (λ (z : ℕ). sum y (λ y. sum y (λ x. is (g x y) i)) + z)
      (sum_ext y _ _ (λ x m. ap (λ (z : ℕ). is z i) (e x m)))));
}

-- no tally is above the number of pairs
pub rows_le : (g : ℕ → ℕ → ℕ) (y : ℕ) (tallies : List ℕ) (i : ℕ) → i < 11 → Rows g y tallies → word tallies i ≤ y * y
rows_le g y tallies i l h = omega (
  arith,
  h.cells i l,
  sum_mono y (λ y. sum y (λ x. is (g x y) i)) (λ z. y) (λ z m. omega (
    arith,
    sum_mono z (λ x. is (g x z) i) (λ x. 1) (λ x k. bit_le _),
    sum_const z 1,
  )),
  sum_const y y,
)
