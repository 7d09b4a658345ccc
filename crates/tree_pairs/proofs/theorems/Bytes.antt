-- Every crossing of a tree table with another table fits a byte, whatever labels are counted: label 0 lies beyond no edge,
-- and a tree has 256 tips at most.
-- Assumes nothing.
use Rattle.std.specs.Prelude.{◌≡◌, ◌&&◌, List}
use Rattle.std.proofs.Math.Path.{refl, subst}
use Rattle.std.proofs.Common.{sym, ◌∙◌, ap, arith}
use Rattle.std.proofs.Math.Bool.{Bool}
use Prim.Native.Nat.{ℕ, zero, suc, ◌+◌, ◌*◌, ◌-◌, ◌/◌, ◌%◌, ◌≤◌, ◌<◌}
use Rattle.sums.specs.Bits.{bit}
use Rattle.sums.specs.Counts.{count}
use Rattle.sums.specs.theorems.CountLaws.{count-le}
use Rattle.sums.specs.theorems.ListLaws.{in_front_at}
use Rattle.sums.specs.theorems.Products.{bit_and}
use Rattle.sums.specs.theorems.SumLaws.{sum_first}
use Rattle.tree_check.specs.Table.{Table, word, tips, nodes, beyond}
use Rattle.tree_check.specs.IsTree.{IsTree}
use Rattle.counting.specs.Labels.{Labels}
use Rattle.counting.specs.theorems.LabelLaws.{Rising}
use Rattle.counting.proofs.theorems.LabelLaws.{all-rising}
use Rattle.counting.specs.SplitCounts.{beyond_at}
use Rattle.counting.proofs.theorems.KeptLaws.{kept-rising}
use Rattle.counting.proofs.theorems.TreeSplits.{zero_here}
use Rattle.pair_check.specs.PairOrder.{cells_needed}
use Rattle.tree_pairs.specs.Crossings.{edge_crossing, cell_of, crossed, crossed_all, crossed_kept}

-- a test that the first index does not pass is passed by fewer than there are
count_less : (k : ℕ) (q : ℕ → Bool) → bit (q 0) ≡ 0 → count (suc k) q ≤ k
count_less k q e = omega (arith, sum_first k (λ x. bit (q x)), count-le k (λ x. q (suc x)), e)

module _ (l : Labels) (t u : Table) (g : IsTree t) (r : Rising (tips t) l) where
  -- labels that rise from the first one on
  at_from : (x : ℕ) → x < l.number → x + l.at 0 ≤ l.at x
  at_from zero m = omega arith
  at_from (suc x) m = omega (arith, at_from x (omega arith), r.rises x (suc x) (omega arith) m)

  -- label 0 is the first rank's or none's: fewer labels than tips are beyond an edge of the first tree
  crossing_less : (i j : ℕ) → 1 ≤ i → edge_crossing l t u i j < tips t
  unfolding edge_crossing beyond_at
  crossing_less i j o = from l.number refl (l.at 0) refl
    where
      q : ℕ → Bool
      q x = beyond t i (l.at x) && beyond u j (l.at x)

      none : l.at 0 ≡ 0 → bit (q 0) ≡ 0
      none e = omega (
        arith,
        bit_and (beyond t i (l.at 0)) (beyond u j (l.at 0)),
        ap (λ (z : ℕ). z * bit (beyond u j (l.at 0))) (ap (λ (z : ℕ). bit (beyond t i z)) e ∙ zero_here t g i o),
      )

      from : (k : ℕ) → l.number ≡ k → (y : ℕ) → l.at 0 ≡ y → count l.number q < tips t
      from zero e y f = omega (arith, count-le l.number q, g.tips_range)
      from (suc k) e zero f = omega (
        arith,
        ap (λ (n : ℕ). count n q) e,
        count_less k q (none f),
        at_from k (omega arith),
        r.inside k (omega arith),
      )
      from (suc k) e (suc y) f = omega (
        arith,
        count-le l.number q,
        at_from k (omega arith),
        r.inside k (omega arith),
      )

  -- a crossing fits a byte
  pub cells_are_bytes : (i j : ℕ) → 1 ≤ i → edge_crossing l t u i j ≤ 255
  cells_are_bytes i j o = omega (arith, crossing_less i j o, g.tips_range)

  -- .. and so does every cell that holds one
  pub crossed_bytes : (work : List ℕ) (c : ℕ) → c < cells_needed t u → word (crossed l t u work) c ≤ 255
  unfolding crossed cell_of
  crossed_bytes work c m = subst (λ (x : ℕ). x ≤ 255) (sym (in_front_at (cells_needed t u) (cell_of l t u) _ c m))
      (cells_are_bytes (suc (c / (nodes u - 1))) (suc (c % (nodes u - 1))) (omega arith))

-- whatever labels marks keep, and of all labels
pub kept_bytes : (t u : Table) (marks work : List ℕ) → IsTree t → (c : ℕ) → c < cells_needed t u
    → word (crossed_kept t u marks work) c ≤ 255
kept_bytes t u marks work g = crossed_bytes _ t u g (kept-rising marks (tips t)) work

pub all_bytes : (t u : Table) (work : List ℕ) → IsTree t → (c : ℕ) → c < cells_needed t u → word (crossed_all t u work) c ≤ 255
all_bytes t u work g = crossed_bytes _ t u g (all-rising (tips t)) work
