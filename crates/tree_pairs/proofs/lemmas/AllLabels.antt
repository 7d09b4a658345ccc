-- The crossings of all labels are those that marks of 1 keep.
-- Assumes nothing.
use Rattle.std.specs.Prelude.{◌≡◌, refl, ◌&&◌, List}
use Rattle.std.proofs.Common.{◌∙◌, arith}
use Rattle.std.proofs.Math.Path.{ap, fun_ext}
use Prim.Native.Nat.{ℕ, suc, ◌-◌, ◌/◌, ◌%◌}
use Rattle.table_words.specs.Sizes.{tips_most}
use Rattle.sums.specs.Bits.{bit}
use Rattle.sums.specs.Counts.{count}
use Rattle.sums.specs.Lists.{in_front}
use Rattle.sums.specs.theorems.SumLaws.{sum_ext}
use Rattle.tree_check.specs.Table.{Table, tips, nodes}
use Rattle.tree_check.specs.IsTree.{IsTree}
use Rattle.marks.proofs.theorems.Ones.{ones, ones_keep}
use Rattle.counting.specs.Labels.{Labels, all}
use Rattle.counting.specs.Kept.{kept}
use Rattle.counting.specs.SplitCounts.{beyond_at}
use Rattle.counting.specs.theorems.AllKept.{Alike}
use Rattle.counting.proofs.theorems.AllKept.{all_alike, sides-alike}
use Rattle.pair_check.specs.PairOrder.{cells_needed}
use Rattle.tree_pairs.specs.Crossings.{edge_crossing, cell_of, crossed, crossed_kept, crossed_all}

module _ (l m : Labels) (a : Alike l m) (t u : Table) where
  crossing-alike : (i j : ℕ) → edge_crossing l t u i j ≡ edge_crossing m t u i j
  unfolding edge_crossing
  crossing-alike i j =
      sum_ext l.number _ _ (λ x o. rw (sides-alike l m a t i x o, sides-alike l m a u j x o))
      ∙ ap (λ (n : ℕ). count n (λ x. beyond_at m t i x && beyond_at m u j x)) a.same_number

  -- the same labels have the same crossings
  pub crossed-alike : (work : List ℕ) → crossed l t u work ≡ crossed m t u work
  unfolding crossed cell_of
  crossed-alike work =
      ap (λ (f : ℕ → ℕ). in_front (cells_needed t u) f work)
      (fun_ext (λ c. crossing-alike (suc (c / (nodes u - 1))) (suc (c % (nodes u - 1)))))

-- marks of 1, one for each label that a tree may have
pub crossed-ones : (t u : Table) → IsTree t → (work : List ℕ) → crossed_kept t u (ones tips_most) work ≡ crossed_all t u work
crossed-ones t u g work =
    crossed-alike (kept (ones tips_most) (tips t)) (all (tips t))
    (all_alike (ones tips_most) (tips t) (λ x o. unfold bit in rw (ones_keep tips_most x (omega (arith, o, g.tips_range))) refl)) t u work
