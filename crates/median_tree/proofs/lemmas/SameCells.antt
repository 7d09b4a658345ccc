-- Cells that stay from one on, over a call and over several, until the first are cleared.
-- Assumes nothing.
use Rattle.std.specs.Prelude.{◌≡◌, refl, List, ℕ, ◌≤◌, length}
use Rattle.std.proofs.Common.{sym, ◌∙◌, arith}
use Rattle.sums.specs.theorems.ListLaws.{in_front-length, in_front_later, in_front_is}
use Rattle.tree_check.specs.Table.{Table}
use Rattle.counting.specs.Labels.{Labels}
use Rattle.pair_check.specs.PairOrder.{cells_needed}
use Rattle.pair_check.specs.Clearing.{zeroed}
use Rattle.pair_check.specs.theorems.ClearingLaws.{enough, cleared, later_stay}
use Rattle.tree_pairs.specs.Crossings.{cell_of, crossed}
use Rattle.tree_pairs.proofs.theorems.CrossingLaws.{crossed-length}
use Rattle.median_tree.specs.lemmas.SameCells.{SameFrom}

pub same_now : (k : ℕ) (work : List ℕ) → SameFrom k work work
same_now k work = record { long = refl; tail = λ c l. refl }

pub same_then : (k : ℕ) (a b c : List ℕ) → SameFrom k a b → SameFrom k b c → SameFrom k a c
same_then k a b c f g = record { long = g.long ∙ f.long; tail = λ x l. g.tail x l ∙ f.tail x l }

pub same_later : (k m : ℕ) (a b : List ℕ) → k ≤ m → SameFrom k a b → SameFrom m a b
same_later k m a b l f = record { long = f.long; tail = λ x h. f.tail x (omega arith) }

-- the crossings of two trees
pub same_crossed : (l : Labels) (t u : Table) (work : List ℕ) → cells_needed t u ≤ length work
    → SameFrom (cells_needed t u) work (crossed l t u work)
unfolding crossed
same_crossed l t u work m = record {
  long = crossed-length l t u work m;
  tail = in_front_later (cells_needed t u) (cell_of l t u) work;
}

-- once the first k are cleared, they are zeros before the cells that stayed
pub cleared_after : (k : ℕ) (a b c : List ℕ) → k ≤ length a → SameFrom k a b → c ≡ zeroed k b → c ≡ zeroed k a
cleared_after k a b c l f e =
    let m : k ≤ length b = omega (arith, l, f.long) in
    e ∙ in_front_is k (λ x. 0) a (zeroed k b) (long m ∙ f.long) l (cleared k b m) (λ x h. later_stay k b m x h ∙ f.tail x h)
    ∙ sym (enough k a l)
  where
    long : k ≤ length b → length (zeroed k b) ≡ length b
    long m = rw (enough k b m) (in_front-length k (λ x. 0) b m)
