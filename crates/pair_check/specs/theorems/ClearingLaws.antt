-- Cleared cells, cell by cell.
-- Assumes nothing.
use Rattle.std.specs.Prelude.{◌≡◌, List, ℕ, ◌≤◌, ◌<◌, length}
use Rattle.std.proofs.Common.{◌∙◌, ap, lt-ltb, le-ltb}
use Rattle.sums.specs.Lists.{in_front}
use Rattle.sums.specs.theorems.ListLaws.{in_front_at, in_front_later}
use Rattle.tree_check.specs.Table.{word}
use Rattle.pair_check.specs.Clearing.{zeroed}

module _ (k : ℕ) (work : List ℕ) where
  pub too_few : length work < k → zeroed k work ≡ work
  too_few l = unfold zeroed in rw (lt-ltb (length work) k l, zeroed)

  module _ (l : k ≤ length work) where
    pub enough : zeroed k work ≡ in_front k (λ c. 0) work
    enough = unfold zeroed in rw (le-ltb (length work) k l, zeroed)

    pub cleared : (c : ℕ) → c < k → word (zeroed k work) c ≡ 0
    cleared c m = ap (λ (x : List ℕ). word x c) enough ∙ in_front_at k (λ c. 0) work c m

    pub later_stay : (c : ℕ) → k ≤ c → word (zeroed k work) c ≡ word work c
    later_stay c m = ap (λ (x : List ℕ). word x c) enough ∙ in_front_later k (λ c. 0) work c m
