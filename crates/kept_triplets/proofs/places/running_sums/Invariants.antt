-- The invariant: `total` is the sum over the first `k` places, and the sums up to it are written.
-- Assumes nothing.
use mathlib.Core.Path.{◌≡◌}
use Prim.Native.Nat.{ℕ, ◌*◌, ◌≤◌}
use lib.ListN.{length}
use Rattle.table_words.specs.Sizes.{tips_most}
use Rattle.tree_check.specs.Table.{word}
use Rattle.sums.specs.Sum.{sum}
use Rattle.kept_triplets.proofs.places.running_sums.Given as goal

abbrev pub invariant-loop-k : goal.invariant-loop-k
invariant-loop-k g l = (length l.sums ≡ tips_most) × (l.total ≤ l.k * 65536)
    × ((f : ℕ → ℕ) → ((p n : ℕ) → goal.F-post g l.term p n → n ≡ f p)
    → (l.total ≡ sum l.k (λ i. f (word l.at i))) × ((k : ℕ) → k ≤ l.k → word l.sums k ≡ sum k (λ i. f (word l.at i))))
