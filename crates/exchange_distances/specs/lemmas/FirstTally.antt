-- All pairs in tally 0: with fewer than four tips, and from 82 on.
-- Assumes nothing.
use Rattle.std.specs.Prelude.{◌≡◌, List, ◌∷◌, ℕ, suc, ◌*◌, ◌-◌, ◌/◌, ◌≤◌, ◌<◌, replicate}
use Rattle.std.proofs.Common.{sym, ◌∙◌, ap, arith}
use Rattle.sums.specs.Lists.{in_order}
use Rattle.tree_check.specs.Table.{Table, tips}
use Rattle.tree_check.specs.IsTree.{IsTree}
use Rattle.exchanges.specs.Exchanges.{tally}
use Rattle.exchanges.proofs.theorems.ExchangedTables.{few_tips-first, few_tips_later}
use Rattle.exchanges.proofs.theorems.ExchangeLaws.{large_first, large_later}

abbrev pub all_first : ℕ → List ℕ
all_first n = n * (n - 1) / 2 ∷ replicate 10 0

in_first : (f : ℕ → ℕ) (x : ℕ) → f 0 ≡ x → ((i : ℕ) → f (suc i) ≡ 0) → in_order 11 f ≡ x ∷ replicate 10 0
unfolding in_order
in_first f x e z = rw (e, z 0, z 1, z 2, z 3, z 4, z 5, z 6, z 7, z 8, z 9)

-- n, as the code reads it
module _ (t : Table) (n : ℕ) (e : n ≡ tips t) where
  pub few_first : n < 4 → all_first n ≡ in_order 11 (tally t)
  few_first l =
      ap all_first e
      ∙ sym (in_first (tally t) _ (few_tips-first t (omega arith)) (λ i. few_tips_later t i (omega arith)))

  pub many_first : IsTree t → 82 ≤ n → all_first n ≡ in_order 11 (tally t)
  many_first g l =
      ap all_first e
      ∙ sym (in_first (tally t) _ (large_first t g (omega arith)) (λ i. large_later t g i (omega arith)))
