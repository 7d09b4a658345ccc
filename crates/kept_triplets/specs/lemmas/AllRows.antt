-- What all rows add, and that it is low.
-- Assumes nothing.
use Rattle.std.specs.Prelude.{◌≡◌, ◌⊎◌, List, ℕ, zero, suc, ◌+◌, ◌*◌, ◌-◌, ◌≤◌, ◌<◌}
use Rattle.std.proofs.Common.{◌∙◌, ap, ap₂, arith}
use Rattle.sums.specs.Sum.{sum}
use Rattle.sums.specs.theorems.SumLaws.{sum_cong, sum-part, sum_first}
use Rattle.sums.specs.Bits.{bit}
use Rattle.sums.specs.Counts.{count}
use Rattle.sums.specs.theorems.CountLaws.{count-le}
use Rattle.sums.specs.theorems.ThreesLaws.{threes_mono, threes_of_255}
use Rattle.table_words.specs.Sizes.{node_room}
use Rattle.tree_check.specs.Table.{Table, word, tips, nodes, parent}
use Rattle.tree_check.specs.IsTree.{IsTree}
use Rattle.counting.specs.declared.Case.{Case}
use Rattle.counting.specs.declared.Case.TheVariants.{A, B, C, D, E}
use Rattle.counting.specs.Kept.{is_other, others}
use Rattle.counting.specs.Triplets.{triplets_over}
use Rattle.counting.proofs.theorems.OtherLabels.{not_itself}
use Rattle.counting.specs.theorems.KeptTripletSums.{size_over, edge_over, alike_over, apart_over}
use Rattle.counting.proofs.theorems.KeptTripletSums.{first-sum, second_sum, alike_sum_lem, apart_sum_lem, total}
use Rattle.kept_triplets.specs.lemmas.Rows.{Prepared, no_row}

two_more : (i : ℕ) → i + 2 ≡ suc (suc i)
two_more i = omega arith

-- label 0 is none of the others
pub others_few : (marks : List ℕ) (n : ℕ) → 1 ≤ n → count n (is_other marks 0) ≤ n - 1
others_few marks zero l = absurd (omega arith)
others_few marks (suc n) l = omega (
  arith,
  sum_first n (λ y. bit (is_other marks 0 y)),
  not_itself marks 0,
  count-le n (λ y. is_other marks 0 (suc y)),
)

module _ (marks : List ℕ) (t u : Table) (g : IsTree t) (h : IsTree u) (e : tips t ≡ tips u) where
  abbrev T : Case → ℕ
  T k = triplets_over (others marks 0 (tips t)) t u k

  all_low : T A + T B + T C + T D + T E ≤ 2731135
  all_low = omega (
    arith,
    total marks t u g h e,
    threes_mono (count (tips t) (is_other marks 0)) 255
        (omega (arith, others_few marks (tips t) (let r = g.tips_range in omega arith), g.tips_range.1)),
    threes_of_255,
  )

  pub edges_are : sum (nodes t - 2) (λ i. edge_over marks (tips t) t (i + 2)) ≡ 2 * (T A + T B + T C)
  edges_are = sum_cong (nodes t - 2) (λ i. ap (edge_over marks (tips t) t) (two_more i)) ∙ first-sum marks t u g h e

  pub edges_are' : sum (nodes u - 2) (λ i. edge_over marks (tips t) u (i + 2)) ≡ 2 * (T A + T B + T D)
  edges_are' = sum_cong (nodes u - 2) (λ i. ap (edge_over marks (tips t) u) (two_more i)) ∙ second_sum marks t u g h e

  pub alike_are : sum (nodes t - 2) (λ i. sum (nodes u - 2) (λ j. alike_over marks (tips t) t u (i + 2) (j + 2))) ≡ 2 * T A
  alike_are =
      sum_cong (nodes t - 2) (λ i. sum_cong (nodes u - 2) (λ j. ap₂ (alike_over marks (tips t) t u) (two_more i) (two_more j)))
      ∙ alike_sum_lem marks t u g h e

  pub apart_are : sum (nodes t - 2) (λ i. sum (nodes u - 2) (λ j. apart_over marks (tips t) t u (i + 2) (j + 2))) ≡ T B
  apart_are =
      sum_cong (nodes t - 2) (λ i. sum_cong (nodes u - 2) (λ j. ap₂ (apart_over marks (tips t) t u) (two_more i) (two_more j)))
      ∙ apart_sum_lem marks t u g h e

-- the listed rows of the first table
pub record RowsListed (t u : Table) (marks rows : List ℕ) (count : ℕ) : Type 0 where
  pub few : count ≤ node_room
  pub row : (q : ℕ) → q < count → (2 ≤ word rows q) × (word rows q < nodes t)
  pub enough : (f : ℕ → ℕ)
      → ((j : ℕ) → 2 ≤ j → j < nodes t
      → (size_over marks (tips t) t j ≤ 1) ⊎ (size_over marks (tips t) t (parent t j) ≤ size_over marks (tips t) t j) → f j ≡ 0)
      → sum count (λ q. f (word rows q)) ≡ sum (nodes t - 2) (λ j. f (j + 2))

abbrev pub kept_alike_row : List ℕ → Table → Table → ℕ → ℕ
kept_alike_row marks t u v = sum (nodes u - 2) (λ j. alike_over marks (tips t) t u v (j + 2))

abbrev pub kept_apart_row : List ℕ → Table → Table → ℕ → ℕ
kept_apart_row marks t u v = sum (nodes u - 2) (λ j. apart_over marks (tips t) t u v (j + 2))

module _ (t u : Table) (marks : List ℕ) (n : ℕ) (fb fe sb se at columns : List ℕ) (count : ℕ)
    (h : Prepared t u marks n fb fe sb se at columns count) (rows : List ℕ) (k : ℕ) (r : RowsListed t u marks rows k) where
  pub rows_are : (sum k (λ q. kept_alike_row marks t u (word rows q)) ≡ sum (nodes t - 2) (λ i. kept_alike_row marks t u (i + 2)))
      × (sum k (λ q. kept_apart_row marks t u (word rows q)) ≡ sum (nodes t - 2) (λ i. kept_apart_row marks t u (i + 2)))
  rows_are = (
    r.enough (λ v. kept_alike_row marks t u v) (λ v a l e. (no_row t u marks n fb fe sb se at columns count h v a l e).0),
    r.enough (λ v. kept_apart_row marks t u v) (λ v a l e. (no_row t u marks n fb fe sb se at columns count h v a l e).1),
  )

  -- a part is at most the whole
  pub rows_low : (q : ℕ) → q ≤ k
      → (sum q (λ i. kept_alike_row marks t u (word rows i)) ≤ 5462270) × (sum q (λ i. kept_apart_row marks t u (word rows i)) ≤ 5462270)
  rows_low q l = (
    omega (
      arith,
      sum-part q k (λ i. kept_alike_row marks t u (word rows i)) l,
      rows_are.0,
      alike_are marks t u h.tree h.tree' h.same,
      all_low marks t u h.tree h.tree' h.same,
    ),
    omega (
      arith,
      sum-part q k (λ i. kept_apart_row marks t u (word rows i)) l,
      rows_are.1,
      apart_are marks t u h.tree h.tree' h.same,
      all_low marks t u h.tree h.tree' h.same,
    ),
  )
