-- With 15625 cells the number of a file is never 9: the two trees of a file have at most 252 nodes between them.
-- Assumes nothing.
use Rattle.std.specs.Prelude.{◌≡◌, refl, ◌≢◌, List, ℕ, ◌+◌, ◌*◌, ◌-◌, ◌%◌, ◌≤◌, length}
use Rattle.std.proofs.Common.{sym, ◌∙◌, ap, mul-le-mul_left, arith}
use Rattle.std.proofs.Math.Decide.{dec_le, ℕ_discrete}
use Rattle.tree_check.specs.Table.{Table, tips}
use Rattle.tree_check.specs.Refusals.{refusal}
use Rattle.tree_check.specs.IsTree.{IsTree}
use Rattle.tree_check.specs.TreeOrder.{tree_order}
use Rattle.tree_check.specs.theorems.TreeCheck.{tree_check}
use Rattle.pair_check.specs.PairOrder.{tables_order, cells_order, cells_needed}
use Rattle.pair_check.specs.theorems.PairCheck.{tables_check, cells_check, tree_never_nine}
use Rattle.pair_check.specs.lemmas.PairOutcomes.{first_refused, second_refused, tips-differ, tables_accepted}
use Rattle.pair_check.specs.lemmas.PairOutcomes.{tables_refused}
use Rattle.table_words.specs.Cutting.{first_table, later_words}
use Rattle.table_words.proofs.lemmas.CutWords.{cut_length}
use Rattle.pair_file.specs.PairFile.{file_words, words_order, file_order}
use Rattle.pair_file.specs.lemmas.FileWords.{words_length}
use Rattle.pair_file.specs.lemmas.FileOrder.{too_long, odd_length, even_length}
use Rattle.pair_file.specs.PairFile.{bytes_most, cells_lent}

-- two numbers whose sum is at most 2 * k have a product of at most k * k, the smaller named first
lower_product : (k a b x : ℕ) → a + x ≡ k → b ≤ k + x → a * b ≤ k * k
lower_product k a b x e l = omega (
  arith,
  mul-le-mul_left a l,
  ap (λ (y : ℕ). y * x) e,
  ap (λ (y : ℕ). k * y) e,
)

product_most : (k a b : ℕ) → a + b ≤ k + k → a * b ≤ k * k
product_most k a b l = elim (dec_le a k) [
  | yes m ↦ lower_product k a b (k - a) (omega arith) (omega arith)
  | no d ↦ omega (arith, lower_product k b a (k - b) (omega arith) (omega arith))
]

-- two trees of at most 508 words have a cell for each pair of edges among 15625
-- the most words of a file
abbrev words_most : ℕ
words_most = 508

cells_enough : (t u : Table) → IsTree t → IsTree u → length t + length u ≤ words_most → cells_needed t u ≤ cells_lent
cells_enough t u g h l = product_most 125 _ _ (omega (arith, g.words, h.words))

-- 9 is no number of two tables alone
tables_never_nine : (t u : Table) → refusal (tables_order t u) ≢ 9
tables_never_nine t u z = elim (ℕ_discrete (refusal (tree_order t)) 0) [
  | yes e ↦ elim (ℕ_discrete (refusal (tree_order u)) 0) [
    | yes f ↦ both ((tree_check t).0 e) ((tree_check u).0 f)
    | no d ↦ omega (arith, z, second_refused t u ((tree_check t).0 e) _ refl d)
  ]
  | no d ↦ tree_never_nine t (sym (first_refused t u _ refl d) ∙ z)
]
  where
    both : IsTree t → IsTree u → ⊥
    both g h = elim (ℕ_discrete (tips t) (tips u)) [
      | yes e ↦ omega (arith, z, tables_accepted t u g h e)
      | no d ↦ omega (arith, z, tips-differ t u g h d)
    ]

never_pair : (t u : Table) → length t + length u ≤ words_most → refusal (cells_order t u cells_lent) ≢ 9
never_pair t u few z = elim (ℕ_discrete (refusal (tables_order t u)) 0) [
  | yes e ↦ (let p = (tables_check t u).0 e in
      let room = cells_enough t u p.first p.second few in
      omega (arith, z, (cells_check t u cells_lent).1 (record { pair = p; room = room })))
  | no d ↦ tables_never_nine t u (sym (tables_refused t u cells_lent _ refl d) ∙ z)
]

-- the number of a file is never 9
pub never_nine : (bytes : List ℕ) → refusal (file_order bytes) ≢ 9
never_nine bytes z = elim (dec_le (length bytes) bytes_most) [
  | yes l ↦ elim (ℕ_discrete (length bytes % 2) 0) [
    | yes e ↦ short l (sym (even_length bytes l e) ∙ z)
    | no d ↦ omega (arith, z, odd_length bytes l d)
  ]
  | no d ↦ omega (arith, z, too_long bytes (omega arith))
]
  where
    short : length bytes ≤ bytes_most → refusal (words_order (file_words bytes)) ≢ 9
    short l = unfold words_order in never_pair (first_table (file_words bytes)) (later_words (file_words bytes))
        (omega (arith, cut_length (file_words bytes), words_length bytes))
