-- The number of a file, as the code finds it.
-- Assumes nothing.
use Rattle.std.specs.Prelude.{◌≡◌, ◌≢◌, List, ℕ, ◌%◌, ◌≤◌, ◌<◌, length}
use Rattle.std.proofs.Common.{◌∙◌, ap, lt-ltb, le-ltb, eq-eqb, ne_eqb}
use Rattle.std.proofs.Math.Bool.{not}
use Rattle.tree_check.specs.Refusals.{refusal}
use Rattle.tree_check.specs.theorems.RefusalLaws.{refusal_here, refusal_next}
use Rattle.pair_file.specs.PairFile.{file_words, words_order, file_order}
use Rattle.pair_file.specs.PairFile.{bytes_most}

module _ (bytes : List ℕ) where
  pub too_long : bytes_most < length bytes → refusal (file_order bytes) ≡ 14
  unfolding file_order
  too_long l = refusal_here 14 _ _ (lt-ltb bytes_most (length bytes) l)

  module _ (l : length bytes ≤ bytes_most) where
    pub odd_length : length bytes % 2 ≢ 0 → refusal (file_order bytes) ≡ 15
    unfolding file_order
    odd_length d =
        refusal_next 14 _ _ (le-ltb bytes_most (length bytes) l)
        ∙ refusal_here 15 _ _ (ap not (ne_eqb (length bytes % 2) 0 d))

    pub even_length : length bytes % 2 ≡ 0 → refusal (file_order bytes) ≡ refusal (words_order (file_words bytes))
    unfolding file_order
    even_length e =
        refusal_next 14 _ _ (le-ltb bytes_most (length bytes) l)
        ∙ refusal_next 15 _ _ (ap not (eq-eqb (length bytes % 2) 0 e))
