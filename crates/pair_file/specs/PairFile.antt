-- One comparison file: its words, its two tables, its order of refusals, and what is answered.
-- Assumes nothing.
use Rattle.std.specs.Prelude.{not, List, [], ◌∷◌, ℕ, ◌+◌, ◌*◌, ◌%◌, eqb, ltb, length}
use Rattle.table_words.specs.Cutting.{first_table, later_words}
use Rattle.tree_check.specs.Table.{Table, tips}
use Rattle.tree_check.specs.Refusals.{Rule, refusal, if_accepted}
use Rattle.counting.specs.Labels.{all}
use Rattle.counting.specs.ClaimSums.{S, S2, S3}
use Rattle.counting.specs.declared.Case.TheVariants.{A, B, C, D, E}
use Rattle.counting.specs.Cases.{quartets, distance}
use Rattle.counting.specs.SplitCounts.{splits, common_splits, robinson_foulds}
use Rattle.counting.specs.Triplets.{triplets}
use Rattle.pair_check.specs.PairOrder.{cells_order}
use Rattle.listings.specs.declared.figures.Figures.{Figures}
use Rattle.listings.specs.Listing.{of_refusal}

-- the most bytes of a file
abbrev pub bytes_most : ℕ
bytes_most = 1016

-- the work cells that each count of a file is lent
abbrev pub cells_lent : ℕ
cells_lent = 15625

-- words of 16 bits, the lower byte first; a last odd byte gives none
unfoldable pub file_words : List ℕ → List ℕ
file_words [] = []
file_words (x ∷ []) = []
file_words (x ∷ y ∷ bytes) = (x + 256 * y) ∷ file_words bytes

-- the first table of a file by its own length, then the other words as the second; their order is that of a pair without
-- marks, with 15625 cells
unfoldable pub words_order : List ℕ → List Rule
words_order words = cells_order (first_table words) (later_words words) cells_lent

unfoldable pub file_order : List ℕ → List Rule
file_order bytes =
    -- more than 1016 bytes
    (14, ltb bytes_most (length bytes))
    -- an odd number of bytes
    ∷ (15, not (eqb (length bytes % 2) 0))
    -- then the pair's order
    ∷ words_order (file_words bytes)

-- the figures of two tables, over all labels
abbrev pub figures_of_pair : Table → Table → Figures
figures_of_pair t u = let l = all (tips t) in record {
  refusal = 0;
  tips = tips t;
  claims = record { first = S l t; second = S l u; same = S2 l t u; different = S3 l t u };
  quartets = record {
    a = quartets l t u A;
    b = quartets l t u B;
    c = quartets l t u C;
    d = quartets l t u D;
    e = quartets l t u E;
  };
  distance = distance l t u;
  splits = record {
    first = splits l t;
    second = splits l u;
    common = common_splits l t u;
    distance = robinson_foulds l t u;
  };
  triplets = record {
    a = triplets t u A;
    b = triplets t u B;
    c = triplets t u C;
    d = triplets t u D;
    e = triplets t u E;
  };
}

-- the figures of two tables, or zeros beside the number of a refusal
abbrev pub figures_of : ℕ → Table → Table → Figures
figures_of number t u = if_accepted number (figures_of_pair t u) (of_refusal number)

-- what the comparison of a file gives
unfoldable pub comparison : List ℕ → Figures
comparison bytes =
    figures_of (refusal (file_order bytes)) (first_table (file_words bytes)) (later_words (file_words bytes))
