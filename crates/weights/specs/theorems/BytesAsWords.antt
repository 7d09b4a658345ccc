-- Work cells of bytes hold what work cells of 16-bit words held: each byte equals the word, and all reported figures agree, for
-- every accepted pair and marks (docs/SPECIFICATION.md, 'Work cells').
-- Assumes nothing.
use Rattle.std.specs.Prelude.{◌≡◌, List, ℕ, ◌%◌, ◌≤◌, ◌<◌, length}
use Rattle.tree_check.specs.Table.{Table, word, tips}
use Rattle.tree_check.specs.Refusals.{refusal}
use Rattle.counting.specs.Labels.{Labels, all}
use Rattle.counting.specs.Kept.{kept}
use Rattle.pair_check.specs.PairOrder.{cells_needed, pair_order}
use Rattle.tree_pairs.specs.Crossings.{cell_of, after_crossings, after_all}
use Rattle.splits.specs.SplitAnswer.{split_answer}
use Rattle.triplets.specs.TripletAnswer.{triplet_answer}
use Rattle.claims.specs.ClaimAnswer.{claim_answer}
use Rattle.quartets.specs.QuartetAnswer.{quartet_answer}
use Rattle.weights.specs.declared.weight.Weight.{Weight}
use Rattle.weights.specs.Weights.{p_of}
use Rattle.weights.specs.WeightedAnswer.{fraction_order, weighted_answer, after_weighted}

-- the byte b and the word w that stand in cell c once the labels l are crossed
pub record SameCell (l : Labels) (t u : Table) (c b w : ℕ) : Type 0 where
  pub equal : b ≡ w
  -- both are the crossing of the cell's two edges
  pub crossing : b ≡ cell_of l t u c
  -- it is at most 255, so that neither a byte nor a word cuts anything off
  pub at_most : b ≤ 255
  pub in_a_byte : cell_of l t u c % 256 ≡ b
  pub in_a_word : cell_of l t u c % 65536 ≡ w

-- a work of bytes and one of words, before a call and after it
pub record SameCells (l : Labels) (t u : Table) (bytes words new-bytes new-words : List ℕ) : Type 0 where
  -- a cell for each pair of edges
  pub crossings : (c : ℕ) → c < cells_needed t u → SameCell l t u c (word new-bytes c) (word new-words c)
  -- later cells are each work's own
  pub later : (c : ℕ) → cells_needed t u ≤ c → (word new-bytes c ≡ word bytes c) × (word new-words c ≡ word words c)
  pub lengths : (length new-bytes ≡ length bytes) × (length new-words ≡ length words)

-- two works of one length, lent to the calls on one pair
pub record BytesAsWords (t u : Table) (marks bytes words : List ℕ) : Type 0 where
  -- the cells that the calls with marks leave: crossings of the kept labels
  pub kept_cells : SameCells (kept marks (tips t)) t u bytes words (after_crossings t u marks bytes) (after_crossings t u marks words)
  -- .. and the weighted distance, with a weight that is accepted
  pub weighted_cells : (w : Weight) → refusal (fraction_order (p_of w)) ≡ 0
      → SameCells (kept marks (tips t)) t u bytes words (after_weighted t u marks w bytes) (after_weighted t u marks w words)
  -- .. and the triplet table, which takes no marks: crossings of all labels
  pub all_cells : SameCells (all (tips t)) t u bytes words (after_all t u bytes) (after_all t u words)
  -- the figures: the number of `crossings`, claim sums, quartet table, split counts, weighted distance and triplet table; each
  -- takes of the work its length alone
  pub number : refusal (pair_order t u marks (length bytes)) ≡ refusal (pair_order t u marks (length words))
  pub claims : claim_answer t u marks (length bytes) ≡ claim_answer t u marks (length words)
  pub quartets : quartet_answer t u marks (length bytes) ≡ quartet_answer t u marks (length words)
  pub splits : split_answer t u marks (length bytes) ≡ split_answer t u marks (length words)
  pub weighted : (w : Weight) → weighted_answer t u marks (length bytes) w ≡ weighted_answer t u marks (length words) w
  pub triplets : triplet_answer t u (length bytes) ≡ triplet_answer t u (length words)
