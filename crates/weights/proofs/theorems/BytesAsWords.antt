-- Work cells of bytes hold what work cells of 16-bit words held: each byte equals the word, and all reported figures agree, for
-- every accepted pair and marks (docs/SPECIFICATION.md, 'Work cells').
-- Assumes nothing.
use Rattle.std.specs.Prelude.{◌≡◌, List, ℕ, ◌≤◌, length}
use Rattle.std.proofs.Common.{sym, ◌∙◌, ap, subst, mod-eq_of_lt, arith}
use Rattle.sums.specs.theorems.ListLaws.{in_front-length, in_front_at, in_front_later}
use Rattle.tree_check.specs.Table.{Table, tips}
use Rattle.tree_check.specs.IsTree.{IsTree}
use Rattle.tree_check.specs.Refusals.{refusal}
use Rattle.tree_check.specs.theorems.RefusalLaws.{if_accepted_lem}
use Rattle.counting.specs.Labels.{Labels, all}
use Rattle.counting.specs.Kept.{kept}
use Rattle.counting.specs.theorems.LabelLaws.{Rising}
use Rattle.counting.proofs.theorems.LabelLaws.{all-rising}
use Rattle.counting.proofs.theorems.KeptLaws.{kept-rising}
use Rattle.pair_check.specs.PairOrder.{cells_needed, pair_order, MarkedPair}
use Rattle.pair_check.specs.theorems.PairCheck.{cells_check, pair_check}
use Rattle.tree_pairs.specs.Crossings.{cell_of, crossed, crossed_all, crossed_kept, after_crossings, after_all}
use Rattle.tree_pairs.proofs.theorems.Bytes.{crossed_bytes}
use Rattle.splits.specs.SplitAnswer.{split_answer}
use Rattle.triplets.specs.TripletAnswer.{triplet_answer}
use Rattle.claims.specs.ClaimAnswer.{claim_answer}
use Rattle.quartets.specs.QuartetAnswer.{quartet_answer}
use Rattle.weights.specs.declared.weight.Weight.{Weight}
use Rattle.weights.specs.Weights.{p_of}
use Rattle.weights.specs.WeightedAnswer.{fraction_order, weighted_answer, after_weighted}
use Rattle.weights.proofs.theorems.WeightedDistance.{then_fraction}
use Rattle.weights.specs.theorems.BytesAsWords.{BytesAsWords, SameCells}

-- of any labels
same_cells : (l : Labels) (t u : Table) → IsTree t → Rising (tips t) l → (bytes words : List ℕ)
    → cells_needed t u ≤ length bytes → cells_needed t u ≤ length words
    → SameCells l t u bytes words (crossed l t u bytes) (crossed l t u words)
unfolding crossed
same_cells l t u g r bytes words mb mw =
    let k = cells_needed t u in
    let f = cell_of l t u in
    record {
      crossings = λ c o.
          let b = in_front_at k f bytes c o in
          let w = in_front_at k f words c o in
          let few = crossed_bytes l t u g r bytes c o in
          record {
            equal = b ∙ sym w;
            crossing = b;
            at_most = few;
            in_a_byte = mod-eq_of_lt (omega arith) ∙ sym b;
            in_a_word = mod-eq_of_lt (omega arith) ∙ sym w;
          };
      later = λ c o. (in_front_later k f bytes c o, in_front_later k f words c o);
      lengths = (in_front-length k f bytes mb, in_front-length k f words mw);
    }

-- what accepted calls leave
module _ (t u : Table) (marks work : List ℕ) (p : MarkedPair t u marks (length work)) where
  crossings_left : after_crossings t u marks work ≡ crossed_kept t u marks work
  unfolding after_crossings
  crossings_left = if_accepted_lem _ _ _ ((pair_check t u marks (length work)).1 p)

  weighted_left : (w : Weight) → refusal (fraction_order (p_of w)) ≡ 0 → after_weighted t u marks w work ≡ crossed_kept t u marks work
  unfolding after_weighted
  weighted_left w z = if_accepted_lem _ _ _ (then_fraction t u marks (length work) w p ∙ z)

  all_left : after_all t u work ≡ crossed_all t u work
  unfolding after_all
  all_left = if_accepted_lem _ _ _ ((cells_check t u (length work)).1 p.with_cells)

-- each byte equals the word, and all figures agree, for every accepted pair and marks
pub bytes_as_words : (t u : Table) (marks bytes words : List ℕ) → MarkedPair t u marks (length bytes)
    → length bytes ≡ length words → BytesAsWords t u marks bytes words
bytes_as_words t u marks bytes words p e =
    let q : MarkedPair t u marks (length words) = subst (MarkedPair t u marks) e p in
    let same : (l : Labels) → Rising (tips t) l → SameCells l t u bytes words (crossed l t u bytes) (crossed l t u words) =
    λ l r. same_cells l t u p.with_cells.pair.first r bytes words p.with_cells.room q.with_cells.room in
    let of-kept = same (kept marks (tips t)) (kept-rising marks (tips t)) in
    record {
      kept_cells = rw (crossings_left t u marks bytes p, crossings_left t u marks words q) of-kept;
      weighted_cells = λ w z. rw (weighted_left t u marks bytes p w z, weighted_left t u marks words q w z) of-kept;
      all_cells = rw (all_left t u marks bytes p, all_left t u marks words q) (same (all (tips t)) (all-rising (tips t)));
      number = ap (λ (k : ℕ). refusal (pair_order t u marks k)) e;
      claims = ap (claim_answer t u marks) e;
      quartets = ap (quartet_answer t u marks) e;
      splits = ap (split_answer t u marks) e;
      weighted = λ w. ap (λ (k : ℕ). weighted_answer t u marks k w) e;
      triplets = ap (triplet_answer t u) e;
    }
