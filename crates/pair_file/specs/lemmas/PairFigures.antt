-- The figures of a pair of tables and of a file, as the code finds them.
-- Assumes nothing.
use Rattle.std.specs.Prelude.{◌≡◌, refl, ◌≢◌, List, ℕ, ◌%◌, ◌≤◌, ◌<◌, length, take}
use Rattle.std.proofs.Common.{sym, ◌∙◌, ap₂, arith}
use Rattle.std.proofs.Math.Path.{ap}
use Rattle.tree_check.specs.Table.{Table, tips}
use Rattle.tree_check.specs.lemmas.TableParts.{rest}
use Rattle.tree_check.specs.Refusals.{refusal, if_accepted}
use Rattle.tree_check.specs.theorems.RefusalLaws.{if_refused}
use Rattle.table_words.specs.Sizes.{tips_most}
use Rattle.marks.proofs.theorems.Ones.{ones, ones-marks, ones-taken}
use Rattle.pair_check.specs.PairOrder.{PairWithCells, cells_order}
use Rattle.pair_check.specs.theorems.PairCheck.{cells_check}
use Rattle.splits.specs.SplitAnswer.{split_answer}
use Rattle.splits.specs.declared.counts.SplitCounts.{SplitCounts}
use Rattle.triplets.specs.TripletAnswer.{triplet_answer}
use Rattle.triplets.specs.declared.tables.TripletTable.{TripletTable}
use Rattle.claims.specs.ClaimAnswer.{claim_answer}
use Rattle.claims.specs.declared.totals.ClaimSums.{ClaimSums}
use Rattle.quartets.specs.QuartetAnswer.{quartet_answer}
use Rattle.quartets.specs.declared.tables.QuartetTable.{QuartetTable}
use Rattle.quartets.proofs.theorems.AllMarksOne.{all-marks-one}
use Rattle.listings.specs.declared.figures.Figures.{Figures}
use Rattle.listings.specs.Listing.{of_refusal}
use Rattle.table_words.specs.Cutting.{table_length, first_table, later_words}
use Rattle.pair_file.specs.PairFile.{file_words, words_order}
use Rattle.pair_file.specs.PairFile.{file_order, figures_of, comparison}
use Rattle.pair_file.specs.lemmas.FileWords.{first_part, second_part}
use Rattle.pair_file.specs.lemmas.FileOrder.{too_long, odd_length, even_length}
use Rattle.pair_file.specs.PairFile.{bytes_most, cells_lent}

-- the figures of two tables, by the pair's order
unfoldable pub pair_figures : Table → Table → Figures
pair_figures t u = figures_of (refusal (cells_order t u cells_lent)) t u

-- the figures of a file's words
unfoldable pub word_figures : List ℕ → Figures
word_figures words = pair_figures (first_table words) (later_words words)

-- the figures of four answers that are no refusals
abbrev pub figures_told : ℕ → ClaimSums → QuartetTable → SplitCounts → TripletTable → Figures
figures_told n sums cases counts threes = record {
  refusal = 0;
  tips = n;
  claims = record {
    first = sums.first;
    second = sums.second;
    same = sums.same;
    different = sums.different;
  };
  quartets = record { a = cases.a; b = cases.b; c = cases.c; d = cases.d; e = cases.e };
  distance = cases.distance;
  splits = record {
    first = counts.first;
    second = counts.second;
    common = counts.common;
    distance = counts.distance;
  };
  triplets = record { a = threes.a; b = threes.b; c = threes.c; d = threes.d; e = threes.e };
}

-- the figures of the four calls with these marks
unfoldable pub called_with : Table → Table → List ℕ → ℕ → Figures
called_with t u marks n = figures_told n (claim_answer t u marks cells_lent) (quartet_answer t u marks cells_lent)
    (split_answer t u marks cells_lent) (triplet_answer t u cells_lent)

pub called : (t u : Table) (marks : List ℕ) (n : ℕ) (sums : ClaimSums) (cases : QuartetTable) (counts : SplitCounts)
    (threes : TripletTable) → sums ≡ claim_answer t u marks cells_lent → cases ≡ quartet_answer t u marks cells_lent
    → counts ≡ split_answer t u marks cells_lent → threes ≡ triplet_answer t u cells_lent
    → figures_told n sums cases counts threes ≡ called_with t u marks n
unfolding called_with
called t u marks n sums cases counts threes e ec es et = rw (e, ec, es, et) refl

-- ---- as the code finds them

-- a refusal leaves zeros, whatever the tables
figures_refused : (k : ℕ) (t u : Table) → k ≢ 0 → of_refusal k ≡ figures_of k t u
figures_refused k t u d = sym (if_refused k _ _ d)

pub pair_refused : (t u : Table) (k : ℕ) → k ≡ refusal (cells_order t u cells_lent) → k ≢ 0 → of_refusal k ≡ pair_figures t u
unfolding pair_figures
pair_refused t u k e d = figures_refused k t u d ∙ ap (λ (j : ℕ). figures_of j t u) e

-- so many of the marks of 1
pub marks_lent : (k : ℕ) → k ≤ tips_most → k ≡ length (take k (ones tips_most))
marks_lent k l = rw (ones-taken k tips_most l) (sym (ones-marks k).long)

-- with marks of 1 the calls tell the figures of all labels
all_called : (t u : Table) → PairWithCells t u cells_lent → called_with t u (ones (tips t)) (tips t) ≡ pair_figures t u
unfolding called_with pair_figures triplet_answer if_accepted
all_called t u p =
    let o = all-marks-one t u cells_lent p in rw (o.claims, o.cases, o.splits, (cells_check t u cells_lent).1 p) refl

pub pair_accepted : (t u : Table) → PairWithCells t u cells_lent → (n k : ℕ) → n ≡ tips t → k ≡ n
    → called_with t u (take k (ones tips_most)) n ≡ pair_figures t u
pair_accepted t u p n k e d =
    ap (λ (x : ℕ). called_with t u (take x (ones tips_most)) n) d
    ∙ ap (λ (x : ℕ). called_with t u (take x (ones tips_most)) x) e
    ∙ ap (λ (m : List ℕ). called_with t u m (tips t)) (ones-taken (tips t) tips_most p.pair.first.tips_range.1)
    ∙ all_called t u p

-- ---- a whole file

-- the parts of the words that are lent: `&words[..k]` and `&words[k..]`
pub parts_compared : (words : List ℕ) (k : ℕ) → k ≡ table_length words
    → pair_figures (take k words) (rest k words) ≡ word_figures words
unfolding word_figures
parts_compared words k e = ap₂ pair_figures (first_part words k e) (second_part words k e)

module _ (bytes : List ℕ) where
  file_refused : (k : ℕ) → k ≢ 0 → refusal (file_order bytes) ≡ k → of_refusal k ≡ comparison bytes
  unfolding comparison
  file_refused k d e =
      let t = first_table (file_words bytes) in
      let u = later_words (file_words bytes) in
      figures_refused k t u d ∙ ap (λ (j : ℕ). figures_of j t u) (sym e)

  pub file_too_long : bytes_most < length bytes → of_refusal 14 ≡ comparison bytes
  file_too_long l = file_refused 14 (λ z. omega (arith, z)) (too_long bytes l)

  module _ (l : length bytes ≤ bytes_most) where
    pub file_odd : length bytes % 2 ≢ 0 → of_refusal 15 ≡ comparison bytes
    file_odd d = file_refused 15 (λ z. omega (arith, z)) (odd_length bytes l d)

    pub file_compared : length bytes % 2 ≡ 0 → word_figures (file_words bytes) ≡ comparison bytes
    unfolding comparison word_figures pair_figures words_order
    file_compared e =
        let t = first_table (file_words bytes) in
        let u = later_words (file_words bytes) in
        ap (λ (j : ℕ). figures_of j t u) (sym (even_length bytes l e))
