-- What the cells of a matrix give to the claim sums, added up cell by cell and row by row.
-- Assumes nothing.
use Rattle.std.specs.Prelude.{◌≡◌, refl, ℕ, ◌+◌, ◌*◌, ◌≤◌}
use Rattle.std.proofs.Common.{◌∙◌, arith}
use Rattle.sums.specs.theorems.SumLaws.{sum_next, sum_step}
use Rattle.table_words.specs.Sizes.{tips_most}
use Rattle.sums.specs.Sum.{sum}
use Rattle.shapes.specs.Claims.{choose2}
use Rattle.node_pairs.specs.theorems.CellForms.{pairs_off}
use Rattle.node_pairs.specs.theorems.Hooks.{hooks_plus, hooks_minus}

module _ (d d' : ℕ) (I : ℕ → ℕ → ℕ) where
  -- what cell i, j gives to twice S2, ..
  unfoldable pub pairs_term : ℕ → ℕ → ℕ
  pairs_term i j = choose2 (I i j) * pairs_off d d' I i j

  -- .. to S3, ..
  unfoldable pub plus_term : ℕ → ℕ → ℕ
  plus_term i j = I i j * hooks_plus d d' I i j

  -- .. and what is too much in that
  unfoldable pub minus_term : ℕ → ℕ → ℕ
  minus_term i j = I i j * hooks_minus d d' I i j

  -- the terms of cell i, j, and their bounds
  pub record Terms (i j pairs plus minus : ℕ) : Type 0 where
    pub pairs_is : pairs ≡ pairs_term i j
    pub plus_is : plus ≡ plus_term i j
    pub minus_is : minus ≡ minus_term i j
    pub pairs_le : pairs ≤ 68719476736
    pub plus_le : plus ≤ 68719476736
    pub minus_le : minus ≤ 68719476736

  -- the terms of the first n cells of row i
  pub record RowTerms (i n pairs plus minus : ℕ) : Type 0 where
    pub pairs_is : pairs ≡ sum n (pairs_term i)
    pub plus_is : plus ≡ sum n (plus_term i)
    pub minus_is : minus ≡ sum n (minus_term i)
    pub pairs_le : pairs ≤ n * 68719476736
    pub plus_le : plus ≤ n * 68719476736
    pub minus_le : minus ≤ n * 68719476736

  -- the terms of the first n rows
  pub record AllTerms (n pairs plus minus : ℕ) : Type 0 where
    pub pairs_is : pairs ≡ sum n (λ i. sum d' (pairs_term i))
    pub plus_is : plus ≡ sum n (λ i. sum d' (plus_term i))
    pub minus_is : minus ≡ sum n (λ i. sum d' (minus_term i))
    pub pairs_le : pairs ≤ n * 17592186044416
    pub plus_le : plus ≤ n * 17592186044416
    pub minus_le : minus ≤ n * 17592186044416

  -- ---- along a row

  -- no cell yet
  pub row_none : (i : ℕ) → RowTerms i 0 0 0 0
  unfolding sum
  row_none i = record {
    pairs_is = refl;
    plus_is = refl;
    minus_is = refl;
    pairs_le = omega arith;
    plus_le = omega arith;
    minus_le = omega arith;
  }

  module _ (i n pairs plus minus : ℕ) (h : RowTerms i n pairs plus minus) where
    -- one more cell
    pub row_next : (a b c : ℕ) → Terms i n a b c → RowTerms i (n + 1) (pairs + a) (plus + b) (minus + c)
    row_next a b c t = record {
      pairs_is = sum_step n (pairs_term i) pairs a h.pairs_is t.pairs_is;
      plus_is = sum_step n (plus_term i) plus b h.plus_is t.plus_is;
      minus_is = sum_step n (minus_term i) minus c h.minus_is t.minus_is;
      pairs_le = omega (arith, h.pairs_le, t.pairs_le);
      plus_le = omega (arith, h.plus_le, t.plus_le);
      minus_le = omega (arith, h.minus_le, t.minus_le);
    }

    -- an empty cell adds nothing
    pub row_skip : I i n ≡ 0 → RowTerms i (n + 1) pairs plus minus
    row_skip e = record {
      pairs_is = h.pairs_is ∙ omega (arith, sum_next n (pairs_term i), no_pairs);
      plus_is = h.plus_is ∙ omega (arith, sum_next n (plus_term i), no_plus);
      minus_is = h.minus_is ∙ omega (arith, sum_next n (minus_term i), no_minus);
      pairs_le = omega (arith, h.pairs_le);
      plus_le = omega (arith, h.plus_le);
      minus_le = omega (arith, h.minus_le);
    }
      where
        no_pairs : pairs_term i n ≡ 0
        no_pairs = unfold pairs_term choose2 in rw e (omega arith)

        no_plus : plus_term i n ≡ 0
        no_plus = unfold plus_term in rw e (omega arith)

        no_minus : minus_term i n ≡ 0
        no_minus = unfold minus_term in rw e (omega arith)

    -- the same numbers under other names
    pub row_same : (a b c : ℕ) → a ≡ pairs → b ≡ plus → c ≡ minus → RowTerms i n a b c
    row_same a b c p q r = record {
      pairs_is = p ∙ h.pairs_is;
      plus_is = q ∙ h.plus_is;
      minus_is = r ∙ h.minus_is;
      pairs_le = omega (arith, h.pairs_le);
      plus_le = omega (arith, h.plus_le);
      minus_le = omega (arith, h.minus_le);
    }

  -- ---- row by row

  -- no row yet
  pub rows_none : AllTerms 0 0 0 0
  unfolding sum
  rows_none = record {
    pairs_is = refl;
    plus_is = refl;
    minus_is = refl;
    pairs_le = omega arith;
    plus_le = omega arith;
    minus_le = omega arith;
  }

  -- one more row
  pub rows_next : (i pairs plus minus a b c : ℕ) → d' ≤ tips_most → AllTerms i pairs plus minus → RowTerms i d' a b c
      → AllTerms (i + 1) (pairs + a) (plus + b) (minus + c)
  rows_next i pairs plus minus a b c l h t = record {
    pairs_is = sum_step i (λ f. sum d' (pairs_term f)) pairs a h.pairs_is t.pairs_is;
    plus_is = sum_step i (λ f. sum d' (plus_term f)) plus b h.plus_is t.plus_is;
    minus_is = sum_step i (λ f. sum d' (minus_term f)) minus c h.minus_is t.minus_is;
    pairs_le = omega (arith, h.pairs_le, t.pairs_le);
    plus_le = omega (arith, h.plus_le, t.plus_le);
    minus_le = omega (arith, h.minus_le, t.minus_le);
  }
