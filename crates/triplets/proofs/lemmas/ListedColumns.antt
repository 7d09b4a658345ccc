-- The columns with two labels or more, listed one by one.
-- Assumes nothing.
use Rattle.std.specs.Prelude.{◌≡◌, refl, List, ℕ, ◌+◌, ◌*◌, ◌-◌, ◌≤◌, ◌<◌, length, set}
use Rattle.std.proofs.Common.{sym, ◌∙◌, ap, ap₂, arith, length-set, get_or-set_same, get_or-set_other}
use Rattle.std.proofs.Math.Decide.{ℕ_discrete}
use Rattle.sums.specs.Sum.{sum}
use Rattle.sums.specs.theorems.SumLaws.{sum_ext, sum_next}
use Rattle.sums.specs.theorems.BitLaws.{bit-T, bit_no}
use Rattle.sums.specs.theorems.TestLaws.{le_iff}
use Rattle.tree_check.specs.Table.{word}
use Rattle.tree_pairs.specs.lemmas.EdgeRows.{above_in}
use Rattle.triplets.specs.lemmas.ListedColumns.{ListedTo, Place, is_wide}

-- ---- column after column

pub listed_none : (work qs columns above : List ℕ) → length qs ≤ length columns → length qs ≤ length above
    → ListedTo work qs 0 0 columns above
unfolding sum
listed_none work qs columns above e f = record {
  few = omega arith;
  columns_long = e;
  above_long = f;
  places = λ q l. absurd (omega arith);
  sums = λ F. refl;
}

module _ (work qs : List ℕ) (j k : ℕ) (columns above : List ℕ)
    (h : ListedTo work qs j k columns above) (m : j < length qs - 2) (l p : ℕ) (el : l ≡ j + 1) (ep : p ≡ word qs (j + 2) - 1) where
  -- what was listed stays
  same_column : (q : ℕ) → q < k → word (set columns k l) q ≡ word columns q
  same_column q d = get_or-set_other columns k q l 0 (λ e. omega arith)

  same_above : (q : ℕ) → q < k → word (set above k p) q ≡ word above q
  same_above q d = get_or-set_other above k q p 0 (λ e. omega arith)

  -- the column itself
  last_column : word (set columns k l) k ≡ l
  last_column = get_or-set_same columns k l 0 (omega (arith, h.few, h.columns_long))

  last_above : word (set above k p) k ≡ p
  last_above = get_or-set_same above k p 0 (omega (arith, h.few, h.above_long))

  parent_is : p ≡ above_in qs l
  parent_is = ep ∙ ap (λ (i : ℕ). word qs i - 1) (omega (arith, el))

  kept_places : (q : ℕ) → q < k → Place qs (word (set columns k l) q) (word (set above k p) q)
  kept_places q d = rw (same_column q d, same_above q d) (h.places q d)

  kept-sum : (F : ℕ → ℕ → ℕ)
      → sum k (λ q. F (word (set columns k l) q) (word (set above k p) q))
      ≡ sum j (λ i. is_wide work (i + 1) * F (i + 1) (above_in qs (i + 1)))
  kept-sum F = sum_ext k _ _ (λ q d. ap₂ F (same_column q d) (same_above q d)) ∙ h.sums F

  -- a column of one label or none
  pub listed_skip : word work (j + 1) < 2 → ListedTo work qs (j + 1) k (set columns k l) (set above k p)
  listed_skip one = record {
    few = omega (arith, h.few);
    columns_long = omega (arith, length-set columns k l, h.columns_long);
    above_long = omega (arith, length-set above k p, h.above_long);
    places = kept_places;
    sums = λ F. kept-sum F ∙ sym (sum_next j _ ∙ omega (arith, ap (λ (x : ℕ). x * F (j + 1) (above_in qs (j + 1))) narrow));
  }
    where
      narrow : is_wide work (j + 1) ≡ 0
      narrow = bit_no _ (λ t. omega (arith, one, (le_iff 2 (word work (j + 1))).0 t))

  -- .. of two or more
  pub listed_more : 2 ≤ word work (j + 1) → ListedTo work qs (j + 1) (k + 1) (set columns k l) (set above k p)
  listed_more two = record {
    few = omega (arith, h.few);
    columns_long = omega (arith, length-set columns k l, h.columns_long);
    above_long = omega (arith, length-set above k p, h.above_long);
    places = λ q d. elim (ℕ_discrete q k) [
      | yes e ↦ rw (e, last_column, last_above) (record {
        later = omega (arith, el);
        column = omega (arith, el);
        parent = parent_is;
      })
      | no n ↦ kept_places q (omega arith)
    ];
    sums = λ F.
        sum_next k _
        ∙ ap₂ (λ (x y : ℕ). x + y) (kept-sum F) (ap₂ F last_column last_above ∙ at F)
        ∙ sym (sum_next j _);
  }
    where
      wide : is_wide work (j + 1) ≡ 1
      wide = bit-T _ ((le_iff 2 (word work (j + 1))).1 two)

      at : (F : ℕ → ℕ → ℕ) → F l p ≡ is_wide work (j + 1) * F (j + 1) (above_in qs (j + 1))
      at F = ap₂ F el (parent_is ∙ ap (above_in qs) el)
          ∙ omega (arith, ap (λ (x : ℕ). x * F (j + 1) (above_in qs (j + 1))) wide)
