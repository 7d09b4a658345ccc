-- The number of levels, and whether a label is visible, as code finds them.
-- Assumes nothing.
use Rattle.std.specs.Prelude.{◌≡◌, Bool, true, false, ◌≢◌, ℕ, ◌≤◌, ◌<◌, eqb, ltb, leb, length}
use Rattle.std.proofs.Math.Path.{sym, ap, ap₂}
use Rattle.std.proofs.Common.{◌∙◌, arith, eq-eqb, ne_eqb, lt-ltb, le-ltb}
use Rattle.std.proofs.Math.Bool.{not}
use mathlib.Core.List.{List, []}
use Rattle.sums.specs.Counts.{count}
use Rattle.sums.specs.Tests.{some}
use Rattle.sums.specs.theorems.TestLaws.{le_iff, same_test}
use Rattle.tree_check.specs.Table.{Table, word, tips}
use Rattle.tree_check.specs.Refusals.{refusal}
use Rattle.tree_check.specs.theorems.RefusalLaws.{refusal_none, refusal_here, refusal_next, if_accepted_lem, if_refused}
use Rattle.levels.specs.declared.levels.CheckedLevels.{CheckedLevels}
use Rattle.levels.specs.Levels.{level_most, is_visible, levels_order, checked_levels}
use Rattle.levels.specs.theorems.LevelsCheck.{AreLevels, visible-iff, none_past, levels_check}

abbrev told : ℕ → ℕ → CheckedLevels
told number visible = record { refusal = number; visible = visible }

module _ (levels : List ℕ) (viewer n : ℕ) where
  refused_by : refusal (levels_order levels viewer n) ≡ 37 → told 37 0 ≡ checked_levels levels viewer n
  unfolding checked_levels
  refused_by e = ap₂ told (sym e) (sym (if_refused _ (count n (is_visible levels viewer)) 0 (λ z. omega (arith, e, z))))

  -- there are not n levels
  pub levels_short : length levels ≢ n → told 37 0 ≡ checked_levels levels viewer n
  unfolding levels_order
  levels_short d = refused_by (refusal_here 37 _ _ (ap not (ne_eqb (length levels) n d)))

  module _ (e : length levels ≡ n) (b : Bool) (c : b ≡ some (length levels) (λ x. ltb level_most (word levels x))) where
    long : not (eqb (length levels) n) ≡ false
    long = ap not (eq-eqb (length levels) n e)

    here : b ≡ some n (λ x. ltb level_most (word levels x))
    here = c ∙ ap (λ (k : ℕ). some k (λ x. ltb level_most (word levels x))) e

    -- one of them is too high
    pub levels_high : b ≡ true → told 37 0 ≡ checked_levels levels viewer n
    unfolding levels_order
    levels_high h = refused_by (refusal_next 37 _ _ long ∙ refusal_here 37 _ _ (sym here ∙ h))

    -- the viewer's is
    pub viewer_high : b ≡ false → level_most < viewer → told 37 0 ≡ checked_levels levels viewer n
    unfolding levels_order
    viewer_high h l = refused_by (refusal_next 37 _ _ long ∙ refusal_next 37 _ _ (sym here ∙ h)
        ∙ refusal_here 37 _ _ (lt-ltb level_most viewer l))

    -- none is
    pub levels_right : b ≡ false → viewer ≤ level_most → (j : ℕ) → j ≡ count (length levels) (is_visible levels viewer)
        → told 0 j ≡ checked_levels levels viewer n
    unfolding checked_levels levels_order
    levels_right h l j q =
        ap₂ told (sym z) (q ∙ ap (λ (k : ℕ). count k (is_visible levels viewer)) e
        ∙ sym (if_accepted_lem _ (count n (is_visible levels viewer)) 0 z))
      where
        z : refusal (levels_order levels viewer n) ≡ 0
        z = unfold levels_order in refusal_next 37 _ _ long ∙ refusal_next 37 _ _ (sym here ∙ h)
            ∙ refusal_next 37 _ [] (le-ltb level_most viewer l) ∙ refusal_none

-- ---- one label

module _ (levels : List ℕ) (viewer x : ℕ) where
  pub visible_past : length levels ≤ x → false ≡ is_visible levels viewer x
  visible_past l = sym (none_past levels viewer x l)

  pub visible_here : (w : ℕ) → w ≡ word levels x → x < length levels → leb w viewer ≡ is_visible levels viewer x
  visible_here w e l = same_test (leb w viewer) (is_visible levels viewer x)
      (λ t. (visible-iff levels viewer x).1 (l, omega (arith, (le_iff w viewer).0 t)))
      (λ t. (le_iff w viewer).1 (omega (arith, ((visible-iff levels viewer x).0 t).1)))

-- ---- the levels, as they are told

module _ (t : Table) (levels : List ℕ) (viewer n : ℕ) (e : n ≡ tips t) (r : CheckedLevels) (h : r ≡ checked_levels levels viewer n) where
  number : r.refusal ≡ refusal (levels_order levels viewer (tips t))
  number = ap (λ (x : CheckedLevels). x.refusal) h ∙ (unfold checked_levels in ap (λ (k : ℕ). refusal (levels_order levels viewer k)) e)

  pub levels_say : (r.refusal ≡ refusal (levels_order levels viewer (tips t)))
      × (r.refusal ≡ 0 → AreLevels levels viewer (tips t) × (r.visible ≡ count (tips t) (is_visible levels viewer)))
  levels_say = (number, λ z. ((levels_check levels viewer (tips t)).0 (sym number ∙ z), told z))
    where
      told : r.refusal ≡ 0 → r.visible ≡ count (tips t) (is_visible levels viewer)
      told z = ap (λ (x : CheckedLevels). x.visible) (h ∙ ap (checked_levels levels viewer) e) ∙ (unfold checked_levels in
          if_accepted_lem _ (count (tips t) (is_visible levels viewer)) 0 (sym number ∙ z))
