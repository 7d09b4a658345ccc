-- Splits are a matter of the labels that there are: sides that agree on them give the same counts.
-- Assumes nothing.
use Rattle.std.specs.Prelude.{◌≡◌, Bool, ◌&&◌, ◌||◌, ℕ, suc}
use Rattle.std.proofs.Math.Path.{ap, ap₂}
use Rattle.std.proofs.Math.Bool.{not, beq}
use Rattle.std.proofs.Math.Dec.{leb}
use Rattle.sums.specs.theorems.TestLaws.{some_ext, every_ext}
use Rattle.sums.specs.Bits.{bit}
use Rattle.sums.specs.theorems.SumLaws.{sum_ext}
use Rattle.shapes.specs.Splits.{Sides, is_split, same_sides, occurs, is_new_split, splits_of, common_of}
use Rattle.shapes.specs.theorems.SplitsExt.{Agree}

module _ (n : ℕ) (b b' : Sides) (h : Agree n b b') where
  split_ext : (i : ℕ) → is_split n b i ≡ is_split n b' i
  unfolding is_split
  split_ext i = ap₂ (λ (k m : ℕ). leb 2 k && leb 2 m)
      (sum_ext n _ _ (λ x l. ap bit (h i x l)))
      (sum_ext n _ _ (λ x l. ap (λ (y : Bool). bit (not y)) (h i x l)))

  module _ (c c' : Sides) (g : Agree n c c') where
    sides_ext : (i j : ℕ) → same_sides n b c i j ≡ same_sides n b' c' i j
    unfolding same_sides
    sides_ext i j = ap₂ (λ (x y : Bool). x || y)
        (every_ext n _ _ (λ x l. ap₂ beq (h i x l) (g j x l)))
        (every_ext n _ _ (λ x l. ap₂ (λ (y z : Bool). beq y (not z)) (h i x l) (g j x l)))

    pub occurs_ext : (m i : ℕ) → occurs n b m c i ≡ occurs n b' m c' i
    unfolding occurs
    occurs_ext m i = some_ext m _ _ (λ j l. sides_ext i (suc j))

module _ (n : ℕ) (b b' : Sides) (h : Agree n b b') where
  pub new_ext : (i : ℕ) → is_new_split n b i ≡ is_new_split n b' i
  unfolding is_new_split
  new_ext i = ap₂ (λ (x y : Bool). x && not y) (split_ext n b b' h (suc i)) (occurs_ext n b b' h b b' h i (suc i))

  pub splits_ext : (k : ℕ) → splits_of n k b ≡ splits_of n k b'
  unfolding splits_of
  splits_ext k = sum_ext k _ _ (λ i l. ap bit (new_ext i))

  pub common_ext : (c c' : Sides) → Agree n c c' → (k m : ℕ) → common_of n k b m c ≡ common_of n k b' m c'
  unfolding common_of
  common_ext c c' g k m = sum_ext k _ _ (λ i l.
      ap₂ (λ (x y : Bool). bit (x && y)) (new_ext i) (occurs_ext n b b' h c c' g m (suc i)))
