-- What two nodes add depends on their cells alone.
-- Assumes nothing.
use Rattle.std.specs.Prelude.{◌≡◌, refl, ℕ, ◌*◌, ◌<◌}
use Rattle.std.proofs.Common.{ap}
use Rattle.sums.specs.theorems.SumLaws.{sum_ext}
use Rattle.node_pairs.specs.theorems.Cells.{apart, sum_apart, pair_s2, pair_s3}

pub apart_ext : (d : ℕ) (F G : ℕ → ℕ → ℕ → ℕ)
    → ((i j l : ℕ) → i < d → j < d → l < d → F i j l ≡ G i j l) → sum_apart d F ≡ sum_apart d G
unfolding sum_apart
apart_ext d F G h = sum_ext d _ _ (λ i li. sum_ext d _ _ (λ j lj. sum_ext d _ _ (λ l ll.
    ap (λ (x : ℕ). apart i j l * x) (h i j l li lj ll))))

-- two matrices of d rows and d' columns that are alike
module _ (d d' : ℕ) (I J : ℕ → ℕ → ℕ) (e : (i j : ℕ) → i < d → j < d' → I i j ≡ J i j) where
  pub pair_s2_ext : pair_s2 d d' I ≡ pair_s2 d d' J
  unfolding pair_s2
  pair_s2_ext = apart_ext d _ _ (λ i j l li lj ll. apart_ext d' _ _ (λ i' j' l' li' lj' ll'.
      rw (e i i' li li', e j j' lj lj', e l l' ll ll') refl))

  pub pair_s3_ext : pair_s3 d d' I ≡ pair_s3 d d' J
  unfolding pair_s3
  pair_s3_ext = apart_ext d _ _ (λ i j l li lj ll. apart_ext d' _ _ (λ i' j' l' li' lj' ll'.
      rw (e i i' li li', e i l' li ll', e j j' lj lj', e l i' ll li') refl))
