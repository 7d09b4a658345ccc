-- What two nodes add to the claim sums is the same with rows and columns exchanged.
-- Assumes nothing.
use Rattle.std.specs.Prelude.{◌≡◌, ℕ, ◌*◌}
use Rattle.std.proofs.Common.{◌∙◌}
use native.Mathlib.Omega.{arith}
use Rattle.shapes.specs.Claims.{choose2}
use Rattle.node_pairs.specs.theorems.Cells.{pair_s2, pair_s3}
use Rattle.node_pairs.specs.theorems.Aggregates.{transposed}
use Rattle.node_pairs.specs.theorems.ApartSums.{apart_cong, apart-swap}

module _ (d d' : ℕ) (I : ℕ → ℕ → ℕ) where
  pub pair_s2-transposed : pair_s2 d d' I ≡ pair_s2 d' d (transposed I)
  unfolding pair_s2
  pair_s2-transposed = apart-swap d d' (λ i j l i' j' l'. choose2 (I i i') * (I j j' * I l l'))

  pub pair_s3-transposed : pair_s3 d d' I ≡ pair_s3 d' d (transposed I)
  unfolding pair_s3
  pair_s3-transposed =
      apart-swap d d' (λ i j l i' j' l'. I i i' * I i l' * (I j j' * I l i'))
      ∙ apart_cong d' (λ i' j' l'. apart_cong d (λ i j l. regroup (I i i') (I i l') (I j j') (I l i')))
    where
      regroup : (p q r s : ℕ) → p * q * (r * s) ≡ p * s * (r * q)
      regroup p q r s = omega arith
