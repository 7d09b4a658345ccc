-- What two nodes add to the claim sums, from the crossings of the sets of tips behind the codes into them.
-- Assumes nothing.
use Rattle.std.specs.Prelude.{ℕ, ◌*◌}
use Rattle.sums.specs.Sum.{sum}
use Rattle.sums.specs.theorems.BitLaws.{ne}
use Rattle.shapes.specs.Claims.{choose2}

-- 1 if the three are different
abbrev pub apart : ℕ → ℕ → ℕ → ℕ
apart i j l = ne j l * (ne i j * ne i l)

-- the sum of F over three different indices below d, in every order
unfoldable pub sum_apart : ℕ → (ℕ → ℕ → ℕ → ℕ) → ℕ
sum_apart d F = sum d (λ i. sum d (λ j. sum d (λ l. apart i j l * F i j l)))

-- a node with d codes into it and one with d': I i i' is the crossing of the i-th and the i'-th.
-- What the two add to twice S2, ..
unfoldable pub pair_s2 : ℕ → ℕ → (ℕ → ℕ → ℕ) → ℕ
pair_s2 d d' I = sum_apart d (λ i j l. sum_apart d' (λ i' j' l'. choose2 (I i i') * (I j j' * I l l')))

-- .. and to S3
unfoldable pub pair_s3 : ℕ → ℕ → (ℕ → ℕ → ℕ) → ℕ
pair_s3 d d' I = sum_apart d (λ i j l. sum_apart d' (λ i' j' l'. I i i' * I i l' * (I j j' * I l i')))
