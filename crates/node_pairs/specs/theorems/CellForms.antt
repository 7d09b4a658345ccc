-- What two nodes add to the claim sums, cell by cell: each times a sum over cells in other rows and columns.
-- Assumes nothing.
use Rattle.std.specs.Prelude.{◌≡◌, ℕ, ◌*◌}
use Rattle.std.proofs.Common.{sym, ◌∙◌, ap, ap₂, mul_assoc, arith}
use Rattle.sums.specs.Sum.{sum}
use Rattle.sums.specs.theorems.SumLaws.{sum_cong, sum-swap}
use Rattle.sums.specs.theorems.BitLaws.{ne, ne_sym}
use Rattle.sums.specs.theorems.Grids.{grid_mul_left, grid_sum}
use Rattle.shapes.specs.Claims.{choose2}
use Rattle.node_pairs.specs.theorems.Cells.{apart, sum_apart, pair_s2, pair_s3}
use Rattle.node_pairs.specs.theorems.Aggregates.{struck_out, other_cells}

-- the products of two cells in different rows and different columns, in either order
unfoldable pub pairs_apart : ℕ → ℕ → (ℕ → ℕ → ℕ) → ℕ
pairs_apart d d' X =
    sum d (λ f. sum d (λ g. ne f g * sum d' (λ a. sum d' (λ b. ne a b * (X f a * X g b)))))

-- .. both outside row i and column i'
unfoldable pub pairs_off : ℕ → ℕ → (ℕ → ℕ → ℕ) → ℕ → ℕ → ℕ
pairs_off d d' I i i' = pairs_apart d d' (struck_out I i i')

-- a hook at a cell is another cell of its column and another of its row
abbrev pub hook : (ℕ → ℕ → ℕ) → ℕ → ℕ → ℕ → ℕ → ℕ
hook I i i' l l' = (ne i l * I l i') * (ne i' l' * I i l')

-- the hooks at cell i, i', each times the cells in none of its two rows and two columns
unfoldable pub hooks_apart : ℕ → ℕ → (ℕ → ℕ → ℕ) → ℕ → ℕ → ℕ
hooks_apart d d' I i i' = sum d (λ l. sum d' (λ l'. hook I i i' l l' * other_cells d d' (struck_out I i i') l l'))

pub pair_s2-cells : (d d' : ℕ) (I : ℕ → ℕ → ℕ)
    → pair_s2 d d' I ≡ sum d (λ i. sum d' (λ i'. choose2 (I i i') * pairs_off d d' I i i'))
unfolding pair_s2 sum_apart pairs_off pairs_apart struck_out
pair_s2-cells d d' I = sum_cong d (λ i.
    grid_sum d d d' (λ j l. apart i j l) (λ j l i'. sum d' (λ j'. sum d' (λ l'. term i i' j l j' l')))
    ∙ sum_cong d' (λ i'.
    sum_cong d (λ f. sum_cong d (λ g.
    sym (grid_mul_left d' d' (apart i f g) _)
    ∙ sum_cong d' (λ a. sum_cong d' (λ b. regroup (ne f g) (ne i f) (ne i g) (ne a b) (ne i' a) (ne i' b)
    (choose2 (I i i')) (I f a) (I g b)))
    ∙ grid_mul_left d' d' (choose2 (I i i') * ne f g) _
    ∙ mul_assoc (choose2 (I i i')) (ne f g) _))
    ∙ grid_mul_left d d (choose2 (I i i')) _))
  where
    term : ℕ → ℕ → ℕ → ℕ → ℕ → ℕ → ℕ
    term i i' j l j' l' = apart i' j' l' * (choose2 (I i i') * (I j j' * I l l'))

    regroup : (n m o n' m' o' t x y : ℕ)
        → n * (m * o) * (n' * (m' * o') * (t * (x * y))) ≡ t * n * (n' * ((m * (m' * x)) * (o * (o' * y))))
    regroup n m o n' m' o' t x y = omega arith

pub pair_s3-cells : (d d' : ℕ) (I : ℕ → ℕ → ℕ)
    → pair_s3 d d' I ≡ sum d (λ i. sum d' (λ i'. I i i' * hooks_apart d d' I i i'))
unfolding pair_s3 sum_apart hooks_apart other_cells struck_out
pair_s3-cells d d' I = sum_cong d (λ i.
    grid_sum d d d' (λ j l. apart i j l) (λ j l i'. sum d' (λ j'. sum d' (λ l'. term i i' j l j' l')))
    ∙ sum_cong d' (λ i'.
    sum-swap d d (λ j l. apart i j l * sum d' (λ j'. sum d' (λ l'. term i i' j l j' l')))
    ∙ sum_cong d (λ l. inner i i' l)
    ∙ grid_mul_left d d' (I i i') _))
  where
    term : ℕ → ℕ → ℕ → ℕ → ℕ → ℕ → ℕ
    term i i' j l j' l' = apart i' j' l' * (I i i' * I i l' * (I j j' * I l i'))

    regroup : (n m o n' m' o' t x y z : ℕ) → n * (m * o) * (n' * (m' * o') * (t * x * (y * z)))
        ≡ (t * ((o * z) * (o' * x))) * (n * (n' * (m * (m' * y))))
    regroup n m o n' m' o' t x y z = omega arith

    inner : (i i' l : ℕ)
        → sum d (λ j. apart i j l * sum d' (λ j'. sum d' (λ l'. term i i' j l j' l')))
        ≡ sum d' (λ l'. I i i' * (hook I i i' l l'
        * sum d (λ j. sum d' (λ j'. ne l j * (ne l' j' * (ne i j * (ne i' j' * I j j')))))))
    inner i i' l =
        sum_cong d (λ j. ap (λ (z : ℕ). apart i j l * z) (sum-swap d' d' _)
        ∙ sym (grid_mul_left d' d' (apart i j l) _))
        ∙ sum-swap d d' _
        ∙ sum_cong d' (λ l'.
        sum_cong d (λ j. sum_cong d' (λ j'.
        ap₂ (λ (x y : ℕ). x * (ne i j * ne i l)
        * (y * (ne i' j' * ne i' l') * (I i i' * I i l' * (I j j' * I l i')))) (ne_sym j l) (ne_sym j' l')
        ∙ regroup (ne l j) (ne i j) (ne i l) (ne l' j') (ne i' j') (ne i' l')
        (I i i') (I i l') (I j j') (I l i')))
        ∙ grid_mul_left d d' (I i i' * hook I i i' l l') _
        ∙ mul_assoc (I i i') _ _)
