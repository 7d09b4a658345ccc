-- Sums over three different indices: sums and factors that come out, and factors of one index each.
-- Assumes nothing.
use Rattle.std.specs.Prelude.{◌≡◌, ℕ, ◌+◌, ◌*◌}
use Rattle.std.proofs.Math.Path.{refl, fun_ext}
use Rattle.std.proofs.Common.{sym, ◌∙◌, ap, mul_left_comm, arith}
use Rattle.sums.specs.Sum.{sum}
use Rattle.sums.specs.theorems.SumLaws.{sum_cong, sum-mul_left, sum-swap}
use Rattle.sums.specs.Bits.{bit}
use Rattle.sums.specs.theorems.BitLaws.{ne}
use Rattle.sums.specs.theorems.Exclusion.{three_apart, two_apart}
use Rattle.sums.specs.theorems.Grids.{grid_mul_left}
use Rattle.node_pairs.specs.theorems.Cells.{apart, sum_apart}

-- three different indices below three
pub orders : (F : ℕ → ℕ → ℕ → ℕ) → sum_apart 3 F ≡ F 0 1 2 + F 0 2 1 + F 1 0 2 + F 1 2 0 + F 2 0 1 + F 2 1 0
unfolding sum_apart sum bit
orders F = omega arith

-- equal terms
pub apart_cong : (d : ℕ) {F G : ℕ → ℕ → ℕ → ℕ} → ((i j l : ℕ) → F i j l ≡ G i j l) → sum_apart d F ≡ sum_apart d G
apart_cong d h = ap (sum_apart d) (fun_ext (λ i. fun_ext (λ j. fun_ext (λ l. h i j l))))

-- ---- what comes out

-- a sum ..
pub apart_sum_lem : (d n : ℕ) (F : ℕ → ℕ → ℕ → ℕ → ℕ)
    → sum_apart d (λ i j l. sum n (λ a. F a i j l)) ≡ sum n (λ a. sum_apart d (F a))
unfolding sum_apart
apart_sum_lem d n F =
    sum_cong d (λ i. sum_cong d (λ j.
    sum_cong d (λ l. sym (sum-mul_left n (apart i j l) (λ a. F a i j l)))
    ∙ sum-swap d n (λ l a. apart i j l * F a i j l))
    ∙ sum-swap d n (λ j a. sum d (λ l. apart i j l * F a i j l)))
    ∙ sum-swap d n (λ i a. sum d (λ j. sum d (λ l. apart i j l * F a i j l)))

-- .. and a factor
apart-mul : (d c : ℕ) (F : ℕ → ℕ → ℕ → ℕ) → sum_apart d (λ i j l. c * F i j l) ≡ c * sum_apart d F
unfolding sum_apart
apart-mul d c F =
    sum_cong d (λ i.
    sum_cong d (λ j. sum_cong d (λ l. mul_left_comm (apart i j l) c (F i j l)))
    ∙ grid_mul_left d d c (λ j l. apart i j l * F i j l))
    ∙ sum-mul_left d c (λ i. sum d (λ j. sum d (λ l. apart i j l * F i j l)))

-- the order of summation plays no part
pub apart-swap : (d d' : ℕ) (F : ℕ → ℕ → ℕ → ℕ → ℕ → ℕ → ℕ)
    → sum_apart d (λ i j l. sum_apart d' (F i j l))
    ≡ sum_apart d' (λ i' j' l'. sum_apart d (λ i j l. F i j l i' j' l'))
apart-swap d d' F = written ∙ outside
  where
    term : ℕ → ℕ → ℕ → ℕ → ℕ → ℕ → ℕ
    term i' j' l' i j l = apart i' j' l' * F i j l i' j' l'

    written : sum_apart d (λ i j l. sum_apart d' (F i j l))
        ≡ sum d' (λ i'. sum d' (λ j'. sum d' (λ l'. sum_apart d (term i' j' l'))))
    written =
        apart_cong d inner
        ∙ apart_sum_lem d d' (λ i' i j l. sum d' (λ j'. sum d' (λ l'. term i' j' l' i j l)))
        ∙ sum_cong d' (λ i'. apart_sum_lem d d' (λ j' i j l. sum d' (λ l'. term i' j' l' i j l))
        ∙ sum_cong d' (λ j'. apart_sum_lem d d' (λ l' i j l. term i' j' l' i j l)))
      where
        inner : (i j l : ℕ) → sum_apart d' (F i j l)
            ≡ sum d' (λ i'. sum d' (λ j'. sum d' (λ l'. term i' j' l' i j l)))
        inner i j l = unfold sum_apart in refl

    outside : sum d' (λ i'. sum d' (λ j'. sum d' (λ l'. sum_apart d (term i' j' l'))))
        ≡ sum_apart d' (λ i' j' l'. sum_apart d (λ i j l. F i j l i' j' l'))
    outside =
        sum_cong d' (λ i'. sum_cong d' (λ j'. sum_cong d' (λ l'.
        apart-mul d (apart i' j' l') (λ i j l. F i j l i' j' l'))))
        ∙ folded
      where
        folded : sum d' (λ i'. sum d' (λ j'. sum d' (λ l'.
            apart i' j' l' * sum_apart d (λ i j l. F i j l i' j' l'))))
            ≡ sum_apart d' (λ i' j' l'. sum_apart d (λ i j l. F i j l i' j' l'))
        folded = unfold sum_apart in refl

-- ---- a factor for each index

pub apart-products : (d : ℕ) (p q r : ℕ → ℕ) → sum_apart d (λ i j l. p i * (q j * r l)) ≡ three_apart d p q r
unfolding sum_apart three_apart two_apart
apart-products d p q r = sum_cong d (λ i.
    sum_cong d (λ j. sum_cong d (λ l. regroup (ne j l) (ne i j) (ne i l) (p i) (q j) (r l)))
    ∙ grid_mul_left d d (p i) _)
  where
    regroup : (n m o p q r : ℕ) → n * (m * o) * (p * (q * r)) ≡ p * (n * ((m * q) * (o * r)))
    regroup n m o p q r = omega arith

-- two for the first
pub apart_hooks : (d : ℕ) (x y z : ℕ → ℕ)
    → sum_apart d (λ i j l. x i * x l * (y j * z i)) ≡ three_apart d (λ a. x a * z a) y x
unfolding sum_apart three_apart two_apart
apart_hooks d x y z = sum_cong d (λ i.
    sum_cong d (λ j. sum_cong d (λ l. regroup (ne j l) (ne i j) (ne i l) (x i) (x l) (y j) (z i)))
    ∙ grid_mul_left d d (x i * z i) _)
  where
    regroup : (n m o x x' y z : ℕ) → n * (m * o) * (x * x' * (y * z)) ≡ x * z * (n * ((m * y) * (o * x')))
    regroup n m o x x' y z = omega arith
