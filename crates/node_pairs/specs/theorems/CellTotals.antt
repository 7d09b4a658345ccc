-- Nodes with fewer than three codes into them add nothing, and the cells of two nodes add up to n at most.
-- Assumes nothing.
use Rattle.std.specs.Prelude.{◌≡◌, refl, ◌⊎◌, not, ℕ, zero, suc, ◌*◌, ◌≤◌, ◌<◌, eqb}
use Rattle.std.proofs.Common.{◌∙◌, ap, inl, inr, mul-zero, mul-le-mul, arith}
use Rattle.sums.specs.Sum.{sum}
use Rattle.sums.specs.theorems.SumLaws.{sum_cong, sum_mono, sum_none, sum_const}
use Rattle.sums.specs.theorems.SumLaws.{sum-mul_left, sum-mul_right, sum-swap}
use Rattle.sums.specs.Bits.{bit}
use Rattle.sums.specs.theorems.BitLaws.{bit_le}
use Rattle.shapes.specs.theorems.AncestorLaws.{Rooted}
use Rattle.shapes.specs.Directions.{head, behind}
use Rattle.shapes.specs.theorems.DirectionLaws.{into}
use Rattle.shapes.proofs.theorems.DirectionLaws.{one_way}
use Rattle.shapes.specs.theorems.Shape.{Shape}
use Rattle.shapes.proofs.theorems.LabelSums.{bit_in, code_crossing}
use Rattle.node_pairs.specs.theorems.Cells.{apart, sum_apart, pair_s2, pair_s3}
use Rattle.node_pairs.specs.theorems.CodesOfANode.{Lists}

-- ---- fewer than three codes

pub apart_few : (d : ℕ) (F : ℕ → ℕ → ℕ → ℕ) → d ≤ 2 → sum_apart d F ≡ 0
unfolding sum_apart sum bit
apart_few zero F l = refl
apart_few (suc zero) F l = omega arith
apart_few (suc (suc zero)) F l = omega arith
apart_few (suc (suc (suc d))) F l = absurd (omega arith)

apart_none : (d : ℕ) (F : ℕ → ℕ → ℕ → ℕ) → ((i j l : ℕ) → F i j l ≡ 0) → sum_apart d F ≡ 0
unfolding sum_apart
apart_none d F h = sum_none d _ (λ i li. sum_none d _ (λ j lj. sum_none d _ (λ l ll.
    ap (λ (x : ℕ). apart i j l * x) (h i j l) ∙ mul-zero (apart i j l))))

pub pair_s2_few : (d d' : ℕ) (I : ℕ → ℕ → ℕ) → (d ≤ 2) ⊎ (d' ≤ 2) → pair_s2 d d' I ≡ 0
unfolding pair_s2
pair_s2_few d d' I (inl l) = apart_few d _ l
pair_s2_few d d' I (inr l) = apart_none d _ (λ i j l'. apart_few d' _ l)

pub pair_s3_few : (d d' : ℕ) (I : ℕ → ℕ → ℕ) → (d ≤ 2) ⊎ (d' ≤ 2) → pair_s3 d d' I ≡ 0
unfolding pair_s3
pair_s3_few d d' I (inl l) = apart_few d _ l
pair_s3_few d d' I (inr l) = apart_none d _ (λ i j l'. apart_few d' _ l)

-- ---- all cells together

-- a node lies behind one code into v at most
pub behind_one : (up : ℕ → ℕ) → Rooted up → (k v x : ℕ) → v ≤ k → x ≤ k → sum (2 * k) (into up v x) ≤ 1
behind_one up r k v x lv lx = omega (arith, one_way up r k v x lv lx, bit_le (not (eqb v x)))

pub listed_behind_one : (up : ℕ → ℕ) → Rooted up → (k v x d : ℕ) (c : ℕ → ℕ) → v ≤ k → x ≤ k
    → Lists (2 * k) (head up) v d c → sum d (λ i. bit (behind up (c i) x)) ≤ 1
listed_behind_one up r k v x d c lv lx z =
    omega (arith, behind_one up r k v x lv lx, z.total (λ e. bit (behind up e x)))

-- d sets of labels, no label in two of them, and d' such sets: s i x is 1 if the label x is in the i-th.
-- The crossings of the one with the other
pub cells-le : (n d d' : ℕ) (s s' : ℕ → ℕ → ℕ)
    → ((x : ℕ) → x < n → sum d (λ i. s i x) ≤ 1)
    → ((x : ℕ) → x < n → sum d' (λ i'. s' i' x) ≤ 1)
    → sum d (λ i. sum d' (λ i'. sum n (λ x. s i x * s' i' x))) ≤ n
cells-le n d d' s s' one one' = omega (
  arith,
  by-labels,
  sum_mono n (λ x. sum d (λ i. s i x) * sum d' (λ i'. s' i' x)) (λ x. 1)
      (λ x l. mul-le-mul (one x l) (one' x l)),
  sum_const n 1,
)
  where
    by-labels : sum d (λ i. sum d' (λ i'. sum n (λ x. s i x * s' i' x)))
        ≡ sum n (λ x. sum d (λ i. s i x) * sum d' (λ i'. s' i' x))
    by-labels =
        sum_cong d (λ i. sum-swap d' n (λ i' x. s i x * s' i' x))
        ∙ sum-swap d n (λ i x. sum d' (λ i'. s i x * s' i' x))
        ∙ sum_cong n (λ x. sum_cong d (λ i. sum-mul_left d' (s i x) (λ i'. s' i' x))
        ∙ sum-mul_right d (sum d' (λ i'. s' i' x)) (λ i. s i x))

-- the crossings of the sets of labels behind the codes into v and into v'
pub crossings_le : {n : ℕ} (t u : Shape n) (v v' d d' : ℕ) (c c' : ℕ → ℕ) → v ≤ t.edges → v' ≤ u.edges
    → Lists (2 * t.edges) (head t.up) v d c → Lists (2 * u.edges) (head u.up) v' d' c'
    → sum d (λ i. sum d' (λ i'. code_crossing t u (c i) (c' i'))) ≤ n
crossings_le {n} t u v v' d d' c c' lv lv' z z' =
    cells-le n d d' (λ i. bit_in t (c i)) (λ i'. bit_in u (c' i'))
    (λ x l. listed_behind_one t.up t.tree t.edges v (t.node x) d c lv (t.node_le x l) z)
    (λ x l. listed_behind_one u.up u.tree u.edges v' (u.node x) d' c' lv' (u.node_le x l) z')
