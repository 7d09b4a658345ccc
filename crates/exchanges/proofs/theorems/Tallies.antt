-- Eleven tallies: how far each exchange of two labels moves a tree.
-- Assumes nothing.
use Rattle.std.specs.Prelude.{◌≡◌, ℕ, ◌*◌, ◌-◌, ◌/◌, ◌≤◌, ◌<◌, ltb}
use Rattle.std.proofs.Common.{sym, ◌∙◌, ap, div-lt_iff_lt-mul, lt_of_not-le}
use Rattle.std.proofs.Math.Path.{fun_ext}
use Rattle.std.proofs.Math.Decide.{dec_le}
use native.Mathlib.Omega.{arith}
use Rattle.sums.specs.Sum.{sum}
use Rattle.sums.specs.theorems.SumLaws.{sum_cong, sum_ext, sum-swap}
use Rattle.sums.specs.Bits.{is}
use Rattle.sums.specs.theorems.BitLaws.{ne, sum_is, T_true, T_false}
use Rattle.sums.specs.theorems.TestLaws.{lt_iff}
use Rattle.sums.specs.SetsOfFour.{sets2, sets4}
use Rattle.sums.specs.Swaps.{swapped}
use Rattle.sums.specs.theorems.SwapLaws.{swapped_either}
use Rattle.sums.specs.Fours.{fours}
use Rattle.sums.specs.theorems.FoursLaws.{fours_mono, pairs_count}
use Rattle.shapes.specs.theorems.Shape.{Shape}
use Rattle.shapes.proofs.theorems.Topologies.{topology_in, cases_differing}
use Rattle.exchanges.specs.theorems.Others.{Two}
use Rattle.exchanges.specs.Exchanges.{tally_of}
use Rattle.exchanges.proofs.theorems.Exchanged.{exchanged}
use Rattle.exchanges.proofs.theorems.Distance.{distance_in}
use Rattle.exchanges.proofs.theorems.PathSum.{path_cost}
use Rattle.exchanges.specs.theorems.Walk.{whole_cost}
use Rattle.exchanges.proofs.theorems.Walk.{distance_value, distance-le}

-- 'exchange the labels of .. tips .. and take the quartet distance to the unexchanged tree .. An exchanged tree is
-- compared by its topologies': the sets of four whose topology is not that of the exchanged labels
unfoldable pub moved_by : {n : ℕ} → Shape n → ℕ → ℕ → ℕ
moved_by {n} t x y = sets4 n (λ a b c d. ne (topology_in t a b c d)
    (topology_in t (swapped x y a) (swapped x y b) (swapped x y c) (swapped x y d)))

-- the unordered pairs of labels in tally i
unfoldable pub tally_in : {n : ℕ} → Shape n → ℕ → ℕ
tally_in {n} t i = sets2 n (λ x y. is (tally_of n (moved_by t x y)) i)

pub moved_distance : {n : ℕ} (t : Shape n) (x y : ℕ) (two : Two n x y) → moved_by t x y ≡ distance_in t x y two
unfolding moved_by distance_in exchanged topology_in
moved_distance t x y two = sym (cases_differing t (exchanged t x y two))

-- an exchange has no order
pub moved_either : {n : ℕ} (t : Shape n) (x y : ℕ) → moved_by t x y ≡ moved_by t y x
unfolding moved_by
moved_either {n} t x y = ap by (fun_ext (swapped_either x y))
  where
    by : (ℕ → ℕ) → ℕ
    by s = sets4 n (λ a b c d. ne (topology_in t a b c d) (topology_in t (s a) (s b) (s c) (s d)))

-- from the cost of the path
pub moved_path : {n : ℕ} (t : Shape n) (x y : ℕ) → Two n x y
    → moved_by t x y ≡ (whole_cost n - path_cost t (t.node x) (t.node y)) / 6
moved_path t x y two = moved_distance t x y two ∙ distance_value t x y two

pub moved_le : {n : ℕ} (t : Shape n) (x y : ℕ) → Two n x y → moved_by t x y ≤ fours n
moved_le t x y two = omega (arith, moved_distance t x y two, distance-le t x y two)

pub tally_few : (n d : ℕ) → n < 4 → tally_of n d ≡ 0
unfolding tally_of
tally_few n d l = rw (T_true (ltb n 4) ((lt_iff n 4).1 l), tally_of)

pub tally_many : (n d : ℕ) → 4 ≤ n → tally_of n d ≡ 10 * d / fours n
unfolding tally_of
tally_many n d l = rw (T_false (ltb n 4) (λ h. omega (arith, (lt_iff n 4).0 h)), tally_of)

pub fours-some : (n : ℕ) → 4 ≤ n → 1 ≤ fours n
unfolding fours
fours-some n l = fours_mono 4 n l

-- there are eleven
pub tally-lt : (n d : ℕ) → d ≤ fours n → tally_of n d < 11
tally-lt n d h = elim (dec_le 4 n) [
  | yes l ↦ rw (tally_many n d l) ((div-lt_iff_lt-mul (fours-some n l)).1 (omega (arith, fours-some n l)))
  | no m ↦ rw (tally_few n d (lt_of_not-le m)) (omega arith)
]

-- 'The tallies add up to n(n − 1)/2.'
pub tallies_all : {n : ℕ} (t : Shape n) → sum 11 (tally_in t) ≡ n * (n - 1) / 2
unfolding tally_in sets2
tallies_all {n} t =
    sum-swap 11 n (λ i y. sum y (λ x. is (tally_of n (moved_by t x y)) i))
    ∙ sum_ext n _ _ (λ y ly.
    sum-swap 11 y (λ i x. is (tally_of n (moved_by t x y)) i)
    ∙ sum_ext y _ (λ x. 1) (λ x lx.
    sum_cong 11 (λ i. unit (is (tally_of n (moved_by t x y)) i))
    ∙ sum_is 11 (tally_of n (moved_by t x y)) (λ i. 1)
    (tally-lt n (moved_by t x y) (moved_le t x y (record { lx = omega arith; ly = ly; xy = λ e. omega arith })))))
    ∙ (unfold sets2 in pairs_count n)
  where
    unit : (z : ℕ) → z ≡ z * 1
    unit z = omega arith
