-- What a walk from a label's node p has to do at each node, in the numbers of a table: labels at or below a node, and
-- the squares of those numbers; and the distance from what the walk brings.
-- Assumes nothing.
use Rattle.std.specs.Prelude.{◌≡◌, ◌≢◌, ℕ, suc, ◌+◌, ◌*◌, ◌-◌, ◌/◌, ◌≤◌, ◌<◌}
use Rattle.std.proofs.Common.{sym, ◌∙◌, arith}
use Rattle.std.proofs.Math.Path.{ap}
use Rattle.sums.specs.Bits.{bit}
use Rattle.sums.specs.theorems.BitLaws.{bit_not}
use Rattle.sums.specs.Fours.{fours}
use Rattle.sums.specs.theorems.FoursLaws.{sets_of_four, fours-count}
use Rattle.shapes.specs.Ancestors.{anc}
use Rattle.shapes.proofs.theorems.AncestorLaws.{anc_self}
use Rattle.shapes.specs.Directions.{behind}
use Rattle.shapes.proofs.theorems.DirectionLaws.{head_even, head_odd, behind_even, behind_odd}
use Rattle.shapes.specs.theorems.Shape.{Shape}
use Rattle.shapes.proofs.theorems.Counting.{size_in, counted}
use Rattle.exchanges.specs.theorems.Others.{Two}
use Rattle.exchanges.proofs.theorems.Others.{others-count}
use Rattle.exchanges.proofs.theorems.Exchanged.{exchanged}
use Rattle.exchanges.proofs.theorems.Distance.{distance_in, other_labels}
use Rattle.exchanges.specs.theorems.Turns.{squares_into}
use Rattle.exchanges.specs.theorems.PathSum.{cost}
use Rattle.exchanges.proofs.theorems.PathSum.{path_cost, distance_path}
use Rattle.exchanges.specs.theorems.Steps.{toward}
use Rattle.exchanges.proofs.theorems.Steps.{labels_below, size-rising, size_falling, ends_behind, ends_at, toward_code}
use Rattle.exchanges.proofs.theorems.Steps.{goes_on, path_here, path_step}
use Rattle.exchanges.specs.theorems.Walk.{whole_cost}

module _ {n : ℕ} (t : Shape n) (p : ℕ) (lp : p ≤ t.edges) (j : ℕ) (l : j < t.edges) where
  even_lt : 2 * j < 2 * t.edges
  even_lt = omega arith

  odd_lt : suc (2 * j) < 2 * t.edges
  odd_lt = omega arith

  even_p : bit (behind t.up (2 * j) p) ≡ bit (anc t.up (suc j) p)
  even_p = ap bit (behind_even t.up j p)

  odd_p : bit (behind t.up (suc (2 * j)) p) + bit (anc t.up (suc j) p) ≡ 1
  odd_p = omega (arith, ap bit (behind_odd t.up j p), bit_not (anc t.up (suc j) p))

  fall : size_in t (suc (2 * j)) ≡ n - labels_below t (suc j)
  fall = omega (arith, size_falling t j)

  -- ---- a node that is not above p

  pub toward_out : bit (anc t.up (suc j) p) ≡ 0 → toward t p (suc j) ≡ n - labels_below t (suc j)
  toward_out h =
      toward_code t p lp (suc j) (suc (2 * j)) l odd_lt (head_odd t.up j) (omega (arith, odd_p)) ∙ fall

  pub path_down : bit (anc t.up (suc j) p) ≡ 0 → t.up (suc j) ≢ p
      → path_cost t p (suc j)
      ≡ path_cost t p (t.up (suc j)) + cost n (toward t p (t.up (suc j))) (labels_below t (suc j)) (squares_into t (t.up (suc j)))
  path_down h d = omega (
    arith,
    path_step t p lp j l,
    ends_behind t p lp (suc (2 * j)) odd_lt (omega (arith, odd_p)),
    goes_on t p lp (2 * j) even_lt (even_p ∙ h) (λ e. d (sym (head_even t.up j) ∙ e)),
    ap (λ (v : ℕ). cost n (toward t p v) (size_in t (2 * j)) (squares_into t v)) (head_even t.up j),
    ap (λ (z : ℕ). cost n (toward t p (t.up (suc j))) z (squares_into t (t.up (suc j)))) (size-rising t j),
  )

  pub path_down_first : bit (anc t.up (suc j) p) ≡ 0 → t.up (suc j) ≡ p → path_cost t p (suc j) ≡ 0
  path_down_first h e = omega (
    arith,
    path_step t p lp j l,
    ends_behind t p lp (suc (2 * j)) odd_lt (omega (arith, odd_p)),
    ends_at t p lp (2 * j) even_lt (head_even t.up j ∙ e),
    ap (λ (v : ℕ). path_cost t p v) e,
    path_here t p lp,
  )

  -- ---- p, or a node above it

  pub toward_in : bit (anc t.up (suc j) p) ≡ 1 → (v : ℕ) → v ≤ t.edges → t.up (suc j) ≡ v
      → toward t p v ≡ labels_below t (suc j)
  toward_in h v lv e =
      toward_code t p lp v (2 * j) lv even_lt (head_even t.up j ∙ e) (even_p ∙ h) ∙ size-rising t j

  pub path_up : bit (anc t.up (suc j) p) ≡ 1 → suc j ≢ p
      → path_cost t p (t.up (suc j))
      ≡ path_cost t p (suc j) + cost n (toward t p (suc j)) (n - labels_below t (suc j)) (squares_into t (suc j))
  path_up h d = omega (
    arith,
    path_step t p lp j l,
    ends_behind t p lp (2 * j) even_lt (even_p ∙ h),
    goes_on t p lp (suc (2 * j)) odd_lt (omega (arith, odd_p)) (λ e. d (sym (head_odd t.up j) ∙ e)),
    ap (λ (v : ℕ). cost n (toward t p v) (size_in t (suc (2 * j))) (squares_into t v)) (head_odd t.up j),
    ap (λ (z : ℕ). cost n (toward t p (suc j)) z (squares_into t (suc j))) fall,
  )

  pub path_up_first : suc j ≡ p → path_cost t p (t.up (suc j)) ≡ 0
  path_up_first e = omega (
    arith,
    path_step t p lp j l,
    ends_behind t p lp (2 * j) even_lt
        (even_p ∙ ap (λ (v : ℕ). bit (anc t.up v p)) e ∙ anc_self t.up t.tree p),
    ends_at t p lp (suc (2 * j)) odd_lt (head_odd t.up j ∙ e),
    ap (λ (v : ℕ). path_cost t p v) e,
    path_here t p lp,
  )

-- ---- the distance

module _ {n : ℕ} (t : Shape n) (x y : ℕ) (two : Two n x y) where
  pub distance_whole : 6 * distance_in t x y two + path_cost t (t.node x) (t.node y) ≡ whole_cost n
  unfolding whole_cost
  distance_whole =
      let m : other_labels t x y ≡ n - 2 = omega (arith, others-count n x y two) in
      distance_path t x y two ∙ ap (λ (z : ℕ). 2 * (z * (z * z)) + 3 * (z * z)) m

  pub distance_value : distance_in t x y two ≡ (whole_cost n - path_cost t (t.node x) (t.node y)) / 6
  distance_value = omega (arith, distance_whole)

  -- no sum along a path is larger
  pub path_le : path_cost t (t.node x) (t.node y) ≤ whole_cost n
  path_le = omega (arith, distance_whole)

  pub distance-le : distance_in t x y two ≤ fours n
  unfolding distance_in sets_of_four
  distance-le = omega (arith, (counted t (exchanged t x y two)).all, fours-count n)
