-- From 82 tips on every exchange falls in tally 0: a distance grows as the third power of n, the sets of four as the fourth.
-- Assumes nothing.
use Rattle.std.specs.Prelude.{◌≡◌, ℕ, ◌+◌, ◌*◌, ◌-◌, ◌≤◌, ◌<◌}
use Rattle.std.proofs.Common.{◌∙◌, arith}
use Rattle.std.proofs.Math.Nat.{div-eq_of_lt}
use Rattle.sums.specs.Fours.{fours}
use Rattle.sums.specs.theorems.FoursLaws.{fours_exact}
use Rattle.shapes.specs.theorems.Shape.{Shape}
use Rattle.exchanges.specs.theorems.Others.{Two}
use Rattle.exchanges.specs.theorems.Walk.{whole_cost}
use Rattle.exchanges.proofs.theorems.Walk.{distance_whole}
use Rattle.exchanges.specs.Exchanges.{tally_of}
use Rattle.exchanges.proofs.theorems.Tallies.{moved_by, moved_distance, tally_many}

few : (n : ℕ) → 82 ≤ n → 40 * whole_cost n < 24 * fours n
unfolding whole_cost
few n l =
    let e : n ≡ 82 + (n - 82) = omega arith in
    rw (fours_exact n, e) (poly (n - 82))
  where
    poly : (k : ℕ) → 40 * (2 * ((82 + k - 2) * ((82 + k - 2) * (82 + k - 2))) + 3 * ((82 + k - 2) * (82 + k - 2)))
        < (82 + k) * (82 + k - 1) * (82 + k - 2) * (82 + k - 3)
    poly k =
        let one : 82 + k - 1 ≡ 81 + k = omega arith in
        let two : 82 + k - 2 ≡ 80 + k = omega arith in
        let three : 82 + k - 3 ≡ 79 + k = omega arith in
        rw (one, two, three) (omega arith)

pub large_tally : {n : ℕ} (t : Shape n) (x y : ℕ) → Two n x y → 82 ≤ n → tally_of n (moved_by t x y) ≡ 0
large_tally {n} t x y two l =
    tally_many n (moved_by t x y) (omega arith)
    ∙ div-eq_of_lt (omega (arith, few n l, distance_whole t x y two, moved_distance t x y two))
