-- Every factor is 256 at most, so the squares fit, and the product does.
-- Assumes nothing.
use mathlib.Core.Path.{refl}
use Prim.Native.Nat.{◌+◌, ◌*◌, ◌-◌, ◌/◌, ◌≤◌}
use native.Mathlib.Nat.{le_trans}
use native.Mathlib.Omega.{arith}
use Rattle.table_words.specs.Sizes.{tips_most}
use Rattle.shapes.specs.Claims.{choose2}
use Rattle.sums.specs.theorems.Products.{product_le}
use Rattle.claims.proofs.cell_terms.pairs_term.Goals.{Start}
use Rattle.claims.proofs.cell_terms.pairs_term.Goals as goal

-- the squares are low
facts : (c : Start)
    → (c.args.t * c.args.t ≤ 65536)
    × (c.args.rest * c.args.rest ≤ 65536)
    × (c.args.x * c.args.x ≤ 65536)
    × (c.args.y * c.args.y ≤ 65536)
facts c =
    let p = c.requires.sizes in (
      product_le tips_most tips_most _ _ p.1 p.1,
      product_le tips_most tips_most _ _ p.2 p.2,
      product_le tips_most tips_most _ _ p.3 p.3,
      product_le tips_most tips_most _ _ p.4 p.4,
    )

pairs-le : (c : Start) → c.args.t * (c.args.t - 1) ≤ 65536
pairs-le c = product_le tips_most tips_most _ _ c.requires.sizes.1 (omega (arith, c.requires.sizes.1))

all-le : (c : Start)
    → c.args.t * (c.args.t - 1) / 2
    * (c.args.rest * c.args.rest + c.args.t * c.args.t + c.args.x * c.args.x + c.args.y * c.args.y
    + c.args.more - c.args.base) ≤ 68719476736
all-le c =
    let f = facts c in
    let p = pairs-le c in
    le_trans (product_le 32768 589824 _ _ (omega arith) (omega arith)) (omega arith)

pub overflow_mul-result : goal.overflow_mul-result
overflow_mul-result c = omega (arith, pairs-le c)

pub overflow_mul-result-2 : goal.overflow_mul-result-2
overflow_mul-result-2 c = let f = facts c in omega arith

pub overflow_mul-result-3 : goal.overflow_mul-result-3
overflow_mul-result-3 c = let f = facts c in omega arith

pub overflow_add-result : goal.overflow_add-result
overflow_add-result c = let f = facts c in omega arith

pub overflow_mul-result-4 : goal.overflow_mul-result-4
overflow_mul-result-4 c = let f = facts c in omega arith

pub overflow_add-result-2 : goal.overflow_add-result-2
overflow_add-result-2 c = let f = facts c in omega arith

pub overflow_mul-result-5 : goal.overflow_mul-result-5
overflow_mul-result-5 c = let f = facts c in omega arith

pub overflow_add-result-3 : goal.overflow_add-result-3
overflow_add-result-3 c = let f = facts c in omega arith

pub overflow_add-result-4 : goal.overflow_add-result-4
overflow_add-result-4 c = let f = facts c in omega arith

pub overflow_mul-result-6 : goal.overflow_mul-result-6
overflow_mul-result-6 c = omega (arith, all-le c)

pub returns : goal.returns
unfolding choose2
returns c = (refl, all-le c)
