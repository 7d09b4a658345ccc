-- What is known where the search needs a hint.
-- Assumes nothing.
use mathlib.Core.Path.{◌≡◌, refl, ◌∙◌, ap, ap₂}
use Prim.Native.Nat.{ℕ, ◌+◌, ◌≤◌}
use native.Mathlib.Omega.{arith}
use lib.ListN.{take, length}
use Rattle.std.proofs.Common.{get_or-take, length-take-le}
use Rattle.tree_check.specs.Table.{word}
use Rattle.sums.specs.Sum.{sum}
use Rattle.sums.specs.theorems.SumLaws.{sum_step}
use Rattle.kept_triplets.specs.lemmas.Rows.{kept_alike_at, kept_apart_at, kept_alike_listed, kept_apart_listed, listed_low}
use Rattle.kept_triplets.proofs.rows.row_terms.Goals.{After-struct_known-1, After-from}
use Rattle.kept_triplets.proofs.rows.row_terms.Goals as goal

-- ---- what is known there

-- as many are listed
listed : (c : After-struct_known-1) → length (take c.args.count c.args.columns.now) ≡ c.args.count
listed c = length-take-le c.args.count c.args.columns.now (omega (arith, c.requires.few))

step : (c : After-struct_known-1) → let s = c.args in
    (c.loop-j.alike + c.pair_at-terms.result.alike ≡ sum (c.loop-j.j-index + 1) (kept_alike_listed s.sums.now s.begin.now s.end.now s.second.now s.columns.now))
    × (c.loop-j.apart + c.pair_at-terms.result.apart ≡ sum (c.loop-j.j-index + 1) (kept_apart_listed s.sums.now s.begin.now s.end.now s.second.now s.columns.now))
step c =
    let s = c.args in
    let q = c.loop-j.j-index in
    let j : word (take s.count s.columns.now) q ≡ word s.columns.now q = get_or-take s.count s.columns.now q 0 (omega (arith, c.loop-j-test.true, listed c)) in
    let p : c.from.result ≡ word s.second.now (2 + word s.columns.now q) = c.from.ensures ∙ ap (λ (k : ℕ). word s.second.now (2 + k)) j in (
      sum_step q (kept_alike_listed s.sums.now s.begin.now s.end.now s.second.now s.columns.now) _ _ c.loop-j.invariant.0
          (c.pair_at-terms.ensures.0 ∙ ap₂ (kept_alike_at s.sums.now s.begin.now s.end.now) j p),
      sum_step q (kept_apart_listed s.sums.now s.begin.now s.end.now s.second.now s.columns.now) _ _ c.loop-j.invariant.1
          (c.pair_at-terms.ensures.1 ∙ ap₂ (kept_apart_at s.sums.now s.begin.now s.end.now) j p),
    )

low : (c : After-struct_known-1) → let s = c.args in
    (sum (c.loop-j.j-index + 1) (kept_alike_listed s.sums.now s.begin.now s.end.now s.second.now s.columns.now) ≤ 17179869184)
    × (sum (c.loop-j.j-index + 1) (kept_apart_listed s.sums.now s.begin.now s.end.now s.second.now s.columns.now) ≤ 17179869184)
low c = listed_low _ _ _ _ _ _ c.requires (c.loop-j.j-index + 1) (omega (arith, c.loop-j-test.true, listed c))

pub loop-j-init : goal.loop-j-init
loop-j-init c = ((unfold sum in refl), (unfold sum in refl))

pub overflow_add-alike : goal.overflow_add-alike
overflow_add-alike c = omega (arith, (step c).0, (low c).0)

pub overflow_add-apart : goal.overflow_add-apart
overflow_add-apart c = omega (arith, (step (goal.at.overflow_add-apart c).After-struct_known-1).1, (low (goal.at.overflow_add-apart c).After-struct_known-1).1)

pub loop-j-preserved : goal.loop-j-preserved
loop-j-preserved c = step (goal.at.loop-j-preserved c).After-struct_known-1

pub returns : goal.returns
returns c =
    let e : c.loop-j.j-index ≡ c.args.count = omega (arith, c.loop-j-test.false, length-take-le c.args.count c.args.columns.now (omega (arith, c.requires.few))) in
    rw e at c.loop-j.invariant
