-- Each term is low, so that all of them fit.
-- Assumes nothing.
use mathlib.Core.Path.{◌≡◌, refl, ◌∙◌, ap}
use native.Mathlib.Omega.{arith}
use lib.ListN.{length-set, take}
use Rattle.std.proofs.Common.{get_or-take}
use Rattle.tree_check.specs.Table.{word}
use Rattle.sums.specs.Sum.{sum}
use Rattle.sums.specs.theorems.SumLaws.{sum_step}
use Rattle.kept_triplets.specs.lemmas.Filling.{sums_none, sums_next}
use Rattle.kept_triplets.proofs.places.running_sums.Goals as goal

pub loop-k-init : goal.loop-k-init
loop-k-init g c = (
  length-set c.args.sums.now 0 0 ∙ c.requires.room.1,
  omega arith,
  λ f p. ((unfold sum in refl), sums_none _ c.args.sums.now c.requires.room.1),
)

pub overflow_add-total : goal.overflow_add-total
overflow_add-total g c =
    omega (arith, c.loop-k.invariant.1, c.requires.low _ _ c.term-total.ensures, c.loop-k-test.true, c.requires.room.0)

pub overflow_add-sums : goal.overflow_add-sums
overflow_add-sums g c = omega (arith, c.loop-k-test.true, c.requires.room.0)

pub offset_bounds-sums-k : goal.offset_bounds-sums-k
offset_bounds-sums-k g c = omega (arith, c.loop-k-test.true, c.requires.room.0)

pub bounds-sums-k : goal.bounds-sums-k
bounds-sums-k g c = omega (arith, c.loop-k-test.true, c.requires.room.0)

pub loop-k-preserved : goal.loop-k-preserved
loop-k-preserved g c =
    let l = c.loop-k in
    let q : word (take c.args.count c.args.at.now) l.k ≡ word c.args.at.now l.k =
    get_or-take c.args.count c.args.at.now l.k 0 (omega (arith, c.loop-k-test.true, c.requires.room.0)) in (
      length-set l.sums _ _ ∙ l.invariant.0,
      omega (arith, l.invariant.1, c.requires.low _ _ c.term-total.ensures),
      λ f p. let h = l.invariant.2 f p in
          let e = sum_step l.k (λ i. f (word c.args.at.now i)) _ _ h.0 (p _ _ c.term-total.ensures ∙ ap f q) in
          (e, sums_next _ _ _ _ l.invariant.0 (omega (arith, c.loop-k-test.true, c.requires.room.0)) e h.1),
    )

pub returns : goal.returns
returns g c =
    let l = c.loop-k in
    let e : l.k ≡ c.args.count = omega (arith, c.loop-k-test.false) in
    record { long = l.invariant.0; sums = λ f p. rw e at (l.invariant.2 f p).1 }
