-- What is known where the search needs a hint.
-- Assumes nothing.
use native.Mathlib.Omega.{arith}
use Rattle.listings.specs.lemmas.Printing.{numbers_none, numbers_next, numbers_all}
use Rattle.listings.proofs.text.put_numbers.Goals as goal

-- ---- the needs

pub loop-number-init : goal.loop-number-init
loop-number-init c =
    (omega arith, numbers_none c.args.at c.args.out.now)

pub loop-number-preserved : goal.loop-number-preserved
loop-number-preserved c =
    let l = c.loop-number in
    let p = c.put_number-end in (
      omega arith,
      numbers_next c.args.at c.args.out.now c.args.numbers.now l.number-index l.end l.out
          p.result p.new.out (omega arith) l.invariant.1 p.ensures.0,
    )

pub returns : goal.returns
returns c =
    let l = c.loop-number in (
      numbers_all c.args.at c.args.out.now c.args.numbers.now l.number-index l.end l.out (omega arith)
          l.invariant.1,
      omega arith,
    )
