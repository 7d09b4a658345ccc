-- The refusal chooses between the lines and its own line.
-- Assumes nothing.
use native.Mathlib.Omega.{arith}
use Rattle.listings.specs.lemmas.ListingSteps.{listed_accepted, listed_refused}
use Rattle.listings.proofs.printed.put_listing.Goals as goal

-- ---- the needs

pub returns-then-figures-eq0 : goal.returns-then-figures-eq0
returns-then-figures-eq0 c =
    let p = c.put_lines in (
      listed_accepted c.args.figures c.args.out.now p.result p.new.out
          c.if-figures-eq0.true p.ensures.0,
      omega arith,
    )

pub returns : goal.returns
returns c =
    let p = c.put_line in
    let w = c.from in (
      listed_refused c.args.figures c.args.out.now p.result p.new.out w.result w.ensures
          c.if-figures-eq0.false p.ensures.0,
      omega arith,
    )
