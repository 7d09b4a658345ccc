-- The line of the distance comes after that of the five cases.
-- Assumes nothing.
use native.Mathlib.Omega.{arith}
use Rattle.listings.specs.lemmas.ListingSteps.{quartet_lines-written}
use Rattle.listings.proofs.printed.put_quartet_lines.Goals as goal

-- ---- the needs

pub returns : goal.returns
returns c =
    let p = c.put_line in
    let m = c.put_line-end in (
      quartet_lines-written c.args.figures c.args.at c.args.out.now m.result m.new.out
          p.result p.new.out m.ensures.0 p.ensures.0,
      omega arith,
    )
