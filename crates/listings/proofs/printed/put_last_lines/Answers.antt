-- The line of the triplets comes after that of the splits.
-- Assumes nothing.
use native.Mathlib.Omega.{arith}
use Rattle.listings.specs.lemmas.ListingSteps.{last_lines-written}
use Rattle.listings.proofs.printed.put_last_lines.Goals as goal

-- ---- the needs

pub returns : goal.returns
returns c =
    let p = c.put_line in
    let m = c.put_line-end in (
      last_lines-written c.args.figures c.args.at c.args.out.now m.result m.new.out
          p.result p.new.out _ _ _ _ c.from.ensures
          c.from-2.ensures c.from-3.ensures c.from-4.ensures
          m.ensures.0 p.ensures.0,
      omega arith,
    )
