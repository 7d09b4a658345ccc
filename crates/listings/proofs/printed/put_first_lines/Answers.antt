-- The line of the claim sums comes after that of the tips.
-- Assumes nothing.
use native.Mathlib.Omega.{arith}
use Rattle.listings.specs.lemmas.ListingSteps.{first_lines-written}
use Rattle.listings.proofs.printed.put_first_lines.Goals as goal

-- ---- the needs

pub returns : goal.returns
returns c =
    let p = c.put_line in
    let m = c.put_line-end in
    let w = c.from in (
      first_lines-written c.args.figures 0 c.args.out.now m.result m.new.out
          p.result p.new.out w.result w.ensures m.ensures.0 p.ensures.0,
      omega arith,
    )
