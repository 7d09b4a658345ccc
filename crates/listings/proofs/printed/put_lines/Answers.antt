-- The lines come one after the other.
-- Assumes nothing.
use native.Mathlib.Omega.{arith}
use Rattle.listings.specs.lemmas.ListingSteps.{lines-written}
use Rattle.listings.proofs.printed.put_lines.Goals as goal

-- ---- the needs

pub returns : goal.returns
returns c =
    let r = c.put_last_lines in
    let q = c.put_quartet_lines-end in
    let p = c.put_first_lines-middle in (
      lines-written c.args.figures c.args.out.now p.result q.result r.result
          p.new.out q.new.out r.new.out p.ensures.0 q.ensures.0 r.ensures.0,
      omega arith,
    )
