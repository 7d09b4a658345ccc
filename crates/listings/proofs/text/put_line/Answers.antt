-- Word, numbers and line end come one after the other.
-- Assumes nothing.
use native.Mathlib.Omega.{arith}
use Rattle.listings.specs.lemmas.Printing.{line-written}
use Rattle.listings.proofs.text.put_line.Goals as goal

-- ---- the needs

pub returns : goal.returns
returns c =
    let p = c.put_numbers-end in
    let m = c.copy-middle in (
      line-written c.args.at c.args.out.now c.args.word.now c.args.numbers.now
          m.result m.new.out p.result p.new.out (omega arith) (omega arith)
          m.ensures p.ensures.0,
      omega arith,
    )
