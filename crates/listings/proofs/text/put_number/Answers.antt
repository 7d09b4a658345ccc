-- The digits that `io::decimal` leaves are copied behind a space.
-- Assumes nothing.
use native.Mathlib.Omega.{arith}
use Rattle.listings.specs.lemmas.DecimalLaws.{fewest_most}
use Rattle.listings.specs.lemmas.Printing.{number_room, number-written}
use Rattle.listings.proofs.text.put_number.Goals as goal

-- ---- the needs

pub copy-requires : goal.copy-requires
copy-requires c =
    let d = c.decimal-k in
    number_room c.args.at c.args.out.now d.new.out d.result c.requires
    (fewest_most c.args.n d.result (omega arith) d.ensures.len) d.ensures.in_bounds.0

pub returns : goal.returns
returns c =
    let d = c.decimal-k in
    let p = c.copy in
    number-written c.args.at c.args.out.now d.new.out d.result c.requires
    (fewest_most c.args.n d.result (omega arith) d.ensures.len) d.ensures.in_bounds.0
    c.args.n d.ensures.len d.ensures.digits p.result p.new.out p.ensures
