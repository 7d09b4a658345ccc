-- What is known where the search needs a hint.
-- Assumes nothing.
use mathlib.Core.Path.{◌≡◌}
use lib.ListN.{length, take, replicate}
use Rattle.std.proofs.lemmas.List.{length-take-le}
use Rattle.claims.specs.lemmas.Filled.{filled_same}
use Rattle.claims.proofs.dots.clear.Goals as goal

pub returns : goal.returns
returns c =
    let d = c.args.dots.now in
    let n = c.args.lines in
    let e : c.fill.new.self ≡ replicate (length (take n d)) 0 = c.fill.ensures.after (λ y h. h) in
    rw (e, length-take-le n d c.requires) (filled_same 0 n d c.requires)
