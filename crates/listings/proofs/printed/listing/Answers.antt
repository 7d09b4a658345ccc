-- The listing is formed in 512 bytes, and copied if it fits.
-- Assumes nothing.
use mathlib.Core.Path.{sym}
use native.Mathlib.Omega.{arith}
use lib.Seq.{length-take-le}
use Rattle.listings.specs.lemmas.ListingSteps.{listing_fits, listing_short, listing_counts}
use Rattle.listings.proofs.printed.listing.Goals as goal

-- ---- the needs

pub slice_bounds-copy-end : goal.slice_bounds-copy-end
slice_bounds-copy-end c =
    let p = c.put_listing-n in
    sym (length-take-le p.result p.new.out (omega arith))

pub copy-requires : goal.copy-requires
copy-requires c =
    let p = c.put_listing-n in
    omega (arith, length-take-le p.result p.new.out (omega arith))

pub returns-then-n-out : goal.returns-then-n-out
returns-then-n-out c =
    let q = c.copy in
    let p = c.put_listing-n in
    let h = listing_fits c.args.figures c.args.out.now _ p.result p.new.out p.ensures.0
    (omega arith) (omega arith) q.result q.new.out q.ensures.0 q.ensures.1 in
    record { listed = h; fits = listing_counts c.args.figures c.args.out.now q.result q.new.out h.0 h.1 }

pub returns : goal.returns
returns c =
    let p = c.put_listing-n in
    let old = c.args.out.now in
    let h = listing_short c.args.figures old _ p.result p.new.out p.ensures.0
    (omega arith) (omega arith) in
    record { listed = h; fits = listing_counts c.args.figures old 0 old h.0 h.1 }
