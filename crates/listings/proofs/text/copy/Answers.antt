-- What is known where the search needs a hint.
-- Assumes nothing.
use Prim.Native.Nat.{◌+◌, ◌-◌}
use mathlib.Core.Path.{◌≡◌, refl}
use native.Mathlib.Omega.{arith}
use lib.ListN.{length}
use Rattle.std.proofs.lemmas.List.{drop-drop}
use Rattle.listings.specs.lemmas.Written.{text_written}
use Rattle.listings.proofs.text.copy.Goals as goal

pub returns : goal.returns
unfolding text_written
returns c =
    let e : c.args.at + (c.args.at + length c.args.bytes.now - c.args.at) ≡ c.args.at + length c.args.bytes.now = omega arith in
    (refl, rw (c.copy_from_slice.ensures.after, drop-drop, e) refl)
