-- What a test of four nodes says in ordinary mathematics; at most one pairing of four is parted.
-- Assumes nothing.
use Rattle.std.specs.Prelude.{Bool, true, false}

-- at most one of three
pub data AtMostOne : Bool → Bool → Bool → Type 0 where
  none : AtMostOne false false false
  first : AtMostOne true false false
  second : AtMostOne false true false
  third : AtMostOne false false true
