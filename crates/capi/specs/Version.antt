-- The version number of the release, as the newest heading of CHANGELOG.md has it.
-- Assumes nothing.
use Rattle.std.specs.Prelude.{ℕ, ◌+◌, ◌*◌}

abbrev pub major : ℕ
major = 0

abbrev pub minor : ℕ
minor = 15

abbrev pub patch : ℕ
patch = 0

-- the three as one number, so that a later release has a greater one
abbrev pub version : ℕ
version = major * 1000000 + minor * 1000 + patch
