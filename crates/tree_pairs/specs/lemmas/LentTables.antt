-- Two tables filled through their arrays, as code lends them.
-- Assumes nothing.
use Rattle.std.specs.Prelude.{List, ℕ, ◌+◌, ◌-◌, take, drop}
use Rattle.tree_check.specs.Table.{Table, parents}

-- the parents `&t[2..2 + m]`
abbrev pub lent_parents : Table → ℕ → List ℕ
lent_parents t m = take (2 + m - 2) (drop 2 t)
