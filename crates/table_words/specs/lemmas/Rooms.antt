-- How long the arrays are that code makes for itself.
-- Assumes nothing.
use Rattle.std.specs.Prelude.{ℕ}

-- how many cells are enough for each two nodes: `node_room` · `node_room`
abbrev pub work_room : ℕ
work_room = 1048576

-- how long an array is that has a cell for where the directed edges into each node begin, and one for their end
abbrev pub start_room : ℕ
start_room = 1025

-- how long an array is that has a cell for each directed edge
abbrev pub code_room : ℕ
code_room = 2048
