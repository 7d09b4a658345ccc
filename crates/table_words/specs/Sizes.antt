-- The sizes of tables and cells.
-- Assumes nothing.
use Rattle.std.specs.Prelude.{ℕ}

-- the most tips of a tree
abbrev pub tips_most : ℕ
tips_most = 256

-- the most nodes of a tree
abbrev pub nodes_most : ℕ
nodes_most = 1024

-- the label of an inner node
abbrev pub inner_label : ℕ
inner_label = 65535

-- the most that a cell of the work holds
abbrev pub cell_most : ℕ
cell_most = 255

-- how long an array is that has a cell for each node, or for each label
abbrev pub node_room : ℕ
node_room = 1024
