-- The starts of a tree's codes as the list of its inner nodes takes them: the cells that are written.
-- Assumes nothing.
use Rattle.std.specs.Prelude.{◌≡◌, List, ℕ, suc, ◌+◌, ◌-◌, ◌≤◌, ◌<◌, length, take}
use Rattle.std.proofs.Common.{arith, get_or-take, length-take-le}
use Rattle.table_words.specs.lemmas.Rooms.{start_room}
use Rattle.tree_check.specs.Table.{word}
use Rattle.code_lists.specs.ListedCodes.{degree_at, inner_count, nodes_seen, inner_cell}
use Rattle.code_lists.specs.lemmas.CodesAt.{Parents, CodeStarts, starts_suc}
use Rattle.code_lists.specs.lemmas.InnerNodes.{InnerNodes, inner_nodes}

-- `&starts[..m + 1]`, for m nodes
abbrev pub lent_starts : List ℕ → List ℕ → List ℕ
lent_starts ps starts = take (length ps + 1) starts

module _ (ps starts : List ℕ) (p : Parents ps) (s : CodeStarts ps starts) where
  pub lent_length : length (lent_starts ps starts) ≡ length ps + 1
  lent_length = length-take-le (length ps + 1) starts (omega (arith, s.long, p.few))

  lent_start : (v : ℕ) → v ≤ length ps → word (lent_starts ps starts) v ≡ word starts v
  lent_start v l = get_or-take (length ps + 1) starts v 0 (omega arith)

  codes : (v : ℕ) → v < length ps
      → word (lent_starts ps starts) (suc v) - word (lent_starts ps starts) v ≡ degree_at ps v
  codes v l = omega (
    arith,
    lent_start v (omega arith),
    lent_start (suc v) l,
    s.at v (omega arith),
    s.at (suc v) l,
    starts_suc ps v,
  )

  -- the nodes that the list has
  pub lent_inner : (old list : List ℕ) (count : ℕ) → start_room ≤ length old
      → count ≡ inner_count (lent_starts ps starts) (nodes_seen (lent_starts ps starts) old)
      → ((i : ℕ) → word list i ≡ inner_cell (lent_starts ps starts) old i)
      → InnerNodes ps list count (length ps)
  lent_inner old list count room many cells =
      inner_nodes ps (lent_starts ps starts) old list count lent_length (omega (arith, lent_length, p.few)) codes many cells
