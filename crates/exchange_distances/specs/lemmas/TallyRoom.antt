-- What a row of pairs needs: no difference below 0, and no tally past the tenth.
-- Assumes nothing.
use Rattle.std.specs.Prelude.{◌≡◌, List, ℕ, ◌*◌, ◌-◌, ◌/◌, ◌≤◌, ◌<◌, length}
use Rattle.std.proofs.Common.{ap, arith}
use Rattle.table_words.specs.Sizes.{node_room, tips_most}
use Rattle.tree_check.specs.Table.{word}
use Rattle.exchanges.specs.theorems.Walk.{whole_cost}
use Rattle.exchange_distances.specs.lemmas.Powers.{square_le, cube_le}
use Rattle.exchange_distances.specs.lemmas.TallyLoops.{falls_at}

pub record TallyRowRoom (y w sets : ℕ) (nodes costs tallies : List ℕ) : Type 0 where
  pub row : y < tips_most
  pub few : w ≤ 33751040
  pub some : 1 ≤ sets
  pub node : (x : ℕ) → x < y → word nodes x < node_room
  pub least : (x : ℕ) → x < y → word costs (word nodes x) ≤ w
  pub falls : (x : ℕ) → x < y → falls_at w sets nodes costs x < 11
  pub long : length tallies ≡ 11
  pub small : (i : ℕ) → i < 11 → word tallies i ≤ 65536

pub whole_le : (n : ℕ) → n ≤ 256 → whole_cost n ≤ 33751040
unfolding whole_cost
whole_le n l = omega (arith, square_le (n - 2) (omega arith), cube_le (n - 2) (omega arith))

-- at the node p of a label
module _ (y w sets : ℕ) (nodes costs tallies : List ℕ) (r : TallyRowRoom y w sets nodes costs tallies) (x p : ℕ) (l : x < y)
    (e : p ≡ word nodes x) where
  pub node_room_lem : p < node_room
  node_room_lem = omega (arith, r.node x l)

  pub path_room : word costs p ≤ w
  path_room = rw e (r.least x l)

  pub falls_here : 10 * ((w - word costs p) / 6) / sets ≡ falls_at w sets nodes costs x
  falls_here = ap (λ (z : ℕ). 10 * ((w - word costs z) / 6) / sets) e

  pub falls_room : 10 * ((w - word costs p) / 6) / sets < 11
  falls_room = rw falls_here (r.falls x l)
