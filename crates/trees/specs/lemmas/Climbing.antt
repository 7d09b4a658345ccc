-- The centre of three nodes, as they climb to it: the largest of the three to its parent, until two have met.
-- Assumes nothing.
use Rattle.std.specs.Prelude.{◌≡◌, List, ℕ, ◌+◌, ◌-◌, ◌≤◌, ◌<◌, length}
use Rattle.std.proofs.Common.{arith}
use Rattle.table_words.specs.Sizes.{node_room}
use Rattle.shapes.specs.theorems.AncestorLaws.{Rooted}
use Rattle.shapes.proofs.theorems.AncestorLaws.{parent-lt}
use Rattle.shapes.specs.Centres.{centre_of}
use Rattle.shapes.proofs.theorems.OneCentre.{joined_ab, joined_ac, joined_bc, climb_first, climb_second, climb_third}
use Rattle.tree_check.specs.Table.{word}

-- three nodes of a rooted tree with the parents ps
pub record Climbable (ps : List ℕ) (a b c : ℕ) : Type 0 where
  pub tree : Rooted (word ps)
  pub few : length ps ≤ node_room
  pub la : a < length ps
  pub lb : b < length ps
  pub lc : c < length ps

-- the centre of three nodes of a tree with the parents ps
abbrev pub join_of : List ℕ → ℕ → ℕ → ℕ → ℕ
join_of ps a b c = centre_of (word ps) (length ps - 1) a b c

-- x, y and z are nodes with the centre of a, b and c, and a smaller sum
pub record Climbed (ps : List ℕ) (x y z a b c : ℕ) : Type 0 where
  pub less : x + y + z < a + b + c
  pub three : Climbable ps x y z
  pub same : join_of ps x y z ≡ join_of ps a b c

module _ (ps : List ℕ) (a b c : ℕ) (h : Climbable ps a b c) where
  last_a : a ≤ length ps - 1
  last_a = omega (arith, h.la)

  last_b : b ≤ length ps - 1
  last_b = omega (arith, h.lb)

  last_c : c ≤ length ps - 1
  last_c = omega (arith, h.lc)

  -- the largest of the three climbs to its parent, p

  pub first_climbs : (p : ℕ) → p ≡ word ps a → b < a → c < a → Climbed ps p b c a b c
  first_climbs p e ba ca =
      let l = parent-lt (word ps) h.tree a (omega arith) in
      let s = climb_first (word ps) h.tree (length ps - 1) a b c last_a last_b last_c ba ca in
      record {
        less = omega arith;
        three = record { tree = h.tree; few = h.few; la = omega (arith, h.la); lb = h.lb; lc = h.lc };
        same = rw e s;
      }

  pub second_climbs : (p : ℕ) → p ≡ word ps b → a < b → c < b → Climbed ps a p c a b c
  second_climbs p e ab cb =
      let l = parent-lt (word ps) h.tree b (omega arith) in
      let s = climb_second (word ps) h.tree (length ps - 1) a b c last_a last_b last_c ab cb in
      record {
        less = omega arith;
        three = record { tree = h.tree; few = h.few; la = h.la; lb = omega (arith, h.lb); lc = h.lc };
        same = rw e s;
      }

  pub third_climbs : (p : ℕ) → p ≡ word ps c → a < c → b < c → Climbed ps a b p a b c
  third_climbs p e ac bc =
      let l = parent-lt (word ps) h.tree c (omega arith) in
      let s = climb_third (word ps) h.tree (length ps - 1) a b c last_a last_b last_c ac bc in
      record {
        less = omega arith;
        three = record { tree = h.tree; few = h.few; la = h.la; lb = h.lb; lc = omega (arith, h.lc) };
        same = rw e s;
      }

  -- two of the three have met

  pub first_second_met : a ≡ b → join_of ps a b c ≡ a
  first_second_met = joined_ab (word ps) h.tree (length ps - 1) a b c last_a last_b last_c

  pub first_third_met : a ≡ c → join_of ps a b c ≡ a
  first_third_met = joined_ac (word ps) h.tree (length ps - 1) a b c last_a last_b last_c

  pub second_third_met : b ≡ c → join_of ps a b c ≡ b
  second_third_met = joined_bc (word ps) h.tree (length ps - 1) a b c last_a last_b last_c
