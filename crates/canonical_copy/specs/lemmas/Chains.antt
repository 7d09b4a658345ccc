-- The nodes but 0 with each smallest rank, chained in order.
-- Assumes nothing.
use Rattle.std.specs.Prelude.{◌≡◌, refl, ◌≢◌, List, ℕ, suc, ◌-◌, ◌≤◌, ◌<◌, length, set}
use Rattle.std.proofs.Common.{sym, ◌∙◌, ap, subst, arith, length-set, get_or-set_same, get_or-set_other}
use Rattle.std.proofs.Math.Decide.{ℕ_discrete}
use Rattle.table_words.specs.Sizes.{node_room}
use Rattle.tree_check.specs.Table.{word}

-- w is the first node from i on, below m, with the smallest rank x; it is m where there is none
pub record IsNext (low : ℕ → ℕ) (m i x w : ℕ) : Type 0 where
  pub after : i ≤ w
  pub most : w ≤ m
  pub none : (v : ℕ) → i ≤ v → v < w → low v ≢ x
  pub is : w < m → low w ≡ x

-- what the loop begins with
pub record Chainable (lows : List ℕ) (m : ℕ) (heads nexts : List ℕ) : Type 0 where
  pub some : 1 ≤ m
  pub few : m ≤ node_room
  pub lows_few : (v : ℕ) → v < m → word lows v < node_room
  pub heads_long : length heads ≡ node_room
  pub nexts_long : length nexts ≡ node_room
  pub heads_none : (x : ℕ) → x < node_room → word heads x ≡ m

-- the nodes from i on are chained
pub record ChainsAre (lows : List ℕ) (m i : ℕ) (heads nexts : List ℕ) : Type 0 where
  pub heads_long : length heads ≡ node_room
  pub nexts_long : length nexts ≡ node_room
  pub heads_are : (x : ℕ) → x < node_room → IsNext (word lows) m i x (word heads x)
  pub nexts_are : (v : ℕ) → i ≤ v → v < m → IsNext (word lows) m (suc v) (word lows v) (word nexts v)

pub chains_none : (lows : List ℕ) (m : ℕ) (heads nexts : List ℕ) → Chainable lows m heads nexts → ChainsAre lows m m heads nexts
chains_none lows m heads nexts y = record {
  heads_long = y.heads_long;
  nexts_long = y.nexts_long;
  heads_are = λ x l. rw (y.heads_none x l) (record {
    after = omega arith;
    most = omega arith;
    none = λ v a b. absurd (omega arith);
    is = λ q. absurd (omega arith);
  });
  nexts_are = λ v a b. absurd (omega arith);
}

-- node v comes in front of its chain
module _ (lows : List ℕ) (m v : ℕ) (heads nexts : List ℕ) (lv : v < m) (few : m ≤ node_room) (lx : word lows v < node_room)
    (s : ChainsAre lows m (suc v) heads nexts) where
  chain_next : (z : ℕ) → z ≡ v
      → ChainsAre lows m v (set heads (word lows v) z) (set nexts v (word heads (word lows v)))
  chain_next z ez = record {
    heads_long = length-set heads (word lows v) z ∙ s.heads_long;
    nexts_long = length-set nexts v (word heads (word lows v)) ∙ s.nexts_long;
    heads_are = λ y ly. elim (ℕ_discrete y (word lows v)) [
      | yes e ↦ rw (e, get_or-set_same heads (word lows v) z 0 (omega (arith, s.heads_long)), ez) (record {
        after = omega arith;
        most = omega arith;
        none = λ u a b. absurd (omega arith);
        is = λ q. refl;
      })
      | no d ↦ rw (get_or-set_other heads (word lows v) y z 0 d) (later y d (s.heads_are y ly))
    ];
    nexts_are = λ u a b. elim (ℕ_discrete u v) [
      | yes e ↦ rw (e, get_or-set_same nexts v (word heads (word lows v)) 0 (omega (arith, s.nexts_long))) (s.heads_are (word lows v) lx)
      | no d ↦ rw (get_or-set_other nexts v u (word heads (word lows v)) 0 d) (s.nexts_are u (omega arith) b)
    ];
  }
    where
      later : (y : ℕ) → y ≢ word lows v → IsNext (word lows) m (suc v) y (word heads y) → IsNext (word lows) m v y (word heads y)
      later y d q = record {
        after = omega (arith, q.after);
        most = q.most;
        none = λ u a b. elim (ℕ_discrete u v) [
          | yes e ↦ (λ w. d (sym w ∙ ap (word lows) e))
          | no f ↦ q.none u (omega arith) b
        ];
        is = q.is;
      }

-- as the loop has it: v is one past the node that comes next
pub chains_step : (lows : List ℕ) (m v : ℕ) (heads nexts old old' : List ℕ) → Chainable lows m old old' → 1 < v → v ≤ m
    → ChainsAre lows m v heads nexts → (x z : ℕ) → x ≡ word lows (v - 1) → z ≡ v - 1
    → ChainsAre lows m (v - 1) (set heads x z) (set nexts (v - 1) (word heads x))
chains_step lows m v heads nexts old old' y more last s x z ex ez =
    let e : v ≡ suc (v - 1) = omega arith in
    rw ex (chain_next lows m (v - 1) heads nexts (omega arith) y.few (y.lows_few (v - 1) (omega arith))
    (subst (λ (i : ℕ). ChainsAre lows m i heads nexts) e s) z ez)
