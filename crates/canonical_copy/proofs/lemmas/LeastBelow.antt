-- The smallest of what stands at a node or below, gathered from the last node on.
-- Assumes nothing.
use Rattle.std.specs.Prelude.{◌≡◌, refl, ◌⊎◌, ◌≢◌, List, ℕ, suc, ◌-◌, ◌≤◌, ◌<◌, length, set}
use Rattle.std.proofs.Common.{sym, ◌∙◌, ap, subst, inl, inr, arith, length-set, get_or-set_same, get_or-set_other}
use Rattle.std.proofs.Math.Decide.{ℕ_discrete}
use Rattle.table_words.specs.Sizes.{node_room}
use Rattle.sums.specs.Bits.{bit}
use Rattle.shapes.specs.Ancestors.{anc}
use Rattle.shapes.specs.theorems.AncestorLaws.{Rooted}
use Rattle.shapes.proofs.theorems.AncestorLaws.{anc-le, anc_self, anc_down, anc_trans}
use Rattle.shapes.proofs.theorems.PathLaws.{towards}
use Rattle.tree_check.specs.Table.{word}
use Rattle.canonical_copy.specs.lemmas.Parents.{ParentsBefore}
use Rattle.canonical_copy.proofs.lemmas.Parents.{parent_room}
use Rattle.canonical_copy.specs.lemmas.LeastBelow.{LeastBelow}

module _ (ps : List ℕ) where
  -- w is v, or at or below one of its children from i on
  pub data SeenFrom (i v w : ℕ) : Type 0 where
    here : w ≡ v → SeenFrom i v w
    child : (c : ℕ) → i ≤ c → 1 ≤ c → word ps c ≡ v → bit (anc (word ps) c w) ≡ 1 → SeenFrom i v w

  -- z stands at v or below, and nothing smaller at a node that is seen
  pub record Least (before : List ℕ) (i v z : ℕ) : Type 0 where
    pub at : ℕ
    pub node : at < length ps
    pub below : bit (anc (word ps) v at) ≡ 1
    pub stands : z ≡ word before at
    pub least : (w : ℕ) → w < length ps → SeenFrom i v w → z ≤ word before w

-- the nodes from i on are gathered into their parents
pub record Gathered (ps before : List ℕ) (i : ℕ) (after : List ℕ) : Type 0 where
  pub long : length after ≡ length before
  pub least_is : (v : ℕ) → v < length ps → Least ps before i v (word after v)

module _ (ps before : List ℕ) (y : ParentsBefore ps) where
  abbrev up : ℕ → ℕ
  up = word ps

  abbrev r : Rooted (word ps)
  r = y.rooted

  pub gathered_none : (i : ℕ) → length ps ≤ i → Gathered ps before i before
  gathered_none i last = record {
    long = refl;
    least_is = λ v l. record {
      at = v;
      node = l;
      below = anc_self up r v;
      stands = refl;
      least = λ w lw s. own v l w lw s;
    };
  }
    where
      own : (v : ℕ) → v < length ps → (w : ℕ) → w < length ps → SeenFrom ps i v w → word before v ≤ word before w
      own v l w lw (here e) = omega (arith, ap (word before) e)
      own v l w lw (child c lc p e a) = absurd (omega (arith, last, lc, lw, anc-le up r c w a))

  -- all at or below v is seen once its children are passed
  all_seen : (i v w : ℕ) → i ≤ suc v → w < length ps → bit (anc up v w) ≡ 1 → SeenFrom ps i v w
  all_seen i v w li lw a = elim (ℕ_discrete v w) [
    | yes e ↦ here (sym e)
    | no d ↦ (
        let s = towards up r (length ps - 1) v w (omega arith) d a in
        child (suc s.0) (omega (arith, s.2, r.falls s.0)) (omega arith) s.2 s.3)
  ]

  pub gathered_all : (i : ℕ) (after : List ℕ) → i ≤ 1 → Gathered ps before i after → LeastBelow ps before after
  gathered_all i after l s = record {
    stands = λ v lv. let q = s.least_is v lv in (q.at, q.node, q.below, q.stands);
    least = λ v w lv lw a. (s.least_is v lv).least w lw (all_seen i v w (omega arith) lw a);
  }

  -- node c is gathered into its parent
  module _ (c : ℕ) (after : List ℕ) (pc : 1 ≤ c) (lc : c < length ps) (s : Gathered ps before (suc c) after) where
    lp : word ps c < length ps
    lp = omega (arith, parent_room ps y c pc lc)

    -- what is seen from c on is seen after c, or below c
    more : (v w : ℕ) → SeenFrom ps c v w → SeenFrom ps (suc c) v w ⊎ ((word ps c ≡ v) × (bit (anc up c w) ≡ 1))
    more v w (here e) = inl (here e)
    more v w (child d i p e a) = elim (ℕ_discrete d c) [
      | yes q ↦ inr (ap up (sym q) ∙ e, subst (λ (u : ℕ). bit (anc up u w) ≡ 1) q a)
      | no q ↦ inl (child d (omega arith) p e a)
    ]

    own : Least ps before (suc c) c (word after c)
    own = s.least_is c lc

    own_least : (w : ℕ) → w < length ps → bit (anc up c w) ≡ 1 → word after c ≤ word before w
    own_least w l a = own.least w l (all_seen (suc c) c w (omega arith) l a)

    above : Least ps before (suc c) (word ps c) (word after (word ps c))
    above = s.least_is (word ps c) lp

    other : (v z : ℕ) → v ≢ word ps c → Least ps before (suc c) v z → Least ps before c v z
    other v z d a = record {
      at = a.at;
      node = a.node;
      below = a.below;
      stands = a.stands;
      least = λ w l q. elim (more v w q) [ inl o ↦ a.least w l o | inr o ↦ absurd (d (sym o.0)) ];
    }

    -- the parent's is no larger: it stays
    gather_skip : word after (word ps c) ≤ word after c → Gathered ps before c after
    gather_skip l = record {
      long = s.long;
      least_is = λ v lv. elim (ℕ_discrete v (word ps c)) [
        | no d ↦ other v (word after v) d (s.least_is v lv)
        | yes e ↦ rw e (record {
          at = above.at;
          node = above.node;
          below = above.below;
          stands = above.stands;
          least = λ w lw q. elim (more (word ps c) w q) [
            | inl o ↦ above.least w lw o
            | inr o ↦ omega (arith, own_least w lw o.1)
          ];
        })
      ];
    }

    -- it is larger: it is replaced
    gather_take : node_room ≤ length before → word after c < word after (word ps c)
        → Gathered ps before c (set after (word ps c) (word after c))
    gather_take room l = record {
      long = length-set after (word ps c) (word after c) ∙ s.long;
      least_is = λ v lv. elim (ℕ_discrete v (word ps c)) [
        | no d ↦ rw (get_or-set_other after (word ps c) v (word after c) 0 d) (other v (word after v) d (s.least_is v lv))
        | yes e ↦ rw (e, get_or-set_same after (word ps c) (word after c) 0 (omega (arith, s.long, room, parent_room ps y c pc lc))) (record {
          at = own.at;
          node = own.node;
          below = anc_trans up r (word ps c) c own.at (anc_down up r (word ps c) c pc (anc_self up r (word ps c))) own.below;
          stands = own.stands;
          least = λ w lw q. elim (more (word ps c) w q) [
            | inl o ↦ omega (arith, above.least w lw o)
            | inr o ↦ own_least w lw o.1
          ];
        })
      ];
    }

  -- ---- as the loop has it: c is one past the node that is gathered next

  module _ (c : ℕ) (after : List ℕ) (more : 1 < c) (few : c ≤ length ps) (s : Gathered ps before c after) where
    next : Gathered ps before (suc (c - 1)) after
    next = let e : c ≡ suc (c - 1) = omega arith in subst (λ (i : ℕ). Gathered ps before i after) e s

    pub lows_take : (p : ℕ) → p ≡ word ps (c - 1) → node_room ≤ length before → word after (c - 1) < word after p
        → Gathered ps before (c - 1) (set after p (word after (c - 1)))
    lows_take p e = rw e (gather_take (c - 1) after (omega arith) (omega arith) next)

    pub lows_skip : (p : ℕ) → p ≡ word ps (c - 1) → word after p ≤ word after (c - 1) → Gathered ps before (c - 1) after
    lows_skip p e = rw e (gather_skip (c - 1) after (omega arith) (omega arith) next)
