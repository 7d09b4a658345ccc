-- How often each number stands among the first words of a list, as an array of `node_room` counts tells it.
-- Assumes nothing.
use Rattle.std.specs.Prelude.{◌≡◌, Bool, ◌&&◌, List, [], ◌∷◌, ℕ, suc, ◌+◌, ◌≤◌, ◌<◌, leb, length, replicate, set}
use Rattle.std.proofs.Math.Path.{refl}
use Rattle.std.proofs.Common.{sym, ◌∙◌, ap, subst, add-one, arith, le-leb, length-set, get_or-set_same, get_or-set_other}
use Rattle.std.proofs.Math.Decide.{ℕ_discrete}
use Rattle.std.proofs.Math.Dec.{eqb}
use Rattle.std.proofs.lemmas.List.{get_or-replicate, length-replicate}
use Rattle.table_words.specs.Sizes.{node_room}
use Rattle.sums.specs.Sum.{sum}
use Rattle.sums.specs.theorems.SumLaws.{sum-suc, sum_first, sum_cong}
use Rattle.sums.specs.Bits.{bit, is}
use Rattle.sums.specs.theorems.BitLaws.{is_self, is_other_lem}
use Rattle.sums.specs.theorems.CountLaws.{count-le}
use Rattle.tree_check.specs.Table.{word}
use Rattle.tree_check.specs.lemmas.TableParts.{rest, rest-drop}
use Rattle.tree_check.specs.TreeOrder.{standing, is_child, children}

-- a node's children are the nodes from 1 on that name it
children-standing : (p : ℕ) (ps : List ℕ) (i : ℕ)
    → children (suc (length ps)) (word (p ∷ ps)) i ≡ standing (length ps) (word ps) i
unfolding children standing is_child
children-standing p ps i =
    sum_first (length ps) (λ j. bit (leb 1 j && eqb (word (p ∷ ps) j) i))
    ∙ omega (arith, sum_cong (length ps) later, first)
  where
    first : bit (leb 1 0 && eqb p i) ≡ 0
    first = unfold bit in refl

    later : (j : ℕ) → bit (leb 1 (suc j) && eqb (word ps j) i) ≡ is (word ps j) i
    later j = ap (λ (b : Bool). bit (b && eqb (word ps j) i)) (le-leb 1 (suc j) (omega arith))

-- each number below `node_room` with its count among the first k words
pub record Tallied (ws : List ℕ) (k : ℕ) (counts : List ℕ) : Type 0 where
  pub long : length counts ≡ node_room
  pub cells : (x : ℕ) → x < node_room → word counts x ≡ standing k (word ws) x

pub tallied_none : (ws : List ℕ) → Tallied ws 0 (replicate node_room 0)
unfolding standing sum
tallied_none ws = record { long = length-replicate {A = ℕ} node_room 0; cells = λ x l. get_or-replicate node_room x 0 0 l }

standing-suc : (k : ℕ) (lab : ℕ → ℕ) (x : ℕ) → standing (k + 1) lab x ≡ standing k lab x + is (lab k) x
unfolding standing
standing-suc k lab x = rw (add-one k) (sum-suc k _)

module _ (ws : List ℕ) (k : ℕ) (counts : List ℕ) (h : Tallied ws k counts) where
  -- a count is at most the number of words counted
  pub tallied-le : (x : ℕ) → x < node_room → word counts x ≤ k
  unfolding standing
  tallied-le x l = omega (arith, h.cells x l, count-le k (λ i. eqb (word ws i) x))

  -- one more word, with a count of its own
  pub tallied_hit : (w : ℕ) → w ≡ word ws k → w < node_room → Tallied ws (k + 1) (set counts w (word counts w + 1))
  tallied_hit w e l = record {
    long = length-set counts w (word counts w + 1) ∙ h.long;
    cells = λ x m. elim (ℕ_discrete x w) [
      | yes d ↦ rw d (
          get_or-set_same counts w (word counts w + 1) 0 (omega (arith, h.long))
          ∙ omega (arith, h.cells w l, standing-suc k (word ws) w, ap (λ (y : ℕ). is y w) e, is_self w))
      | no d ↦ get_or-set_other counts w x (word counts w + 1) 0 d
          ∙ omega (arith, h.cells x m, standing-suc k (word ws) x, is_other_lem (word ws k) x (λ q. d (sym q ∙ sym e)))
    ];
  }

  -- one more word, too large to be counted
  pub tallied_skip : node_room ≤ word ws k → Tallied ws (k + 1) counts
  tallied_skip l = record {
    long = h.long;
    cells = λ x m. omega (arith, h.cells x m, standing-suc k (word ws) x, is_other_lem (word ws k) x (λ q. omega arith));
  }

-- the counts of the parent words from node 1 on are the numbers of children
pub tallied-children : (ps counts : List ℕ) (i : ℕ) → 1 ≤ length ps
    → Tallied (rest 1 ps) (length (rest 1 ps)) counts → i < node_room
    → children (length ps) (word ps) i ≡ word counts i
tallied-children [] counts i l h m = absurd (omega arith)
tallied-children (p ∷ ps) counts i l h m =
    let q = subst (λ (w : List ℕ). Tallied w (length w) counts) (rest-drop 1 (p ∷ ps)) h in
    children-standing p ps i ∙ sym (q.cells i m)
