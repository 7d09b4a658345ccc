-- Positions in the walk from the top down: how far a node's labels have got as its children are passed.
-- Assumes nothing.
use Rattle.std.specs.Prelude.{◌≡◌, ℕ, zero, suc, ◌+◌, ◌*◌, ◌<◌, ◌≤◌, Bool, true, false, T, ◌≢◌, List, [], ◌∷◌, ◌++◌, length, drop, nat_eq, nat_lt}
use Rattle.std.proofs.Math.Path.{refl, sym, ap}
use Rattle.std.proofs.Common.{◌∙◌, inl, inr, eq-or-lt_of_le, le_of_suc-le-suc, get_or-take, get_or-drop}
use Rattle.std.proofs.Math.Nat.{add-zero, zero-mul}
use native.Mathlib.Omega.{arith}
use Rattle.sums.specs.Sum.{sum}
use Rattle.sums.specs.theorems.SumLaws.{sum-suc, sum_none}
use Rattle.sums.specs.Bits.{bit}
use Rattle.sums.specs.theorems.BitLaws.{bit-T, bit_no}
use Rattle.sums.specs.theorems.CountLaws.{count_once}
use Rattle.sums.specs.theorems.TestLaws.{eq_iff, lt_iff}
use Rattle.tree_check.specs.Table.{Table, word, tips, nodes, parent, label, node_of}
use Rattle.tree_check.specs.IsTree.{IsTree}
use Rattle.tree_check.specs.TreeOrder.{is_child, standing}
use Rattle.tree_check.specs.theorems.TreeCheck.{child_iff}
use Rattle.walks.specs.Walk.{own, walk, below, start, part}
use Rattle.walks.specs.theorems.NodeLabels.{node_at}
use Rattle.walks.specs.theorems.Weights.{only_if}
use Rattle.walks.specs.theorems.WalkFrom.{own_length, child_lt, child_parent, walk_from_step, below_children}
use Rattle.walks.specs.theorems.WalkLaws.{start-suc, walk_once, walk-labels, part-walk, part_fits}

-- where node v's labels have got to once the children below c have been passed
unfoldable pub reach : Table → ℕ → ℕ → ℕ
reach t c v = start t v + length (own t v) + sum c (λ d. bit (is_child (parent t) v d) * below t d)

-- a sum of fewer terms is no larger
sum_fewer : (f : ℕ → ℕ) (c m : ℕ) → c ≤ m → sum c f ≤ sum m f
unfolding sum
sum_fewer f c zero l = let e : c ≡ 0 = omega arith in rw e (omega arith)
sum_fewer f c (suc m) l = elim (eq-or-lt_of_le l) [
  | inl e ↦ rw e (omega arith)
  | inr h ↦ omega (arith, sum_fewer f c m (le_of_suc-le-suc h))
]

module _ (t : Table) (g : IsTree t) where
  pub reach-start : (w : ℕ) → start t (suc w) ≡ reach t (suc w) (parent t (suc w))
  unfolding reach
  reach-start w = start-suc t g w

  pub reach_new : (c : ℕ) → c < nodes t → reach t (suc c) c ≡ start t c + length (own t c)
  unfolding reach
  reach_new c l =
      ap (λ (x : ℕ). start t c + length (own t c) + x) (sum_none (suc c) _ (λ d h.
      ap (λ (x : ℕ). x * below t d) (later d h) ∙ zero-mul (below t d)))
      ∙ add-zero (start t c + length (own t c))
    where
      later : (d : ℕ) → d < suc c → bit (is_child (parent t) c d) ≡ 0
      later d h = bit_no (is_child (parent t) c d) (λ k. omega (arith, child_lt t g c d (omega arith) k))

  pub reach_hit : (w : ℕ) → suc w < nodes t
      → reach t (suc (suc w)) (parent t (suc w)) ≡ reach t (suc w) (parent t (suc w)) + below t (suc w)
  unfolding reach
  reach_hit w l = omega (
    arith,
    sum-suc (suc w) (λ d. bit (is_child (parent t) (parent t (suc w)) d) * below t d),
    ap (λ (x : ℕ). x * below t (suc w))
        (bit-T (is_child (parent t) (parent t (suc w)) (suc w)) (child_parent t g w l)),
  )

  pub reach_other : (c v : ℕ) → c < nodes t → v ≢ parent t c → reach t (suc c) v ≡ reach t c v
  unfolding reach
  reach_other c v l n = omega (
    arith,
    sum-suc c (λ d. bit (is_child (parent t) v d) * below t d),
    ap (λ (x : ℕ). x * below t c)
        (bit_no (is_child (parent t) v c) (λ h. n (sym ((child_iff t v c l).0 h).below))),
  )

  pub reach_end : (v : ℕ) → v < nodes t → reach t (nodes t) v ≡ start t v + below t v
  unfolding reach
  reach_end v l = omega (arith, below_children t g v l)

  pub reach-le : (c v : ℕ) → c ≤ nodes t → v < nodes t → reach t c v ≤ tips t
  unfolding reach
  reach-le c v h l = omega (
    arith,
    reach_end v l,
    part_fits t g v l,
    sum_fewer (λ d. bit (is_child (parent t) v d) * below t d) c (nodes t) h,
  )

  -- ---- where the tips stand

  own_first : (v : ℕ) → T (nat_lt (label t v) (tips t)) → (w : List ℕ) → word (own t v ++ w) 0 ≡ label t v
  unfolding own
  own_first v y w = go (nat_lt (label t v) (tips t)) y
    where
      go : (b : Bool) → T b → word (only_if b (label t v ∷ []) ++ w) 0 ≡ label t v
      go true z = refl
      go false z = absurd z

  -- a tip's label stands where its node starts, ..
  pub walk_at : (v : ℕ) → v < nodes t → label t v < tips t
      → (start t v < tips t) × (word (walk t) (start t v) ≡ label t v)
  unfolding part
  walk_at v l h =
      let y = (lt_iff (label t v) (tips t)).1 h in
      let b : 0 < below t v = omega (
        arith,
        below_children t g v l,
        own_length t v,
        bit-T (nat_lt (label t v) (tips t)) y,
      ) in (
        omega (arith, part_fits t g v l),
        ap (word (walk t)) (sym (add-zero (start t v)))
            ∙ sym (get_or-drop (start t v) (walk t) 0 0)
            ∙ sym (get_or-take (below t v) (drop (start t v) (walk t)) 0 0 b)
            ∙ ap (λ (w : List ℕ). word w 0) (part-walk t g v l ∙ walk_from_step t g v l)
            ∙ own_first v y _,
      )

  -- .. and every cell of the walk is some tip's
  pub start_onto : (j : ℕ) → j < tips t → (v : ℕ) × (v < nodes t) × (label t v < tips t) × (start t v ≡ j)
  unfolding standing
  start_onto j l =
      let x = word (walk t) j in
      let h = walk-labels t g j l in
      let n = node_at t g x h in
      let v = node_of t x in
      let k : label t v < tips t = omega (arith, n.1) in
      let s = walk_at v n.0 k in
      let u = (count_once (tips t) (λ i. nat_eq (word (walk t) i) x)).0 (walk_once t g x h) in (
        v,
        n.0,
        k,
        u.3 (start t v) s.0 ((eq_iff (word (walk t) (start t v)) x).1 (s.1 ∙ n.1))
            ∙ sym (u.3 j l ((eq_iff x x).1 refl)),
      )
