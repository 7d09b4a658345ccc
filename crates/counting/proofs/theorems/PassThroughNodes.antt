-- A node is a pass-through node or not; no claim is of an edge into one.
-- Assumes nothing.
use Rattle.std.specs.Prelude.{◌≡◌, refl, ◌||◌, ◌⊎◌, ◌≢◌}
use Rattle.std.proofs.Common.{◌∙◌, inl, inr}
use Rattle.std.proofs.Math.Path.{ap}
use Prim.Native.Nat.{ℕ, zero, suc, ◌+◌, ◌*◌, ◌-◌, ◌/◌, ◌≤◌, ◌<◌}
use Rattle.std.proofs.Math.Decide.{ℕ_discrete}
use native.Mathlib.Omega.{arith}
use Rattle.std.proofs.Math.Dec.{eqb}
use Rattle.table_words.specs.Sizes.{inner_label}
use Rattle.sums.specs.Bits.{bit, is}
use Rattle.sums.specs.theorems.BitLaws.{bit_or, bit_le, is_other_lem}
use Rattle.sums.specs.theorems.SumLaws.{sum-add, sum_mono, sum_one}
use Rattle.sums.specs.Counts.{count}
use Rattle.sums.specs.theorems.CountLaws.{count-pos, count_once, count_twice}
use Rattle.shapes.specs.Claims.{sum_claims_of}
use Rattle.shapes.specs.theorems.ClaimsOfAnEdge.{degree}
use Rattle.tree_check.specs.Table.{Table, nodes, parent, label}
use Rattle.tree_check.specs.IsTree.{IsTree, Child}
use Rattle.tree_check.specs.TreeOrder.{is_child}
use Rattle.tree_check.specs.theorems.TreeCheck.{child_iff}
use Rattle.tree_check.specs.theorems.RootedTables.{rooted}
use Rattle.counting.specs.ClaimSums.{codes}
use Rattle.counting.specs.theorems.PassThrough.{PassThrough}
use Rattle.counting.specs.theorems.EdgeClaims.{node_degree, head_of}
use Rattle.counting.proofs.theorems.EdgeClaims.{claims_of_a_code}

module _ (t : Table) where
  abbrev kids : ℕ → ℕ
  kids i = count (nodes t) (is_child (parent t) i)

  pub single_child : (i : ℕ) → PassThrough t i → kids i ≡ 1
  single_child i p = (count_once (nodes t) (is_child (parent t) i)).1 (
    p.child,
    p.below.node,
    (child_iff t i p.child p.below.node).1 p.below,
    λ j l c. p.single j ((child_iff t i j l).0 c),
  )

  pub one_child : (i : ℕ) → label t i ≡ inner_label → kids i ≡ 1 → PassThrough t i
  one_child i e k =
      let r = (count_once (nodes t) (is_child (parent t) i)).0 k in
      record {
        inner = e;
        child = r.0;
        below = (child_iff t i r.0 r.1).0 r.2;
        single = λ j c. r.3 j c.node ((child_iff t i j c.node).1 c);
      }

  pub pass_through_or_not : (i : ℕ) → PassThrough t i ⊎ (PassThrough t i → ⊥)
  pass_through_or_not i = elim (ℕ_discrete (label t i) inner_label) [
    | no d ↦ inr (λ p. d p.inner)
    | yes e ↦ elim (ℕ_discrete (kids i) 1) [
      | yes k ↦ inl (one_child i e k)
      | no d ↦ inr (λ p. d (single_child i p))
    ]
  ]

  -- a node with a child that is no pass-through node has another
  pub another_child : IsTree t → (i w : ℕ) → 1 ≤ i → i < nodes t → (PassThrough t i → ⊥) → Child t i w
      → (d : ℕ) × Child t i d × (d ≢ w)
  another_child g i w l1 li np c = elim (g.labels_range i li) [
    | inr m ↦ absurd (g.tip_bare i l1 li m w c)
    | inl e ↦ (
        let some = (count-pos (nodes t) (is_child (parent t) i)).1 (w, c.node, (child_iff t i w c.node).1 c) in
        let r = (count_twice (nodes t) (is_child (parent t) i)).0 (many e some) in
        let one = (child_iff t i r.0 (omega (arith, r.2, r.3))).0 r.4 in
        let two = (child_iff t i r.1 r.3).0 r.5 in
        elim (ℕ_discrete r.0 w) [ yes q ↦ (r.1, two, omega (arith, r.2)) | no d ↦ (r.0, one, d) ])
  ]
    where
      many : label t i ≡ inner_label → 1 ≤ kids i → 2 ≤ kids i
      many e some = elim (ℕ_discrete (kids i) 1) [ yes k ↦ absurd (np (one_child i e k)) | no d ↦ omega arith ]

-- ---- claims

no_pairs : (d : ℕ) → d ≤ 2 → (d - 1) * (d - 2) / 2 ≡ 0
no_pairs zero l = refl
no_pairs (suc zero) l = refl
no_pairs (suc (suc zero)) l = refl
no_pairs (suc (suc (suc d))) l = absurd (omega arith)

module _ (t : Table) (g : IsTree t) where
  -- it has two edges: its own, and its child's
  two_edges : (v : ℕ) → PassThrough t v → node_degree t v ≤ 2
  unfolding node_degree degree
  two_edges zero p = absurd (omega (arith, g.root_label, p.inner))
  two_edges (suc w) p =
      let v = suc w in
      let c = p.below in
      let low : v < p.child = omega (arith, (rooted t g).falls (p.child - 1), below c) in
      omega (
        arith,
        sum_mono (nodes t - 1) (λ j. bit (eqb (suc j) v || eqb (parent t (suc j)) v)) (λ j. is (suc j) v + is (parent t (suc j)) v)
            (λ j l. omega (arith, bit_or (eqb (suc j) v) (eqb (parent t (suc j)) v))),
        sum-add (nodes t - 1) (λ j. is (suc j) v) (λ j. is (parent t (suc j)) v),
        sum_one (nodes t - 1) w (λ j. is (suc j) v) (omega (arith, low, c.node))
            (λ j l d. is_other_lem (suc j) v (omega (arith, d))),
        bit_le (eqb (suc w) v),
        sum_one (nodes t - 1) (p.child - 1) (λ j. is (parent t (suc j)) v) (omega (arith, low, c.node))
            (λ j l d. is_other_lem (parent t (suc j)) v (λ e. d (only j l e))),
        bit_le (eqb (parent t (suc (p.child - 1))) v),
      )
    where
      below : Child t (suc w) p.child → parent t (suc (p.child - 1)) ≡ suc w
      below c = ap (parent t) (omega (arith, c.other)) ∙ c.below

      only : (j : ℕ) → j < nodes t - 1 → parent t (suc j) ≡ suc w → j ≡ p.child - 1
      only j l e = omega (arith, p.single (suc j) (record { other = omega arith; node = omega arith; below = e }))

  -- an edge into a pass-through node is in no claim
  pub no_claims_through : (c : ℕ) → c < codes t → PassThrough t (head_of t c)
      → sum_claims_of (parent t) (codes t) c (λ f g. 1) ≡ 0
  no_claims_through c l p = claims_of_a_code t g c l ∙ no_pairs (node_degree t (head_of t c)) (two_edges (head_of t c) p)
