-- Some tip lies behind every directed edge of a tree table, so at most n codes lead into a node.
-- Assumes nothing.
use Rattle.std.specs.Prelude.{◌≡◌, ◌⊎◌}
use Rattle.std.proofs.Common.{◌∙◌, inl, inr}
use Rattle.std.proofs.Math.Path.{ap}
use Prim.Native.Nat.{ℕ, suc, ◌*◌, ◌-◌, ◌/◌, ◌≤◌, ◌<◌}
use native.Mathlib.Omega.{arith}
use Rattle.sums.specs.Sum.{sum}
use Rattle.sums.specs.theorems.SumLaws.{sum_mono, sum_const, sum-swap, sum-ge}
use Rattle.sums.specs.Bits.{bit}
use Rattle.sums.specs.theorems.BitLaws.{bit_not}
use Rattle.shapes.specs.Directions.{head, behind}
use Rattle.shapes.proofs.theorems.DirectionLaws.{behind_even, behind_odd, code_cases}
use Rattle.node_pairs.specs.theorems.CodesOfANode.{Lists}
use Rattle.node_pairs.specs.theorems.CellTotals.{listed_behind_one}
use Rattle.tree_check.specs.Table.{Table, tips, nodes, parent, node_of, beyond}
use Rattle.tree_check.specs.IsTree.{IsTree}
use Rattle.tree_check.specs.theorems.RootedTables.{rooted}
use Rattle.walks.specs.theorems.NodeLabels.{node_at}
use Rattle.counting.specs.Labels.{Labels, all}
use Rattle.counting.specs.theorems.LabelLaws.{Rising}
use Rattle.counting.proofs.theorems.LabelLaws.{all-rising}
use Rattle.counting.specs.ClaimSums.{codes, behind_edge, size}
use Rattle.counting.proofs.theorems.TreeSplits.{labelled, zero_here}

module _ (t : Table) (g : IsTree t) where
  some_behind : (c : ℕ) → c < codes t → (x : ℕ) × (x < tips t) × (bit (behind_edge (all (tips t)) t c x) ≡ 1)
  unfolding codes behind_edge beyond
  some_behind c l = go (code_cases c)
    where
      go : (c ≡ 2 * (c / 2)) ⊎ (c ≡ suc (2 * (c / 2)))
          → (x : ℕ) × (x < tips t) × (bit (behind (parent t) c (node_of t x)) ≡ 1)
      go (inl e) =
          let r = labelled t g (nodes t) (suc (c / 2)) (omega arith) (omega arith) in (
            r.0,
            r.1,
            ap (λ (b : ℕ). bit (behind (parent t) b (node_of t r.0))) e
                ∙ ap bit (behind_even (parent t) (c / 2) (node_of t r.0))
                ∙ r.2,
          )
      go (inr e) =
          let few = g.tips_range in
          let z = zero_here t g (suc (c / 2)) (omega arith) in (
            0,
            omega arith,
            ap (λ (b : ℕ). bit (behind (parent t) b (node_of t 0))) e
                ∙ ap bit (behind_odd (parent t) (c / 2) (node_of t 0))
                ∙ omega (arith, z, bit_not (beyond t (suc (c / 2)) 0)),
          )

  size-some : (c : ℕ) → c < codes t → 1 ≤ size (all (tips t)) t c
  unfolding size
  size-some c l =
      let r = some_behind c l in omega (arith, r.2, sum-ge (tips t) (λ x. bit (behind_edge (all (tips t)) t c x)) r.0 r.1)

  -- the sizes of the sets behind the codes into a node add up to the number of labels at most, ..
  pub sizes_most : (l : Labels) → Rising (tips t) l → (v d : ℕ) (c : ℕ → ℕ) → v < nodes t
      → Lists (codes t) (head (parent t)) v d c → sum d (λ i. size l t (c i)) ≤ l.number
  unfolding size codes behind_edge
  sizes_most l r v d c m z = omega (
    arith,
    sum-swap d l.number (λ i x. bit (behind_edge l t (c i) x)),
    sum_mono l.number (λ x. sum d (λ i. bit (behind_edge l t (c i) x))) (λ x. 1) (λ x lx.
        listed_behind_one (parent t) (rooted t g) (nodes t - 1) v (node_of t (l.at x)) d c (omega arith)
        (let a = (node_at t g (l.at x) (r.inside x lx)).0 in omega arith) z),
    sum_const l.number 1,
  )

  -- .. and so, of all labels, there are at most n codes
  pub degree_most : (v d : ℕ) (c : ℕ → ℕ) → v < nodes t → Lists (codes t) (head (parent t)) v d c → d ≤ tips t
  degree_most v d c l z = omega (
    arith,
    sizes_most (all (tips t)) (all-rising (tips t)) v d c l z,
    sum_mono d (λ i. 1) (λ i. size (all (tips t)) t (c i)) (λ i m. size-some (c i) (z.inside i m)),
    sum_const d 1,
  )
