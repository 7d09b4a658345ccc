-- A crossing count is a total over the first tree: of the kept tips at or below a node, those beyond an edge of the second.
-- Assumes nothing.
use Rattle.std.specs.Prelude.{◌≡◌, Bool, ◌&&◌, ℕ, zero, suc, ◌*◌, ◌≤◌, ◌<◌, ltb}
use Rattle.std.proofs.Common.{sym, ◌∙◌, ap, arith}
use Rattle.sums.specs.theorems.SumLaws.{sum_ext}
use Rattle.sums.specs.Bits.{bit}
use Rattle.sums.specs.theorems.BitLaws.{is_other_lem}
use Rattle.sums.specs.theorems.Products.{bit_and}
use Rattle.shapes.specs.Ancestors.{anc}
use Rattle.shapes.proofs.theorems.AncestorLaws.{anc_at_zero}
use Rattle.shapes.specs.theorems.Totals.{total}
use Rattle.tree_check.specs.Table.{Table, tips, nodes, parent, label, node_of, beyond}
use Rattle.tree_check.specs.IsTree.{IsTree}
use Rattle.tree_check.specs.theorems.RootedTables.{rooted}
use Rattle.walks.specs.theorems.NodeLabels.{node_at, sum_over_tips}
use Rattle.counting.proofs.theorems.KeptLaws.{sum_kept}
use Rattle.counting.specs.SplitCounts.{beyond_at}
use Rattle.tree_pairs.specs.Crossings.{edge_crossing}
use Rattle.tree_pairs.specs.lemmas.CrossingTotals.{kept_beyond, passing_in}

pub crossing-total : (q : ℕ → Bool) (t u : Table) → IsTree t → (v j : ℕ) → 1 ≤ v → (cells : ℕ → ℕ)
    → ((x : ℕ) → 1 ≤ x → x < nodes t → cells x ≡ kept_beyond q t u j x)
    → total (parent t) (nodes t) cells v ≡ edge_crossing (passing_in q t) t u v j
unfolding total edge_crossing beyond beyond_at
crossing-total q t u g v j lv cells h =
    sum_ext (nodes t) _ _ term
    ∙ sum_over_tips t g (λ x. bit (anc (parent t) v x) * (bit (q (label t x)) * bit (anc (parent u) j (node_of u (label t x)))))
    ∙ sum_ext (tips t) _ _ (λ y l.
    ap (λ (z : ℕ). bit (anc (parent t) v (node_of t y)) * (bit (q z) * bit (anc (parent u) j (node_of u z)))) (node_at t g y l).1
    ∙ swap (bit (anc (parent t) v (node_of t y))) (bit (q y)) (bit (anc (parent u) j (node_of u y)))
    ∙ ap (λ (z : ℕ). bit (q y) * z) (sym (bit_and (anc (parent t) v (node_of t y)) (anc (parent u) j (node_of u y)))))
    ∙ sym (sum_kept q (tips t) (λ y. bit (anc (parent t) v (node_of t y) && anc (parent u) j (node_of u y))))
  where
    swap : (a b c : ℕ) → a * (b * c) ≡ b * (a * c)
    swap a b c = omega arith

    none : bit (anc (parent t) v 0) ≡ 0
    none = anc_at_zero (parent t) (rooted t g) v ∙ is_other_lem v 0 (omega arith)

    gone : (a x b c : ℕ) → a ≡ 0 → a * x ≡ b * (a * c)
    gone a x b c e = rw e (omega arith)

    term : (x : ℕ) → x < nodes t → bit (anc (parent t) v x) * cells x
        ≡ bit (ltb (label t x) (tips t)) * (bit (anc (parent t) v x) * (bit (q (label t x)) * bit (anc (parent u) j (node_of u (label t x)))))
    term zero l = gone _ (cells 0) _ _ none
    term (suc x) l = ap (λ (z : ℕ). bit (anc (parent t) v (suc x)) * z) (h (suc x) (omega arith) l) ∙ swap _ _ _
