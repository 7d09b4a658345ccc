-- What the walk from a node holds: the labels beyond its edge, each once.
-- Assumes nothing.
use Rattle.std.specs.Prelude.{◌≡◌, ℕ, zero, suc, ◌+◌, ◌*◌, ◌<◌, ◌≤◌, Bool, true, false, not, T, List, [], ◌∷◌, ◌++◌, length, nat_lt}
use Rattle.std.proofs.Math.Path.{refl, sym, ap}
use Rattle.std.proofs.Common.{◌∙◌, add-zero, mul-one, length-append}
use Rattle.std.proofs.Math.Logic.{inl, inr}
use Rattle.std.proofs.Math.Nat.{mul_comm}
use native.Mathlib.Omega.{arith}
use Rattle.sums.specs.Sum.{sum}
use Rattle.sums.specs.theorems.SumLaws.{sum_ext, sum_cong, sum-ge}
use Rattle.sums.specs.Bits.{bit, is}
use Rattle.sums.specs.theorems.BitLaws.{bit-T, bit_not, T-bit, alike}
use Rattle.sums.specs.theorems.TestLaws.{lt_iff}
use Rattle.shapes.specs.Ancestors.{anc}
use Rattle.shapes.proofs.theorems.AncestorLaws.{parent-lt}
use Rattle.shapes.specs.theorems.Totals.{total}
use Rattle.shapes.proofs.theorems.Totals.{total_ext, total_none, total_is, total-children}
use Rattle.tree_check.specs.Table.{Table, word, tips, nodes, parent, label, node_of, beyond}
use Rattle.tree_check.specs.IsTree.{IsTree}
use Rattle.tree_check.specs.theorems.RootedTables.{rooted}
use Rattle.tree_check.specs.TreeOrder.{is_child, standing}
use Rattle.tree_check.specs.theorems.TreeCheck.{child_iff}
use Rattle.walks.specs.Walk.{own, in_turn, visit, walk_from, below}
use Rattle.walks.specs.theorems.NodeLabels.{node_at, node_label, sum_over_tips}
use Rattle.walks.specs.theorems.Weights.{weight, weight-append, weight-sum, weight-length, weight_only_if}
use Rattle.walks.specs.theorems.Weights.{weight_in_turn, in_turn_ext}

own_weight : (t : Table) (φ : ℕ → ℕ) (v : ℕ)
    → weight φ (own t v) ≡ bit (nat_lt (label t v) (tips t)) * φ (label t v)
unfolding own weight
own_weight t φ v =
    weight_only_if φ (nat_lt (label t v) (tips t)) (label t v ∷ [])
    ∙ ap (λ (x : ℕ). bit (nat_lt (label t v) (tips t)) * x) (add-zero (φ (label t v)))

pub own_length : (t : Table) (v : ℕ) → length (own t v) ≡ bit (nat_lt (label t v) (tips t))
own_length t v =
    sym (weight-length (own t v))
    ∙ own_weight t (λ x. 1) v
    ∙ mul-one (bit (nat_lt (label t v) (tips t)))

module _ (t : Table) (g : IsTree t) where
  pub child_lt : (v c : ℕ) → c < nodes t → T (is_child (parent t) v c) → v < c
  child_lt v c l h = let k = (child_iff t v c l).0 h in
      omega (arith, k.below, parent-lt (parent t) (rooted t g) c k.other)

  pub child_parent : (w : ℕ) → suc w < nodes t → T (is_child (parent t) (parent t (suc w)) (suc w))
  child_parent w l =
      (child_iff t (parent t (suc w)) (suc w) l).1 (record { other = omega arith; node = l; below = refl })

  -- more levels than the nodes from v on make no difference
  enough : (f h v : ℕ) → nodes t ≤ v + f → nodes t ≤ v + h → v < nodes t → visit t f v ≡ visit t h v
  unfolding visit
  enough zero h v a b l = absurd (omega arith)
  enough (suc f) zero v a b l = absurd (omega arith)
  enough (suc f) (suc h) v a b l =
      ap (λ (w : List ℕ). own t v ++ w) (in_turn_ext (nodes t) (is_child (parent t) v) _ _ (λ c m q.
      let d = child_lt v c m q in enough f h c (omega arith) (omega arith) m))

  -- a node's own label, and the walks from its children
  pub walk_from_step : (v : ℕ) → v < nodes t
      → walk_from t v ≡ own t v ++ in_turn (nodes t) (is_child (parent t) v) (walk_from t)
  unfolding walk_from visit
  walk_from_step v l = enough (nodes t) (suc (nodes t)) v (omega arith) (omega arith) l

  -- the walk from v weighs what the nodes at or below v weigh
  walk_from-weight : (φ : ℕ → ℕ) (f v : ℕ) → nodes t ≤ v + f → v < nodes t
      → weight φ (walk_from t v) ≡ total (parent t) (nodes t) (λ u. weight φ (own t u)) v
  unfolding is_child
  walk_from-weight φ zero v a l = absurd (omega arith)
  walk_from-weight φ (suc f) v a l =
      ap (weight φ) (walk_from_step v l)
      ∙ weight-append φ (own t v) _
      ∙ ap (λ (x : ℕ). weight φ (own t v) + x)
      (weight_in_turn φ (nodes t) (is_child (parent t) v) (walk_from t)
      ∙ sum_ext (nodes t) _ _ (λ c m. only (is_child (parent t) v c) (λ q.
      let d = child_lt v c m q in walk_from-weight φ f c (omega arith) m)))
      ∙ sym (total-children (parent t) (rooted t g) (nodes t) (λ u. weight φ (own t u)) v l)
    where
      only : (b : Bool) {x y : ℕ} → (T b → x ≡ y) → bit b * x ≡ bit b * y
      only true h = rw (h tt)
      only false h = unfold bit in omega arith

  -- how many tips lie at or below a node
  pub below_total : (v : ℕ) → v < nodes t
      → below t v ≡ total (parent t) (nodes t) (λ u. bit (nat_lt (label t u) (tips t))) v
  unfolding below beyond total
  below_total v l =
      sym (sum_over_tips t g (λ u. bit (anc (parent t) v u)))
      ∙ sum_cong (nodes t) (λ u. mul_comm (bit (nat_lt (label t u) (tips t))) (bit (anc (parent t) v u)))

  pub walk_from-length : (v : ℕ) → v < nodes t → length (walk_from t v) ≡ below t v
  walk_from-length v l =
      sym (weight-length (walk_from t v))
      ∙ walk_from-weight (λ x. 1) (nodes t) v (omega arith) l
      ∙ total_ext (parent t) (nodes t) _ _ v (λ u h. weight-length (own t u) ∙ own_length t u)
      ∙ sym (below_total v l)

  -- a label stands in the walk from v once if it lies beyond, else not
  pub walk_from_holds : (v x : ℕ) → v < nodes t → x < tips t
      → standing (length (walk_from t v)) (word (walk_from t v)) x ≡ bit (beyond t v x)
  unfolding standing beyond
  walk_from_holds v x l lx =
      sym (weight-sum (λ y. is y x) (walk_from t v))
      ∙ walk_from-weight (λ y. is y x) (nodes t) v (omega arith) l
      ∙ total_ext (parent t) (nodes t) _ _ v (λ u h.
      own_weight t (λ y. is y x) u ∙ tip (label t u) ∙ sym (node_label t g x u lx h))
      ∙ total_is (parent t) (nodes t) (node_of t x) v (node_at t g x lx).0
    where
      tip : (y : ℕ) → bit (nat_lt y (tips t)) * is y x ≡ is y x
      tip y = elim (alike y x) [
        | inl e ↦ rw (e.1, bit-T (nat_lt y (tips t)) ((lt_iff y (tips t)).1 (omega (arith, e.0))))
        | inr n ↦ rw n.1 (omega arith)
      ]

  pub walk_from-labels : (v j : ℕ) → v < nodes t → j < below t v → word (walk_from t v) j < tips t
  walk_from-labels v j l h = (lt_iff x (tips t)).0 (T-bit (nat_lt x (tips t)) (omega (
    arith,
    bit_not (nat_lt x (tips t)),
    sum-ge (length (walk_from t v)) (λ i. other (word (walk_from t v) i)) j (omega (arith, walk_from-length v l)),
    weight-sum other (walk_from t v),
    walk_from-weight other (nodes t) v (omega arith) l,
    total_none (parent t) (nodes t) _ v (λ u m. own_weight t other u ∙ both (nat_lt (label t u) (tips t))),
  )))
    where
      x : ℕ
      x = word (walk_from t v) j

      other : ℕ → ℕ
      other y = bit (not (nat_lt y (tips t)))

      both : (b : Bool) → bit b * bit (not b) ≡ 0
      both true = unfold bit in refl
      both false = unfold bit in refl

  -- how many labels the children of v below k hold
  pub children-length : (v k : ℕ) → k ≤ nodes t
      → length (in_turn k (is_child (parent t) v) (walk_from t))
      ≡ sum k (λ c. bit (is_child (parent t) v c) * below t c)
  children-length v k l =
      sym (weight-length (in_turn k (is_child (parent t) v) (walk_from t)))
      ∙ weight_in_turn (λ x. 1) k (is_child (parent t) v) (walk_from t)
      ∙ sum_ext k _ _ (λ c m. ap (λ (x : ℕ). bit (is_child (parent t) v c) * x)
      (weight-length (walk_from t c) ∙ walk_from-length c (omega arith)))

  pub below_children : (v : ℕ) → v < nodes t
      → below t v ≡ length (own t v) + sum (nodes t) (λ c. bit (is_child (parent t) v c) * below t c)
  below_children v l = omega (
    arith,
    walk_from-length v l,
    ap length (walk_from_step v l),
    length-append (own t v) (in_turn (nodes t) (is_child (parent t) v) (walk_from t)),
    children-length v (nodes t) (omega arith),
  )
