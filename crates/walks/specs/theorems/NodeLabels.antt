-- The node of a label, and sums over the labels.
-- Assumes nothing.
use Rattle.std.specs.Prelude.{◌≡◌, ℕ, zero, suc, ◌*◌, ◌<◌, ◌≤◌, Bool, true, false, T, ◌==◌, nat_lt, refl}
use Rattle.std.proofs.Common.{sym, ◌∙◌, ap, subst, inl, inr, eq-or-lt_of_le, le_of_suc-le-suc, arith, eqb→eq}
use Rattle.std.proofs.Math.Decide.{dec_lt}
use Rattle.sums.specs.Sum.{sum}
use Rattle.sums.specs.theorems.SumLaws.{sum_ext, sum_one, sum_none, sum-swap, sum-mul_right}
use Rattle.sums.specs.Bits.{bit, is}
use Rattle.sums.specs.theorems.BitLaws.{bit-T, bit_no, is_self, is_other_lem, is_eq, alike, sum_is}
use Rattle.sums.specs.theorems.TestLaws.{eq_iff, lt_iff}
use Rattle.tree_check.specs.Table.{Table, tips, nodes, label, node_below, node_of}
use Rattle.tree_check.specs.IsTree.{IsTree}

either_lt : (b : Bool) {x y k : ℕ} → x < k → y < k → elim b as (λ z. ℕ) [ true ↦ x | false ↦ y ] < k
either_lt true l m = l
either_lt false l m = m

-- what is found below k is below k, whether or not the label stands there
pub node_below_lem : (lab : ℕ → ℕ) (k x : ℕ) → 1 ≤ k → node_below lab k x < k
unfolding node_below
node_below_lem lab zero x l = absurd (omega arith)
node_below_lem lab (suc zero) x l = either_lt (lab 0 == x) (omega arith) (omega arith)
node_below_lem lab (suc (suc k)) x l =
    either_lt (lab (suc k) == x) (omega arith) (omega (arith, node_below_lem lab (suc k) x (omega arith)))

-- a label that stands below k is the label of the node that is found
found : (lab : ℕ → ℕ) (x k i : ℕ) → i < k → lab i ≡ x
    → (node_below lab k x < k) × (lab (node_below lab k x) ≡ x)
unfolding node_below
found lab x zero i l e = absurd (omega arith)
found lab x (suc k) i l e = go (lab k == x) refl (λ m. found lab x k i m e)
  where
    go : (b : Bool) → (lab k == x) ≡ b → (i < k → (node_below lab k x < k) × (lab (node_below lab k x) ≡ x))
        → ((elim b as (λ y. ℕ) [ true ↦ k | false ↦ node_below lab k x ]) < suc k)
        × (lab (elim b as (λ y. ℕ) [ true ↦ k | false ↦ node_below lab k x ]) ≡ x)
    go true q r = (omega arith, eqb→eq (lab k) x (rw q tt))
    go false q r = elim (eq-or-lt_of_le (le_of_suc-le-suc l)) [
      | inl d ↦ absurd (subst T q ((eq_iff (lab k) x).1 (ap lab (sym d) ∙ e)))
      | inr m ↦ (omega (arith, (r m).0), (r m).1)
    ]

module _ (t : Table) (g : IsTree t) where
  pub node_at : (x : ℕ) → x < tips t → (node_of t x < nodes t) × (label t (node_of t x) ≡ x)
  unfolding node_of
  node_at x l = let s = g.once x l in found (label t) x (nodes t) s.at s.node s.labelled

  pub node_only : (x v : ℕ) → x < tips t → v < nodes t → label t v ≡ x → node_of t x ≡ v
  node_only x v lx lv e = let s = g.once x lx in let a = node_at x lx in
      s.only (node_of t x) a.0 a.1 ∙ sym (s.only v lv e)

  -- node u is the node of the label x exactly where it has the label x
  pub node_label : (x u : ℕ) → x < tips t → u < nodes t → is (node_of t x) u ≡ is (label t u) x
  node_label x u lx lu = elim (alike (label t u) x) [
    | inl e ↦ is_eq (node_of t x) u (node_only x u lx lu e.0) ∙ sym e.1
    | inr n ↦ is_other_lem (node_of t x) u (λ e. n.0 (ap (label t) (sym e) ∙ (node_at x lx).1)) ∙ sym n.1
  ]

  -- a sum over the tips is one over their labels
  pub sum_over_tips : (f : ℕ → ℕ)
      → sum (nodes t) (λ u. bit (nat_lt (label t u) (tips t)) * f u) ≡ sum (tips t) (λ x. f (node_of t x))
  sum_over_tips f = sym (
      sum_ext (tips t) _ _ (λ x l. sym (sum_is (nodes t) (node_of t x) f (node_at x l).0))
      ∙ sum-swap (tips t) (nodes t) (λ x u. is (node_of t x) u * f u)
      ∙ sum_ext (nodes t) _ _ (λ u l.
      sum-mul_right (tips t) (f u) (λ x. is (node_of t x) u)
      ∙ ap (λ (y : ℕ). y * f u) (sum_ext (tips t) _ _ (λ x h. node_label x u h l) ∙ once (label t u))))
    where
      once : (y : ℕ) → sum (tips t) (is y) ≡ bit (nat_lt y (tips t))
      once y = elim (dec_lt y (tips t)) [
        | yes l ↦ sum_one (tips t) y (is y) l (λ x m d. is_other_lem y x (λ e. d (sym e)))
            ∙ is_self y ∙ sym (bit-T (nat_lt y (tips t)) ((lt_iff y (tips t)).1 l))
        | no n ↦ sum_none (tips t) (is y) (λ x l. is_other_lem y x (omega arith))
            ∙ sym (bit_no (nat_lt y (tips t)) (λ h. n ((lt_iff y (tips t)).0 h)))
      ]
