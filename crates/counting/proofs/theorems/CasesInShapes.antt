-- The cases of two tables are those of their shapes.
-- Assumes nothing.
use Rattle.std.specs.Prelude.{◌≡◌, Bool, ◌≢◌, ℕ, ◌<◌, eqb}
use Rattle.std.proofs.Math.Path.{refl, ap}
use Rattle.std.proofs.Common.{sym, ◌∙◌, ap₂, arith, eq-eqb, ne_eqb}
use Rattle.std.proofs.Math.Bool.{true, false}
use Rattle.sums.specs.Bits.{bit}
use Rattle.sums.specs.theorems.SetLaws.{sets4_ext}
use Rattle.shapes.specs.theorems.Topologies.{first_passed}
use Rattle.shapes.proofs.theorems.Topologies.{topology_in, case_in, cases_in}
use Rattle.trees.specs.declared.quartet.Topology.{Topology}
use Rattle.trees.specs.declared.quartet.Topology.TheVariants.{Butterfly}
use Rattle.tree_check.specs.Table.{Table, tips}
use Rattle.tree_check.specs.IsTree.{IsTree}
use Rattle.trees.specs.Topology.{butterfly, named, topology}
use Rattle.trees.specs.theorems.PartnerLaws.{partner_of_smallest}
use Rattle.counting.specs.Labels.{Labels}
use Rattle.counting.specs.theorems.LabelLaws.{Rising}
use Rattle.counting.specs.declared.Case.{Case}
use Rattle.counting.specs.declared.Case.TheVariants.{A, B}
use Rattle.counting.specs.Cases.{case_of, case_number, is_case, topology_at, quartets}
use Rattle.counting.proofs.theorems.TreeShape.{shape_of}

-- ---- the case of two topologies whose butterflies are named by three different labels

same_name : (p : ℕ) → case_of (Butterfly p) (Butterfly p) ≡ A
unfolding case_of
same_name p = rw (eq-eqb p p refl, case_of)

other_name : (p q : ℕ) → p ≢ q → case_of (Butterfly p) (Butterfly q) ≡ B
unfolding case_of
other_name p q d = rw (ne_eqb p q d, case_of)

module _ (p q r : ℕ) (pq : p ≢ q) (pr : p ≢ r) (qr : q ≢ r) where
  pub case_named : (a b c a' b' c' : Bool)
      → case_number (case_of (named a b c p q r) (named a' b' c' p q r)) ≡ case_in (first_passed a b c) (first_passed a' b' c')
  unfolding named first_passed case_in case_of
  case_named true b c true b' c' = ap case_number (same_name p)
  case_named true b c false true c' = ap case_number (other_name p q pq)
  case_named true b c false false true = ap case_number (other_name p r pr)
  case_named true b c false false false = refl
  case_named false true c true b' c' = ap case_number (other_name q p (λ e. pq (sym e)))
  case_named false true c false true c' = ap case_number (same_name q)
  case_named false true c false false true = ap case_number (other_name q r qr)
  case_named false true c false false false = refl
  case_named false false true true b' c' = ap case_number (other_name r p (λ e. pr (sym e)))
  case_named false false true false true c' = ap case_number (other_name r q (λ e. qr (sym e)))
  case_named false false true false false true = ap case_number (same_name r)
  case_named false false true false false false = refl
  case_named false false false true b' c' = refl
  case_named false false false false true c' = refl
  case_named false false false false false true = refl
  case_named false false false false false false = refl

-- ---- four labels in rising order

module _ (t : Table) (w x y z : ℕ) where
  in_order : w < x → x < y → y < z
      → topology t w x y z ≡ named (butterfly t w x y z) (butterfly t w y x z) (butterfly t w z x y) x y z
  unfolding topology
  in_order wx xy yz = rw (
    partner_of_smallest w x y z (omega arith) (omega arith) (omega arith),
    partner_of_smallest w y x z (omega arith) (omega arith) (omega arith),
    partner_of_smallest w z x y (omega arith) (omega arith) (omega arith),
  )

module _ (l : Labels) (t : Table) (g : IsTree t) (r : Rising (tips t) l) (w x y z : ℕ) where
  in_shape : topology_in (shape_of t g l r) w x y z
      ≡ first_passed (butterfly t (l.at w) (l.at x) (l.at y) (l.at z)) (butterfly t (l.at w) (l.at y) (l.at x) (l.at z))
      (butterfly t (l.at w) (l.at z) (l.at x) (l.at y))
  unfolding topology_in shape_of butterfly first_passed
  in_shape = refl

pub quartets_in_shapes : (l : Labels) (t u : Table) (g : IsTree t) (h : IsTree u) (r : Rising (tips t) l) (s : Rising (tips u) l)
    (k : Case) → quartets l t u k ≡ cases_in (shape_of t g l r) (shape_of u h l s) (case_number k)
unfolding quartets topology_at cases_in is_case
quartets_in_shapes l t u g h r s k = sets4_ext l.number _ _ (λ w x y z wx xy yz m.
    let lwx = r.rises w x wx (omega arith) in
    let lxy = r.rises x y xy (omega arith) in
    let lyz = r.rises y z yz m in
    ap (λ (c : ℕ). bit (eqb c (case_number k))) (
    ap₂ (λ (a b : Topology). case_number (case_of a b))
    (in_order t (l.at w) (l.at x) (l.at y) (l.at z) lwx lxy lyz) (in_order u (l.at w) (l.at x) (l.at y) (l.at z) lwx lxy lyz)
    ∙ case_named (l.at x) (l.at y) (l.at z) (omega arith) (omega arith) (omega arith) _ _ _ _ _ _
    ∙ sym (ap₂ case_in (in_shape l t g r w x y z) (in_shape l u h s w x y z))))
