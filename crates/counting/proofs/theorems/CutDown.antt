-- A tree cut down to some of its labels: a table on as many tips whose splits are those of the labels, by rank. Its topologies
-- are those of the labels of these ranks.
-- Assumes nothing.
use Rattle.std.specs.Prelude.{◌≡◌, refl, Bool, ℕ, ◌<◌, min, max}
use Rattle.std.proofs.Common.{sym, ◌∙◌, ap, arith}
use Rattle.std.proofs.Math.Path.{ap₂}
use Rattle.std.proofs.Math.Bool.{true, false}
use Rattle.std.proofs.Math.Logic.{Ne-symm}
use Rattle.std.proofs.Math.Decide.{dec_lt, ℕ_discrete}
use Rattle.std.proofs.Math.Dec.{ltb}
use Rattle.sums.specs.theorems.TestLaws.{same_test, lt_iff}
use Rattle.shapes.specs.theorems.FourLabels.{Four}
use Rattle.shapes.specs.theorems.Shape.{Shape}
use Rattle.shapes.proofs.theorems.Shape.{butterfly_in}
use Rattle.shapes.proofs.theorems.SameFours.{same_fours-iff}
use Rattle.trees.specs.Topology.{butterfly, partner, named, topology}
use Rattle.tree_check.specs.Table.{Table, tips, beyond}
use Rattle.tree_check.specs.IsTree.{IsTree}
use Rattle.counting.specs.Labels.{Labels, all}
use Rattle.counting.specs.Cases.{topology_at}
use Rattle.counting.specs.SplitCounts.{beyond_at}
use Rattle.counting.specs.theorems.LabelLaws.{Rising}
use Rattle.counting.proofs.theorems.LabelLaws.{all_of}
use Rattle.counting.proofs.theorems.TreeShape.{shape_of}
use Rattle.counting.specs.theorems.CutDown.{CutDown, relabelled}

relabel_named : (f : ℕ → ℕ) (x y z : Bool) (p q r : ℕ) → relabelled f (named x y z p q r) ≡ named x y z (f p) (f q) (f r)
unfolding relabelled named
relabel_named f true y z p q r = refl
relabel_named f false true z p q r = refl
relabel_named f false false true p q r = refl
relabel_named f false false false p q r = refl

-- labels in rising order: the partner of the smallest goes along
module _ (n : ℕ) (l : Labels) (r : Rising n l) where
  at_order : (x y : ℕ) → x < l.number → y < l.number → l.at x < l.at y → x < y
  at_order x y lx ly m = elim (dec_lt x y) [
    | yes o ↦ o
    | no o ↦ elim (ℕ_discrete x y) [
      | yes e ↦ absurd (omega (arith, ap l.at e))
      | no d ↦ absurd (omega (arith, r.rises y x (omega arith) lx))
    ]
  ]

  at_ltb : (x y : ℕ) → x < l.number → y < l.number → ltb (l.at x) (l.at y) ≡ ltb x y
  at_ltb x y lx ly = same_test _ _
      (λ t. (lt_iff x y).1 (at_order x y lx ly ((lt_iff (l.at x) (l.at y)).0 t)))
      (λ t. (lt_iff (l.at x) (l.at y)).1 (r.rises x y ((lt_iff x y).0 t) ly))

  at_min : (x y : ℕ) → x < l.number → y < l.number → min (l.at x) (l.at y) ≡ l.at (min x y)
  at_min x y lx ly = elim (dec_lt x y) [
    | yes o ↦ (let e : min x y ≡ x = omega arith in rw e (omega (arith, r.rises x y o ly)))
    | no o ↦ (let e : min x y ≡ y = omega arith in rw e (elim (ℕ_discrete x y) [
      | yes q ↦ (let f = ap l.at q in omega arith)
      | no d ↦ omega (arith, r.rises y x (omega arith) lx)
    ]))
  ]

  at_max : (x y : ℕ) → x < l.number → y < l.number → max (l.at x) (l.at y) ≡ l.at (max x y)
  at_max x y lx ly = elim (dec_lt x y) [
    | yes o ↦ (let e : max x y ≡ y = omega arith in rw e (omega (arith, r.rises x y o ly)))
    | no o ↦ (let e : max x y ≡ x = omega arith in rw e (elim (ℕ_discrete x y) [
      | yes q ↦ (let f = ap l.at q in omega arith)
      | no d ↦ omega (arith, r.rises y x (omega arith) lx)
    ]))
  ]

  at_partner : (a b c d : ℕ) → a < l.number → b < l.number → c < l.number → d < l.number
      → partner (l.at a) (l.at b) (l.at c) (l.at d) ≡ l.at (partner a b c d)
  unfolding partner
  at_partner a b c d la lb lc ld =
      (λ i. elim (order i) as (λ y. ℕ) [ true ↦ at_max a b la lb i | false ↦ at_max c d lc ld i ])
      ∙ either (ltb (min a b) (min c d))
    where
      order : ltb (min (l.at a) (l.at b)) (min (l.at c) (l.at d)) ≡ ltb (min a b) (min c d)
      order = ap₂ ltb (at_min a b la lb) (at_min c d lc ld) ∙ at_ltb (min a b) (min c d) (omega arith) (omega arith)

      either : (x : Bool) → elim x as (λ y. ℕ) [ true ↦ l.at (max a b) | false ↦ l.at (max c d) ]
          ≡ l.at (elim x as (λ y. ℕ) [ true ↦ max a b | false ↦ max c d ])
      either true = refl
      either false = refl

-- ---- topologies

module _ (l : Labels) (t c : Table) (g : IsTree t) (r : Rising (tips t) l) (d : CutDown l t c) where
  abbrev pub cut_rising : Rising (tips c) (all l.number)
  cut_rising = all_of l.number (tips c) d.labels

  abbrev pub whole_shape : Shape l.number
  whole_shape = shape_of t g l r

  abbrev pub cut_shape : Shape l.number
  cut_shape = shape_of c d.tree (all l.number) cut_rising

  pub same_fours : (w x y z : ℕ) → Four l.number w x y z → butterfly_in whole_shape w x y z ≡ butterfly_in cut_shape w x y z
  unfolding beyond beyond_at shape_of
  same_fours = (same_fours-iff (shape_of t g l r) (shape_of c d.tree (all l.number) cut_rising)).1 d.splits

  pub cut_butterflies : (w x y z : ℕ) → Four l.number w x y z
      → butterfly t (l.at w) (l.at x) (l.at y) (l.at z) ≡ butterfly c w x y z
  unfolding butterfly shape_of
  cut_butterflies = same_fours

  -- the topology of four labels of the cut tree is that of the labels of these ranks
  pub cut_topologies : (w x y z : ℕ) → Four l.number w x y z
      → topology_at l t w x y z ≡ relabelled l.at (topology c w x y z)
  unfolding topology topology_at
  cut_topologies w x y z f = rw (
    cut_butterflies w x y z f,
    cut_butterflies w y x z (search Ne-symm),
    cut_butterflies w z x y (search Ne-symm),
    at_partner (tips t) l r w x y z f.la f.lb f.lc f.ld,
    at_partner (tips t) l r w y x z f.la f.lc f.lb f.ld,
    at_partner (tips t) l r w z x y f.la f.ld f.lb f.lc,
  ) (sym (relabel_named l.at (butterfly c w x y z) (butterfly c w y x z) (butterfly c w z x y) _ _ _))
