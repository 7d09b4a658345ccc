-- A canonical copy is its tree cut down to the labels that are counted: the topologies of its labels are those of the labels of
-- these ranks, and every figure of two copies is that of the two trees.
-- Assumes nothing.
use Rattle.std.specs.Prelude.{◌≡◌, List, ℕ, suc, ◌-◌, ◌≤◌, ◌<◌, eqb}
use Rattle.std.proofs.Math.Path.{sym, ap}
use Rattle.std.proofs.Common.{◌∙◌, ap₂, subst, arith}
use Rattle.std.proofs.Math.Logic.{Ne-symm}
use Rattle.sums.specs.Bits.{bit}
use Rattle.sums.specs.SetsOfFour.{sets3}
use Rattle.sums.specs.theorems.SetLaws.{sets3_ext}
use Rattle.shapes.specs.theorems.FourLabels.{Four}
use Rattle.shapes.specs.theorems.Topologies.{first_passed}
use Rattle.shapes.proofs.theorems.Topologies.{case_in}
use Rattle.tree_check.specs.Table.{Table, tips}
use Rattle.tree_check.specs.IsTree.{IsTree}
use Rattle.trees.specs.declared.quartet.Topology.{Topology}
use Rattle.trees.specs.Topology.{butterfly, topology}
use Rattle.marks.specs.Marks.{kept_of}
use Rattle.counting.specs.Labels.{Labels}
use Rattle.counting.specs.Kept.{kept, others}
use Rattle.counting.specs.declared.Case.{Case}
use Rattle.counting.specs.Cases.{case_of, case_number, is_case, topology_at}
use Rattle.counting.specs.Triplets.{triplets}
use Rattle.counting.specs.Holding.{holding, holding_kept}
use Rattle.counting.specs.theorems.LabelLaws.{Rising}
use Rattle.counting.proofs.theorems.LabelLaws.{rising_of, at_apart}
use Rattle.counting.proofs.theorems.KeptLaws.{kept-rising}
use Rattle.counting.specs.theorems.OtherLabels.{after_first}
use Rattle.counting.proofs.theorems.OtherLabels.{others-number, others_at}
use Rattle.counting.specs.theorems.CutDown.{CutDown, relabelled}
use Rattle.counting.proofs.theorems.CutDown.{cut_butterflies, cut_topologies}
use Rattle.counting.specs.theorems.StrikingIsPruning.{FiguresOfCut}
use Rattle.counting.proofs.theorems.StrikingIsPruning.{cut_figures}
use Rattle.counting.proofs.theorems.TripletTheorem.{triplet-topology}
use Rattle.rerooting.specs.theorems.RerootedTopology.{case_of_tests}
use Rattle.canonical.specs.IsCopy.{IsCopy}
use Rattle.canonical.specs.CanonicalCopy.{canonical_at, canonical_copy}
use Rattle.canonical.proofs.theorems.Copies.{copy_is_it}

pub copy_cut_down : (l : Labels) (t c : Table) → IsCopy l t c → CutDown l t c
copy_cut_down l t c d = record { tree = d.canonical.original.tree; labels = d.labels; splits = d.splits }

-- the topology of four labels of the copy is that of the labels of these ranks
pub copy_topologies : (l : Labels) (t c : Table) → IsTree t → Rising (tips t) l → IsCopy l t c
    → (w x y z : ℕ) → Four l.number w x y z → topology_at l t w x y z ≡ relabelled l.at (topology c w x y z)
copy_topologies l t c g r d = cut_topologies l t c g r (copy_cut_down l t c d)

-- ---- two copies

module _ (l : Labels) (t u c d : Table) (g : IsTree t) (h : IsTree u) (e : tips t ≡ tips u) (r : Rising (tips t) l)
    (p : IsCopy l t c) (q : IsCopy l u d) where
  pub copy_figures : FiguresOfCut l t u c d
  copy_figures = cut_figures l t u c d g h e r (copy_cut_down l t c p) (copy_cut_down l u d q)

  r' : Rising (tips u) l
  r' = rising_of (tips t) (tips u) l e r

  -- the case of four labels
  one_case : (w x y z : ℕ) → Four l.number w x y z
      → case_number (case_of (topology_at l t w x y z) (topology_at l u w x y z)) ≡ case_number (case_of (topology c w x y z) (topology d w x y z))
  unfolding topology_at
  one_case w x y z f =
      case_of_tests t u (tips t) (l.at w) (l.at x) (l.at y) (l.at z) (at_four f)
      ∙ (λ i. case_in
      (first_passed (bt w x y z f i) (bt w y x z (search Ne-symm) i) (bt w z x y (search Ne-symm) i))
      (first_passed (bu w x y z f i) (bu w y x z (search Ne-symm) i) (bu w z x y (search Ne-symm) i)))
      ∙ sym (case_of_tests c d l.number w x y z f)
    where
      bt : (w x y z : ℕ) → Four l.number w x y z → butterfly t (l.at w) (l.at x) (l.at y) (l.at z) ≡ butterfly c w x y z
      bt = cut_butterflies l t c g r (copy_cut_down l t c p)

      bu : (w x y z : ℕ) → Four l.number w x y z → butterfly u (l.at w) (l.at x) (l.at y) (l.at z) ≡ butterfly d w x y z
      bu = cut_butterflies l u d h r' (copy_cut_down l u d q)

      at_four : Four l.number w x y z → Four (tips t) (l.at w) (l.at x) (l.at y) (l.at z)
      at_four f = record {
        la = r.inside w f.la;
        lb = r.inside x f.lb;
        lc = r.inside y f.lc;
        ld = r.inside z f.ld;
        ab = at_apart (tips t) l r w x f.la f.lb f.ab;
        ac = at_apart (tips t) l r w y f.la f.lc f.ac;
        ad = at_apart (tips t) l r w z f.la f.ld f.ad;
        bc = at_apart (tips t) l r x y f.lb f.lc f.bc;
        bd = at_apart (tips t) l r x z f.lb f.ld f.bd;
        cd = at_apart (tips t) l r y z f.lc f.ld f.cd;
      }

  -- the triplets of two copies are the triplets seen from the label of rank 0: the sets of four that hold it
  pub copy_triplets : (k : Case) → holding (after_first l) t u (l.at 0) k ≡ triplets c d k
  unfolding holding triplets is_case topology_at
  copy_triplets k =
      ap (λ (n : ℕ). sets3 (n - 1) (λ a b e. bit (eqb (case_number (case_of
      (topology t (l.at 0) (l.at (suc a)) (l.at (suc b)) (l.at (suc e)))
      (topology u (l.at 0) (l.at (suc a)) (l.at (suc b)) (l.at (suc e))))) (case_number k)))) (sym p.labels)
      ∙ sets3_ext (tips c - 1) _ _ (λ a b e ab be le.
      ap (λ (x : ℕ). bit (eqb x (case_number k)))
      (one_case 0 (suc a) (suc b) (suc e) (omega (arith, p.labels))
      ∙ sym (ap₂ (λ (x y : Topology). case_number (case_of x y))
      (triplet-topology c p.canonical.original.tree (suc a) (suc b) (suc e) (omega arith) (omega arith) (omega arith) (omega arith)
      (omega arith))
      (triplet-topology d q.canonical.original.tree (suc a) (suc b) (suc e) (omega arith) (omega arith) (omega arith)
      (omega (arith, p.labels, q.labels)) (omega (arith, p.labels, q.labels))))))

-- ---- under the same marks

-- labels that are the same by rank
holding_ranks : (l l' : Labels) (t u : Table) (x : ℕ) (k : Case) → l.number ≡ l'.number
    → ((i : ℕ) → i < l.number → l.at i ≡ l'.at i) → holding l t u x k ≡ holding l' t u x k
unfolding holding
holding_ranks l l' t u x k e f =
    sets3_ext l.number _ _ (λ a b c ab bc lc.
    (λ i. bit (is_case (case_of
    (topology t x (f a (omega arith) i) (f b (omega arith) i) (f c lc i))
    (topology u x (f a (omega arith) i) (f b (omega arith) i) (f c lc i))) k)))
    ∙ ap (λ (n : ℕ). sets3 n (λ a b c. bit (is_case (case_of
    (topology t x (l'.at a) (l'.at b) (l'.at c)) (topology u x (l'.at a) (l'.at b) (l'.at c))) k))) e

module _ (marks : List ℕ) (t u : Table) (g : IsTree t) (h : IsTree u) (e : tips t ≡ tips u) (two : 2 ≤ kept_of marks (tips t)) where
  abbrev l : Labels
  l = kept marks (tips t)

  r : Rising (tips t) (kept marks (tips t))
  r = kept-rising marks (tips t)

  first_copy : IsCopy (kept marks (tips t)) t (canonical_copy marks t)
  first_copy = copy_is_it l t g r two

  second_copy : IsCopy (kept marks (tips t)) u (canonical_copy marks u)
  second_copy = subst (IsCopy l u) (ap (λ (n : ℕ). canonical_at (kept marks n) u) e) (copy_is_it l u h (rising_of (tips t) (tips u) l e r) two)

  -- every figure of the copies is the figure of the trees under the marks: claim sums, quartets, splits ..
  pub figures_of_copies : FiguresOfCut (kept marks (tips t)) t u (canonical_copy marks t) (canonical_copy marks u)
  figures_of_copies = copy_figures l t u (canonical_copy marks t) (canonical_copy marks u) g h e r first_copy second_copy

  -- .. and their triplets are the sets of four that hold the smallest kept label
  pub triplets_of_copies : (k : Case)
      → holding_kept t u marks ((kept marks (tips t)).at 0) k ≡ triplets (canonical_copy marks t) (canonical_copy marks u) k
  triplets_of_copies k =
      let some : 1 ≤ kept_of marks (tips t) = omega arith in
      holding_ranks (others marks (l.at 0) (tips t)) (after_first l) t u (l.at 0) k
      (others-number marks (tips t) some) (others_at marks (tips t) some)
      ∙ copy_triplets l t u (canonical_copy marks t) (canonical_copy marks u) g h e r first_copy second_copy k
