-- Tables of as many tips and with the same splits give the same topologies and figures.
-- Assumes nothing.
use Rattle.std.specs.Prelude.{◌≡◌, refl}
use Rattle.std.proofs.Math.Path.{sym, ap, ap₂}
use Rattle.std.proofs.Common.{◌∙◌, arith}
use Rattle.std.proofs.Math.Logic.{Ne-symm}
use mathlib.Core.List.{List, [], ◌∷◌}
use Prim.Native.Nat.{ℕ, zero, suc, ◌*◌}
use Rattle.sums.specs.Bits.{bit}
use Rattle.sums.specs.SetsOfFour.{sets4}
use Rattle.sums.specs.theorems.SetLaws.{sets4_ext}
use Rattle.shapes.specs.theorems.FourLabels.{Four}
use Rattle.shapes.proofs.theorems.SameFours.{same_fours-iff}
use Rattle.shapes.proofs.theorems.SameSplits.{same_splits-refl}
use Rattle.trees.specs.declared.quartet.Topology.{Topology}
use Rattle.trees.specs.declared.quartet.Topology.TheVariants.{Star}
use Rattle.trees.specs.declared.quartet.TopologyAnswer.{TopologyAnswer}
use Rattle.tree_check.specs.Table.{Table, tips, beyond}
use Rattle.tree_check.specs.IsTree.{IsTree}
use Rattle.tree_check.specs.Refusals.{refusal, if_accepted}
use Rattle.asked_labels.specs.LabelOrder.{asked_order, label_order}
use Rattle.asked_labels.specs.theorems.LabelOrderLaws.{AllBelow, Different, label_check}
use Rattle.walks.specs.theorems.WalkOrderLaws.{tree_accepted}
use Rattle.trees.specs.Topology.{butterfly, topology, topology_under, topology_answer}
use Rattle.counting.specs.Labels.{Labels, all}
use Rattle.counting.specs.theorems.LabelLaws.{Rising}
use Rattle.counting.proofs.theorems.LabelLaws.{all-rising, all_of, rising_of, at_four}
use Rattle.counting.specs.declared.Case.{Case}
use Rattle.counting.specs.declared.Case.TheVariants.{A, B, C, D}
use Rattle.counting.specs.Cases.{case_of, is_case, topology_at, quartets}
use Rattle.counting.specs.SplitCounts.{beyond_at, common_splits, robinson_foulds, HaveSameSplits}
use Rattle.counting.specs.Triplets.{triplets}
use Rattle.counting.proofs.theorems.TreeShape.{shape_of}
use Rattle.counting.specs.theorems.CountingTheorem.{ClaimCounts}
use Rattle.counting.proofs.theorems.CountingTheorem.{claim_counts}
use Rattle.counting.proofs.theorems.TreeSplits.{common_from_either, same_splits_as_many, same_splits_in_common}
use Rattle.counting.specs.theorems.TripletTheorem.{holds_tip0, quartets_with_tip0}
use Rattle.counting.proofs.theorems.TripletTheorem.{triplets_are_quartets}
use Rattle.counting.specs.theorems.LabelsAlone.{SameFigures, AloneAt, LabelsAlone}

-- ---- topologies

-- an answer that counts only if it is accepted
same_if_accepted : (k : ℕ) (x x' y : Topology) → (k ≡ 0 → x ≡ x') → if_accepted k x y ≡ if_accepted k x' y
unfolding if_accepted
same_if_accepted zero x x' y h = h refl
same_if_accepted (suc k) x x' y h = refl

-- labels that are accepted are four different ones
asked_four : (n a b c d : ℕ) → AllBelow n (a ∷ b ∷ c ∷ d ∷ []) → Different (a ∷ b ∷ c ∷ d ∷ []) → Four n a b c d
asked_four n a b c d l m = record {
  la = l 0 (omega arith);
  lb = l 1 (omega arith);
  lc = l 2 (omega arith);
  ld = l 3 (omega arith);
  ab = m 1 0 (omega arith) (omega arith);
  ac = m 2 0 (omega arith) (omega arith);
  ad = m 3 0 (omega arith) (omega arith);
  bc = m 2 1 (omega arith) (omega arith);
  bd = m 3 1 (omega arith) (omega arith);
  cd = m 3 2 (omega arith) (omega arith);
}

-- two tables with the same splits among the labels l
module _ (l : Labels) (t t' : Table) (g : IsTree t) (g' : IsTree t') (r : Rising (tips t) l) (r' : Rising (tips t') l)
    (s : HaveSameSplits l t t') where
  pub same_butterflies : (a b c d : ℕ) → Four l.number a b c d
      → butterfly t (l.at a) (l.at b) (l.at c) (l.at d) ≡ butterfly t' (l.at a) (l.at b) (l.at c) (l.at d)
  unfolding butterfly beyond beyond_at shape_of
  same_butterflies = (same_fours-iff (shape_of t g l r) (shape_of t' g' l r')).1 s

  pub same_topologies : (a b c d : ℕ) → Four l.number a b c d → topology_at l t a b c d ≡ topology_at l t' a b c d
  unfolding topology topology_at
  same_topologies a b c d f = rw (
    same_butterflies a b c d f,
    same_butterflies a c b d (search Ne-symm),
    same_butterflies a d b c (search Ne-symm),
  )

-- .. among all labels
module _ (t t' : Table) (g : IsTree t) (g' : IsTree t') (e : tips t ≡ tips t') (s : HaveSameSplits (all (tips t)) t t') where
  whole_topologies : (a b c d : ℕ) → Four (tips t) a b c d → topology t a b c d ≡ topology t' a b c d
  unfolding topology_at
  whole_topologies = same_topologies (all (tips t)) t t' g g' (all-rising (tips t)) (all_of (tips t) (tips t') (sym e)) s

  -- have them among any
  same_among : (l : Labels) → Rising (tips t) l → HaveSameSplits l t t'
  unfolding butterfly beyond beyond_at shape_of
  same_among l r = (same_fours-iff (shape_of t g l r) (shape_of t' g' l (rising_of (tips t) (tips t') l e r))).0 (λ a b c d f.
      same_butterflies (all (tips t)) t t' g g' (all-rising (tips t)) (all_of (tips t) (tips t') (sym e)) s _ _ _ _ (at_four (tips t) l r a b c d f))

  -- 10 and 11 are told of n and the labels
  same_number : (xs : List ℕ) → refusal (label_order t xs) ≡ refusal (label_order t' xs)
  unfolding label_order
  same_number xs =
      tree_accepted t _ g ∙ ap (λ (n : ℕ). refusal (asked_order n xs)) e ∙ sym (tree_accepted t' _ g')

  same_answers : (a b c d : ℕ) → topology_answer t a b c d ≡ topology_answer t' a b c d
  unfolding topology_answer topology_under
  same_answers a b c d =
      let xs : List ℕ = a ∷ b ∷ c ∷ d ∷ [] in
      let told : ℕ → Topology → TopologyAnswer = λ k x. record { refusal = k; topology = x } in
      ap (told (refusal (label_order t xs)))
      (same_if_accepted (refusal (label_order t xs)) (topology t a b c d) (topology t' a b c d) Star (λ z.
      let r = (label_check t xs).0 z in whole_topologies a b c d (asked_four (tips t) a b c d r.1 r.2)))
      ∙ ap (λ (k : ℕ). told k (if_accepted k (topology t' a b c d) Star)) (same_number xs)

-- ---- figures

-- two pairs of tables with the same splits, the first of each and the second of each
module _ (l : Labels) (t u t' u' : Table) (g : IsTree t) (h : IsTree u) (g' : IsTree t') (h' : IsTree u')
    (e : tips t ≡ tips u) (et : tips t ≡ tips t') (eu : tips u ≡ tips u') (rt : Rising (tips t) l)
    (s : HaveSameSplits l t t') (r : HaveSameSplits l u u') where
  ru : Rising (tips u) l
  ru = rising_of (tips t) (tips u) l e rt

  same_counts : (k : Case) → quartets l t u k ≡ quartets l t' u' k
  unfolding quartets
  same_counts k =
      sets4_ext l.number _ _ (λ w x y z wx xy yz m.
      ap₂ (λ (p q : Topology). bit (is_case (case_of p q) k))
      (same_topologies l t t' g g' rt (rising_of (tips t) (tips t') l et rt) s w x y z (omega arith))
      (same_topologies l u u' h h' ru (rising_of (tips u) (tips u') l eu ru) r w x y z (omega arith)))

  same_common : common_splits l t u ≡ common_splits l t' u'
  same_common =
      same_splits_in_common l t u u' r
      ∙ common_from_either l t u'
      ∙ same_splits_in_common l u' t t' s
      ∙ common_from_either l u' t'

  pub same_figures : SameFigures l t u t' u'
  same_figures = record {
    first = omega (arith, c.first, c'.first, a, b, same_counts C);
    second = omega (arith, c.second, c'.second, a, b, same_counts D);
    same = omega (arith, c.same, c'.same, a);
    different = omega (arith, c.different, c'.different, b);
    counts = same_counts;
    distance = omega (arith, b, same_counts C, same_counts D);
    first_splits = same_splits_as_many l t t' s;
    second_splits = same_splits_as_many l u u' r;
    common = same_common;
    robinson_foulds_same = unfold robinson_foulds in
        rw (same_splits_as_many l t t' s, same_splits_as_many l u u' r, same_common);
  }
    where
      c : ClaimCounts l t u
      c = claim_counts l t u g h e rt

      c' : ClaimCounts l t' u'
      c' = claim_counts l t' u' g' h' (omega arith) (rising_of (tips t) (tips t') l et rt)

      a : quartets l t u A ≡ quartets l t' u' A
      a = same_counts A

      b : quartets l t u B ≡ quartets l t' u' B
      b = same_counts B

-- a triplet is the topology of its labels with tip 0
module _ (t u t' u' : Table) (g : IsTree t) (h : IsTree u) (g' : IsTree t') (h' : IsTree u')
    (e : tips t ≡ tips u) (et : tips t ≡ tips t') (eu : tips u ≡ tips u')
    (s : HaveSameSplits (all (tips t)) t t') (r : HaveSameSplits (all (tips u)) u u') where
  same_triplets : (k : Case) → triplets t u k ≡ triplets t' u' k
  unfolding quartets_with_tip0
  same_triplets k =
      triplets_are_quartets t u g h e k
      ∙ sets4_ext (tips t) _ _ (λ w x y z wx xy yz l.
      ap₂ (λ (p q : Topology). holds_tip0 w x y z * bit (is_case (case_of p q) k))
      (whole_topologies t t' g g' et s w x y z (omega arith))
      (whole_topologies u u' h h' eu r w x y z (omega arith)))
      ∙ ap (λ (n : ℕ). sets4 n (λ w x y z.
      holds_tip0 w x y z * bit (is_case (case_of (topology t' w x y z) (topology u' w x y z)) k))) et
      ∙ sym (triplets_are_quartets t' u' g' h' (omega arith) k)

-- the same splits among the labels l are enough for what is counted of them, ..
pub alone_at : (l : Labels) (t t' : Table) → IsTree t → IsTree t' → tips t ≡ tips t' → Rising (tips t) l → HaveSameSplits l t t'
    → AloneAt l t t'
alone_at l t t' g g' e r s = record {
  topologies = same_topologies l t t' g g' r (rising_of (tips t) (tips t') l e r) s;
  as_first = λ u h q. same_figures l t u t' u g h g' h q e refl r s (same_splits-refl _ _ _);
  as_second = λ u h q. same_figures l u t u t' h g h g' q refl e (rising_of (tips t) (tips u) l (sym q) r) (same_splits-refl _ _ _) s;
}

-- .. and among all labels for everything
pub labels_alone : (t t' : Table) → IsTree t → IsTree t' → tips t ≡ tips t' → HaveSameSplits (all (tips t)) t t' → LabelsAlone t t'
labels_alone t t' g g' e s = record {
  answers = same_answers t t' g g' e s;
  figures = λ l r. alone_at l t t' g g' e r (same_among t t' g g' e s l r);
  triplets_first = λ u h q. same_triplets t u t' u g h g' h q e refl s (same_splits-refl _ _ _);
  triplets_second = λ u h q. same_triplets u t u t' h g h g' q refl e (same_splits-refl _ _ _) s;
}
