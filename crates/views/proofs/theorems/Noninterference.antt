-- What a viewer is told depends on the visible labels and on their topologies in each tree, and on nothing else.
-- Assumes nothing.
use Rattle.std.specs.Prelude.{◌≡◌, refl, Bool, false, not, ◌≢◌, T, length}
use Rattle.std.proofs.Math.Path.{sym, ap, fun_ext}
use Rattle.std.proofs.Common.{◌∙◌, subst, arith}
use mathlib.Core.List.{List, [], ◌∷◌}
use Prim.Native.Nat.{ℕ, zero, suc, ◌≤◌, ◌<◌}
use Rattle.std.proofs.Math.Decide.{dec_lt}
use Rattle.sums.specs.Counts.{count}
use Rattle.sums.specs.Tests.{some}
use Rattle.sums.specs.theorems.BitLaws.{T-bit, bit-T}
use Rattle.sums.specs.theorems.TestLaws.{not-some-iff, not-not}
use Rattle.tree_check.specs.Table.{Table, word, tips}
use Rattle.tree_check.specs.Refusals.{refusal, if_accepted}
use Rattle.tree_check.specs.IsTree.{IsTree}
use Rattle.tree_check.specs.TreeOrder.{tree_order}
use Rattle.tree_check.specs.theorems.RefusalLaws.{Kept, accepted, kept_append, refusal-kept, if_accepted_lem}
use Rattle.tree_check.specs.theorems.TreeCheck.{tree_kept}
use Rattle.asked_labels.specs.LabelOrder.{two_equal}
use Rattle.asked_labels.specs.theorems.LabelOrderLaws.{Different, different_iff}
use Rattle.trees.specs.Topology.{topology, topology_under}
use Rattle.trees.specs.declared.quartet.Topology.{Topology}
use Rattle.trees.specs.declared.quartet.Topology.TheVariants.{Star}
use Rattle.trees.specs.declared.quartet.TopologyAnswer.{TopologyAnswer}
use Rattle.counting.specs.Labels.{Labels}
use Rattle.counting.specs.theorems.LabelLaws.{Rising}
use Rattle.counting.specs.Kept.{passing}
use Rattle.counting.specs.declared.Case.TheVariants.{A, B, C, D, E}
use Rattle.counting.specs.Cases.{topology_at}
use Rattle.counting.proofs.theorems.KeptLaws.{ranked, rank_of_lem, passing-rising, same_passing}
use Rattle.pair_check.specs.PairOrder.{IsPair}
use Rattle.levels.specs.Levels.{is_visible, levels_order}
use Rattle.levels.specs.ViewTopology.{levelled_order, hidden_order, view_label_order, view_topology}
use Rattle.levels.specs.theorems.LevelsCheck.{AreLevels, none_past, levels_kept}
use Rattle.views.specs.View.{visible, view_over, view_answer}
use Rattle.views.specs.theorems.SameView.{Inputs, Accepted, Sees, SeesFour, SameView, ToldTheSame}
use Rattle.views.proofs.theorems.ViewCheck.{view_check}
use Rattle.views.specs.theorems.SameTopologies.{SameSets, SameSeen}
use Rattle.views.proofs.theorems.SameTopologies.{same_in_any_order, same_seen}

-- ---- one table

module _ (t : Table) (g : IsTree t) (levels : List ℕ) (viewer : ℕ) (a : AreLevels levels viewer (tips t)) where
  levelled_kept : Kept (levelled_order t levels viewer)
  unfolding levelled_order
  levelled_kept = (kept_append (tree_order t) (levels_order levels viewer (tips t))).1 (tree_kept t g, (levels_kept levels viewer (tips t)).1 a)

  -- only what is asked is left to judge
  pub asked_alone : (xs : List ℕ) → refusal (view_label_order t levels viewer xs) ≡ refusal (hidden_order levels viewer xs)
  unfolding view_label_order
  asked_alone xs = refusal-kept (levelled_order t levels viewer) _ levelled_kept

  -- the visible labels, and no others, are labels of the table
  few : (x : ℕ) → tips t ≤ x → is_visible levels viewer x ≡ false
  few x l = none_past levels viewer x (omega (arith, a.long))

-- ---- the labels that are asked about

-- the same words are refused
same_refusal : (levels levels' : List ℕ) (viewer viewer' : ℕ)
    → ((x : ℕ) → is_visible levels viewer x ≡ is_visible levels' viewer' x) → (xs : List ℕ)
    → refusal (hidden_order levels viewer xs) ≡ refusal (hidden_order levels' viewer' xs)
unfolding hidden_order
same_refusal levels levels' viewer viewer' h xs = ap (λ (q : ℕ → Bool). refusal (
    (10, some (length xs) (λ i. not (q (word xs i)))) ∷ (11, two_equal xs) ∷ [])) (fun_ext h)

-- an answer that counts only if it is accepted
same_if : (k : ℕ) (x x' : Topology) → (k ≡ 0 → x ≡ x') → if_accepted k x Star ≡ if_accepted k x' Star
unfolding if_accepted
same_if zero x x' h = h refl
same_if (suc k) x x' h = refl

-- labels that are accepted are visible, and different
asked_visible : (levels : List ℕ) (viewer : ℕ) (xs : List ℕ) → refusal (hidden_order levels viewer xs) ≡ 0
    → ((i : ℕ) → i < length xs → T (is_visible levels viewer (word xs i))) × Different xs
unfolding hidden_order
asked_visible levels viewer xs e =
    let k = (accepted ((10, some (length xs) (λ i. not (is_visible levels viewer (word xs i)))) ∷ (11, two_equal xs) ∷ [])
    (omega arith, (omega arith, tt))).0 e in
    let s = (not-some-iff (length xs) (λ i. not (is_visible levels viewer (word xs i)))).0 k.0 in
    (λ i l. (not-not (is_visible levels viewer (word xs i))).0 (s i l), (different_iff xs).0 k.1.0)

-- two trees with the same topologies of each set of four visible labels, n and n' tips
module _ (t t' : Table) (g : IsTree t) (g' : IsTree t') (levels levels' : List ℕ) (viewer viewer' : ℕ)
    (a : AreLevels levels viewer (tips t)) (a' : AreLevels levels' viewer' (tips t'))
    (labels : (x : ℕ) → is_visible levels viewer x ≡ is_visible levels' viewer' x)
    (same : (w x y z : ℕ) → w < x → x < y → y < z → T (is_visible levels viewer w) → T (is_visible levels viewer x)
    → T (is_visible levels viewer y) → T (is_visible levels viewer z) → topology t w x y z ≡ topology t' w x y z) where
  abbrev l : Labels
  l = visible levels viewer (tips t)

  -- the visible labels are the same, whatever n is
  pub same_visible : visible levels viewer (tips t) ≡ visible levels' viewer' (tips t')
  same_visible =
      same_passing (is_visible levels viewer) (tips t) (tips t') (few t g levels viewer a)
      (λ x m. labels x ∙ few t' g' levels' viewer' a' x m)
      ∙ ap (λ (q : ℕ → Bool). passing q (tips t')) (fun_ext labels)

  rising : Rising (tips t) l
  rising = passing-rising (is_visible levels viewer) (tips t)

  rising' : Rising (tips t') l
  rising' = subst (Rising (tips t')) (sym same_visible) (passing-rising (is_visible levels' viewer') (tips t'))

  seen_at : (i : ℕ) → i < l.number → T (is_visible levels viewer (l.at i))
  seen_at i m = T-bit (is_visible levels viewer (l.at i))
      (omega (arith, (ranked (is_visible levels viewer) (tips t) i m).bit_kept))

  pub same_sets : SameSets l t t'
  unfolding topology_at
  same_sets w x y z wx xy yz m = same (l.at w) (l.at x) (l.at y) (l.at z)
      (rising.rises w x wx (omega arith)) (rising.rises x y xy (omega arith)) (rising.rises y z yz m)
      (seen_at w (omega arith)) (seen_at x (omega arith)) (seen_at y (omega arith)) (seen_at z m)

  -- the rank of a visible label
  inside : (x : ℕ) → T (is_visible levels viewer x) → x < tips t
  inside x v = elim (dec_lt x (tips t)) [
    | yes b ↦ b
    | no b ↦ absurd (subst T (few t g levels viewer a x (omega arith)) v)
  ]

  rank : (x : ℕ) → T (is_visible levels viewer x)
      → (i : ℕ) × (i < l.number) × (l.at i ≡ x)
  rank x v =
      let r = rank_of_lem (is_visible levels viewer) (tips t) x (inside x v) (bit-T (is_visible levels viewer x) v) in
      (count x (is_visible levels viewer), r.0, r.1)

  -- four different visible labels, in any order
  same_four : (p q r s : ℕ) → T (is_visible levels viewer p) → T (is_visible levels viewer q) → T (is_visible levels viewer r)
      → T (is_visible levels viewer s) → Different (p ∷ q ∷ r ∷ s ∷ []) → topology t p q r s ≡ topology t' p q r s
  unfolding topology_at
  same_four p q r s vp vq vr vs d =
      let i = rank p vp in
      let j = rank q vq in
      let k = rank r vr in
      let m = rank s vs in
      let e = same_in_any_order l t t' g g' rising rising' same_sets i.0 j.0 k.0 m.0 (record {
        la = i.1;
        lb = j.1;
        lc = k.1;
        ld = m.1;
        ab = apart p q i j (d 1 0 (omega arith) (omega arith));
        ac = apart p r i k (d 2 0 (omega arith) (omega arith));
        ad = apart p s i m (d 3 0 (omega arith) (omega arith));
        bc = apart q r j k (d 2 1 (omega arith) (omega arith));
        bd = apart q s j m (d 3 1 (omega arith) (omega arith));
        cd = apart r s k m (d 3 2 (omega arith) (omega arith));
      }) in
      rw (i.2, j.2, k.2, m.2) at e
    where
      apart : (p q : ℕ) (i : (i : ℕ) × (i < l.number) × (l.at i ≡ p)) (j : (i : ℕ) × (i < l.number) × (l.at i ≡ q))
          → p ≢ q → i.0 ≢ j.0
      apart p q i j d e = d (sym i.2 ∙ ap l.at e ∙ j.2)

  -- what the topology's call tells of any four words
  pub same_topology_told : (p q r s : ℕ) → view_topology t levels viewer p q r s ≡ view_topology t' levels' viewer' p q r s
  unfolding view_topology topology_under
  same_topology_told p q r s =
      let xs : List ℕ = p ∷ q ∷ r ∷ s ∷ [] in
      let told : ℕ → Topology → TopologyAnswer = λ k x. record { refusal = k; topology = if_accepted k x Star } in
      ap (λ (k : ℕ). told k (topology t p q r s)) (asked_alone t g levels viewer a xs)
      ∙ ap (λ (x : Topology). record { refusal = refusal (hidden_order levels viewer xs); topology = x })
      (same_if (refusal (hidden_order levels viewer xs)) (topology t p q r s) (topology t' p q r s) (λ z.
      let v = asked_visible levels viewer xs z in
      same_four p q r s (v.0 0 (omega arith)) (v.0 1 (omega arith)) (v.0 2 (omega arith)) (v.0 3 (omega arith)) v.1))
      ∙ ap (λ (k : ℕ). told k (topology t' p q r s)) (same_refusal levels levels' viewer viewer' labels xs ∙ sym (asked_alone t' g' levels' viewer' a' xs))

-- ---- two inputs

module _ (k k' : Inputs) (a : Accepted k) (a' : Accepted k') (v : SameView k k') where
  pair : IsPair k.first k.second
  pair = a.with_cells.pair

  pair' : IsPair k'.first k'.second
  pair' = a'.with_cells.pair

  later : AreLevels k.levels k.viewer (tips k.second)
  later = subst (AreLevels k.levels k.viewer) pair.same_tips a.levelled

  later' : AreLevels k'.levels k'.viewer (tips k'.second)
  later' = subst (AreLevels k'.levels k'.viewer) pair'.same_tips a'.levelled

  firsts : (w x y z : ℕ) → w < x → x < y → y < z → Sees k w → Sees k x → Sees k y → Sees k z
      → topology k.first w x y z ≡ topology k'.first w x y z
  firsts w x y z wx xy yz vw vx vy vz =
      v.first w x y z (record { rising = (wx, xy, yz); all = (vw, vx, vy, vz) })

  seconds : (w x y z : ℕ) → w < x → x < y → y < z → Sees k w → Sees k x → Sees k y → Sees k z
      → topology k.second w x y z ≡ topology k'.second w x y z
  seconds w x y z wx xy yz vw vx vy vz =
      v.second w x y z (record { rising = (wx, xy, yz); all = (vw, vx, vy, vz) })

  abbrev seen : Labels
  seen = visible k.levels k.viewer (tips k.first)

  same_first : seen ≡ visible k'.levels k'.viewer (tips k'.first)
  same_first = same_visible k.first k'.first pair.first pair'.first k.levels k'.levels k.viewer k'.viewer
      a.levelled a'.levelled v.labels firsts

  figures : SameSeen seen k.first k.second k'.first k'.second
  figures = same_seen seen k.first k.second k'.first k'.second pair.first pair.second pair'.first pair'.second
      r (subst (λ (n : ℕ). Rising n seen) pair.same_tips r) r' (subst (λ (n : ℕ). Rising n seen) pair'.same_tips r')
      (same_sets k.first k'.first pair.first pair'.first k.levels k'.levels k.viewer k'.viewer
      a.levelled a'.levelled v.labels firsts)
      (subst (λ (n : ℕ). SameSets (visible k.levels k.viewer n) k.second k'.second) (sym pair.same_tips)
      (same_sets k.second k'.second pair.second pair'.second k.levels k'.levels k.viewer k'.viewer
      later later' v.labels seconds))
    where
      r : Rising (tips k.first) seen
      r = passing-rising (is_visible k.levels k.viewer) (tips k.first)

      r' : Rising (tips k'.first) seen
      r' = subst (Rising (tips k'.first)) (sym same_first) (passing-rising (is_visible k'.levels k'.viewer) (tips k'.first))

  same_view : view_over seen k.first k.second ≡ view_over seen k'.first k'.second
  same_view =
      let c = figures.counts in
      rw (c A, c B, c C, c D, c E, figures.first_splits, figures.second_splits, figures.common, figures.robinson_foulds_same) refl

  view_of : (k : Inputs) → Accepted k → view_answer k.first k.second k.levels k.viewer k.cells
      ≡ view_over (visible k.levels k.viewer (tips k.first)) k.first k.second
  unfolding view_answer
  view_of k a = if_accepted_lem _ _ _ ((view_check k.first k.second k.levels k.viewer k.cells).1 a)

  -- two file pairs with the same visible labels, and the same topologies of these in each tree, tell a viewer the same
  pub noninterference : ToldTheSame k k'
  noninterference = record {
    view = view_of k a ∙ same_view
        ∙ ap (λ (m : Labels). view_over m k'.first k'.second) same_first ∙ sym (view_of k' a');
    topology_first = same_topology_told k.first k'.first pair.first pair'.first k.levels k'.levels
        k.viewer k'.viewer a.levelled a'.levelled v.labels firsts;
    topology_second = same_topology_told k.second k'.second pair.second pair'.second k.levels k'.levels
        k.viewer k'.viewer later later' v.labels seconds;
  }

-- of one pair: the trees may change around the hidden labels, with the levels, the viewer and the cells as they are
pub one_pair : (t u t' u' : Table) (levels : List ℕ) (viewer cells : ℕ)
    → let k : Inputs = record { first = t; second = u; levels = levels; viewer = viewer; cells = cells } in
    let k' : Inputs = record { first = t'; second = u'; levels = levels; viewer = viewer; cells = cells } in
    Accepted k → Accepted k'
    → ((a b c d : ℕ) → SeesFour k a b c d → topology t a b c d ≡ topology t' a b c d)
    → ((a b c d : ℕ) → SeesFour k a b c d → topology u a b c d ≡ topology u' a b c d)
    → ToldTheSame k k'
one_pair t u t' u' levels viewer cells a a' f s = noninterference _ _ a a' (record { labels = λ x. refl; first = f; second = s })
