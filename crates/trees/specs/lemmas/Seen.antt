-- What `witness_of` answers, as its code finds it: the first edge that shows a pairing, or none.
-- Assumes nothing.
use Rattle.std.specs.Prelude.{◌≡◌, List, [], ◌∷◌, ◌≢◌, T, length}
use Rattle.std.proofs.Math.Path.{refl, sym, ap, ap₂}
use Rattle.std.proofs.Common.{◌∙◌, subst}
use Prim.Native.Nat.{ℕ, zero, suc, ◌-◌, ◌≤◌, ◌<◌}
use Rattle.std.proofs.Math.Decide.{ℕ_discrete}
use native.Mathlib.Omega.{arith}
use Rattle.table_words.specs.Sizes.{node_room}
use Rattle.sums.specs.Tests.{some}
use Rattle.sums.specs.theorems.BitLaws.{T_true, T_false}
use Rattle.sums.specs.theorems.TestLaws.{some-iff, first_is}
use Rattle.shapes.specs.Quartets.{TwoAndTwo, with_b, with_c, with_d}
use Rattle.shapes.proofs.theorems.AncestorLaws.{anc_root}
use Rattle.shapes.proofs.theorems.Meeting.{parts_four-iff, meet_is_centre}
use Rattle.tree_check.specs.Table.{Table, word, tips, nodes, parents, labels, parent, node_below, node_of}
use Rattle.tree_check.specs.lemmas.TableParts.{parents-length}
use Rattle.tree_check.specs.Refusals.{refusal, if_accepted}
use Rattle.tree_check.specs.theorems.RefusalLaws.{if_accepted_lem, if_refused}
use Rattle.tree_check.specs.theorems.RootedTables.{rooted}
use Rattle.tree_check.specs.IsTree.{IsTree}
use Rattle.tree_check.specs.TreeOrder.{tree_order}
use Rattle.walks.specs.theorems.NodeLabels.{node_at}
use Rattle.walks.specs.theorems.WalkOrderLaws.{tree_refused, tree_accepted}
use Rattle.trees.specs.declared.quartet.Topology.{Topology}
use Rattle.trees.specs.declared.quartet.Topology.TheVariants.{Star}
use Rattle.trees.specs.declared.witness.Witness.{Witness}
use Rattle.trees.specs.declared.witness.Witness.TheVariants.{Edge, Meet}
use Rattle.trees.specs.declared.witness.WitnessAnswer.{WitnessAnswer}
use Rattle.trees.specs.Centre.{centre}
use Rattle.asked_labels.specs.LabelOrder.{asked_order, label_order}
use Rattle.trees.specs.Topology.{topology, butterfly_of}
use Rattle.trees.specs.Witness.{parts_labels, parting_edge, meeting_node, witness, witness_answer, is_edge, WitnessTold}
use Rattle.asked_labels.specs.theorems.LabelOrderLaws.{label_check}
use Rattle.trees.specs.theorems.WitnessLaws.{butterfly_by_edge, witness_shown}
use Rattle.trees.specs.lemmas.CentreOutcomes.{centre_over, centre_of-parts}
use Rattle.trees.specs.lemmas.Sides.{sides, pairing, pairing-le, apart_shown, SidesAre, Shown, topology_shown}
use Rattle.trees.specs.lemmas.TopologyOutcomes.{shown_at, topology_shown_lem}

-- edge i is the first below m that shows a pairing, or i is 0 and none does
pub record ShownEdge (cells : List ℕ) (m i : ℕ) : Type 0 where
  pub shown : i ≢ 0 → (i < m) × (pairing (word cells i) ≢ 0)
  pub before : i ≢ 0 → (j : ℕ) → 1 ≤ j → j < i → pairing (word cells j) ≡ 0
  pub none : i ≡ 0 → (j : ℕ) → 1 ≤ j → j < m → pairing (word cells j) ≡ 0

pub edge_low : (cells : List ℕ) (m i : ℕ) → m ≤ node_room → ShownEdge cells m i → i < node_room
edge_low cells m i l q = elim (ℕ_discrete i 0) [ yes z ↦ omega arith | no d ↦ omega (arith, (q.shown d).0) ]

unfoldable pub witness_at : ℕ → ℕ → Witness
witness_at zero v = Meet v
witness_at (suc i) v = Edge (suc i)

pub at_none : (i v w : ℕ) → i ≡ 0 → w ≡ v → Meet w ≡ witness_at i v
unfolding witness_at
at_none i v w z e = rw z (ap Meet e)

pub at_edge : (i v w : ℕ) → i ≢ 0 → w ≡ i → Edge w ≡ witness_at i v
unfolding witness_at
at_edge zero v w n e = absurd (n refl)
at_edge (suc i) v w n e = ap Edge e

abbrev pub witnessed_as : ℕ → Topology → Witness → WitnessAnswer
witnessed_as k x w = record { refusal = k; topology = x; witness = w }

-- the answer over the two parts of a table
pub record Seen (ps ls : List ℕ) (a b c d : ℕ) (r : WitnessAnswer) : Type 0 where
  pub cells : List ℕ
  pub sides_are : SidesAre ps ls a b c d cells
  pub edge : ℕ
  pub edge_is : ShownEdge cells (length ps) edge
  pub answer_is : r ≡ witnessed_as 0 (topology_shown (pairing (word cells edge)) a b c d) (witness_at edge (centre_over ps ls a b c))

-- ---- of a table

module _ (t : Table) (a b c d : ℕ) where
  abbrev number : ℕ
  number = refusal (label_order t (a ∷ b ∷ c ∷ d ∷ []))

  answered : (k : ℕ) → number ≡ k
      → witness_answer t a b c d ≡ witnessed_as k (if_accepted k (topology t a b c d) Star) (if_accepted k (witness t a b c d) (Meet 0))
  unfolding witness_answer
  answered k e =
      ap (λ (j : ℕ). witnessed_as j (if_accepted j (topology t a b c d) Star) (if_accepted j (witness t a b c d) (Meet 0))) e

  refused : (k : ℕ) → number ≡ k → k ≢ 0 → witness_answer t a b c d ≡ witnessed_as k Star (Meet 0)
  refused k e n =
      answered k e
      ∙ ap₂ (witnessed_as k) (if_refused k (topology t a b c d) Star n) (if_refused k (witness t a b c d) (Meet 0) n)

  -- the table is refused
  pub witness_refused : (k : ℕ) → refusal (tree_order t) ≡ k → k ≢ 0
      → witness_answer t a b c d ≡ witnessed_as k Star (Meet 0)
  unfolding label_order
  witness_refused k e n = refused k (tree_refused t _ k e n) n

  module _ (g : IsTree t) where
    -- the labels are refused
    pub witness_asked_refused : (k : ℕ) → refusal (asked_order (tips t) (a ∷ b ∷ c ∷ d ∷ [])) ≡ k → k ≢ 0
        → witness_answer t a b c d ≡ witnessed_as k Star (Meet 0)
    unfolding label_order
    witness_asked_refused k e n = refused k (tree_accepted t _ g ∙ e) n

    -- an edge shows a pairing exactly if it parts the four two and two
    parting : (i : ℕ) → pairing (sides t i a b c d) ≢ 0
        → TwoAndTwo (parent t) i (node_of t a) (node_of t b) (node_of t c) (node_of t d)
    parting i n = elim (ℕ_discrete k 1) [
      | yes e ↦ with_b ((apart_shown t i a b c d).0.0 e)
      | no x ↦ elim (ℕ_discrete k 2) [
        | yes e ↦ with_c ((apart_shown t i a b c d).1.0 e)
        | no y ↦ with_d ((apart_shown t i a b c d).2.0 (omega (arith, n, x, y, pairing-le (sides t i a b c d))))
      ]
    ]
      where
        k : ℕ
        k = pairing (sides t i a b c d)

    not_parting : (i : ℕ) → pairing (sides t i a b c d) ≡ 0
        → TwoAndTwo (parent t) i (node_of t a) (node_of t b) (node_of t c) (node_of t d) → ⊥
    not_parting i e (with_b h) = omega (arith, e, (apart_shown t i a b c d).0.1 h)
    not_parting i e (with_c h) = omega (arith, e, (apart_shown t i a b c d).1.1 h)
    not_parting i e (with_d h) = omega (arith, e, (apart_shown t i a b c d).2.1 h)

    module _ (cells : List ℕ) (h : SidesAre (parents t) (labels t) a b c d cells) where
      parts_at : (j : ℕ) → suc j < nodes t → pairing (word cells (suc j)) ≢ 0 → T (parts_labels t a b c d j)
      unfolding parts_labels
      parts_at j l n =
          (parts_four-iff (parent t) (suc j) _ _ _ _).1 (parting (suc j) (λ e. n (sym (shown_at t a b c d g cells h (suc j) l) ∙ e)))

      parts-not : (j : ℕ) → suc j < nodes t → pairing (word cells (suc j)) ≡ 0 → T (parts_labels t a b c d j) → ⊥
      unfolding parts_labels
      parts-not j l e p =
          not_parting (suc j) (shown_at t a b c d g cells h (suc j) l ∙ e) ((parts_four-iff (parent t) (suc j) _ _ _ _).0 p)

      -- all four labels are at or below node 0, which shows no pairing
      root_shows_none : pairing (word cells 0) ≡ 0
      unfolding parent
      root_shows_none =
          let r = rooted t g in
          let few = g.tips_range in
          let many = g.nodes_range in
          let e : word cells 0 ≡ 15 = omega (
            arith,
            h.sides_is 0 (omega (arith, parents-length t g.words)),
            anc_root (parent t) r (node_below (word (labels t)) (length (labels t)) a),
            anc_root (parent t) r (node_below (word (labels t)) (length (labels t)) b),
            anc_root (parent t) r (node_below (word (labels t)) (length (labels t)) c),
            anc_root (parent t) r (node_below (word (labels t)) (length (labels t)) d),
          ) in
          ap pairing e ∙ (unfold pairing in refl)

      module _ (i : ℕ) (q : ShownEdge cells (length (parents t)) i) where
        long : length (parents t) ≡ nodes t
        long = parents-length t g.words

        -- the pairing that the edge shows, or none
        shown_pairing : Shown cells (nodes t) (pairing (word cells i))
        shown_pairing = elim (ℕ_discrete i 0) [
          | yes z ↦ record {
            shown = λ n. absurd (n (ap (λ (v : ℕ). pairing (word cells v)) z ∙ root_shows_none));
            none = λ e j l m. q.none z j l (omega (arith, long));
          }
          | no d ↦ record {
            shown = λ n. (i, omega arith, omega (arith, (q.shown d).0, long), refl);
            none = λ e. absurd ((q.shown d).1 e);
          }
        ]

        module _ (la : a < tips t) (lb : b < tips t) (lc : c < tips t) where
          node_low : (x : ℕ) → x < tips t → node_of t x ≤ nodes t - 1
          node_low x l = omega (arith, (node_at t g x l).0)

          none_parts : i ≡ 0 → T (some (nodes t - 1) (parts_labels t a b c d)) → ⊥
          none_parts z y =
              let r = (some-iff (nodes t - 1) (parts_labels t a b c d)).0 y in
              parts-not r.0 (omega (arith, r.1)) (q.none z (suc r.0) (omega arith) (omega (arith, r.1, long))) r.2

          meets : i ≡ 0 → meeting_node t a b c d ≡ centre_over (parents t) (labels t) a b c
          unfolding meeting_node centre
          meets z =
              meet_is_centre (parent t) (rooted t g) (nodes t - 1) _ _ _ _ (node_low a la) (node_low b lb) (node_low c lc)
              (λ j l m p. not_parting j
              (shown_at t a b c d g cells h j (omega (arith, (node_at t g a la).0)) ∙ q.none z j l (omega (arith, long, (node_at t g a la).0))) p)
              ∙ sym (centre_of-parts t g a b c)

          witness_seen : witness t a b c d ≡ witness_at i (centre_over (parents t) (labels t) a b c)
          witness_seen = go i refl
            where
              edge-parts : (j : ℕ) → i ≡ suc j → (j < nodes t - 1) × T (parts_labels t a b c d j)
                  × ((v : ℕ) → v < j → T (parts_labels t a b c d v) → ⊥)
              edge-parts j e =
                  let d0 : i ≢ 0 = λ z. omega (arith, e, z) in
                  let l = q.shown d0 in (
                    omega (arith, l.0, e, long),
                    parts_at j (omega (arith, l.0, e, long)) (λ z. l.1 (ap (λ (v : ℕ). pairing (word cells v)) e ∙ z)),
                    λ v m. parts-not v (omega (arith, l.0, e, long, m)) (q.before d0 (suc v) (omega arith) (omega (arith, e, m))),
                  )

              go : (k : ℕ) → i ≡ k → witness t a b c d ≡ witness_at k (centre_over (parents t) (labels t) a b c)
              go zero z = unfold witness witness_at in
                  rw (T_false (some (nodes t - 1) (parts_labels t a b c d)) (none_parts z), witness) (ap Meet (meets z))
              go (suc j) e = unfold witness witness_at parting_edge in
                  let p = edge-parts j e in
                  rw (T_true (some (nodes t - 1) (parts_labels t a b c d)) ((some-iff (nodes t - 1) _).1 (j, p.0, p.1)), witness)
                  (ap (λ (v : ℕ). Edge (suc v)) (first_is (nodes t - 1) (parts_labels t a b c d) j p.0 p.1 p.2))

    -- the labels are accepted, and what is seen of the two parts is the answer
    pub witness_found : refusal (asked_order (tips t) (a ∷ b ∷ c ∷ d ∷ [])) ≡ 0 → (r : WitnessAnswer)
        → Seen (parents t) (labels t) a b c d r → witness_answer t a b c d ≡ r
    unfolding label_order
    witness_found e r s =
        let z : number ≡ 0 = tree_accepted t _ g ∙ e in
        let below = ((label_check t (a ∷ b ∷ c ∷ d ∷ [])).0 z).1 in
        let i = s.edge in
        answered 0 z
        ∙ ap₂ (witnessed_as 0)
        (if_accepted_lem 0 (topology t a b c d) Star refl
        ∙ sym (topology_shown_lem t a b c d g s.cells s.sides_are (pairing (word s.cells i)) (shown_pairing s.cells s.sides_are i s.edge_is)))
        (if_accepted_lem 0 (witness t a b c d) (Meet 0) refl
        ∙ witness_seen s.cells s.sides_are i s.edge_is (below 0 (omega arith)) (below 1 (omega arith)) (below 2 (omega arith)))
        ∙ sym s.answer_is

-- ---- what the answer tells

module _ (t : Table) (a b c d : ℕ) where
  accepted : refusal (label_order t (a ∷ b ∷ c ∷ d ∷ [])) ≡ 0
      → IsTree t × (a < tips t) × (b < tips t) × (c < tips t)
  accepted z =
      let h = (label_check t (a ∷ b ∷ c ∷ d ∷ [])).0 z in
      (h.0, h.1 0 (omega arith), h.1 1 (omega arith), h.1 2 (omega arith))

  kinds : (k : ℕ) → butterfly_of (if_accepted k (topology t a b c d) Star) ≡ is_edge (if_accepted k (witness t a b c d) (Meet 0))
  unfolding if_accepted
  kinds zero = butterfly_by_edge t a b c d
  kinds (suc k) = refl

  own_told : WitnessTold t a b c d (witness_answer t a b c d)
  unfolding witness_answer
  own_told = record {
    number_told = refl;
    refused = λ n. rw (if_refused _ (witness t a b c d) (Meet 0) n) (refl, refl);
    by_kind = kinds (refusal (label_order t (a ∷ b ∷ c ∷ d ∷ [])));
    shown = λ z. let h = accepted z in
        rw (if_accepted_lem _ (witness t a b c d) (Meet 0) z) (witness_shown t h.0 a b c d h.1 h.2 h.3);
  }

  -- an answer, and what it tells
  pub witness_told : (r : WitnessAnswer) → r ≡ witness_answer t a b c d
      → (r ≡ witness_answer t a b c d) × WitnessTold t a b c d r
  witness_told r e = (e, subst (WitnessTold t a b c d) (sym e) own_told)
