-- What the witness of four labels shows: the lowest-numbered edge that parts them two and two, or the one node where all their
-- paths meet; and that the order of the labels plays no part.
-- Assumes nothing.
use Rattle.std.specs.Prelude.{◌≡◌, Bool, ◌⊎◌, ◌↔◌, T}
use Rattle.std.proofs.Math.Path.{refl, ap₂, fun_ext}
use Rattle.std.proofs.Common.{sym, ◌∙◌, ap, inl, inr, arith, T_not}
use Rattle.std.proofs.Math.Bool.{true, false}
use Prim.Native.Nat.{ℕ, zero, suc, ◌-◌, ◌≤◌, ◌<◌}
use Rattle.sums.specs.Tests.{some, first}
use Rattle.sums.specs.theorems.BitLaws.{T_true, T_false}
use Rattle.sums.specs.theorems.TestLaws.{T_dec, some-iff, first_passes}
use Rattle.shapes.specs.Quartets.{Apart, with_b, with_c, with_d}
use Rattle.shapes.proofs.theorems.Meeting.{parts_four-iff, four_first_two, four_middle, four_last_two}
use Rattle.shapes.proofs.theorems.Meeting.{meet-first_two, meet_middle, meet_last_two}
use Rattle.shapes.proofs.theorems.Meeting as meeting
use Rattle.tree_check.specs.Table.{Table, tips, nodes, parent, node_of}
use Rattle.tree_check.specs.IsTree.{IsTree}
use Rattle.tree_check.specs.theorems.RootedTables.{rooted}
use Rattle.walks.specs.theorems.NodeLabels.{node_at}
use Rattle.trees.specs.declared.quartet.Topology.{Topology}
use Rattle.trees.specs.declared.quartet.Topology.TheVariants.{Butterfly, Star}
use Rattle.trees.specs.declared.witness.Witness.{Witness}
use Rattle.trees.specs.declared.witness.Witness.TheVariants.{Edge, Meet}
use Rattle.trees.specs.Topology.{partner, topology, butterfly_of, PartedIn}
use Rattle.trees.specs.Witness.{parts_labels, parting_edge, meeting_node, witness, is_edge, witness_number}
use Rattle.trees.specs.Witness.{PartsAt, LowestParting, OneMeeting, ShownBy}
use Rattle.trees.specs.theorems.TopologyLaws.{star_iff, parted-butterfly, parted_with_c, parted_with_d}
use Rattle.trees.specs.theorems.TopologyLaws.{Rearranged, as_is, first_two, middle, last_two}

-- edge i has a, b on one side and c, d on the other
abbrev pub ApartAt : Table → ℕ → ℕ → ℕ → ℕ → ℕ → Type 0
ApartAt t i a b c d = Apart (parent t) i (node_of t a) (node_of t b) (node_of t c) (node_of t d)

module _ (t : Table) (a b c d : ℕ) where
  labels-iff : (j : ℕ) → T (parts_labels t a b c d j) ↔ PartsAt t (suc j) a b c d
  unfolding parts_labels
  labels-iff j = parts_four-iff (parent t) (suc j) (node_of t a) (node_of t b) (node_of t c) (node_of t d)

  by_edge : T (some (nodes t - 1) (parts_labels t a b c d)) → witness t a b c d ≡ Edge (parting_edge t a b c d)
  unfolding witness
  by_edge y = rw (T_true (some (nodes t - 1) (parts_labels t a b c d)) y, witness) refl

  by_node : (T (some (nodes t - 1) (parts_labels t a b c d)) → ⊥) → witness t a b c d ≡ Meet (meeting_node t a b c d)
  unfolding witness
  by_node n = rw (T_false (some (nodes t - 1) (parts_labels t a b c d)) n, witness) refl

  -- an edge, or a node
  told : T (some (nodes t - 1) (parts_labels t a b c d)) ⊎ (T (some (nodes t - 1) (parts_labels t a b c d)) → ⊥)
  told = elim (T_dec (some (nodes t - 1) (parts_labels t a b c d))) [ inl y ↦ inl y | inr z ↦ inr (T_not (some (nodes t - 1) (parts_labels t a b c d)) z) ]

  some-edge : (i : ℕ) → 1 ≤ i → i < nodes t → PartsAt t i a b c d → T (some (nodes t - 1) (parts_labels t a b c d))
  some-edge zero l m h = absurd (omega arith)
  some-edge (suc j) l m h = (some-iff (nodes t - 1) (parts_labels t a b c d)).1 (j, omega arith, (labels-iff j).1 h)

  -- the edge that is told parts them, and no lower-numbered one does
  pub edge_told : (i : ℕ) → witness t a b c d ≡ Edge i → LowestParting t a b c d i
  edge_told i e = elim told [
    | inr n ↦ absurd (omega (arith, ap is_edge (sym (by_node n) ∙ e)))
    | inl y ↦ rw (sym (ap witness_number (sym (by_edge y) ∙ e))) (lowest y)
  ]
    where
      before : (first (nodes t - 1) (parts_labels t a b c d) < nodes t - 1)
          × T (parts_labels t a b c d (first (nodes t - 1) (parts_labels t a b c d)))
          × ((j : ℕ) → j < first (nodes t - 1) (parts_labels t a b c d) → T (parts_labels t a b c d j) → ⊥)
          → (j : ℕ) → 1 ≤ j → j < suc (first (nodes t - 1) (parts_labels t a b c d)) → PartsAt t j a b c d → ⊥
      before f zero l m h = omega arith
      before f (suc j) l m h = f.2 j (omega arith) ((labels-iff j).1 h)

      lowest : T (some (nodes t - 1) (parts_labels t a b c d)) → LowestParting t a b c d (parting_edge t a b c d)
      lowest y = let f = first_passes (nodes t - 1) (parts_labels t a b c d) y in unfold parting_edge in record {
        above = omega arith;
        edge = omega (arith, f.0);
        parts = (labels-iff _).0 f.1;
        lowest = before f;
      }

  -- a meeting node is told only if no edge parts them
  pub meet_told : (v : ℕ) → witness t a b c d ≡ Meet v → (i : ℕ) → 1 ≤ i → i < nodes t → PartsAt t i a b c d → ⊥
  meet_told v e i l m h = let y = some-edge i l m h in omega (arith, ap is_edge (sym (by_edge y) ∙ e))

  -- a butterfly is told with an edge and a star with a meeting node
  pub star_meets : (topology t a b c d ≡ Star) ↔ (is_edge (witness t a b c d) ≡ 0)
  star_meets = elim told [
    | inl y ↦ (
      λ e. let s = (star_iff t a b c d).0 e in
          let r = (some-iff (nodes t - 1) (parts_labels t a b c d)).0 y in
          absurd (not_star s (suc r.0) (omega arith) (omega (arith, r.1)) ((labels-iff r.0).0 r.2)),
      λ z. absurd (omega (arith, z, ap is_edge (by_edge y))),
    )
    | inr n ↦ (
      λ e. ap is_edge (by_node n),
      λ z. (star_iff t a b c d).1 (
        λ r. n (some-edge r.0 r.1 (omega (arith, r.1, r.2)) (with_b r.3)),
        λ r. n (some-edge r.0 r.1 (omega (arith, r.1, r.2)) (with_c r.3)),
        λ r. n (some-edge r.0 r.1 (omega (arith, r.1, r.2)) (with_d r.3)),
      ),
    )
  ]
    where
      not_star : (PartedIn t a b c d → ⊥) × (PartedIn t a c b d → ⊥) × (PartedIn t a d b c → ⊥)
          → (i : ℕ) → 1 ≤ i → i ≤ nodes t - 1 → PartsAt t i a b c d → ⊥
      not_star s i l m (with_b h) = s.0 (i, l, m, h)
      not_star s i l m (with_c h) = s.1 (i, l, m, h)
      not_star s i l m (with_d h) = s.2 (i, l, m, h)

  -- in numbers
  pub butterfly_by_edge : butterfly_of (topology t a b c d) ≡ is_edge (witness t a b c d)
  butterfly_by_edge = elim told [
    | inl y ↦ go (topology t a b c d) (λ e. omega (arith, star_meets.0 e, ap is_edge (by_edge y))) ∙ sym (ap is_edge (by_edge y))
    | inr n ↦ ap butterfly_of (star_meets.1 (ap is_edge (by_node n))) ∙ sym (ap is_edge (by_node n))
  ]
    where
      go : (x : Topology) → (x ≡ Star → ⊥) → butterfly_of x ≡ 1
      go (Butterfly p) n = refl
      go Star n = absurd (n refl)

-- the pairing that edge i shows is the topology's
pub data PairingShown (t : Table) (i a b c d : ℕ) : Topology → Type 0 where
  ab_cd : ApartAt t i a b c d → PairingShown t i a b c d (Butterfly (partner a b c d))
  ac_bd : ApartAt t i a c b d → PairingShown t i a b c d (Butterfly (partner a c b d))
  ad_bc : ApartAt t i a d b c → PairingShown t i a b c d (Butterfly (partner a d b c))

module _ (t : Table) (g : IsTree t) (a b c d : ℕ) where
  pub edge-pairing : (i : ℕ) → witness t a b c d ≡ Edge i → PairingShown t i a b c d (topology t a b c d)
  edge-pairing i e = let s = edge_told t a b c d i e in of i s.above (omega (arith, s.edge)) s.parts
    where
      of : (i : ℕ) → 1 ≤ i → i ≤ nodes t - 1 → PartsAt t i a b c d → PairingShown t i a b c d (topology t a b c d)
      of i l m (with_b h) = rw (parted-butterfly t a b c d (i, l, m, h)) (ab_cd h)
      of i l m (with_c h) = rw (parted_with_c t g a b c d (i, l, m, h)) (ac_bd h)
      of i l m (with_d h) = rw (parted_with_d t g a b c d (i, l, m, h)) (ad_bc h)

  -- the meeting node is on every path between two of them, and no other node is
  module _ (la : a < tips t) (lb : b < tips t) (lc : c < tips t) (v : ℕ) (e : witness t a b c d ≡ Meet v) where
    last_node : (x : ℕ) → x < tips t → node_of t x ≤ nodes t - 1
    last_node x l = omega (arith, (node_at t g x l).0)

    is_meeting : v ≡ meeting_node t a b c d
    is_meeting = elim (told t a b c d) [
      | inl y ↦ absurd (omega (arith, ap is_edge (sym (by_edge t a b c d y) ∙ e)))
      | inr n ↦ ap witness_number (sym e ∙ by_node t a b c d n)
    ]

    pub one_meeting : OneMeeting t a b c d v
    unfolding meeting_node
    one_meeting =
        let some = (node_at t g a la).0 in
        let m = meeting.one_meeting (parent t) (rooted t g) (nodes t - 1) _ _ _ _
        (last_node a la) (last_node b lb) (last_node c lc) (λ i l h. meet_told t a b c d v e i l (omega arith)) in
        rw is_meeting (record { node = omega (arith, m.0); on_paths = m.1; only = λ w l p. m.2 w (omega arith) p })

  pub witness_shown : a < tips t → b < tips t → c < tips t → ShownBy t a b c d (witness t a b c d)
  witness_shown la lb lc = elim (told t a b c d) [
    | inl y ↦ (let e = by_edge t a b c d y in rw e (record {
      edge = λ z. edge_told t a b c d (parting_edge t a b c d) e;
      no_edge = λ z. absurd (omega (arith, z));
      meets = λ z. absurd (omega (arith, z));
    }))
    | inr n ↦ (let e = by_node t a b c d n in rw e (record {
      edge = λ z. absurd (omega (arith, z));
      no_edge = λ z. meet_told t a b c d (meeting_node t a b c d) e;
      meets = λ z. one_meeting la lb lc (meeting_node t a b c d) e;
    }))
  ]

-- ---- any order

module _ (t : Table) (a b c d : ℕ) where
  same_witness : (w x y z : ℕ) → ((j : ℕ) → parts_labels t w x y z j ≡ parts_labels t a b c d j)
      → meeting_node t w x y z ≡ meeting_node t a b c d → witness t w x y z ≡ witness t a b c d
  unfolding witness parting_edge
  same_witness w x y z f e = ap₂
      (λ (q : ℕ → Bool) (v : ℕ). elim (some (nodes t - 1) q) as (λ k. Witness) [
        | true ↦ Edge (suc (first (nodes t - 1) q))
        | false ↦ Meet v
      ])
      (fun_ext f) e

  order_first_two : witness t b a c d ≡ witness t a b c d
  unfolding parts_labels meeting_node
  order_first_two = same_witness b a c d (λ j. four_first_two (parent t) (suc j) _ _ _ _) (meet-first_two (parent t) (nodes t - 1) _ _ _ _)

  order_middle : witness t a c b d ≡ witness t a b c d
  unfolding parts_labels meeting_node
  order_middle = same_witness a c b d (λ j. four_middle (parent t) (suc j) _ _ _ _) (meet_middle (parent t) (nodes t - 1) _ _ _ _)

  order_last_two : witness t a b d c ≡ witness t a b c d
  unfolding parts_labels meeting_node
  order_last_two = same_witness a b d c (λ j. four_last_two (parent t) (suc j) _ _ _ _) (meet_last_two (parent t) (nodes t - 1) _ _ _ _)

-- in which order the four are given makes no difference
pub witness_any_order : (t : Table) (a b c d : ℕ) {w x y z : ℕ} → Rearranged a b c d w x y z
    → witness t w x y z ≡ witness t a b c d
witness_any_order t a b c d as_is = refl
witness_any_order t a b c d (first_two r) = order_first_two t _ _ _ _ ∙ witness_any_order t a b c d r
witness_any_order t a b c d (middle r) = order_middle t _ _ _ _ ∙ witness_any_order t a b c d r
witness_any_order t a b c d (last_two r) = order_last_two t _ _ _ _ ∙ witness_any_order t a b c d r
