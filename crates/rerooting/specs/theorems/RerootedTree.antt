-- A re-rooted tree table is a tree table.
-- Assumes nothing.
use Rattle.std.specs.Prelude.{◌≡◌, ◌⊎◌, ◌≢◌, ℕ, suc, ◌-◌, ◌≤◌, ◌<◌}
use Rattle.std.proofs.Common.{sym, ◌∙◌, subst, inl, inr, eq-zero-or-pos, arith}
use Rattle.std.proofs.Math.Path.{ap}
use Rattle.std.proofs.Math.Decide.{dec_lt}
use Rattle.sums.specs.Bits.{bit}
use Rattle.sums.specs.theorems.BitLaws.{bit_cases}
use Rattle.table_words.specs.Sizes.{inner_label}
use Rattle.shapes.specs.Ancestors.{anc}
use Rattle.shapes.specs.theorems.AncestorLaws.{Rooted}
use Rattle.shapes.proofs.theorems.AncestorLaws.{anc-le, anc_self, anc_root, anc_trans, anc-line, anc_past, anc_down, parent-lt}
use Rattle.tree_check.specs.Table.{Table, tips, nodes, parent, label, node_of}
use Rattle.tree_check.specs.IsTree.{IsTree, Child, StandsOnce}
use Rattle.tree_check.specs.theorems.RootedTables.{rooted}
use Rattle.walks.specs.theorems.NodeLabels.{node_at, node_only}
use Rattle.shapes.specs.Rerooting.{renumbered, node_numbered, rerooted_up}
use Rattle.rerooting.specs.Rerooted.{new_parent, new_label, rerooted}
use Rattle.shapes.proofs.theorems.RerootedNumbers.{renumbered-lt, renumbered-one, renumbered_root, rerooted_rooted, numbered_is, numbered_back}
use Rattle.shapes.proofs.theorems.RerootedNumbers.{up_on, up_off, path_before, path_back, off_pos, path_end}
use Rattle.shapes.proofs.theorems.RerootedSides.{path_step, step_up, renumbered-pos}
use Rattle.rerooting.specs.theorems.RerootedParts.{same_tips, same_nodes, rerooted-length, new_parent_lem, new_label_lem}
use Rattle.sums.specs.Swaps.{swapped}
use Rattle.sums.specs.theorems.SwapLaws.{swapped_second, swapped_twice, swapped_other, swapped-lt}

module _ (t : Table) (g : IsTree t) (x : ℕ) (lx : x < tips t) where
  abbrev m : ℕ
  m = nodes t

  abbrev z : ℕ
  z = node_of t x

  abbrev up : ℕ → ℕ
  up = parent t

  abbrev t' : Table
  t' = rerooted t x

  r : Rooted up
  r = rooted t g

  lz : z < m
  lz = (node_at t g x lx).0

  z_label : label t z ≡ x
  z_label = (node_at t g x lx).1

  two : 2 ≤ m
  two = let a = g.tips_range in let b = g.nodes_range in omega arith

  abbrev on : ℕ → ℕ
  on v = bit (anc up v z)

  -- the new number of a node
  abbrev pub new_number : ℕ → ℕ
  new_number v = renumbered (parent t) (nodes t) (node_of t x) v

  abbrev old : ℕ → ℕ
  old i = node_numbered up m z i

  -- ---- parents and labels by new numbers

  pub number_lt : (v : ℕ) → v < nodes t → new_number v < nodes t
  number_lt = renumbered-lt up m z r lz

  pub number-one : (v w : ℕ) → new_number v ≡ new_number w → v ≡ w
  number-one = renumbered-one up m z r lz

  old_is : (i : ℕ) → i < m → (old i < m) × (new_number (old i) ≡ i)
  old_is = numbered_is up m z r lz

  pub parent_on : (v : ℕ) → v < m → on v ≡ 1 → parent t' (new_number v) ≡ new_number v - 1
  unfolding new_parent
  parent_on v l o = new_parent_lem t x (new_number v) (number_lt v l) ∙ up_on up m z r lz v l o

  pub parent_off : (v : ℕ) → v < m → on v ≡ 0 → parent t' (new_number v) ≡ new_number (up v)
  unfolding new_parent
  parent_off v l o = new_parent_lem t x (new_number v) (number_lt v l) ∙ up_off up m z r lz v l o

  pub rerooted-label : (v : ℕ) → v < nodes t → label (rerooted t x) (new_number v) ≡ swapped 0 x (label t v)
  unfolding new_label
  rerooted-label v l =
      new_label_lem t x (new_number v) (number_lt v l) ∙ ap (λ (w : ℕ). swapped 0 x (label t w)) (numbered_back up m z r lz v l)

  old_label : (i : ℕ) → i < m → label t' i ≡ swapped 0 x (label t (old i))
  unfolding new_label
  old_label i l = new_label_lem t x i l

  -- ---- children

  -- a node of the path but z has a child on it
  path_child : (v : ℕ) → v < m → on v ≡ 1 → v ≢ z → (c : ℕ) × Child t v c × (on c ≡ 1)
  path_child v l o d =
      let s = path_step up m z r lz v l o d in
      let c = s.0 in
      let pc : 1 ≤ c = omega (arith, s.1.down) in
      let lp = parent-lt up r c pc in
      let op = anc_trans up r (up c) c z (anc_down up r (up c) c pc (anc_self up r (up c))) s.1.path in
      let vc = anc-line up r v c z (omega (arith, s.1.down)) o s.1.path in
      let low = anc-le up r v (up c) (anc_past up r v c s.1.down vc) in
      let e : up c ≡ v = elim (dec_lt v (up c)) [
        | yes h ↦ absurd (omega (arith, s.1.next (up c) op h))
        | no h ↦ omega arith
      ] in
      (c, record { other = pc; node = s.1.node_lt; below = e }, s.1.path)

  -- a tip but z is not on the path, unless it is node 0
  tip_off : (v : ℕ) → 1 ≤ v → v < m → label t v < tips t → v ≢ z → on v ≡ 0
  tip_off v p l h d = elim (bit_cases (anc up v z)) [
    | inl o ↦ o
    | inr o ↦ (let c = path_child v l o d in absurd (g.tip_bare v p l h c.0 c.1))
  ]

  -- node 1 is on the path if z is another node than 0
  one_on : z ≢ 0 → on 1 ≡ 1
  one_on d =
      let c = path_child 0 (omega (arith, two)) (anc_root up r z) (λ e. d (sym e)) in
      let e = (g.root_child c.0).0 c.1 in
      ap on (sym e) ∙ c.2

  -- a child of a renumbered node: the node before on the path, or a child off it
  pub data From (i j : ℕ) : Type 0 where
    along : on (old j) ≡ 1 → j ≡ suc i → From i j
    beside : on (old j) ≡ 0 → new_number (up (old j)) ≡ i → From i j

  child_from : (i j : ℕ) → Child t' i j → From i j
  child_from i j c =
      let lj : j < m = omega (arith, c.node, same_nodes t x) in
      let p = old_is j lj in
      let b = c.below in
      elim (bit_cases (anc up (old j) z)) [
        | inr o ↦ along o (omega (arith, parent_on (old j) p.0 o, ap (parent t') p.1, p.1, c.other))
        | inl o ↦ beside o (sym (parent_off (old j) p.0 o) ∙ ap (parent t') p.1 ∙ b)
      ]

  -- the tip x has no child but at node 0
  z_child : (v : ℕ) → Child t z v → (z ≡ 0) × (v ≡ 1)
  z_child v c = elim (eq-zero-or-pos z) [
    | inl e ↦ (e, (g.root_child v).0 (subst (λ (y : ℕ). Child t y v) e c))
    | inr p ↦ absurd (g.tip_bare z p lz (omega (arith, z_label)) v c)
  ]

  -- the renumbered tree has the root 0
  new_rooted : Rooted (rerooted_up up m z)
  new_rooted = rerooted_rooted up m z r lz

  renumbered_is : (i : ℕ) → i < m → parent t' i ≡ rerooted_up up m z i
  unfolding new_parent
  renumbered_is i l = new_parent_lem t x i l

  root_kid : (j : ℕ) → Child t' 0 j → j ≡ 1
  root_kid j c = go (child_from 0 j c)
    where
      lj : j < m
      lj = omega (arith, c.node, same_nodes t x)

      go : From 0 j → j ≡ 1
      go (along o e) = e
      go (beside o e) =
          let p = old_is j lj in
          let q = number-one (up (old j)) z (e ∙ sym (renumbered_root up m z r lz)) in
          let k = z_child (old j) (record { other = off_pos up m z r lz (old j) o; node = p.0; below = q }) in
          -- node 1 is first after node 0
          let one : new_number 1 ≡ 1 = newNumber-one k.0 in
          sym p.1 ∙ ap new_number k.1 ∙ one
        where
          newNumber-one : z ≡ 0 → new_number 1 ≡ 1
          newNumber-one e =
              let i = old_is 1 (omega (arith, two)) in
              let w = old 1 in
              let d : w ≢ z = λ h. absurd (omega (arith, i.1, ap new_number h, renumbered_root up m z r lz)) in
              let ow : on w ≡ 0 = elim (bit_cases (anc up w z)) [
                | inl o ↦ o
                | inr o ↦ absurd (d (omega (arith, anc-le up r w z o)))
              ] in
              let s = renumbered_is 1 (omega (arith, two)) in
              let f = new_rooted.falls 0 in
              let h = parent_off w i.0 ow in
              let h2 : new_number (up w) ≡ 0 = omega (arith, ap (parent t') i.1) in
              let h3 = number-one (up w) z (h2 ∙ sym (renumbered_root up m z r lz)) in
              let k = z_child w (record { other = off_pos up m z r lz w ow; node = i.0; below = h3 }) in
              sym (ap new_number k.1) ∙ i.1

  first_kid : Child t' 0 1
  first_kid = record {
    other = omega arith;
    node = omega (arith, two, same_nodes t x);
    below = omega (arith, renumbered_is 1 (omega (arith, two)), new_rooted.falls 0);
  }

  -- ---- a tip has no child

  bare : (i : ℕ) → 1 ≤ i → i < m → label t (old i) < tips t → (j : ℕ) → Child t' i j → ⊥
  bare i p l h j c = go (child_from i j c)
    where
      v : ℕ
      v = old i

      iv : (v < m) × (new_number v ≡ i)
      iv = old_is i l

      lj : j < m
      lj = omega (arith, c.node, same_nodes t x)

      jw : (old j < m) × (new_number (old j) ≡ j)
      jw = old_is j lj

      d : v ≢ z
      d e = absurd (omega (arith, iv.1, ap new_number e, renumbered_root up m z r lz))

      go : From i j → ⊥
      go (beside o e) =
          let q = number-one (up (old j)) v (e ∙ sym iv.1) in
          let k : Child t v (old j) = record { other = off_pos up m z r lz (old j) o; node = jw.0; below = q } in
          elim (eq-zero-or-pos v) [
            | inr pv ↦ g.tip_bare v pv iv.0 h (old j) k
            | inl ev ↦ (
                let f = (g.root_child (old j)).0 (subst (λ (y : ℕ). Child t y (old j)) ev k) in
                omega (arith, one_on (λ ez. d (ev ∙ sym ez)), ap on f, o))
          ]
      go (along o e) = elim (bit_cases (anc up v z)) [
        | inl ov ↦ omega (arith, path_before up m z r lz (old j) v o ov, iv.1, jw.1)
        | inr ov ↦ elim (eq-zero-or-pos v) [
          | inr pv ↦ omega (arith, tip_off v pv iv.0 h d)
          | inl ev ↦ (elim (eq-zero-or-pos (old j)) [
            | inl ej ↦ omega (arith, ap new_number (ej ∙ sym ev), iv.1, jw.1)
            | inr pj ↦ omega (arith, path_back up m z r lz v (old j) ov o (omega (arith, ev)), iv.1, jw.1)
          ])
        ]
      ]

  -- ---- an inner node has one

  some_child : (i : ℕ) → i < m → label t (old i) ≡ inner_label → (j : ℕ) × Child t' i j
  some_child i l h =
      let iv = old_is i l in
      let v = old i in
      let c = g.inner_child v iv.0 h in
      elim (bit_cases (anc up c.0 z)) [
        | inl o ↦ (
            let d : c.0 ≢ z = λ e. absurd (omega (arith, ap on e, path_end up m z r lz)) in (
              new_number c.0,
              record {
                other = renumbered-pos up m z r lz c.0 d;
                node = omega (arith, number_lt c.0 c.1.node, same_nodes t x);
                below = parent_off c.0 c.1.node o ∙ ap new_number c.1.below ∙ iv.1;
              },
            ))
        | inr o ↦ (
            let ov : on v ≡ 1 = ap on (sym c.1.below) ∙ (step_up up m z r lz c.0 c.1.other c.1.node o).1 in
            let pv : 1 ≤ v = elim (eq-zero-or-pos v) [ inr p ↦ p | inl e ↦ absurd (omega (arith, h, ap (label t) e, g.root_label)) ] in
            let s = step_up up m z r lz v pv iv.0 ov in
            let lu : up v < m = omega (arith, parent-lt up r v pv, iv.0) in (
              new_number (up v),
              record {
                other = renumbered-pos up m z r lz (up v) s.0;
                node = omega (arith, number_lt (up v) lu, same_nodes t x);
                below = omega (arith, parent_on (up v) lu s.1, s.2.number, iv.1);
              },
            ))
      ]

  -- ---- labels

  abbrev n : ℕ
  n = tips t

  old_labels : (v : ℕ) → v < m → (label t v ≡ inner_label) ⊎ (label t v < n)
  old_labels = g.labels_range

  inner_stays : swapped 0 x inner_label ≡ inner_label
  inner_stays = swapped_other 0 x inner_label (omega arith) (omega (arith, lx, g.tips_range.1))

  small_label : (v : ℕ) → v < m → swapped 0 x (label t v) < n → label t v < n
  small_label v l h = elim (old_labels v l) [
    | inr q ↦ q
    | inl e ↦ absurd (omega (arith, ap (swapped 0 x) e, inner_stays, g.tips_range.1))
  ]

  inner_label_lem : (v : ℕ) → v < m → swapped 0 x (label t v) ≡ inner_label → label t v ≡ inner_label
  inner_label_lem v l h = elim (old_labels v l) [
    | inl e ↦ e
    | inr q ↦ absurd (omega (arith, swapped-lt 0 x (label t v) n (omega (arith, lx)) lx q, g.tips_range.1))
  ]

  stands : (y : ℕ) → y < n → StandsOnce t' y
  stands y ly =
      let e = swapped-lt 0 x y n (omega (arith, lx)) lx ly in
      let a = node_at t g (swapped 0 x y) e in
      record {
        at = new_number (node_of t (swapped 0 x y));
        node = omega (arith, number_lt _ a.0, same_nodes t x);
        labelled = rerooted-label _ a.0 ∙ ap (swapped 0 x) a.1 ∙ swapped_twice 0 x y;
        only = λ j lj h. (
            let lj' : j < m = omega (arith, same_nodes t x) in
            let p = old_is j lj' in
            let q : label t (old j) ≡ swapped 0 x y =
            sym (swapped_twice 0 x (label t (old j))) ∙ ap (swapped 0 x) (sym (old_label j lj') ∙ h) in
            sym p.1 ∙ ap new_number (sym (node_only t g (swapped 0 x y) (old j) e p.0 q)));
      }

  pub rerooted_tree : IsTree (rerooted t x)
  rerooted_tree = record {
    words = rerooted-length t x ∙ (omega (arith, same_nodes t x));
    tips_range = rw (same_tips t x) g.tips_range;
    nodes_range = rw (same_tips t x, same_nodes t x) g.nodes_range;
    root_label =
        ap (label t') (sym (renumbered_root up m z r lz)) ∙ rerooted-label z lz ∙ ap (swapped 0 x) z_label ∙ swapped_second 0 x;
    root_parent = renumbered_is 0 (omega (arith, two)) ∙ new_rooted.root;
    root_child = λ j. (root_kid j, λ e. subst (λ (i : ℕ). Child t' 0 i) (sym e) first_kid);
    parents_range = λ i l li.
        let li' : i < m = omega (arith, same_nodes t x) in (
          elim (eq-zero-or-pos (parent t' i)) [
            | inr p ↦ p
            | inl e ↦ absurd (omega (arith, root_kid i (record { other = omega arith; node = li; below = e })))
          ],
          omega (arith, renumbered_is i li', parent-lt (rerooted_up up m z) new_rooted i (omega arith)),
        );
    labels_range = λ i li.
        let li' : i < m = omega (arith, same_nodes t x) in
        let p = old_is i li' in
        elim (old_labels (old i) p.0) [
          | inl e ↦ inl (old_label i li' ∙ ap (swapped 0 x) e ∙ inner_stays)
          | inr q ↦ inr (omega (arith, old_label i li', swapped-lt 0 x (label t (old i)) n (omega (arith, lx)) lx q, same_tips t x))
        ];
    once = λ y ly. stands y (omega (arith, same_tips t x));
    tip_bare = λ i p li h j c.
        let li' : i < m = omega (arith, same_nodes t x) in
        bare i p li' (small_label (old i) (old_is i li').0 (omega (arith, old_label i li', same_tips t x))) j c;
    inner_child = λ i li h.
        let li' : i < m = omega (arith, same_nodes t x) in
        some_child i li' (inner_label_lem (old i) (old_is i li').0 (sym (old_label i li') ∙ h));
  }

  -- the node of a label goes to the node of the label that it is exchanged for
  pub rerooted_node : (y : ℕ) → y < tips t → node_of (rerooted t x) (swapped 0 x y) ≡ new_number (node_of t y)
  rerooted_node y ly =
      let a = node_at t g y ly in
      node_only t' rerooted_tree (swapped 0 x y) (new_number (node_of t y))
      (omega (arith, swapped-lt 0 x y n (omega (arith, lx)) lx ly, same_tips t x))
      (omega (arith, number_lt _ a.0, same_nodes t x))
      (rerooted-label _ a.0 ∙ ap (swapped 0 x) a.1)
