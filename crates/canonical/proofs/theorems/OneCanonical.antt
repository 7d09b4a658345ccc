-- Canonical tables with the same splits have the same words.
-- Assumes nothing.
use Rattle.std.specs.Prelude.{◌≡◌, refl, List, ℕ, zero, suc, ◌-◌, ◌≤◌, ◌<◌, length, get_or}
use Rattle.std.proofs.Common.{sym, ◌∙◌, ap, subst, inl, inr, arith, ext_get_or}
use Rattle.std.proofs.Math.Decide.{dec_le, dec_lt, ℕ_discrete}
use Rattle.sums.specs.Bits.{bit}
use Rattle.sums.specs.theorems.BitLaws.{bit_cases, bit_inj, bit_no, bit-T}
use Rattle.shapes.specs.Ancestors.{anc}
use Rattle.shapes.proofs.theorems.AncestorLaws.{anc-lt, anc-le, anc_down, anc_past, anc_trans, anc-line, anc_self, one_child}
use Rattle.shapes.specs.Splits.{same, SameSplits}
use Rattle.tree_check.specs.Table.{Table, tips, nodes, parents, labels, parent, label, node_of, beyond}
use Rattle.tree_check.specs.lemmas.TableParts.{table_of, table_of-parts, parents-length, labels_length}
use Rattle.tree_check.specs.IsTree.{IsTree}
use Rattle.tree_check.specs.theorems.RootedTables.{rooted}
use Rattle.walks.specs.theorems.NodeLabels.{node_at, node_only}
use Rattle.counting.proofs.theorems.EdgesAsSplits.{edges_distinct}
use Rattle.counting.specs.SplitCounts.{beyond_at, HaveSameSplits}
use Rattle.canonical.proofs.theorems.Clusters.{above_inside, some-label, inside_above, node_pos, tip-label, tip_alone}
use Rattle.counting.specs.theorems.PassThrough.{NoPassThrough}
use Rattle.counting.specs.Labels.{all}
use Rattle.canonical.specs.Original.{IsOriginal}
use Rattle.canonical.specs.Canonical.{IsCanonical}
use Rattle.shapes.specs.theorems.Siblings.{Siblings, siblings_sym}
use Rattle.shapes.proofs.theorems.Siblings.{parting}
use Rattle.canonical.specs.theorems.Partners.{Match, Partners}
use Rattle.canonical.proofs.theorems.Partners.{match_sym, partners}

-- no number has a smaller one of the other kind, without end
descent : (P Q : ℕ → Type 0) → ((y : ℕ) → P y → (x : ℕ) × (x < y) × Q x) → ((y : ℕ) → Q y → (x : ℕ) × (x < y) × P x)
    → (k y : ℕ) → y < k → P y → ⊥
descent P Q f g zero y l p = absurd (omega arith)
descent P Q f g (suc k) y l p =
    let x = f y p in let z = g x.0 x.2 in descent P Q f g k z.0 (omega (arith, x.1, z.1)) z.2

-- ---- an inner node with two children is no pass-through node
pub no_pass : (t : Table) → IsOriginal t → NoPassThrough t
no_pass t o i l p =
    let d = o.inner_two i l p.inner in
    omega (arith, d.apart, p.single d.one d.first, p.single d.two d.second)

-- ---- two tables; edges of the first have partners in the second

module _ (n : ℕ) (t u : Table) (og : IsOriginal t) (oh : IsOriginal u) (tn : tips t ≡ n) (un : tips u ≡ n) where
  abbrev g : IsTree t
  g = og.tree

  abbrev h : IsTree u
  h = oh.tree

  -- the labels beyond matched edges are the same, as bits
  over : {i i' : ℕ} → Match n t u i i' → (x : ℕ) → x < n → bit (beyond t i x) ≡ 1 → bit (beyond u i' x) ≡ 1
  over m x l o = rw (← m.same x l) o

  back : {i i' : ℕ} → Match n t u i i' → (x : ℕ) → x < n → bit (beyond u i' x) ≡ 1 → bit (beyond t i x) ≡ 1
  back m x l o = rw (m.same x l) o

  -- an edge with one partner
  match_one : {i j k : ℕ} → Match n t u i k → Match n t u j k → i ≡ j
  match_one {i} {j} a b = edges_distinct t g (no_pass t og) i j a.pos_i a.few_i b.pos_i b.few_i
      (same (λ x l. a.same x (omega arith) ∙ sym (b.same x (omega arith))))

  -- what is above in the one is above in the other
  above_moves : {i j i' j' : ℕ} → Match n t u i i' → Match n t u j j' → bit (anc (parent t) i j) ≡ 1
      → bit (anc (parent u) i' j') ≡ 1
  above_moves {i} {j} {i'} {j'} a b o =
      inside_above u h i' j' a.pos_j a.few_j b.pos_j b.few_j (no_pass u oh)
      (λ x l p. let m : x < n = omega arith in over a x m (above_inside t g i j x o (back b x m p)))

  -- two nodes of one branch are no siblings' branches
  beside : {i j : ℕ} (s : Siblings (parent t) i j) (x : ℕ) → bit (beyond t s.one x) ≡ 1
      → bit (beyond t s.two x) ≡ 1 → ⊥
  unfolding beyond
  beside s x a b = s.apart
      (one_child (parent t) (rooted t g) s.one s.two (node_of t x) s.pos_one s.pos_two s.level a b)

  -- the branch of the first table that holds i and not j is inside that of the second
  fits : (f : Partners n t u) {i j i' j' : ℕ} → Match n t u i i' → Match n t u j j'
      → (s : Siblings (parent t) i j) (s' : Siblings (parent u) i' j')
      → (x : ℕ) → x < n → bit (beyond t s.one x) ≡ 1 → bit (beyond u s'.one x) ≡ 1
  fits f {i} {j} {i'} {j'} a b s s' x l o =
      let r = rooted u h in
      let q = f s.one s.pos_one (omega (arith, a.few_i, anc-le (parent t) (rooted t g) s.one i s.over_one)) in
      let c = q.0 in
      let over-i = above_moves q.1 a s.over_one in
      elim (dec_le s'.one c) [
        | yes m ↦ above_inside u h s'.one c x
            (anc-line (parent u) r s'.one c i' m s'.over_one over-i) (over q.1 x l o)
        | no m ↦ absurd (high c q.1 over-i (omega arith))
      ]
    where
      high : (c : ℕ) → Match n t u s.one c → bit (anc (parent u) c i') ≡ 1 → c < s'.one → ⊥
      high c q over-i m =
          let r = rooted u h in
          let d = anc-line (parent u) r c s'.one i' (omega arith) over-i s'.over_one in
          let e = anc_past (parent u) r c s'.one m d in
          let e2 : bit (anc (parent u) c (parent u s'.two)) ≡ 1 = rw (← s'.level) e in
          let k = anc_down (parent u) r c s'.two s'.pos_two e2 in
          let v = anc_trans (parent u) r c s'.two j' k s'.over_two in
          let y = some-label t g j b.few_i in
          let ly : y.0 < n = omega (arith, y.1) in
          beside s y.0
          (back q y.0 ly (above_inside u h c j' y.0 v (over b y.0 ly y.2)))
          (above_inside t g s.two j y.0 s.over_two y.2)

-- ---- canonical tables

module _ (n : ℕ) (t u : Table) (ct : IsCanonical t) (cu : IsCanonical u) (tn : tips t ≡ n) (un : tips u ≡ n)
    (f : Partners n t u) (f' : Partners n u t) where
  -- the branch with the smaller label is the same in both
  crossed : {i j i' j' : ℕ} → Match n t u i i' → Match n t u j j'
      → (s : Siblings (parent t) i j) (s' : Siblings (parent u) i' j') → s.one < s.two → s'.two < s'.one → ⊥
  crossed {i} {j} {i'} {j'} a b s s' l l' =
      let og = ct.original in let oh = cu.original in let g = og.tree in let h = oh.tree in
      let few-two = anc-le (parent t) (rooted t g) s.two j s.over_two in
      let few-one = anc-le (parent u) (rooted u h) s'.one i' s'.over_one in
      let y = some-label t g s.two (omega (arith, b.few_i)) in
      descent
      (λ y. (y < n) × (bit (beyond t s.two y) ≡ 1))
      (λ x. (x < n) × (bit (beyond t s.one x) ≡ 1))
      (λ y p. let x = ct.rising s.one s.two y s.pos_one l (omega (arith, b.few_i)) s.level (omega (arith, p.0)) p.1 in
      (x.0, x.1, (omega (arith, x.1, p.0), x.2)))
      (λ x p. let q = fits n t u og oh tn un f a b s s' x p.0 p.1 in
      let z = cu.rising s'.two s'.one x s'.pos_two l' (omega (arith, a.few_j)) (sym s'.level) (omega (arith, p.0)) q in
      let lz : z.0 < n = omega (arith, z.1, p.0) in
      (z.0, z.1, (lz, fits n u t oh og un tn f' (match_sym b) (match_sym a) (siblings_sym s') (siblings_sym s) z.0 lz z.2)))
      (suc y.0) y.0 (omega arith) (omega (arith, y.1), y.2)

  -- matched edges come in the same order
  order : {i j i' j' : ℕ} → Match n t u i i' → Match n t u j j' → i < j → i' < j'
  order {i} {j} {i'} {j'} a b l = elim (bit_cases (anc (parent t) i j)) [
    | inr o ↦ (
        let m = anc-le (parent u) (rooted u h) i' j' (above_moves n t u og oh tn un a b o) in
        elim (ℕ_discrete i' j') [
          | yes e ↦ (let q : i ≡ j = match_one n t u og oh tn un a (subst (λ (k : ℕ). Match n t u j k) (sym e) b) in absurd (omega arith))
          | no d ↦ omega arith
        ])
    | inl z ↦ (
        let zi : bit (anc (parent t) j i) ≡ 0 = anc-lt (parent t) (rooted t g) j i l in
        let s = parting (parent t) (rooted t g) i j z zi in
        let z' = bit_no (anc (parent u) i' j') (λ y. apart' z (above_moves n u t oh og un tn (match_sym a) (match_sym b) (bit-T _ y))) in
        let zi' = bit_no (anc (parent u) j' i') (λ y. apart' zi (above_moves n u t oh og un tn (match_sym b) (match_sym a) (bit-T _ y))) in
        let s' = parting (parent u) (rooted u h) i' j' z' zi' in
        sides s s')
  ]
    where
      og : IsOriginal t
      og = ct.original

      oh : IsOriginal u
      oh = cu.original

      g : IsTree t
      g = og.tree

      h : IsTree u
      h = oh.tree

      apart' : {k : ℕ} → k ≡ 0 → k ≡ 1 → ⊥
      apart' e d = omega arith

      sides : Siblings (parent t) i j → Siblings (parent u) i' j' → i' < j'
      sides s s' = elim (dec_lt s.one s.two) [
        | yes m ↦ elim (dec_lt s'.one s'.two) [
          | yes k ↦ cu.depth_first s'.one s'.two i' j' s'.pos_one k s'.level s'.over_one s'.over_two
              a.few_j b.few_j
          | no k ↦ absurd (crossed a b s s' m (omega (arith, s'.apart)))
        ]
        | no m ↦ (
            let w = ct.depth_first s.two s.one j i s.pos_two (omega (arith, s.apart)) (sym s.level)
            s.over_two s.over_one b.few_i a.few_i in
            absurd (omega arith))
      ]

  -- so no edge has a partner with a smaller number
  pub not_before : (i i' : ℕ) → Match n t u i i' → i ≤ i'
  not_before zero i' a = omega arith
  not_before (suc zero) i' a = a.pos_j
  not_before (suc (suc k)) i' a =
      let q = f (suc k) (omega arith) (omega (arith, a.few_i)) in
      omega (arith, not_before (suc k) q.0 q.1, order q.1 a (omega arith))

  pub nodes-le : nodes t ≤ nodes u
  nodes-le =
      let few = ct.original.tree.tips_range in let many = ct.original.tree.nodes_range in
      let q = f (nodes t - 1) (omega arith) (omega arith) in
      omega (arith, not_before (nodes t - 1) q.0 q.1, q.1.few_j)

-- ---- the words

-- two lists with the same words
same_list : (l k : List ℕ) (m : ℕ) → length l ≡ m → length k ≡ m
    → ((i : ℕ) → i < m → get_or l i 0 ≡ get_or k i 0) → l ≡ k
same_list l k m a b h = ext_get_or 0 l k (a ∙ sym b) (λ i q. h i (omega arith))

module _ (n : ℕ) (t u : Table) (og : IsOriginal t) (oh : IsOriginal u) (tn : tips t ≡ n) (un : tips u ≡ n)
    (mn : nodes t ≡ nodes u) (e : (i : ℕ) → 1 ≤ i → i < nodes t → Match n t u i i) where
  abbrev g' : IsTree t
  g' = og.tree

  abbrev h' : IsTree u
  h' = oh.tree

  -- the parent of a node is not above the parent in the other table
  parent-le : (i : ℕ) → 2 ≤ i → i < nodes t → parent t i ≤ parent u i
  parent-le i l m =
      let r = rooted t g' in let q = rooted u h' in
      let p = g'.parents_range i l m in
      let a = anc_down (parent t) r (parent t i) i (omega arith) (anc_self (parent t) r (parent t i)) in
      let b = above_moves n t u og oh tn un (e (parent t i) p.0 (omega (arith, p.1))) (e i (omega arith) m) a in
      anc-le (parent u) q (parent t i) (parent u i) (anc_past (parent u) q (parent t i) i p.1 b)

  same_node : (x : ℕ) → x < n → node_of t x ≡ node_of u x
  same_node x l = elim (dec_le 1 x) [
    | yes p ↦ (
        let lt : x < tips t = omega arith in let lu : x < tips u = omega arith in
        let nt = node_at t g' x lt in let nu = node_at u h' x lu in
        edges_distinct t g' (no_pass t og) (node_of t x) (node_of u x) (node_pos t g' x p lt) nt.0
        (node_pos u h' x p lu) (omega (arith, nu.0)) (same (λ y ly. alone p lt lu nu y ly)))
    | no f ↦ (
        let z : x ≡ 0 = omega arith in
        let many = g'.nodes_range in
        node_only t g' x 0 (omega arith) (omega arith) (g'.root_label ∙ sym z)
        ∙ sym (node_only u h' x 0 (omega arith) (omega arith) (h'.root_label ∙ sym z)))
  ]
    where
      alone : 1 ≤ x → x < tips t → x < tips u → (node_of u x < nodes u) × (label u (node_of u x) ≡ x)
          → (y : ℕ) → y < tips t → beyond t (node_of t x) y ≡ beyond t (node_of u x) y
      alone p lt lu nu y ly =
          let m = e (node_of u x) (node_pos u h' x p lu) (omega (arith, nu.0)) in
          let s : beyond t (node_of u x) y ≡ beyond u (node_of u x) y = m.same y (omega arith) in
          bit_inj _ _ (rw s (elim (ℕ_discrete y x) [
            | yes d ↦ rw d (tip-label t g' x lt ∙ sym (tip-label u h' x lu))
            | no d ↦ (bit_no (beyond t (node_of t x) y) (λ o. d (tip_alone t g' x y p lt ly (bit-T _ o)))
                ∙ sym (bit_no (beyond u (node_of u x) y) (λ o. d (tip_alone u h' x y p lu (omega arith) (bit-T _ o)))))
          ]))

  -- a tip's label stands at the same node
  tip_moves : (i : ℕ) → i < nodes t → label t i < n → label u i ≡ label t i
  tip_moves i l m =
      let x = label t i in
      let a = node_only t g' x i (omega arith) l refl in
      let b : node_of u x ≡ i = sym (same_node x m) ∙ a in
      ap (label u) (sym b) ∙ (node_at u h' x (omega arith)).1

-- tables with as many nodes and the same labels beyond each edge have the same words
pub same_words : (n : ℕ) (t u : Table) → IsOriginal t → IsOriginal u → tips t ≡ n → tips u ≡ n → nodes t ≡ nodes u
    → ((i : ℕ) → 1 ≤ i → i < nodes t → Match n t u i i) → t ≡ u
unfolding parent label
same_words n t u og oh tn un mn e =
    sym (table_of-parts t og.tree.words)
    ∙ (λ i. table_of (tips-same i) (parents-same i) (labels-same i))
    ∙ table_of-parts u oh.tree.words
  where
    g : IsTree t
    g = og.tree

    h : IsTree u
    h = oh.tree

    back-e : (i : ℕ) → 1 ≤ i → i < nodes u → Match n u t i i
    back-e i l m = match_sym (e i l (omega arith))

    tips-same : tips t ≡ tips u
    tips-same = tn ∙ sym un

    one_parent : (i : ℕ) → i < nodes t → parent t i ≡ parent u i
    one_parent zero m = g.root_parent ∙ sym h.root_parent
    one_parent (suc zero) m = ((g.root_child 1).1 refl).below ∙ sym ((h.root_child 1).1 refl).below
    one_parent (suc (suc k)) m = omega (
      arith,
      parent-le n t u og oh tn un mn e (suc (suc k)) (omega arith) m,
      parent-le n u t oh og un tn (sym mn) back-e (suc (suc k)) (omega arith) (omega arith),
    )

    one_label : (i : ℕ) → i < nodes t → label t i ≡ label u i
    one_label i m = elim (g.labels_range i m) [
      | inr l ↦ sym (tip_moves n t u og oh tn un mn e i m (omega arith))
      | inl a ↦ elim (h.labels_range i (omega arith)) [
        | inl b ↦ a ∙ sym b
        | inr l ↦ tip_moves n u t oh og un tn (sym mn) back-e i (omega arith) (omega arith)
      ]
    ]

    parents-same : parents t ≡ parents u
    parents-same = same_list (parents t) (parents u) (nodes t) (parents-length t og.tree.words)
        (parents-length u oh.tree.words ∙ sym mn) one_parent

    labels-same : labels t ≡ labels u
    labels-same = same_list (labels t) (labels u) (nodes t) (labels_length t og.tree.words)
        (labels_length u oh.tree.words ∙ sym mn) one_label

-- ---- canonical tables with the same splits are one

pub one_canonical : (t u : Table) → IsCanonical t → IsCanonical u → tips t ≡ tips u
    → SameSplits (tips t) (nodes t - 1) (beyond t) (nodes u - 1) (beyond u) → t ≡ u
one_canonical t u ct cu e s =
    same_words (tips t) t u ct.original cu.original refl (sym e) count (λ i l m. here i (f i l m) l m)
  where
    f : Partners (tips t) t u
    f = partners (tips t) t u ct.original.tree cu.original.tree refl (sym e) s.there

    f' : Partners (tips t) u t
    f' = partners (tips t) u t cu.original.tree ct.original.tree (sym e) refl s.back

    count : nodes t ≡ nodes u
    count = omega (
      arith,
      nodes-le (tips t) t u ct cu refl (sym e) f f',
      nodes-le (tips t) u t cu ct (sym e) refl f' f,
    )

    here : (i : ℕ) → (j : ℕ) × Match (tips t) t u i j → 1 ≤ i → i < nodes t → Match (tips t) t u i i
    here i q l m =
        let a = not_before (tips t) t u ct cu refl (sym e) f f' i q.0 q.1 in
        let b = not_before (tips t) u t cu ct (sym e) refl f' f q.0 i (match_sym q.1) in
        let c : q.0 ≡ i = omega arith in
        subst (λ (k : ℕ). Match (tips t) t u i k) c q.1

pub canonical_unique : (t u : Table) → IsCanonical t → IsCanonical u → tips t ≡ tips u → HaveSameSplits (all (tips t)) t u → t ≡ u
unfolding beyond_at
canonical_unique t u ct cu e s = one_canonical t u ct cu e s
