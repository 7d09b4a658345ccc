-- The words of a re-rooted table, written node by node, and what the call gives.
-- Assumes nothing.
use Rattle.std.specs.Prelude.{◌≡◌, true, false, ◌≢◌, ℕ, zero, suc, ◌+◌, ◌*◌, ◌-◌, ◌≤◌, ◌<◌, leb, get_or, set, take}
use Rattle.std.proofs.Math.Path.{refl, sym, ap}
use Rattle.std.proofs.Common.{◌∙◌, subst, eq-zero-or-pos, arith, lt-ltb, le-ltb, le-leb, length-append, length-drop, get_or-set_same, get_or-set_other, get_or-take, get_or-drop, get_or-append-add}
use Rattle.std.proofs.Math.Logic.{inl, inr}
use mathlib.Core.List.{List, [], ◌∷◌, ◌++◌}
use Rattle.std.proofs.Math.Decide.{dec_lt, ℕ_discrete}
use Rattle.std.proofs.lemmas.Bool.{lt-leb}
use Rattle.std.proofs.Math.ListN.{length, drop, length-set}
use Rattle.std.proofs.Math.Seq.{drop-set-lt, ext_get_or}
use Rattle.table_words.specs.Sizes.{node_room}
use Rattle.sums.specs.Bits.{bit}
use Rattle.sums.specs.theorems.BitLaws.{bit_cases}
use Rattle.shapes.specs.Ancestors.{anc}
use Rattle.shapes.proofs.theorems.AncestorLaws.{anc_root}
use Rattle.tree_check.specs.Table.{Table, word, tips, nodes, parents, labels, parent, label, node_below, node_of}
use Rattle.tree_check.specs.Refusals.{refusal}
use Rattle.tree_check.specs.IsTree.{IsTree}
use Rattle.tree_check.specs.TreeOrder.{tree_order}
use Rattle.tree_check.specs.theorems.RefusalLaws.{refusal_none, refusal_here, refusal_next, if_accepted_lem, if_refused}
use Rattle.tree_check.specs.lemmas.TableParts.{rest, to_parts, of_parts, parents-length, labels_length}
use Rattle.rerooting.specs.lemmas.Renumbering.{Rerootable, RenumberedAre}
use Rattle.tree_check.specs.theorems.RootedTables.{rooted}
use Rattle.walks.specs.theorems.NodeLabels.{node_at}
use Rattle.walks.specs.theorems.WalkOrderLaws.{tree_refused, tree_accepted}
use Rattle.shapes.specs.Rerooting.{renumbered, node_numbered}
use Rattle.sums.specs.Swaps.{swapped}
use Rattle.rerooting.specs.Rerooted.{new_parent, new_label, rerooted, reroot_order, written, after_reroot}
use Rattle.shapes.proofs.theorems.RerootedNumbers.{renumbered-lt, renumbered-one, numbered_is, numbered_back, up_on, up_off, path_before, path_back}
use Rattle.rerooting.specs.theorems.RerootedParts.{same_nodes, new_parent_lem, new_label_lem, rerooted-length}

-- ---- the words of a node

-- the new parent of the node with the new number i, where the path ends with the number `last`, and p is that of its parent
unfoldable pub parent_for : ℕ → ℕ → ℕ → ℕ
parent_for i last p = elim (leb i last) [ true ↦ i - 1 | false ↦ p ]

pub on_the_path : (i last p : ℕ) → i ≤ last → parent_for i last p ≡ i - 1
unfolding parent_for
on_the_path i last p l = rw (le-leb i last l, parent_for)

pub off_the_path : (i last p : ℕ) → last < i → parent_for i last p ≡ p
unfolding parent_for
off_the_path i last p l = rw (lt-leb i last l, parent_for)

-- a table that was checked, a label of it, and the new numbers of its nodes
pub record TableNumbered (t : Table) (m x : ℕ) (news : List ℕ) : Type 0 where
  pub tree : IsTree t
  pub nodes_are : m ≡ nodes t
  pub label_lt : x < tips t
  pub long : length news ≡ node_room
  pub number : (v : ℕ) → v < nodes t → word news v ≡ renumbered (parent t) (nodes t) (node_of t x) v

-- the words of the nodes below v are written
pub record NodesWritten (t : Table) (x v : ℕ) (old new : List ℕ) : Type 0 where
  pub same_long : length new ≡ length old
  pub first_two : (i : ℕ) → i < 2 → word new i ≡ word old i
  pub parents_in : (u : ℕ) → u < v
      → word new (2 + renumbered (parent t) (nodes t) (node_of t x) u) ≡ new_parent t x (renumbered (parent t) (nodes t) (node_of t x) u)
  pub labels_in : (u : ℕ) → u < v
      → word new (2 + (nodes t + renumbered (parent t) (nodes t) (node_of t x) u)) ≡ new_label t x (renumbered (parent t) (nodes t) (node_of t x) u)
  pub rest : (i : ℕ) → 2 + 2 * nodes t ≤ i → word new i ≡ word old i

pub none_written : (t : Table) (x : ℕ) (old : List ℕ) → NodesWritten t x 0 old old
none_written t x old = record {
  same_long = refl;
  first_two = λ i l. refl;
  parents_in = λ u l. absurd (omega arith);
  labels_in = λ u l. absurd (omega arith);
  rest = λ i l. refl;
}

get_or_left : (xs ys : List ℕ) (i : ℕ) → i < length xs → get_or (xs ++ ys) i 0 ≡ get_or xs i 0
get_or_left [] ys i l = absurd (omega arith)
get_or_left (a ∷ xs) ys zero l = refl
get_or_left (a ∷ xs) ys (suc i) l = get_or_left xs ys i (omega arith)

-- words of the table
pub parent-word : (t : Table) (v : ℕ) → v < nodes t → word t (2 + v) ≡ parent t v
unfolding parent parents
parent-word t v l = sym (get_or-take (nodes t) (drop 2 t) v 0 l ∙ get_or-drop 2 t v 0)

pub label_word_lem : (t : Table) (v : ℕ) → v < nodes t → word t (2 + (nodes t + v)) ≡ label t v
unfolding label labels
label_word_lem t v l = sym (get_or-take (nodes t) (drop (2 + nodes t) t) v 0 l ∙ get_or-drop (2 + nodes t) t v 0
    ∙ ap (word t) (omega arith))

module _ (t : Table) (m x : ℕ) (news : List ℕ) (h : TableNumbered t m x news) where
  abbrev up : ℕ → ℕ
  up = parent t

  abbrev M : ℕ
  M = nodes t

  abbrev z : ℕ
  z = node_of t x

  abbrev ν : ℕ → ℕ
  ν = renumbered (parent t) (nodes t) (node_of t x)

  lz : z < M
  lz = (node_at t h.tree x h.label_lt).0

  pub few_nodes : (nodes t ≤ node_room) × (1 ≤ nodes t)
  few_nodes = let g = h.tree in omega (arith, g.tips_range, g.nodes_range)

  parent_lower : (v : ℕ) → v < M → up v < M
  parent_lower zero l = omega (arith, h.tree.root_parent)
  parent_lower (suc w) l = omega (arith, (rooted t h.tree).falls w)

  -- where the words of node v go, and what they are
  pub record Places (v i p : ℕ) : Type 0 where
    pub in_news : v < node_room
    pub in_table : (2 + v < length t) × (2 + (m + v) < length t)
    pub parent_in : word t (2 + v) < node_room
    pub low : i < nodes t
    pub parent_fits : parent_for i (word news 0) p < 65536
    pub parent_is : parent_for i (word news 0) p ≡ new_parent t x i
    pub label_is : swapped 0 x (word t (2 + (m + v))) ≡ new_label t x i

  pub places : (v i p : ℕ) → v < m → i ≡ word news v → p ≡ word news (word t (2 + v)) → Places v i p
  places v i p l ei ep =
      let lv : v < M = omega (arith, h.nodes_are) in
      let g = h.tree in
      let wp = parent-word t v lv in
      let lp = parent_lower v lv in
      let e : i ≡ ν v = ei ∙ h.number v lv in
      let q : p ≡ ν (up v) = ep ∙ ap (word news) wp ∙ h.number (up v) lp in
      let low' = renumbered-lt up M z (rooted t g) lz v lv in
      let lowp = renumbered-lt up M z (rooted t g) lz (up v) lp in
      let zero_is : word news 0 ≡ ν 0 = h.number 0 (omega (arith, few_nodes)) in
      let pe = parent-here v lv in
      record {
        in_news = omega (arith, few_nodes);
        in_table = (omega (arith, g.words), omega (arith, g.words, h.nodes_are));
        parent_in = omega (arith, wp, lp, few_nodes);
        low = omega (arith, e, low');
        parent_fits = rw (e, zero_is, q) (omega (arith, pe, few_nodes));
        parent_is = rw (e, zero_is, q) pe.0;
        label_is = ap (λ (k : ℕ). swapped 0 x (word t (2 + (k + v)))) h.nodes_are
            ∙ ap (swapped 0 x) (label_word_lem t v lv) ∙ label_here v lv ∙ ap (new_label t x) (sym e);
      }
    where
      label_here : (v : ℕ) → v < M → swapped 0 x (label t v) ≡ new_label t x (ν v)
      label_here v lv = unfold new_label in
          ap (λ (w : ℕ). swapped 0 x (label t w)) (sym (numbered_back up M z (rooted t h.tree) lz v lv))

      parent-here : (v : ℕ) → v < M
          → (parent_for (ν v) (ν 0) (ν (up v)) ≡ new_parent t x (ν v)) × (parent_for (ν v) (ν 0) (ν (up v)) < M)
      parent-here v lv =
          let r = rooted t h.tree in
          let lowv = renumbered-lt up M z r lz v lv in
          let lowp = renumbered-lt up M z r lz (up v) (parent_lower v lv) in
          let o0 = anc_root up r z in
          elim (bit_cases (anc up v z)) [
            | inl o ↦ (let f = off_the_path (ν v) (ν 0) (ν (up v)) (path_before up M z r lz 0 v o0 o) in
                (f ∙ (unfold new_parent in sym (up_off up M z r lz v lv o)), omega (arith, f)))
            | inr o ↦ (let f = on_the_path (ν v) (ν 0) (ν (up v)) (before v o) in
                (f ∙ (unfold new_parent in sym (up_on up M z r lz v lv o)), omega (arith, f)))
          ]
        where
          before : (v : ℕ) → bit (anc up v z) ≡ 1 → ν v ≤ ν 0
          before v o = elim (eq-zero-or-pos v) [
            | inl e ↦ rw e (omega arith)
            | inr p ↦ omega (arith, path_back up M z (rooted t h.tree) lz 0 v (anc_root up (rooted t h.tree) z) o p)
          ]

  -- node v is next
  pub node_written : (v i p : ℕ) (old new : List ℕ) → v < m → i ≡ word news v → p ≡ word news (word t (2 + v))
      → 2 + 2 * nodes t ≤ length old → (a b : ℕ) → a ≡ parent_for i (word news 0) p → b ≡ swapped 0 x (word t (2 + (m + v)))
      → NodesWritten t x v old new → NodesWritten t x (v + 1) old (set (set new (2 + i) a) (2 + (m + i)) b)
  node_written v i p old new l ei ep room a b ea eb w = record {
    same_long = length-set (set new (2 + i) a) (2 + (m + i)) b ∙ length-set new (2 + i) a ∙ w.same_long;
    first_two = λ j lj. other j (omega arith) (omega arith) ∙ w.first_two j lj;
    parents_in = λ u lu. elim (ℕ_discrete u v) [
      | yes q ↦ (let x' : 2 + ν u ≡ 2 + i = omega (arith, ap ν q, here) in
          rw x' (get_or-set_other (set new (2 + i) a) (2 + (m + i)) (2 + i) b 0 (λ f. omega (arith, few_nodes, h.nodes_are))
          ∙ get_or-set_same new (2 + i) a 0 (omega (arith, c.low, w.same_long)) ∙ ea ∙ c.parent_is
          ∙ ap (new_parent t x) (here ∙ ap ν (sym q))))
      | no q ↦ (let d = apart u lu q in other (2 + ν u) (λ f. d.0 (omega (arith, f))) (λ f. omega (arith, f, d.1, h.nodes_are))
          ∙ w.parents_in u d.2)
    ];
    labels_in = λ u lu. elim (ℕ_discrete u v) [
      | yes q ↦ (let x' : 2 + (M + ν u) ≡ 2 + (m + i) = omega (arith, ap ν q, here, h.nodes_are) in
          rw x' (get_or-set_same (set new (2 + i) a) (2 + (m + i)) b 0
          (omega (arith, c.low, w.same_long, length-set new (2 + i) a, h.nodes_are)) ∙ eb ∙ c.label_is
          ∙ ap (new_label t x) (here ∙ ap ν (sym q))))
      | no q ↦ (let d = apart u lu q in other (2 + (M + ν u)) (λ f. omega (arith, f, c.low)) (λ f. d.0 (omega (arith, f, h.nodes_are)))
          ∙ w.labels_in u d.2)
    ];
    rest = λ j lj. other j (λ f. omega (arith, f, c.low)) (λ f. omega (arith, f, c.low, h.nodes_are)) ∙ w.rest j lj;
  }
    where
      c : Places v i p
      c = places v i p l ei ep

      lv : v < M
      lv = omega (arith, h.nodes_are)

      here : i ≡ ν v
      here = ei ∙ h.number v lv

      other : (j : ℕ) → j ≢ 2 + i → j ≢ 2 + (m + i) → word (set (set new (2 + i) a) (2 + (m + i)) b) j ≡ word new j
      other j ni nj = get_or-set_other (set new (2 + i) a) (2 + (m + i)) j b 0 nj ∙ get_or-set_other new (2 + i) j a 0 ni

      apart : (u : ℕ) → u < v + 1 → u ≢ v → (ν u ≢ i) × (ν u < M) × (u < v)
      apart u lu d =
          let lu' : u < v = omega arith in (
            λ f. d (renumbered-one up M z (rooted t h.tree) lz u v (f ∙ here)),
            renumbered-lt up M z (rooted t h.tree) lz u (omega arith),
            lu',
          )

  -- ---- all of them

  -- the words of the re-rooted table
  word_first : word (rerooted t x) 0 ≡ tips t
  unfolding rerooted
  word_first = refl

  word_second : word (rerooted t x) 1 ≡ nodes t
  unfolding rerooted
  word_second = refl

  word-parent : (j : ℕ) → j < M → word (rerooted t x) (2 + j) ≡ new_parent t x j
  word-parent j l = parent-word (rerooted t x) j (omega (arith, same_nodes t x)) ∙ new_parent_lem t x j l

  word-label : (j : ℕ) → j < M → word (rerooted t x) (2 + (M + j)) ≡ new_label t x j
  word-label j l =
      ap (λ (k : ℕ). word (rerooted t x) (2 + (k + j))) (sym (same_nodes t x))
      ∙ label_word_lem (rerooted t x) j (omega (arith, same_nodes t x)) ∙ new_label_lem t x j l

  pub all-written : (v : ℕ) (old new : List ℕ) → m ≤ v → 2 + 2 * nodes t ≤ length old
      → word old 0 ≡ tips t → word old 1 ≡ nodes t → NodesWritten t x v old new → new ≡ written t x old
  unfolding written
  all-written v old new l room e0 e1 w =
      ext_get_or 0 new (rerooted t x ++ drop (2 + 2 * nodes t) old) long cell
    where
      size : length (rerooted t x) ≡ 2 + 2 * nodes t
      size = rerooted-length t x

      long : length new ≡ length (rerooted t x ++ drop (2 + 2 * nodes t) old)
      long = omega (
        arith,
        w.same_long,
        length-append (rerooted t x) (drop (2 + 2 * nodes t) old),
        size,
        length-drop (2 + 2 * nodes t) old,
      )

      -- the word of a new number
      by_number : (j : ℕ) → j < M → (u : ℕ) × (u < v) × (ν u ≡ j)
      by_number j lj =
          let q = numbered_is up M z (rooted t h.tree) lz j lj in
          (node_numbered up M z j, omega (arith, q.0, h.nodes_are), q.1)

      in-parents : (j : ℕ) → j < M → word new (2 + j) ≡ word (rerooted t x) (2 + j)
      in-parents j lj =
          let q = by_number j lj in
          subst (λ (k : ℕ). word new (2 + k) ≡ new_parent t x k) q.2 (w.parents_in q.0 q.1) ∙ sym (word-parent j lj)

      in-labels : (j : ℕ) → j < M → word new (2 + (M + j)) ≡ word (rerooted t x) (2 + (M + j))
      in-labels j lj =
          let q = by_number j lj in
          subst (λ (k : ℕ). word new (2 + (M + k)) ≡ new_label t x k) q.2 (w.labels_in q.0 q.1) ∙ sym (word-label j lj)

      inside : (i : ℕ) → i < 2 + 2 * nodes t → word new i ≡ word (rerooted t x) i
      inside zero li = w.first_two 0 (omega arith) ∙ e0 ∙ sym word_first
      inside (suc zero) li = w.first_two 1 (omega arith) ∙ e1 ∙ sym word_second
      inside (suc (suc j)) li = elim (dec_lt j M) [
        | yes lj ↦ (let e : suc (suc j) ≡ 2 + j = omega arith in rw e (in-parents j lj))
        | no n ↦ (let e : suc (suc j) ≡ 2 + (M + (j - M)) = omega arith in rw e (in-labels (j - M) (omega arith)))
      ]

      cell : (i : ℕ) → i < length new → word new i ≡ get_or (rerooted t x ++ drop (2 + 2 * nodes t) old) i 0
      cell i li = elim (dec_lt i (2 + 2 * nodes t)) [
        | yes q ↦ inside i q ∙ sym (get_or_left (rerooted t x) (drop (2 + 2 * nodes t) old) i (omega (arith, size)))
        | no n ↦ (let k = i - (2 + 2 * nodes t) in
            let e : length (rerooted t x) + k ≡ i = omega (arith, size) in
            let f : 2 + 2 * nodes t + k ≡ i = omega arith in
            w.rest i (omega arith)
            ∙ sym (ap (λ (j : ℕ). get_or (rerooted t x ++ drop (2 + 2 * nodes t) old) j 0) (sym e)
            ∙ get_or-append-add (rerooted t x) (drop (2 + 2 * nodes t) old) k 0
            ∙ get_or-drop (2 + 2 * nodes t) old k 0 ∙ ap (word old) f))
      ]

-- ---- a table's parts, as code lends them

module _ (t : Table) (g : IsTree t) (m x z : ℕ) (em : m ≡ nodes t) (lx : x < tips t)
    (ez : z ≡ node_below (word (rest (2 + m) t)) (length (rest (2 + m) t)) x) where
  node_is : z ≡ node_of t x
  unfolding node_of label
  node_is =
      of_parts (λ n ps ls. z ≡ node_below (word ls) (length ls) x) t (tips t) m g.words refl em ez
      ∙ ap (λ (k : ℕ). node_below (word (labels t)) k x) (labels_length t g.words)

  pub lent_rerootable : Rerootable (take (2 + m - 2) (drop 2 t)) (length (take (2 + m - 2) (drop 2 t))) z
  unfolding parent
  lent_rerootable = to_parts (λ n ps ls. Rerootable ps (length ps) z) t (tips t) m g.words refl em (record {
    tree = rooted t g;
    few = omega (arith, parents-length t g.words, g.tips_range, g.nodes_range);
    node = omega (arith, parents-length t g.words, node_is, (node_at t g x lx).0);
  })

  pub lent_numbered : (news : List ℕ)
      → RenumberedAre (take (2 + m - 2) (drop 2 t)) (length (take (2 + m - 2) (drop 2 t))) z news → TableNumbered t m x news
  unfolding parent
  lent_numbered news h =
      let a = of_parts (λ n ps ls. RenumberedAre ps (length ps) z news) t (tips t) m g.words refl em h in
      record {
        tree = g;
        nodes_are = em;
        label_lt = lx;
        long = a.long;
        number = λ v l. a.new_is v (omega (arith, parents-length t g.words))
            ∙ ap (λ (k : ℕ). renumbered (word (parents t)) k z v) (parents-length t g.words)
            ∙ ap (λ (k : ℕ). renumbered (word (parents t)) (nodes t) k v) node_is;
      }

-- the first two words, then the nodes'
pub two_set : (old : List ℕ) (a b : ℕ) → length (set (set old 0 a) 1 b) ≡ length old
two_set old a b = length-set (set old 0 a) 1 b ∙ length-set old 0 a

pub table_written : (t : Table) (m x : ℕ) (news : List ℕ) → TableNumbered t m x news → (old new : List ℕ)
    → 2 + 2 * nodes t ≤ length old → NodesWritten t x m (set (set old 0 (word t 0)) 1 (word t 1)) new → new ≡ written t x old
unfolding written
table_written t m x news h old new room w =
    all-written t m x news h m (set (set old 0 (word t 0)) 1 (word t 1)) new (omega arith)
    (omega (arith, two_set old (word t 0) (word t 1)))
    (get_or-set_other (set old 0 (word t 0)) 1 0 (word t 1) 0 (λ e. omega arith)
    ∙ get_or-set_same old 0 (word t 0) 0 (omega arith) ∙ (unfold tips in refl))
    (get_or-set_same (set old 0 (word t 0)) 1 (word t 1) 0 (omega (arith, length-set old 0 (word t 0))) ∙ (unfold nodes in refl)) w
    ∙ ap (λ (l : List ℕ). rerooted t x ++ l)
    (drop-set-lt (2 + 2 * nodes t) (set old 0 (word t 0)) 1 (word t 1) (omega arith)
    ∙ drop-set-lt (2 + 2 * nodes t) old 0 (word t 0) (omega arith))

-- ---- what the call gives

abbrev pub Rerooted : Table → ℕ → List ℕ → ℕ → List ℕ → Type 0
Rerooted t x cells number after = (number ≡ refusal (reroot_order t x (length cells))) × (after ≡ after_reroot t x cells)

module _ (t : Table) (x : ℕ) (cells : List ℕ) where
  refused : (k : ℕ) → k ≢ 0 → k ≡ refusal (reroot_order t x (length cells)) → Rerooted t x cells k cells
  unfolding after_reroot
  refused k d e = (e, sym (if_refused _ (written t x cells) cells (λ q. d (e ∙ q))))

  pub reroot_tree_refused : (k : ℕ) → refusal (tree_order t) ≡ k → k ≢ 0 → Rerooted t x cells k cells
  unfolding reroot_order
  reroot_tree_refused k e d = refused k d (sym (tree_refused t _ k e d))

  module _ (g : IsTree t) where
    pub reroot_no_label : tips t ≤ x → Rerooted t x cells 10 cells
    unfolding reroot_order
    reroot_no_label l = refused 10 (λ q. omega arith)
        (sym (tree_accepted t _ g ∙ refusal_here 10 _ _ (le-leb (tips t) x l)))

    pub reroot_too_short : x < tips t → length cells < 2 + 2 * nodes t → Rerooted t x cells 12 cells
    unfolding reroot_order
    reroot_too_short l s = refused 12 (λ q. omega arith)
        (sym (tree_accepted t _ g ∙ refusal_next 10 _ _ (lt-leb (tips t) x l) ∙ refusal_here 12 _ _ (lt-ltb (length cells) _ s)))

    pub reroot_accepted : x < tips t → 2 + 2 * nodes t ≤ length cells → Rerooted t x cells 0 (written t x cells)
    unfolding reroot_order after_reroot
    reroot_accepted l s = (sym zero_is, sym (if_accepted_lem _ (written t x cells) cells zero_is))
      where
        zero_is : refusal (reroot_order t x (length cells)) ≡ 0
        zero_is = tree_accepted t _ g ∙ refusal_next 10 _ _ (lt-leb (tips t) x l)
            ∙ refusal_next 12 _ [] (le-ltb (length cells) _ s) ∙ refusal_none
