-- The kept part of a tree table, re-rooted at the smallest kept label: from its words to the arrays of a tree that is rooted at
-- the tip of rank 0.
-- Assumes nothing.
use Rattle.std.specs.Prelude.{◌≡◌, refl, ℕ, ◌+◌, ◌*◌, ◌-◌, ◌≤◌, ◌<◌, T, length, take, drop}
use Rattle.std.proofs.Math.Path.{sym, ap, subst}
use Rattle.std.proofs.Common.{◌∙◌, eq-zero-or-pos, arith}
use Rattle.std.proofs.Math.Logic.{inl, inr}
use mathlib.Core.List.{List}
use Rattle.sums.specs.Counts.{count}
use Rattle.sums.specs.Swaps.{swapped}
use Rattle.sums.specs.Tests.{first}
use Rattle.sums.specs.theorems.BitLaws.{bit-T}
use Rattle.sums.specs.theorems.CountLaws.{count-le, count_none, count-pos}
use Rattle.sums.specs.theorems.SwapLaws.{swapped_second, swapped_other, swapped-lt}
use Rattle.sums.specs.theorems.TestLaws.{some-iff, first_passes}
use Rattle.tree_check.specs.Table.{Table, word, tips, nodes, parents, labels, parent, label, node_of}
use Rattle.tree_check.specs.lemmas.TableParts.{rest, to_parts, of_parts, parents-length, labels_length}
use Rattle.tree_check.specs.lemmas.Sized.{sized_fit}
use Rattle.tree_check.specs.IsTree.{IsTree}
use Rattle.walks.specs.theorems.NodeLabels.{node_at, node_only}
use Rattle.marks.specs.Marks.{is_kept, kept_of}
use Rattle.counting.specs.Labels.{Labels}
use Rattle.counting.specs.Kept.{kept_at, kept}
use Rattle.counting.specs.theorems.LabelLaws.{Rising}
use Rattle.counting.proofs.theorems.KeptLaws.{ranked, rank_of_lem, kept-rising}
use Rattle.rerooting.specs.Rerooted.{rerooted, after_reroot}
use Rattle.rerooting.specs.lemmas.Front.{front_is}
use Rattle.canonical.specs.Copying.{copy_of}
use Rattle.canonical.specs.CanonicalCopy.{from_first, tip_node, canonical_at, canonical_copy}
use Rattle.canonical.proofs.theorems.Copies.{from_first_tree, from_first-nodes, from_first-tips, tip_rooted}
use Rattle.canonical_copy.specs.lemmas.Ranks.{Rankable, RanksAre, rank_of}
use Rattle.canonical_copy.proofs.lemmas.Ranks.{rank_label, rank_inner}
use Rattle.canonical_copy.specs.lemmas.RootedCopy.{RootedRanks, CopiedInto, CopiedFrom}
use Rattle.canonical_copy.specs.lemmas.KeptCopy.{KeptTable, RootedTable, TableCopied}

-- ---- a table by its parts

module _ (t : Table) (m : ℕ) (ranks : List ℕ) (k : ℕ) (h : RootedTable t m ranks k) where
  pub parts_fit : length t ≡ 2 + 2 * m
  parts_fit = omega (arith, h.words, h.nodes_are)

  pub lent_arrays : RootedRanks (take (2 + m - 2) (drop 2 t)) (rest (2 + m) t) ranks k
  lent_arrays = to_parts (λ n ps ls. RootedRanks ps ls ranks k) t (tips t) m h.words refl h.nodes_are h.arrays

  pub lent_copied : (old new : List ℕ) (r : ℕ) → CopiedFrom (take (2 + m - 2) (drop 2 t)) (rest (2 + m) t) ranks k old new r
      → TableCopied t m ranks k old new r
  lent_copied old new r s = record {
    copied = of_parts (λ n ps ls. CopiedFrom ps ls ranks k old new r) t (tips t) m h.words refl h.nodes_are s;
  }

-- ---- the kept part

module _ (t : Table) (marks : List ℕ) (m k : ℕ) (h : KeptTable t marks m k) (x : ℕ) (ex : x ≡ first (length marks) (is_kept marks)) where
  abbrev n : ℕ
  n = tips t

  abbrev l : Labels
  l = kept marks (tips t)

  g : IsTree t
  g = h.sized.tree

  r : Rising (tips t) (kept marks (tips t))
  r = kept-rising marks (tips t)

  two' : 2 ≤ kept_of marks (tips t)
  two' = omega (arith, h.number, h.two)

  long : length marks ≡ tips t
  long = h.are_marks.long

  found : (x < tips t) × T (is_kept marks x) × ((j : ℕ) → j < x → T (is_kept marks j) → ⊥)
  found =
      let s = (count-pos (tips t) (is_kept marks)).0 (omega (arith, two')) in
      let f = first_passes (length marks) (is_kept marks) ((some-iff (length marks) (is_kept marks)).1 (s.0, omega (arith, s.1, long), s.2)) in
      rw ex (omega (arith, f.0, long), f.1, f.2)

  pub rankable : Rankable marks x k
  rankable = record {
    few = omega (arith, long, g.tips_range);
    label = omega (arith, long, found.0);
    bit_kept = bit-T (is_kept marks x) found.1;
    first = (count_none x (is_kept marks)).1 (λ i li q. found.2 i li q);
    number = h.number ∙ ap (λ (j : ℕ). count j (is_kept marks)) (sym long);
  }

  -- it is the label of rank 0
  first_is : x ≡ (kept marks (tips t)).at 0
  first_is =
      let q = rank_of_lem (is_kept marks) (tips t) x found.0 rankable.bit_kept in
      sym q.1 ∙ ap (kept_at (is_kept marks) (tips t)) rankable.first

  pub label_small : x < tips t
  label_small = found.0

  t' : Table
  t' = from_first (kept marks (tips t)) t

  g' : IsTree (from_first (kept marks (tips t)) t)
  g' = from_first_tree (kept marks (tips t)) t g r two'

  pub front : (cells out : List ℕ) → 2 + 2 * m ≤ length cells → out ≡ after_reroot t x cells
      → take (2 + 2 * m) out ≡ from_first (kept marks (tips t)) t
  unfolding from_first
  front cells out room e = front_is t (tips t) m x cells out h.sized found.0 room e ∙ ap (rerooted t) first_is

  -- ---- its arrays

  abbrev node : ℕ → ℕ
  node = tip_node (kept marks (tips t)) t

  -- the label of a rank, after the exchange
  label_of : (i : ℕ) → i < l.number → (swapped 0 (l.at 0) (l.at i) < n)
      × (node i < nodes (from_first l t)) × (label (from_first l t) (node i) ≡ swapped 0 (l.at 0) (l.at i))
  unfolding tip_node
  label_of i li =
      let lx = r.inside 0 (omega (arith, two')) in
      let low = swapped-lt 0 (l.at 0) (l.at i) n (omega (arith, lx)) lx (r.inside i li) in
      let q = node_at (from_first l t) g' (swapped 0 (l.at 0) (l.at i)) (omega (arith, low, from_first-tips l t g r two')) in
      (low, q.0, q.1)

  -- a kept label after the first is itself
  later_is : (i : ℕ) → 1 ≤ i → i < l.number → swapped 0 (l.at 0) (l.at i) ≡ l.at i
  later_is i p li =
      let up = r.rises 0 i p li in
      swapped_other 0 (l.at 0) (l.at i) (omega arith) (omega arith)

  module _ (ranks : List ℕ) (s : RanksAre marks x k ranks) where
    own : (i : ℕ) → i < l.number → word ranks (swapped 0 (l.at 0) (l.at i)) ≡ i
    own i li = elim (eq-zero-or-pos i) [
      | inl z ↦ rw z (ap (word ranks) (swapped_second 0 (l.at 0)) ∙ s.zero)
      | inr p ↦ (
          let q = ranked (is_kept marks) n i li in
          ap (word ranks) (later_is i p li)
          ∙ s.later (l.at i) (omega (arith, first_is, r.rises 0 i p li)) (omega (arith, q.label, long)) q.bit_kept
          ∙ q.rank)
    ]

    -- a label that no rank has
    other : (y : ℕ) → y < n → ((i : ℕ) → i < l.number → swapped 0 (l.at 0) (l.at i) ≡ y → ⊥) → word ranks y ≡ k
    other y ly none = elim (eq-zero-or-pos y) [
      | inl z ↦ absurd (none 0 (omega (arith, two')) (swapped_second 0 (l.at 0) ∙ sym z))
      | inr p ↦ s.other y p (omega (arith, g.tips_range)) (λ a b c.
          let q = rank_of_lem (is_kept marks) n y ly c in
          let more : 1 ≤ count y (is_kept marks) = (count-pos y (is_kept marks)).1 (x, a, found.1) in
          none (count y (is_kept marks)) q.0 (later_is (count y (is_kept marks)) more q.0 ∙ q.1))
    ]

    at_node : (v : ℕ) → v < nodes (from_first l t) → ((i : ℕ) → i < l.number → node i ≡ v → ⊥) → rank_of ranks k (label (from_first l t) v) ≡ k
    unfolding tip_node
    at_node v lv none = elim (g'.labels_range v lv) [
      | inl e ↦ rank_inner ranks k (label (from_first l t) v) (omega (arith, e))
      | inr q ↦ (
          let ly : label (from_first l t) v < n = omega (arith, q, from_first-tips l t g r two') in
          rank_label ranks k (label (from_first l t) v) (omega (arith, ly, g.tips_range))
          ∙ other (label (from_first l t) v) ly (λ i li e.
          none i li (ap (node_of (from_first l t)) e ∙ node_only (from_first l t) g' (label (from_first l t) v) v q lv refl)))
    ]

    parents_long : length (parents (from_first l t)) ≡ nodes (from_first l t)
    parents_long = parents-length (from_first l t) g'.words

    tree_arrays : RootedRanks (parents (from_first l t)) (labels (from_first l t)) ranks k
    unfolding parent label
    tree_arrays = record {
      node = node;
      rooted = rw (parents_long, h.number) (tip_rooted l t g r two');
      few = omega (arith, parents_long, from_first-nodes l t g r two', sized_fit t (tips t) m h.sized, h.sized.nodes_are);
      small = omega (arith, sized_fit t (tips t) m h.sized, h.number, count-le n (is_kept marks));
      same = labels_length (from_first l t) g'.words ∙ sym parents_long;
      own = λ i li.
          let lj : i < l.number = omega (arith, li, h.number) in
          let q = label_of i lj in
          ap (rank_of ranks k) q.2 ∙ rank_label ranks k (swapped 0 (l.at 0) (l.at i)) (omega (arith, q.0, g.tips_range)) ∙ own i lj;
      other = λ v lv none. at_node v (omega (arith, lv, parents_long)) (λ i li. none i (omega (arith, li, h.number)));
    }

    pub rooted_table : (u : Table) → u ≡ from_first (kept marks (tips t)) t → RootedTable u m ranks k
    rooted_table u e = rw e (record {
      nodes_are = h.sized.nodes_are ∙ sym (from_first-nodes l t g r two');
      words = g'.words;
      arrays = tree_arrays;
    })

    own_copied : (old new : List ℕ) (w : ℕ) → TableCopied (from_first (kept marks (tips t)) t) m ranks k old new w
        → CopiedInto (canonical_copy marks t) old new w
    unfolding canonical_at tree_arrays parent
    own_copied old new w c =
        subst (λ (z : List ℕ). CopiedInto z old new w)
        (λ i. copy_of (parent (from_first l t)) (parents_long i) node (h.number i))
        (c.copied.into tree_arrays)

    pub kept_copied : (u : Table) → u ≡ from_first (kept marks (tips t)) t → (old new : List ℕ) (w : ℕ)
        → TableCopied u m ranks k old new w → CopiedInto (canonical_copy marks t) old new w
    kept_copied u e old new w c = own_copied old new w (subst (λ (v : Table). TableCopied v m ranks k old new w) e c)
