-- The executable copy keeps the rules of the record `IsCopy`, and nothing else does; copies are the same words exactly if the
-- splits agree.
-- Assumes nothing.
use Rattle.std.specs.Prelude.{◌≡◌, ◌↔◌, List, ℕ, ◌-◌, ◌≤◌, ◌<◌, length}
use Rattle.std.proofs.Common.{sym, ◌∙◌, subst, inl, inr, eq-zero-or-pos}
use Rattle.std.proofs.Math.Path.{ap}
use Rattle.std.proofs.Math.Decide.{ℕ_discrete}
use native.Mathlib.Omega.{arith}
use Rattle.table_words.specs.Sizes.{tips_most}
use Rattle.sums.specs.theorems.CountLaws.{count-le}
use Rattle.sums.specs.Bits.{bit}
use Rattle.sums.specs.Swaps.{swapped}
use Rattle.sums.specs.theorems.SwapLaws.{swapped-lt, swapped_one, swapped_second}
use Rattle.shapes.specs.Ancestors.{anc}
use Rattle.shapes.proofs.theorems.SameSplits.{same_splits_sym, same_splits_trans}
use Rattle.shapes.specs.Splits.{SameSides, same, SameSplits}
use Rattle.shapes.proofs.theorems.SplitLaws.{split_moves}
use Rattle.tree_check.specs.Table.{Table, tips, nodes, parent, label, node_of, beyond}
use Rattle.tree_check.specs.IsTree.{IsTree}
use Rattle.tree_check.specs.Refusals.{refusal}
use Rattle.tree_check.specs.TreeOrder.{tree_order}
use Rattle.tree_check.specs.theorems.TreeCheck.{tree_check}
use Rattle.tree_check.specs.theorems.RootedTables.{rooted}
use Rattle.walks.specs.theorems.NodeLabels.{node_at, node_only}
use Rattle.marks.specs.Marks.{is_kept, kept_of}
use Rattle.marks.proofs.theorems.Ones.{ones, ones_keep}
use Rattle.counting.specs.Labels.{Labels}
use Rattle.counting.specs.Kept.{kept}
use Rattle.counting.specs.SplitCounts.{beyond_at, HaveSameSplits}
use Rattle.counting.specs.theorems.LabelLaws.{Rising}
use Rattle.counting.proofs.theorems.LabelLaws.{rising_of, at_apart, number-le}
use Rattle.counting.proofs.theorems.KeptLaws.{kept-rising, all_kept-number, all_kept_at}
use Rattle.rerooting.specs.theorems.RerootedParts.{same_tips, same_nodes}
use Rattle.rerooting.specs.theorems.RerootedTree.{rerooted_tree}
use Rattle.rerooting.specs.theorems.RerootedSplits.{rerooted-splits}
use Rattle.canonical.specs.Original.{IsOriginal}
use Rattle.canonical.specs.Canonical.{IsCanonical}
use Rattle.canonical.specs.IsCopy.{IsCopy}
use Rattle.canonical.specs.Copying.{stays, copy_of}
use Rattle.canonical.specs.CanonicalCopy.{from_first, tip_node, canonical_at, canonical_copy}
use Rattle.canonical.proofs.theorems.OneCanonical.{one_canonical}
use Rattle.canonical.specs.theorems.Branches.{TipRooted}
use Rattle.canonical.proofs.theorems.CopyTree.{copy_tips, copy_nodes}
use Rattle.canonical.proofs.theorems.Positions.{size-all}
use Rattle.canonical.proofs.theorems.CopyCanonical.{copy_canonical, copy_splits}

-- ---- a tree table is rooted at the tip of label 0

module _ (t : Table) (g : IsTree t) (at : ℕ → ℕ) (k : ℕ) (two : 2 ≤ k) (inside : (x : ℕ) → x < k → at x < tips t)
    (one : (x y : ℕ) → x < k → y < k → at x ≡ at y → x ≡ y) (zero-first : at 0 ≡ 0) where
  node_zero : node_of t (at 0) ≡ 0
  node_zero =
      let few = g.tips_range in let many = g.nodes_range in
      node_only t g (at 0) 0 (omega (arith, zero-first)) (omega arith) (g.root_label ∙ sym zero-first)

  -- with any labels of which the first is 0
  pub table_tip_rooted : TipRooted (parent t) (nodes t) (λ x. node_of t (at x)) k
  table_tip_rooted = record {
    tree = rooted t g;
    two = two;
    node_lt = λ x l. (node_at t g (at x) (inside x l)).0;
    node_one = λ x y lx ly e. one x y lx ly
        (sym (node_at t g (at x) (inside x lx)).1 ∙ ap (label t) e ∙ (node_at t g (at y) (inside y ly)).1);
    root = node_zero;
    bare = λ x c px lx pc lc e.
        let n = node_at t g (at x) (inside x lx) in
        elim (eq-zero-or-pos (node_of t (at x))) [
          | inl z ↦ (
              let q = one x 0 lx (omega (arith, two)) (sym n.1 ∙ ap (label t) z ∙ g.root_label ∙ sym zero-first) in
              absurd (omega arith))
          | inr p ↦ absurd (g.tip_bare (node_of t (at x)) p n.0 (omega (arith, n.1, inside x lx)) c
              (record { other = pc; node = lc; below = e }))
        ];
    stem = λ c d pc lc pd ld ec ed.
        (g.root_child c).0 (record { other = pc; node = lc; below = ec })
        ∙ sym ((g.root_child d).0 (record { other = pd; node = ld; below = ed }));
  }

-- ---- the copy

module _ (l : Labels) (t : Table) (g : IsTree t) (r : Rising (tips t) l) (two : 2 ≤ l.number) where
  first-lt : l.at 0 < tips t
  first-lt = r.inside 0 (omega (arith, two))

  abbrev x₀ : ℕ
  x₀ = l.at 0

  abbrev t' : Table
  t' = from_first l t

  pub from_first_tree : IsTree (from_first l t)
  unfolding from_first
  from_first_tree = rerooted_tree t g x₀ first-lt

  pub from_first-nodes : nodes (from_first l t) ≡ nodes t
  unfolding from_first
  from_first-nodes = same_nodes t x₀

  pub from_first-tips : tips (from_first l t) ≡ tips t
  unfolding from_first
  from_first-tips = same_tips t x₀

  pub tip_rooted : TipRooted (parent (from_first l t)) (nodes (from_first l t)) (tip_node l t) l.number
  unfolding tip_node
  tip_rooted = table_tip_rooted t' from_first_tree (λ i. swapped 0 x₀ (l.at i)) l.number two
      (λ x m. omega (arith, from_first-tips, swapped-lt 0 x₀ (l.at x) (tips t) (omega (arith, first-lt)) first-lt (r.inside x m)))
      (λ x y lx ly e. elim (ℕ_discrete x y) [
        | yes q ↦ q
        | no d ↦ absurd (at_apart (tips t) l r x y lx ly d (swapped_one 0 x₀ (l.at x) (l.at y) e))
      ])
      (swapped_second 0 x₀)

  pub few_labels : l.number ≤ tips_most
  few_labels = omega (arith, number-le (tips t) l r, g.tips_range)

  -- the re-rooted tree has the same splits
  rerooted_same : SameSplits l.number (nodes t - 1) (beyond_at l t) (nodes t' - 1) (λ v x. anc (parent t') v (tip_node l t x))
  unfolding beyond_at beyond tip_node from_first
  rerooted_same = rw (same_nodes t x₀) (rerooted-splits t g x₀ first-lt l r)

  -- the copy keeps the rules, ..
  pub copy_is_it : IsCopy l t (canonical_at l t)
  unfolding canonical_at
  copy_is_it = record {
    canonical = copy_canonical (parent t') (nodes t') (tip_node l t) l.number tip_rooted few_labels;
    labels = copy_tips (parent t') (nodes t') (tip_node l t) l.number tip_rooted;
    splits = same_splits_trans {b = beyond_at l t} {c = λ v x. anc (parent t') v (tip_node l t x)} {d = beyond (copy_of (parent t') (nodes t') (tip_node l t) l.number)}
        rerooted_same (copy_splits (parent t') (nodes t') (tip_node l t) l.number tip_rooted few_labels);
  }

  -- .. and no other words do
  pub copy_only : (c : Table) → IsCopy l t c → c ≡ canonical_at l t
  copy_only c d =
      let own = copy_is_it in
      one_canonical c (canonical_at l t) d.canonical own.canonical (d.labels ∙ sym own.labels)
      (subst (λ (n : ℕ). SameSplits n (nodes c - 1) (beyond c) (nodes (canonical_at l t) - 1) (beyond (canonical_at l t))) (sym d.labels)
      (same_splits_trans {b = beyond c} {c = beyond_at l t} {d = beyond (canonical_at l t)}
      (same_splits_sym {b = beyond_at l t} {c = beyond c} d.splits) own.splits))

  pub copy_iff : (c : Table) → IsCopy l t c ↔ (c ≡ canonical_at l t)
  copy_iff c = (copy_only c, λ e. subst (IsCopy l t) (sym e) copy_is_it)

  -- there is exactly one list of words that does
  pub one_copy : (c : Table) × IsCopy l t c × ((d : Table) → IsCopy l t d → d ≡ c)
  one_copy = (canonical_at l t, copy_is_it, copy_only)

  -- the tree check accepts the copy, which keeps the original rules too
  pub copy_is_original : IsOriginal (canonical_at l t)
  copy_is_original = copy_is_it.canonical.original

  pub copy_accepted : refusal (tree_order (canonical_at l t)) ≡ 0
  copy_accepted = (tree_check (canonical_at l t)).1 copy_is_original.tree

  -- the copy has no more words than the table
  pub copy_no_longer : length (canonical_at l t) ≤ length t
  unfolding canonical_at
  copy_no_longer = omega (
    arith,
    copy_is_original.tree.words,
    copy_nodes (parent t') (nodes t') (tip_node l t) l.number tip_rooted,
    size-all (parent t') (nodes t') (tip_node l t) l.number tip_rooted,
    count-le (nodes t') (stays (parent t') (nodes t') (tip_node l t) l.number),
    from_first-nodes,
    g.words,
  )

-- ---- copies of two trees are the same words exactly if the kept splits agree

module _ (l : Labels) (t u : Table) (g : IsTree t) (h : IsTree u) (e : tips t ≡ tips u) (r : Rising (tips t) l)
    (two : 2 ≤ l.number) where
  abbrev r' : Rising (tips u) l
  r' = rising_of (tips t) (tips u) l e r

  pub same_copy_same_splits : canonical_at l t ≡ canonical_at l u → HaveSameSplits l t u
  same_copy_same_splits q =
      same_splits_trans {b = beyond_at l t} {c = beyond (canonical_at l t)} {d = beyond_at l u} (copy_is_it l t g r two).splits
      (same_splits_sym {b = beyond_at l u} {c = beyond (canonical_at l t)}
      (subst (λ (c : Table). SameSplits l.number (nodes u - 1) (beyond_at l u) (nodes c - 1) (beyond c)) (sym q)
      (copy_is_it l u h r' two).splits))

  pub same_splits_same_copy : HaveSameSplits l t u → canonical_at l t ≡ canonical_at l u
  same_splits_same_copy s =
      let d = copy_is_it l t g r two in
      copy_only l u h r' two (canonical_at l t) (record {
        canonical = d.canonical;
        labels = d.labels;
        splits = same_splits_trans {b = beyond_at l u} {c = beyond_at l t} {d = beyond (canonical_at l t)}
            (same_splits_sym {b = beyond_at l t} {c = beyond_at l u} s) d.splits;
      })

  pub copies_agree_at : (canonical_at l t ≡ canonical_at l u) ↔ HaveSameSplits l t u
  copies_agree_at = (same_copy_same_splits, same_splits_same_copy)

-- under the same marks
pub copies_agree : (marks : List ℕ) (t u : Table) → IsTree t → IsTree u → tips t ≡ tips u → 2 ≤ kept_of marks (tips t)
    → (canonical_copy marks t ≡ canonical_copy marks u) ↔ HaveSameSplits (kept marks (tips t)) t u
copies_agree marks t u g h e two =
    let a = copies_agree_at (kept marks (tips t)) t u g h e (kept-rising marks (tips t)) two in
    let c : canonical_copy marks u ≡ canonical_at (kept marks (tips t)) u = ap (λ (n : ℕ). canonical_at (kept marks n) u) (sym e) in
    (λ q. a.0 (q ∙ c), λ s. a.1 s ∙ sym c)

-- ---- a copy's copy

-- a canonical table is its own copy, by any labels that are all of its own
pub canonical_stays : (l : Labels) (t : Table) → IsCanonical t → l.number ≡ tips t → ((x : ℕ) → x < tips t → l.at x ≡ x)
    → t ≡ canonical_at l t
unfolding beyond_at
canonical_stays l t c e a =
    let g = c.original.tree in
    copy_only l t g (record {
      inside = λ x m. omega (arith, a x (omega (arith, e, m)), m, e);
      rises = λ x y m k. omega (arith, a x (omega (arith, e, m, k)), a y (omega (arith, e, k)), m);
    }) (omega (arith, g.tips_range, e)) t (record {
      canonical = c;
      labels = sym e;
      splits = record {
        there = λ i s. let d : SameSides l.number (beyond_at l t) (beyond t) i i = same (λ x m. own i x m) in
            (i, split_moves {b = beyond_at l t} {c = beyond t} s.above s.edge s d, d);
        back = λ i s. let d : SameSides l.number (beyond t) (beyond_at l t) i i = same (λ x m. sym (own i x m)) in
            (i, split_moves {b = beyond t} {c = beyond_at l t} s.above s.edge s d, d);
      };
    })
  where
    own : (i x : ℕ) → x < l.number → beyond_at l t i x ≡ beyond t i x
    own i x m = ap (beyond t i) (a x (omega (arith, e, m)))

-- copying a copy with all marks gives the same words
pub copy_of_copy : (marks : List ℕ) (t : Table) → IsTree t → 2 ≤ kept_of marks (tips t)
    → canonical_copy (ones (kept_of marks (tips t))) (canonical_copy marks t) ≡ canonical_copy marks t
copy_of_copy marks t g two =
    let d = copy_is_it (kept marks (tips t)) t g (kept-rising marks (tips t)) two in
    let c = canonical_copy marks t in
    let k = kept_of marks (tips t) in
    let own = canonical_stays (kept (ones k) k) c d.canonical (all_kept-number (ones k) k (every k) ∙ sym d.labels)
    (λ x m. all_kept_at (ones k) k (every k) x (omega (arith, d.labels, m))) in
    ap (λ (n : ℕ). canonical_at (kept (ones k) n) c) d.labels ∙ sym own
  where
    every : (k x : ℕ) → x < k → bit (is_kept (ones k) x) ≡ 1
    every k x m = unfold bit in ap bit (ones_keep k x m)
