-- The pair's order accepts exactly the pairs.
-- Assumes nothing.
use Rattle.std.specs.Prelude.{◌≡◌, refl, Bool, true, false, ◌≢◌, ◌↔◌, List, [], ◌∷◌, ◌++◌, ℕ, ◌+◌, ◌≤◌, eqb}
use Rattle.std.proofs.Common.{sym, ◌∙◌}
use Rattle.std.proofs.Math.Decide.{ℕ_discrete}
use native.Mathlib.Omega.{arith}
use Rattle.sums.specs.theorems.TestLaws.{not-lt-iff, eq_iff, not-not}
use Rattle.tree_check.specs.Table.{Table, tips}
use Rattle.tree_check.specs.Refusals.{Rule, refusal}
use Rattle.tree_check.specs.theorems.RefusalLaws.{Kept, Numbered, accepted, kept_append, numbered_append}
use Rattle.tree_check.specs.theorems.RefusalLaws.{refusal-first, refusal-kept}
use Rattle.tree_check.specs.TreeOrder.{arrays_order, tree_order}
use Rattle.tree_check.specs.theorems.TreeCheck.{tree_numbered, tree_kept, kept_tree}
use Rattle.marks.specs.Marks.{marks_order, AreMarks}
use Rattle.marks.proofs.theorems.MarksCheck.{marks_numbered, marks-kept}
use Rattle.pair_check.specs.PairOrder.{plus, tips_order, tables_order, cells_needed, work_order, cells_order, pair_order}
use Rattle.pair_check.specs.PairOrder.{IsPair, PairWithCells, MarkedPair}

-- ---- numbers plus k

plus_numbered : (k : ℕ) (rs : List Rule) → Numbered rs → Numbered (plus k rs)
unfolding plus
plus_numbered k [] p = tt
plus_numbered k (r ∷ rs) p = (omega (arith, p.0), plus_numbered k rs p.1)

pub plus-kept : (k : ℕ) (rs : List Rule) → Kept (plus k rs) ↔ Kept rs
unfolding plus
plus-kept k [] = (λ h. tt, λ h. tt)
plus-kept k (r ∷ rs) = let ih = plus-kept k rs in (λ h. (h.0, ih.0 h.1), λ h. (h.0, ih.1 h.1))

pub plus-refusal : (k : ℕ) (rs : List Rule) → refusal rs ≢ 0 → refusal (plus k rs) ≡ k + refusal rs
unfolding plus refusal
plus-refusal k [] d = absurd (d refl)
plus-refusal k (r ∷ rs) d = go r.1 d (λ e. plus-refusal k rs e)
  where
    go : (b : Bool) → (◌≡◌ {A = ℕ} (elim b as (λ x. ℕ) [ true ↦ r.0 | false ↦ refusal rs ]) 0 → ⊥)
        → (refusal rs ≢ 0 → refusal (plus k rs) ≡ k + refusal rs)
        → ◌≡◌ {A = ℕ} (elim b as (λ x. ℕ) [ true ↦ k + r.0 | false ↦ refusal (plus k rs) ])
        (k + (elim b as (λ x. ℕ) [ true ↦ r.0 | false ↦ refusal rs ]))
    go true e ih = refl
    go false e ih = ih e

-- ---- what is accepted

tips-iff : (t u : Table) → Kept (tips_order t u) ↔ (tips t ≡ tips u)
unfolding tips_order
tips-iff t u =
    let e = eq_iff (tips t) (tips u) in
    let n = not-not (eqb (tips t) (tips u)) in
    (λ k. e.0 (n.0 k.0), λ h. (n.1 (e.1 h), tt))

work_iff : (t u : Table) (cells : ℕ) → Kept (work_order t u cells) ↔ (cells_needed t u ≤ cells)
unfolding work_order
work_iff t u cells = let l = not-lt-iff cells (cells_needed t u) in (λ k. l.0 k.0, λ h. (l.1 h, tt))

pub tables_numbered : (t u : Table) → Numbered (tables_order t u)
unfolding tables_order tips_order
tables_numbered t u = numbered_append (tree_order t) _ (tree_numbered t)
    (numbered_append (plus 100 (tree_order u)) _ (plus_numbered 100 (tree_order u) (tree_numbered u)) (omega arith, tt))

pub tables_kept : (t u : Table) → Kept (tables_order t u) ↔ IsPair t u
unfolding tables_order
tables_kept t u =
    let b = kept_append (tree_order t) (plus 100 (tree_order u) ++ tips_order t u) in
    let c = kept_append (plus 100 (tree_order u)) (tips_order t u) in
    let p = plus-kept 100 (tree_order u) in
    let q = tips-iff t u in (
      λ k. let r = b.0 k in let m = c.0 r.1 in record {
        first = kept_tree t r.0;
        second = kept_tree u (p.0 m.0);
        same_tips = q.0 m.1;
      },
      λ h. b.1 (tree_kept t h.first, c.1 (p.1 (tree_kept u h.second), q.1 h.same_tips)),
    )

-- two tables alone are accepted exactly if both are tree tables and have the same n
pub tables_check : (t u : Table) → (refusal (tables_order t u) ≡ 0) ↔ IsPair t u
tables_check t u =
    let a = accepted (tables_order t u) (tables_numbered t u) in
    let k = tables_kept t u in
    (λ e. k.0 (a.0 e), λ h. a.1 (k.1 h))

-- .. given cells enough
pub cells_check : (t u : Table) (cells : ℕ) → (refusal (cells_order t u cells) ≡ 0) ↔ PairWithCells t u cells
unfolding cells_order
cells_check t u cells =
    let a = accepted (tables_order t u ++ work_order t u cells) numbered in
    let b = kept_append (tables_order t u) (work_order t u cells) in
    let k = tables_kept t u in
    let w = work_iff t u cells in (
      λ e. let r = b.0 (a.0 e) in record { pair = k.0 r.0; room = w.0 r.1 },
      λ h. a.1 (b.1 (k.1 h.pair, w.1 h.room)),
    )
  where
    numbered : Numbered (tables_order t u ++ work_order t u cells)
    numbered = unfold work_order in numbered_append (tables_order t u) _ (tables_numbered t u) (omega arith, tt)

-- .. and marks of their labels
pub pair_check : (t u : Table) (marks : List ℕ) (cells : ℕ)
    → (refusal (pair_order t u marks cells) ≡ 0) ↔ MarkedPair t u marks cells
unfolding pair_order
pair_check t u marks cells =
    let rest = marks_order marks (tips t) ++ work_order t u cells in
    let a = accepted (tables_order t u ++ rest) numbered in
    let b = kept_append (tables_order t u) rest in
    let c = kept_append (marks_order marks (tips t)) (work_order t u cells) in
    let k = tables_kept t u in
    let m = marks-kept marks (tips t) in
    let w = work_iff t u cells in (
      λ e. let r = b.0 (a.0 e) in let s = c.0 r.1 in record {
        with_cells = record { pair = k.0 r.0; room = w.0 s.1 };
        marked = m.0 s.0;
      },
      λ h. a.1 (b.1 (k.1 h.with_cells.pair, c.1 (m.1 h.marked, w.1 h.with_cells.room))),
    )
  where
    numbered : Numbered (tables_order t u ++ (marks_order marks (tips t) ++ work_order t u cells))
    numbered = unfold work_order in numbered_append (tables_order t u) _ (tables_numbered t u)
        (numbered_append (marks_order marks (tips t)) _ (marks_numbered marks (tips t)) (omega arith, tt))

-- right marks change no number
pub order_kept : (t u : Table) (marks : List ℕ) (cells : ℕ) → AreMarks marks (tips t)
    → refusal (pair_order t u marks cells) ≡ refusal (cells_order t u cells)
unfolding pair_order cells_order
order_kept t u marks cells h = go (ℕ_discrete (refusal (tables_order t u)) 0)
  where
    go : Dec (refusal (tables_order t u) ≡ 0)
        → refusal (tables_order t u ++ (marks_order marks (tips t) ++ work_order t u cells))
        ≡ refusal (tables_order t u ++ work_order t u cells)
    go (yes e) =
        let k = (accepted (tables_order t u) (tables_numbered t u)).0 e in
        refusal-kept (tables_order t u) _ k
        ∙ refusal-kept (marks_order marks (tips t)) _ ((marks-kept marks (tips t)).1 h)
        ∙ sym (refusal-kept (tables_order t u) _ k)
    go (no d) = refusal-first (tables_order t u) _ d ∙ sym (refusal-first (tables_order t u) _ d)

-- ---- the numbers of a tree

-- no rule has a number above k
abbrev AtMost : ℕ → List Rule → Type 0
AtMost k [] = Unit {0}
AtMost k (r ∷ rs) = (r.0 ≤ k) × AtMost k rs

refusal_most : (k : ℕ) (rs : List Rule) → AtMost k rs → refusal rs ≤ k
unfolding refusal
refusal_most k [] h = omega arith
refusal_most k (r ∷ rs) h = go r.1 (refusal_most k rs h.1)
  where
    go : (b : Bool) → refusal rs ≤ k → (elim b as (λ x. ℕ) [ true ↦ r.0 | false ↦ refusal rs ]) ≤ k
    go true m = h.0
    go false m = m

-- no rule has the number k
abbrev Others : ℕ → List Rule → Type 0
Others k [] = Unit {0}
Others k (r ∷ rs) = (r.0 ≢ k) × Others k rs

refusal_other : (k : ℕ) (rs : List Rule) → k ≢ 0 → Others k rs → refusal rs ≢ k
unfolding refusal
refusal_other k [] d h = λ e. d (sym e)
refusal_other k (r ∷ rs) d h = go r.1 (refusal_other k rs d h.1)
  where
    go : (b : Bool) → refusal rs ≢ k → (elim b as (λ x. ℕ) [ true ↦ r.0 | false ↦ refusal rs ]) ≢ k
    go true m = h.0
    go false m = m

-- 9 is no number of a tree
pub tree_never_nine : (t : Table) → refusal (tree_order t) ≢ 9
unfolding tree_order arrays_order
tree_never_nine t = refusal_other 9 (tree_order t) (λ e. omega arith) (
  λ e. omega arith,
  (
    λ e. omega arith,
    (
      λ e. omega arith,
      (λ e. omega arith, (λ e. omega arith, (λ e. omega arith, (λ e. omega arith, (λ e. omega arith, tt))))),
    ),
  ),
)

pub tree_refusal_most : (t : Table) → refusal (tree_order t) ≤ 31
unfolding tree_order arrays_order
tree_refusal_most t = refusal_most 31 (tree_order t) (
  omega arith,
  (omega arith, (omega arith, (omega arith, (omega arith, (omega arith, (omega arith, (omega arith, tt))))))),
)
