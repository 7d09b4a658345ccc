-- What the orders of the walk and of the part beyond an edge accept, and rules that follow the tree check.
-- Assumes nothing.
use Rattle.std.specs.Prelude.{◌≡◌, ℕ, ◌<◌, ◌≤◌, ◌||◌, ◌≢◌, ◌↔◌, List, [], ◌∷◌, ◌++◌, ◌==◌, nat_le, nat_lt, Err}
use Rattle.std.proofs.Common.{sym, ◌∙◌, arith}
use Rattle.sums.specs.theorems.TestLaws.{nor_iff, not_eq_iff, not-le-iff, not-lt-iff}
use Rattle.tree_check.specs.Table.{Table, tips, nodes}
use Rattle.tree_check.specs.Refusals.{Rule, refusal}
use Rattle.tree_check.specs.theorems.RefusalLaws.{Kept, Numbered, Named, named_refusal, accepted, kept_append, numbered_append}
use Rattle.tree_check.specs.theorems.RefusalLaws.{refusal-first, refusal-kept}
use Rattle.tree_check.specs.declared.refusals.Refusal.{Refusal}
use Rattle.tree_check.specs.Numbers.{refusal_number, refusal_named, answer_by}
use Rattle.tree_check.specs.theorems.NumberLaws.{answered_err, passed_on}
use Rattle.tree_check.specs.IsTree.{IsTree}
use Rattle.tree_check.specs.TreeOrder.{tree_order}
use Rattle.tree_check.specs.theorems.TreeCheck.{tree_numbered, tree_kept, kept_tree}
use Rattle.walks.specs.WalkOrders.{room_order, walk_order, edge_order}
use Rattle.walks.specs.Spans.{lists_order, spans_order}

module _ (t : Table) (rs : List Rule) where
  -- rules after the tree check
  pub after_tree : Numbered rs → (refusal (tree_order t ++ rs) ≡ 0) ↔ (IsTree t × Kept rs)
  after_tree p =
      let a = accepted (tree_order t ++ rs) (numbered_append (tree_order t) rs (tree_numbered t) p) in
      let b = kept_append (tree_order t) rs in
      (λ e. let k = b.0 (a.0 e) in (kept_tree t k.0, k.1), λ h. a.1 (b.1 (tree_kept t h.0, h.1)))

  -- a refused tree is told, whatever follows
  pub tree_refused : (k : ℕ) → refusal (tree_order t) ≡ k → k ≢ 0 → refusal (tree_order t ++ rs) ≡ k
  tree_refused k e d = refusal-first (tree_order t) rs (λ z. d (sym e ∙ z)) ∙ e

  -- an accepted tree goes on to the rules that follow
  pub tree_accepted : IsTree t → refusal (tree_order t ++ rs) ≡ refusal rs
  tree_accepted g = refusal-kept (tree_order t) rs (tree_kept t g)

-- the first broken rule's number, from an answer by it
pub rules_passed : (rs : List Rule) → Named (λ k. refusal_number (refusal_named k)) rs → (r : Refusal) (number : ℕ)
    → Err r ≡ answer_by (refusal rs) (tt {0}) → number ≡ refusal_number r → (refusal rs ≡ number) × (number ≢ 0)
rules_passed rs named r number e =
    passed_on (answered_err _ r _ (named_refusal (λ k. refusal_number (refusal_named k)) rs named) e)

-- ---- what each accepts

pub room_check : (cells n : ℕ) → (refusal (room_order cells n) ≡ 0) ↔ (n ≤ cells)
room_check cells n =
    let a = accepted (room_order cells n) (omega arith, tt) in
    let s = not-lt-iff cells n in
    (λ e. s.0 (a.0 e).0, λ l. a.1 (s.1 l, tt))

pub walk_check : (t : Table) (cells : ℕ) → (refusal (walk_order t cells) ≡ 0) ↔ (IsTree t × (tips t ≤ cells))
unfolding walk_order
walk_check t cells =
    let a = after_tree t ((12, nat_lt cells (tips t)) ∷ []) (omega arith, tt) in
    let s = not-lt-iff cells (tips t) in
    (λ e. let r = a.0 e in (r.0, s.0 r.1.0), λ h. a.1 (h.0, (s.1 h.1, tt)))

pub edge_check : (t : Table) (i cells : ℕ) → (refusal (edge_order t i cells) ≡ 0)
    ↔ (IsTree t × (1 ≤ i) × (i < nodes t) × (tips t ≤ cells))
unfolding edge_order
edge_check t i cells =
    let rs : List Rule = (13, (i == 0) || nat_le (nodes t) i) ∷ (12, nat_lt cells (tips t)) ∷ [] in
    let a = after_tree t rs (omega arith, (omega arith, tt)) in
    let s = not-lt-iff cells (tips t) in
    let o = nor_iff (i == 0) (nat_le (nodes t) i) in
    let z = not_eq_iff i 0 in
    let m = not-le-iff (nodes t) i in (
      λ e. let r = a.0 e in let q = o.0 r.1.0 in
          (r.0, positive i (z.0 q.0), m.0 q.1, s.0 r.1.1.0),
      λ h. a.1 (h.0, (o.1 (z.1 (λ e. omega (arith, h.1, e)), m.1 h.2), (s.1 h.3, tt))),
    )
  where
    positive : (i : ℕ) → i ≢ 0 → 1 ≤ i
    positive i d = omega arith

pub lists_check : (labelled begins ends n m : ℕ) → (refusal (lists_order labelled begins ends n m) ≡ 0)
    ↔ ((n ≤ labelled) × (m ≤ begins) × (m ≤ ends))
lists_check labelled begins ends n m =
    let r = accepted (lists_order labelled begins ends n m) (omega arith, (omega arith, (omega arith, tt))) in
    let a = not-lt-iff labelled n in
    let b = not-lt-iff begins m in
    let c = not-lt-iff ends m in (
      λ e. let k = r.0 e in (a.0 k.0, b.0 k.1.0, c.0 k.1.1.0),
      λ h. r.1 (a.1 h.0, (b.1 h.1, (c.1 h.2, tt))),
    )

pub spans_check : (t : Table) (labelled begins ends : ℕ) → (refusal (spans_order t labelled begins ends) ≡ 0)
    ↔ (IsTree t × (tips t ≤ labelled) × (nodes t ≤ begins) × (nodes t ≤ ends))
unfolding spans_order
spans_check t labelled begins ends =
    let rs = lists_order labelled begins ends (tips t) (nodes t) in
    let r = after_tree t rs (omega arith, (omega arith, (omega arith, tt))) in
    let a = accepted rs (omega arith, (omega arith, (omega arith, tt))) in
    let s = lists_check labelled begins ends (tips t) (nodes t) in (
      λ e. let k = r.0 e in let l = s.0 (a.1 k.1) in (k.0, l.0, l.1, l.2),
      λ h. r.1 (h.0, a.0 (s.1 (h.1, h.2, h.3))),
    )
