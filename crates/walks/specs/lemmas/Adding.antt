-- Cells added up the tree, node by node, with the nodes that are left.
-- Assumes nothing.
use Rattle.std.specs.Prelude.{◌≡◌, ℕ, zero, suc, ◌+◌, ◌-◌, ◌%◌, ◌^◌, ◌<◌, ◌≤◌, List, length, slice_set, refl}
use Rattle.std.proofs.Common.{sym, ◌∙◌, arith}
use Rattle.table_words.specs.Sizes.{node_room}
use Rattle.tree_check.specs.Table.{word}
use Rattle.walks.specs.AddUp.{passed_up, added_below, added_up}
use Rattle.walks.specs.theorems.AddUpLaws.{added_up-all, passed_up_lem, not-passed_up}

-- once the nodes below i are added to the cells `new`, all are added to `old`
pub record Left (ps old : List ℕ) (i : ℕ) (new : List ℕ) : Type 0 where
  pub to : i ≤ length ps
  pub rest : added_below ps i new ≡ added_up ps old

pub left_all : (ps old : List ℕ) → length ps ≤ node_room → Left ps old (length ps) old
left_all ps old l = record { to = omega arith; rest = sym (added_up-all ps old l) }

pub left_none : (ps old : List ℕ) (i : ℕ) (new : List ℕ) → i ≤ 0 → Left ps old i new → new ≡ added_up ps old
unfolding added_below
left_none ps old zero new l h = h.rest
left_none ps old (suc i) new l h = absurd (omega arith)

-- node i - 1 is next
left_next : (ps old : List ℕ) (i : ℕ) (new : List ℕ) → 0 < i → Left ps old i new
    → Left ps old (i - 1) (passed_up ps (i - 1) new)
unfolding added_below
left_next ps old zero new l h = absurd (omega arith)
left_next ps old (suc i) new l h =
    let e : suc i - 1 ≡ i = omega arith in
    rw e (record { to = omega (arith, h.to); rest = h.rest })

module _ (ps old : List ℕ) (i : ℕ) (new : List ℕ) (l : 0 < i) (h : Left ps old i new)
    (p : ℕ) (e : p ≡ word ps (i - 1)) where
  pub left_added : (x : ℕ) → p < i - 1 → x ≡ (word new p + word new (i - 1)) % 2 ^ 64
      → Left ps old (i - 1) (slice_set new p x)
  left_added x m d =
      let q : passed_up ps (i - 1) new ≡ slice_set new p x = passed_up_lem ps (i - 1) new (omega arith)
      ∙ rw (← e, ← d) refl in
      rw (← q) (left_next ps old i new l h)

  pub left_skipped : i - 1 ≤ p → Left ps old (i - 1) new
  left_skipped m =
      let q : passed_up ps (i - 1) new ≡ new = not-passed_up ps (i - 1) new (omega arith) in
      rw q at (left_next ps old i new l h)
