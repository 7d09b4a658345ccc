-- Cells added up a tree hold the totals over the nodes at or below each node, where these fit.
-- Assumes nothing.
use Rattle.std.specs.Prelude.{◌≡◌, ℕ, zero, suc, ◌+◌, ◌%◌, ◌^◌, ◌<◌, ◌≤◌, List, length, slice_set, refl}
use Rattle.std.proofs.Common.{sym, ◌∙◌, ap, subst, mod-eq_of_lt, add-one, arith, lt-ltb, le-ltb, length-set, get_or-set_same, get_or-set_other}
use Rattle.table_words.specs.Sizes.{inner_label, node_room}
use Rattle.shapes.specs.theorems.AncestorLaws.{Rooted}
use Rattle.shapes.specs.theorems.Totals.{total, Added}
use Rattle.shapes.proofs.theorems.Totals.{added_none, added-all, added-le, added_next}
use Rattle.tree_check.specs.Table.{word}
use Rattle.walks.specs.AddUp.{passed_up, added_below, added_up}

-- a rooted tree of at most `node_room` nodes with the parents ps, and totals that fit
pub record Addable (ps cells : List ℕ) : Type 0 where
  pub tree : Rooted (word ps)
  pub some : 1 ≤ length ps
  pub few : length ps ≤ node_room
  pub long : length cells ≡ node_room
  pub fits : (v : ℕ) → v < length ps → total (word ps) (length ps) (word cells) v ≤ inner_label

-- in each node's cell the total over the nodes at or below it
pub record AddedUp (ps old new : List ℕ) : Type 0 where
  pub totals : (v : ℕ) → v < length ps → word new v ≡ total (word ps) (length ps) (word old) v

-- ---- the definitions, case by case

pub added_up_more : (ps cells : List ℕ) → node_room < length ps → added_up ps cells ≡ cells
unfolding added_up
added_up_more ps cells l = rw (lt-ltb node_room (length ps) l, added_up)

pub added_up-all : (ps cells : List ℕ) → length ps ≤ node_room → added_up ps cells ≡ added_below ps (length ps) cells
unfolding added_up
added_up-all ps cells l = rw (le-ltb node_room (length ps) l, added_up)

pub passed_up_lem : (ps : List ℕ) (i : ℕ) (cells : List ℕ) → word ps i < i
    → passed_up ps i cells ≡ slice_set cells (word ps i) ((word cells (word ps i) + word cells i) % 2 ^ 64)
unfolding passed_up
passed_up_lem ps i cells l = rw (lt-ltb (word ps i) i l, passed_up)

pub not-passed_up : (ps : List ℕ) (i : ℕ) (cells : List ℕ) → i ≤ word ps i → passed_up ps i cells ≡ cells
unfolding passed_up
not-passed_up ps i cells l = rw (le-ltb (word ps i) i l, passed_up)

-- ---- the nodes from the highest down

module _ (ps old : List ℕ) (a : Addable ps old) where
  -- the nodes from i on have been added to their parents
  record Adding (i : ℕ) (new : List ℕ) : Type 0 where
    to : i ≤ length ps
    long : length new ≡ node_room
    added : Added (word ps) (length ps) (word old) (word new) i

  adding_none : Adding (length ps) old
  adding_none = record {
    to = omega arith;
    long = a.long;
    added = added_none (word ps) a.tree (length ps) (word old) (word old) (λ v m. refl);
  }

  adding_next : (i : ℕ) (new : List ℕ) → Adding (suc (suc i)) new → Adding (suc i) (passed_up ps (suc i) new)
  adding_next i new h =
      let p = word ps (suc i) in
      let x = word new p + word new (suc i) in
      let low : p ≤ i = a.tree.falls i in
      let few = a.few in
      let next = subst (Added (word ps) (length ps) (word old) (word new)) (sym (add-one (suc i))) h.added in
      let le = added-le (word ps) a.tree (length ps) (word old) (word new) (suc i) (omega arith)
      (omega (arith, h.to)) next in
      let fits = a.fits p (omega (arith, h.to)) in
      let e : passed_up ps (suc i) new ≡ slice_set new p x = passed_up_lem ps (suc i) new (omega arith)
      ∙ ap (slice_set new p) (mod-eq_of_lt (omega arith)) in
      rw e (record {
        to = omega (arith, h.to);
        long = length-set new p x ∙ h.long;
        added = added_next (word ps) a.tree (length ps) (word old) (word new) _ (suc i) (omega arith)
            (omega (arith, h.to)) (get_or-set_same new p x 0 (omega (arith, h.long, h.to)))
            (λ v m d. get_or-set_other new p v x 0 d) next;
      })

  added_below_lem : (i : ℕ) (new : List ℕ) → Adding (suc i) new → AddedUp ps old (added_below ps (suc i) new)
  unfolding added_below
  added_below_lem zero new h = rw (not-passed_up ps 0 new (omega arith)) (record {
    totals = added-all (word ps) a.tree (length ps) (word old) (word new) h.added;
  })
  added_below_lem (suc i) new h = added_below_lem i (passed_up ps (suc i) new) (adding_next i new h)

  pub added_up_totals : AddedUp ps old (added_up ps old)
  added_up_totals = rw (added_up-all ps old a.few) (all (length ps) refl adding_none)
    where
      all : (m : ℕ) → length ps ≡ m → Adding m old → AddedUp ps old (added_below ps m old)
      all zero e h = absurd (omega (arith, a.some))
      all (suc m) e h = added_below_lem m old h
