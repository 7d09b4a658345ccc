-- The walk as it is written: each tip's label where its node starts.
-- Assumes nothing.
use Rattle.std.specs.Prelude.{◌≡◌, ℕ, ◌+◌, ◌-◌, ◌<◌, ◌≤◌, ◌≢◌, List, ◌++◌, length, take, drop, slice_set, refl}
use Rattle.std.proofs.Common.{sym, ◌∙◌, ap, ap₂, subst, arith, length-set, take-append-drop, get_or-set_same, get_or-set_other, get_or-take, drop-set-lt, ext_get_or, length-take-le}
use Rattle.std.proofs.Math.Decide.{ℕ_discrete}
use Rattle.tree_check.specs.Table.{Table, word, tips, nodes, label}
use Rattle.tree_check.specs.lemmas.TableParts.{table_of, tips_of_lem, nodes_of_lem}
use Rattle.tree_check.specs.IsTree.{IsTree}
use Rattle.walks.specs.Walk.{walk, walked, start}
use Rattle.walks.specs.theorems.WalkLaws.{walk-length}
use Rattle.walks.specs.theorems.Reach.{walk_at, start_onto}
use Rattle.walks.specs.lemmas.TreeArrays.{TreeArrays, label_is}
use Rattle.walks.specs.lemmas.Positions.{Sizes, Ends}

-- the labels of the tips below node v are in place, and the cells from n on are as they were
pub record Written (t : Table) (old : List ℕ) (v : ℕ) (new : List ℕ) : Type 0 where
  pub long : length new ≡ length old
  pub tail : drop (tips t) new ≡ drop (tips t) old
  pub placed : (u : ℕ) → u < v → label t u < tips t → word new (start t u) ≡ word (walk t) (start t u)

pub written_none : (t : Table) (old : List ℕ) → Written t old 0 old
written_none t old = record { long = refl; tail = refl; placed = λ u l. absurd (omega arith) }

module _ (t : Table) (g : IsTree t) (old new : List ℕ) (v : ℕ) (l : v < nodes t) (h : Written t old v new) where
  -- a tip
  written-tip : (q x : ℕ) → label t v < tips t → tips t ≤ length old → q ≡ start t v → x ≡ label t v
      → Written t old (v + 1) (slice_set new q x)
  written-tip q x b k e d =
      let r = walk_at t g v l b in
      record {
        long = length-set new q x ∙ h.long;
        tail = drop-set-lt (tips t) new q x (omega (arith, r.0, e)) ∙ h.tail;
        placed = λ u m c. elim (ℕ_discrete (start t u) q) [
          | yes f ↦ rw f (get_or-set_same new q x 0 (omega (arith, r.0, e, h.long))
              ∙ d ∙ sym r.1 ∙ ap (word (walk t)) (sym e))
          | no f ↦ get_or-set_other new q (start t u) x 0 f
              ∙ h.placed u (below u m (λ z. f (ap (start t) z ∙ sym e))) c
        ];
      }
    where
      below : (u : ℕ) → u < v + 1 → u ≢ v → u < v
      below u m f = omega arith

  -- an inner node has no label to write
  written_inner : tips t ≤ label t v → Written t old (v + 1) new
  written_inner b = record {
    long = h.long;
    tail = h.tail;
    placed = λ u m c. elim (ℕ_discrete u v) [
      | yes f ↦ absurd (omega (arith, ap (label t) f))
      | no f ↦ h.placed u (omega arith) c
    ];
  }

-- every cell below n is some tip's
pub written_all : (t : Table) → IsTree t → (old new : List ℕ) (v : ℕ) → nodes t ≤ v → tips t ≤ length old
    → Written t old v new → new ≡ walked t old
unfolding walked
written_all t g old new v l k h =
    sym (take-append-drop (tips t) new)
    ∙ ap₂ (λ (x y : List ℕ). x ++ y)
    (ext_get_or 0 (take (tips t) new) (walk t) (long ∙ sym (walk-length t g)) (λ j m. cell j (omega (arith, long))))
    h.tail
  where
    long : length (take (tips t) new) ≡ tips t
    long = length-take-le (tips t) new (omega (arith, h.long))

    cell : (j : ℕ) → j < tips t → word (take (tips t) new) j ≡ word (walk t) j
    cell j m =
        let r = start_onto t g j m in
        get_or-take (tips t) new j 0 m
        ∙ subst (λ (i : ℕ). word new i ≡ word (walk t) i) r.3 (h.placed r.0 (omega (arith, r.1)) r.2)

-- ---- the loop over a tree table's arrays, with the sizes and ends of its nodes

module _ (n : ℕ) (ps ls : List ℕ) (a : TreeArrays n ps ls) (size end : List ℕ)
    (z : Sizes (table_of n ps ls) size) (e : Ends (table_of n ps ls) end)
    (old new : List ℕ) (k : n ≤ length old) (v : ℕ) (l : v < length ls)
    (h : Written (table_of n ps ls) old v new) where
  node : v < nodes (table_of n ps ls)
  node = omega (arith, nodes_of_lem n ps ls, a.same)

  label_here : label (table_of n ps ls) v ≡ word ls v
  label_here = ap (λ (f : ℕ → ℕ). f v) (label_is n ps ls a)

  pub size-le_end : word size v ≤ word end v
  size-le_end = omega (arith, z.sizes v node, e.ends v node)

  position : word end v - word size v ≡ start (table_of n ps ls) v
  position = omega (arith, z.sizes v node, e.ends v node)

  pub write_inside : word ls v < n → word end v - word size v < n
  write_inside b =
      let r = walk_at (table_of n ps ls) a.tree v node (omega (arith, label_here, tips_of_lem n ps ls)) in
      omega (arith, r.0, position, tips_of_lem n ps ls)

  pub write_tip : word ls v < n
      → Written (table_of n ps ls) old (v + 1) (slice_set new (word end v - word size v) (word ls v))
  write_tip b =
      written-tip (table_of n ps ls) a.tree old new v node h (word end v - word size v) (word ls v)
      (omega (arith, label_here, tips_of_lem n ps ls)) (omega (arith, tips_of_lem n ps ls)) position (sym label_here)

  pub write_inner : n ≤ word ls v → Written (table_of n ps ls) old (v + 1) new
  write_inner b =
      written_inner (table_of n ps ls) a.tree old new v node h (omega (arith, label_here, tips_of_lem n ps ls))

pub write_all : (n : ℕ) (ps ls : List ℕ) → TreeArrays n ps ls → (old new : List ℕ) (v : ℕ) → length ls ≤ v
    → n ≤ length old → Written (table_of n ps ls) old v new → new ≡ walked (table_of n ps ls) old
write_all n ps ls a old new v l k h =
    written_all (table_of n ps ls) a.tree old new v (omega (arith, nodes_of_lem n ps ls, a.same))
    (omega (arith, tips_of_lem n ps ls)) h
