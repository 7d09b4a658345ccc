-- A table from its parts, and its parts as code lends them.
-- Assumes nothing.
use Rattle.std.specs.Prelude.{◌≡◌, refl, List, [], ◌∷◌, ◌++◌, ℕ, suc, ◌+◌, ◌*◌, ◌-◌, drop}
use Rattle.std.proofs.Common.{sym, ◌∙◌, length-drop, take-append-drop, take_at, drop_at, take_all, length-take-le}
use Rattle.std.proofs.Math.Path.{ap, ap₂, subst₃}
use native.Mathlib.Omega.{arith}
use Rattle.std.proofs.Math.ListN.{length, take}
use Rattle.tree_check.specs.Table.{Table, tips, nodes, parents, labels}

-- ---- a table from its parts

unfoldable pub table_of : ℕ → List ℕ → List ℕ → Table
table_of n ps ls = n ∷ length ps ∷ (ps ++ ls)

pub tips_of_lem : (n : ℕ) (ps ls : List ℕ) → tips (table_of n ps ls) ≡ n
unfolding tips table_of
tips_of_lem n ps ls = refl

pub nodes_of_lem : (n : ℕ) (ps ls : List ℕ) → nodes (table_of n ps ls) ≡ length ps
unfolding nodes table_of
nodes_of_lem n ps ls = refl

pub parents_of : (n : ℕ) (ps ls : List ℕ) → parents (table_of n ps ls) ≡ ps
unfolding parents nodes table_of
parents_of n ps ls = take_at ps ls (length ps) refl

two_more : (k : ℕ) → 2 + k ≡ suc (suc k)
two_more k = omega arith

pub labels_of : (n : ℕ) (ps ls : List ℕ) → length ls ≡ length ps → labels (table_of n ps ls) ≡ ls
unfolding labels nodes table_of
labels_of n ps ls e =
    ap (λ (j : ℕ). take (length ps) (drop j (n ∷ length ps ∷ (ps ++ ls)))) (two_more (length ps))
    ∙ ap (take (length ps)) (drop_at ps ls (length ps) refl)
    ∙ take_all (length ps) ls (omega arith)

pub parents-length : (t : Table) → length t ≡ 2 + 2 * nodes t → length (parents t) ≡ nodes t
unfolding parents
parents-length t e = length-take-le (nodes t) (drop 2 t) (omega (arith, length-drop 2 t))

pub labels_length : (t : Table) → length t ≡ 2 + 2 * nodes t → length (labels t) ≡ nodes t
unfolding labels
labels_length t e =
    length-take-le (nodes t) (drop (2 + nodes t) t) (omega (arith, length-drop (2 + nodes t) t))

-- a table of the right length is made of its parts
pub table_of-parts : (t : Table) → length t ≡ 2 + 2 * nodes t → table_of (tips t) (parents t) (labels t) ≡ t
unfolding table_of tips nodes parents labels
table_of-parts [] e = absurd (omega arith)
table_of-parts (n ∷ []) e = absurd (omega arith)
table_of-parts (n ∷ m ∷ r) e =
    ap₂ (λ (k : ℕ) (l : List ℕ). n ∷ k ∷ l)
    (length-take-le m r (omega arith))
    (ap (λ (j : ℕ). take m r ++ take m (drop j (n ∷ m ∷ r))) (two_more m)
    ∙ ap (λ (l : List ℕ). take m r ++ l) (take_all m (drop m r) (omega (arith, length-drop m r)))
    ∙ take-append-drop m r)

-- ---- parts as code lends them

-- `&l[k..]`
abbrev pub rest : ℕ → List ℕ → List ℕ
rest k l = take (length l - k) (drop k l)

pub rest-drop : (k : ℕ) (l : List ℕ) → rest k l ≡ drop k l
rest-drop k l = take_all (length l - k) (drop k l) (omega (arith, length-drop k l))

-- what holds of n, the parents and the labels holds of them as code lends them: n, `&t[2..2 + m]` and `&t[2 + m..]`
module _ (P : ℕ → List ℕ → List ℕ → Type 0) (t : Table) (n m : ℕ)
    (l : length t ≡ 2 + 2 * nodes t) (en : n ≡ tips t) (em : m ≡ nodes t) where
  parents-part : take (2 + m - 2) (drop 2 t) ≡ parents t
  unfolding parents
  parents-part =
      let e : 2 + m - 2 ≡ nodes t = omega arith in
      ap (λ (k : ℕ). take k (drop 2 t)) e

  labels-part : rest (2 + m) t ≡ labels t
  unfolding labels
  labels-part =
      let e : length t - (2 + m) ≡ nodes t = omega arith in
      let d : 2 + m ≡ 2 + nodes t = omega arith in
      ap₂ (λ (i j : ℕ). take i (drop j t)) e d

  pub to_parts : P (tips t) (parents t) (labels t) → P n (take (2 + m - 2) (drop 2 t)) (rest (2 + m) t)
  to_parts h = subst₃ P (sym en) (sym parents-part) (sym labels-part) h

  pub of_parts : P n (take (2 + m - 2) (drop 2 t)) (rest (2 + m) t) → P (tips t) (parents t) (labels t)
  of_parts h = subst₃ P en parents-part labels-part h
