-- The rows of the first tree's nodes: a tip's has 1 at the second tree's nodes in whose spans the tip with the same label is.
-- Assumes nothing.
use Rattle.std.specs.Prelude.{◌≡◌, true, false, List, ℕ, ◌+◌, ◌*◌, ◌-◌, ◌≤◌, ◌<◌, T, ltb, length}
use Rattle.std.proofs.Common.{sym, ◌∙◌, ap, subst, zero-mul, mul-le-mul_right, arith}
use Rattle.std.proofs.Math.Decide.{ℕ_discrete}
use Rattle.sums.specs.Bits.{bit}
use Rattle.sums.specs.theorems.BitLaws.{bit-T, bit_no}
use Rattle.sums.specs.theorems.TestLaws.{and-iff, lt_iff}
use Rattle.tree_check.specs.Table.{word}
use Rattle.marks.specs.Marks.{is_kept}
use Rattle.tree_pairs.specs.lemmas.TipRows.{RowFilled, TipRoom, TipRows, counted_label, in_spans, nothing}

pub counted_inside : (ks : List ℕ) (n x : ℕ) → true ≡ counted_label ks n x → x < n
unfolding counted_label
counted_inside ks n x e = (lt_iff x n).0 ((and-iff (is_kept ks x) (ltb x n)).0 (subst T e tt)).1

-- a row ends where the next one begins
row_end : (v w : ℕ) → 1 ≤ v → (v - 1) * w + w ≡ v * w
row_end v w l =
    let e : v ≡ v - 1 + 1 = omega arith in
    omega (arith, ap (λ (x : ℕ). x * w) e)

next_row : (v w : ℕ) → 1 ≤ v → (v + 1 - 1) * w ≡ (v - 1) * w + w
next_row v w l =
    let e : v + 1 - 1 ≡ v = omega arith in
    ap (λ (x : ℕ). x * w) e ∙ sym (row_end v w l)

-- an earlier row ends before a later one begins
row_before : (u v w : ℕ) → u ≤ v → u * w ≤ v * w
row_before u v w l = mul-le-mul_right w l

module _ (ls ks : List ℕ) (n w : ℕ) (labelled begin end old : List ℕ) (a : TipRoom ls n w labelled old)
    (new : List ℕ) (v : ℕ) (o : 1 ≤ v) (l : v < length ls) (h : TipRows ls ks n w labelled begin end v old new) where
  -- no row before node v's is touched
  earlier : (u j : ℕ) → 1 ≤ u → u < v → j < w → (u - 1) * w + j < (v - 1) * w
  earlier u j p q s = omega (arith, row_end u w p, row_before u (v - 1) w (omega arith))

  -- the row of node v has been written
  next : (f : ℕ → ℕ) (made : List ℕ) → RowFilled f ((v - 1) * w) w new made
      → ((j : ℕ) → f j ≡ bit (counted_label ks n (word ls v)) * in_spans begin end (word begin (word labelled (word ls v))) j)
      → TipRows ls ks n w labelled begin end (v + 1) old made
  next f made g e = record {
    long = g.long ∙ h.long;
    rows = λ u j p q s. elim (ℕ_discrete u v) [
      | yes d ↦ rw d (g.cells j s ∙ e j)
      | no d ↦ g.before ((u - 1) * w + j) (earlier u j p (omega arith) s) ∙ h.rows u j p (omega arith) s
    ];
    rest = λ c q. g.after c (omega (arith, next_row v w o, q)) ∙ h.rest c (omega (arith, next_row v w o, q));
  }

  -- node v is a tip whose label is kept
  pub rows_tip : (x : ℕ) → x ≡ word ls v → true ≡ counted_label ks n x → (node : ℕ) → node ≡ word labelled x
      → (made : List ℕ) → RowFilled (in_spans begin end (word begin node)) ((v - 1) * w) w new made
      → TipRows ls ks n w labelled begin end (v + 1) old made
  rows_tip x e m node en made g = next (in_spans begin end (word begin node)) made g (λ j. cell j)
    where
      cell : (j : ℕ) → in_spans begin end (word begin node) j
          ≡ bit (counted_label ks n (word ls v)) * in_spans begin end (word begin (word labelled (word ls v))) j
      cell j =
          ap (λ (y : ℕ). in_spans begin end (word begin y) j) (en ∙ ap (word labelled) e)
          ∙ omega (
            arith,
            ap (λ (b : ℕ). b * in_spans begin end (word begin (word labelled (word ls v))) j)
                (bit-T (counted_label ks n (word ls v)) (subst T (rw e at m) tt)),
          )

  -- node v is no tip, or its label is struck
  pub rows_empty : false ≡ counted_label ks n (word ls v) → (made : List ℕ) → RowFilled nothing ((v - 1) * w) w new made
      → TipRows ls ks n w labelled begin end (v + 1) old made
  rows_empty m made g = next nothing made g (λ j.
      sym (ap (λ (b : ℕ). b * in_spans begin end (word begin (word labelled (word ls v))) j)
      (bit_no (counted_label ks n (word ls v)) (λ y. subst T (sym m) y))
      ∙ zero-mul (in_spans begin end (word begin (word labelled (word ls v))) j)))
