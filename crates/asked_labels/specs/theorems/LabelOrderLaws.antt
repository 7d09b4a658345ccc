-- What the order of the labels accepts: labels of the table, no two of them equal.
-- Assumes nothing.
use Rattle.std.specs.Prelude.{◌≡◌, Bool, not, ◌≢◌, ◌↔◌, List, ℕ, ◌<◌, T, eqb, leb, length}
use Rattle.std.proofs.Common.{arith}
use Rattle.sums.specs.Tests.{some}
use Rattle.sums.specs.theorems.TestLaws.{not-some-iff, not_eq_iff, not-le-iff}
use Rattle.tree_check.specs.Table.{Table, word, tips}
use Rattle.tree_check.specs.Refusals.{refusal}
use Rattle.tree_check.specs.IsTree.{IsTree}
use Rattle.walks.specs.theorems.WalkOrderLaws.{after_tree}
use Rattle.asked_labels.specs.LabelOrder.{too_large, two_equal, asked_order, label_order}

-- every word is below n
abbrev pub AllBelow : ℕ → List ℕ → Type 0
AllBelow n xs = (i : ℕ) → i < length xs → word xs i < n

-- no two are equal
abbrev pub Different : List ℕ → Type 0
Different xs = (i j : ℕ) → i < length xs → j < i → word xs j ≢ word xs i

pub below_iff : (n : ℕ) (xs : List ℕ) → T (not (too_large n xs)) ↔ AllBelow n xs
unfolding too_large
below_iff n xs = let s = not-some-iff (length xs) (λ i. leb n (word xs i)) in (
  λ h i l. (not-le-iff n (word xs i)).0 (s.0 h i l),
  λ h. s.1 (λ i l. (not-le-iff n (word xs i)).1 (h i l)),
)

pub different_iff : (xs : List ℕ) → T (not (two_equal xs)) ↔ Different xs
unfolding two_equal
different_iff xs =
    let earlier : ℕ → ℕ → Bool = λ i j. eqb (word xs j) (word xs i) in
    let s = not-some-iff (length xs) (λ i. some i (earlier i)) in (
      λ h i j l m. (not_eq_iff (word xs j) (word xs i)).0 ((not-some-iff i (earlier i)).0 (s.0 h i l) j m),
      λ h. s.1 (λ i l.
          (not-some-iff i (earlier i)).1 (λ j m. (not_eq_iff (word xs j) (word xs i)).1 (h i j l m))),
    )

pub label_check : (t : Table) (xs : List ℕ) → (refusal (label_order t xs) ≡ 0)
    ↔ (IsTree t × AllBelow (tips t) xs × Different xs)
unfolding label_order asked_order
label_check t xs =
    let a = after_tree t (asked_order (tips t) xs) (omega arith, (omega arith, tt)) in
    let b = below_iff (tips t) xs in
    let d = different_iff xs in (
      λ e. let r = a.0 e in (r.0, b.0 r.1.0, d.0 r.1.1.0),
      λ h. a.1 (h.0, (b.1 h.1, (d.1 h.2, tt))),
    )
