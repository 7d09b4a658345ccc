-- The marks that levels are for a viewer: the labels that they keep are the visible ones.
-- Assumes nothing.
use Rattle.std.specs.Prelude.{◌≡◌, refl, Bool, true, false, List, ℕ, ◌≤◌, length, take, replicate}
use Rattle.std.proofs.Math.Path.{sym, ap, fun_ext}
use Rattle.std.proofs.Common.{◌∙◌, arith, ext_get_or, length-take-le, get_or-take}
use Rattle.std.proofs.Math.Decide.{dec_lt}
use Rattle.std.proofs.Math.Dec.{eqb}
use Rattle.std.proofs.lemmas.List.{length-replicate}
use Rattle.std.proofs.Math.ListN.{get_or-eq_default}
use Rattle.sums.specs.Bits.{bit}
use Rattle.sums.specs.Lists.{in_front}
use Rattle.sums.specs.theorems.BitLaws.{bit_le}
use Rattle.sums.specs.theorems.ListLaws.{in_order-length, in_order_at, in_front_at, in_front-length}
use Rattle.table_words.specs.Sizes.{tips_most}
use Rattle.tree_check.specs.Table.{word}
use Rattle.marks.specs.Marks.{is_kept, AreMarks}
use Rattle.counting.specs.Kept.{passing, kept}
use Rattle.levels.specs.Levels.{is_visible}
use Rattle.levels.specs.theorems.LevelsCheck.{none_past}
use Rattle.views.specs.View.{visible}
use Rattle.views.specs.lemmas.Marking.{marks_of}

as_mark : (b : Bool) → eqb (bit b) 1 ≡ b
unfolding bit
as_mark true = refl
as_mark false = refl

module _ (levels : List ℕ) (viewer n : ℕ) (e : length levels ≡ n) where
  shown : (x : ℕ) → is_kept (marks_of levels viewer n) x ≡ is_visible levels viewer x
  unfolding is_kept
  shown x = elim (dec_lt x n) [
    | yes l ↦ ap (λ (k : ℕ). eqb k 1) (in_order_at n (λ y. bit (is_visible levels viewer y)) x l) ∙ as_mark (is_visible levels viewer x)
    | no d ↦
        ap (λ (k : ℕ). eqb k 1) (get_or-eq_default (marks_of levels viewer n) 0 {n = x}
        (omega (arith, d, in_order-length n (λ y. bit (is_visible levels viewer y)))))
        ∙ sym (none_past levels viewer x (omega arith))
  ]

  -- they keep the visible labels
  pub kept-visible : kept (marks_of levels viewer n) n ≡ visible levels viewer n
  kept-visible = ap (λ (q : ℕ → Bool). passing q n) (fun_ext shown)

  pub levels_mark : AreMarks (marks_of levels viewer n) n
  levels_mark = record {
    long = in_order-length n (λ y. bit (is_visible levels viewer y));
    low = λ x l. omega (arith, in_order_at n (λ y. bit (is_visible levels viewer y)) x l, bit_le (is_visible levels viewer x));
  }

  -- the first n cells of the array that the code makes
  module _ (few : n ≤ tips_most) (marks : List ℕ)
      (h : marks ≡ in_front (length levels) (λ x. bit (is_visible levels viewer x)) (replicate tips_most 0)) where
    here : marks ≡ in_front n (λ x. bit (is_visible levels viewer x)) (replicate tips_most 0)
    here = h ∙ ap (λ (k : ℕ). in_front k (λ x. bit (is_visible levels viewer x)) (replicate tips_most 0)) e

    pub marks_long : length marks ≡ tips_most
    marks_long =
        ap (λ (m : List ℕ). length m) here
        ∙ in_front-length n (λ x. bit (is_visible levels viewer x)) (replicate tips_most 0)
        (omega (arith, length-replicate {A = ℕ} tips_most 0))
        ∙ length-replicate {A = ℕ} tips_most 0

    pub marks-taken : take n marks ≡ marks_of levels viewer n
    marks-taken =
        let long : length (take n marks) ≡ n = length-take-le n marks (omega (arith, marks_long)) in
        ext_get_or 0 (take n marks) (marks_of levels viewer n)
        (long ∙ sym (in_order-length n (λ y. bit (is_visible levels viewer y)))) (λ i m.
        get_or-take n marks i 0 (omega (arith, long, m))
        ∙ ap (λ (x : List ℕ). word x i) here
        ∙ in_front_at n (λ y. bit (is_visible levels viewer y)) (replicate tips_most 0) i (omega (arith, long, m))
        ∙ sym (in_order_at n (λ y. bit (is_visible levels viewer y)) i (omega (arith, long, m))))

-- .. as it is lent on
module _ (levels : List ℕ) (viewer n : ℕ) (e : length levels ≡ n) (few : n ≤ tips_most) (marks : List ℕ)
    (h : marks ≡ in_front (length levels) (λ x. bit (is_visible levels viewer x)) (replicate tips_most 0)) (k : ℕ) (ek : k ≡ n) where
  pub marks_fit : k ≤ length marks
  marks_fit = omega (arith, marks_long levels viewer n e few marks h)

  pub marks-part : k ≡ length (take k marks)
  marks-part = sym (length-take-le k marks marks_fit)

  pub marks_are : take k marks ≡ marks_of levels viewer n
  marks_are = ap (λ (j : ℕ). take j marks) ek ∙ marks-taken levels viewer n e few marks h
