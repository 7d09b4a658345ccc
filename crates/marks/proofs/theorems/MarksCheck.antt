-- The marks' order accepts exactly n marks of 0 and 1.
-- Assumes nothing.
use Rattle.std.specs.Prelude.{◌≡◌, ◌↔◌, List, ℕ, ◌≤◌, eqb, ltb, length}
use Rattle.std.proofs.Common.{arith}
use Rattle.sums.specs.theorems.TestLaws.{eq_iff, not-lt-iff, not-not, not-some-iff}
use Rattle.sums.specs.theorems.CountLaws.{count-le}
use Rattle.tree_check.specs.Table.{word}
use Rattle.tree_check.specs.Refusals.{refusal}
use Rattle.tree_check.specs.theorems.RefusalLaws.{Kept, Numbered, accepted}
use Rattle.marks.specs.Marks.{is_kept, kept_of, marks_order, AreMarks}

pub marks_numbered : (marks : List ℕ) (n : ℕ) → Numbered (marks_order marks n)
unfolding marks_order
marks_numbered marks n = (omega arith, (omega arith, tt))

pub marks-kept : (marks : List ℕ) (n : ℕ) → Kept (marks_order marks n) ↔ AreMarks marks n
unfolding marks_order
marks-kept marks n =
    let e = eq_iff (length marks) n in
    let d = not-not (eqb (length marks) n) in
    let s = not-some-iff n (λ x. ltb 1 (word marks x)) in (
      λ k. record {
        long = e.0 (d.0 k.0);
        low = λ x l. (not-lt-iff 1 (word marks x)).0 (s.0 k.1.0 x l);
      },
      λ h. (d.1 (e.1 h.long), (s.1 (λ x l. (not-lt-iff 1 (word marks x)).1 (h.low x l)), tt)),
    )

-- accepted exactly if there are n marks, each 0 or 1
pub marks_check : (marks : List ℕ) (n : ℕ) → (refusal (marks_order marks n) ≡ 0) ↔ AreMarks marks n
marks_check marks n =
    let a = accepted (marks_order marks n) (marks_numbered marks n) in
    let k = marks-kept marks n in
    (λ e. k.0 (a.0 e), λ h. a.1 (k.1 h))

-- no more labels are kept than there are
pub kept_few : (marks : List ℕ) (n : ℕ) → kept_of marks n ≤ n
kept_few marks n = count-le n (is_kept marks)
