-- Laws of numbers: a rule is read back from its number, and an answer by a number tells it.
-- Assumes nothing.
use Rattle.std.specs.Prelude.{◌≡◌, refl, ◌≢◌, ℕ, zero, suc, ◌+◌, ◌≤◌, Result, Ok, Err, MatchResult}
use Rattle.std.proofs.Common.{sym, ◌∙◌, ap, arith}
use Rattle.tree_check.specs.declared.refusals.TableRefusal.{TableRefusal}
use Rattle.tree_check.specs.declared.refusals.TableRefusal.TheVariants.{TooFewWords, Tips, Nodes, Length, Parents, Labels, Repeated, Misplaced}
use Rattle.tree_check.specs.declared.refusals.Refusal.{Refusal}
use Rattle.tree_check.specs.declared.refusals.Refusal.TheVariants.{Table, Second, TipsDiffer, Cells, TooLarge, Equal, Short, NoEdge, LongFile, OddFile, Fraction, Marks, AsWished, Counts, FewKept, ShortCopy, Levels, ListLength, ListTree}
use Rattle.tree_check.specs.Numbers.{table_number, refusal_number, table_named, refusal_named, answer_by}

-- ---- a rule is read back from its number

pub first_named : (r : TableRefusal) → refusal_named (table_number r) ≡ Table r
unfolding refusal_named table_named
first_named TooFewWords = refl
first_named Tips = refl
first_named Nodes = refl
first_named Length = refl
first_named Parents = refl
first_named Labels = refl
first_named Repeated = refl
first_named Misplaced = refl

pub second_named : (r : TableRefusal) → refusal_named (100 + table_number r) ≡ Second r
unfolding refusal_named table_named
second_named TooFewWords = refl
second_named Tips = refl
second_named Nodes = refl
second_named Length = refl
second_named Parents = refl
second_named Labels = refl
second_named Repeated = refl
second_named Misplaced = refl

pub number_named : (r : Refusal) → refusal_named (refusal_number r) ≡ r
unfolding refusal_named
number_named (Table r) = first_named r
number_named (Second r) = second_named r
number_named TipsDiffer = refl
number_named Cells = refl
number_named TooLarge = refl
number_named Equal = refl
number_named Short = refl
number_named NoEdge = refl
number_named LongFile = refl
number_named OddFile = refl
number_named Fraction = refl
number_named Marks = refl
number_named AsWished = refl
number_named Counts = refl
number_named FewKept = refl
number_named ShortCopy = refl
number_named Levels = refl
number_named ListLength = refl
number_named ListTree = refl

-- ---- no rule has the number 0

pub table_numbered : (r : TableRefusal) → 1 ≤ table_number r
table_numbered TooFewWords = omega arith
table_numbered Tips = omega arith
table_numbered Nodes = omega arith
table_numbered Length = omega arith
table_numbered Parents = omega arith
table_numbered Labels = omega arith
table_numbered Repeated = omega arith
table_numbered Misplaced = omega arith

pub refusal_numbered : (r : Refusal) → 1 ≤ refusal_number r
refusal_numbered (Table r) = table_numbered r
refusal_numbered (Second r) = omega arith
refusal_numbered TipsDiffer = omega arith
refusal_numbered Cells = omega arith
refusal_numbered TooLarge = omega arith
refusal_numbered Equal = omega arith
refusal_numbered Short = omega arith
refusal_numbered NoEdge = omega arith
refusal_numbered LongFile = omega arith
refusal_numbered OddFile = omega arith
refusal_numbered Fraction = omega arith
refusal_numbered Marks = omega arith
refusal_numbered AsWished = omega arith
refusal_numbered Counts = omega arith
refusal_numbered FewKept = omega arith
refusal_numbered ShortCopy = omega arith
refusal_numbered Levels = omega arith
refusal_numbered ListLength = omega arith
refusal_numbered ListTree = omega arith

-- ---- answers by a number

-- the number of an answer, 0 for accepted
abbrev pub answer_number : {A : Type 0} → Result A Refusal → ℕ
answer_number (Ok x) = 0
answer_number (Err r) = refusal_number r

pub answer_ok : {A : Type 0} (k : ℕ) (x y : A) → k ≡ 0 → x ≡ y → Ok x ≡ answer_by k y
unfolding answer_by
answer_ok zero x y z e = ap Ok e
answer_ok (suc k) x y z e = absurd (omega (arith, z))

pub answer_err : {A : Type 0} (k : ℕ) (r : Refusal) (y : A) → k ≡ refusal_number r → Err r ≡ answer_by k y
unfolding answer_by
answer_err zero r y e = absurd (omega (arith, refusal_numbered r, e))
answer_err (suc k) r y e = ap Err (sym (number_named r) ∙ ap refusal_named (sym e))

-- what an answer says: the value, and the number 0 ..
pub answered_ok : {A : Type 0} (k : ℕ) (x y : A) → Ok x ≡ answer_by k y → (k ≡ 0) × (x ≡ y)
unfolding answer_by
answered_ok zero x y e = (refl, ap (λ r. value_or r x) e)
  where
    value_or : {A : Type 0} → Result A Refusal → A → A
    value_or (Ok v) d = v
    value_or (Err r) d = d
answered_ok (suc k) x y e = absurd (let z : ◌≡◌ {A = ℕ} 0 1 = cc in omega arith)

-- .. or a rule, and its number where the number names one
pub answered_err : {A : Type 0} (k : ℕ) (r : Refusal) (y : A) → (k ≢ 0 → refusal_number (refusal_named k) ≡ k)
    → Err r ≡ answer_by k y → (k ≡ refusal_number r) × (refusal_number r ≢ 0)
unfolding answer_by
answered_err zero r y h e = absurd (let z : ◌≡◌ {A = ℕ} 0 1 = cc in omega arith)
answered_err (suc k) r y h e =
    (sym (ap answer_number e ∙ h (λ z. absurd (omega (arith, z)))), λ z. absurd (omega (arith, refusal_numbered r, z)))

-- the number of any answer
pub number_is : {A : Type 0} (answer : Result A Refusal) (number : ℕ)
    → MatchResult answer (λ _. number ≡ 0) (λ r. number ≡ refusal_number r) → number ≡ answer_number answer
number_is (Ok x) number m = m
number_is (Err r) number m = m

-- the number that is passed on from a refused answer
pub passed_on : {k number r : ℕ} → (k ≡ r) × (r ≢ 0) → number ≡ r → (k ≡ number) × (number ≢ 0)
passed_on h n = (h.0 ∙ sym n, λ z. h.1 (sym n ∙ z))
