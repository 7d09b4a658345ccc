-- The numbers of refusals, and the rules that they name (docs/SPECIFICATION.md, 'The numbers').
-- Assumes nothing.
use Rattle.std.specs.Prelude.{ℕ, zero, suc, ◌+◌, ◌-◌, eqb, ltb, cond, Result, Ok, Err}
use Rattle.tree_check.specs.declared.refusals.TableRefusal.{TableRefusal}
use Rattle.tree_check.specs.declared.refusals.TableRefusal.TheVariants.{TooFewWords, Tips, Nodes, Length, Parents, Labels, Repeated, Misplaced}
use Rattle.tree_check.specs.declared.refusals.Refusal.{Refusal}
use Rattle.tree_check.specs.declared.refusals.Refusal.TheVariants.{Table, Second, TipsDiffer, Cells, TooLarge, Equal, Short, NoEdge, LongFile, OddFile, Fraction, Marks, AsWished, Counts, FewKept, ShortCopy, Levels, ListLength, ListTree}

-- the number of a rule
abbrev pub table_number : TableRefusal → ℕ
table_number TooFewWords = 1
table_number Tips = 2
table_number Nodes = 3
table_number Length = 4
table_number Parents = 5
table_number Labels = 6
table_number Repeated = 31
table_number Misplaced = 7

abbrev pub refusal_number : Refusal → ℕ
refusal_number (Table r) = table_number r
refusal_number (Second r) = 100 + table_number r
refusal_number TipsDiffer = 8
refusal_number Cells = 9
refusal_number TooLarge = 10
refusal_number Equal = 11
refusal_number Short = 12
refusal_number NoEdge = 13
refusal_number LongFile = 14
refusal_number OddFile = 15
refusal_number Fraction = 30
refusal_number Marks = 32
refusal_number AsWished = 33
refusal_number Counts = 34
refusal_number FewKept = 35
refusal_number ShortCopy = 36
refusal_number Levels = 37
refusal_number ListLength = 38
refusal_number ListTree = 39

-- the rule with a number
unfoldable pub table_named : ℕ → TableRefusal
table_named k =
    (cond (eqb k 1) TooFewWords
    (cond (eqb k 2) Tips
    (cond (eqb k 3) Nodes
    (cond (eqb k 4) Length
    (cond (eqb k 5) Parents
    (cond (eqb k 6) Labels
    (cond (eqb k 31) Repeated
    Misplaced)))))))

unfoldable pub refusal_named : ℕ → Refusal
refusal_named k =
    (cond (eqb k 8) TipsDiffer
    (cond (eqb k 9) Cells
    (cond (eqb k 10) TooLarge
    (cond (eqb k 11) Equal
    (cond (eqb k 12) Short
    (cond (eqb k 13) NoEdge
    (cond (eqb k 14) LongFile
    (cond (eqb k 15) OddFile
    (cond (eqb k 30) Fraction
    (cond (eqb k 32) Marks
    (cond (eqb k 33) AsWished
    (cond (eqb k 34) Counts
    (cond (eqb k 35) FewKept
    (cond (eqb k 36) ShortCopy
    (cond (eqb k 37) Levels
    (cond (eqb k 38) ListLength
    (cond (eqb k 39) ListTree
    (cond (ltb k 100) (Table (table_named k)) (Second (table_named (k - 100)))))))))))))))))))))

-- an answer by a number: the value where it is 0, and else the rule with that number
unfoldable pub answer_by : {A : Type 0} → ℕ → A → Result A Refusal
answer_by zero x = Ok x
answer_by (suc k) x = Err (refusal_named (suc k))
