-- What `holding_counts` tells of each kept label, added up over all kept labels, is four times what `quartet_table` tells.
-- Assumes nothing.
use Rattle.std.specs.Prelude.{◌≡◌, refl, List, ℕ, ◌*◌, ◌<◌}
use Rattle.std.proofs.Common.{sym, ◌∙◌, ap}
use Rattle.std.proofs.lemmas.Bool.{lt-leb}
use Rattle.sums.specs.Sum.{sum}
use Rattle.sums.specs.theorems.SumLaws.{sum_ext}
use Rattle.tree_check.specs.Table.{Table, tips}
use Rattle.tree_check.specs.theorems.RefusalLaws.{refusal-kept, refusal_next, refusal_none, if_accepted_lem}
use Rattle.marks.specs.Marks.{kept_of, marks_order, AreMarks}
use Rattle.marks.proofs.theorems.MarksCheck.{marks-kept}
use Rattle.pair_check.specs.PairOrder.{IsPair, MarkedPair, tables_order}
use Rattle.pair_check.specs.theorems.PairCheck.{tables_kept}
use Rattle.counting.specs.Labels.{Labels}
use Rattle.counting.specs.Kept.{kept}
use Rattle.counting.specs.declared.Case.{Case}
use Rattle.counting.specs.declared.Case.TheVariants.{A, B, C, D, E}
use Rattle.counting.specs.Cases.{quartets}
use Rattle.counting.proofs.theorems.KeptLaws.{kept-rising}
use Rattle.quartets.specs.declared.tables.QuartetTable.{QuartetTable}
use Rattle.quartets.specs.QuartetAnswer.{cases_over, quartet_answer}
use Rattle.quartets.proofs.theorems.DemandThree.{accepted}
use Rattle.one_label.specs.declared.answers.FiveAnswer.{FiveAnswer}
use Rattle.counting.specs.Holding.{holding_kept}
use Rattle.one_label.specs.FiveAnswers.{counts_of, five_of, holding_order, holding_answer}
use Rattle.counting.proofs.theorems.HeldByFour.{held_by_four}
use Rattle.one_label.specs.theorems.ChangeLaws.{answer_counts}
use Rattle.one_label.proofs.theorems.ChangeLaws.{counts_told}
use Rattle.mark_changes.specs.theorems.Sequences.{table_counts}

holding_accepted : (t u : Table) (marks : List ℕ) (x : ℕ) → IsPair t u → AreMarks marks (tips t) → x < tips t
    → holding_answer t u marks x ≡ five_of (holding_kept t u marks x)
unfolding holding_answer holding_order
holding_accepted t u marks x p m l = if_accepted_lem _ (five_of (holding_kept t u marks x)) _
    (refusal-kept (tables_order t u) _ ((tables_kept t u).1 p)
    ∙ refusal-kept (marks_order marks (tips t)) _ ((marks-kept marks (tips t)).1 m)
    ∙ refusal_next 10 _ _ (lt-leb (tips t) x l)
    ∙ refusal_none)

cases_told : (l : Labels) (t u : Table) (k : Case) → counts_of (table_counts (cases_over l t u)) k ≡ quartets l t u k
cases_told l t u A = refl
cases_told l t u B = refl
cases_told l t u C = refl
cases_told l t u D = refl
cases_told l t u E = refl

pub held_answers : (t u : Table) (marks : List ℕ) (cells : ℕ) → MarkedPair t u marks cells → (k : Case)
    → sum (kept_of marks (tips t)) (λ i. counts_of (answer_counts (holding_answer t u marks ((kept marks (tips t)).at i))) k)
    ≡ 4 * counts_of (table_counts (quartet_answer t u marks cells)) k
held_answers t u marks cells m k =
    let p = m.with_cells.pair in
    let l = kept marks (tips t) in
    sum_ext (kept_of marks (tips t)) _ (λ i. holding_kept t u marks ((kept marks (tips t)).at i) k) (λ i li.
    ap (λ (r : FiveAnswer). counts_of (answer_counts r) k)
    (holding_accepted t u marks (l.at i) p m.marked ((kept-rising marks (tips t)).inside i li))
    ∙ counts_told (holding_kept t u marks (l.at i)) k)
    ∙ held_by_four t u p.first p.second p.same_tips marks k
    ∙ ap (λ (z : ℕ). 4 * z) (sym (ap (λ (r : QuartetTable). counts_of (table_counts r) k) (accepted t u marks cells m) ∙ cases_told l t u k))
