-- The pair's number and answer, as code finds them.
-- Assumes nothing.
use Rattle.std.proofs.Math.Path.{◌≡◌, refl, sym, ap}
use Rattle.std.proofs.Common.{◌∙◌, subst, mul-le-mul, lt_of_le_of_lt, arith, lt-ltb, le-ltb, ne_eqb}
use Rattle.std.specs.Prelude.{true, false, ◌≢◌, List, ◌++◌, ltb, Result, Ok, Err, MatchResult}
use Rattle.std.proofs.Math.Bool.{not}
use Prim.Native.Nat.{ℕ, zero, suc, ◌+◌, ◌*◌, ◌-◌, ◌≤◌, ◌<◌}
use Rattle.std.proofs.Math.Decide.{dec_le}
use Rattle.table_words.specs.Sizes.{nodes_most}
use Rattle.tree_check.specs.Table.{Table, tips, nodes}
use Rattle.tree_check.specs.Refusals.{refusal, if_accepted}
use Rattle.tree_check.specs.theorems.RefusalLaws.{refusal_here, refusal-first, refusal-kept, Named, named_refusal, named_append}
use Rattle.tree_check.specs.IsTree.{IsTree}
use Rattle.tree_check.specs.TreeOrder.{arrays_order, tree_order}
use Rattle.tree_check.specs.declared.table.Tree.{Tree}
use Rattle.tree_check.specs.Check.{Checked}
use Rattle.tree_check.specs.Numbers.{refusal_number, table_named, refusal_named, answer_by}
use Rattle.tree_check.specs.theorems.NumberLaws.{refusal_numbered, answer_err, answered_ok, answered_err, answer_number, number_is, passed_on}
use Rattle.tree_check.specs.theorems.TreeCheck.{tree_kept}
use Rattle.marks.specs.Marks.{kept_of, marks_order, AreMarks}
use Rattle.tree_check.specs.declared.refusals.TableRefusal.{TableRefusal}
use Rattle.tree_check.specs.declared.refusals.TableRefusal.TheVariants.{TooFewWords}
use Rattle.pair_check.specs.declared.pairs.Pair.{Pair}
use Rattle.tree_check.specs.declared.refusals.Refusal.{Refusal}
use Rattle.tree_check.specs.declared.refusals.Refusal.TheVariants.{Second, TipsDiffer, Cells}
use Rattle.pair_check.specs.PairOrder.{plus, tips_order, tables_order, cells_needed, work_order, cells_order, pair_order}
use Rattle.pair_check.specs.PairOrder.{IsPair, PairWithCells, MarkedPair}
use Rattle.pair_check.specs.CheckedPair.{CheckedPair, pair_verdict, checked_pair, checked_cells, checked_work}
use Rattle.pair_check.specs.CheckedPair.{pair_number, PairTold}
use Rattle.pair_check.specs.theorems.PairCheck.{plus-kept, plus-refusal, tables_check, tables_kept}
use Rattle.pair_check.specs.theorems.PairCheck.{cells_check, pair_check, order_kept}

-- ---- the number of two tables

module _ (t u : Table) where
  pub first_refused : (k : ℕ) → refusal (tree_order t) ≡ k → k ≢ 0 → refusal (tables_order t u) ≡ k
  unfolding tables_order
  first_refused k e d = refusal-first (tree_order t) _ (λ z. d (sym e ∙ z)) ∙ e

  module _ (g : IsTree t) where
    pub second_refused : (k : ℕ) → refusal (tree_order u) ≡ k → k ≢ 0 → refusal (tables_order t u) ≡ 100 + k
    unfolding tables_order
    second_refused k e d =
        let more = plus-refusal 100 (tree_order u) (λ z. d (sym e ∙ z)) in
        refusal-kept (tree_order t) _ (tree_kept t g)
        ∙ refusal-first (plus 100 (tree_order u)) _ (λ z. omega (arith, more, z))
        ∙ more
        ∙ ap (λ (x : ℕ). 100 + x) e

    pub tips-differ : IsTree u → tips t ≢ tips u → refusal (tables_order t u) ≡ 8
    unfolding tables_order tips_order
    tips-differ h d =
        refusal-kept (tree_order t) _ (tree_kept t g)
        ∙ refusal-kept (plus 100 (tree_order u)) _ ((plus-kept 100 (tree_order u)).1 (tree_kept u h))
        ∙ refusal_here 8 _ _ (ap not (ne_eqb (tips t) (tips u) d))

    pub tables_accepted : IsTree u → tips t ≡ tips u → refusal (tables_order t u) ≡ 0
    tables_accepted h e = (tables_check t u).1 (record { first = g; second = h; same_tips = e })

  -- ---- .. and of the work cells

  module _ (cells : ℕ) where
    pub tables_refused : (k : ℕ) → refusal (tables_order t u) ≡ k → k ≢ 0 → refusal (cells_order t u cells) ≡ k
    unfolding cells_order
    tables_refused k e d = refusal-first (tables_order t u) _ (λ z. d (sym e ∙ z)) ∙ e

    cells_short : IsPair t u → cells < cells_needed t u → refusal (cells_order t u cells) ≡ 9
    unfolding cells_order work_order
    cells_short p l =
        refusal-kept (tables_order t u) _ ((tables_kept t u).1 p)
        ∙ refusal_here 9 _ _ (lt-ltb cells (cells_needed t u) l)

    -- ---- .. and of the marks

    module _ (marks : List ℕ) where
      pub tables_refused_first : (k : ℕ) → refusal (tables_order t u) ≡ k → k ≢ 0 → refusal (pair_order t u marks cells) ≡ k
      unfolding pair_order
      tables_refused_first k e d = refusal-first (tables_order t u) _ (λ z. d (sym e ∙ z)) ∙ e

      pub marks_refused : IsPair t u → (k : ℕ) → k ≡ refusal (marks_order marks (tips t)) → k ≢ 0
          → refusal (pair_order t u marks cells) ≡ k
      unfolding pair_order
      marks_refused p k e d =
          refusal-kept (tables_order t u) _ ((tables_kept t u).1 p)
          ∙ refusal-first (marks_order marks (tips t)) _ (λ z. d (e ∙ z))
          ∙ sym e

-- ---- the numbers of these orders are those of rules

-- the number of the rule that a number is read as
abbrev rule_number : ℕ → ℕ
rule_number k = refusal_number (refusal_named k)

first_named : (t : Table) → Named rule_number (tree_order t)
first_named t = unfold tree_order in unfold arrays_order in unfold refusal_named in unfold table_named in
    (refl, (refl, (refl, (refl, (refl, (refl, (refl, (refl, tt))))))))

second_named : (u : Table) → Named rule_number (plus 100 (tree_order u))
second_named u = unfold tree_order in unfold arrays_order in unfold plus in unfold refusal_named in unfold table_named in
    (refl, (refl, (refl, (refl, (refl, (refl, (refl, (refl, tt))))))))

tips_named : (t u : Table) → Named rule_number (tips_order t u)
tips_named t u = unfold tips_order in unfold refusal_named in (refl, tt)

tables_named : (t u : Table) → Named rule_number (tables_order t u)
tables_named t u = unfold tables_order in
    named_append rule_number (tree_order t) (plus 100 (tree_order u) ++ tips_order t u) (first_named t)
    (named_append rule_number (plus 100 (tree_order u)) (tips_order t u) (second_named u) (tips_named t u))

work_named : (t u : Table) (cells : ℕ) → Named rule_number (work_order t u cells)
work_named t u cells = unfold work_order in unfold refusal_named in (refl, tt)

cells_named : (t u : Table) (cells : ℕ) → Named rule_number (cells_order t u cells)
cells_named t u cells = unfold cells_order in
    named_append rule_number (tables_order t u) (work_order t u cells) (tables_named t u) (work_named t u cells)

marks_named : (marks : List ℕ) (n : ℕ) → Named rule_number (marks_order marks n)
marks_named marks n = unfold marks_order in unfold refusal_named in (refl, (refl, tt))

pair_named : (t u : Table) (marks : List ℕ) (cells : ℕ) → Named rule_number (pair_order t u marks cells)
pair_named t u marks cells = unfold pair_order in
    named_append rule_number (tables_order t u) (marks_order marks (tips t) ++ work_order t u cells) (tables_named t u)
    (named_append rule_number (marks_order marks (tips t)) (work_order t u cells) (marks_named marks (tips t))
    (work_named t u cells))

-- ---- the answers

-- the second table's answer, with its refusals as the second's
abbrev pub told_second : Checked → Result Tree Refusal
told_second (Ok tree) = Ok tree
told_second (Err r) = Err (Second r)

kept : Result Tree Refusal → Checked
kept (Ok tree) = Ok tree
kept (Err p) = Err TooFewWords

broken : Result Tree Refusal → Refusal
broken (Ok tree) = TipsDiffer
broken (Err p) = p

pub second_tree : (answer : Checked) (tree : Tree) → Ok tree ≡ told_second answer → answer ≡ Ok tree
unfolding kept
second_tree (Ok t) tree e = ap kept (sym e)
second_tree (Err r) tree e = absurd (let z : ◌≡◌ {A = ℕ} 0 1 = cc in omega arith)

pub second_refusal : (answer : Checked) (p : Refusal) → Err p ≡ told_second answer
    → (r : TableRefusal) × (answer ≡ Err r) × (p ≡ Second r)
unfolding broken
second_refusal (Ok t) p e = absurd (let z : ◌≡◌ {A = ℕ} 0 1 = cc in omega arith)
second_refusal (Err r) p e = (r, refl, ap broken e)

-- an answer's number is the pair's
told_number : (answer : CheckedPair) → answer_number answer ≡ pair_number answer
told_number (Ok pair) = refl
told_number (Err r) = refl

-- a pair that needs no more cells than there are, or 9
unfoldable pub measured_pair : Pair → ℕ → CheckedPair
measured_pair pair cells = elim (ltb cells (pair.rows * pair.columns)) [ true ↦ Err Cells | false ↦ Ok pair ]

-- cells enough, or not
pub measured_pair_lem : (pair : Pair) (cells : ℕ) → pair.rows * pair.columns ≤ cells → Ok pair ≡ measured_pair pair cells
unfolding measured_pair
measured_pair_lem pair cells l = rw (measured_pair, le-ltb cells (pair.rows * pair.columns) l) refl

pub measured_nine : (pair : Pair) (cells : ℕ) → cells < pair.rows * pair.columns → Err Cells ≡ measured_pair pair cells
unfolding measured_pair
measured_nine pair cells l = rw (measured_pair, lt-ltb cells (pair.rows * pair.columns) l) refl

-- a pair tells these numbers
pub record Tells (pair : Pair) (t u : Table) (k : ℕ) : Type 0 where
  pub tips : pair.tips ≡ tips t
  pub counted : pair.counted ≡ k
  pub rows : pair.rows ≡ nodes t - 1
  pub columns : pair.columns ≡ nodes u - 1

module _ (t u : Table) where
  module _ (c : ℕ) where
    -- an answer by a number, and what it tells
    abbrev Answered : ℕ → CheckedPair → Type 0
    Answered k r = (r ≡ pair_verdict k t u c) × PairTold k t u c r

    pair_is : (k : ℕ) (pair : Pair) → k ≡ 0 → Tells pair t u c → Answered k (Ok pair)
    pair_is k pair z h = rw z (unfold pair_verdict in unfold answer_by in unfold if_accepted in (
      rw (← h.tips, ← h.counted, ← h.rows, ← h.columns) refl,
      record {
        number_told = refl;
        tips_told = h.tips;
        counted_told = h.counted;
        rows_told = h.rows;
        columns_told = h.columns;
      },
    ))

    refused_is : (k : ℕ) (r : Refusal) → k ≡ refusal_number r → Answered k (Err r)
    unfolding pair_verdict
    refused_is k r e = (answer_err k r _ e, go k e)
      where
        go : (j : ℕ) → j ≡ refusal_number r → PairTold j t u c (Err r)
        go zero q = absurd (omega (arith, refusal_numbered r, q))
        go (suc j) q = unfold if_accepted in record {
          number_told = sym q;
          tips_told = refl;
          counted_told = refl;
          rows_told = refl;
          columns_told = refl;
        }

    -- what an accepted answer says
    pair_says : (k : ℕ) (pair : Pair) → pair_verdict k t u c ≡ Ok pair → (k ≡ 0) × Tells pair t u c
    unfolding pair_verdict
    pair_says k pair e =
        let h = answered_ok k pair _ (sym e) in (
          h.0,
          record {
            tips = ap (λ (p : Pair). p.tips) h.1;
            counted = ap (λ (p : Pair). p.counted) h.1;
            rows = ap (λ (p : Pair). p.rows) h.1;
            columns = ap (λ (p : Pair). p.columns) h.1;
          },
        )

    -- what an answer by a rule's number tells
    verdict_told : (k : ℕ) → (k ≢ 0 → rule_number k ≡ k) → PairTold k t u c (pair_verdict k t u c)
    unfolding pair_verdict answer_by if_accepted
    verdict_told zero h =
        record { number_told = refl; tips_told = refl; counted_told = refl; rows_told = refl; columns_told = refl }
    verdict_told (suc k) h = record {
      number_told = h (λ z. absurd (omega (arith, z)));
      tips_told = refl;
      counted_told = refl;
      rows_told = refl;
      columns_told = refl;
    }

    -- what a refusal says
    refused_says : (k : ℕ) (r : Refusal) → (k ≢ 0 → rule_number k ≡ k) → pair_verdict k t u c ≡ Err r
        → (k ≡ refusal_number r) × (refusal_number r ≢ 0)
    unfolding pair_verdict
    refused_says k r h e = answered_err k r _ h (sym e)

    -- the number that is passed on from a refused answer
    refusal_passed : (k : ℕ) (r : Refusal) (number : ℕ) (answer : CheckedPair) → (k ≢ 0 → rule_number k ≡ k)
        → answer ≡ pair_verdict k t u c → answer ≡ Err r → number ≡ pair_number answer → (number ≡ k) × (number ≢ 0)
    refusal_passed k r number answer h a e n =
        let p = passed_on (refused_says k r h (sym a ∙ e)) (n ∙ ap pair_number e) in (sym p.0, p.1)

  -- what `check_pair` returns, and what it tells
  abbrev pub PairAnswered : CheckedPair → Type 0
  PairAnswered r = (r ≡ checked_pair t u) × PairTold (refusal (tables_order t u)) t u (tips t) r

  pub pair_found : (pair : Pair) → refusal (tables_order t u) ≡ 0 → Tells pair t u (tips t) → PairAnswered (Ok pair)
  unfolding checked_pair
  pair_found pair z h = pair_is (tips t) _ pair z h

  pub pair_turned_away : (r : Refusal) → refusal (tables_order t u) ≡ refusal_number r → PairAnswered (Err r)
  unfolding checked_pair
  pair_turned_away r e = refused_is (tips t) _ r e

  -- what `check_cells` returns
  abbrev pub CellsAnswered : ℕ → CheckedPair → Type 0
  CellsAnswered cells r = (r ≡ checked_cells t u cells) × PairTold (refusal (cells_order t u cells)) t u (tips t) r

  pub cells_turned_away : (cells : ℕ) (r : Refusal) → refusal (cells_order t u cells) ≡ refusal_number r
      → CellsAnswered cells (Err r)
  unfolding checked_cells
  cells_turned_away cells r e = refused_is (tips t) _ r e

  -- what `check_work` returns
  abbrev pub WorkAnswered : List ℕ → ℕ → CheckedPair → Type 0
  WorkAnswered marks cells r =
      (r ≡ checked_work t u marks cells) × PairTold (refusal (pair_order t u marks cells)) t u (kept_of marks (tips t)) r

  pub work_turned_away : (marks : List ℕ) (cells : ℕ) (r : Refusal)
      → refusal (pair_order t u marks cells) ≡ refusal_number r → WorkAnswered marks cells (Err r)
  unfolding checked_work
  work_turned_away marks cells r e = refused_is (kept_of marks (tips t)) _ r e

  -- a measured pair: 9, or the pair
  measured_answer : (cells c number : ℕ) → IsPair t u → number ≡ refusal (cells_order t u cells) → (pair : Pair)
      → Tells pair t u c → Answered c number (measured_pair pair cells)
  measured_answer cells c number p e pair h = go (dec_le (pair.rows * pair.columns) cells)
    where
      go : Dec (pair.rows * pair.columns ≤ cells) → Answered c number (measured_pair pair cells)
      go (yes l) =
          let z = e ∙ (cells_check t u cells).1 (record { pair = p; room = rw (← h.rows, ← h.columns) l }) in
          subst (Answered c number) (measured_pair_lem pair cells l) (pair_is c number pair z h)
      go (no d) =
          let l : cells < pair.rows * pair.columns = omega (arith, d) in
          subst (Answered c number) (measured_nine pair cells l)
          (refused_is c number Cells (e ∙ cells_short t u cells p (rw (← h.rows, ← h.columns) l)))

  pub cells_measured : (cells : ℕ) → IsPair t u → (pair : Pair) → Tells pair t u (tips t)
      → (r : CheckedPair) → r ≡ measured_pair pair cells → CellsAnswered cells r
  unfolding checked_cells
  cells_measured cells p pair h r q = rw q (measured_answer cells (tips t) _ p refl pair h)

  pub work_measured : (marks : List ℕ) (cells : ℕ) → IsPair t u → AreMarks marks (tips t) → (pair : Pair)
      → Tells pair t u (kept_of marks (tips t)) → (r : CheckedPair) → r ≡ measured_pair pair cells → WorkAnswered marks cells r
  unfolding checked_work
  work_measured marks cells p h pair w r q =
      rw q (measured_answer cells (kept_of marks (tips t)) _ p (order_kept t u marks cells h) pair w)

  -- ---- the numbers of two tables, with the cells, and with the marks too, are those of rules

  tables_number : refusal (tables_order t u) ≢ 0 → rule_number (refusal (tables_order t u)) ≡ refusal (tables_order t u)
  tables_number = named_refusal rule_number (tables_order t u) (tables_named t u)

  cells_number : (cells : ℕ) → refusal (cells_order t u cells) ≢ 0
      → rule_number (refusal (cells_order t u cells)) ≡ refusal (cells_order t u cells)
  cells_number cells = named_refusal rule_number (cells_order t u cells) (cells_named t u cells)

  work_number : (marks : List ℕ) (cells : ℕ) → refusal (pair_order t u marks cells) ≢ 0
      → rule_number (refusal (pair_order t u marks cells)) ≡ refusal (pair_order t u marks cells)
  work_number marks cells = named_refusal rule_number (pair_order t u marks cells) (pair_named t u marks cells)

  -- each answer tells its order's number
  pub pair_answered : (r : CheckedPair) → r ≡ checked_pair t u → PairAnswered r
  unfolding checked_pair
  pair_answered r e =
      (e, subst (PairTold (refusal (tables_order t u)) t u (tips t)) (sym e) (verdict_told (tips t) _ tables_number))

  pub cells_answered : (cells : ℕ) (r : CheckedPair) → r ≡ checked_cells t u cells → CellsAnswered cells r
  unfolding checked_cells
  cells_answered cells r e =
      (e, subst (PairTold (refusal (cells_order t u cells)) t u (tips t)) (sym e) (verdict_told (tips t) _ (cells_number cells)))

  pub work_answered : (marks : List ℕ) (cells : ℕ) (r : CheckedPair) → r ≡ checked_work t u marks cells
      → WorkAnswered marks cells r
  unfolding checked_work
  work_answered marks cells r e = (
    e,
    subst (PairTold (refusal (pair_order t u marks cells)) t u (kept_of marks (tips t))) (sym e)
        (verdict_told (kept_of marks (tips t)) _ (work_number marks cells)),
  )

  -- what a refused answer says
  pub pair_refused : (r : Refusal) → Err r ≡ checked_pair t u
      → (refusal (tables_order t u) ≡ refusal_number r) × (refusal_number r ≢ 0)
  unfolding checked_pair
  pair_refused r e = refused_says (tips t) _ r tables_number (sym e)

  pub cells_refused : (cells : ℕ) (r : Refusal) → Err r ≡ checked_cells t u cells
      → (refusal (cells_order t u cells) ≡ refusal_number r) × (refusal_number r ≢ 0)
  unfolding checked_cells
  cells_refused cells r e = refused_says (tips t) _ r (cells_number cells) (sym e)

  pub work_refused : (marks : List ℕ) (cells : ℕ) (r : Refusal) → Err r ≡ checked_work t u marks cells
      → (refusal (pair_order t u marks cells) ≡ refusal_number r) × (refusal_number r ≢ 0)
  unfolding checked_work
  work_refused marks cells r e = refused_says (kept_of marks (tips t)) _ r (work_number marks cells) (sym e)

  -- the number that is passed on from a refused answer
  pub pair_passed : (r : Refusal) (number : ℕ) (answer : CheckedPair) → answer ≡ checked_pair t u → answer ≡ Err r
      → number ≡ pair_number answer → (number ≡ refusal (tables_order t u)) × (number ≢ 0)
  unfolding checked_pair
  pair_passed r number answer a e n = refusal_passed (tips t) _ r number answer tables_number a e n

  pub cells_passed : (cells : ℕ) (r : Refusal) (number : ℕ) (answer : CheckedPair) → answer ≡ checked_cells t u cells
      → answer ≡ Err r → number ≡ pair_number answer → (number ≡ refusal (cells_order t u cells)) × (number ≢ 0)
  unfolding checked_cells
  cells_passed cells r number answer a e n = refusal_passed (tips t) _ r number answer (cells_number cells) a e n

  pub work_passed : (marks : List ℕ) (cells : ℕ) (r : Refusal) (number : ℕ) (answer : CheckedPair)
      → answer ≡ checked_work t u marks cells → answer ≡ Err r → number ≡ pair_number answer
      → (number ≡ refusal (pair_order t u marks cells)) × (number ≢ 0)
  unfolding checked_work
  work_passed marks cells r number answer a e n =
      refusal_passed (kept_of marks (tips t)) _ r number answer (work_number marks cells) a e n

  -- .. as `refusal_of` tells it
  pub pair_told : (answer : CheckedPair) (r : Refusal) (number : ℕ) → answer ≡ checked_pair t u → answer ≡ Err r
      → MatchResult answer (λ _. number ≡ 0) (λ e. number ≡ refusal_number e)
      → (number ≡ refusal (tables_order t u)) × (number ≢ 0)
  pair_told answer r number a e m = pair_passed r number answer a e (number_is answer number m ∙ told_number answer)

  pub cells_told : (cells : ℕ) (answer : CheckedPair) (r : Refusal) (number : ℕ) → answer ≡ checked_cells t u cells
      → answer ≡ Err r → MatchResult answer (λ _. number ≡ 0) (λ e. number ≡ refusal_number e)
      → (number ≡ refusal (cells_order t u cells)) × (number ≢ 0)
  cells_told cells answer r number a e m =
      cells_passed cells r number answer a e (number_is answer number m ∙ told_number answer)

  pub work_told : (marks : List ℕ) (cells : ℕ) (answer : CheckedPair) (r : Refusal) (number : ℕ)
      → answer ≡ checked_work t u marks cells → answer ≡ Err r
      → MatchResult answer (λ _. number ≡ 0) (λ e. number ≡ refusal_number e)
      → (number ≡ refusal (pair_order t u marks cells)) × (number ≢ 0)
  work_told marks cells answer r number a e m =
      work_passed marks cells r number answer a e (number_is answer number m ∙ told_number answer)

-- a tree table has an edge, and at most `nodes_most` nodes
pub edges_some : (t : Table) → IsTree t → (2 ≤ nodes t) × (nodes t ≤ nodes_most)
edges_some t g = let n = g.tips_range in let m = g.nodes_range in (omega arith, omega arith)

-- the number of cells that two tables need
pub product_fits : (t u : Table) (rows columns : ℕ) → IsPair t u → rows ≡ nodes t - 1 → columns ≡ nodes u - 1
    → rows * columns < 18446744073709551616
product_fits t u rows columns p er ec =
    let a = edges_some t p.first in
    let b = edges_some u p.second in
    let l : rows * columns ≤ nodes_most * nodes_most = mul-le-mul {n₂ = nodes_most} {m₂ = nodes_most} (omega arith) (omega arith) in
    lt_of_le_of_lt l (omega arith)

-- what `check_pair` says of two tables that it accepts
pub check_says : (t u : Table) (pair : Pair) → checked_pair t u ≡ Ok pair → IsPair t u × Tells pair t u (tips t)
unfolding checked_pair
check_says t u pair e = let s = pair_says t u (tips t) _ pair e in ((tables_check t u).0 s.0, s.1)

-- .. `check_cells` of a pair call without marks
pub cells_says : (t u : Table) (cells : ℕ) (pair : Pair) → checked_cells t u cells ≡ Ok pair
    → PairWithCells t u cells × Tells pair t u (tips t)
unfolding checked_cells
cells_says t u cells pair e = let s = pair_says t u (tips t) _ pair e in ((cells_check t u cells).0 s.0, s.1)

-- .. and `check_work` of one with marks
pub work_says : (t u : Table) (marks : List ℕ) (cells : ℕ) (pair : Pair) → checked_work t u marks cells ≡ Ok pair
    → MarkedPair t u marks cells × Tells pair t u (kept_of marks (tips t))
unfolding checked_work
work_says t u marks cells pair e =
    let s = pair_says t u (kept_of marks (tips t)) _ pair e in ((pair_check t u marks cells).0 s.0, s.1)
