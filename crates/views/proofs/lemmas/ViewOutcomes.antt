-- What a viewer is told, as code finds it.
-- Assumes nothing.
use Rattle.std.specs.Prelude.{◌≡◌, ◌≢◌, ℕ, ◌≤◌, length}
use Rattle.std.proofs.Math.Path.{refl, sym, ap}
use Rattle.std.proofs.Common.{◌∙◌}
use mathlib.Core.List.{List, ◌++◌}
use Rattle.sums.specs.Counts.{count}
use Rattle.sums.specs.theorems.ListLaws.{in_front-length, in_front_again}
use Rattle.tree_check.specs.Table.{Table, tips}
use Rattle.tree_check.specs.Refusals.{refusal}
use Rattle.tree_check.specs.theorems.RefusalLaws.{refusal-first, refusal-kept, if_accepted_lem, if_refused}
use Rattle.marks.specs.Marks.{marks_order}
use Rattle.marks.proofs.theorems.MarksCheck.{marks-kept}
use Rattle.counting.specs.Labels.{Labels}
use Rattle.counting.specs.Kept.{kept}
use Rattle.pair_check.specs.PairOrder.{cells_needed, tables_order, work_order, pair_order, IsPair}
use Rattle.pair_check.specs.theorems.PairCheck.{tables_kept, pair_check}
use Rattle.tree_pairs.specs.Crossings.{cell_of, crossed, after_crossings}
use Rattle.splits.specs.declared.counts.SplitCounts.{SplitCounts}
use Rattle.splits.specs.SplitAnswer.{splits_among, split_answer}
use Rattle.quartets.specs.declared.tables.QuartetTable.{QuartetTable}
use Rattle.quartets.specs.QuartetAnswer.{cases_over, quartet_answer}
use Rattle.levels.specs.Levels.{is_visible, levels_order}
use Rattle.levels.specs.theorems.LevelsCheck.{AreLevels, levels_kept}
use Rattle.views.specs.View.{visible, view_order, view_over, refused_view, view_answer, after_view}
use Rattle.views.specs.lemmas.Marking.{marks_of}
use Rattle.views.proofs.lemmas.Marking.{kept-visible, levels_mark}
use Rattle.views.specs.lemmas.ViewOutcomes.{PairViewed, as_view}

-- ---- the answer, and the cells

module _ (t u : Table) (levels : List ℕ) (viewer : ℕ) (work : List ℕ) where
  refused : (k : ℕ) → refusal (view_order t u levels viewer (length work)) ≡ k → k ≢ 0 → (new : List ℕ) → new ≡ work
      → PairViewed t u levels viewer work (refused_view k) new
  unfolding view_answer after_view
  refused k e d new q = (
    ap refused_view (sym e) ∙ sym (if_refused _ _ _ (λ z. d (sym e ∙ z))),
    q ∙ sym (if_refused _ _ _ (λ z. d (sym e ∙ z))),
  )

  -- the pair is refused
  pub tables_away : (k : ℕ) → k ≡ refusal (tables_order t u) → k ≢ 0 → PairViewed t u levels viewer work (refused_view k) work
  tables_away k e d =
      refused k (unfold view_order in refusal-first (tables_order t u) _ (λ z. d (e ∙ z)) ∙ sym e) d work refl

  module _ (p : IsPair t u) where
    -- the levels are
    pub levels_away : (k : ℕ) → k ≡ refusal (levels_order levels viewer (tips t)) → k ≢ 0
        → PairViewed t u levels viewer work (refused_view k) work
    levels_away k e d = refused k (unfold view_order in
        refusal-kept (tables_order t u) _ ((tables_kept t u).1 p)
        ∙ refusal-first (levels_order levels viewer (tips t)) _ (λ z. d (e ∙ z)) ∙ sym e) d work refl

    module _ (a : AreLevels levels viewer (tips t)) (marks : List ℕ) (em : marks ≡ marks_of levels viewer (tips t)) where
      -- the calls with the marks that the levels are decide the rest
      same_number : (cells : ℕ) → refusal (pair_order t u marks cells) ≡ refusal (view_order t u levels viewer cells)
      unfolding pair_order view_order
      same_number cells =
          refusal-kept (tables_order t u) _ ((tables_kept t u).1 p)
          ∙ ap (λ (m : List ℕ). refusal (marks_order m (tips t) ++ work_order t u cells)) em
          ∙ refusal-kept (marks_order (marks_of levels viewer (tips t)) (tips t)) _
          ((marks-kept (marks_of levels viewer (tips t)) (tips t)).1 (levels_mark levels viewer (tips t) a.long))
          ∙ sym (refusal-kept (tables_order t u) _ ((tables_kept t u).1 p)
          ∙ refusal-kept (levels_order levels viewer (tips t)) _ ((levels_kept levels viewer (tips t)).1 a))

      seen : kept marks (tips t) ≡ visible levels viewer (tips t)
      seen = ap (λ (m : List ℕ). kept m (tips t)) em ∙ kept-visible levels viewer (tips t) a.long

      module _ (table : QuartetTable) (et : table ≡ quartet_answer t u marks (length work))
          (nt : table.refusal ≡ refusal (pair_order t u marks (length work)))
          (cells : List ℕ) (ec : cells ≡ after_crossings t u marks work) where
        -- there are too few cells
        pub room_away : table.refusal ≢ 0 → PairViewed t u levels viewer work (refused_view table.refusal) cells
        room_away d = refused table.refusal (sym (nt ∙ same_number (length work))) d cells
            (ec ∙ (unfold after_crossings in if_refused _ _ _ (λ z. d (nt ∙ z))))

        module _ (z : table.refusal ≡ 0) where
          number_0 : refusal (pair_order t u marks (length work)) ≡ 0
          number_0 = sym nt ∙ z

          room : cells_needed t u ≤ length work
          room = ((pair_check t u marks (length work)).0 number_0).with_cells.room

          crossed_once : cells ≡ crossed (kept marks (tips t)) t u work
          crossed_once = ec ∙ (unfold after_crossings in if_accepted_lem _ _ _ number_0)

          same_long : length cells ≡ length work
          same_long = ap (λ (x : List ℕ). length x) crossed_once ∙ (unfold crossed in
              in_front-length (cells_needed t u) (cell_of (kept marks (tips t)) t u) work room)

          -- the second call leaves the cells as they are
          pub accepted : (splits : SplitCounts) → splits ≡ split_answer t u marks (length cells)
              → (new : List ℕ) → new ≡ after_crossings t u marks cells
              → (v f s c d : ℕ) → v ≡ count (tips t) (is_visible levels viewer) → f ≡ splits.first → s ≡ splits.second
              → c ≡ splits.common → d ≡ splits.distance → PairViewed t u levels viewer work (as_view v table f s c d) new
          accepted splits es new en v f s c d ev ef es' ec' ed = (answer_is, cells_are)
            where
              l : Labels
              l = visible levels viewer (tips t)

              again : refusal (pair_order t u marks (length cells)) ≡ 0
              again = ap (λ (k : ℕ). refusal (pair_order t u marks k)) same_long ∙ number_0

              number-here : refusal (view_order t u levels viewer (length work)) ≡ 0
              number-here = sym (same_number (length work)) ∙ number_0

              table_is : table ≡ cases_over (visible levels viewer (tips t)) t u
              table_is = et ∙ counted ∙ ap (λ (m : Labels). cases_over m t u) seen
                where
                  counted : quartet_answer t u marks (length work) ≡ cases_over (kept marks (tips t)) t u
                  counted = unfold quartet_answer in if_accepted_lem _ _ _ number_0

              splits_are : splits ≡ splits_among (visible levels viewer (tips t)) t u
              splits_are = es ∙ counted ∙ ap (λ (m : Labels). splits_among m t u) seen
                where
                  counted : split_answer t u marks (length cells) ≡ splits_among (kept marks (tips t)) t u
                  counted = unfold split_answer in if_accepted_lem _ _ _ again

              told : view_answer t u levels viewer (length work) ≡ view_over (visible levels viewer (tips t)) t u
              told = unfold view_answer in if_accepted_lem _ _ _ number-here

              answer_is : as_view v table f s c d ≡ view_answer t u levels viewer (length work)
              answer_is =
                  ap (λ (x : QuartetTable). as_view v x f s c d) table_is
                  ∙ rw (
                    ev,
                    ef ∙ ap (λ (x : SplitCounts). x.first) splits_are,
                    es' ∙ ap (λ (x : SplitCounts). x.second) splits_are,
                    ec' ∙ ap (λ (x : SplitCounts). x.common) splits_are,
                    ed ∙ ap (λ (x : SplitCounts). x.distance) splits_are,
                  ) refl
                  ∙ sym told

              crossed-again : new ≡ crossed (kept marks (tips t)) t u cells
              crossed-again = en ∙ (unfold after_crossings in if_accepted_lem _ _ _ again)

              no_change : crossed (kept marks (tips t)) t u (crossed (kept marks (tips t)) t u work)
                  ≡ crossed (kept marks (tips t)) t u work
              no_change = unfold crossed in in_front_again (cells_needed t u) (cell_of (kept marks (tips t)) t u) work room

              after : after_view t u levels viewer work ≡ crossed (visible levels viewer (tips t)) t u work
              after = unfold after_view in if_accepted_lem _ _ work number-here

              cells_are : new ≡ after_view t u levels viewer work
              cells_are =
                  crossed-again
                  ∙ ap (crossed (kept marks (tips t)) t u) crossed_once
                  ∙ no_change
                  ∙ ap (λ (m : Labels). crossed m t u work) seen
                  ∙ sym after
