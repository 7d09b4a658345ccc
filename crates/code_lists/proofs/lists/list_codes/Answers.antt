-- The codes counted, the counts added up, and the edges placed; or nothing.
-- Assumes nothing.
use mathlib.Core.Path.{sym, ◌∙◌}
use Rattle.code_lists.specs.lemmas.Listed.{Fit, fit_says, start-cells, starts_stay, edge-cells, edges_stay}
use Rattle.code_lists.proofs.lists.list_codes.Goals.{Else-not-codes_fit}
use Rattle.code_lists.proofs.lists.list_codes.Goals as goal

-- past the test, parents and cells are fit
fits : (c : Else-not-codes_fit)
    → (let a = c.args in Fit a.parents.now a.starts.now a.edges.now)
fits c = fit_says _ _ _ (sym c.codes_fit.ensures ∙ c.if-not-codes_fit.false)

pub returns-then-not-codes_fit : goal.returns-then-not-codes_fit
returns-then-not-codes_fit c =
    let e = sym c.codes_fit.ensures ∙ c.if-not-codes_fit.true in
    (starts_stay _ _ _ e, edges_stay _ _ _ e)

pub code_counts-next-requires : goal.code_counts-next-requires
code_counts-next-requires c = (fits c).parents

pub code_starts-requires : goal.code_starts-requires
code_starts-requires c =
    let f = fits (goal.at.code_starts-requires c).Else-not-codes_fit in
    record { parents = (f.parents, c.code_counts-next.ensures); room = f.starts_room }

pub edge_list-requires : goal.edge_list-requires
edge_list-requires c =
    let f = fits (goal.at.edge_list-requires c).Else-not-codes_fit in
    record { parents = (f.parents, c.code_starts.ensures.places); room = f.edges_room }

pub returns : goal.returns
returns c =
    let f = fits (goal.at.returns c).Else-not-codes_fit in
    (start-cells _ _ _ f _ _ c.code_starts.ensures, edge-cells _ _ _ f _ c.edge_list.ensures)
