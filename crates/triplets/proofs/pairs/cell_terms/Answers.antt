-- The four cells, and the terms of them.
-- Assumes nothing.
use mathlib.Core.Path.{◌≡◌, ◌∙◌}
use Prim.Native.Nat.{◌+◌}
use Rattle.tree_check.specs.Table.{word}
use Rattle.triplets.specs.lemmas.PairCells.{Nested}
use Rattle.triplets.proofs.lemmas.ListedRows.{nested_read, nested_parts, alike_read, apart_read}
use Rattle.triplets.proofs.pairs.cell_terms.Goals.{After-cell_count-w}
use Rattle.triplets.proofs.pairs.cell_terms.Goals as goal

-- ---- the cells

i-is : (c : After-cell_count-w)
    → (let s = c.args in c.cell_count-i.result ≡ word s.work.now (s.base + s.l))
i-is c = c.cell_count-i.ensures.0

r-is : (c : After-cell_count-w)
    → (let s = c.args in c.cell_count-r.result ≡ word s.work.now (s.base + s.p))
r-is c = c.cell_count-r.ensures.0

c-is : (c : After-cell_count-w)
    → (let s = c.args in c.cell_count-c.result ≡ word s.work.now (s.up + s.l))
c-is c = c.cell_count-c.ensures.0

-- ---- the needs

nested : (c : After-cell_count-w)
    → Nested c.cell_count-i.result
    c.cell_count-r.result c.cell_count-c.result
    c.cell_count-w.result
nested c = nested_read _ _ _ _ _ _ _ _ (i-is c) (r-is c) (c-is c) c.cell_count-w.ensures.0 c.requires.nested

pub alike_term-requires : goal.alike_term-requires
alike_term-requires c = nested c

pub apart_term-requires : goal.apart_term-requires
apart_term-requires c = nested_parts _ _ _ _ (nested (goal.at.apart_term-requires c).After-cell_count-w)

pub returns : goal.returns
returns c = (
  c.alike_term.ensures
      ∙ alike_read _ _ _ _ _ _ _ _ (i-is (goal.at.returns c).After-cell_count-w) (r-is (goal.at.returns c).After-cell_count-w) (c-is (goal.at.returns c).After-cell_count-w) c.cell_count-w.ensures.0,
  c.apart_term.ensures ∙ apart_read _ _ _ _ _ _ (i-is (goal.at.returns c).After-cell_count-w) (r-is (goal.at.returns c).After-cell_count-w) (c-is (goal.at.returns c).After-cell_count-w),
)
