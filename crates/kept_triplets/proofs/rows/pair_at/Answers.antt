-- Both parts of two differences.
-- Assumes nothing.
use mathlib.Core.Path.{◌∙◌, ap, ap₂}
use Prim.Native.Nat.{ℕ, ◌-◌, ◌≤◌}
use Rattle.kept_triplets.specs.lemmas.Terms.{alike_read, apart_read}
use Rattle.kept_triplets.specs.lemmas.Rows.{low_part, high, parts_few}
use Rattle.kept_triplets.proofs.rows.pair_at.Goals.{After-cell}
use Rattle.kept_triplets.proofs.rows.pair_at.Goals as goal

-- ---- what is known there

read : (c : After-cell) → let x = c.cell-own.result in let y = c.cell.result in
    (x ≤ y) × ((low_part x ≤ 256) × (high x ≤ 256)) × ((low_part (y - x) ≤ 256) × (high (y - x) ≤ 256))
read c = let f = c.requires in parts_few _ _ _ _ c.cell-own.ensures c.cell.ensures f.inside f.few f.few_rest

pub overflow_sub-rest : goal.overflow_sub-rest
overflow_sub-rest c = (read c).0

pub alike_term-requires : goal.alike_term-requires
alike_term-requires c = let r = read c in (r.1.0, r.2.1)

pub apart_term-requires : goal.apart_term-requires
apart_term-requires c = let r = read (goal.at.apart_term-requires c).After-cell in (r.1.0, r.2.0, r.1.1)

pub returns : goal.returns
returns c =
    let a = c.cell-own.ensures in
    let b = c.cell.ensures in (
      c.alike_term.ensures ∙ alike_read _ _ _ _ (ap low_part a) (ap₂ (λ (x y : ℕ). high (y - x)) a b),
      c.apart_term.ensures ∙ apart_read _ _ _ _ _ _ (ap low_part a) (ap₂ (λ (x y : ℕ). low_part (y - x)) a b) (ap high a),
    )
