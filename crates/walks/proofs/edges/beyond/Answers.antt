-- The part from the place that was told.
-- Assumes nothing.
use Rattle.std.proofs.Common.{ℕ, ◌+◌, ap, ◌∙◌, arith}
use Rattle.walks.specs.declared.edges.PartBeyond.{PartBeyond}
use Rattle.walks.specs.lemmas.WalkOutcomes.{place_fits, part_cut}
use Rattle.walks.proofs.edges.beyond.Goals as goal

-- ---- the needs

pub slice_bounds-result-end : goal.slice_bounds-result-end
slice_bounds-result-end c =
    omega (
      arith,
      c.from.ensures,
      c.from-from.ensures,
      place_fits c.args.table.now c.args.edge c.args.walk.now _ c.part_beyond-part.ensures,
    )

pub returns : goal.returns
returns c =
    let p = c.part_beyond-part in
    let from = c.from-from.ensures in
    let start = from ∙ ap (λ (x : PartBeyond). x.start) p.ensures in (
      part_cut _ _ _ _ p.ensures _ _ from
          (ap (λ (x : ℕ). c.from-from.result + x) c.from.ensures),
      ap (λ (o : ℕ). (c.args.walk.ref_ptr.0, o)) (omega (arith, start)),
    )
