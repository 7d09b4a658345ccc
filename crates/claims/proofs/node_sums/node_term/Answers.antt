-- What is known where the search needs a hint.
-- Assumes nothing.
use mathlib.Core.Path.{◌≡◌, ◌∙◌}
use Prim.Native.Nat.{◌<◌}
use native.Mathlib.Omega.{arith}
use Rattle.tree_check.specs.Table.{word}
use Rattle.claims.specs.lemmas.Prefix.{prefix_read, prefix_read-all}
use Rattle.claims.specs.lemmas.SizeTerms.{sizes_line, line_whole, no_terms}
use Rattle.claims.specs.lemmas.SizeTerms.{size_low, next_term, node_is}
use Rattle.claims.proofs.node_sums.node_term.Goals.{After-from-s, After-loop-size}
use Rattle.claims.proofs.node_sums.node_term.Goals as goal

-- all sizes are read
all_read : (c : After-loop-size) → c.loop-size.size-index ≡ c.args.codes
all_read c = prefix_read-all _ _ _ c.requires.inside c.loop-size.auto.size-index-end c.loop-size-test.false

-- the size that is read
read : (c : After-from-s)
    → (c.loop-size.size-index < c.args.codes)
    × (c.from-s.result ≡ word c.args.sizes.now c.loop-size.size-index)
read c =
    let r = prefix_read _ _ _ c.requires.inside c.loop-size-test.true in
    (r.0, c.from-s.ensures ∙ r.1)

pub line_sum-whole-requires : goal.line_sum-whole-requires
line_sum-whole-requires c = sizes_line _ _ c.requires

pub line_squares-squares-requires : goal.line_squares-squares-requires
line_squares-squares-requires c = sizes_line _ _ c.requires

pub loop-size-init : goal.loop-size-init
loop-size-init c = no_terms _ _

pub pairs_of-p-requires : goal.pairs_of-p-requires
pairs_of-p-requires c = let r = read c in omega (arith, r.1, size_low _ _ c.requires _ r.0)

pub overflow_sub-whole : goal.overflow_sub-whole
overflow_sub-whole c =
    let r = read (goal.at.overflow_sub-whole c).After-from-s in
    omega (
      arith,
      r.1,
      line_whole c.args.sizes.now c.args.codes _ c.line_sum-whole.ensures,
      size_low _ _ c.requires _ r.0,
    )

pub size_term-plus-requires : goal.size_term-plus-requires
size_term-plus-requires c =
    let r = read (goal.at.size_term-plus-requires c).After-from-s in
    let q = size_low _ _ c.requires _ r.0 in
    let e = line_whole c.args.sizes.now c.args.codes _ c.line_sum-whole.ensures in
    (omega (arith, r.1, q), omega (arith, e, q), c.pairs_of-p.ensures.0)

pub overflow_add-plus : goal.overflow_add-plus
overflow_add-plus c =
    let r = read (goal.at.overflow_add-plus c).After-from-s in
    omega (arith, c.loop-size.invariant.plus_most, r.0, c.requires.few, c.size_term-plus.ensures.1)

pub overflow_add-pairs : goal.overflow_add-pairs
overflow_add-pairs c =
    let r = read (goal.at.overflow_add-pairs c).After-from-s in
    omega (arith, c.loop-size.invariant.pairs_few, r.0, c.requires.few, c.pairs_of-p.ensures.1)

pub loop-size-preserved : goal.loop-size-preserved
loop-size-preserved c =
    let r = read (goal.at.loop-size-preserved c).After-from-s in
    next_term _ _ c.requires _ r.0 _ _ c.line_sum-whole.result c.from-s.result _ _
    c.loop-size.invariant
    (line_whole c.args.sizes.now c.args.codes _ c.line_sum-whole.ensures)
    r.1
    c.pairs_of-p.ensures.0 c.size_term-plus.ensures.0 c.size_term-plus.ensures.1 c.pairs_of-p.ensures.1

pub overflow_mul-result : goal.overflow_mul-result
overflow_mul-result c =
    let a = all_read c in
    omega (
      arith,
      node_is c.args.sizes.now c.args.codes _ _ _ _ c.loop-size.invariant (omega (arith, a))
          (omega (arith, a)) c.line_squares-squares.ensures,
      c.requires.few,
    )

pub overflow_sub-result : goal.overflow_sub-result
overflow_sub-result c =
    let a = all_read (goal.at.overflow_sub-result c).After-loop-size in
    omega (
      arith,
      node_is c.args.sizes.now c.args.codes _ _ _ _ c.loop-size.invariant (omega (arith, a))
          (omega (arith, a)) c.line_squares-squares.ensures,
      c.requires.few,
    )

pub returns : goal.returns
returns c =
    let a = all_read (goal.at.returns c).After-loop-size in
    omega (
      arith,
      node_is c.args.sizes.now c.args.codes _ _ _ _ c.loop-size.invariant (omega (arith, a))
          (omega (arith, a)) c.line_squares-squares.ensures,
      c.requires.few,
    )
