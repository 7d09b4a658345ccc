-- The crossings, then the sums over the two trees' parents.
-- Assumes nothing.
use mathlib.Core.Path.{◌≡◌, sym, ◌∙◌}
use Prim.Native.Nat.{◌+◌, ◌<◌}
use native.Mathlib.Omega.{arith}
use lib.ListN.{length}
use Rattle.table_words.specs.Sizes.{nodes_most}
use Rattle.tree_check.specs.Table.{tips, nodes}
use Rattle.marks.specs.Marks.{kept_of}
use Rattle.pair_check.specs.PairOrder.{MarkedPair}
use Rattle.pair_check.specs.lemmas.PairOutcomes.{work_says, work_told, edges_some}
use Rattle.tree_pairs.proofs.lemmas.LentTables.{nodes_are, lent_words}
use Rattle.claims.specs.lemmas.LentSums.{lent_summable, lent_claims}
use Rattle.claims.specs.lemmas.SumsOf.{claims_refused}
use Rattle.claims.proofs.totals.claim_sums.Goals.{In-Ok}
use Rattle.claims.proofs.totals.claim_sums.Goals as goal

-- ---- what is asked there

-- a pair with marks and cells enough, with n, how many labels are kept and the edges of both trees as told
record Told (c : In-Ok) : Type 0 where
  pair : MarkedPair c.args.first.now c.args.second.now c.args.marks.now
      (length c.args.work.now)
  n_is : c.in-Ok.pair.tips ≡ tips c.args.first.now
  kept_is : c.in-Ok.pair.counted ≡ kept_of c.args.marks.now (tips c.args.first.now)
  m_is : c.in-Ok.pair.rows + 1 ≡ nodes c.args.first.now
  k_is : c.in-Ok.pair.columns + 1 ≡ nodes c.args.second.now

told : (c : In-Ok) → Told c
told c =
    let p = work_says _ _ _ _ _ (sym c.cross_pair-answer.ensures.0 ∙ c.in-Ok.is) in
    let q = nodes_are _ _ _ p.0.with_cells _ _ p.1.rows p.1.columns in
    record { pair = p.0; n_is = p.1.tips; kept_is = p.1.counted; m_is = q.0; k_is = q.1 }

-- each has at most `nodes_most` nodes, and its parents among its words
few : (c : In-Ok)
    → (c.in-Ok.pair.rows < nodes_most) × (c.in-Ok.pair.columns < nodes_most)
few c =
    let t = told c in (
      omega (arith, t.m_is, edges_some _ t.pair.with_cells.pair.first),
      omega (arith, t.k_is, edges_some _ t.pair.with_cells.pair.second),
    )

pub returns-in_default : goal.returns-in_default
returns-in_default c =
    let x = c.cross_pair-answer.ensures in
    let h = work_told _ _ _ _ _ _ _ x.0 c.in_default.is c.refusal_of.ensures in
    (claims_refused _ _ _ _ _ h.0 h.1, x.2)

pub overflow_add-m : goal.overflow_add-m
overflow_add-m c = omega (arith, few (goal.at.overflow_add-m c).In-Ok)

pub overflow_add-k : goal.overflow_add-k
overflow_add-k c = omega (arith, few (goal.at.overflow_add-k c).In-Ok)

pub overflow_add-m-2 : goal.overflow_add-m-2
overflow_add-m-2 c = omega (arith, few (goal.at.overflow_add-m-2 c).In-Ok)

pub slice_bounds-sums_of-end : goal.slice_bounds-sums_of-end
slice_bounds-sums_of-end c = let t = told (goal.at.slice_bounds-sums_of-end c).In-Ok in (lent_words _ _ _ t.pair.with_cells _ _ t.m_is t.k_is).0

pub overflow_add-k-2 : goal.overflow_add-k-2
overflow_add-k-2 c = omega (arith, few (goal.at.overflow_add-k-2 c).In-Ok)

pub slice_bounds-sums_of-end-2 : goal.slice_bounds-sums_of-end-2
slice_bounds-sums_of-end-2 c = let t = told (goal.at.slice_bounds-sums_of-end-2 c).In-Ok in (lent_words _ _ _ t.pair.with_cells _ _ t.m_is t.k_is).1

pub sums_of-requires : goal.sums_of-requires
sums_of-requires c =
    let t = told (goal.at.sums_of-requires c).In-Ok in
    lent_summable _ _ _ _ _ t.pair c.cross_pair-answer.ensures.2
    _ _ _ _ t.kept_is t.n_is t.m_is t.k_is

pub returns : goal.returns
returns c =
    let t = told (goal.at.returns c).In-Ok in
    let x = c.cross_pair-answer.ensures.2 in
    (lent_claims _ _ _ _ _ t.pair x _ _ _ _ t.kept_is t.n_is t.m_is t.k_is _ c.sums_of.ensures, x)
