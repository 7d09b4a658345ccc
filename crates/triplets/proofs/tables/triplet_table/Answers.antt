-- The crossings, then the counts over the two trees' parents.
-- Assumes nothing.
use mathlib.Core.Path.{◌≡◌, sym, ◌∙◌}
use Prim.Native.Nat.{◌+◌, ◌<◌}
use native.Mathlib.Omega.{arith}
use lib.ListN.{length}
use Rattle.table_words.specs.Sizes.{nodes_most}
use Rattle.tree_check.specs.Table.{tips, nodes}
use Rattle.pair_check.specs.PairOrder.{PairWithCells}
use Rattle.pair_check.specs.lemmas.PairOutcomes.{cells_says, cells_told, edges_some}
use Rattle.tree_pairs.proofs.lemmas.LentTables.{nodes_are, lent_words}
use Rattle.triplets.proofs.lemmas.TripletsCounted.{triplets_refused}
use Rattle.triplets.proofs.lemmas.LentTriplets.{lent_countable, lent_triplets}
use Rattle.triplets.proofs.tables.triplet_table.Goals.{In-Ok}
use Rattle.triplets.proofs.tables.triplet_table.Goals as goal

-- ---- what is asked there

-- a pair with cells enough, with n and the edges of both trees as told
record Told (c : In-Ok) : Type 0 where
  pair : PairWithCells c.args.first.now c.args.second.now (length c.args.work.now)
  n_is : c.in-Ok.pair.tips ≡ tips c.args.first.now
  m_is : c.in-Ok.pair.rows + 1 ≡ nodes c.args.first.now
  k_is : c.in-Ok.pair.columns + 1 ≡ nodes c.args.second.now

told : (c : In-Ok) → Told c
told c =
    let p = cells_says _ _ _ _ (sym c.cross_all-answer.ensures.0 ∙ c.in-Ok.is) in
    let q = nodes_are _ _ _ p.0 _ _ p.1.rows p.1.columns in
    record { pair = p.0; n_is = p.1.tips; m_is = q.0; k_is = q.1 }

-- each has at most `nodes_most` nodes, and its parents among its words
few : (c : In-Ok)
    → (c.in-Ok.pair.rows < nodes_most) × (c.in-Ok.pair.columns < nodes_most)
few c =
    let t = told c in (
      omega (arith, t.m_is, edges_some _ t.pair.pair.first),
      omega (arith, t.k_is, edges_some _ t.pair.pair.second),
    )

pub returns-in_default : goal.returns-in_default
returns-in_default c =
    let x = c.cross_all-answer.ensures in
    let h = cells_told _ _ _ _ _ _ x.0 c.in_default.is c.refusal_of.ensures in
    (triplets_refused _ _ _ _ h.0 h.1, x.2)

pub overflow_add-m : goal.overflow_add-m
overflow_add-m c = omega (arith, few (goal.at.overflow_add-m c).In-Ok)

pub overflow_add-k : goal.overflow_add-k
overflow_add-k c = omega (arith, few (goal.at.overflow_add-k c).In-Ok)

pub overflow_add-m-2 : goal.overflow_add-m-2
overflow_add-m-2 c = omega (arith, few (goal.at.overflow_add-m-2 c).In-Ok)

pub slice_bounds-count_triplets-end : goal.slice_bounds-count_triplets-end
slice_bounds-count_triplets-end c = let t = told (goal.at.slice_bounds-count_triplets-end c).In-Ok in (lent_words _ _ _ t.pair _ _ t.m_is t.k_is).0

pub overflow_add-k-2 : goal.overflow_add-k-2
overflow_add-k-2 c = omega (arith, few (goal.at.overflow_add-k-2 c).In-Ok)

pub slice_bounds-count_triplets-end-2 : goal.slice_bounds-count_triplets-end-2
slice_bounds-count_triplets-end-2 c = let t = told (goal.at.slice_bounds-count_triplets-end-2 c).In-Ok in (lent_words _ _ _ t.pair _ _ t.m_is t.k_is).1

pub count_triplets-requires : goal.count_triplets-requires
count_triplets-requires c =
    let t = told (goal.at.count_triplets-requires c).In-Ok in
    lent_countable _ _ _ _ t.pair c.cross_all-answer.ensures.2
    _ _ _ t.n_is t.m_is t.k_is

pub returns : goal.returns
returns c =
    let t = told (goal.at.returns c).In-Ok in
    let x = c.cross_all-answer.ensures.2 in (
      lent_triplets _ _ _ _ t.pair x _ _ _ t.n_is t.m_is t.k_is _
          c.count_triplets.ensures,
      x,
    )
