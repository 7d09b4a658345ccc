-- Each call finds what those before it left.
-- Assumes nothing.
use mathlib.Core.Path.{◌≡◌, ◌∙◌}
use Prim.Native.Nat.{ℕ, ◌≤◌}
use native.Mathlib.Omega.{arith}
use lib.ListN.{length, replicate, length-replicate, get_or-replicate}
use Rattle.table_words.specs.Sizes.{node_room}
use Rattle.canonical_copy.proofs.lemmas.RootedCopy.{parents_are, some-nodes, bits_small, count_few, too_short, chainable, ranks_ready, writable, copied_into}
use Rattle.canonical_copy.proofs.copies.rooted_copy.Goals.{After-from-count}
use Rattle.canonical_copy.proofs.copies.rooted_copy.Goals as goal

-- ---- what is known there

few : (c : After-from-count) → c.from-count.result ≤ node_room
few c = count_few _ _ _ _ c.requires _ c.node_ranks-at.ensures _ c.lower.ensures _ _ c.branch_counts-branches.ensures
    c.stay_bits-bits.ensures _ c.add_sizes.ensures _ c.from-count.ensures

pub node_ranks-at-requires : goal.node_ranks-at-requires
node_ranks-at-requires c = omega (arith, some-nodes _ _ _ _ c.requires)

pub lower-requires : goal.lower-requires
lower-requires c = (parents_are _ _ _ _ c.requires, c.node_ranks-at.ensures.long)

pub branch_counts-branches-requires : goal.branch_counts-branches-requires
branch_counts-branches-requires c = parents_are _ _ _ _ c.requires

pub stay_bits-bits-requires : goal.stay_bits-bits-requires
stay_bits-bits-requires c = omega (arith, some-nodes _ _ _ _ c.requires)

pub add_sizes-requires : goal.add_sizes-requires
add_sizes-requires c =
    let y = c.requires in (
      parents_are _ _ _ _ y,
      bits_small _ _ _ _ y _ c.node_ranks-at.ensures _ c.lower.ensures _ _ c.branch_counts-branches.ensures
          c.stay_bits-bits.ensures,
    )

pub overflow_mul-count : goal.overflow_mul-count
overflow_mul-count c = omega (arith, few c)

pub overflow_add-count : goal.overflow_add-count
overflow_add-count c = omega (arith, few c)

pub returns-then-copy-count : goal.returns-then-copy-count
returns-then-copy-count c =
    record {
      into = λ y. too_short _ _ _ _ y _ c.node_ranks-at.ensures _ c.lower.ensures _ _ c.branch_counts-branches.ensures
          c.stay_bits-bits.ensures _ c.add_sizes.ensures _ c.from-count.ensures _ (omega (arith, c.if-copy-count.true));
    }

pub chain-requires : goal.chain-requires
chain-requires c =
    let y = c.requires in
    let e : c.as_word-heads.result ≡ length c.args.parents.now = omega (arith, c.as_word-heads.ensures, some-nodes _ _ _ _ y) in
    chainable _ _ _ _ y _ c.node_ranks-at.ensures _ c.lower.ensures _ _ c.branch_counts-branches.ensures
    c.stay_bits-bits.ensures _ c.add_sizes.ensures _ c.from-count.ensures
    (replicate node_room c.as_word-heads.result) (replicate node_room 0) (length-replicate {A = ℕ} node_room c.as_word-heads.result) (length-replicate {A = ℕ} node_room 0)
    (λ x l. get_or-replicate {A = ℕ} node_room x c.as_word-heads.result 0 l ∙ e)

pub numbers-news-requires : goal.numbers-news-requires
numbers-news-requires c =
    ranks_ready _ _ _ _ c.requires _ c.node_ranks-at.ensures _ c.lower.ensures _ _ c.branch_counts-branches.ensures
    c.stay_bits-bits.ensures _ c.add_sizes.ensures _ c.from-count.ensures
    _ _ c.chain.ensures _ c.from.ensures

pub parent_numbers-above-requires : goal.parent_numbers-above-requires
parent_numbers-above-requires c = parents_are _ _ _ _ c.requires

pub write_words-requires : goal.write_words-requires
write_words-requires c =
    writable _ _ _ _ c.requires _ c.node_ranks-at.ensures _ c.lower.ensures _ _ c.branch_counts-branches.ensures
    c.stay_bits-bits.ensures _ c.add_sizes.ensures _ c.from-count.ensures
    _ _ c.chain.ensures _ c.from.ensures _ _ c.numbers-news.ensures
    c.parent_numbers-above.ensures _ (omega (arith, c.if-copy-count.false))

pub overflow_mul-result : goal.overflow_mul-result
overflow_mul-result c = omega (arith, few (goal.at.overflow_mul-result c).After-from-count)

pub overflow_add-result : goal.overflow_add-result
overflow_add-result c = omega (arith, few (goal.at.overflow_add-result c).After-from-count)

pub returns : goal.returns
returns c =
    record {
      into = λ y. copied_into _ _ _ _ y _ c.node_ranks-at.ensures _ c.lower.ensures _ _ c.branch_counts-branches.ensures
          c.stay_bits-bits.ensures _ c.add_sizes.ensures _ c.from-count.ensures
          _ _ c.chain.ensures _ c.from.ensures _ _ c.numbers-news.ensures
          c.parent_numbers-above.ensures _ _ (omega (arith, c.if-copy-count.false)) c.write_words.ensures _ (omega arith);
    }
