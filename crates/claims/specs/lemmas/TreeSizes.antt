-- What the nodes of a tree add to twice S, node after node.
-- Assumes nothing.
use Rattle.std.specs.Prelude.{◌≡◌, List, ℕ, zero, suc, ◌+◌, ◌*◌, ◌-◌, ◌≤◌, ◌<◌, length}
use Rattle.std.proofs.Math.Path.{refl, ap}
use Rattle.std.proofs.Common.{◌∙◌, add-one, arith}
use Rattle.table_words.specs.Sizes.{tips_most}
use Rattle.sums.specs.Sum.{sum}
use Rattle.sums.specs.theorems.SumLaws.{sum-suc, sum_ext, sum-part}
use Rattle.tree_check.specs.Table.{word}
use Rattle.claims.specs.lemmas.NodeCodes.{CodeLists, node_part, part_length, part_edge, edge_inside}
use Rattle.code_lists.specs.ListedCodes.{degree_at}
use Rattle.claims.specs.lemmas.CodeSizes.{code_size, SizeCell, SizesRoom}
use Rattle.claims.specs.lemmas.NodeBlock.{BlockWritten}
use Rattle.claims.specs.lemmas.SizeTerms.{SizesFew}
use Rattle.claims.specs.lemmas.SumsByNode.{edge_into, sizes_apart, node_sum, sizes_apart_ext}

-- ---- one node

-- the edges of the codes into a node, and room for the sizes
pub record NodeSizes (work : List ℕ) (step n : ℕ) (edges : List ℕ) (size : ℕ) : Type 0 where
  pub few : length edges ≤ tips_most
  pub inside : tips_most ≤ size
  pub cell : (i : ℕ) → i < length edges → SizeCell work n (word edges i * step)
  pub whole : 3 ≤ length edges → sum (length edges) (code_size work step n (word edges)) ≤ tips_most

pub sizes_room : (work : List ℕ) (step n : ℕ) (edges : List ℕ) (size : ℕ) → NodeSizes work step n edges size
    → 3 ≤ length edges → SizesRoom work step n edges size
sizes_room work step n edges size h l = record {
  some = omega arith;
  few = h.few;
  inside = omega (arith, h.few, h.inside);
  cell = h.cell;
}

-- the sizes as they are written in front of `new`
module _ (work : List ℕ) (step n : ℕ) (edges old new : List ℕ)
    (w : BlockWritten old new 0 (length edges) (code_size work step n (word edges))) where
  written-size : (i : ℕ) → i < length edges → word new i ≡ code_size work step n (word edges) i
  written-size i l = ap (word new) (front i) ∙ w.cell i l
    where
      front : (i : ℕ) → i ≡ 0 + i
      front i = omega arith

  pub written-sum : (r : ℕ) → r ≡ sizes_apart (length edges) (word new)
      → r ≡ sizes_apart (length edges) (code_size work step n (word edges))
  written-sum r e = e ∙ sizes_apart_ext (length edges) _ _ written-size

  pub written_few : NodeSizes work step n edges (length old) → 3 ≤ length edges → SizesFew new (length edges)
  written_few h l = record {
    inside = omega (arith, h.few, h.inside, w.long);
    few = h.few;
    whole = rw (sum_ext (length edges) _ _ written-size) (h.whole l);
  }

-- ---- all nodes

pub record TreeSizes (work : List ℕ) (step n : ℕ) (ps starts edges : List ℕ) (size : ℕ) : Type 0 where
  pub lists : CodeLists ps starts edges
  pub room : tips_most ≤ size
  pub few : (v : ℕ) → v < length ps → degree_at ps v ≤ tips_most
  pub cell : (r : ℕ) → r < length ps - 1 → SizeCell work n (r * step)
  pub whole : (v : ℕ) → v < length ps → 3 ≤ degree_at ps v
      → sum (degree_at ps v) (code_size work step n (edge_into ps v)) ≤ tips_most
  pub all : sum (length ps) (node_sum work step n ps) ≤ 699170560

size_same : (work : List ℕ) (step n : ℕ) (r s : ℕ → ℕ) (i : ℕ) → r i ≡ s i
    → code_size work step n r i ≡ code_size work step n s i
unfolding code_size
size_same work step n r s zero e = rw e refl
size_same work step n r s (suc i) e = rw e refl

module _ (work : List ℕ) (step n : ℕ) (ps starts edges : List ℕ) (size : ℕ)
    (h : TreeSizes work step n ps starts edges size) where
  pub no_node : 0 ≡ sum 0 (node_sum work step n ps)
  unfolding sum
  no_node = refl

  module _ (v : ℕ) (l : v < length ps) where
    part : List ℕ
    part = node_part starts edges v

    same_sizes : (i : ℕ) → i < degree_at ps v
        → code_size work step n (word part) i ≡ code_size work step n (edge_into ps v) i
    unfolding part
    same_sizes i m = size_same work step n _ _ i (part_edge ps starts edges h.lists v l i m)

    pub node_sizes : NodeSizes work step n (node_part starts edges v) size
    unfolding part
    node_sizes = let e = part_length ps starts edges h.lists v l in record {
      few = omega (arith, e, h.few v l);
      inside = h.room;
      cell = λ i m. rw (part_edge ps starts edges h.lists v l i (omega arith))
          (h.cell (edge_into ps v i) (edge_inside ps starts edges h.lists v l i (omega arith)));
      whole = λ m. rw (e, sum_ext (degree_at ps v) _ _ same_sizes) (h.whole v l (omega arith));
    }

    node_sum_is : (r : ℕ)
        → r ≡ sizes_apart (length (node_part starts edges v)) (code_size work step n (word (node_part starts edges v)))
        → r ≡ node_sum work step n ps v
    unfolding node_sum part
    node_sum_is r e =
        e
        ∙ ap (λ (d : ℕ). sizes_apart d (code_size work step n (word (node_part starts edges v))))
        (part_length ps starts edges h.lists v l)
        ∙ sizes_apart_ext (degree_at ps v) _ _ same_sizes

    -- one more node
    pub next_node : (total r : ℕ) → total ≡ sum v (node_sum work step n ps)
        → r ≡ sizes_apart (length (node_part starts edges v)) (code_size work step n (word (node_part starts edges v)))
        → (total + r ≡ sum (v + 1) (node_sum work step n ps)) × (total + r ≤ 699170560)
    next_node total r e k =
        let q : total + r ≡ sum (v + 1) (node_sum work step n ps) =
        omega (
          arith,
          ap (λ (m : ℕ). sum m (node_sum work step n ps)) (add-one v),
          sum-suc v (node_sum work step n ps),
          node_sum_is r k,
        ) in
        (q, omega (arith, q, sum-part (v + 1) (length ps) (node_sum work step n ps) (omega arith), h.all))
