-- What pairs of nodes add to twice S2 and to S3, summed row by row.
-- Assumes nothing.
use Rattle.std.specs.Prelude.{◌≡◌, refl, List, ℕ, zero, suc, ◌+◌, ◌*◌, ◌-◌, ◌≤◌, ◌<◌, length}
use Rattle.std.proofs.Common.{◌∙◌, inl, inr, arith}
use Rattle.std.proofs.Math.Path.{ap}
use Rattle.table_words.specs.Sizes.{tips_most}
use Rattle.sums.specs.Sum.{sum}
use Rattle.sums.specs.theorems.SumLaws.{sum_next, sum_ext, sum_cong, sum_none, sum-ge, sum-part}
use Rattle.sums.specs.theorems.Products.{product_le}
use Rattle.node_pairs.specs.theorems.Cells.{pair_s2, pair_s3}
use Rattle.node_pairs.specs.theorems.CellTotals.{pair_s2_few, pair_s3_few}
use Rattle.node_pairs.specs.theorems.CellsAlike.{pair_s2_ext, pair_s3_ext}
use Rattle.tree_check.specs.Table.{word}
use Rattle.claims.specs.lemmas.Block.{Block, block_cell}
use Rattle.claims.specs.lemmas.CodeCells.{Crossed, code_cell, own_cell, child_cell}
use Rattle.claims.specs.lemmas.NodeCodes.{CodeLists, node_part, part_length, part_edge, edge_inside}
use Rattle.code_lists.specs.ListedCodes.{degree_at}
use Rattle.code_lists.specs.lemmas.InnerNodes.{InnerNodes}
use Rattle.claims.specs.lemmas.NodeBlock.{NodeEdges, RowsFilled}
use Rattle.claims.specs.lemmas.SumsByNode.{edge_into, pair_sum_s2, pair_sum_s3}

-- ---- two sums in step

-- the first i terms of each of two sums
pub record TermsSummed (f g : ℕ → ℕ) (i s2 s3 : ℕ) : Type 0 where
  pub s2_is : s2 ≡ sum i f
  pub s3_is : s3 ≡ sum i g

pub summed_none : (f g : ℕ → ℕ) → TermsSummed f g 0 0 0
unfolding sum
summed_none f g = record { s2_is = refl; s3_is = refl }

module _ (f g : ℕ → ℕ) (i s2 s3 : ℕ) (h : TermsSummed f g i s2 s3) where
  pub summed_next : (a b : ℕ) → a ≡ f i → b ≡ g i → TermsSummed f g (i + 1) (s2 + a) (s3 + b)
  summed_next a b ea eb = record {
    s2_is = omega (arith, h.s2_is, ea, sum_next i f);
    s3_is = omega (arith, h.s3_is, eb, sum_next i g);
  }

  -- a part is no more than the whole
  pub summed_most : (k most : ℕ) → i ≤ k → sum k f ≤ most → sum k g ≤ most → (s2 ≤ most) × (s3 ≤ most)
  summed_most k most l bf bg = (
    omega (arith, h.s2_is, sum-part i k f l),
    omega (arith, h.s3_is, sum-part i k g l),
  )

  pub summed-all : (k : ℕ) → i ≤ k → k ≤ i → (s2 ≡ sum k f) × (s3 ≡ sum k g)
  summed-all k l m =
      let e : i ≡ k = omega arith in
      (h.s2_is ∙ ap (λ (j : ℕ). sum j f) e, h.s3_is ∙ ap (λ (j : ℕ). sum j g) e)

-- ---- one pair

-- two nodes with three codes or more into each, and room for their block
pub record NodePair (work : List ℕ) (w n : ℕ) (rows columns : List ℕ) (size : ℕ) : Type 0 where
  pub edges : NodeEdges work w n rows columns
  pub room : length rows * length columns ≤ size
  pub whole : sum (length rows) (λ i. sum (length columns) (code_cell work w n (word rows) (word columns) i)) ≤ tips_most

-- .. where there are three codes or more into the second
pub record PairRoom (work : List ℕ) (w n : ℕ) (rows columns : List ℕ) (size : ℕ) : Type 0 where
  pub pair : 3 ≤ length columns → NodePair work w n rows columns size

-- fewer codes make no claim
pub few_S2 : (d d' : ℕ) (I : ℕ → ℕ → ℕ) → d' < 3 → pair_s2 d d' I ≡ 0
few_S2 d d' I l = pair_s2_few d d' I (inr (omega arith))

pub few_S3 : (d d' : ℕ) (I : ℕ → ℕ → ℕ) → d' < 3 → pair_s3 d d' I ≡ 0
few_S3 d d' I l = pair_s3_few d d' I (inr (omega arith))

module _ (work : List ℕ) (w n : ℕ) (rows columns : List ℕ) (size : ℕ)
    (h : NodePair work w n rows columns size) where
  module _ (block : List ℕ) (q : RowsFilled work w n rows columns block (length rows)) where
    alike : (i j : ℕ) → i < length rows → j < length columns
        → block_cell block (length columns) i j ≡ code_cell work w n (word rows) (word columns) i j
    alike i j li lj = q.cell i j li lj

    pub filled_block : size ≤ length block → Block block (length rows) (length columns)
    filled_block l = record {
      rows_few = h.edges.rows_few;
      columns_few = h.edges.columns_few;
      inside = omega (arith, h.room);
      whole_few = rw (sum_ext (length rows) _ _ (λ i li. sum_ext (length columns) _ _ (λ j lj. alike i j li lj)))
          h.whole;
    }

    pub filled-S2 : pair_s2 (length rows) (length columns) (block_cell block (length columns))
        ≡ pair_s2 (length rows) (length columns) (code_cell work w n (word rows) (word columns))
    filled-S2 = pair_s2_ext (length rows) (length columns) _ _ alike

    pub filled-S3 : pair_s3 (length rows) (length columns) (block_cell block (length columns))
        ≡ pair_s3 (length rows) (length columns) (code_cell work w n (word rows) (word columns))
    filled-S3 = pair_s3_ext (length rows) (length columns) _ _ alike

-- ---- a node of the first tree with every node of the second

-- what a node with these edges and node v' add, to twice S2 ..
abbrev pub row_s2 : List ℕ → ℕ → ℕ → List ℕ → List ℕ → ℕ → ℕ
row_s2 work w n rows qs v' =
    pair_s2 (length rows) (degree_at qs v') (code_cell work w n (word rows) (edge_into qs v'))

-- .. and to S3
abbrev pub row_s3 : List ℕ → ℕ → ℕ → List ℕ → List ℕ → ℕ → ℕ
row_s3 work w n rows qs v' =
    pair_s3 (length rows) (degree_at qs v') (code_cell work w n (word rows) (edge_into qs v'))

pub record NodeRow (work : List ℕ) (w n : ℕ) (rows qs starts edges : List ℕ) (size : ℕ) : Type 0 where
  pub count : ℕ
  pub crossed : Crossed work count w n
  pub rows_three : 3 ≤ length rows
  pub rows_few : length rows ≤ tips_most
  pub rows_inside : (i : ℕ) → i < length rows → word rows i < count
  pub lists : CodeLists qs starts edges
  pub width : length qs - 1 ≤ w
  pub room : (v' : ℕ) → v' < length qs → length rows * degree_at qs v' ≤ size
  pub few : (v' : ℕ) → v' < length qs → degree_at qs v' ≤ tips_most
  pub whole : (v' : ℕ) → v' < length qs → 3 ≤ degree_at qs v'
      → sum (length rows) (λ i. sum (degree_at qs v') (code_cell work w n (word rows) (edge_into qs v') i)) ≤ tips_most
  pub all_S2 : sum (length qs) (row_s2 work w n rows qs) ≤ 699170560
  pub all_S3 : sum (length qs) (row_s3 work w n rows qs) ≤ 699170560

-- .. where there are three codes or more into it
pub record NodeRowRoom (work : List ℕ) (w n : ℕ) (rows qs starts edges : List ℕ) (size : ℕ) : Type 0 where
  pub row : 3 ≤ length rows → NodeRow work w n rows qs starts edges size

-- fewer codes make no claim
pub few_row : (work : List ℕ) (w n : ℕ) (rows qs : List ℕ) → length rows < 3
    → (sum (length qs) (row_s2 work w n rows qs) ≡ 0) × (sum (length qs) (row_s3 work w n rows qs) ≡ 0)
few_row work w n rows qs l = (
  sum_none (length qs) _ (λ v' m. pair_s2_few _ _ _ (inl (omega arith))),
  sum_none (length qs) _ (λ v' m. pair_s3_few _ _ _ (inl (omega arith))),
)

-- .. so the nodes with three codes or more into them add it all
module _ (work : List ℕ) (w n : ℕ) (rows qs inner : List ℕ) (count : ℕ)
    (h : InnerNodes qs inner count (length qs)) where
  pub inner_S2 : sum count (λ i. row_s2 work w n rows qs (word inner i)) ≡ sum (length qs) (row_s2 work w n rows qs)
  inner_S2 = h.all (row_s2 work w n rows qs) (λ v l m. few_S2 _ _ _ m)

  pub inner_S3 : sum count (λ i. row_s3 work w n rows qs (word inner i)) ≡ sum (length qs) (row_s3 work w n rows qs)
  inner_S3 = h.all (row_s3 work w n rows qs) (λ v l m. few_S3 _ _ _ m)

-- a cell depends on its two edges alone
pub cell_same : (work : List ℕ) (w n : ℕ) (r r' c c' : ℕ → ℕ) (i j : ℕ) → r i ≡ r' i → c j ≡ c' j
    → code_cell work w n r c i j ≡ code_cell work w n r' c' i j
unfolding code_cell own_cell child_cell
cell_same work w n r r' c c' zero zero e d = rw (e, d) refl
cell_same work w n r r' c c' zero (suc j) e d = rw (e, d) refl
cell_same work w n r r' c c' (suc i) zero e d = rw (e, d) refl
cell_same work w n r r' c c' (suc i) (suc j) e d = rw (e, d) refl

module _ (work : List ℕ) (w n : ℕ) (rows qs starts edges : List ℕ) (size : ℕ)
    (h : NodeRow work w n rows qs starts edges size) (v : ℕ) (l : v < length qs) where
  same_cells : (i j : ℕ) → i < length rows → j < degree_at qs v
      → code_cell work w n (word rows) (word (node_part starts edges v)) i j
      ≡ code_cell work w n (word rows) (edge_into qs v) i j
  same_cells i j li lj = cell_same work w n _ _ _ _ i j refl (part_edge qs starts edges h.lists v l j lj)

  row_pair : 3 ≤ length (node_part starts edges v) → NodePair work w n rows (node_part starts edges v) size
  row_pair m = let e = part_length qs starts edges h.lists v l in record {
    edges = record {
      edges = h.count;
      crossed = h.crossed;
      rows_some = omega (arith, h.rows_three);
      rows_few = h.rows_few;
      rows_inside = h.rows_inside;
      columns_some = omega arith;
      columns_few = omega (arith, e, h.few v l);
      columns_inside = λ j lj. omega (
        arith,
        part_edge qs starts edges h.lists v l j (omega arith),
        edge_inside qs starts edges h.lists v l j (omega arith),
        h.width,
      );
    };
    room = rw e (h.room v l);
    whole = rw (e, sum_ext (length rows) _ _ (λ i li. sum_ext (degree_at qs v) _ _ (λ j lj. same_cells i j li lj)))
        (h.whole v l (omega arith));
  }

  pub row_room : PairRoom work w n rows (node_part starts edges v) size
  row_room = record { pair = row_pair }

  pub row_s2_lem : (a : ℕ)
      → a ≡ pair_s2 (length rows) (length (node_part starts edges v))
      (code_cell work w n (word rows) (word (node_part starts edges v)))
      → a ≡ row_s2 work w n rows qs v
  row_s2_lem a q =
      q
      ∙ ap (λ (d : ℕ). pair_s2 (length rows) d (code_cell work w n (word rows) (word (node_part starts edges v))))
      (part_length qs starts edges h.lists v l)
      ∙ pair_s2_ext (length rows) (degree_at qs v) _ _ same_cells

  pub row_s3_lem : (a : ℕ)
      → a ≡ pair_s3 (length rows) (length (node_part starts edges v))
      (code_cell work w n (word rows) (word (node_part starts edges v)))
      → a ≡ row_s3 work w n rows qs v
  row_s3_lem a q =
      q
      ∙ ap (λ (d : ℕ). pair_s3 (length rows) d (code_cell work w n (word rows) (word (node_part starts edges v))))
      (part_length qs starts edges h.lists v l)
      ∙ pair_s3_ext (length rows) (degree_at qs v) _ _ same_cells

-- ---- all nodes of the first tree

-- what node v of the first tree adds with all nodes of the second
abbrev pub node_s2 : List ℕ → ℕ → ℕ → List ℕ → List ℕ → ℕ → ℕ
node_s2 work w n ps qs v = sum (length qs) (pair_sum_s2 work w n ps qs v)

abbrev pub node_s3 : List ℕ → ℕ → ℕ → List ℕ → List ℕ → ℕ → ℕ
node_s3 work w n ps qs v = sum (length qs) (pair_sum_s3 work w n ps qs v)

-- n labels are counted, and no node has more than `most` codes into it
pub record NodePairs (work : List ℕ) (w n most : ℕ) (ps starts edges qs starts' edges' : List ℕ) : Type 0 where
  pub first : CodeLists ps starts edges
  pub second : CodeLists qs starts' edges'
  pub crossed : Crossed work (length ps - 1) w n
  pub width : length qs - 1 ≤ w
  pub most_few : most ≤ tips_most
  pub first_few : (v : ℕ) → v < length ps → degree_at ps v ≤ most
  pub second_few : (v : ℕ) → v < length qs → degree_at qs v ≤ most
  pub whole : (v v' : ℕ) → v < length ps → v' < length qs → 3 ≤ degree_at ps v → 3 ≤ degree_at qs v'
      → sum (degree_at ps v) (λ i. sum (degree_at qs v')
      (code_cell work w n (edge_into ps v) (edge_into qs v') i)) ≤ tips_most
  pub all_S2 : sum (length ps) (node_s2 work w n ps qs) ≤ 699170560
  pub all_S3 : sum (length ps) (node_s3 work w n ps qs) ≤ 699170560

-- .. and room for the block of any two nodes in `size` cells
pub record PairsRoom (work : List ℕ) (w n : ℕ) (ps starts edges qs starts' edges' : List ℕ) (size : ℕ) : Type 0 where
  pub most : ℕ
  pub pairs : NodePairs work w n most ps starts edges qs starts' edges'
  pub room : most * most ≤ size

module _ (work : List ℕ) (w n most : ℕ) (ps starts edges qs starts' edges' : List ℕ)
    (h : NodePairs work w n most ps starts edges qs starts' edges') (v : ℕ) (l : v < length ps) where
  same_rows : (v' i j : ℕ) → i < degree_at ps v
      → code_cell work w n (word (node_part starts edges v)) (edge_into qs v') i j
      ≡ code_cell work w n (edge_into ps v) (edge_into qs v') i j
  same_rows v' i j li = cell_same work w n _ _ _ _ i j (part_edge ps starts edges h.first v l i li) refl

  e : length (node_part starts edges v) ≡ degree_at ps v
  e = part_length ps starts edges h.first v l

  node_pair_S2 : (v' : ℕ) → row_s2 work w n (node_part starts edges v) qs v' ≡ pair_sum_s2 work w n ps qs v v'
  unfolding pair_sum_s2
  node_pair_S2 v' =
      ap (λ (d : ℕ). pair_s2 d (degree_at qs v') (code_cell work w n (word (node_part starts edges v)) (edge_into qs v'))) e
      ∙ pair_s2_ext (degree_at ps v) (degree_at qs v') _ _ (λ i j li lj. same_rows v' i j li)

  node_pair_S3 : (v' : ℕ) → row_s3 work w n (node_part starts edges v) qs v' ≡ pair_sum_s3 work w n ps qs v v'
  unfolding pair_sum_s3
  node_pair_S3 v' =
      ap (λ (d : ℕ). pair_s3 d (degree_at qs v') (code_cell work w n (word (node_part starts edges v)) (edge_into qs v'))) e
      ∙ pair_s3_ext (degree_at ps v) (degree_at qs v') _ _ (λ i j li lj. same_rows v' i j li)

  pub node_s2_lem : (a : ℕ) → a ≡ sum (length qs) (row_s2 work w n (node_part starts edges v) qs)
      → a ≡ node_s2 work w n ps qs v
  node_s2_lem a q = q ∙ sum_cong (length qs) node_pair_S2

  pub node_s3_lem : (a : ℕ) → a ≡ sum (length qs) (row_s3 work w n (node_part starts edges v) qs)
      → a ≡ node_s3 work w n ps qs v
  node_s3_lem a q = q ∙ sum_cong (length qs) node_pair_S3

  node_row : (size : ℕ) → most * most ≤ size → 3 ≤ length (node_part starts edges v)
      → NodeRow work w n (node_part starts edges v) qs starts' edges' size
  node_row size k m = record {
    count = length ps - 1;
    crossed = h.crossed;
    rows_three = m;
    rows_few = omega (arith, e, h.first_few v l, h.most_few);
    rows_inside = λ i li. omega (
      arith,
      part_edge ps starts edges h.first v l i (omega (arith, e)),
      edge_inside ps starts edges h.first v l i (omega (arith, e)),
    );
    lists = h.second;
    width = h.width;
    room = λ v' l'. omega (
      arith,
      product_le most most (length (node_part starts edges v)) (degree_at qs v') (omega (arith, e, h.first_few v l)) (h.second_few v' l'),
    );
    few = λ v' l'. omega (arith, h.second_few v' l', h.most_few);
    whole = λ v' l' m'. rw (
      e,
      sum_ext (degree_at ps v) _ _ (λ i li.
          sum_cong (degree_at qs v') (λ j. same_rows v' i j li)),
    )
        (h.whole v v' l l' (omega (arith, e)) m');
    all_S2 = omega (
      arith,
      sum_cong (length qs) node_pair_S2,
      sum-ge (length ps) (node_s2 work w n ps qs) v l,
      h.all_S2,
    );
    all_S3 = omega (
      arith,
      sum_cong (length qs) node_pair_S3,
      sum-ge (length ps) (node_s3 work w n ps qs) v l,
      h.all_S3,
    );
  }

  pub node_room_lem : (size : ℕ) → most * most ≤ size → NodeRowRoom work w n (node_part starts edges v) qs starts' edges' size
  node_room_lem size k = record { row = node_row size k }
