-- The claim sums of two trees, from their parents and the crossings of their edges.
-- Assumes nothing.
use Rattle.std.specs.Prelude.{◌≡◌, ◌≢◌, List, ℕ, zero, suc, ◌*◌, ◌-◌, ◌/◌, ◌≤◌, ◌<◌, length}
use Rattle.std.proofs.Math.Path.{refl}
use Rattle.std.proofs.Common.{sym, ◌∙◌, arith}
use Rattle.table_words.specs.Sizes.{tips_most}
use Rattle.sums.specs.Sum.{sum}
use Rattle.tree_check.specs.Table.{Table, tips, nodes, parents}
use Rattle.tree_check.specs.lemmas.TableParts.{parents-length}
use Rattle.tree_check.specs.Refusals.{refusal}
use Rattle.tree_check.specs.theorems.RefusalLaws.{if_refused}
use Rattle.tree_check.specs.IsTree.{IsTree}
use Rattle.counting.specs.Labels.{Labels}
use Rattle.counting.specs.theorems.LabelLaws.{Rising}
use Rattle.counting.proofs.theorems.LabelLaws.{number-le}
use Rattle.counting.proofs.theorems.QuartetTheorem.{quartet_theorem}
use Rattle.pair_check.specs.PairOrder.{PairWithCells, pair_order}
use Rattle.tree_pairs.specs.Crossings.{crossed}
use Rattle.claims.specs.ClaimAnswer.{sums_over, refused_sums, claim_answer}
use Rattle.claims.specs.declared.totals.ClaimSums.{ClaimSums}
use Rattle.claims.specs.lemmas.CodeCells.{Crossed, code_cell, row_start_lem}
use Rattle.claims.specs.lemmas.NodeCodes.{CodeLists}
use Rattle.code_lists.specs.ListedCodes.{degree_at}
use Rattle.code_lists.specs.lemmas.CodesAt.{Parents, CodeStarts, EdgeList}
use Rattle.claims.specs.lemmas.CodeSizes.{code_size, SizeCell}
use Rattle.claims.specs.lemmas.DirectedCells.{crossed-cells}
use Rattle.claims.specs.lemmas.SumsByNode.{edge_into, node_sum, first-sum, second_sum, same_sum, different_sum}
use Rattle.claims.specs.lemmas.SumsByNode.{first_whole, second_whole, cells_whole}
use Rattle.claims.specs.lemmas.PairLoops.{NodePairs, node_s2, node_s3}
use Rattle.claims.specs.lemmas.TreeCodes.{tree_parents, degree_few, root_degree}
use Rattle.claims.specs.lemmas.TreeSizes.{TreeSizes}

-- ---- what the code sums

-- where k labels are counted
unfoldable pub summed : List ℕ → ℕ → List ℕ → List ℕ → ClaimSums
summed work k ps qs = record {
  refusal = 0;
  first = sum (length ps) (node_sum work (length qs - 1) k ps) / 2;
  second = sum (length qs) (node_sum work 1 k qs) / 2;
  same = sum (length ps) (node_s2 work (length qs - 1) k ps qs) / 2;
  different = sum (length ps) (node_s3 work (length qs - 1) k ps qs);
}

-- what it asks of the parents and of the cells; the trees have n tips
pub record Summable (work : List ℕ) (k n : ℕ) (ps qs : List ℕ) : Type 0 where
  pub first : Parents ps
  pub second : Parents qs
  pub some : (2 ≤ length ps) × (2 ≤ length qs)
  pub crossed : Crossed work (length ps - 1) (length qs - 1) k
  pub tips_few : n ≤ tips_most
  pub first_few : (v : ℕ) → v < length ps → degree_at ps v ≤ n
  pub second_few : (v : ℕ) → v < length qs → degree_at qs v ≤ n
  pub first_whole : (v : ℕ) → v < length ps → 3 ≤ degree_at ps v
      → sum (degree_at ps v) (code_size work (length qs - 1) k (edge_into ps v)) ≤ tips_most
  pub second_whole : (v : ℕ) → v < length qs → 3 ≤ degree_at qs v
      → sum (degree_at qs v) (code_size work 1 k (edge_into qs v)) ≤ tips_most
  pub cells_whole : (v v' : ℕ) → v < length ps → v' < length qs → 3 ≤ degree_at ps v → 3 ≤ degree_at qs v'
      → sum (degree_at ps v) (λ i. sum (degree_at qs v')
      (code_cell work (length qs - 1) k (edge_into ps v) (edge_into qs v') i)) ≤ tips_most
  pub first_most : sum (length ps) (node_sum work (length qs - 1) k ps) ≤ 699170560
  pub second_most : sum (length qs) (node_sum work 1 k qs) ≤ 699170560
  pub same_most : sum (length ps) (node_s2 work (length qs - 1) k ps qs) ≤ 699170560
  pub different_most : sum (length ps) (node_s3 work (length qs - 1) k ps qs) ≤ 699170560

module _ (work : List ℕ) (k n : ℕ) (ps qs : List ℕ) (h : Summable work k n ps qs) where
  pub first_lists : (starts edges : List ℕ) → CodeStarts ps starts → EdgeList ps edges → CodeLists ps starts edges
  first_lists starts edges a b =
      record { parents = h.first; begins = a; listed = b; long = b.long }

  pub second_lists : (starts edges : List ℕ) → CodeStarts qs starts → EdgeList qs edges → CodeLists qs starts edges
  second_lists starts edges a b =
      record { parents = h.second; begins = a; listed = b; long = b.long }

  pub first_sizes : (starts edges : List ℕ) → CodeLists ps starts edges
      → TreeSizes work (length qs - 1) k ps starts edges tips_most
  first_sizes starts edges l = record {
    lists = l;
    room = omega arith;
    few = λ v l. omega (arith, h.first_few v l, h.tips_few);
    cell = λ r m. let a = row_start_lem work _ _ k h.crossed r m (omega (arith, h.some)) in record {
      inside = a.0;
      low = a.1;
      most = h.crossed.row_most r m;
    };
    whole = h.first_whole;
    all = h.first_most;
  }

  column_cell : (r : ℕ) → r < length qs - 1 → SizeCell work k (r * 1)
  column_cell r m =
      let a = row_start_lem work _ _ k h.crossed 0 (omega (arith, h.some)) (omega arith) in
      let e : r * 1 ≡ r = omega arith in
      rw e (record {
        inside = omega (arith, h.crossed.inside, rows);
        low = omega (arith, h.second.few);
        most = h.crossed.column_most r m;
      })
    where
      rows : 1 * (length qs - 1) ≤ (length ps - 1) * (length qs - 1)
      rows = native.Mathlib.Nat.mul-le-mul_right (length qs - 1) (omega (arith, h.some))

  pub second_sizes : (starts edges : List ℕ) → CodeLists qs starts edges → TreeSizes work 1 k qs starts edges tips_most
  second_sizes starts edges l = record {
    lists = l;
    room = omega arith;
    few = λ v l. omega (arith, h.second_few v l, h.tips_few);
    cell = column_cell;
    whole = h.second_whole;
    all = h.second_most;
  }

  pub node_pairs : (starts edges begins columns : List ℕ) → CodeLists ps starts edges → CodeLists qs begins columns
      → NodePairs work (length qs - 1) k n ps starts edges qs begins columns
  node_pairs starts edges begins columns l m = record {
    first = l;
    second = m;
    crossed = h.crossed;
    width = omega arith;
    most_few = h.tips_few;
    first_few = h.first_few;
    second_few = h.second_few;
    whole = h.cells_whole;
    all_S2 = h.same_most;
    all_S3 = h.different_most;
  }

-- from the four sums
pub summed_is : (work : List ℕ) (k : ℕ) (ps qs : List ℕ) (a b c d : ℕ)
    → a ≡ sum (length ps) (node_sum work (length qs - 1) k ps) → b ≡ sum (length qs) (node_sum work 1 k qs)
    → c ≡ sum (length ps) (node_s2 work (length qs - 1) k ps qs)
    → d ≡ sum (length ps) (node_s3 work (length qs - 1) k ps qs)
    → record { refusal = 0; first = a / 2; second = b / 2; same = c / 2; different = d } ≡ summed work k ps qs
unfolding summed
summed_is work k ps qs a b c d ea eb ec ed = rw (ea, eb, ec, ed) refl

-- ---- of two tables

module _ (l : Labels) (t u : Table) (work : List ℕ) (p : PairWithCells t u (length work)) (r : Rising (tips t) l) where
  g : IsTree t
  g = p.pair.first

  h : IsTree u
  h = p.pair.second

  long : length (parents t) ≡ nodes t
  long = parents-length t g.words

  long' : length (parents u) ≡ nodes u
  long' = parents-length u h.words

  -- no claim at node 0
  inner : (d v : ℕ) → 3 ≤ d → (v ≡ 0 → d ≤ 1) → 1 ≤ v
  inner d zero m few = absurd (omega (arith, few refl))
  inner d (suc v) m few = omega arith

  inner_first : (v : ℕ) → 3 ≤ degree_at (parents t) v → 1 ≤ v
  inner_first v m = inner _ v m (λ e. rw e (root_degree t g))

  inner_second : (v : ℕ) → 3 ≤ degree_at (parents u) v → 1 ≤ v
  inner_second v m = inner _ v m (λ e. rw e (root_degree u h))

  pub summable : Summable (crossed l t u work) l.number (tips t) (parents t) (parents u)
  summable =
      let few = g.tips_range in
      let many = g.nodes_range in
      let more = h.nodes_range in
      let same = p.pair.same_tips in
      let kept = number-le (tips t) l r in
      let q = quartet_theorem l t u g h same r in record {
        first = tree_parents t g;
        second = tree_parents u h;
        some = (omega (arith, long), omega (arith, long'));
        crossed = rw (long, long') (crossed-cells l t u work p r);
        tips_few = few.1;
        first_few = λ v m. degree_few t g v (omega (arith, long));
        second_few = λ v m. let d = degree_few u h v (omega (arith, long')) in omega arith;
        first_whole = λ v m three.
            let w = rw (← long') at (first_whole l t u work p r v (inner_first v three) (omega (arith, long))) in omega arith;
        second_whole = λ v m three.
            let w = second_whole l t u work p r v (inner_second v three) (omega (arith, long')) in omega arith;
        cells_whole = λ v v' m m' three three'. let w = rw (← long') at (cells_whole l t u work p r v v'
            (inner_first v three) (omega (arith, long)) (inner_second v' three') (omega (arith, long'))) in omega arith;
        first_most = rw (long', first-sum l t u work p r) (omega (arith, q.S_most));
        second_most = rw (second_sum l t u work p r) (omega (arith, q.S'_most));
        same_most = rw (long', same_sum l t u work p r) (omega (arith, q.S2_most));
        different_most = rw (long', different_sum l t u work p r) (omega (arith, q.S3_most));
      }

  halved : (a b : ℕ) → a ≡ 2 * b → a / 2 ≡ b
  halved a b e = omega arith

  -- the sums are the published ones
  pub claims_over : summed (crossed l t u work) l.number (parents t) (parents u) ≡ sums_over l t u
  unfolding summed
  claims_over = rw (
    long',
    halved _ _ (first-sum l t u work p r),
    halved _ _ (rw long' at (second_sum l t u work p r)),
    halved _ _ (same_sum l t u work p r),
    different_sum l t u work p r,
  )
      refl

-- a refused pair
pub claims_refused : (t u : Table) (marks : List ℕ) (cells k : ℕ) → k ≡ refusal (pair_order t u marks cells) → k ≢ 0
    → refused_sums k ≡ claim_answer t u marks cells
unfolding claim_answer
claims_refused t u marks cells k e d = rw e (sym (if_refused _ _ _ (λ z. d (e ∙ z))))
