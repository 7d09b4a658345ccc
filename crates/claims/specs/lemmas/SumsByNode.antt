-- The claim sums of two tables as the code sums them up: over the nodes of each tree, and over pairs of nodes.
-- Assumes nothing.
use Rattle.std.specs.Prelude.{◌≡◌, refl, ◌⊎◌, List, length}
use Rattle.std.proofs.Math.Path.{sym}
use Rattle.std.proofs.Common.{◌∙◌, ap, ap₂, inl, inr, arith}
use Prim.Native.Nat.{ℕ, zero, suc, ◌*◌, ◌-◌, ◌/◌, ◌≤◌, ◌<◌}
use Rattle.sums.specs.Sum.{sum}
use Rattle.sums.specs.theorems.SumLaws.{sum_ext}
use Rattle.shapes.specs.Claims.{choose2}
use Rattle.node_pairs.specs.theorems.Cells.{sum_apart, pair_s2, pair_s3}
use Rattle.node_pairs.specs.theorems.CellTotals.{apart_few, pair_s2_few, pair_s3_few}
use Rattle.node_pairs.specs.theorems.CellsAlike.{apart_ext, pair_s2_ext, pair_s3_ext}
use Rattle.tree_check.specs.Table.{Table, tips, nodes, parents}
use Rattle.tree_check.specs.lemmas.TableParts.{parents-length}
use Rattle.tree_check.specs.IsTree.{IsTree}
use Rattle.counting.specs.Labels.{Labels}
use Rattle.counting.specs.theorems.LabelLaws.{Rising}
use Rattle.counting.proofs.theorems.LabelLaws.{rising_of}
use Rattle.counting.specs.ClaimSums.{size, crossing, S, S2, S3}
use Rattle.counting.proofs.theorems.Degrees.{sizes_most}
use Rattle.counting.proofs.theorems.NodePairSums.{node_term, pair_term_s2, pair_term_s3}
use Rattle.counting.proofs.theorems.NodePairSums.{S_over_nodes, S2_over_node_pairs, S3_over_node_pairs, cells_most}
use Rattle.pair_check.specs.PairOrder.{PairWithCells}
use Rattle.tree_pairs.specs.Crossings.{crossed}
use Rattle.claims.specs.lemmas.CodeCells.{code_cell}
use Rattle.claims.specs.lemmas.CodeSizes.{code_size}
use Rattle.code_lists.specs.ListedCodes.{degree_at, code_into}
use Rattle.claims.specs.lemmas.DirectedCells.{code_cell_lem, first-size, second_size}
use Rattle.claims.specs.lemmas.TreeCodes.{tree_codes, node_codes, tree_lists, root_degree}

-- the edge of the i-th code into node v, counted from 0
abbrev pub edge_into : List ℕ → ℕ → ℕ → ℕ
edge_into ps v i = code_into ps v i / 2

-- ---- what the code sums

-- what a node with sets of these sizes behind the codes into it adds to twice S
unfoldable pub sizes_apart : ℕ → (ℕ → ℕ) → ℕ
sizes_apart d s = sum_apart d (λ i j l. choose2 (s i) * (s j * s l))

-- what node v adds to twice S
unfoldable pub node_sum : List ℕ → ℕ → ℕ → List ℕ → ℕ → ℕ
node_sum work step n ps v = sizes_apart (degree_at ps v) (code_size work step n (edge_into ps v))

-- what nodes v and v' add to twice S2, ..
unfoldable pub pair_sum_s2 : List ℕ → ℕ → ℕ → List ℕ → List ℕ → ℕ → ℕ → ℕ
pair_sum_s2 work w n ps qs v v' =
    pair_s2 (degree_at ps v) (degree_at qs v') (code_cell work w n (edge_into ps v) (edge_into qs v'))

-- .. and to S3
unfoldable pub pair_sum_s3 : List ℕ → ℕ → ℕ → List ℕ → List ℕ → ℕ → ℕ → ℕ
pair_sum_s3 work w n ps qs v v' =
    pair_s3 (degree_at ps v) (degree_at qs v') (code_cell work w n (edge_into ps v) (edge_into qs v'))

pub sizes_apart_ext : (d : ℕ) (r s : ℕ → ℕ) → ((i : ℕ) → i < d → r i ≡ s i) → sizes_apart d r ≡ sizes_apart d s
unfolding sizes_apart
sizes_apart_ext d r s h = apart_ext d _ _ (λ i j l li lj ll. rw (h i li, h j lj, h l ll) refl)

-- fewer than three codes into a node make no claim
pub sizes_few : (d : ℕ) (s : ℕ → ℕ) → d ≤ 2 → sizes_apart d s ≡ 0
unfolding sizes_apart
sizes_few d s l = apart_few d _ l

-- ---- these are the claim sums

module _ (ks : Labels) (t u : Table) (work : List ℕ) (p : PairWithCells t u (length work)) (r : Rising (tips t) ks) where
  g : IsTree t
  g = p.pair.first

  h : IsTree u
  h = p.pair.second

  ru : Rising (tips u) ks
  ru = rising_of (tips t) (tips u) ks p.pair.same_tips r

  -- the first tree's nodes
  first_node : (v : ℕ) → v < nodes t
      → node_sum (crossed ks t u work) (nodes u - 1) ks.number (parents t) v ≡ node_term ks t (tree_codes t g) v
  unfolding node_sum sizes_apart
  first_node zero l =
      let few = root_degree t g in sizes_few _ _ (omega arith) ∙ sym (apart_few _ _ (omega arith))
  first_node (suc v) l = sizes_apart_ext _ _ (λ i. size ks t (code_into (parents t) (suc v) i))
      (first-size ks t u work p r _ _ (node_codes t g (suc v) (omega arith) l))

  -- the second tree's
  second_node : (v : ℕ) → v < nodes u
      → node_sum (crossed ks t u work) 1 ks.number (parents u) v ≡ node_term ks u (tree_codes u h) v
  unfolding node_sum sizes_apart
  second_node zero l =
      let few = root_degree u h in sizes_few _ _ (omega arith) ∙ sym (apart_few _ _ (omega arith))
  second_node (suc v) l = sizes_apart_ext _ _ (λ i. size ks u (code_into (parents u) (suc v) i))
      (second_size ks t u work p r _ _ (node_codes u h (suc v) (omega arith) l))

  pub first-sum : sum (length (parents t)) (node_sum (crossed ks t u work) (nodes u - 1) ks.number (parents t)) ≡ 2 * S ks t
  first-sum =
      ap (λ (m : ℕ). sum m (node_sum (crossed ks t u work) (nodes u - 1) ks.number (parents t)))
      (parents-length t g.words)
      ∙ sum_ext (nodes t) _ _ first_node
      ∙ sym (S_over_nodes ks t (tree_codes t g) g)

  pub second_sum : sum (length (parents u)) (node_sum (crossed ks t u work) 1 ks.number (parents u)) ≡ 2 * S ks u
  second_sum =
      ap (λ (m : ℕ). sum m (node_sum (crossed ks t u work) 1 ks.number (parents u))) (parents-length u h.words)
      ∙ sum_ext (nodes u) _ _ second_node
      ∙ sym (S_over_nodes ks u (tree_codes u h) h)

  -- ---- pairs of nodes

  -- node 0 of either tree adds nothing
  few_codes : (v v' : ℕ) → (v ≡ 0) ⊎ (v' ≡ 0) → (degree_at (parents t) v ≤ 2) ⊎ (degree_at (parents u) v' ≤ 2)
  few_codes v v' (inl e) = inl (rw e (let few = root_degree t g in omega arith))
  few_codes v v' (inr e) = inr (rw e (let few = root_degree u h in omega arith))

  pair_cells : (v v' : ℕ) → 1 ≤ v → v < nodes t → 1 ≤ v' → v' < nodes u
      → (i j : ℕ) → i < degree_at (parents t) v → j < degree_at (parents u) v'
      → code_cell (crossed ks t u work) (nodes u - 1) ks.number (edge_into (parents t) v) (edge_into (parents u) v') i j
      ≡ crossing ks t u (code_into (parents t) v i) (code_into (parents u) v' j)
  pair_cells v v' l m l' m' =
      code_cell_lem ks t u work p r _ _ (code_into (parents t) v) (code_into (parents u) v')
      (node_codes t g v l m) (node_codes u h v' l' m')

  same_pair : (v v' : ℕ) → v < nodes t → v' < nodes u
      → pair_sum_s2 (crossed ks t u work) (nodes u - 1) ks.number (parents t) (parents u) v v'
      ≡ pair_term_s2 ks t u (tree_codes t g) (tree_codes u h) v v'
  unfolding pair_sum_s2
  same_pair zero v' l m =
      let f = few_codes 0 v' (inl refl) in pair_s2_few _ _ _ f ∙ sym (pair_s2_few _ _ _ f)
  same_pair (suc v) zero l m =
      let f = few_codes (suc v) 0 (inr refl) in pair_s2_few _ _ _ f ∙ sym (pair_s2_few _ _ _ f)
  same_pair (suc v) (suc v') l m =
      pair_s2_ext _ _ _ _ (pair_cells (suc v) (suc v') (omega arith) l (omega arith) m)

  different_pair : (v v' : ℕ) → v < nodes t → v' < nodes u
      → pair_sum_s3 (crossed ks t u work) (nodes u - 1) ks.number (parents t) (parents u) v v'
      ≡ pair_term_s3 ks t u (tree_codes t g) (tree_codes u h) v v'
  unfolding pair_sum_s3
  different_pair zero v' l m =
      let f = few_codes 0 v' (inl refl) in pair_s3_few _ _ _ f ∙ sym (pair_s3_few _ _ _ f)
  different_pair (suc v) zero l m =
      let f = few_codes (suc v) 0 (inr refl) in pair_s3_few _ _ _ f ∙ sym (pair_s3_few _ _ _ f)
  different_pair (suc v) (suc v') l m =
      pair_s3_ext _ _ _ _ (pair_cells (suc v) (suc v') (omega arith) l (omega arith) m)

  all_pairs : (f k : ℕ → ℕ → ℕ) → ((v v' : ℕ) → v < nodes t → v' < nodes u → f v v' ≡ k v v')
      → sum (length (parents t)) (λ v. sum (length (parents u)) (f v)) ≡ sum (nodes t) (λ v. sum (nodes u) (k v))
  all_pairs f k e =
      ap₂ (λ (m m' : ℕ). sum m (λ v. sum m' (f v))) (parents-length t g.words) (parents-length u h.words)
      ∙ sum_ext (nodes t) _ _ (λ v l. sum_ext (nodes u) _ _ (λ v' m. e v v' l m))

  pub same_sum : sum (length (parents t)) (λ v. sum (length (parents u))
      (pair_sum_s2 (crossed ks t u work) (nodes u - 1) ks.number (parents t) (parents u) v)) ≡ 2 * S2 ks t u
  same_sum = all_pairs _ _ same_pair ∙ sym (S2_over_node_pairs ks t u (tree_codes t g) (tree_codes u h) g h)

  pub different_sum : sum (length (parents t)) (λ v. sum (length (parents u))
      (pair_sum_s3 (crossed ks t u work) (nodes u - 1) ks.number (parents t) (parents u) v)) ≡ S3 ks t u
  different_sum = all_pairs _ _ different_pair ∙ sym (S3_over_node_pairs ks t u (tree_codes t g) (tree_codes u h) g h)

  -- ---- bounds

  pub first_whole : (v : ℕ) → 1 ≤ v → v < nodes t
      → sum (degree_at (parents t) v) (code_size (crossed ks t u work) (nodes u - 1) ks.number (edge_into (parents t) v))
      ≤ ks.number
  first_whole v l m = rw (sum_ext _ _ _ (first-size ks t u work p r _ (code_into (parents t) v) (node_codes t g v l m)))
      (sizes_most t g ks r v _ _ m (tree_lists t g v))

  pub second_whole : (v : ℕ) → 1 ≤ v → v < nodes u
      → sum (degree_at (parents u) v) (code_size (crossed ks t u work) 1 ks.number (edge_into (parents u) v)) ≤ ks.number
  second_whole v l m = rw (sum_ext _ _ _ (second_size ks t u work p r _ (code_into (parents u) v) (node_codes u h v l m)))
      (sizes_most u h ks ru v _ _ m (tree_lists u h v))

  pub cells_whole : (v v' : ℕ) → 1 ≤ v → v < nodes t → 1 ≤ v' → v' < nodes u
      → sum (degree_at (parents t) v) (λ i. sum (degree_at (parents u) v')
      (code_cell (crossed ks t u work) (nodes u - 1) ks.number (edge_into (parents t) v) (edge_into (parents u) v') i))
      ≤ ks.number
  cells_whole v v' l m l' m' = rw (
      sum_ext _ _ _ (λ i li. sum_ext _ _ _ (λ j lj. pair_cells v v' l m l' m' i j li lj)))
      (cells_most ks t u (tree_codes t g) (tree_codes u h) g h p.pair.same_tips r v v' m m')
