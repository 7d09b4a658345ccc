-- The codes into each node of a tree table, from its parent words.
-- Assumes nothing.
use Rattle.std.specs.Prelude.{◌≡◌, ◌≢◌, length}
use Rattle.std.proofs.Math.Path.{subst}
use Prim.Native.Nat.{ℕ, zero, suc, ◌*◌, ◌-◌, ◌≤◌, ◌<◌}
use Rattle.std.proofs.Math.Decide.{dec_lt}
use native.Mathlib.Omega.{arith}
use Rattle.shapes.specs.Directions.{head}
use Rattle.node_pairs.specs.theorems.CodesOfANode.{Lists, lists_codes, distinct}
use Rattle.tree_check.specs.Table.{Table, word, tips, nodes, parents, parent}
use Rattle.tree_check.specs.lemmas.TableParts.{parents-length}
use Rattle.tree_check.specs.IsTree.{IsTree}
use Rattle.tree_check.specs.theorems.RootedTables.{rooted}
use Rattle.counting.specs.ClaimSums.{codes}
use Rattle.counting.specs.theorems.NodePairSums.{CodesInto}
use Rattle.counting.proofs.theorems.Degrees.{degree_most}
use Rattle.counting.proofs.theorems.TreeShape.{tip_leaf}
use Rattle.code_lists.specs.ListedCodes.{codes_of, degree_at, code_into}
use Rattle.code_lists.specs.lemmas.CodesAt.{Parents, own_first, child_later}
use Rattle.code_lists.specs.lemmas.CodesAt.{code_inside, head_of_code}
use Rattle.claims.specs.lemmas.DirectedCells.{NodeCodes}

module _ (t : Table) (g : IsTree t) where
  long : length (parents t) ≡ nodes t
  long = parents-length t g.words

  pub tree_parents : Parents (parents t)
  unfolding parent
  tree_parents =
      let few = g.tips_range in
      let many = g.nodes_range in record {
        some = omega (arith, long);
        few = omega (arith, long);
        before = λ i l m. falls i l;
      }
    where
      falls : (i : ℕ) → 1 ≤ i → word (parents t) i < i
      falls zero l = absurd (omega arith)
      falls (suc i) l = omega (arith, (rooted t g).falls i)

  -- a node's own edge falls towards it, its children's rise
  pub node_codes : (v : ℕ) → 1 ≤ v → v < nodes t
      → NodeCodes (nodes t - 1) (degree_at (parents t) v) (code_into (parents t) v)
  node_codes v l m =
      let o = own_first (parents t) tree_parents v l (omega (arith, long)) in record {
        own = omega (arith, o.1);
        children = λ i li lk. child_later (parents t) tree_parents v i (omega (arith, long)) li lk;
        inside = λ i li. let b = code_inside (parents t) v i li in omega (arith, b, long);
      }

  all_codes : codes_of (parents t) ≡ codes t
  unfolding codes
  all_codes = omega (arith, long)

  -- the codes into v, each once
  pub tree_lists : (v : ℕ) → Lists (codes t) (head (parent t)) v (degree_at (parents t) v) (code_into (parents t) v)
  unfolding parent
  tree_lists v = subst
      (λ (k : ℕ). Lists k (head (word (parents t))) v (degree_at (parents t) v) (code_into (parents t) v))
      all_codes (lists_codes (codes_of (parents t)) (head (word (parents t))) v)

  -- the lists that the code makes
  abbrev pub tree_codes : CodesInto t
  tree_codes = record { degree = degree_at (parents t); code = code_into (parents t); lists = λ v l. tree_lists v }

  pub degree_few : (v : ℕ) → v < nodes t → degree_at (parents t) v ≤ tips t
  degree_few v l = degree_most t g v (degree_at (parents t) v) (code_into (parents t) v) l (tree_lists v)

  -- node 0 is a tip: at most one code leads into it
  pub root_degree : degree_at (parents t) 0 ≤ 1
  unfolding parent
  root_degree = elim (dec_lt 1 (degree_at (parents t) 0)) [
    | yes two ↦ absurd (apart 0 1 (omega arith) two (omega arith) (
        tip_leaf t g 0 (omega (arith, g.root_label, g.tips_range)) (code 0) (code 1)
        (inside 0 (omega arith)) (inside 1 two) (leads 0 (omega arith)) (leads 1 two)))
    | no few ↦ omega arith
  ]
    where
      code : ℕ → ℕ
      code = code_into (parents t) 0

      apart : (i j : ℕ) → i < degree_at (parents t) 0 → j < degree_at (parents t) 0 → i ≢ j → code i ≢ code j
      apart = distinct (codes_of (parents t)) (head (word (parents t))) 0 (degree_at (parents t) 0) code
          (lists_codes (codes_of (parents t)) (head (word (parents t))) 0)

      inside : (i : ℕ) → i < degree_at (parents t) 0 → code i < 2 * (nodes t - 1)
      inside i l = let b = code_inside (parents t) 0 i l in omega (arith, b, long)

      leads : (i : ℕ) → i < degree_at (parents t) 0 → head (word (parents t)) (code i) ≡ 0
      leads i l = head_of_code (codes_of (parents t)) (head (word (parents t))) 0 i l
