-- The part of the list of edges that belongs to a node.
-- Assumes nothing.
use Rattle.std.specs.Prelude.{◌≡◌, List, ℕ, suc, ◌+◌, ◌-◌, ◌≤◌, ◌<◌, length, take, drop}
use Rattle.std.proofs.Common.{◌∙◌, ap, add-one, arith, length-drop, get_or-take, get_or-drop, length-take-le}
use Rattle.table_words.specs.lemmas.Rooms.{code_room}
use Rattle.tree_check.specs.Table.{word}
use Rattle.code_lists.specs.ListedCodes.{degree_at, codes_before}
use Rattle.code_lists.specs.lemmas.CodesAt.{Parents, CodeStarts, EdgeList}
use Rattle.code_lists.specs.lemmas.CodesAt.{starts_inside, starts_suc, code_inside}
use Rattle.claims.specs.lemmas.SumsByNode.{edge_into}

-- the edges of the codes into the nodes of a tree, and where each node's begin
pub record CodeLists (ps starts edges : List ℕ) : Type 0 where
  pub parents : Parents ps
  pub begins : CodeStarts ps starts
  pub listed : EdgeList ps edges
  pub long : length edges ≡ code_room

-- `&edges[starts[v]..starts[v + 1]]`
abbrev pub node_part : List ℕ → List ℕ → ℕ → List ℕ
node_part starts edges v = take (word starts (v + 1) - word starts v) (drop (word starts v) edges)

module _ (ps starts edges : List ℕ) (h : CodeLists ps starts edges) (v : ℕ) (l : v < length ps) where
  begin_is : word starts v ≡ codes_before ps v
  begin_is = h.begins.at v (omega arith)

  end_is : word starts (v + 1) ≡ codes_before ps v + degree_at ps v
  end_is = h.begins.at (v + 1) (omega arith) ∙ ap (codes_before ps) (add-one v) ∙ starts_suc ps v

  -- the part lies in the list
  pub part_inside : (word starts v ≤ word starts (v + 1)) × (word starts (v + 1) ≤ length edges)
      × (length edges ≡ code_room)
  part_inside =
      let few = h.parents.few in (
        omega (arith, begin_is, end_is),
        omega (arith, end_is, starts_suc ps v, starts_inside ps (suc v), h.long),
        h.long,
      )

  -- it has an edge for each code into v, ..
  pub part_length : length (node_part starts edges v) ≡ degree_at ps v
  part_length =
      let i = part_inside in
      omega (
        arith,
        length-take-le (word starts (v + 1) - word starts v) (drop (word starts v) edges)
            (omega (arith, i.0, i.1, length-drop (word starts v) edges)),
        begin_is,
        end_is,
      )

  -- .. that code's
  pub part_edge : (i : ℕ) → i < degree_at ps v → word (node_part starts edges v) i ≡ edge_into ps v i
  part_edge i m =
      get_or-take (word starts (v + 1) - word starts v) (drop (word starts v) edges) i 0
      (omega (arith, begin_is, end_is))
      ∙ get_or-drop (word starts v) edges i 0
      ∙ ap (λ (b : ℕ). word edges (b + i)) begin_is
      ∙ h.listed.at v i l m

  -- and it is an edge of the tree
  pub edge_inside : (i : ℕ) → i < degree_at ps v → edge_into ps v i < length ps - 1
  edge_inside i m = let b = code_inside ps v i m in omega arith
