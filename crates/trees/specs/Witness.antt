-- What shows the topology of four labels in a tree table (docs/SPECIFICATION.md, 'Witnesses').
-- Assumes nothing.
use Rattle.std.specs.Prelude.{◌≡◌, Bool, true, false, ◌≢◌, [], ◌∷◌, ℕ, suc, ◌-◌, ◌≤◌, ◌<◌, T}
use Rattle.sums.specs.Tests.{some, first}
use Rattle.shapes.specs.Quartets.{parts_four, TwoAndTwo}
use Rattle.shapes.specs.Centres.{on_six, meet_of}
use Rattle.trees.specs.declared.quartet.Topology.TheVariants.{Star}
use Rattle.trees.specs.declared.witness.Witness.{Witness}
use Rattle.trees.specs.declared.witness.Witness.TheVariants.{Edge, Meet}
use Rattle.trees.specs.declared.witness.WitnessAnswer.{WitnessAnswer}
use Rattle.tree_check.specs.Table.{Table, nodes, parent, node_of}
use Rattle.tree_check.specs.Refusals.{refusal, if_accepted}
use Rattle.asked_labels.specs.LabelOrder.{label_order}
use Rattle.trees.specs.Topology.{topology, butterfly_of}

-- edge j + 1 has two of the four labels on each side
unfoldable pub parts_labels : Table → ℕ → ℕ → ℕ → ℕ → ℕ → Bool
parts_labels t a b c d j = parts_four (parent t) (suc j) (node_of t a) (node_of t b) (node_of t c) (node_of t d)

-- the lowest-numbered edge that does, if there is one
unfoldable pub parting_edge : Table → ℕ → ℕ → ℕ → ℕ → ℕ
parting_edge t a b c d = suc (first (nodes t - 1) (parts_labels t a b c d))

-- the node where all paths between the four tips meet, if there is one
unfoldable pub meeting_node : Table → ℕ → ℕ → ℕ → ℕ → ℕ
meeting_node t a b c d = meet_of (parent t) (nodes t - 1) (node_of t a) (node_of t b) (node_of t c) (node_of t d)

-- the edge, or where no edge parts them the node
unfoldable pub witness : Table → ℕ → ℕ → ℕ → ℕ → Witness
witness t a b c d = elim (some (nodes t - 1) (parts_labels t a b c d)) [
  | true ↦ Edge (parting_edge t a b c d)
  | false ↦ Meet (meeting_node t a b c d)
]

-- the number, and the topology with its witness or a star that meets at node 0
unfoldable pub witness_answer : Table → ℕ → ℕ → ℕ → ℕ → WitnessAnswer
witness_answer t a b c d =
    let number = refusal (label_order t (a ∷ b ∷ c ∷ d ∷ [])) in
    record {
      refusal = number;
      topology = if_accepted number (topology t a b c d) Star;
      witness = if_accepted number (witness t a b c d) (Meet 0);
    }

-- ---- what a witness tells, in numbers

-- 1 for an edge, 0 for a meeting node
abbrev pub is_edge : Witness → ℕ
is_edge (Edge i) = 1
is_edge (Meet v) = 0

-- the number of the edge, or of the node
abbrev pub witness_number : Witness → ℕ
witness_number (Edge i) = i
witness_number (Meet v) = v

-- ---- what an answer tells of the edges and the paths

-- edge i has two of the four labels on each side
abbrev pub PartsAt : Table → ℕ → ℕ → ℕ → ℕ → ℕ → Type 0
PartsAt t i a b c d = TwoAndTwo (parent t) i (node_of t a) (node_of t b) (node_of t c) (node_of t d)

-- .. and no lower-numbered one has
pub record LowestParting (t : Table) (a b c d i : ℕ) : Type 0 where
  pub above : 1 ≤ i
  pub edge : i < nodes t
  pub parts : PartsAt t i a b c d
  pub lowest : (j : ℕ) → 1 ≤ j → j < i → PartsAt t j a b c d → ⊥

-- node v is on every path between two of the four tips
abbrev pub OnAllPaths : Table → ℕ → ℕ → ℕ → ℕ → ℕ → Type 0
OnAllPaths t v a b c d = T (on_six (parent t) (nodes t - 1) v (node_of t a) (node_of t b) (node_of t c) (node_of t d))

-- .. and no other node is
pub record OneMeeting (t : Table) (a b c d v : ℕ) : Type 0 where
  pub node : v < nodes t
  pub on_paths : OnAllPaths t v a b c d
  pub only : (w : ℕ) → w < nodes t → OnAllPaths t w a b c d → w ≡ v

-- what a witness shows: the lowest-numbered edge that parts the four, or, only if no edge does, the one node where they meet
pub record ShownBy (t : Table) (a b c d : ℕ) (w : Witness) : Type 0 where
  pub edge : is_edge w ≡ 1 → LowestParting t a b c d (witness_number w)
  pub no_edge : is_edge w ≡ 0 → (i : ℕ) → 1 ≤ i → i < nodes t → PartsAt t i a b c d → ⊥
  pub meets : is_edge w ≡ 0 → OneMeeting t a b c d (witness_number w)

-- what an answer tells
pub record WitnessTold (t : Table) (a b c d : ℕ) (r : WitnessAnswer) : Type 0 where
  pub number_told : r.refusal ≡ refusal (label_order t (a ∷ b ∷ c ∷ d ∷ []))
  -- a refusal tells meeting node 0
  pub refused : r.refusal ≢ 0 → (is_edge r.witness ≡ 0) × (witness_number r.witness ≡ 0)
  -- a butterfly is told with an edge, a star with a meeting node
  pub by_kind : butterfly_of r.topology ≡ is_edge r.witness
  pub shown : r.refusal ≡ 0 → ShownBy t a b c d r.witness
