-- The topology of four labels in a tree table (docs/SPECIFICATION.md, 'Topologies' and 'Topology').
-- Assumes nothing.
use Rattle.std.specs.Prelude.{◌≡◌, Bool, true, false, ◌≢◌, [], ◌∷◌, ℕ, ◌-◌, min, max, ltb}
use Rattle.shapes.specs.Quartets.{Parted, parted}
use Rattle.trees.specs.declared.quartet.Topology.{Topology}
use Rattle.trees.specs.declared.quartet.Topology.TheVariants.{Butterfly, Star}
use Rattle.trees.specs.declared.quartet.TopologyAnswer.{TopologyAnswer}
use Rattle.tree_check.specs.Table.{Table, nodes, parent, node_of}
use Rattle.tree_check.specs.Refusals.{refusal, if_accepted}
use Rattle.asked_labels.specs.LabelOrder.{label_order}

-- the four are the butterfly ab|cd: some edge has a and b on one side and c and d on the other
unfoldable pub butterfly : Table → ℕ → ℕ → ℕ → ℕ → Bool
butterfly t a b c d = parted (parent t) (nodes t - 1) (node_of t a) (node_of t b) (node_of t c) (node_of t d)

-- the partner of the smallest label in ab|cd: the larger one of the pair that holds the smallest
unfoldable pub partner : ℕ → ℕ → ℕ → ℕ → ℕ
partner a b c d = elim (ltb (min a b) (min c d)) [ true ↦ max a b | false ↦ max c d ]

-- the first test that is passed names its partner; where none is, they are a star
unfoldable pub named : Bool → Bool → Bool → ℕ → ℕ → ℕ → Topology
named x y z p q r = elim x [
  | true ↦ Butterfly p
  | false ↦ elim y [ true ↦ Butterfly q | false ↦ elim z [ true ↦ Butterfly r | false ↦ Star ] ]
]

unfoldable pub topology : Table → ℕ → ℕ → ℕ → ℕ → Topology
topology t a b c d =
    named (butterfly t a b c d) (butterfly t a c b d) (butterfly t a d b c)
    (partner a b c d) (partner a c b d) (partner a d b c)

-- a number, and the topology or a star
unfoldable pub topology_under : ℕ → Table → ℕ → ℕ → ℕ → ℕ → TopologyAnswer
topology_under number t a b c d = record { refusal = number; topology = if_accepted number (topology t a b c d) Star }

-- the number of four labels that are asked about
unfoldable pub topology_answer : Table → ℕ → ℕ → ℕ → ℕ → TopologyAnswer
topology_answer t a b c d = topology_under (refusal (label_order t (a ∷ b ∷ c ∷ d ∷ []))) t a b c d

-- ---- what an answer tells, in numbers

-- 1 for a butterfly, 0 for a star
abbrev pub butterfly_of : Topology → ℕ
butterfly_of (Butterfly p) = 1
butterfly_of Star = 0

-- the partner that a butterfly names, 0 for a star
abbrev pub partner_of : Topology → ℕ
partner_of (Butterfly p) = p
partner_of Star = 0

-- some edge has a, b on one side and c, d on the other
abbrev pub PartedIn : Table → ℕ → ℕ → ℕ → ℕ → Type 0
PartedIn t a b c d = Parted (parent t) (nodes t - 1) (node_of t a) (node_of t b) (node_of t c) (node_of t d)

-- what an answer with that number tells of the edges
pub record TopologyTold (number : ℕ) (t : Table) (a b c d : ℕ) (r : TopologyAnswer) : Type 0 where
  pub number_told : r.refusal ≡ number
  -- a refusal tells a star
  pub refused : r.refusal ≢ 0 → (butterfly_of r.topology ≡ 0) × (partner_of r.topology ≡ 0)
  -- the butterfly whose pairs some edge has on its two sides
  pub with_b : r.refusal ≡ 0 → PartedIn t a b c d
      → (butterfly_of r.topology ≡ 1) × (partner_of r.topology ≡ partner a b c d)
  pub with_c : r.refusal ≡ 0 → PartedIn t a c b d
      → (butterfly_of r.topology ≡ 1) × (partner_of r.topology ≡ partner a c b d)
  pub with_d : r.refusal ≡ 0 → PartedIn t a d b c
      → (butterfly_of r.topology ≡ 1) × (partner_of r.topology ≡ partner a d b c)
  -- a star if no edge has two of them on each side
  pub star : r.refusal ≡ 0 → (PartedIn t a b c d → ⊥) → (PartedIn t a c b d → ⊥) → (PartedIn t a d b c → ⊥)
      → (butterfly_of r.topology ≡ 0) × (partner_of r.topology ≡ 0)

-- .. with the number of four labels that are asked about
abbrev pub Told : Table → ℕ → ℕ → ℕ → ℕ → TopologyAnswer → Type 0
Told t a b c d r = TopologyTold (refusal (label_order t (a ∷ b ∷ c ∷ d ∷ []))) t a b c d r
