-- The triplets of two tree tables under the outgroup, tip 0 (docs/SPECIFICATION.md, 'Triplets').
-- Assumes nothing.
use Rattle.std.specs.Prelude.{Bool, ℕ, suc, ◌-◌}
use Rattle.sums.specs.Bits.{bit}
use Rattle.sums.specs.SetsOfFour.{sets3}
use Rattle.shapes.specs.Triplets.{resolved}
use Rattle.trees.specs.declared.quartet.Topology.{Topology}
use Rattle.tree_check.specs.Table.{Table, tips, parent, node_of}
use Rattle.trees.specs.Topology.{named}
use Rattle.counting.specs.declared.Case.{Case}
use Rattle.counting.specs.Cases.{case_of, is_case}
use Rattle.counting.specs.Labels.{Labels}

-- the labels a and b have a lowest common ancestor that is not an ancestor of c
unfoldable pub together : Table → ℕ → ℕ → ℕ → Bool
together t a b c = resolved (parent t) (node_of t a) (node_of t b) (node_of t c)

-- a resolved triplet is told as a butterfly is: by the label apart, which is left with tip 0; an unresolved one is a star
unfoldable pub triplet : Table → ℕ → ℕ → ℕ → Topology
triplet t a b c = named (together t b c a) (together t a c b) (together t a b c) a b c

-- how many sets of three of the labels 1 to n − 1 are in the case k
unfoldable pub triplets : Table → Table → Case → ℕ
triplets t u k = sets3 (tips t - 1) (λ a b c.
    bit (is_case (case_of (triplet t (suc a) (suc b) (suc c)) (triplet u (suc a) (suc b) (suc c))) k))

-- how many sets of three of some labels but 0 are
unfoldable pub triplets_over : Labels → Table → Table → Case → ℕ
triplets_over l t u k = sets3 l.number (λ a b c.
    bit (is_case (case_of (triplet t (l.at a) (l.at b) (l.at c)) (triplet u (l.at a) (l.at b) (l.at c))) k))
