-- One tree table with two labels exchanged, and how far each exchange moves it (docs/SPECIFICATION.md, 'Exchanges').
-- Assumes nothing.
use Rattle.std.specs.Prelude.{Bool, true, false, ℕ, ◌+◌, ◌*◌, ◌/◌, ltb}
use Rattle.sums.specs.Bits.{bit, is}
use Rattle.sums.specs.Fours.{fours}
use Rattle.sums.specs.SetsOfFour.{sets2, sets4}
use Rattle.sums.specs.Swaps.{swapped}
use Rattle.trees.specs.declared.quartet.Topology.{Topology}
use Rattle.tree_check.specs.Table.{Table, tips}
use Rattle.trees.specs.Topology.{butterfly, partner, named, topology}
use Rattle.counting.specs.declared.Case.{Case}
use Rattle.counting.specs.declared.Case.TheVariants.{B, C, D}
use Rattle.counting.specs.Cases.{case_of, is_case}

-- With x and y exchanged, the label a is at the tip where the table has `swapped x y a`: the four are the butterfly ab|cd
-- there if some edge has the tips of a and b on one side and those of c and d on the other.
unfoldable pub exchanged_butterfly : Table → ℕ → ℕ → ℕ → ℕ → ℕ → ℕ → Bool
exchanged_butterfly t x y a b c d = butterfly t (swapped x y a) (swapped x y b) (swapped x y c) (swapped x y d)

-- the topology of four labels where x and y are exchanged
unfoldable pub exchanged_topology : Table → ℕ → ℕ → ℕ → ℕ → ℕ → ℕ → Topology
exchanged_topology t x y a b c d =
    named (exchanged_butterfly t x y a b c d) (exchanged_butterfly t x y a c b d) (exchanged_butterfly t x y a d b c)
    (partner a b c d) (partner a c b d) (partner a d b c)

-- how many sets of four labels are in the case k: in the table, and where x and y are exchanged
unfoldable pub exchange_cases : Table → ℕ → ℕ → Case → ℕ
exchange_cases t x y k =
    sets4 (tips t) (λ a b c d. bit (is_case (case_of (topology t a b c d) (exchanged_topology t x y a b c d)) k))

-- the quartet distance B + C + D of the exchanged tree to the table
unfoldable pub exchange_distance : Table → ℕ → ℕ → ℕ
exchange_distance t x y = exchange_cases t x y B + exchange_cases t x y C + exchange_cases t x y D

-- where a distance falls: ten times it divided by the number of sets of four, rounded down; 0 with fewer than four tips
unfoldable pub tally_of : ℕ → ℕ → ℕ
tally_of n distance = elim (ltb n 4) [ true ↦ 0 | false ↦ 10 * distance / fours n ]

-- how many unordered pairs of labels fall in tally i
unfoldable pub tally : Table → ℕ → ℕ
tally t i = sets2 (tips t) (λ x y. is (tally_of (tips t) (exchange_distance t x y)) i)
