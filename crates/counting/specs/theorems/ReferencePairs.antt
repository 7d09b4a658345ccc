-- The reference pairs K1 to K9, computed from the definitions (docs/SPECIFICATION.md, 'The figures K1 to K9').
-- Assumes nothing.
use Rattle.std.specs.Prelude.{List, [], ◌∷◌, ◌++◌, ℕ}
use Rattle.tree_check.specs.Table.{Table, tips, nodes, labels, parent}
use Rattle.walks.specs.theorems.WalkExamples.{X, P}
use Rattle.counting.specs.Labels.{Labels, all}
use Rattle.counting.specs.ClaimSums.{S, S2, S3}
use Rattle.counting.specs.declared.Case.TheVariants.{A, B, C, D, E}
use Rattle.counting.specs.Cases.{quartets, distance}
use Rattle.counting.specs.QuartetTable.{formula_a, formula_b, formula_c, formula_e, formula_d}
use Rattle.counting.specs.theorems.QuartetTheorem.{formula_distance}
use Rattle.counting.specs.SplitCounts.{splits, common_splits, robinson_foulds}
use Rattle.counting.specs.Triplets.{triplets}

-- over labels: S S' S2 S3, A B C D E, distance, splits of the first, of the second, common, Robinson-Foulds distance
unfoldable pub figures_over : Labels → Table → Table → List ℕ
figures_over l t u =
    S l t ∷ S l u ∷ S2 l t u ∷ S3 l t u
    ∷ quartets l t u A ∷ quartets l t u B ∷ quartets l t u C ∷ quartets l t u D ∷ quartets l t u E
    ∷ distance l t u
    ∷ splits l t ∷ splits l u ∷ common_splits l t u ∷ robinson_foulds l t u ∷ []

-- one line of the reference table: those over all labels, then A B C D E of the triplets
unfoldable pub figures : Table → Table → List ℕ
figures t u =
    figures_over (all (tips t)) t u
    ++ (triplets t u A ∷ triplets t u B ∷ triplets t u C ∷ triplets t u D ∷ triplets t u E ∷ [])

-- tip 0, and a node with two children, each with two tips
abbrev pub Halves : Table
Halves = 5 ∷ 8 ∷ 0 ∷ 0 ∷ 1 ∷ 1 ∷ 2 ∷ 2 ∷ 3 ∷ 3 ∷ 0 ∷ X ∷ X ∷ X ∷ 1 ∷ 2 ∷ 3 ∷ 4 ∷ []

-- the five formulas and the distance, from the printed sums
abbrev pub formulas : ℕ → ℕ → ℕ → ℕ → ℕ → List ℕ
formulas n s s' s2 s3 =
    formula_a s2 ∷ formula_b s3 ∷ formula_c s s2 s3 ∷ formula_d s' s2 s3 ∷ formula_e n s s' s2 s3
    ∷ formula_distance s s' s2 s3 ∷ []

-- P with nodes 2 and 3 exchanged: other parent words, the same tree
abbrev pub P' : Table
P' = 5 ∷ 8 ∷ 0 ∷ 0 ∷ 1 ∷ 1 ∷ 2 ∷ 2 ∷ 5 ∷ 5 ∷ 0 ∷ X ∷ X ∷ 1 ∷ 2 ∷ X ∷ 3 ∷ 4 ∷ []
