-- Labels alone: what two tables with the same splits have in common (docs/SPECIFICATION.md, 'Demand 2: acceptance,
-- published figures, labels alone').
-- Assumes nothing.
use Rattle.std.specs.Prelude.{◌≡◌, ℕ}
use Rattle.shapes.specs.theorems.FourLabels.{Four}
use Rattle.tree_check.specs.Table.{Table, tips}
use Rattle.tree_check.specs.IsTree.{IsTree}
use Rattle.trees.specs.Topology.{topology_answer}
use Rattle.counting.specs.Labels.{Labels}
use Rattle.counting.specs.theorems.LabelLaws.{Rising}
use Rattle.counting.specs.ClaimSums.{S, S2, S3}
use Rattle.counting.specs.declared.Case.{Case}
use Rattle.counting.specs.Cases.{topology_at, quartets, distance}
use Rattle.counting.specs.SplitCounts.{splits, common_splits, robinson_foulds}
use Rattle.counting.specs.Triplets.{triplets}

-- the figures of two pairs of tables are the same
pub record SameFigures (l : Labels) (t u t' u' : Table) : Type 0 where
  pub first : S l t ≡ S l t'
  pub second : S l u ≡ S l u'
  pub same : S2 l t u ≡ S2 l t' u'
  pub different : S3 l t u ≡ S3 l t' u'
  pub counts : (k : Case) → quartets l t u k ≡ quartets l t' u' k
  pub distance : distance l t u ≡ distance l t' u'
  pub first_splits : splits l t ≡ splits l t'
  pub second_splits : splits l u ≡ splits l u'
  pub common : common_splits l t u ≡ common_splits l t' u'
  pub robinson_foulds_same : robinson_foulds l t u ≡ robinson_foulds l t' u'

-- what is counted of the labels l is the same
pub record AloneAt (l : Labels) (t t' : Table) : Type 0 where
  -- the topologies of any four of them
  pub topologies : (a b c d : ℕ) → Four l.number a b c d → topology_at l t a b c d ≡ topology_at l t' a b c d
  -- against any third table, on either side
  pub as_first : (u : Table) → IsTree u → tips t ≡ tips u → SameFigures l t u t' u
  pub as_second : (u : Table) → IsTree u → tips u ≡ tips t → SameFigures l u t u t'

-- what is counted depends on the labels of the tips alone
pub record LabelsAlone (t t' : Table) : Type 0 where
  -- what topology_of answers of any four labels, refused or not
  pub answers : (a b c d : ℕ) → topology_answer t a b c d ≡ topology_answer t' a b c d
  -- the figures, whichever labels are counted
  pub figures : (l : Labels) → Rising (tips t) l → AloneAt l t t'
  -- the triplets, against any third table on either side
  pub triplets_first : (u : Table) → IsTree u → tips t ≡ tips u → (k : Case) → triplets t u k ≡ triplets t' u k
  pub triplets_second : (u : Table) → IsTree u → tips u ≡ tips t → (k : Case) → triplets u t k ≡ triplets u t' k
