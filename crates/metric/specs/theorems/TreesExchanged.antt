-- Two trees exchanged: C and D are exchanged, and A, B, E, the distances and the common splits stay.
-- Assumes nothing.
use Rattle.std.specs.Prelude.{◌≡◌, ℕ}
use Rattle.tree_check.specs.Table.{Table}
use Rattle.counting.specs.Labels.{Labels}
use Rattle.counting.specs.declared.Case.{Case}
use Rattle.counting.specs.declared.Case.TheVariants.{A, B, C, D, E}
use Rattle.counting.specs.Cases.{quartets, distance, weighted}
use Rattle.counting.specs.SplitCounts.{common_splits, robinson_foulds}

-- what is counted of two trees in the other order
pub record TreesExchanged (l : Labels) (t u : Table) : Type 0 where
  pub A_stays : quartets l u t A ≡ quartets l t u A
  pub B_stays : quartets l u t B ≡ quartets l t u B
  pub C_is_D : quartets l u t C ≡ quartets l t u D
  pub D_is_C : quartets l u t D ≡ quartets l t u C
  pub E_stays : quartets l u t E ≡ quartets l t u E
  pub distance_stays : distance l u t ≡ distance l t u
  pub weighted_stays : (k : ℕ) → weighted k l u t ≡ weighted k l t u
  pub common_stays : common_splits l u t ≡ common_splits l t u
  pub robinson_foulds_stays : robinson_foulds l u t ≡ robinson_foulds l t u

-- a case, seen from the other tree
unfoldable pub from_other : Case → Case
from_other A = A
from_other B = B
from_other C = D
from_other D = C
from_other E = E
