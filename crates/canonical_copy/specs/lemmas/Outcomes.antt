-- What `canonical_copy` answers, as its code finds it.
-- Assumes nothing.
use Rattle.std.specs.Prelude.{◌≡◌, List, ℕ}
use Rattle.std.proofs.Math.ListN.{length}
use Rattle.tree_check.specs.Table.{Table}
use Rattle.canonical_copy.specs.declared.copies.CopyAnswer.{CopyAnswer}
use Rattle.canonical_copy.specs.CopyAnswer.{copy_answer, after_copy, Copied}

-- what the call answers and leaves
abbrev pub CopyAnswered : List ℕ → Table → List ℕ → CopyAnswer → List ℕ → Type 0
CopyAnswered marks t old r new = (r ≡ copy_answer marks t (length old)) × (new ≡ after_copy marks t old) × Copied marks t old r new
