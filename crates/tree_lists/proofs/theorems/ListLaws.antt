-- The cut of a list: its tables lie within it, end to end; and the largest of some values.
-- Assumes nothing.
use Rattle.std.specs.Prelude.{◌≡◌, List, length, take, drop}
use Rattle.std.proofs.Math.Path.{refl}
use Prim.Native.Nat.{ℕ, zero, suc, ◌+◌, ◌-◌, ◌≤◌, ◌<◌}
use Rattle.std.proofs.Math.Decide.{ℕ_discrete}
use native.Mathlib.Omega.{arith}
use Rattle.std.proofs.Math.ListN.{length-drop}
use Rattle.table_words.specs.Cutting.{table_length, first_table}
use Rattle.table_words.proofs.lemmas.CutWords.{length_inside}
use Rattle.tree_lists.specs.TreeLists.{start_of, tree_at, largest}

module _ (list : List ℕ) where
  pub next_start : (i : ℕ) → start_of list (suc i) ≡ start_of list i + table_length (drop (start_of list i) list)
  unfolding start_of
  next_start i = refl

  -- no table goes beyond the list
  pub start_inside : 1 ≤ length list → (i : ℕ) → start_of list i ≤ length list
  unfolding start_of
  start_inside l zero = l
  start_inside l (suc i) = omega (
    arith,
    start_inside l i,
    length_inside (drop (start_of list i) list),
    length-drop (start_of list i) list,
  )

  pub start_rises : (i : ℕ) → start_of list i ≤ start_of list (suc i)
  start_rises i = omega (arith, next_start i)

  -- tree i as code lends it: `&list[s..e]`
  pub tree_part : (i s e : ℕ) → s ≡ start_of list i → e ≡ start_of list (suc i) → take (e - s) (drop s list) ≡ tree_at list i
  unfolding tree_at first_table
  tree_part i s e p q =
      let d : e - s ≡ table_length (drop (start_of list i) list) = omega (arith, p, q, next_start i) in
      rw (d, p) refl

-- ---- the largest

pub largest-ge : (k : ℕ) (f : ℕ → ℕ) (i : ℕ) → i < k → f i ≤ largest k f
unfolding largest
largest-ge zero f i l = absurd (omega arith)
largest-ge (suc k) f i l = elim (ℕ_discrete i k) [
  | yes e ↦ rw e (omega arith)
  | no d ↦ omega (arith, largest-ge k f i (omega arith))
]

pub largest-le : (k : ℕ) (f : ℕ → ℕ) (b : ℕ) → ((i : ℕ) → i < k → f i ≤ b) → largest k f ≤ b
unfolding largest
largest-le zero f b h = omega arith
largest-le (suc k) f b h = omega (arith, largest-le k f b (λ i l. h i (omega arith)), h k (omega arith))
