-- The labels that marks keep, by rank (docs/SPECIFICATION.md, 'Kept labels').
-- Assumes nothing.
use Rattle.std.specs.Prelude.{Bool, true, false, not, ◌&&◌, List, ℕ, zero, suc, eqb}
use Rattle.sums.specs.Counts.{count}
use Rattle.marks.specs.Marks.{is_kept, kept_of}
use Rattle.counting.specs.Labels.{Labels}

-- the kept label of rank i, of the labels below n
unfoldable pub kept_at : (ℕ → Bool) → ℕ → ℕ → ℕ
kept_at q zero i = 0
kept_at q (suc n) i = elim (q n) [
  | true ↦ elim (eqb (count n q) i) [ true ↦ n | false ↦ kept_at q n i ]
  | false ↦ kept_at q n i
]

-- those of n labels that pass a test
abbrev pub passing : (ℕ → Bool) → ℕ → Labels
passing q n = record { number = count n q; at = kept_at q n }

-- those of n labels that marks keep
abbrev pub kept : List ℕ → ℕ → Labels
kept marks n = record { number = kept_of marks n; at = kept_at (is_kept marks) n }

-- y is kept, and is not x
unfoldable pub is_other : List ℕ → ℕ → ℕ → Bool
is_other marks x y = is_kept marks y && not (eqb y x)

-- those of n labels that marks keep, without x
abbrev pub others : List ℕ → ℕ → ℕ → Labels
others marks x n = record { number = count n (is_other marks x); at = kept_at (is_other marks x) n }
