-- The canonical copy of a tree that is rooted at the tip of its label 0: nodes 0 to m − 1 with the parents `up`, and k labels
-- at the nodes `node`. An executable definition (docs/SPECIFICATION.md, 'The canonical copy').
-- Assumes nothing.
use Rattle.std.specs.Prelude.{Bool, true, false, ◌&&◌, ◌||◌, ◌∷◌, ◌++◌, ℕ, zero, suc, ◌+◌, ◌*◌, eqb, ltb, leb}
use Rattle.table_words.specs.Sizes.{inner_label}
use Rattle.sums.specs.Sum.{sum}
use Rattle.sums.specs.Bits.{bit}
use Rattle.sums.specs.Tests.{some, first}
use Rattle.sums.specs.Counts.{count}
use Rattle.sums.specs.Lists.{in_order}
use Rattle.shapes.specs.Ancestors.{anc}
use Rattle.tree_check.specs.Table.{Table}

module _ (up : ℕ → ℕ) (m : ℕ) (node : ℕ → ℕ) (k : ℕ) where
  -- a label lies at node v or below: its branch is not empty
  unfoldable pub full : ℕ → Bool
  full v = some k (λ x. anc up v (node x))

  -- the smallest label at node v or below
  unfoldable pub low : ℕ → ℕ
  low v = first k (λ x. anc up v (node x))

  -- c is a child of v with a label at c or below
  unfoldable pub branch : ℕ → ℕ → Bool
  branch v c = ltb 0 c && eqb (up c) v && full c

  -- v has a label
  unfoldable pub tip : ℕ → Bool
  tip v = some k (λ x. eqb (node x) v)

  -- pass-through nodes and empty branches go: what stays has a label, or two branches
  unfoldable pub stays : ℕ → Bool
  stays v = tip v || leb 2 (count m (branch v))

  -- how many nodes stay at v and below
  unfoldable pub copy_size : ℕ → ℕ
  copy_size v = count m (λ w. stays w && anc up v w)

  -- how many stay in the branches of v that have a smaller label than c
  unfoldable pub earlier : ℕ → ℕ → ℕ
  earlier v c = sum m (λ d. bit (branch v d && ltb (low d) (low c)) * copy_size d)

  -- nodes are numbered depth first, children by their smallest label: after the parent's number come the parent itself, if
  -- it stays, and its branches with smaller labels
  unfoldable pub number_in : ℕ → ℕ → ℕ
  number_in zero v = 0
  number_in (suc f) zero = 0
  number_in (suc f) (suc w) = number_in f (up (suc w)) + bit (stays (up (suc w))) + earlier (up (suc w)) (suc w)

  unfoldable pub number : ℕ → ℕ
  number v = number_in v v

  -- the next node above v that stays
  unfoldable pub over_in : ℕ → ℕ → ℕ
  over_in zero v = 0
  over_in (suc f) v = elim (stays (up v)) [ true ↦ up v | false ↦ over_in f (up v) ]

  unfoldable pub over : ℕ → ℕ
  over v = over_in v v

  -- the node that is numbered i
  unfoldable pub at : ℕ → ℕ
  at i = first m (λ v. stays v && eqb (number v) i)

  -- the label of v, or the mark of an inner node
  unfoldable pub label_word : ℕ → ℕ
  label_word v = elim (tip v) [ true ↦ first k (λ x. eqb (node x) v) | false ↦ inner_label ]

  -- the words: k, how many nodes stay, their parents and their labels
  unfoldable pub copy_of : Table
  copy_of =
      k ∷ copy_size 0 ∷ (in_order (copy_size 0) (λ i. number (over (at i))) ++ in_order (copy_size 0) (λ i. label_word (at i)))
