-- That a table is another with its pass-through nodes taken out, shown by tests of every node, which a small pair of tables
-- passes by computation.
-- Assumes nothing.
use Rattle.std.specs.Prelude.{◌≡◌, Bool, not, ◌&&◌, ◌||◌, ℕ, T, eqb, ltb}
use Rattle.table_words.specs.Sizes.{inner_label}
use Rattle.sums.specs.Tests.{every}
use Rattle.shapes.specs.Ancestors.{anc}
use Rattle.tree_check.specs.Table.{Table, tips, nodes, parent, label}
use Rattle.tree_check.specs.TreeOrder.{children}

-- node j is an inner node with one child
unfoldable pub passes : Table → ℕ → Bool
passes t j = eqb (label t j) inner_label && eqb (children (nodes t) (parent t) j) 1

-- above node v comes node p, after pass-through nodes alone
unfoldable pub comes_next : Table → ℕ → ℕ → Bool
comes_next t p v =
    anc (parent t) p v
    && (not (eqb p v)
    && every (nodes t) (λ j. not (anc (parent t) p j && anc (parent t) j v) || (eqb j p || (eqb j v || passes t j))))

-- the tests: `node` gives the node of t that a node of u is, and `back` the node of u that a node of t is, if it is one
pub record TakenOutTests (t u : Table) (node back : ℕ → ℕ) : Type 0 where
  pub same_tips : tips t ≡ tips u
  pub inside : T (every (nodes u) (λ i. ltb (node i) (nodes t)))
  pub kept : T (every (nodes u) (λ i. not (passes t (node i))))
  pub different : T (every (nodes u) (λ i. eqb (back (node i)) i))
  pub all : T (every (nodes t) (λ j. passes t j || (ltb (back j) (nodes u) && eqb (node (back j)) j)))
  pub labels : T (every (nodes u) (λ i. eqb (label u i) (label t (node i))))
  pub parents : T (every (nodes u) (λ i. eqb i 0 || comes_next t (node (parent u i)) (node i)))
