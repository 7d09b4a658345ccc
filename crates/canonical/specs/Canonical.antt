-- A canonical table: under the original rules, its nodes numbered depth first, children by their smallest label
-- (docs/SPECIFICATION.md, 'The canonical copy').
-- Assumes nothing.
use Rattle.std.specs.Prelude.{◌≡◌, ℕ, ◌≤◌, ◌<◌}
use Rattle.sums.specs.Bits.{bit}
use Rattle.shapes.specs.Ancestors.{anc}
use Rattle.tree_check.specs.Table.{Table, tips, nodes, parent, beyond}
use Rattle.canonical.specs.Original.{IsOriginal}

pub record IsCanonical (t : Table) : Type 0 where
  pub original : IsOriginal t
  -- depth first: of two children of a node, all at or below the first come before all at or below the second
  pub depth_first : (a b i j : ℕ) → 1 ≤ a → a < b → parent t a ≡ parent t b
      → bit (anc (parent t) a i) ≡ 1 → bit (anc (parent t) b j) ≡ 1 → i < nodes t → j < nodes t → i < j
  -- children by their smallest label: for each label beyond the later child a smaller one is beyond the earlier
  pub rising : (a b y : ℕ) → 1 ≤ a → a < b → b < nodes t → parent t a ≡ parent t b
      → y < tips t → bit (beyond t b y) ≡ 1 → (x : ℕ) × (x < y) × (bit (beyond t a x) ≡ 1)
