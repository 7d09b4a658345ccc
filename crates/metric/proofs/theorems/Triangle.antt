-- Three trees: the distance from the first to the third is at most the sum of the other two, and so is the weighted
-- distance with k from 128 on.
-- Assumes nothing.
use Rattle.std.specs.Prelude.{◌≡◌, Bool, not, ℕ, ◌+◌, ◌*◌, ◌≤◌, eqb}
use Rattle.std.proofs.Math.Path.{refl}
use Rattle.std.proofs.Common.{◌∙◌, inl, inr}
use Rattle.std.proofs.Math.Bool.{true, false}
use native.Mathlib.Omega.{arith}
use Rattle.sums.specs.Bits.{bit}
use Rattle.sums.specs.theorems.BitLaws.{ne, bit_le, alike}
use Rattle.sums.specs.SetsOfFour.{sets4}
use Rattle.sums.specs.theorems.SetLaws.{sets4-add, sets4_mono, sets4-mul}
use Rattle.tree_check.specs.Table.{Table}
use Rattle.trees.specs.declared.quartet.Topology.{Topology}
use Rattle.trees.specs.declared.quartet.Topology.TheVariants.{Butterfly, Star}
use Rattle.counting.specs.Labels.{Labels}
use Rattle.counting.specs.declared.Case.{Case}
use Rattle.counting.specs.declared.Case.TheVariants.{A, B, C, D}
use Rattle.counting.specs.Cases.{case_of, is_case, topology_at, quartets, distance, weighted}
use Rattle.metric.specs.theorems.Triangle.{topologies_apart, TopologyTriangle, DistanceTriangle}

-- ---- three topologies of one set of four

module _ (k : ℕ) where
  butterflies : (p q : ℕ) → topologies_apart k (Butterfly p) (Butterfly q) ≡ 256 * ne p q
  unfolding topologies_apart case_of is_case bit
  butterflies p q = either (eqb p q)
    where
      either : (b : Bool)
          → 256 * bit (is_case (elim b as (λ x. Case) [ true ↦ A | false ↦ B ]) B)
          + k * (bit (is_case (elim b as (λ x. Case) [ true ↦ A | false ↦ B ]) C)
          + bit (is_case (elim b as (λ x. Case) [ true ↦ A | false ↦ B ]) D))
          ≡ 256 * bit (not b)
      either true = omega arith
      either false = omega arith

  first_only : (p : ℕ) → topologies_apart k (Butterfly p) Star ≡ k
  unfolding topologies_apart case_of is_case bit
  first_only p = omega arith

  second_only : (q : ℕ) → topologies_apart k Star (Butterfly q) ≡ k
  unfolding topologies_apart case_of is_case bit
  second_only q = omega arith

  stars : topologies_apart k Star Star ≡ 0
  unfolding topologies_apart case_of is_case bit
  stars = omega arith

  -- two different partners differ from any third by one of them at least
  three_partners : (p q r : ℕ) → ne p r ≤ ne p q + ne q r
  three_partners p q r = elim (alike p r) [
    | inl e ↦ omega (arith, e.2)
    | inr d ↦ elim (alike p q) [
      | inl e ↦ elim (alike q r) [
        | inl f ↦ absurd (d.0 (e.0 ∙ f.0))
        | inr f ↦ omega (arith, d.2, f.2)
      ]
      | inr e ↦ omega (arith, d.2, e.2)
    ]
  ]

  -- from a butterfly to another through a star: 256 is at most k + k
  three_topologies : TopologyTriangle k
  three_topologies l (Butterfly p) (Butterfly q) (Butterfly r) =
      omega (arith, butterflies p r, butterflies p q, butterflies q r, three_partners p q r)
  three_topologies l (Butterfly p) (Butterfly q) Star = omega (arith, first_only p, first_only q)
  three_topologies l (Butterfly p) Star (Butterfly r) =
      omega (arith, butterflies p r, first_only p, second_only r, bit_le (not (eqb p r)))
  three_topologies l (Butterfly p) Star Star = omega (arith, first_only p)
  three_topologies l Star (Butterfly q) (Butterfly r) = omega (arith, second_only r, second_only q)
  three_topologies l Star (Butterfly q) Star = omega (arith, stars)
  three_topologies l Star Star (Butterfly r) = omega (arith, second_only r)
  three_topologies l Star Star Star = omega (arith, stars)

-- ---- summed over the sets of four

module _ (k : ℕ) (l : Labels) where
  apart_sum_lem : (t u : Table) → sets4 l.number (λ w x y z. topologies_apart k (topology_at l t w x y z) (topology_at l u w x y z)) ≡ weighted k l t u
  unfolding topologies_apart quartets
  apart_sum_lem t u = simp (sets4-add, sets4-mul) refl

  -- of any three tables, tree tables or not
  pub weighted_distances : (t u v : Table) → 128 ≤ k → weighted k l t v ≤ weighted k l t u + weighted k l u v
  weighted_distances t u v low =
      let p : ℕ → ℕ → ℕ → ℕ → Topology = topology_at l t in
      let q : ℕ → ℕ → ℕ → ℕ → Topology = topology_at l u in
      let r : ℕ → ℕ → ℕ → ℕ → Topology = topology_at l v in
      let s = sets4_mono l.number (λ w x y z. topologies_apart k (p w x y z) (r w x y z))
      (λ w x y z. topologies_apart k (p w x y z) (q w x y z) + topologies_apart k (q w x y z) (r w x y z))
      (λ w x y z. three_topologies k (omega (arith, low)) (p w x y z) (q w x y z) (r w x y z)) in
      omega (
        arith,
        s,
        sets4-add l.number (λ w x y z. topologies_apart k (p w x y z) (q w x y z)) (λ w x y z. topologies_apart k (q w x y z) (r w x y z)),
        apart_sum_lem t v,
        apart_sum_lem t u,
        apart_sum_lem u v,
      )

pub three_distances : DistanceTriangle
three_distances l t u v = omega (arith, weighted_distances 256 l t u v (omega arith))
