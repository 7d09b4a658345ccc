-- Two trees exchanged: C and D are exchanged, and A, B, E, the distances and the common splits stay.
-- Assumes nothing.
use Rattle.std.specs.Prelude.{◌≡◌, refl, Bool, true, false, ℕ, ◌*◌, ◌-◌, eqb}
use Rattle.std.proofs.Common.{sym, ◌∙◌}
use Rattle.std.proofs.Math.Path.{ap}
use native.Mathlib.Omega.{arith}
use Rattle.sums.specs.Bits.{bit}
use Rattle.sums.specs.theorems.BitLaws.{bit_inj, is_sym}
use Rattle.sums.specs.theorems.SetLaws.{sets4_ext}
use Rattle.shapes.proofs.theorems.RobinsonFoulds.{common_turned}
use Rattle.tree_check.specs.Table.{Table, tips, nodes}
use Rattle.tree_check.specs.IsTree.{IsTree}
use Rattle.trees.specs.declared.quartet.Topology.{Topology}
use Rattle.trees.specs.declared.quartet.Topology.TheVariants.{Butterfly, Star}
use Rattle.counting.specs.Labels.{Labels}
use Rattle.counting.specs.declared.Case.{Case}
use Rattle.counting.specs.declared.Case.TheVariants.{A, B, C, D, E}
use Rattle.counting.specs.Cases.{case_of, is_case, topology_at, quartets}
use Rattle.counting.specs.ClaimSums.{S2, S3}
use Rattle.counting.specs.QuartetTable.{formula_a, formula_b}
use Rattle.counting.specs.SplitCounts.{beyond_at, common_splits, robinson_foulds}
use Rattle.counting.specs.theorems.LabelLaws.{Rising}
use Rattle.counting.proofs.theorems.QuartetTheorem.{quartet_theorem}
use Rattle.metric.specs.theorems.TreesExchanged.{TreesExchanged, from_other}

other_case : (p q : Topology) → case_of q p ≡ from_other (case_of p q)
unfolding case_of from_other
other_case (Butterfly p) (Butterfly q) =
    ap (λ (b : Bool). elim b as (λ x. Case) [ true ↦ A | false ↦ B ]) (bit_inj (eqb q p) (eqb p q) (is_sym q p)) ∙ either (eqb p q)
  where
    either : (b : Bool) → elim b as (λ x. Case) [ true ↦ A | false ↦ B ]
        ≡ from_other (elim b as (λ x. Case) [ true ↦ A | false ↦ B ])
    either true = refl
    either false = refl
other_case (Butterfly p) Star = refl
other_case Star (Butterfly q) = refl
other_case Star Star = refl

other_is : (c k : Case) → is_case (from_other c) k ≡ is_case c (from_other k)
unfolding is_case from_other
other_is A A = refl
other_is A B = refl
other_is A C = refl
other_is A D = refl
other_is A E = refl
other_is B A = refl
other_is B B = refl
other_is B C = refl
other_is B D = refl
other_is B E = refl
other_is C A = refl
other_is C B = refl
other_is C C = refl
other_is C D = refl
other_is C E = refl
other_is D A = refl
other_is D B = refl
other_is D C = refl
other_is D D = refl
other_is D E = refl
other_is E A = refl
other_is E B = refl
other_is E C = refl
other_is E D = refl
other_is E E = refl

module _ (l : Labels) (t u : Table) where
  count-exchanged : (k : Case) → quartets l u t k ≡ quartets l t u (from_other k)
  unfolding quartets
  count-exchanged k = sets4_ext l.number _ _ (λ w x y z wx xy yz m.
      let p = topology_at l t w x y z in
      let q = topology_at l u w x y z in
      ap bit (ap (λ (c : Case). is_case c k) (other_case p q) ∙ other_is (case_of p q) k))

  common_exchanged : common_splits l u t ≡ common_splits l t u
  unfolding common_splits
  common_exchanged = common_turned l.number (nodes u - 1) (beyond_at l u) (nodes t - 1) (beyond_at l t)

  robinson_foulds-exchanged : robinson_foulds l u t ≡ robinson_foulds l t u
  unfolding robinson_foulds
  robinson_foulds-exchanged = omega (arith, common_exchanged)

  -- of any two tables, tree tables or not
  pub trees_exchanged : TreesExchanged l t u
  unfolding from_other
  trees_exchanged = record {
    A_stays = count-exchanged A;
    B_stays = count-exchanged B;
    C_is_D = count-exchanged C;
    D_is_C = count-exchanged D;
    E_stays = count-exchanged E;
    distance_stays = omega (arith, count-exchanged B, count-exchanged C, count-exchanged D);
    weighted_stays = λ k. omega (
      arith,
      count-exchanged B,
      ap (λ (c : ℕ). k * c) (count-exchanged C),
      ap (λ (c : ℕ). k * c) (count-exchanged D),
    );
    common_stays = common_exchanged;
    robinson_foulds_stays = robinson_foulds-exchanged;
  }

  -- the claim sums over pairs of claims stay too
  pub sums_exchanged : IsTree t → IsTree u → tips t ≡ tips u → Rising (tips t) l → Rising (tips u) l
      → (S2 l u t ≡ S2 l t u) × (S3 l u t ≡ S3 l t u)
  unfolding formula_a formula_b
  sums_exchanged g h e r s =
      let p = quartet_theorem l t u g h e r in
      let q = quartet_theorem l u t h g (sym e) s in (
        omega (arith, trees_exchanged.A_stays, p.A_counts, q.A_counts, p.S2_even, q.S2_even),
        omega (arith, trees_exchanged.B_stays, p.B_counts, q.B_counts, p.S3_fourfold, q.S3_fourfold),
      )
