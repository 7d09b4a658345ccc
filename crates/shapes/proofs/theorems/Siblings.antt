-- Two nodes in different branches: two children of one node, one above each.
-- Assumes nothing.
use Rattle.std.specs.Prelude.{◌≡◌, ◌≢◌, ℕ, suc}
use Rattle.std.proofs.Common.{ap, inl, inr, arith}
use Rattle.sums.specs.Bits.{bit}
use Rattle.sums.specs.theorems.BitLaws.{bit_cases}
use Rattle.shapes.specs.Ancestors.{anc}
use Rattle.shapes.specs.theorems.AncestorLaws.{Rooted}
use Rattle.shapes.proofs.theorems.AncestorLaws.{up_ind, anc_up, anc_self, anc_root, anc_down}
use Rattle.shapes.proofs.theorems.PathLaws.{towards}
use Rattle.shapes.specs.theorems.Siblings.{Siblings}

module _ (up : ℕ → ℕ) (r : Rooted up) where
  -- of two nodes neither above the other
  pub parting : (i j : ℕ) → bit (anc up i j) ≡ 0 → bit (anc up j i) ≡ 0 → Siblings up i j
  parting i =
      up_ind up r (λ j. bit (anc up i j) ≡ 0 → bit (anc up j i) ≡ 0 → Siblings up i j)
      (λ h g. absurd (omega (arith, anc_root up r i)))
      (λ w ih h g. elim (bit_cases (anc up (up (suc w)) i)) [
        | inl z ↦ lower w (ih (omega (arith, anc_up up r i w)) z)
        | inr o ↦ meet w h g o
      ])
    where
      lower : (w : ℕ) → Siblings up i (up (suc w)) → Siblings up i (suc w)
      lower w s = record {
        one = s.one;
        two = s.two;
        pos_one = s.pos_one;
        pos_two = s.pos_two;
        level = s.level;
        apart = s.apart;
        over_one = s.over_one;
        over_two = anc_down up r s.two (suc w) (omega arith) s.over_two;
      }

      meet : (w : ℕ) → bit (anc up i (suc w)) ≡ 0 → bit (anc up (suc w) i) ≡ 0
          → bit (anc up (up (suc w)) i) ≡ 1 → Siblings up i (suc w)
      meet w h g o =
          let ne : up (suc w) ≢ i = λ e. absurd (omega (
            arith,
            anc_up up r i w,
            anc_self up r i,
            ap (λ (x : ℕ). bit (anc up i x)) e,
          )) in
          let s = towards up r i (up (suc w)) i (omega arith) ne o in
          record {
            one = suc s.0;
            two = suc w;
            pos_one = omega arith;
            pos_two = omega arith;
            level = s.2;
            apart = λ e. absurd (omega (arith, s.3, g, ap (λ (x : ℕ). bit (anc up x i)) e));
            over_one = s.3;
            over_two = anc_self up r (suc w);
          }
