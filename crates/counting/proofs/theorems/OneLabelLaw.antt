-- The one-label law: the counts over the kept labels with x are those without x, and the sets that hold x.
-- Assumes nothing.
use Rattle.std.specs.Prelude.{◌≡◌, ◌&&◌, ◌≢◌, List, ℕ, ◌+◌, ◌*◌, ◌<◌}
use Rattle.std.proofs.Math.Path.{refl, ap, fun_ext}
use Rattle.std.proofs.Common.{sym, ◌∙◌, ap₂, inl, inr, arith}
use Rattle.std.proofs.Math.Bool.{not}
use Rattle.std.proofs.Math.Decide.{ℕ_discrete}
use Rattle.std.proofs.Math.Dec.{eqb}
use Rattle.sums.specs.Bits.{bit, is}
use Rattle.sums.specs.theorems.BitLaws.{is_other_lem, is_eq, bit_inj, alike}
use Rattle.sums.specs.SetsOfFour.{sets3, sets4}
use Rattle.shapes.specs.theorems.FourLabels.{Four}
use Rattle.trees.specs.declared.quartet.Topology.{Topology}
use Rattle.tree_check.specs.Table.{Table, word, tips}
use Rattle.tree_check.specs.IsTree.{IsTree}
use Rattle.trees.specs.Topology.{topology}
use Rattle.trees.specs.theorems.TopologyLaws.{Rearranged, as_is, first_two, middle, last_two, any_order}
use Rattle.marks.specs.Marks.{is_kept}
use Rattle.counting.specs.Kept.{kept}
use Rattle.counting.specs.declared.Case.{Case}
use Rattle.counting.specs.Cases.{case_of, is_case, topology_at, quartets}
use Rattle.counting.proofs.theorems.KeptLaws.{sets4-kept}
use Rattle.counting.specs.Kept.{is_other}
use Rattle.counting.proofs.theorems.OtherLabels.{sets3-kept, other_bit, not_itself}
use Rattle.counting.specs.Holding.{holding, holding_kept}
use Rattle.sums.specs.theorems.Inserted.{one-number_more}

-- the other kept labels do not depend on the mark of x
pub others-alike : (marks marks' : List ℕ) (x : ℕ) → ((y : ℕ) → y ≢ x → word marks' y ≡ word marks y)
    → is_other marks' x ≡ is_other marks x
others-alike marks marks' x h = fun_ext (λ y. elim (ℕ_discrete y x) [
  | yes e ↦ bit_inj _ _ (rw e (not_itself marks' x ∙ sym (not_itself marks x)))
  | no d ↦ unfold is_other is_kept in ap (λ (w : ℕ). eqb w 1 && not (eqb y x)) (h y d)
])

module _ (t u : Table) (g : IsTree t) (h : IsTree u) (e : tips t ≡ tips u) (x : ℕ) (lx : x < tips t) (k : Case) where
  abbrev n : ℕ
  n = tips t

  abbrev f : ℕ → ℕ → ℕ → ℕ → ℕ
  f a b c d = bit (is_case (case_of (topology t a b c d) (topology u a b c d)) k)

  -- in any order
  same_case : (a b c d : ℕ) {w y z v : ℕ} → Four n a b c d → Rearranged a b c d w y z v → f w y z v ≡ f a b c d
  same_case a b c d q r = ap₂ (λ (s s' : Topology). bit (is_case (case_of s s') k))
      (any_order t g a b c d q r) (any_order u h a b c d (rw e at q) r)

  -- the sets of four of labels that pass P
  abbrev fours : (ℕ → ℕ) → ℕ
  fours P = sets4 n (λ w x y z. P z * (P y * (P x * (P w * f w x y z))))

  law : (P Q : ℕ → ℕ) → ((y : ℕ) → Q y ≡ P y + is x y) → P x ≡ 0
      → fours Q ≡ fours P + sets3 n (λ a b c. P c * (P b * (P a * f x a b c)))
  law P Q more none = one-number_more x n lx P Q more none f
      (λ w y z wx xy yz lz. same_case x w y z (record {
        la = lx;
        lb = omega arith;
        lc = omega arith;
        ld = lz;
        ab = λ q. omega arith;
        ac = λ q. omega arith;
        ad = λ q. omega arith;
        bc = λ q. omega arith;
        bd = λ q. omega arith;
        cd = λ q. omega arith;
      }) (first_two as_is))
      (λ w y z wy yx xz lz. same_case x w y z (record {
        la = lx;
        lb = omega arith;
        lc = omega arith;
        ld = lz;
        ab = λ q. omega arith;
        ac = λ q. omega arith;
        ad = λ q. omega arith;
        bc = λ q. omega arith;
        bd = λ q. omega arith;
        cd = λ q. omega arith;
      }) (middle (first_two as_is)))
      (λ w y z wy yz zx. same_case x w y z (record {
        la = lx;
        lb = omega arith;
        lc = omega arith;
        ld = omega arith;
        ab = λ q. omega arith;
        ac = λ q. omega arith;
        ad = λ q. omega arith;
        bc = λ q. omega arith;
        bd = λ q. omega arith;
        cd = λ q. omega arith;
      }) (last_two (middle (first_two as_is))))

  counted : (marks : List ℕ) → quartets (kept marks n) t u k ≡ fours (λ y. bit (is_kept marks y))
  unfolding quartets topology_at
  counted marks = sets4-kept (is_kept marks) n f

  pub held : (marks : List ℕ) → holding_kept t u marks x k
      ≡ sets3 (tips t) (λ a b c. bit (is_other marks x c) * (bit (is_other marks x b) * (bit (is_other marks x a)
      * bit (is_case (case_of (topology t x a b c) (topology u x a b c)) k))))
  unfolding holding
  held marks = sets3-kept (is_other marks x) n (λ a b c. f x a b c)

  -- marks that keep x, and the same marks but for x, which they strike
  pub one-label_law : (with without : List ℕ) → word with x ≡ 1 → word without x ≡ 0
      → ((y : ℕ) → y ≢ x → word with y ≡ word without y)
      → quartets (kept with (tips t)) t u k ≡ quartets (kept without (tips t)) t u k + holding_kept t u with x k
  one-label_law with without ex zx same =
      counted with
      ∙ law (λ y. bit (is_other with x y)) (λ y. bit (is_kept with y)) more (not_itself with x)
      ∙ ap₂ (λ (a b : ℕ). a + b) (ap fours (fun_ext struck) ∙ sym (counted without)) (sym (held with))
    where
      bit_kept : bit (is_kept with x) ≡ 1
      bit_kept = unfold is_kept in is_eq (word with x) 1 ex

      is-struck : bit (is_kept without x) ≡ 0
      is-struck = unfold is_kept in is_other_lem (word without x) 1 (omega arith)

      more : (y : ℕ) → bit (is_kept with y) ≡ bit (is_other with x y) + is x y
      more y = elim (alike x y) [
        | inl q ↦ omega (arith, other_bit with x y, ap (λ (z : ℕ). bit (is_kept with y) * z) q.1, ap (λ (z : ℕ). bit (is_kept with z)) q.0, bit_kept, q.1)
        | inr d ↦ omega (arith, other_bit with x y, ap (λ (z : ℕ). bit (is_kept with y) * z) d.1, d.1)
      ]

      struck : (y : ℕ) → bit (is_other with x y) ≡ bit (is_kept without y)
      struck y = elim (ℕ_discrete y x) [
        | yes q ↦ rw q (not_itself with x ∙ sym is-struck)
        | no d ↦ omega (
          arith,
          other_bit with x y,
          ap (λ (z : ℕ). bit (is_kept with y) * z) (is_other_lem x y (λ q. d (sym q))),
          keptness y d,
        )
      ]
        where
          keptness : (y : ℕ) → y ≢ x → bit (is_kept with y) ≡ bit (is_kept without y)
          keptness y d = unfold is_kept in ap (λ (w : ℕ). is w 1) (same y d)

  -- which of the two marks are taken makes no difference to the sets that hold x
  pub holding-alike : (marks marks' : List ℕ) → ((y : ℕ) → y ≢ x → word marks' y ≡ word marks y)
      → holding_kept t u marks' x k ≡ holding_kept t u marks x k
  unfolding holding
  holding-alike marks marks' same = rw (others-alike marks marks' x same) refl
