-- No set of four labels has different topologies in two shapes exactly if the two have the same splits.
-- Assumes nothing.
use Rattle.std.specs.Prelude.{◌≡◌, ◌↔◌, ℕ, ◌+◌, ◌<◌}
use Rattle.std.proofs.Common.{sym, ◌∙◌, inl, inr, arith}
use Rattle.sums.specs.theorems.BitLaws.{ne, alike}
use Rattle.sums.specs.theorems.SetLaws.{sets4_none}
use Rattle.shapes.proofs.theorems.PartedFours.{parted-swap_left, parted-swap_right, parted_turn}
use Rattle.shapes.specs.theorems.Shape.{Shape}
use Rattle.shapes.proofs.theorems.Shape.{beyond_in, butterfly_in}
use Rattle.shapes.specs.Splits.{SameSplits}
use Rattle.shapes.proofs.theorems.FourLabels.{any_order}
use Rattle.shapes.proofs.theorems.Topologies.{topology_in, cases_in, cases_differing, same_topology-iff}
use Rattle.shapes.proofs.theorems.SameFours.{SameFours, same_fours-iff}

none_differs : (a b : ℕ) → (ne a b ≡ 0) ↔ (a ≡ b)
none_differs a b = elim (alike a b) [
  | inl e ↦ (λ z. e.0, λ d. e.2)
  | inr d ↦ (λ z. absurd (omega (arith, d.2)), λ e. absurd (d.0 e))
]

module _ {n : ℕ} (t u : Shape n) where
  same_fours : ((w x y z : ℕ) → w < x → x < y → y < z → z < n → topology_in t w x y z ≡ topology_in u w x y z)
      ↔ SameFours t u
  same_fours = (
    λ h. any_order n (λ a b c d. butterfly_in t a b c d ≡ butterfly_in u a b c d)
        (λ a b c d e. sym (swap_left t a b c d) ∙ e ∙ swap_left u a b c d)
        (λ a b c d e. sym (swap_right t a b c d) ∙ e ∙ swap_right u a b c d)
        (λ a b c d e. sym (turn t a b c d) ∙ e ∙ turn u a b c d)
        (λ w x y z lw lx ly lz. ((same_topology-iff t u w x y z).0 (h w x y z lw lx ly lz)).one)
        (λ w x y z lw lx ly lz. ((same_topology-iff t u w x y z).0 (h w x y z lw lx ly lz)).two)
        (λ w x y z lw lx ly lz. ((same_topology-iff t u w x y z).0 (h w x y z lw lx ly lz)).three),
    λ h w x y z lw lx ly lz. (same_topology-iff t u w x y z).1 (record {
      one = h w x y z (omega arith);
      two = h w y x z (omega arith);
      three = h w z x y (omega arith);
    }),
  )
    where
      swap_left : (s : Shape n) (a b c d : ℕ) → butterfly_in s a b c d ≡ butterfly_in s b a c d
      swap_left s a b c d = parted-swap_left s.up s.edges _ _ _ _

      swap_right : (s : Shape n) (a b c d : ℕ) → butterfly_in s a b c d ≡ butterfly_in s a b d c
      swap_right s a b c d = parted-swap_right s.up s.edges _ _ _ _

      turn : (s : Shape n) (a b c d : ℕ) → butterfly_in s a b c d ≡ butterfly_in s c d a b
      turn s a b c d = parted_turn s.up s.edges _ _ _ _

  pub zero_rule : (cases_in t u 1 + cases_in t u 2 + cases_in t u 3 ≡ 0)
      ↔ SameSplits n t.edges (beyond_in t) u.edges (beyond_in u)
  zero_rule =
      simp (cases_differing t u, sets4_none, none_differs) (
        λ h. (same_fours-iff t u).0 (same_fours.0 h),
        λ h. same_fours.1 ((same_fours-iff t u).1 h),
      )
