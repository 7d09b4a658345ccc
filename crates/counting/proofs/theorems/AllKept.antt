-- With all marks 1 every figure is that of all labels.
-- Assumes nothing.
use Rattle.std.specs.Prelude.{◌≡◌, refl, ◌&&◌, List}
use Rattle.std.proofs.Common.{◌∙◌, arith}
use Rattle.std.proofs.Math.Path.{ap, fun_ext}
use Prim.Native.Nat.{ℕ, ◌-◌, ◌<◌}
use Rattle.sums.specs.Bits.{bit}
use Rattle.sums.specs.Counts.{count}
use Rattle.sums.specs.SetsOfFour.{sets4}
use Rattle.sums.specs.theorems.SumLaws.{sum_ext}
use Rattle.sums.specs.theorems.SetLaws.{sets4_ext}
use Rattle.shapes.specs.Directions.{behind}
use Rattle.shapes.specs.Claims.{sum_claims, claim_term}
use Rattle.shapes.specs.Splits.{splits_of, common_of}
use Rattle.shapes.proofs.theorems.SplitsExt.{splits_ext, common_ext}
use Rattle.tree_check.specs.Table.{Table, nodes, parent, node_of, beyond}
use Rattle.counting.specs.Labels.{Labels, all}
use Rattle.marks.specs.Marks.{is_kept}
use Rattle.counting.specs.Kept.{kept}
use Rattle.counting.specs.ClaimSums.{codes, behind_edge, size, crossing, S, S2, S3}
use Rattle.counting.specs.declared.Case.{Case}
use Rattle.counting.specs.Cases.{case_of, is_case, topology_at, quartets}
use Rattle.counting.specs.SplitCounts.{beyond_at, splits, common_splits, robinson_foulds}
use Rattle.counting.proofs.theorems.KeptLaws.{all_kept-number, all_kept_at}
use Rattle.counting.specs.theorems.AllKept.{Alike, FiguresAlike}

module _ (l m : Labels) (a : Alike l m) where
  size-alike : (t : Table) (c : ℕ) → size l t c ≡ size m t c
  unfolding size behind_edge
  size-alike t c =
      sum_ext l.number _ _ (λ x o. ap (λ (y : ℕ). bit (behind (parent t) c (node_of t y))) (a.same_at x o))
      ∙ ap (λ (n : ℕ). count n (behind_edge m t c)) a.same_number

  pub crossing-alike : (t u : Table) (c d : ℕ) → crossing l t u c d ≡ crossing m t u c d
  unfolding crossing behind_edge
  crossing-alike t u c d =
      sum_ext l.number _ _ (λ x o. ap (λ (y : ℕ). bit (
      behind (parent t) c (node_of t y) && behind (parent u) d (node_of u y))) (a.same_at x o))
      ∙ ap (λ (n : ℕ). count n (λ x. behind_edge m t c x && behind_edge m u d x)) a.same_number

  S-alike : (t : Table) → S l t ≡ S m t
  unfolding S
  S-alike t = ap (λ (f : ℕ → ℕ). sum_claims (parent t) (codes t) (claim_term f)) (fun_ext (size-alike t))

  crossings_alike : (t u : Table) → crossing l t u ≡ crossing m t u
  crossings_alike t u = fun_ext (λ c. fun_ext (crossing-alike t u c))

  counts_alike : (t u : Table) (k : Case) → quartets l t u k ≡ quartets m t u k
  unfolding quartets topology_at
  counts_alike t u k =
      sets4_ext l.number _ _ (λ w x y z wx xy yz o.
      let at = a.same_at in
      rw (at w (omega arith), at x (omega arith), at y (omega arith), at z o) refl)
      ∙ ap (λ (n : ℕ). sets4 n (λ w x y z. bit (is_case (case_of (topology_at m t w x y z) (topology_at m u w x y z)) k))) a.same_number

  pub sides-alike : (t : Table) (i x : ℕ) → x < l.number → beyond_at l t i x ≡ beyond_at m t i x
  unfolding beyond_at
  sides-alike t i x o = ap (beyond t i) (a.same_at x o)

  splits-alike : (t : Table) → splits l t ≡ splits m t
  unfolding splits
  splits-alike t =
      splits_ext l.number (beyond_at l t) (beyond_at m t) (sides-alike t) (nodes t - 1)
      ∙ ap (λ (n : ℕ). splits_of n (nodes t - 1) (beyond_at m t)) a.same_number

  common_alike : (t u : Table) → common_splits l t u ≡ common_splits m t u
  unfolding common_splits
  common_alike t u =
      common_ext l.number (beyond_at l t) (beyond_at m t) (sides-alike t) (beyond_at l u) (beyond_at m u) (sides-alike u)
      (nodes t - 1) (nodes u - 1)
      ∙ ap (λ (n : ℕ). common_of n (nodes t - 1) (beyond_at m t) (nodes u - 1) (beyond_at m u)) a.same_number

  pub figures-alike : (t u : Table) → FiguresAlike l m t u
  figures-alike t u = record {
    first = S-alike t;
    second = S-alike u;
    same = unfold S2 in rw (crossings_alike t u) refl;
    different = unfold S3 in rw (crossings_alike t u) refl;
    counts = counts_alike t u;
    first_splits = splits-alike t;
    second_splits = splits-alike u;
    common = common_alike t u;
    robinson_foulds_same = unfold robinson_foulds in rw (splits-alike t, splits-alike u, common_alike t u) refl;
  }

-- all n labels are kept: as many, and each its own rank
pub all_alike : (marks : List ℕ) (n : ℕ) → ((x : ℕ) → x < n → bit (is_kept marks x) ≡ 1) → Alike (kept marks n) (all n)
all_alike marks n every = record {
  same_number = all_kept-number marks n every;
  same_at = λ x o. all_kept_at marks n every x (omega (arith, all_kept-number marks n every));
}

-- .. so every figure is what it is without marks
pub all_kept_lem : (marks : List ℕ) (n : ℕ) → ((x : ℕ) → x < n → bit (is_kept marks x) ≡ 1) → (t u : Table)
    → FiguresAlike (kept marks n) (all n) t u
all_kept_lem marks n every t u = figures-alike (kept marks n) (all n) (all_alike marks n every) t u
