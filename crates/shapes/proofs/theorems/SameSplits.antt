-- Trees with the same splits: the relation, and the split counts that it leaves unchanged.
-- Assumes nothing.
use Rattle.std.specs.Prelude.{◌≡◌, refl, ◌&&◌, ℕ, suc, ◌<◌, T}
use Rattle.std.proofs.Common.{sym, ◌∙◌, ap}
use Rattle.sums.specs.theorems.SumLaws.{sum_ext}
use Rattle.sums.specs.Bits.{bit}
use Rattle.sums.specs.theorems.TestLaws.{and-iff, same_test}
use Rattle.shapes.specs.Splits.{Sides, occurs, is_new_split, splits_of, common_of, same, Occurs, AllOccur, SameSplits}
use Rattle.shapes.proofs.theorems.SplitLaws.{sides_trans, occurs-iff}
use Rattle.shapes.proofs.theorems.RobinsonFoulds.{new_iff, common_turned, common_all}

pub same_splits-refl : (n k : ℕ) (b : Sides) → SameSplits n k b k b
same_splits-refl n k b = record { there = here; back = here }
  where
    here : AllOccur n k b k b
    here i s = (i, s, same (λ x l. refl))

pub same_splits_sym : {n k l : ℕ} {b c : Sides} → SameSplits n k b l c → SameSplits n l c k b
same_splits_sym h = record { there = h.back; back = h.there }

pub same_splits_trans : {n k l m : ℕ} {b c d : Sides} → SameSplits n k b l c → SameSplits n l c m d → SameSplits n k b m d
same_splits_trans {n} {k} {l} {m} {b} {c} {d} s t = record {
  there = λ i q. let x = s.there i q in let y = t.there x.0 x.1 in (y.0, y.1, sides_trans x.2 y.2);
  back = λ i q. let x = t.back i q in let y = s.back x.0 x.1 in (y.0, y.1, sides_trans x.2 y.2);
}

-- two tip sets that occur in a tree occur in every tree that has all its splits
occurs_trans : {n l m i : ℕ} {b c d : Sides} → Occurs n b l c i → AllOccur n l c m d → Occurs n b m d i
occurs_trans o h = let r = h o.0 o.1 in (r.0, r.1, sides_trans o.2 r.2)

-- two trees with the same splits have as many
pub same_splits_as_many : (n k : ℕ) (b : Sides) (l : ℕ) (c : Sides)
    → SameSplits n k b l c → splits_of n k b ≡ splits_of n l c
same_splits_as_many n k b l c h =
    sym ((common_all n k b l c).1 h.there)
    ∙ common_turned n k b l c
    ∙ (common_all n l c k b).1 h.back

-- .. and as many in common with any tree
pub same_splits_in_common : (n k : ℕ) (b : Sides) (l : ℕ) (c : Sides) (m : ℕ) (d : Sides)
    → SameSplits n l c m d → common_of n k b l c ≡ common_of n k b m d
unfolding common_of
same_splits_in_common n k b l c m d h =
    sum_ext k _ _ (λ i li. ap bit (same_test _ _ (moved l c m d h i li) (moved m d l c (same_splits_sym h) i li)))
  where
    moved : (l : ℕ) (c : Sides) (m : ℕ) (d : Sides) → SameSplits n l c m d → (i : ℕ) → i < k
        → T (is_new_split n b i && occurs n b l c (suc i)) → T (is_new_split n b i && occurs n b m d (suc i))
    moved l c m d h i li t =
        let r = (and-iff (is_new_split n b i) _).0 t in
        let s = ((new_iff n k b i li).0 r.0).split in
        let o = occurs_trans ((occurs-iff l c s).0 r.1) h.there in
        (and-iff (is_new_split n b i) _).1 (r.0, (occurs-iff m d s).1 o)
