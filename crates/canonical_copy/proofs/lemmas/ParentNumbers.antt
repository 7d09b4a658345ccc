-- For each node the number of the next node above that stays.
-- Assumes nothing.
use Rattle.std.specs.Prelude.{◌≡◌, ◌≢◌, List, ℕ, ◌+◌, ◌<◌, eqb, length, set, replicate}
use Rattle.std.proofs.Common.{sym, ◌∙◌, arith, eq-eqb, ne_eqb, length-set, get_or-set_same}
use Rattle.std.proofs.Math.Path.{ap}
use Rattle.std.proofs.Math.Bool.{true, false}
use Rattle.std.proofs.Math.Decide.{ℕ_discrete}
use Rattle.std.proofs.lemmas.List.{length-replicate}
use Rattle.std.proofs.Math.Seq.{get_or-set_other}
use Rattle.table_words.specs.Sizes.{node_room}
use Rattle.tree_check.specs.Table.{word}
use Rattle.canonical_copy.specs.lemmas.Parents.{ParentsBefore}
use Rattle.canonical_copy.proofs.lemmas.Parents.{parent-le}
use Rattle.canonical_copy.specs.lemmas.ParentNumbers.{ParentNumbers, above_of}

pub above_stays : (ps bits numbers above : List ℕ) (v : ℕ) → word bits (word ps v) ≡ 1
    → above_of ps bits numbers above v ≡ word numbers (word ps v)
unfolding above_of
above_stays ps bits numbers above v e = rw (eq-eqb _ _ e, above_of)

pub above_gone : (ps bits numbers above : List ℕ) (v : ℕ) → word bits (word ps v) ≢ 1
    → above_of ps bits numbers above v ≡ word above (word ps v)
unfolding above_of
above_gone ps bits numbers above v d = rw (ne_eqb _ _ d, above_of)

pub above_none : (ps bits numbers : List ℕ) → ParentNumbers ps bits numbers 0 (replicate node_room 0)
above_none ps bits numbers = record {
  long = length-replicate {A = ℕ} node_room 0;
  above_is = λ v l. absurd (omega arith);
}

module _ (ps bits numbers : List ℕ) (y : ParentsBefore ps) (v : ℕ) (above : List ℕ) (l : v < length ps)
    (s : ParentNumbers ps bits numbers v above) where
  -- what stands at a parent stays, if it is not v or v's own stays
  same_of : (z w : ℕ) → (word ps w ≡ v → z ≡ word above v)
      → above_of ps bits numbers (set above v z) w ≡ above_of ps bits numbers above w
  unfolding above_of
  same_of z w h =
      ap (λ (x : ℕ). elim (eqb (word bits (word ps w)) 1) as (λ u. ℕ) [ true ↦ word numbers (word ps w) | false ↦ x ])
      (elim (ℕ_discrete (word ps w) v) [
        | yes e ↦ rw e (get_or-set_same above v z 0 (omega (arith, s.long, y.few)) ∙ h e)
        | no d ↦ get_or-set_other above v (word ps w) z 0 d
      ])

  above_set : (z : ℕ) → z ≡ above_of ps bits numbers (set above v z) v → ParentNumbers ps bits numbers (v + 1) (set above v z)
  above_set z ez = record {
    long = length-set above v z ∙ s.long;
    above_is = λ w lw. elim (ℕ_discrete w v) [
      | yes e ↦ rw e (get_or-set_same above v z 0 (omega (arith, s.long, y.few)) ∙ ez)
      | no d ↦ get_or-set_other above v w z 0 d ∙ s.above_is w (omega arith)
          ∙ sym (same_of z w (λ q. absurd (omega (arith, q, parent-le ps y w))))
    ];
  }

  -- the parent stays
  pub above_take : (p : ℕ) → p ≡ word ps v → word bits p ≡ 1 → ParentNumbers ps bits numbers (v + 1) (set above v (word numbers p))
  above_take p ep = rw ep (λ e. above_set (word numbers (word ps v)) (sym (above_stays ps bits numbers _ v e)))

  -- it does not
  pub above_skip : (p : ℕ) → p ≡ word ps v → word bits p ≢ 1 → ParentNumbers ps bits numbers (v + 1) (set above v (word above p))
  above_skip p ep = rw ep (λ d. above_set (word above (word ps v))
      (sym (above_gone ps bits numbers above v d) ∙ sym (same_of (word above (word ps v)) v (λ q. ap (word above) q))))
