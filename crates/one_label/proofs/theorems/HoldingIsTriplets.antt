-- The sets of four that hold x are the triplets of the two tables re-rooted at x, over the other kept labels.
-- Assumes nothing.
use Rattle.std.specs.Prelude.{◌≡◌, refl, ◌≢◌, List, ℕ, ◌*◌, ◌≤◌, ◌<◌}
use Rattle.std.proofs.Math.Path.{sym, ap}
use Rattle.std.proofs.Common.{◌∙◌, ap₂, inl, inr, arith}
use Rattle.std.proofs.Math.Decide.{ℕ_discrete}
use Rattle.sums.specs.Bits.{bit, is}
use Rattle.sums.specs.theorems.BitLaws.{is_other_lem, alike}
use Rattle.sums.specs.theorems.SetLaws.{sets3_ext}
use Rattle.shapes.specs.theorems.FourLabels.{Four}
use Rattle.trees.specs.declared.quartet.Topology.{Topology}
use Rattle.tree_check.specs.Table.{Table, word, tips}
use Rattle.tree_check.specs.IsTree.{IsTree}
use Rattle.trees.specs.Topology.{topology}
use Rattle.trees.specs.theorems.TopologyLaws.{Rearranged, as_is, middle, last_two, any_order}
use Rattle.marks.specs.Marks.{is_kept}
use Rattle.counting.specs.declared.Case.{Case}
use Rattle.counting.specs.Cases.{case_of, case_number, is_case}
use Rattle.counting.specs.Triplets.{triplet}
use Rattle.counting.proofs.theorems.TripletTheorem.{triplet-topology}
use Rattle.sums.specs.Swaps.{swapped}
use Rattle.sums.specs.theorems.SwapLaws.{swapped-first, swapped_second, swapped_twice, swapped_one, swapped-lt}
use Rattle.rerooting.specs.Rerooted.{rerooted}
use Rattle.rerooting.specs.theorems.RerootedParts.{same_tips}
use Rattle.rerooting.specs.theorems.RerootedTree.{rerooted_tree}
use Rattle.rerooting.specs.theorems.RerootedTopology.{rerooted_case}
use Rattle.counting.specs.Kept.{is_other, others}
use Rattle.counting.specs.Triplets.{triplets_over}
use Rattle.counting.proofs.theorems.OtherLabels.{sets3-kept, other_bit, not_itself}
use Rattle.counting.specs.Holding.{holding_kept}
use Rattle.sums.specs.theorems.Exchanging.{AnyOrder, sets3-exchanged}
use Rattle.counting.proofs.theorems.OneLabelLaw.{held}

module _ (t u : Table) (g : IsTree t) (h : IsTree u) (e : tips t ≡ tips u) (x : ℕ) (lx : x < tips t) (k : Case)
    (marks marks' : List ℕ) (swap : (y : ℕ) → y < tips t → word marks' y ≡ word marks (swapped 0 x y)) where
  abbrev n : ℕ
  n = tips t

  abbrev σ : ℕ → ℕ
  σ = swapped 0 x

  abbrev P : ℕ → ℕ
  P y = bit (is_other marks x y)

  abbrev P' : ℕ → ℕ
  P' y = bit (is_other marks' 0 y)

  abbrev f : ℕ → ℕ → ℕ → ℕ
  f a b c = bit (is_case (case_of (topology t x a b c) (topology u x a b c)) k)

  abbrev f' : ℕ → ℕ → ℕ → ℕ
  f' a b c = bit (is_case (case_of (triplet (rerooted t x) a b c) (triplet (rerooted u x) a b c)) k)

  -- ---- the label x counts for nothing

  by_others : (a b c r s : ℕ) → (a ≢ x → b ≢ x → c ≢ x → r ≡ s) → P c * (P b * (P a * r)) ≡ P c * (P b * (P a * s))
  by_others a b c r s q = elim (ℕ_discrete a x) [
    | yes z ↦ rw (z, not_itself marks x) (omega arith)
    | no na ↦ elim (ℕ_discrete b x) [
      | yes z ↦ rw (z, not_itself marks x) (omega arith)
      | no nb ↦ elim (ℕ_discrete c x) [
        | yes z ↦ rw (z, not_itself marks x) (omega arith)
        | no nc ↦ rw (q na nb nc) refl
      ]
    ]
  ]

  four : (a b c : ℕ) → a < n → b < n → c < n → a ≢ b → a ≢ c → b ≢ c → a ≢ x → b ≢ x → c ≢ x → Four n x a b c
  four a b c la lb lc ab ac bc na nb nc = record {
    la = lx;
    lb = la;
    lc = lb;
    ld = lc;
    ab = λ q. na (sym q);
    ac = λ q. nb (sym q);
    ad = λ q. nc (sym q);
    bc = ab;
    bd = ac;
    cd = bc;
  }

  reordered : (a b c : ℕ) {v w y z : ℕ} → Four n x a b c → Rearranged x a b c v w y z
      → bit (is_case (case_of (topology t v w y z) (topology u v w y z)) k) ≡ f a b c
  reordered a b c q r = ap₂ (λ (s s' : Topology). bit (is_case (case_of s s') k))
      (any_order t g x a b c q r) (any_order u h x a b c (rw e at q) r)

  any : AnyOrder n (λ a b c. P c * (P b * (P a * f a b c)))
  any = record {
    first_two = λ a b c la lb lc ab ac bc. omega (
      arith,
      by_others a b c (f b a c) (f a b c)
          (λ na nb nc. reordered a b c (four a b c la lb lc ab ac bc na nb nc) (middle as_is)),
    );
    last_two = λ a b c la lb lc ab ac bc. omega (
      arith,
      by_others a b c (f a c b) (f a b c)
          (λ na nb nc. reordered a b c (four a b c la lb lc ab ac bc na nb nc) (last_two as_is)),
    );
  }

  -- ---- the labels of the re-rooted tables

  same_other : (a : ℕ) → a < n → P' a ≡ P (σ a)
  same_other a l = elim (alike 0 a) [
    | inl z ↦ ap P' (sym z.0) ∙ not_itself marks' 0 ∙ sym (ap P (ap σ (sym z.0) ∙ swapped-first 0 x) ∙ not_itself marks x)
    | inr d ↦ omega (
      arith,
      other_bit marks' 0 a,
      ap (λ (z : ℕ). bit (is_kept marks' a) * z) d.1,
      other_bit marks x (σ a),
      ap (λ (z : ℕ). bit (is_kept marks (σ a)) * z) (is_other_lem x (σ a) (λ q. d.0 (sym (swapped_one 0 x a 0 (sym q ∙ sym (swapped-first 0 x)))))),
      keptness,
    )
  ]
    where
      keptness : bit (is_kept marks' a) ≡ bit (is_kept marks (σ a))
      keptness = unfold is_kept in ap (λ (w : ℕ). is w 1) (swap a l)

  -- three labels but 0, different
  case_there : (a b c : ℕ) → 1 ≤ a → a < b → b < c → c < n → f' a b c ≡ f (σ a) (σ b) (σ c)
  case_there a b c pa ab bc lc =
      ap₂ (λ (s s' : Topology). bit (is_case (case_of s s') k))
      (triplet-topology (rerooted t x) (rerooted_tree t g x lx) a b c pa (omega arith) (omega arith)
      (omega (arith, same_tips t x)) (omega (arith, same_tips t x)))
      (triplet-topology (rerooted u x) (rerooted_tree u h x (omega arith)) a b c pa (omega arith) (omega arith)
      (omega (arith, same_tips u x)) (omega (arith, same_tips u x)))
      ∙ unfold is_case in ap (λ (q : ℕ). is q (case_number k)) (
      ap (λ (q : ℕ). case_number (case_of (topology (rerooted t x) q a b c) (topology (rerooted u x) q a b c))) (sym (swapped_second 0 x))
      ∙ rw (swapped_twice 0 x a, swapped_twice 0 x b, swapped_twice 0 x c) at
      (rerooted_case t u g h e x lx x (σ a) (σ b) (σ c) (four (σ a) (σ b) (σ c)
      (swapped-lt 0 x a n (omega (arith, lx)) lx (omega arith)) (swapped-lt 0 x b n (omega (arith, lx)) lx (omega arith)) (swapped-lt 0 x c n (omega (arith, lx)) lx lc)
      (λ q. absurd (omega (arith, swapped_one 0 x a b q)))
      (λ q. absurd (omega (arith, swapped_one 0 x a c q)))
      (λ q. absurd (omega (arith, swapped_one 0 x b c q)))
      (not_x a pa) (not_x b (omega arith)) (not_x c (omega arith)))))
    where
      not_x : (a : ℕ) → 1 ≤ a → σ a ≢ x
      not_x a p q = absurd (omega (arith, swapped_one 0 x a 0 (q ∙ sym (swapped-first 0 x))))

  each : (a b c : ℕ) → a < b → b < c → c < n
      → P' c * (P' b * (P' a * f' a b c)) ≡ P (σ c) * (P (σ b) * (P (σ a) * f (σ a) (σ b) (σ c)))
  each a b c ab bc lc = rw (same_other c lc, same_other b (omega arith)) (elim (ℕ_discrete a 0) [
    | yes z ↦ rw (z, not_itself marks' 0, swapped-first 0 x, not_itself marks x) (omega arith)
    | no d ↦ rw (same_other a (omega arith), case_there a b c (omega arith) ab bc lc) refl
  ])

  pub holding_is_triplets : holding_kept t u marks x k
      ≡ triplets_over (others marks' 0 (tips t)) (rerooted t x) (rerooted u x) k
  unfolding triplets_over
  holding_is_triplets =
      held t u g h e x lx k marks
      ∙ sym (sets3-exchanged n σ (λ i l. swapped-lt 0 x i n (omega (arith, lx)) lx l) (swapped_twice 0 x) _ any)
      ∙ sym (sets3-kept (is_other marks' 0) n f' ∙ sets3_ext n _ _ each)
