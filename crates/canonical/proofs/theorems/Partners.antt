-- Tables with the same splits have the same clusters, those of tips and of edge 1 as well.
-- Assumes nothing.
use Rattle.std.specs.Prelude.{◌≡◌, Bool, not, ℕ, ◌-◌, ◌≤◌, ◌<◌}
use Rattle.std.proofs.Common.{sym, ◌∙◌, ap, inl, inr, arith}
use Rattle.std.proofs.Math.Decide.{dec_le, ℕ_discrete}
use Rattle.sums.specs.theorems.SumLaws.{sum_two}
use Rattle.sums.specs.Bits.{bit}
use Rattle.sums.specs.theorems.BitLaws.{bit_cases, bit_inj, bit_not}
use Rattle.sums.specs.Counts.{count}
use Rattle.sums.specs.theorems.CountLaws.{count_twice}
use Rattle.shapes.specs.Splits.{Split, SameSides, same, turned, AllOccur}
use Rattle.tree_check.specs.Table.{Table, tips, nodes, node_of, beyond}
use Rattle.tree_check.specs.IsTree.{IsTree}
use Rattle.walks.specs.theorems.NodeLabels.{node_at}
use Rattle.counting.proofs.theorems.TreeSplits.{zero_here}
use Rattle.canonical.proofs.theorems.Clusters.{some-label, node_pos, tip-label, tip_alone, top_all}
use Rattle.canonical.specs.theorems.Partners.{Match, Partners}

pub match_sym : {n : ℕ} {t u : Table} {i j : ℕ} → Match n t u i j → Match n u t j i
match_sym m = record {
  pos_i = m.pos_j;
  few_i = m.few_j;
  pos_j = m.pos_i;
  few_j = m.few_i;
  same = λ x l. sym (m.same x l);
}

-- fewer than two pass: those that pass are one
only_one : (n : ℕ) (q : ℕ → Bool) → count n q < 2 → (x y : ℕ) → x < n → y < n → bit (q x) ≡ 1 → bit (q y) ≡ 1
    → x ≡ y
only_one n q l x y lx ly hx hy = elim (ℕ_discrete x y) [
  | yes e ↦ e
  | no d ↦ absurd (omega (arith, sum_two n (λ i. bit (q i)) x y lx ly d))
]

module _ (n : ℕ) (t u : Table) (g : IsTree t) (h : IsTree u) (tn : tips t ≡ n) (un : tips u ≡ n) where
  -- one label beyond: the tip's edge
  tip-partner : (i : ℕ) → 1 ≤ i → i < nodes t → count n (beyond t i) < 2 → (j : ℕ) × Match n t u i j
  tip-partner i l m c =
      let s = some-label t g i m in
      let x = s.0 in
      let px : 1 ≤ x = elim (dec_le 1 x) [
        | yes p ↦ p
        | no q ↦ (let z : x ≡ 0 = omega arith in
            absurd (omega (arith, s.2, zero_here t g i l, ap (λ (y : ℕ). bit (beyond t i y)) z)))
      ] in
      let lx : x < tips u = omega (arith, s.1) in (
        node_of u x,
        record {
          pos_i = l;
          few_i = m;
          pos_j = node_pos u h x px lx;
          few_j = (node_at u h x lx).0;
          same = λ y ly. bit_inj _ _ (elim (ℕ_discrete y x) [
            | yes e ↦ rw e (s.2 ∙ sym (tip-label u h x lx))
            | no d ↦ elim (bit_cases (beyond t i y)) [
              | inr o ↦ absurd (d (only_one n (beyond t i) c y x ly (omega (arith, s.1)) o s.2))
              | inl z ↦ elim (bit_cases (beyond u (node_of u x) y)) [
                | inl w ↦ omega arith
                | inr o ↦ absurd (d (tip_alone u h x y px lx (omega arith) o))
              ]
            ]
          ]);
        },
      )

  -- one label on the other side: it is 0
  top_partner : (i : ℕ) → 1 ≤ i → i < nodes t → count n (λ x. not (beyond t i x)) < 2 → (j : ℕ) × Match n t u i j
  top_partner i l m c =
      let few = h.tips_range in
      let many = h.nodes_range in (
        1,
        record {
          pos_i = l;
          few_i = m;
          pos_j = omega arith;
          few_j = omega arith;
          same = λ y ly. bit_inj _ _ (elim (ℕ_discrete y 0) [
            | yes e ↦ rw e (zero_here t g i l ∙ sym (zero_here u h 1 (omega arith)))
            | no d ↦ elim (bit_cases (beyond t i y)) [
              | inr o ↦ omega (arith, top_all u h y (omega arith) (omega arith))
              | inl z ↦ absurd (d (only_one n (λ x. not (beyond t i x)) c y 0 ly (omega arith)
                  (omega (arith, bit_not (beyond t i y)))
                  (omega (arith, bit_not (beyond t i 0), zero_here t g i l))))
            ]
          ]);
        },
      )

  split_partner : (i : ℕ) → Split n (nodes t - 1) (beyond t) i
      → (j : ℕ) → Split n (nodes u - 1) (beyond u) j → SameSides n (beyond t) (beyond u) i j → Match n t u i j
  split_partner i s j r (same e) = record {
    pos_i = s.above;
    few_i = omega (arith, s.edge, s.above);
    pos_j = r.above;
    few_j = omega (arith, r.edge, r.above);
    same = e;
  }
  split_partner i s j r (turned e) =
      let few = h.tips_range in
      absurd (omega (
        arith,
        zero_here t g i s.above,
        zero_here u h j r.above,
        bit_not (beyond u j 0),
        ap bit (e 0 (omega arith)),
      ))

  pub partners : AllOccur n (nodes t - 1) (beyond t) (nodes u - 1) (beyond u) → Partners n t u
  partners there i l m = elim (dec_le 2 (count n (beyond t i))) [
    | no f ↦ tip-partner i l m (omega arith)
    | yes a ↦ elim (dec_le 2 (count n (λ x. not (beyond t i x)))) [
      | no f ↦ top_partner i l m (omega arith)
      | yes b ↦ (
          let s : Split n (nodes t - 1) (beyond t) i = record {
            above = l;
            edge = omega arith;
            beyond = (count_twice n (beyond t i)).0 a;
            here = (count_twice n (λ x. not (beyond t i x))).0 b;
          } in
          let r = there i s in (r.0, split_partner i s r.0 r.1 r.2))
    ]
  ]
