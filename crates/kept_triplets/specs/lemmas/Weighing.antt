-- Places with weights: 1 in a span, 65536 in the rest of the span above it; and what the first places weigh.
-- Assumes nothing.
use Rattle.std.specs.Prelude.{◌≡◌, refl, Bool, true, false, ◌⊎◌, List, ℕ, zero, suc, ◌+◌, ◌*◌, ◌-◌, ◌≤◌, ◌<◌, T, length, set, replicate}
use Rattle.std.proofs.Common.{◌∙◌, inl, inr, arith, length-set, get_or-set_same, get_or-set_other}
use Rattle.std.proofs.Math.Decide.{ℕ_discrete, dec_le, dec_lt}
use Rattle.table_words.specs.Sizes.{tips_most}
use Rattle.sums.specs.Sum.{sum}
use Rattle.sums.specs.Bits.{bit}
use Rattle.sums.specs.theorems.BitLaws.{bit-T, bit_cases, bit_le}
use Rattle.tree_check.specs.Table.{word}
use Rattle.walks.specs.theorems.SpanLaws.{in_span, in_span-iff}

-- ---- a span is filled, place by place

-- of the span from b to before e, the places before k have the value v
pub record SpanFilled (b e k v : ℕ) (old new : List ℕ) : Type 0 where
  pub long : length new ≡ tips_most
  pub inside : (q : ℕ) → b ≤ q → q < e → q < k → word new q ≡ v
  pub outside : (q : ℕ) → (q < b) ⊎ (k ≤ q) → word new q ≡ word old q

pub filled_none : (b e v : ℕ) (old : List ℕ) → length old ≡ tips_most → SpanFilled b e b v old old
filled_none b e v old l = record { long = l; inside = λ q m n o. absurd (omega arith); outside = λ q m. refl }

pub filled_next : (b e k v : ℕ) (old new : List ℕ) → b ≤ k → k < tips_most → SpanFilled b e k v old new
    → SpanFilled b e (k + 1) v old (set new k v)
filled_next b e k v old new l m h = record {
  long = length-set new k v ∙ h.long;
  inside = λ q a o r. elim (ℕ_discrete q k) [
    | yes d ↦ rw d (get_or-set_same new k v 0 (omega (arith, h.long)))
    | no d ↦ get_or-set_other new k q v 0 d ∙ h.inside q a o (omega arith)
  ];
  outside = λ q a. get_or-set_other new k q v 0 (other q a) ∙ h.outside q (sooner q a);
}
  where
    other : (q : ℕ) → (q < b) ⊎ (k + 1 ≤ q) → q ≡ k → ⊥
    other q (inl a) e = omega arith
    other q (inr a) e = omega arith

    sooner : (q : ℕ) → (q < b) ⊎ (k + 1 ≤ q) → (q < b) ⊎ (k ≤ q)
    sooner q (inl a) = inl a
    sooner q (inr a) = inr (omega arith)

-- the whole span, where it ends after it begins; an empty one changes nothing
pub filled-all : (b e k v : ℕ) (old new : List ℕ) → e ≤ k → (k ≤ e) ⊎ (k ≡ b) → SpanFilled b e k v old new → SpanFilled b e e v old new
filled-all b e k v old new l m h = record {
  long = h.long;
  inside = λ q a o r. h.inside q a o (omega arith);
  outside = λ q a. go q a m;
}
  where
    go : (q : ℕ) → (q < b) ⊎ (e ≤ q) → (k ≤ e) ⊎ (k ≡ b) → word new q ≡ word old q
    go q (inl a) n = h.outside q (inl a)
    go q (inr a) (inl n) = h.outside q (inr (omega arith))
    go q (inr a) (inr n) = elim (dec_lt q b) [ yes o ↦ h.outside q (inl o) | no o ↦ h.outside q (inr (omega arith)) ]

-- ---- the weights of a span and of the span above it

-- 1 where the place lies in the span above alone
abbrev pub leaving : ℕ → ℕ → ℕ → ℕ → ℕ → ℕ
leaving b e b' e' q = bit (in_span q b' e') * (1 - bit (in_span q b e))

pub record LowWeights (weights : List ℕ) : Type 0 where
  pub low : (q : ℕ) → word weights q ≤ 65536

zeros : (n q : ℕ) → word (replicate n 0) q ≡ 0
zeros zero q = refl
zeros (suc n) zero = refl
zeros (suc n) (suc q) = zeros n q

is_in : (x : Bool) → bit x ≡ 1 → T x
unfolding bit
is_in true o = tt
is_in false o = absurd (omega (arith, o))

is_out : (q b e : ℕ) → bit (in_span q b e) ≡ 0 → (q < b) ⊎ (e ≤ q)
is_out q b e o = elim (dec_lt q b) [
  | yes l ↦ inl l
  | no l ↦ elim (dec_le e q) [
    | yes m ↦ inr m
    | no m ↦ absurd (omega (arith, o, bit-T (in_span q b e) ((in_span-iff q b e).1 (omega arith, omega arith))))
  ]
]

module _ (b e b' e' : ℕ) (first second : List ℕ) (f : SpanFilled b' e' e' 65536 (replicate tips_most 0) first)
    (s : SpanFilled b e e 1 first second) where
  above : (q : ℕ) → word first q ≡ 65536 * bit (in_span q b' e')
  above q = elim (bit_cases (in_span q b' e')) [
    | inr o ↦ (let t = (in_span-iff q b' e').0 (is_in (in_span q b' e') o) in
        f.inside q t.0 t.1 t.1 ∙ omega (arith, o))
    | inl o ↦ f.outside q (is_out q b' e' o) ∙ zeros tips_most q ∙ omega (arith, o)
  ]

  pub weights_are : (q : ℕ) → word second q ≡ bit (in_span q b e) + 65536 * leaving b e b' e' q
  weights_are q = elim (bit_cases (in_span q b e)) [
    | inr o ↦ (let t = (in_span-iff q b e).0 (is_in (in_span q b e) o) in
        s.inside q t.0 t.1 t.1 ∙ rw o (omega arith))
    | inl o ↦ s.outside q (is_out q b e o) ∙ above q ∙ rw o (omega arith)
  ]

  pub weights_low : LowWeights second
  weights_low = record {
    low = λ q. elim (bit_cases (in_span q b e)) [
      | inr o ↦ rw (weights_are q, o) (omega arith)
      | inl o ↦ rw (weights_are q, o) (omega (arith, bit_le (in_span q b' e')))
    ];
  }

-- ---- what the first places weigh

pub record Weighed (at weights : List ℕ) (n : ℕ) (sums : List ℕ) : Type 0 where
  pub long : length sums ≡ tips_most
  pub sum_is : (k : ℕ) → k ≤ n → word sums k ≡ sum k (λ i. word weights (word at i))

leaves : (x y : Bool) → bit x ≤ bit y → bit y * (1 - bit x) + bit x ≡ bit y
unfolding bit
leaves true true l = omega arith
leaves true false l = absurd (omega arith)
leaves false true l = omega arith
leaves false false l = omega arith

-- the places of the span, and those of the span above alone from 65536 on
pub weighed-parts : (at weights : List ℕ) (b e b' e' k : ℕ)
    → ((q : ℕ) → word weights q ≡ bit (in_span q b e) + 65536 * leaving b e b' e' q)
    → ((i : ℕ) → i < k → bit (in_span (word at i) b e) ≤ bit (in_span (word at i) b' e'))
    → sum k (λ i. word weights (word at i)) + 65536 * sum k (λ i. bit (in_span (word at i) b e))
    ≡ sum k (λ i. bit (in_span (word at i) b e)) + 65536 * sum k (λ i. bit (in_span (word at i) b' e'))
unfolding sum
weighed-parts at weights b e b' e' zero h n = omega arith
weighed-parts at weights b e b' e' (suc k) h n = omega (
  arith,
  weighed-parts at weights b e b' e' k h (λ i l. n i (omega arith)),
  h (word at k),
  leaves (in_span (word at k) b e) (in_span (word at k) b' e') (n k (omega arith)),
)
