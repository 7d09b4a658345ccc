-- Weights of lists, and of lists one after another.
-- Assumes nothing.
use Rattle.std.specs.Prelude.{◌≡◌, ℕ, zero, suc, ◌+◌, ◌*◌, ◌<◌, Bool, true, false, T, List, [], ◌∷◌, ◌++◌, length, refl}
use Rattle.std.proofs.Common.{sym, ◌∙◌, ap, ap₂, append_assoc, append-nil, mul-one, arith}
use Rattle.std.proofs.Math.Decide.{ℕ_discrete}
use Rattle.sums.specs.Sum.{sum}
use Rattle.sums.specs.theorems.SumLaws.{sum_first, sum_const}
use Rattle.sums.specs.Bits.{bit}
use Rattle.tree_check.specs.Table.{word}
use Rattle.walks.specs.Walk.{in_turn}

-- the sum of φ over the words of a list
unfoldable pub weight : (ℕ → ℕ) → List ℕ → ℕ
weight φ [] = 0
weight φ (x ∷ xs) = φ x + weight φ xs

pub weight-append : (φ : ℕ → ℕ) (xs ys : List ℕ) → weight φ (xs ++ ys) ≡ weight φ xs + weight φ ys
unfolding weight
weight-append φ [] ys = omega arith
weight-append φ (x ∷ xs) ys = omega (arith, weight-append φ xs ys)

pub weight-sum : (φ : ℕ → ℕ) (xs : List ℕ) → weight φ xs ≡ sum (length xs) (λ j. φ (word xs j))
unfolding weight sum
weight-sum φ [] = refl
weight-sum φ (x ∷ xs) = ap (λ (k : ℕ). φ x + k) (weight-sum φ xs) ∙ sym (sum_first (length xs) _)

pub weight-length : (xs : List ℕ) → weight (λ x. 1) xs ≡ length xs
weight-length xs = weight-sum (λ x. 1) xs ∙ sum_const (length xs) 1 ∙ mul-one (length xs)

-- ---- lists that pass a test

-- the list if the test is passed, else none
abbrev pub only_if : Bool → List ℕ → List ℕ
only_if b l = elim b [ true ↦ l | false ↦ [] ]

pub weight_only_if : (φ : ℕ → ℕ) (b : Bool) (l : List ℕ) → weight φ (only_if b l) ≡ bit b * weight φ l
unfolding weight bit
weight_only_if φ true l = omega arith
weight_only_if φ false l = omega arith

pub weight_in_turn : (φ : ℕ → ℕ) (k : ℕ) (q : ℕ → Bool) (g : ℕ → List ℕ)
    → weight φ (in_turn k q g) ≡ sum k (λ c. bit (q c) * weight φ (g c))
unfolding in_turn sum weight
weight_in_turn φ zero q g = refl
weight_in_turn φ (suc k) q g =
    weight-append φ (in_turn k q g) (only_if (q k) (g k))
    ∙ ap₂ (λ (x y : ℕ). x + y) (weight_in_turn φ k q g) (weight_only_if φ (q k) (g k))

pub in_turn_ext : (k : ℕ) (q : ℕ → Bool) (g h : ℕ → List ℕ) → ((c : ℕ) → c < k → T (q c) → g c ≡ h c)
    → in_turn k q g ≡ in_turn k q h
unfolding in_turn
in_turn_ext zero q g h e = refl
in_turn_ext (suc k) q g h e =
    ap₂ {C = List ℕ} ◌++◌ (in_turn_ext k q g h (λ c l t. e c (omega arith) t)) (go (q k) (e k (omega arith)))
  where
    go : (b : Bool) → (T b → g k ≡ h k) → only_if b (g k) ≡ only_if b (h k)
    go true f = f tt
    go false f = refl

-- the lists before one that passes, its own, and those after
pub in_turn_split : (k i : ℕ) (q : ℕ → Bool) (g : ℕ → List ℕ) → i < k → T (q i)
    → (r : List ℕ) × (in_turn k q g ≡ in_turn i q g ++ (g i ++ r))
unfolding in_turn
in_turn_split zero i q g l t = absurd (omega arith)
in_turn_split (suc k) i q g l t = elim (ℕ_discrete i k) [
  | yes e ↦ ([], rw e (ap (λ (w : List ℕ). in_turn k q g ++ w) (go (q k) (rw e at t))))
  | no d ↦ (let r = in_turn_split k i q g (omega arith) t in
      (r.0 ++ only_if (q k) (g k), rw r.1 (simp append_assoc)))
]
  where
    go : (b : Bool) → T b → only_if b (g k) ≡ g k ++ []
    go true u = sym (append-nil (g k))
    go false u = absurd u
