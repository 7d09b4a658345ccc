-- What a test says in ordinary mathematics; `some` and `every` as a loop finds them.
-- Assumes nothing.
use Rattle.std.specs.Prelude.{◌≡◌, refl, Bool, true, false, not, ◌&&◌, ◌||◌, ◌⊎◌, ◌≢◌, ◌↔◌, ℕ, zero, suc, ◌≤◌, ◌<◌, T, eqb, ltb, leb}
use Rattle.std.proofs.Common.{sym, ap, subst, inl, inr, eq-or-lt_of_le, le_of_suc-le-suc, arith, eqb→eq, leb→le, le→leb, T_not}
use Rattle.std.specs.Bool.{beq}
use Rattle.std.proofs.Math.Decide.{dec_le}
use Rattle.std.proofs.Math.Dec.{eqb_refl, nleb→lt, not_T}
use Rattle.sums.specs.theorems.BitLaws.{T_true, T_false}
use Rattle.sums.specs.Tests.{some, every, first}

-- ---- and, or, not

pub and-iff : (a b : Bool) → T (a && b) ↔ T a × T b
and-iff true b = (λ t. (tt, t), λ h. h.1)
and-iff false b = (λ t. absurd t, λ h. absurd h.0)

pub or-iff : (a b : Bool) → T (a || b) ↔ T a ⊎ T b
or-iff true b = (λ t. inl tt, λ h. tt)
or-iff false b = (λ t. inr t, λ h. elim h [ inl x ↦ absurd x | inr y ↦ y ])

pub nor_iff : (a b : Bool) → T (not (a || b)) ↔ T (not a) × T (not b)
nor_iff true b = (λ t. absurd t, λ h. h.0)
nor_iff false b = (λ t. (tt, t), λ h. h.1)

pub implies_iff : (a b : Bool) → T (not a || b) ↔ (T a → T b)
implies_iff true b = (λ t s. t, λ h. h tt)
implies_iff false b = (λ t s. absurd s, λ h. tt)

-- a test is passed or not
pub T_dec : (b : Bool) → T b ⊎ T (not b)
T_dec true = inl tt
T_dec false = inr tt

pub not-not : (b : Bool) → T (not (not b)) ↔ T b
not-not true = (λ t. tt, λ t. tt)
not-not false = (λ t. t, λ t. t)

pub beq_iff : (a b : Bool) → T (beq a b) ↔ a ≡ b
beq_iff true true = (λ t. refl, λ e. tt)
beq_iff true false = (λ t. absurd t, λ e. subst T e tt)
beq_iff false true = (λ t. absurd t, λ e. subst T (sym e) tt)
beq_iff false false = (λ t. refl, λ e. tt)

-- two tests that are passed together are one
pub same_test : (a b : Bool) → (T a → T b) → (T b → T a) → a ≡ b
same_test true true f g = refl
same_test true false f g = absurd (f tt)
same_test false true f g = absurd (g tt)
same_test false false f g = refl

-- ---- numbers

pub eq_iff : (m n : ℕ) → T (eqb m n) ↔ m ≡ n
eq_iff m n = (eqb→eq m n, λ e. subst (λ (x : ℕ). T (eqb m x)) e (eqb_refl m))

pub le_iff : (m n : ℕ) → T (leb m n) ↔ m ≤ n
le_iff m n = (leb→le m n, le→leb m n)

pub lt_iff : (m n : ℕ) → T (ltb m n) ↔ m < n
lt_iff m n = le_iff (suc m) n

pub not-le-iff : (m n : ℕ) → T (not (leb m n)) ↔ n < m
not-le-iff m n = (nleb→lt m n, λ l. not_T (leb m n) (λ t. omega (arith, leb→le m n t)))

pub not-lt-iff : (m n : ℕ) → T (not (ltb m n)) ↔ n ≤ m
not-lt-iff m n = (
  λ t. le_of_suc-le-suc ((not-le-iff (suc m) n).0 t),
  λ l. (not-le-iff (suc m) n).1 (omega arith),
)

pub not_eq_iff : (m n : ℕ) → T (not (eqb m n)) ↔ m ≢ n
not_eq_iff m n = (
  λ t e. T_not (eqb m n) t ((eq_iff m n).1 e),
  λ d. not_T (eqb m n) (λ t. d ((eq_iff m n).0 t)),
)

-- ---- some and every index below n

pub some-iff : (n : ℕ) (q : ℕ → Bool) → T (some n q) ↔ (i : ℕ) × (i < n) × T (q i)
unfolding some
some-iff zero q = (λ t. absurd t, λ h. absurd (omega (arith, h.1)))
some-iff (suc n) q = (go (q n) refl (some-iff n q).0, back (q n) refl (some-iff n q).1)
  where
    go : (b : Bool) → q n ≡ b → (T (some n q) → (i : ℕ) × (i < n) × T (q i))
        → T (elim b as (λ x. Bool) [ true ↦ true | false ↦ some n q ])
        → (i : ℕ) × (i < suc n) × T (q i)
    go true e r t = (n, omega arith, rw e tt)
    go false e r t = let s = r t in (s.0, omega (arith, s.1), s.2)

    back : (b : Bool) → q n ≡ b → ((i : ℕ) × (i < n) × T (q i) → T (some n q))
        → (i : ℕ) × (i < suc n) × T (q i)
        → T (elim b as (λ x. Bool) [ true ↦ true | false ↦ some n q ])
    back true e r h = tt
    back false e r h = elim (eq-or-lt_of_le (le_of_suc-le-suc h.1)) [
      | inl d ↦ absurd (subst T e (subst (λ (x : ℕ). T (q x)) d h.2))
      | inr m ↦ r (h.0, m, h.2)
    ]

pub every-iff : (n : ℕ) (q : ℕ → Bool) → T (every n q) ↔ ((i : ℕ) → i < n → T (q i))
unfolding every
every-iff zero q = (λ t i l. absurd (omega arith), λ h. tt)
every-iff (suc n) q = (
  λ t i l. go (q n) refl (every-iff n q).0 t i (eq-or-lt_of_le (le_of_suc-le-suc l)),
  λ h. back (q n) refl (h n (omega arith)) ((every-iff n q).1 (λ i l. h i (omega arith))),
)
  where
    go : (b : Bool) → q n ≡ b → (T (every n q) → (i : ℕ) → i < n → T (q i))
        → T (elim b as (λ x. Bool) [ true ↦ every n q | false ↦ false ])
        → (i : ℕ) → (i ≡ n) ⊎ (i < n) → T (q i)
    go true e r t i (inl d) = rw (d, e) tt
    go true e r t i (inr m) = r t i m
    go false e r t i d = absurd t

    back : (b : Bool) → q n ≡ b → T (q n) → T (every n q)
        → T (elim b as (λ x. Bool) [ true ↦ every n q | false ↦ false ])
    back true e t r = r
    back false e t r = subst T e t

pub not-some-iff : (n : ℕ) (q : ℕ → Bool) → T (not (some n q)) ↔ ((i : ℕ) → i < n → T (not (q i)))
not-some-iff n q = (
  λ t i l. not_T (q i) (λ h. T_not (some n q) t ((some-iff n q).1 (i, l, h))),
  λ h. not_T (some n q) (λ t. let r = (some-iff n q).0 t in T_not (q r.0) (h r.0 r.1) r.2),
)

-- of those that pass, the first
pub some_first : (n : ℕ) (q : ℕ → Bool) → T (some n q)
    → (i : ℕ) × (i < n) × T (q i) × ((j : ℕ) → j < i → T (q j) → ⊥)
some_first zero q t = absurd (omega (arith, ((some-iff 0 q).0 t).1))
some_first (suc n) q t = elim (T_dec (some n q)) [
  | inl y ↦ (let r = some_first n q y in (r.0, omega (arith, r.1), r.2, r.3))
  | inr z ↦ (
      let r = (some-iff (suc n) q).0 t in
      (r.0, r.1, r.2, λ j m p. T_not (some n q) z ((some-iff n q).1 (j, omega (arith, r.1, m), p))))
]

pub first_is : (n : ℕ) (q : ℕ → Bool) (i : ℕ) → i < n → T (q i) → ((j : ℕ) → j < i → T (q j) → ⊥) → first n q ≡ i
unfolding first
first_is zero q i l t h = absurd (omega arith)
first_is (suc n) q zero l t h = rw (T_true (q 0) t, first)
first_is (suc n) q (suc i) l t h =
    rw (T_false (q 0) (h 0 (omega arith)), first)
    (ap suc (first_is n (λ j. q (suc j)) i (omega arith) t (λ j m. h (suc j) (omega arith))))

pub first_passes : (n : ℕ) (q : ℕ → Bool) → T (some n q)
    → (first n q < n) × T (q (first n q)) × ((j : ℕ) → j < first n q → T (q j) → ⊥)
first_passes n q t =
    let r = some_first n q t in
    rw (first_is n q r.0 r.1 r.2 r.3) (r.1, r.2, r.3)

pub first-le : (n : ℕ) (q : ℕ → Bool) → first n q ≤ n
unfolding first
first-le zero q = omega arith
first-le (suc n) q = either (q 0) (first-le n (λ i. q (suc i)))
  where
    either : (b : Bool) {x n : ℕ} → x ≤ n → elim b as (λ z. ℕ) [ true ↦ 0 | false ↦ suc x ] ≤ suc n
    either true h = omega arith
    either false h = omega arith

-- an index that is told passes
pub first_hit : (n : ℕ) (q : ℕ → Bool) → first n q < n → T (q (first n q))
unfolding first
first_hit zero q l = absurd (omega arith)
first_hit (suc n) q l = go (q 0) refl (λ m. first_hit n (λ i. q (suc i)) m) l
  where
    go : (b : Bool) → q 0 ≡ b → (first n (λ i. q (suc i)) < n → T (q (suc (first n (λ i. q (suc i))))))
        → elim b as (λ z. ℕ) [ true ↦ 0 | false ↦ suc (first n (λ i. q (suc i))) ] < suc n
        → T (q (elim b as (λ z. ℕ) [ true ↦ 0 | false ↦ suc (first n (λ i. q (suc i))) ]))
    go true e r m = rw e tt
    go false e r m = r (omega arith)

-- no index that passes is before the first
pub first_least_lem : (n : ℕ) (q : ℕ → Bool) (i : ℕ) → i < n → T (q i) → first n q ≤ i
first_least_lem n q i l t = elim (dec_le (first n q) i) [
  | yes m ↦ m
  | no f ↦ absurd ((first_passes n q ((some-iff n q).1 (i, l, t))).2 i (omega arith) t)
]

-- the one index that passes
pub first_only : (n : ℕ) (q : ℕ → Bool) (i : ℕ) → i < n → T (q i) → ((j : ℕ) → j < n → T (q j) → j ≡ i) → first n q ≡ i
first_only n q i l t h = let r = first_passes n q ((some-iff n q).1 (i, l, t)) in h (first n q) r.0 r.1

-- ---- as a loop finds them

-- an index passed, and none before it did
pub first_found : (n : ℕ) (q : ℕ → Bool) (i : ℕ) → i < n → q i ≡ true → ((j : ℕ) → j < i → q j ≡ false) → first n q ≡ i
first_found n q i l e h = first_is n q i l (rw e tt) (λ j m t. subst T (h j m) t)

-- no index passed
pub first_none : (n : ℕ) (q : ℕ → Bool) → ((j : ℕ) → j < n → q j ≡ false) → first n q ≡ n
unfolding first
first_none zero q h = refl
first_none (suc n) q h =
    rw (h 0 (omega arith), first) (ap suc (first_none n (λ i. q (suc i)) (λ j m. h (suc j) (omega arith))))

-- all indices were looked at, and each passed
pub every_true : (n : ℕ) (q : ℕ → Bool) → ((i : ℕ) → i < n → q i ≡ true) → every n q ≡ true
every_true n q h = T_true (every n q) ((every-iff n q).1 (λ i l. rw (h i l) tt))

-- an index did not pass
pub every-false : (n : ℕ) (q : ℕ → Bool) (i : ℕ) → i < n → q i ≡ false → every n q ≡ false
every-false n q i l e = T_false (every n q) (λ t. subst T e ((every-iff n q).0 t i l))

-- an index passed
pub some-true : (n : ℕ) (q : ℕ → Bool) (i : ℕ) → i < n → q i ≡ true → some n q ≡ true
some-true n q i l e = T_true (some n q) ((some-iff n q).1 (i, l, rw e tt))

-- all indices were looked at, and none passed
pub some-false : (n : ℕ) (q : ℕ → Bool) → ((i : ℕ) → i < n → q i ≡ false) → some n q ≡ false
some-false n q h =
    T_false (some n q) (λ t. let r = (some-iff n q).0 t in subst T (h r.0 r.1) r.2)

-- tests that agree below n
pub every_ext : (n : ℕ) (q q' : ℕ → Bool) → ((i : ℕ) → i < n → q i ≡ q' i) → every n q ≡ every n q'
every_ext n q q' h = same_test (every n q) (every n q')
    (λ t. (every-iff n q').1 (λ i l. subst T (h i l) ((every-iff n q).0 t i l)))
    (λ t. (every-iff n q).1 (λ i l. subst T (sym (h i l)) ((every-iff n q').0 t i l)))

pub some_ext : (n : ℕ) (q q' : ℕ → Bool) → ((i : ℕ) → i < n → q i ≡ q' i) → some n q ≡ some n q'
some_ext n q q' h = same_test (some n q) (some n q')
    (λ t. let r = (some-iff n q).0 t in (some-iff n q').1 (r.0, r.1, subst T (h r.0 r.1) r.2))
    (λ t. let r = (some-iff n q').0 t in (some-iff n q).1 (r.0, r.1, subst T (sym (h r.0 r.1)) r.2))
