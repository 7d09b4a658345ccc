-- Laws of orders: which rule is told, what is accepted, one paragraph after another.
-- Assumes nothing.
use Rattle.std.specs.Prelude.{◌≡◌, refl, Bool, true, false, not, ◌≢◌, ◌↔◌, List, [], ◌∷◌, ◌++◌, ℕ, zero, suc, ◌≤◌, T}
use Rattle.std.proofs.Common.{◌∙◌, subst, arith}
use Rattle.tree_check.specs.Refusals.{Rule, refusal, if_accepted}

pub if_accepted_lem : {A : Type 0} (k : ℕ) (x y : A) → k ≡ 0 → if_accepted k x y ≡ x
unfolding if_accepted
if_accepted_lem zero x y e = refl
if_accepted_lem (suc k) x y e = absurd (omega arith)

pub if_refused : {A : Type 0} (k : ℕ) (x y : A) → k ≢ 0 → if_accepted k x y ≡ y
unfolding if_accepted
if_refused zero x y d = absurd (d refl)
if_refused (suc k) x y d = refl

-- no rule is broken
abbrev pub Kept : List Rule → Type 0
Kept [] = Unit {0}
Kept (r ∷ rs) = T (not r.1) × Kept rs

-- no rule has the number 0, which stands for accepted
abbrev pub Numbered : List Rule → Type 0
Numbered [] = Unit {0}
Numbered (r ∷ rs) = (1 ≤ r.0) × Numbered rs

pub refusal_none : refusal [] ≡ 0
unfolding refusal
refusal_none = refl

-- a broken rule is told, and a kept one passed over
pub refusal_here : (k : ℕ) (b : Bool) (rs : List Rule) → b ≡ true → refusal ((k, b) ∷ rs) ≡ k
unfolding refusal
refusal_here k true rs e = refl
refusal_here k false rs e = absurd (subst (λ (x : Bool). T (not x)) e tt)

pub refusal_next : (k : ℕ) (b : Bool) (rs : List Rule) → b ≡ false → refusal ((k, b) ∷ rs) ≡ refusal rs
unfolding refusal
refusal_next k true rs e = absurd (subst T e tt)
refusal_next k false rs e = refl

pub accepted : (rs : List Rule) → Numbered rs → (refusal rs ≡ 0) ↔ Kept rs
unfolding refusal
accepted [] p = (λ e. tt, λ k. refl)
accepted (r ∷ rs) p = go r.1 refl (accepted rs p.1)
  where
    go : (b : Bool) → r.1 ≡ b → (refusal rs ≡ 0) ↔ Kept rs
        → (◌≡◌ {A = ℕ} (elim b as (λ x. ℕ) [ true ↦ r.0 | false ↦ refusal rs ]) 0)
        ↔ (T (not r.1) × Kept rs)
    go true e ih = (
      λ z. absurd (omega (arith, p.0, z)),
      λ k. absurd (subst (λ (x : Bool). T (not x)) e k.0),
    )
    go false e ih = (λ z. (rw e tt, ih.0 z), λ k. ih.1 k.1)

-- ---- numbers that name rules

-- each number is what f makes of it, where f reads it as a rule and tells that rule's number
abbrev pub Named : (ℕ → ℕ) → List Rule → Type 0
Named f [] = Unit {0}
Named f (r ∷ rs) = (f r.0 ≡ r.0) × Named f rs

pub named_refusal : (f : ℕ → ℕ) (rs : List Rule) → Named f rs → refusal rs ≢ 0 → f (refusal rs) ≡ refusal rs
unfolding refusal
named_refusal f [] n d = absurd (d refl)
named_refusal f (r ∷ rs) n d = go r.1 d (λ e. named_refusal f rs n.1 e)
  where
    go : (b : Bool) → (◌≡◌ {A = ℕ} (elim b as (λ x. ℕ) [ true ↦ r.0 | false ↦ refusal rs ]) 0 → ⊥)
        → (refusal rs ≢ 0 → f (refusal rs) ≡ refusal rs)
        → f (elim b as (λ x. ℕ) [ true ↦ r.0 | false ↦ refusal rs ]) ≡ elim b as (λ x. ℕ) [ true ↦ r.0 | false ↦ refusal rs ]
    go true e ih = n.0
    go false e ih = ih e

pub named_append : (f : ℕ → ℕ) (rs ss : List Rule) → Named f rs → Named f ss → Named f (rs ++ ss)
named_append f [] ss p q = q
named_append f (r ∷ rs) ss p q = (p.0, named_append f rs ss p.1 q)

-- ---- one paragraph after another

pub kept_append : (rs ss : List Rule) → Kept (rs ++ ss) ↔ Kept rs × Kept ss
kept_append [] ss = (λ k. (tt, k), λ k. k.1)
kept_append (r ∷ rs) ss =
    let ih = kept_append rs ss in
    (λ k. let q = ih.0 k.1 in ((k.0, q.0), q.1), λ k. (k.0.0, ih.1 (k.0.1, k.1)))

pub numbered_append : (rs ss : List Rule) → Numbered rs → Numbered ss → Numbered (rs ++ ss)
numbered_append [] ss p q = q
numbered_append (r ∷ rs) ss p q = (p.0, numbered_append rs ss p.1 q)

-- what the first paragraph refuses stays refused, whatever follows
pub refusal-first : (rs ss : List Rule) → refusal rs ≢ 0 → refusal (rs ++ ss) ≡ refusal rs
unfolding refusal
refusal-first [] ss n = absurd (n refl)
refusal-first (r ∷ rs) ss n = go r.1 n (λ m. refusal-first rs ss m)
  where
    go : (b : Bool) → (◌≡◌ {A = ℕ} (elim b as (λ x. ℕ) [ true ↦ r.0 | false ↦ refusal rs ]) 0 → ⊥)
        → (refusal rs ≢ 0 → refusal (rs ++ ss) ≡ refusal rs)
        → ◌≡◌ {A = ℕ} (elim b as (λ x. ℕ) [ true ↦ r.0 | false ↦ refusal (rs ++ ss) ])
        (elim b as (λ x. ℕ) [ true ↦ r.0 | false ↦ refusal rs ])
    go true m ih = refl
    go false m ih = ih m

-- what the first paragraph accepts goes on to the second
pub refusal-kept : (rs ss : List Rule) → Kept rs → refusal (rs ++ ss) ≡ refusal ss
unfolding refusal
refusal-kept [] ss k = refl
refusal-kept (r ∷ rs) ss k = go r.1 k.0 ∙ refusal-kept rs ss k.1
  where
    go : (b : Bool) → T (not b)
        → ◌≡◌ {A = ℕ} (elim b as (λ x. ℕ) [ true ↦ r.0 | false ↦ refusal (rs ++ ss) ]) (refusal (rs ++ ss))
    go true h = absurd h
    go false h = refl
