-- Three nodes with x, and with y in place of x: whether the three tests of the four agree.
-- Assumes nothing.
use Rattle.std.specs.Prelude.{◌≡◌, ◌⊎◌, ◌≢◌, ℕ, ◌≤◌, T}
use Rattle.std.proofs.Common.{sym, ◌∙◌, subst, inl, inr, T_not}
use Rattle.std.proofs.Math.Decide.{ℕ_discrete}
use Rattle.sums.specs.theorems.TestLaws.{T_dec, same_test}
use Rattle.shapes.specs.theorems.AncestorLaws.{Rooted}
use Rattle.shapes.specs.Quartets.{parted}
use Rattle.shapes.proofs.theorems.PartedFours.{parted_turn, parted-swap_left, parted-swap_right}
use Rattle.exchanges.specs.theorems.PathOrder.{off, ahead, hang}
use Rattle.exchanges.proofs.theorems.PathOrder.{hang_clash, ahead_trans}
use Rattle.exchanges.proofs.theorems.PathOrder.{pairs_first, first_pairs, ahead_off, off_ahead}
use Rattle.exchanges.specs.theorems.ThreeNodes.{AllAlike, PairsAlike}

module _ (up : ℕ → ℕ) (r : Rooted up) (k x y : ℕ) where
  -- seen from y
  turned : (a b : ℕ) → T (ahead up k y x a b) → T (ahead up k x y b a)
  turned a b = subst T (parted_turn up k y a x b)

  back : (a b : ℕ) → T (ahead up k x y b a) → T (ahead up k y x a b)
  back a b = subst T (parted_turn up k x b y a)

  hang_turned : (a b : ℕ) → T (hang up k x y a b) → T (hang up k y x a b)
  hang_turned a b = subst T (parted-swap_right up k a b x y)

  hang_back : (a b : ℕ) → T (hang up k y x a b) → T (hang up k x y a b)
  hang_back a b = subst T (parted-swap_right up k a b y x)

  hang-swap : (a b : ℕ) → T (hang up k x y a b) → T (hang up k x y b a)
  hang-swap a b = subst T (parted-swap_left up k a b x y)

  alike_of : (a b c : ℕ)
      → (T (ahead up k x y a b) → T (ahead up k x y a c) → T (hang up k x y b c))
      → (T (ahead up k x y b a) → T (ahead up k x y c a) → T (hang up k x y b c))
      → PairsAlike up k x y a b c
  alike_of a b c f g = same_test _ _
      (λ t. elim (T_dec (parted up k y a b c)) [
        | inl u ↦ u
        | inr u ↦ (let s = pairs_first up r k x y a b c t (T_not (parted up k y a b c) u) in absurd (s.2 (f s.0 s.1)))
      ])
      (λ t. elim (T_dec (parted up k x a b c)) [
        | inl u ↦ u
        | inr u ↦ (
            let s = pairs_first up r k y x a b c t (T_not (parted up k x a b c) u) in
            absurd (s.2 (hang_turned b c (g (turned a b s.0) (turned a c s.1)))))
      ])

  ahead_unlike : (a b c : ℕ) → T (ahead up k x y a b) → T (ahead up k x y a c)
      → (T (hang up k x y b c) → ⊥) → PairsAlike up k x y a b c → ⊥
  ahead_unlike a b c ab ac h e =
      let s = first_pairs up r k x y a b c ab ac h in s.1 (subst T e s.0)

  behind_unlike : (a b c : ℕ) → T (ahead up k x y b a) → T (ahead up k x y c a)
      → (T (hang up k x y b c) → ⊥) → PairsAlike up k x y a b c → ⊥
  behind_unlike a b c ba ca h e =
      let s = first_pairs up r k y x a b c (back a b ba) (back a c ca) (λ t. h (hang_back b c t)) in
      s.1 (subst T (sym e) s.0)

  module _ (lx : x ≤ k) (ly : y ≤ k) where
    -- what hangs together leaves the path at one node
    pub hang_off : (a b : ℕ) → a ≤ k → b ≤ k → T (hang up k x y a b) → off up k x y a ≡ off up k x y b
    hang_off a b la lb t = elim (ℕ_discrete (off up k x y a) (off up k x y b)) [
      | yes e ↦ e
      | no d ↦ elim (off_ahead up r k x y lx ly a b la lb d) [
        | inl u ↦ absurd (hang_clash up r k x y a b t u)
        | inr u ↦ absurd (hang_clash up r k x y b a (hang-swap a b t) u)
      ]
    ]

    module _ (a b c : ℕ) (la : a ≤ k) (lb : b ≤ k) (lc : c ≤ k) where
      never : off up k x y a ≡ off up k x y b → T (ahead up k x y a b) → ⊥
      never e t = ahead_off up r k x y lx ly a b la lb t e

      never' : off up k x y a ≡ off up k x y b → T (ahead up k x y b a) → ⊥
      never' e t = ahead_off up r k x y lx ly b a lb la t (sym e)

      -- c is ahead of a and b, or behind both
      pub third_unlike : off up k x y a ≡ off up k x y b → off up k x y a ≢ off up k x y c
          → (T (hang up k x y a b) → ⊥) → PairsAlike up k x y c a b → ⊥
      third_unlike e d h q = elim (off_ahead up r k x y lx ly c a lc la (λ f. d (sym f))) [
        | inl ca ↦ elim (off_ahead up r k x y lx ly c b lc lb (λ f. d (e ∙ sym f))) [
          | inl cb ↦ ahead_unlike c a b ca cb h q
          | inr bc ↦ never' e (ahead_trans up r k x y b c a bc ca)
        ]
        | inr ac ↦ elim (off_ahead up r k x y lx ly c b lc lb (λ f. d (e ∙ sym f))) [
          | inl cb ↦ never e (ahead_trans up r k x y a c b ac cb)
          | inr bc ↦ behind_unlike c a b ac bc h q
        ]
      ]

      -- a and b leave the path at one node
      pub joined_alike : off up k x y a ≡ off up k x y b
          → (T (hang up k x y a b)) ⊎ (off up k x y a ≡ off up k x y c) → AllAlike up k x y a b c
      joined_alike e h = record {
        one = alike_of a b c (λ s t. absurd (never e s)) (λ s t. absurd (never' e s));
        two = alike_of b a c (λ s t. absurd (never' e s)) (λ s t. absurd (never e s));
        three = elim h [
          | inl t ↦ alike_of c a b (λ p q. t) (λ p q. t)
          | inr f ↦ alike_of c a b (λ p q. absurd (ahead_off up r k x y lx ly c a lc la p (sym f)))
              (λ p q. absurd (ahead_off up r k x y lx ly a c la lc p f))
        ];
      }

      -- all three leave it at different nodes
      pub apart_unlike : off up k x y a ≢ off up k x y b → off up k x y a ≢ off up k x y c
          → off up k x y b ≢ off up k x y c → AllAlike up k x y a b c → ⊥
      apart_unlike ab ac bc q = elim (off_ahead up r k x y lx ly a b la lb ab) [
        | inl p ↦ elim (off_ahead up r k x y lx ly a c la lc ac) [
          | inl s ↦ first-a p s
          | inr s ↦ first-c s (ahead_trans up r k x y c a b s p)
        ]
        | inr p ↦ elim (off_ahead up r k x y lx ly b c lb lc bc) [
          | inl s ↦ first-b p s
          | inr s ↦ first-c (ahead_trans up r k x y c b a s p) s
        ]
      ]
        where
          first-a : T (ahead up k x y a b) → T (ahead up k x y a c) → ⊥
          first-a p s = ahead_unlike a b c p s (λ t. bc (hang_off b c lb lc t)) q.one

          first-b : T (ahead up k x y b a) → T (ahead up k x y b c) → ⊥
          first-b p s = ahead_unlike b a c p s (λ t. ac (hang_off a c la lc t)) q.two

          first-c : T (ahead up k x y c a) → T (ahead up k x y c b) → ⊥
          first-c p s = ahead_unlike c a b p s (λ t. ab (hang_off a b la lb t)) q.three
