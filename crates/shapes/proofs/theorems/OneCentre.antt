-- Three nodes have one centre, and a climb leaves it where it is.
-- Assumes nothing.
use Rattle.std.specs.Prelude.{◌≡◌, ◌≢◌, ◌↔◌, ℕ, zero, suc, ◌+◌, ◌≤◌, ◌<◌, T}
use Rattle.std.proofs.Common.{sym, ◌∙◌, ap, inl, inr, arith, T_not}
use Rattle.std.proofs.Math.Decide.{dec_le, dec_lt, ℕ_discrete}
use Rattle.sums.specs.Bits.{bit}
use Rattle.sums.specs.theorems.BitLaws.{bit_le, T_true, T_false, alike}
use Rattle.sums.specs.theorems.TestLaws.{and-iff, T_dec}
use Rattle.sums.specs.theorems.CountLaws.{Once}
use Rattle.shapes.specs.theorems.AncestorLaws.{Rooted}
use Rattle.shapes.proofs.theorems.AncestorLaws.{parent-lt, anc-lt, anc_up, anc_self, anc_root}
use Rattle.shapes.specs.Ancestors.{anc}
use Rattle.shapes.specs.theorems.PathLaws.{OnPath}
use Rattle.shapes.proofs.theorems.PathLaws.{on_path-iff, path_side, children-apart}
use Rattle.shapes.specs.Centres.{on_all, centre_below, centre_of}
use Rattle.shapes.specs.theorems.OneCentre.{OnAll}

pub on_all-iff : (up : ℕ → ℕ) (k v a b c : ℕ) → T (on_all up k v a b c) ↔ OnAll up k v a b c
unfolding on_all
on_all-iff up k v a b c = (
  λ t. let s = simp (and-iff, on_path-iff) at t in (s.0.0, s.0.1, s.1),
  λ o. simp (and-iff, on_path-iff) ((o.0, o.1), o.2),
)

-- where a node below m is on all three paths, `centre_below` finds one
found : (up : ℕ → ℕ) (k m a b c v : ℕ) → v < m → T (on_all up k v a b c)
    → (centre_below up k m a b c < m) × T (on_all up k (centre_below up k m a b c) a b c)
unfolding centre_below
found up k zero a b c v l t = absurd (omega arith)
found up k (suc m) a b c v l t = elim (T_dec (on_all up k m a b c)) [
  | inl y ↦ rw (T_true (on_all up k m a b c) y, centre_below) (omega arith, y)
  | inr z ↦ (
      let n = T_not (on_all up k m a b c) z in
      let d : v ≢ m = λ e. n (rw e at t) in
      let s = found up k m a b c v (omega arith) t in
      rw (T_false (on_all up k m a b c) n, centre_below) (omega (arith, s.0), s.1))
]

-- how many of a, b and c are v or below v
abbrev below : (ℕ → ℕ) → ℕ → ℕ → ℕ → ℕ → ℕ
below up v a b c = bit (anc up v a) + bit (anc up v b) + bit (anc up v c)

-- v is the last node above two of them: it will be the centre
record Deepest (up : ℕ → ℕ) (k v a b c : ℕ) : Type 0 where
  bound : v ≤ k
  two : 2 ≤ below up v a b c
  last : (w : ℕ) → v < w → below up w a b c ≤ 1

module _ (up : ℕ → ℕ) (r : Rooted up) where
  -- ---- at most one node is on all three paths

  -- edge w is between v and w, and has two of a, b and c on one side
  none_lower : (k v w a b c : ℕ) → v < w → w ≤ k → OnAll up k v a b c → OnAll up k w a b c → ⊥
  none_lower k v w a b c l lw o q = elim (ℕ_discrete (bit (anc up w a)) (bit (anc up w b))) [
    | yes e ↦ parted a b o.0 q.0 e
    | no n ↦ elim (ℕ_discrete (bit (anc up w a)) (bit (anc up w c))) [
      | yes e ↦ parted a c o.1 q.1 e
      | no m ↦ parted b c o.2 q.2
          (omega (arith, bit_le (anc up w a), bit_le (anc up w b), bit_le (anc up w c)))
    ]
  ]
    where
      parted : (x y : ℕ) → OnPath up k v x y → OnPath up k w x y → bit (anc up w x) ≡ bit (anc up w y) → ⊥
      parted x y f g e = omega (
        arith,
        path_side up r k w v x y lw (omega arith) f e,
        path_side up r k w w x y lw lw g e,
        anc-lt up r w v l,
        anc_self up r w,
      )

  one-centre : (k v w a b c : ℕ) → v ≤ k → w ≤ k → OnAll up k v a b c → OnAll up k w a b c → v ≡ w
  one-centre k v w a b c lv lw o q = elim (dec_lt v w) [
    | yes l ↦ absurd (none_lower k v w a b c l lw o q)
    | no m ↦ elim (dec_lt w v) [
      | yes l ↦ absurd (none_lower k w v a b c l lv q o)
      | no n ↦ omega arith
    ]
  ]

  -- ---- at least one is: the last node above two of a, b and c

  deepest : (k n a b c : ℕ) → n ≤ k → ((w : ℕ) → n < w → below up w a b c ≤ 1)
      → (v : ℕ) × Deepest up k v a b c
  deepest k zero a b c l h = (
    0,
    record {
      bound = l;
      two = omega (arith, anc_root up r a, anc_root up r b);
      last = h;
    },
  )
  deepest k (suc n) a b c l h = elim (dec_le 2 (below up (suc n) a b c)) [
    | yes m ↦ (suc n, record { bound = l; two = m; last = h })
    | no m ↦ deepest k n a b c (omega arith) (λ w g. elim (ℕ_discrete w (suc n)) [
      | yes e ↦ rw e (omega arith)
      | no d ↦ h w (omega arith)
    ])
  ]

  deepest_on : (k v a b c : ℕ) → Deepest up k v a b c → OnAll up k v a b c
  deepest_on k v a b c t = (
    children-apart up r k v a b (omega (arith, bit_le (anc up v c))) (λ j e x y. later j e (omega arith)),
    children-apart up r k v a c (omega (arith, bit_le (anc up v b))) (λ j e x y. later j e (omega arith)),
    children-apart up r k v b c (omega (arith, bit_le (anc up v a))) (λ j e x y. later j e (omega arith)),
  )
    where
      later : (j : ℕ) → up (suc j) ≡ v → 2 ≤ below up (suc j) a b c → ⊥
      later j e h = omega (arith, t.last (suc j) (omega (arith, r.falls j)))

  -- it does not depend on the order of the three
  turned : (k v a b c : ℕ) → Deepest up k v a b c → Deepest up k v b c a
  turned k v a b c t = record {
    bound = t.bound;
    two = omega arith;
    last = λ w l. omega (arith, t.last w l);
  }

  -- and is the same if the largest of the three is replaced by its parent
  climbed : (k v a b c : ℕ) → b < a → c < a → Deepest up k v (up a) b c → Deepest up k v a b c
  climbed k v zero b c lb lc t = absurd (omega arith)
  climbed k v (suc a) b c lb lc t = record {
    bound = t.bound;
    two = omega (arith, anc_up up r v a);
    last = λ w l. elim (alike w (suc a)) [
      | inl e ↦ omega (
        arith,
        anc-lt up r w b (omega arith),
        anc-lt up r w c (omega arith),
        bit_le (anc up w (suc a)),
      )
      | inr d ↦ omega (arith, t.last w l, anc_up up r w a)
    ];
  }

  -- ---- the centre

  module _ (k a b c : ℕ) (la : a ≤ k) (lb : b ≤ k) (lc : c ≤ k) where
    deepest_of : (v : ℕ) × Deepest up k v a b c
    deepest_of = deepest k k a b c (omega arith) (λ w l. omega (
      arith,
      anc-lt up r w a (omega arith),
      anc-lt up r w b (omega arith),
      anc-lt up r w c (omega arith),
    ))

    -- exactly one node is on all three paths
    pub centre_once : Once (suc k) (λ v. on_all up k v a b c)
    centre_once = let s = deepest_of in let o = deepest_on k s.0 a b c s.1 in (
      s.0,
      omega (arith, s.1.bound),
      (on_all-iff up k s.0 a b c).1 o,
      λ j l t. one-centre k j s.0 a b c (omega arith) s.1.bound ((on_all-iff up k j a b c).0 t) o,
    )

    pub centre_on : (centre_of up k a b c ≤ k) × T (on_all up k (centre_of up k a b c) a b c)
    unfolding centre_of
    centre_on =
        let o = centre_once in
        let s = found up k (suc k) a b c o.0 o.1 o.2 in
        (omega (arith, s.0), s.1)

    pub centre_only : (v : ℕ) → v ≤ k → T (on_all up k v a b c) → v ≡ centre_of up k a b c
    centre_only v l t =
        let o = centre_once in
        o.3 v (omega arith) t ∙ sym (o.3 (centre_of up k a b c) (omega (arith, centre_on.0)) centre_on.1)

    deepest_is : (v : ℕ) → Deepest up k v a b c → v ≡ centre_of up k a b c
    deepest_is v t = centre_only v t.bound ((on_all-iff up k v a b c).1 (deepest_on k v a b c t))

    centre_deepest : Deepest up k (centre_of up k a b c) a b c
    centre_deepest = let s = deepest_of in rw (deepest_is s.0 s.1) at s.1

  centre_turn : (k a b c : ℕ) → a ≤ k → b ≤ k → c ≤ k → centre_of up k a b c ≡ centre_of up k b c a
  centre_turn k a b c la lb lc =
      deepest_is k b c a lb lc la (centre_of up k a b c) (turned k _ a b c (centre_deepest k a b c la lb lc))

  -- ---- two of the three nodes are one

  pub joined_ab : (k a b c : ℕ) → a ≤ k → b ≤ k → c ≤ k → a ≡ b → centre_of up k a b c ≡ a
  joined_ab k a b c la lb lc e = sym (deepest_is k a b c la lb lc a (record {
    bound = la;
    two = omega (arith, anc_self up r a, ap (λ (x : ℕ). bit (anc up a x)) e);
    last = λ w l. omega (arith, anc-lt up r w a l, anc-lt up r w b (omega arith), bit_le (anc up w c));
  }))

  pub joined_bc : (k a b c : ℕ) → a ≤ k → b ≤ k → c ≤ k → b ≡ c → centre_of up k a b c ≡ b
  joined_bc k a b c la lb lc e = centre_turn k a b c la lb lc ∙ joined_ab k b c a lb lc la e

  pub joined_ac : (k a b c : ℕ) → a ≤ k → b ≤ k → c ≤ k → a ≡ c → centre_of up k a b c ≡ a
  joined_ac k a b c la lb lc e =
      sym (centre_turn k c a b lc la lb) ∙ joined_ab k c a b lc la lb (sym e) ∙ sym e

  -- ---- the largest of the three nodes is replaced by its parent

  pub climb_first : (k a b c : ℕ) → a ≤ k → b ≤ k → c ≤ k → b < a → c < a
      → centre_of up k (up a) b c ≡ centre_of up k a b c
  climb_first k a b c la lb lc ba ca =
      let l : up a ≤ k = omega (arith, parent-lt up r a (omega arith)) in
      let t = centre_deepest k (up a) b c l lb lc in
      deepest_is k a b c la lb lc (centre_of up k (up a) b c) (climbed k _ a b c ba ca t)

  pub climb_second : (k a b c : ℕ) → a ≤ k → b ≤ k → c ≤ k → a < b → c < b
      → centre_of up k a (up b) c ≡ centre_of up k a b c
  climb_second k a b c la lb lc ab cb =
      centre_turn k a (up b) c la (omega (arith, parent-lt up r b (omega arith))) lc
      ∙ climb_first k b c a lb lc la cb ab
      ∙ sym (centre_turn k a b c la lb lc)

  pub climb_third : (k a b c : ℕ) → a ≤ k → b ≤ k → c ≤ k → a < c → b < c
      → centre_of up k a b (up c) ≡ centre_of up k a b c
  climb_third k a b c la lb lc ac bc =
      sym (centre_turn k (up c) a b (omega (arith, parent-lt up r c (omega arith))) la lb)
      ∙ climb_first k c a b lc la lb ac bc
      ∙ centre_turn k c a b lc la lb
