-- Four nodes that no edge parts two and two: their paths meet at one node, the centre of three of them.
-- Assumes nothing.
use Rattle.std.specs.Prelude.{◌≡◌, Bool, ◌||◌, ◌↔◌, ℕ, suc, ◌+◌, ◌/◌, ◌≤◌, T}
use Rattle.std.proofs.Common.{sym, ◌∙◌, inl, inr, arith}
use Rattle.std.proofs.Math.Path.{ap, fun_ext}
use Rattle.sums.specs.Tests.{first}
use Rattle.sums.specs.Bits.{bit}
use Rattle.sums.specs.theorems.BitLaws.{bit_cases, bit_not}
use Rattle.sums.specs.theorems.TestLaws.{and-iff, or-iff, first_is, same_test}
use Rattle.shapes.specs.Ancestors.{anc}
use Rattle.shapes.specs.theorems.AncestorLaws.{Rooted}
use Rattle.shapes.specs.Directions.{behind}
use Rattle.shapes.proofs.theorems.DirectionLaws.{behind_even, behind_odd, code_cases}
use Rattle.shapes.specs.Quartets.{parts, parts_four, Apart, TwoAndTwo, with_b, with_c, with_d}
use Rattle.shapes.proofs.theorems.PartedFours.{parts-iff}
use Rattle.shapes.specs.theorems.PathLaws.{OnPath}
use Rattle.shapes.proofs.theorems.PathLaws.{on_path-iff}
use Rattle.shapes.specs.Centres.{centre_of, on_six, meet_of}
use Rattle.shapes.proofs.theorems.OneCentre.{on_all-iff, centre_on, centre_only}
use Rattle.shapes.specs.theorems.Meeting.{OnSix}

-- ---- the tests in ordinary mathematics

pub parts_four-iff : (up : ℕ → ℕ) (i a b c d : ℕ) → T (parts_four up i a b c d) ↔ TwoAndTwo up i a b c d
unfolding parts_four
parts_four-iff up i a b c d = (to, from)
  where
    x : Bool
    x = parts up i a b c d

    y : Bool
    y = parts up i a c b d

    z : Bool
    z = parts up i a d b c

    to : T (x || y || z) → TwoAndTwo up i a b c d
    to t = elim ((or-iff (x || y) z).0 t) [
      | inl s ↦ elim ((or-iff x y).0 s) [
        | inl p ↦ with_b ((parts-iff up i a b c d).0 p)
        | inr p ↦ with_c ((parts-iff up i a c b d).0 p)
      ]
      | inr p ↦ with_d ((parts-iff up i a d b c).0 p)
    ]

    from : TwoAndTwo up i a b c d → T (x || y || z)
    from (with_b h) = (or-iff (x || y) z).1 (inl ((or-iff x y).1 (inl ((parts-iff up i a b c d).1 h))))
    from (with_c h) = (or-iff (x || y) z).1 (inl ((or-iff x y).1 (inr ((parts-iff up i a c b d).1 h))))
    from (with_d h) = (or-iff (x || y) z).1 (inr ((parts-iff up i a d b c).1 h))

pub on_six-iff : (up : ℕ → ℕ) (k v a b c d : ℕ) → T (on_six up k v a b c d) ↔ OnSix up k v a b c d
unfolding on_six
on_six-iff up k v a b c d = (
  λ t. let s = simp (and-iff, on_all-iff, on_path-iff) at t in
      record { ab = s.0.0; ac = s.0.1; bc = s.0.2; ad = s.1.0.0; bd = s.1.0.1; cd = s.1.1 },
  λ o. simp (and-iff, on_all-iff, on_path-iff) ((o.ab, o.ac, o.bc), ((o.ad, o.bd), o.cd)),
)

-- ---- the order of the four plays no part

swapped : (up : ℕ → ℕ) (i a b c d : ℕ) → TwoAndTwo up i a b c d → TwoAndTwo up i b a c d
swapped up i a b c d (with_b h) = with_b (record { ab = sym h.ab; cd = h.cd; ac = omega (arith, h.ab, h.ac) })
swapped up i a b c d (with_c h) = with_d (record { ab = h.cd; cd = h.ab; ac = omega (arith, h.ac) })
swapped up i a b c d (with_d h) = with_c (record { ab = h.cd; cd = h.ab; ac = omega (arith, h.ac) })

turned : (up : ℕ → ℕ) (i a b c d : ℕ) → TwoAndTwo up i a b c d → TwoAndTwo up i a c b d
turned up i a b c d (with_b h) = with_c h
turned up i a b c d (with_c h) = with_b h
turned up i a b c d (with_d h) = with_d (record { ab = h.ab; cd = sym h.cd; ac = omega (arith, h.ac, h.cd) })

last_turned : (up : ℕ → ℕ) (i a b c d : ℕ) → TwoAndTwo up i a b c d → TwoAndTwo up i a b d c
last_turned up i a b c d (with_b h) = with_b (record { ab = h.ab; cd = sym h.cd; ac = omega (arith, h.ac, h.cd) })
last_turned up i a b c d (with_c h) = with_d h
last_turned up i a b c d (with_d h) = with_c h

module _ (up : ℕ → ℕ) (i a b c d : ℕ) where
  same_four : (w x y z : ℕ) → (TwoAndTwo up i a b c d → TwoAndTwo up i w x y z)
      → (TwoAndTwo up i w x y z → TwoAndTwo up i a b c d) → parts_four up i w x y z ≡ parts_four up i a b c d
  same_four w x y z f g =
      let p = parts_four-iff up i a b c d in
      let q = parts_four-iff up i w x y z in
      same_test _ _ (λ t. p.1 (g (q.0 t))) (λ t. q.1 (f (p.0 t)))

  pub four_first_two : parts_four up i b a c d ≡ parts_four up i a b c d
  four_first_two = same_four b a c d (swapped up i a b c d) (swapped up i b a c d)

  pub four_middle : parts_four up i a c b d ≡ parts_four up i a b c d
  four_middle = same_four a c b d (turned up i a b c d) (turned up i a c b d)

  pub four_last_two : parts_four up i a b d c ≡ parts_four up i a b c d
  four_last_two = same_four a b d c (last_turned up i a b c d) (last_turned up i a b d c)

path_turned : (up : ℕ → ℕ) (k v a b : ℕ) → OnPath up k v a b → OnPath up k v b a
path_turned up k v a b o c l h x y = o c l h y x

module _ (up : ℕ → ℕ) (k v a b c d : ℕ) where
  same_six : (w x y z : ℕ) → (OnSix up k v a b c d → OnSix up k v w x y z)
      → (OnSix up k v w x y z → OnSix up k v a b c d) → on_six up k v w x y z ≡ on_six up k v a b c d
  same_six w x y z f g =
      let p = on_six-iff up k v a b c d in
      let q = on_six-iff up k v w x y z in
      same_test _ _ (λ t. p.1 (g (q.0 t))) (λ t. q.1 (f (p.0 t)))

six_swapped : (up : ℕ → ℕ) (k v a b c d : ℕ) → OnSix up k v a b c d → OnSix up k v b a c d
six_swapped up k v a b c d o = record {
  ab = path_turned up k v a b o.ab;
  ac = o.bc;
  bc = o.ac;
  ad = o.bd;
  bd = o.ad;
  cd = o.cd;
}

six_turned : (up : ℕ → ℕ) (k v a b c d : ℕ) → OnSix up k v a b c d → OnSix up k v a c b d
six_turned up k v a b c d o = record {
  ab = o.ac;
  ac = o.ab;
  bc = path_turned up k v b c o.bc;
  ad = o.ad;
  bd = o.cd;
  cd = o.bd;
}

six_last_turned : (up : ℕ → ℕ) (k v a b c d : ℕ) → OnSix up k v a b c d → OnSix up k v a b d c
six_last_turned up k v a b c d o = record {
  ab = o.ab;
  ac = o.ad;
  bc = o.bd;
  ad = o.ac;
  bd = o.bc;
  cd = path_turned up k v c d o.cd;
}

module _ (up : ℕ → ℕ) (k a b c d : ℕ) where
  pub meet-first_two : meet_of up k b a c d ≡ meet_of up k a b c d
  unfolding meet_of
  meet-first_two = ap (first (suc k)) (fun_ext (λ v.
      same_six up k v a b c d b a c d (six_swapped up k v a b c d) (six_swapped up k v b a c d)))

  pub meet_middle : meet_of up k a c b d ≡ meet_of up k a b c d
  unfolding meet_of
  meet_middle = ap (first (suc k)) (fun_ext (λ v.
      same_six up k v a b c d a c b d (six_turned up k v a b c d) (six_turned up k v a c b d)))

  pub meet_last_two : meet_of up k a b d c ≡ meet_of up k a b c d
  unfolding meet_of
  meet_last_two = ap (first (suc k)) (fun_ext (λ v.
      same_six up k v a b c d a b d c (six_last_turned up k v a b c d) (six_last_turned up k v a b d c)))

-- ---- the meeting node

-- two nodes behind a directed edge and two that are not are parted by the edge
parting : (up : ℕ → ℕ) (e w x y z : ℕ) → bit (behind up e w) ≡ 1 → bit (behind up e x) ≡ 1 → bit (behind up e y) ≡ 0
    → bit (behind up e z) ≡ 0 → Apart up (suc (e / 2)) w x y z
parting up e w x y z hw hx hy hz = elim (code_cases e) [
  | inl q ↦ (
      let at : (v : ℕ) → bit (behind up e v) ≡ bit (anc up (suc (e / 2)) v) =
      λ v. ap (λ (c : ℕ). bit (behind up c v)) q ∙ ap bit (behind_even up (e / 2) v) in
      record {
        ab = omega (arith, hw, hx, at w, at x);
        cd = omega (arith, hy, hz, at y, at z);
        ac = omega (arith, hw, hy, at w, at y);
      })
  | inr q ↦ (
      let at : (v : ℕ) → bit (behind up e v) + bit (anc up (suc (e / 2)) v) ≡ 1 =
      λ v. omega (
        arith,
        ap (λ (c : ℕ). bit (behind up c v)) q,
        ap bit (behind_odd up (e / 2) v),
        bit_not (anc up (suc (e / 2)) v),
      ) in
      record {
        ab = omega (arith, hw, hx, at w, at x);
        cd = omega (arith, hy, hz, at y, at z);
        ac = omega (arith, hw, hy, at w, at y);
      })
]

-- v is on the paths from x to y and to z; where no edge has x and w on one side and y and z on the other, it is on the path
-- to w too
on_to_fourth : (up : ℕ → ℕ) (k v x y z w : ℕ) → OnPath up k v x y → OnPath up k v x z
    → ((i : ℕ) → 1 ≤ i → i ≤ k → Apart up i x w y z → ⊥) → OnPath up k v x w
on_to_fourth up k v x y z w oy oz none e l h bx bw =
    none (suc (e / 2)) (omega arith) (omega arith) (parting up e x w y z bx bw (not_behind y (oy e l h bx)) (not_behind z (oz e l h bx)))
  where
    not_behind : (u : ℕ) → (bit (behind up e u) ≡ 1 → ⊥) → bit (behind up e u) ≡ 0
    not_behind u n = elim (bit_cases (behind up e u)) [ inl z ↦ z | inr o ↦ absurd (n o) ]

module _ (up : ℕ → ℕ) (r : Rooted up) (k a b c d : ℕ) (la : a ≤ k) (lb : b ≤ k) (lc : c ≤ k)
    (none : (i : ℕ) → 1 ≤ i → i ≤ k → TwoAndTwo up i a b c d → ⊥) where
  centre_meets : OnSix up k (centre_of up k a b c) a b c d
  centre_meets =
      let v = centre_of up k a b c in
      let o = (on_all-iff up k v a b c).0 (centre_on up r k a b c la lb lc).1 in
      record {
        ab = o.0;
        ac = o.1;
        bc = o.2;
        ad = on_to_fourth up k v a b c d o.0 o.1 (λ i l m h. none i l m (with_d h));
        bd = on_to_fourth up k v b a c d (path_turned up k v a b o.0) o.2 (λ i l m h.
            none i l m (with_c (record { ab = h.cd; cd = h.ab; ac = omega (arith, h.ac) })));
        cd = on_to_fourth up k v c a b d (path_turned up k v a c o.1) (path_turned up k v b c o.2) (λ i l m h.
            none i l m (with_b (record { ab = h.cd; cd = h.ab; ac = omega (arith, h.ac) })));
      }

  only_centre : (v : ℕ) → v ≤ k → T (on_six up k v a b c d) → v ≡ centre_of up k a b c
  only_centre v l t =
      let o = (on_six-iff up k v a b c d).0 t in
      centre_only up r k a b c la lb lc v l ((on_all-iff up k v a b c).1 (o.ab, o.ac, o.bc))

  -- it is the centre of the first three
  pub meet_is_centre : meet_of up k a b c d ≡ centre_of up k a b c
  unfolding meet_of
  meet_is_centre =
      let v = centre_of up k a b c in
      let l = (centre_on up r k a b c la lb lc).0 in
      first_is (suc k) (λ w. on_six up k w a b c d) v (omega arith) ((on_six-iff up k v a b c d).1 centre_meets)
      (λ w m t. omega (arith, only_centre w (omega arith) t))

  -- exactly one node is on all six paths
  pub one_meeting : (meet_of up k a b c d ≤ k) × T (on_six up k (meet_of up k a b c d) a b c d)
      × ((w : ℕ) → w ≤ k → T (on_six up k w a b c d) → w ≡ meet_of up k a b c d)
  one_meeting = rw meet_is_centre (
    (centre_on up r k a b c la lb lc).0,
    (on_six-iff up k (centre_of up k a b c) a b c d).1 centre_meets,
    only_centre,
  )
