-- Two shapes part the same fours of labels exactly if they have the same splits, wherever the labels sit.
-- Assumes nothing.
use Rattle.std.specs.Prelude.{◌≡◌, Bool, not, ◌≢◌, ◌↔◌, ℕ, zero, suc, ◌≤◌, ◌<◌, T}
use Rattle.std.proofs.Common.{ap, subst, sym, inl, inr, arith}
use Rattle.std.proofs.Math.Decide.{dec_le, dec_lt}
use Rattle.sums.specs.Bits.{bit}
use Rattle.sums.specs.theorems.BitLaws.{bit_le, bit_cases, bit_not, bit-T, T-bit, bit_inj}
use Rattle.sums.specs.theorems.TestLaws.{same_test}
use Rattle.sums.specs.Counts.{Twice}
use Rattle.shapes.proofs.theorems.AncestorLaws.{anc_root}
use Rattle.shapes.proofs.theorems.PathLaws.{path_side}
use Rattle.shapes.specs.Quartets.{Apart}
use Rattle.shapes.proofs.theorems.PartedFours.{parted-iff}
use Rattle.shapes.specs.theorems.Shape.{Shape}
use Rattle.shapes.proofs.theorems.Shape.{beyond_in, butterfly_in}
use Rattle.shapes.specs.Splits.{Split, SameSides, same, turned, Occurs, AllOccur, SameSplits}
use Rattle.shapes.proofs.theorems.SplitLaws.{split_moves}
use Rattle.shapes.specs.theorems.FourLabels.{Four}
use Rattle.shapes.proofs.theorems.Holders.{some_less, LastHolder, last_holder}
use Rattle.shapes.proofs.theorems.Holders.{Meets, holds_meets, Through, through}

-- every four different labels are parted alike
abbrev pub SameFours : {n : ℕ} → Shape n → Shape n → Type 0
SameFours {n} t u = (a b c d : ℕ) → Four n a b c d → butterfly_in t a b c d ≡ butterfly_in u a b c d

-- ---- the same fours, so the same splits

-- the second shape parts what the first parts: a split P | Q of the first is a split of the second
module _ {n : ℕ} (t u : Shape n)
    (follow : (a b c d : ℕ) → Four n a b c d → T (butterfly_in t a b c d) → T (butterfly_in u a b c d))
    (i : ℕ) (s : Split n t.edges (beyond_in t) i) where
  abbrev P : ℕ → Bool
  P x = beyond_in t i x

  abbrev Q : ℕ → Bool
  Q x = not (beyond_in t i x)

  apart : (a x : ℕ) → bit (P a) ≡ 1 → bit (Q x) ≡ 1 → a ≢ x
  apart a x pa qx e = omega (arith, bit_not (P x), ap (λ (z : ℕ). bit (P z)) e)

  -- no node is on a path of P and on one of Q: an edge that parts the four ends would have it on both sides
  crossed : (v : ℕ) → v ≤ u.edges → Through u P v → Through u Q v → ⊥
  crossed v lv f g =
      let told = parted-iff t.up t.edges (t.node a) (t.node b) (t.node c) (t.node d) in
      let here = parted-iff u.up u.edges (u.node a) (u.node b) (u.node c) (u.node d) in
      let r = here.0 (follow a b c d four (told.1 (i, s.above, s.edge, sides))) in
      omega (
        arith,
        r.3.ac,
        path_side u.up u.tree u.edges r.0 v _ _ r.2 lv f.on r.3.ab,
        path_side u.up u.tree u.edges r.0 v _ _ r.2 lv g.on r.3.cd,
      )
    where
      a : ℕ
      a = f.a

      b : ℕ
      b = f.b

      c : ℕ
      c = g.a

      d : ℕ
      d = g.b

      four : Four n a b c d
      four = record {
        la = f.la;
        lb = f.lb;
        lc = g.la;
        ld = g.lb;
        ab = f.ab;
        ac = apart a c f.pa g.pa;
        ad = apart a d f.pa g.pb;
        bc = apart b c f.pb g.pa;
        bd = apart b d f.pb g.pb;
        cd = g.ab;
      }

      sides : Apart t.up i (t.node a) (t.node b) (t.node c) (t.node d)
      sides = omega (arith, f.pa, f.pb, g.pa, g.pb, bit_not (P c), bit_not (P d))

  -- no later node holds P or Q
  both : {j k : ℕ} → LastHolder u P j → LastHolder u Q k → (v : ℕ) → v ≤ u.edges → j ≤ v → k ≤ v
      → Meets u P v → Meets u Q v → ⊥
  both J K v lv lj lk p q = crossed v lv
      (through u P s.beyond v p (λ w l. J.last w (omega arith)))
      (through u Q s.here v q (λ w l. K.last w (omega arith)))

  -- all labels of the second lie beyond its root
  root_side : (x : ℕ) → bit (beyond_in u 0 x) ≡ 1
  root_side x = anc_root u.up u.tree (u.node x)

  -- an edge with the sides P and Q, so not 0
  found : (j : ℕ) → j ≤ u.edges → SameSides n (beyond_in t) (beyond_in u) i j
      → Occurs n (beyond_in t) u.edges (beyond_in u) i
  found (suc j) l h = (suc j, split_moves (omega arith) l s h, h)
  found zero l (same h) = let x = s.here in
      let e = ap bit (h x.0 (omega (arith, x.2, x.3))) in
      absurd (omega (arith, root_side x.0, bit-T (Q x.0) x.4, bit_not (P x.0)))
  found zero l (turned h) = let x = s.beyond in
      let e = ap bit (h x.0 (omega (arith, x.2, x.3))) in
      absurd (omega (arith, root_side x.0, bit-T (P x.0) x.4, bit_not (beyond_in u 0 x.0)))

  -- the last node that holds P has no label of Q beyond it, or the last that holds Q none of P
  pub split_follows : Occurs n (beyond_in t) u.edges (beyond_in u) i
  split_follows = let J = last_holder u P in let K = last_holder u Q in
      elim (some_less n (λ x. bit (P x)) (λ x. bit (beyond_in u J.0 x))) [
        | inr out ↦ found J.0 J.1.node (same (λ x m.
            bit_inj _ _ (omega (arith, J.1.holds x m, out x m))))
        | inl y ↦ elim (some_less n (λ x. bit (Q x)) (λ x. bit (beyond_in u K.0 x))) [
          | inr out ↦ found K.0 K.1.node (turned (λ x m.
              let p = bit_not (P x) in let q = bit_not (beyond_in u K.0 x) in
              bit_inj _ _ (omega (arith, K.1.holds x m, out x m))))
          | inl z ↦ absurd (neither J.1 K.1 y z)
        ]
      ]
    where
      neither : {j k : ℕ} → LastHolder u P j → LastHolder u Q k
          → (x : ℕ) × (x < n) × (bit (P x) < bit (beyond_in u j x))
          → (x : ℕ) × (x < n) × (bit (Q x) < bit (beyond_in u k x)) → ⊥
      neither {j} {k} J K y z = elim (dec_le j k) [
        | yes l ↦ both J K k K.node l (omega arith)
            (let p = bit_not (P z.0) in let q = bit_le (beyond_in u k z.0) in
            record { x = z.0; lx = z.1; px = omega (arith, z.2); on = omega (arith, z.2) })
            (holds_meets u Q s.here k K.holds)
        | no m ↦ both J K j J.node (omega arith) (omega arith)
            (holds_meets u P s.beyond j J.holds)
            (let p = bit_not (P y.0) in let q = bit_le (beyond_in u j y.0) in
            record { x = y.0; lx = y.1; px = omega (arith, y.2); on = omega (arith, y.2) })
      ]

-- ---- the same splits, so the same fours

two_of : (n : ℕ) (q : ℕ → Bool) (a b : ℕ) → a < n → b < n → a ≢ b → bit (q a) ≡ 1 → bit (q b) ≡ 1 → Twice n q
two_of n q a b la lb d qa qb = elim (dec_lt a b) [
  | yes l ↦ (a, b, l, lb, T-bit (q a) (omega arith), T-bit (q b) (omega arith))
  | no m ↦ (b, a, omega arith, la, T-bit (q b) (omega arith), T-bit (q a) (omega arith))
]

-- the second shape has the splits of the first: it parts what the first parts
module _ {n : ℕ} (t u : Shape n) (there : AllOccur n t.edges (beyond_in t) u.edges (beyond_in u)) where
  -- an edge that parts two labels from two is a split
  parting_split : (a b c d : ℕ) → Four n a b c d → (i : ℕ) → 1 ≤ i → i ≤ t.edges
      → Apart t.up i (t.node a) (t.node b) (t.node c) (t.node d) → Split n t.edges (beyond_in t) i
  parting_split a b c d h i l1 lk p = elim (bit_cases (beyond_in t i a)) [
    | inl z ↦ beyond-first c d a b (omega arith) (omega arith) (omega arith)
    | inr o ↦ beyond-first a b c d h p o
  ]
    where
      beyond-first : (a b c d : ℕ) → Four n a b c d
          → Apart t.up i (t.node a) (t.node b) (t.node c) (t.node d) → bit (beyond_in t i a) ≡ 1
          → Split n t.edges (beyond_in t) i
      beyond-first a b c d h p o = record {
        above = l1;
        edge = lk;
        beyond = two_of n (beyond_in t i) a b h.la h.lb h.ab o (omega arith);
        here = two_of n (λ x. not (beyond_in t i x)) c d h.lc h.ld h.cd
            (omega (arith, bit_not (beyond_in t i c))) (omega (arith, bit_not (beyond_in t i d)));
      }

  pub parts_follow : (a b c d : ℕ) → Four n a b c d → T (butterfly_in t a b c d) → T (butterfly_in u a b c d)
  parts_follow a b c d h m =
      let r = (parted-iff t.up t.edges (t.node a) (t.node b) (t.node c) (t.node d)).0 m in
      let f = there r.0 (parting_split a b c d h r.0 r.1 r.2 r.3) in
      (parted-iff u.up u.edges (u.node a) (u.node b) (u.node c) (u.node d)).1
      (f.0, f.1.above, f.1.edge, moved f.0 r.0 r.3 f.2)
    where
      moved : (j i : ℕ) → Apart t.up i (t.node a) (t.node b) (t.node c) (t.node d)
          → SameSides n (beyond_in t) (beyond_in u) i j
          → Apart u.up j (u.node a) (u.node b) (u.node c) (u.node d)
      moved j i p (same e) = omega (
        arith,
        ap bit (e a h.la),
        ap bit (e b h.lb),
        ap bit (e c h.lc),
        ap bit (e d h.ld),
      )
      moved j i p (turned e) = omega (
        arith,
        ap bit (e a h.la),
        ap bit (e b h.lb),
        ap bit (e c h.lc),
        ap bit (e d h.ld),
        bit_not (beyond_in u j a),
        bit_not (beyond_in u j b),
        bit_not (beyond_in u j c),
        bit_not (beyond_in u j d),
      )

pub same_fours-iff : {n : ℕ} (t u : Shape n)
    → SameFours t u ↔ SameSplits n t.edges (beyond_in t) u.edges (beyond_in u)
same_fours-iff t u = (
  λ h. record {
    there = split_follows t u (λ a b c d f. subst T (h a b c d f));
    back = split_follows u t (λ a b c d f. subst T (sym (h a b c d f)));
  },
  λ h a b c d f. same_test _ _ (parts_follow t u h.there a b c d f) (parts_follow u t h.back a b c d f),
)
