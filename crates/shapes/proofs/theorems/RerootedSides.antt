-- A re-rooted tree has the edges of the old one: off the path with the same side beyond, on it with the other.
-- Assumes nothing.
use Rattle.std.specs.Prelude.{◌≡◌, ◌≢◌, ℕ, zero, suc, ◌+◌, ◌-◌, ◌≤◌, ◌<◌}
use Rattle.std.proofs.Common.{sym, ◌∙◌, ap, subst, inl, inr, eq-zero-or-pos, arith}
use Rattle.std.proofs.Math.Decide.{dec_le, dec_lt, ℕ_discrete}
use Rattle.sums.specs.Bits.{bit, is}
use Rattle.sums.specs.theorems.BitLaws.{bit-T, bit_cases, bit_no, is_eq, is_other_lem, alike}
use Rattle.shapes.specs.Ancestors.{anc}
use Rattle.shapes.specs.theorems.AncestorLaws.{Rooted}
use Rattle.shapes.proofs.theorems.AncestorLaws.{anc-le, anc-lt, anc_up, anc_self, anc_trans, anc-line, anc_past, anc_down, anc_at_zero, parent-lt}
use Rattle.shapes.specs.Rerooting.{renumbered, node_numbered, rerooted_up}
use Rattle.shapes.proofs.theorems.RerootedNumbers.{renumbered-lt, renumbered-one, renumbered_root, rerooted_rooted, numbered_is}
use Rattle.shapes.proofs.theorems.RerootedNumbers.{up_on, up_off, path_before, path_back, off_pos, up_less, path_end}

anc_step : (up : ℕ → ℕ) → Rooted up → (i j : ℕ) → 1 ≤ j → bit (anc up i j) ≡ is i j + bit (anc up i (up j))
anc_step up r i zero l = absurd (omega arith)
anc_step up r i (suc w) l = anc_up up r i w

module _ (up : ℕ → ℕ) (m z : ℕ) (r : Rooted up) (lz : z < m) where
  abbrev ρ : ℕ → ℕ
  ρ = renumbered up m z

  abbrev up' : ℕ → ℕ
  up' = rerooted_up up m z

  abbrev on : ℕ → ℕ
  on v = bit (anc up v z)

  abbrev q : Rooted up'
  q = rerooted_rooted up m z r lz

  -- c is the next node of the path, from w towards z
  pub record Step (w c : ℕ) : Type 0 where
    pub node_lt : c < m
    pub path : on c ≡ 1
    pub number : ρ w ≡ suc (ρ c)
    pub down : w < c
    pub next : (u : ℕ) → on u ≡ 1 → w < u → c ≤ u

  pub renumbered-pos : (w : ℕ) → w ≢ z → 1 ≤ ρ w
  renumbered-pos w d = elim (eq-zero-or-pos (ρ w)) [
    | inr p ↦ p
    | inl e ↦ absurd (d (renumbered-one up m z r lz w z (e ∙ sym (renumbered_root up m z r lz))))
  ]

  pub path_step : (w : ℕ) → w < m → on w ≡ 1 → w ≢ z → (c : ℕ) × Step w c
  path_step w l o d =
      let p = renumbered-pos w d in
      let i = numbered_is up m z r lz (ρ w - 1) (omega (arith, renumbered-lt up m z r lz w l)) in
      let c = node_numbered up m z (ρ w - 1) in
      let oc : on c ≡ 1 = elim (bit_cases (anc up c z)) [
        | inr a ↦ a
        | inl a ↦ absurd (omega (arith, path_before up m z r lz w c o a, i.1))
      ] in
      let dn : w < c = elim (dec_lt w c) [
        | yes a ↦ a
        | no n ↦ elim (ℕ_discrete c w) [
          | yes e ↦ absurd (omega (arith, i.1, ap ρ e))
          | no f ↦ absurd (omega (arith, i.1, path_back up m z r lz c w oc o (omega arith)))
        ]
      ] in (
        c,
        record {
          node_lt = i.0;
          path = oc;
          number = omega (arith, i.1);
          down = dn;
          next = λ u ou lu. elim (dec_le c u) [
            | yes a ↦ a
            | no n ↦ absurd (omega (arith, i.1, path_back up m z r lz w u o ou lu, path_back up m z r lz u c ou oc (omega arith)))
          ];
        },
      )

  step_one : (w c d : ℕ) → Step w c → Step w d → c ≡ d
  step_one w c d a b = renumbered-one up m z r lz c d (omega (arith, a.number, b.number))

  -- the node that is numbered next
  pub up_step : (w c : ℕ) → w < m → on w ≡ 1 → Step w c → up' (ρ w) ≡ ρ c
  up_step w c l o s = up_on up m z r lz w l o ∙ (omega (arith, s.number))

  -- one step up in the re-rooted tree
  rise : (v w u : ℕ) → w ≢ z → up' (ρ w) ≡ ρ u
      → bit (anc up' (ρ v) (ρ w)) ≡ is (ρ v) (ρ w) + bit (anc up' (ρ v) (ρ u))
  rise v w u d e =
      anc_step up' q (ρ v) (ρ w) (renumbered-pos w d)
      ∙ ap (λ (x : ℕ). is (ρ v) (ρ w) + bit (anc up' (ρ v) x)) e

  is_renumbered : (v w : ℕ) → is (ρ v) (ρ w) ≡ is v w
  is_renumbered v w = elim (alike v w) [
    | inl e ↦ is_eq (ρ v) (ρ w) (ap ρ e.0) ∙ sym e.1
    | inr d ↦ is_other_lem (ρ v) (ρ w) (λ e. d.0 (renumbered-one up m z r lz v w e)) ∙ sym d.1
  ]

  at_root : (v : ℕ) → v ≢ z → bit (anc up' (ρ v) (ρ z)) ≡ 0
  at_root v d =
      ap (λ (x : ℕ). bit (anc up' (ρ v) x)) (renumbered_root up m z r lz) ∙ anc_at_zero up' q (ρ v)
      ∙ is_other_lem (ρ v) 0 (omega (arith, renumbered-pos v d))

  root_only : (w : ℕ) → ρ w ≤ 0 → w ≡ z
  root_only w l = renumbered-one up m z r lz w z (omega (arith, renumbered_root up m z r lz))

  -- a node off the path is not above one on it
  off_above : (v w : ℕ) → on v ≡ 0 → on w ≡ 1 → bit (anc up v w) ≡ 0
  off_above v w ov ow = bit_no (anc up v w) (λ t.
      omega (arith, anc_trans up r v w z (bit-T (anc up v w) t) ow))

  pub on_off : (v w : ℕ) → on v ≡ 1 → on w ≡ 0 → v ≢ w
  on_off v w ov ow e = omega (arith, ap on e)

  -- ---- off the path

  off_in : (f v w : ℕ) → ρ w ≤ f → w < m → on v ≡ 0 → bit (anc up' (ρ v) (ρ w)) ≡ bit (anc up v w)
  off_in zero v w lf lw ov =
      let e = root_only w lf in
      rw e (at_root v (λ d. on_off z v (path_end up m z r lz) ov (sym d)) ∙ sym ov)
  off_in (suc f) v w lf lw ov = elim (ℕ_discrete w z) [
    | yes e ↦ rw e (at_root v (λ d. on_off z v (path_end up m z r lz) ov (sym d)) ∙ sym ov)
    | no d ↦ elim (bit_cases (anc up w z)) [
      | inr ow ↦ (
          let s = path_step w lw ow d in
          let c = s.0 in
          omega (
            arith,
            rise v w c d (up_step w c lw ow s.1),
            is_renumbered v w,
            is_other_lem v w (λ e. on_off w v ow ov (sym e)),
            off_in f v c (omega (arith, s.1.number)) s.1.node_lt ov,
            off_above v c ov s.1.path,
            off_above v w ov ow,
          ))
      | inl ow ↦ (
          let p = off_pos up m z r lz w ow in
          omega (
            arith,
            rise v w (up w) d (up_off up m z r lz w lw ow),
            is_renumbered v w,
            off_in f v (up w) (omega (arith, up_less up m z r lz w ow)) (omega (arith, parent-lt up r w p)) ov,
            anc_step up r v w p,
          ))
    ]
  ]

  pub off_side : (v w : ℕ) → w < m → on v ≡ 0 → bit (anc up' (ρ v) (ρ w)) ≡ bit (anc up v w)
  off_side v w = off_in (ρ w) v w (omega arith)

  -- ---- on the path

  on_in : (f v c w : ℕ) → ρ w ≤ f → w < m → on v ≡ 1 → v ≢ z → Step v c
      → bit (anc up' (ρ v) (ρ w)) + bit (anc up c w) ≡ 1
  on_in zero v c w lf lw ov dv sv =
      let e = root_only w lf in
      rw e (omega (arith, at_root v dv, sv.path))
  on_in (suc f) v c w lf lw ov dv sv = elim (ℕ_discrete w z) [
    | yes e ↦ rw e (omega (arith, at_root v dv, sv.path))
    | no d ↦ elim (bit_cases (anc up w z)) [
      | inr ow ↦ (
          let s = path_step w lw ow d in
          let b = s.0 in
          let ih = on_in f v c b (omega (arith, s.1.number)) s.1.node_lt ov dv sv in
          let u = rise v w b d (up_step w b lw ow s.1) in
          elim (alike v w) [
            | inl e ↦ (
                let g = step_one w c b (subst (λ (x : ℕ). Step x c) e.0 sv) s.1 in
                omega (
                  arith,
                  ih,
                  u,
                  is_renumbered v w,
                  e.1,
                  ap (λ (x : ℕ). bit (anc up c x)) g,
                  anc_self up r c,
                  anc-lt up r c w (omega (arith, sv.down, e.0)),
                ))
            | inr n ↦ elim (dec_lt v w) [
              | yes l ↦ (
                  let cw = sv.next w ow l in
                  omega (
                    arith,
                    ih,
                    u,
                    is_renumbered v w,
                    n.1,
                    anc-line up r c w z cw sv.path ow,
                    anc-line up r c b z (omega (arith, s.1.down)) sv.path s.1.path,
                  ))
              | no g ↦ (
                  let bv = s.1.next v ov (omega (arith, n.0)) in
                  omega (
                    arith,
                    ih,
                    u,
                    is_renumbered v w,
                    n.1,
                    anc-lt up r c w (omega (arith, sv.down)),
                    anc-lt up r c b (omega (arith, sv.down)),
                  ))
            ]
          ])
      | inl ow ↦ (
          let p = off_pos up m z r lz w ow in
          omega (
            arith,
            rise v w (up w) d (up_off up m z r lz w lw ow),
            is_renumbered v w,
            is_other_lem v w (on_off v w ov ow),
            on_in f v c (up w) (omega (arith, up_less up m z r lz w ow)) (omega (arith, parent-lt up r w p)) ov dv sv,
            anc_step up r c w p,
            is_other_lem c w (on_off c w sv.path ow),
          ))
    ]
  ]

  pub on_side : (v c w : ℕ) → w < m → on v ≡ 1 → v ≢ z → Step v c → bit (anc up' (ρ v) (ρ w)) + bit (anc up c w) ≡ 1
  on_side v c w = on_in (ρ w) v c w (omega arith)

  -- the step to a node of the path is from its parent
  pub step_up : (i : ℕ) → 1 ≤ i → i < m → on i ≡ 1 → (up i ≢ z) × (on (up i) ≡ 1) × Step (up i) i
  step_up i l li o =
      let lp = parent-lt up r i l in
      let a = anc_down up r (up i) i l (anc_self up r (up i)) in
      let op = anc_trans up r (up i) i z a o in
      let d : up i ≢ z = omega (arith, anc-le up r i z o) in
      let s = path_step (up i) (omega arith) op d in
      let cl = s.1.next i o lp in
      let e : s.0 ≡ i = elim (ℕ_discrete s.0 i) [
        | yes e ↦ e
        | no n ↦ (
            let b = anc-line up r s.0 i z cl s.1.path o in
            let g = anc_past up r s.0 i (omega arith) b in
            absurd (omega (arith, anc-le up r s.0 (up i) g, s.1.down)))
      ] in
      (d, op, subst (λ (x : ℕ). Step (up i) x) e s.1)

  -- ---- the same edges

  -- edge j of the re-rooted tree has the two sides of edge i, the same one beyond or the other
  pub data SameEdge (i j : ℕ) : Type 0 where
    kept : ((w : ℕ) → w < m → bit (anc up' j (ρ w)) ≡ bit (anc up i w)) → SameEdge i j
    reversed : ((w : ℕ) → w < m → bit (anc up' j (ρ w)) + bit (anc up i w) ≡ 1) → SameEdge i j

  pub edge_there : (i : ℕ) → 1 ≤ i → i < m → (j : ℕ) × (1 ≤ j) × (j < m) × SameEdge i j
  edge_there i l li = elim (bit_cases (anc up i z)) [
    | inl o ↦ (
        let d : i ≢ z = λ w. on_off z i (path_end up m z r lz) o (sym w) in
        (ρ i, renumbered-pos i d, renumbered-lt up m z r lz i li, kept (λ w lw. off_side i w lw o)))
    | inr o ↦ (
        let t = step_up i l li o in (
          ρ (up i),
          renumbered-pos (up i) t.0,
          renumbered-lt up m z r lz (up i) (omega (arith, parent-lt up r i l)),
          reversed (λ w lw. on_side (up i) i w lw t.1 t.0 t.2),
        ))
  ]

  pub edge_back : (j : ℕ) → 1 ≤ j → j < m → (i : ℕ) × (1 ≤ i) × (i < m) × SameEdge i j
  edge_back j l lj =
      let p = numbered_is up m z r lz j lj in
      let v = node_numbered up m z j in
      let d : v ≢ z = λ e. absurd (omega (arith, p.1, renumbered_root up m z r lz, ap ρ e)) in
      elim (bit_cases (anc up v z)) [
        | inl o ↦ (v, off_pos up m z r lz v o, p.0, kept (λ w lw. subst (λ (y : ℕ). bit (anc up' y (ρ w)) ≡ bit (anc up v w)) p.1 (off_side v w lw o)))
        | inr o ↦ (
            let c = path_step v p.0 o d in
            (c.0, omega (arith, c.1.down), c.1.node_lt, reversed (λ w lw. subst (λ (y : ℕ). bit (anc up' y (ρ w)) + bit (anc up c.0 w) ≡ 1) p.1 (on_side v c.0 w lw o d c.1))))
      ]
