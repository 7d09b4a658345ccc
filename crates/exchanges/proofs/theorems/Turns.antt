-- A turn: two different directed edges into one node v, with x behind the first and y behind the second. Then v is on
-- the path from x to y, and what leaves the path at v is told by the numbers of labels behind the edges into v.
-- Assumes nothing.
use Rattle.std.specs.Prelude.{◌≡◌, ◌≢◌}
use Rattle.std.proofs.Common.{sym, ◌∙◌, ap, inl, inr, T_not}
use Prim.Native.Nat.{ℕ, suc, ◌+◌, ◌*◌, ◌/◌, ◌≤◌, ◌<◌}
use native.Mathlib.Omega.{arith}
use Rattle.sums.specs.Sum.{sum}
use Rattle.sums.specs.theorems.SumLaws.{sum_ext, sum-pos, sum_one, sum_none}
use Rattle.sums.specs.Bits.{bit, is}
use Rattle.sums.specs.theorems.BitLaws.{ne, bit_cases, bit-T, bit_no, is_self, is_eq, is_other_lem, ne_other, alike}
use Rattle.sums.specs.theorems.TestLaws.{T_dec}
use Rattle.sums.specs.theorems.Products.{sum-ne}
use Rattle.shapes.specs.Directions.{head, behind}
use Rattle.shapes.specs.theorems.DirectionLaws.{into}
use Rattle.shapes.proofs.theorems.DirectionLaws.{one_way, one_code}
use Rattle.shapes.specs.theorems.PathLaws.{OnPath}
use Rattle.shapes.proofs.theorems.PathLaws.{path_side, one_side}
use Rattle.shapes.specs.Quartets.{Parted}
use Rattle.shapes.proofs.theorems.PartedFours.{parted-iff}
use Rattle.shapes.specs.theorems.OneCentre.{OnAll}
use Rattle.shapes.proofs.theorems.OneCentre.{on_all-iff, centre_on, centre_only}
use Rattle.shapes.proofs.theorems.EulerCentre.{into_pos}
use Rattle.shapes.proofs.theorems.Triples.{code_apart}
use Rattle.shapes.specs.theorems.Shape.{Shape}
use Rattle.shapes.proofs.theorems.Shape.{behind_in, butterfly_in}
use Rattle.shapes.proofs.theorems.Counting.{size_in}
use Rattle.exchanges.specs.theorems.Others.{Two, Other, sum_of_others, others2}
use Rattle.exchanges.proofs.theorems.Others.{others_ext, others_cong, others-add, others-count, sum_parts_lem}
use Rattle.exchanges.proofs.theorems.Others.{others-mul_left}
use Rattle.exchanges.proofs.theorems.Products.{others2-sum, others2_ext}
use Rattle.exchanges.specs.theorems.SetsChanged.{leaving_place, hangs}
use Rattle.exchanges.proofs.theorems.Distance.{leaving_path, elsewhere, in_one_subtree, leaving_elsewhere}
use Rattle.exchanges.specs.theorems.Turns.{Turn, squares_into}

module _ {n : ℕ} (t : Shape n) (x y : ℕ) (two : Two n x y) where
  abbrev at : ℕ → ℕ
  at a = leaving_place t x y a

  abbrev bits : ℕ → ℕ → ℕ
  bits g a = bit (behind_in t g a)

  nx : t.node x ≤ t.edges
  nx = t.node_le x two.lx

  ny : t.node y ≤ t.edges
  ny = t.node_le y two.ly

  on_all_lem : (a : ℕ) → Other n x y a → OnAll t.up t.edges (at a) (t.node x) (t.node y) (t.node a)
  on_all_lem a o = (on_all-iff t.up t.edges (at a) (t.node x) (t.node y) (t.node a)).0
      (centre_on t.up t.tree t.edges (t.node x) (t.node y) (t.node a) nx ny (t.node_le a o.la)).1

  module _ (v e f : ℕ) (turn : Turn t (t.node x) (t.node y) v e f) where
    -- the code into v with a node behind it
    code : (p g h : ℕ) → p ≤ t.edges → g < 2 * t.edges → h < 2 * t.edges → head t.up g ≡ v
        → head t.up h ≡ v → bit (behind t.up g p) ≡ 1 → bit (behind t.up h p) ≡ 1 → g ≡ h
    code p g h lp lg lh = one_code t.up t.tree t.edges v p g h turn.lv lp lg lh

    x_code : (g : ℕ) → g < 2 * t.edges → head t.up g ≡ v → bits g x ≡ 1 → g ≡ e
    x_code g l h s = code (t.node x) g e nx l turn.le h turn.he s turn.pe

    y_code : (g : ℕ) → g < 2 * t.edges → head t.up g ≡ v → bits g y ≡ 1 → g ≡ f
    y_code g l h s = code (t.node y) g f ny l turn.lf h turn.hf s turn.qf

    not_x : (g : ℕ) → g < 2 * t.edges → head t.up g ≡ v → g ≢ e → bits g x ≡ 0
    not_x g l h d = elim (bit_cases (behind_in t g x)) [ inl z ↦ z | inr o ↦ absurd (d (x_code g l h o)) ]

    not_y : (g : ℕ) → g < 2 * t.edges → head t.up g ≡ v → g ≢ f → bits g y ≡ 0
    not_y g l h d = elim (bit_cases (behind_in t g y)) [ inl z ↦ z | inr o ↦ absurd (d (y_code g l h o)) ]

    -- a label other than x and y leaves the path at v, or lies behind e, or behind f
    turn_place : (a : ℕ) → Other n x y a → is (at a) v + bits e a + bits f a ≡ 1
    turn_place a o = elim (bit_cases (behind_in t e a)) [
      | inr be ↦ elim (bit_cases (behind_in t f a)) [
        | inr bf ↦ absurd (turn.ef (code (t.node a) e f na turn.le turn.lf turn.he turn.hf be bf))
        | inl bf ↦ omega (arith, is_other_lem (at a) v (λ h. off-x h be))
      ]
      | inl be ↦ elim (bit_cases (behind_in t f a)) [
        | inr bf ↦ omega (arith, is_other_lem (at a) v (λ h. off-y h bf))
        | inl bf ↦ omega (
          arith,
          is_eq (at a) v (sym (centre_only t.up t.tree t.edges (t.node x)
              (t.node y) (t.node a) nx ny na v turn.lv ((on_all-iff t.up t.edges v (t.node x)
              (t.node y) (t.node a)).1 (through be bf)))),
        )
      ]
    ]
      where
        na : t.node a ≤ t.edges
        na = t.node_le a o.la

        off-x : at a ≡ v → bits e a ≡ 1 → ⊥
        off-x h be = (on_all_lem a o).1 e turn.le (turn.he ∙ sym h) turn.pe be

        off-y : at a ≡ v → bits f a ≡ 1 → ⊥
        off-y h bf = (on_all_lem a o).2 f turn.lf (turn.hf ∙ sym h) turn.qf bf

        through : bits e a ≡ 0 → bits f a ≡ 0
            → OnAll t.up t.edges v (t.node x) (t.node y) (t.node a)
        through be bf = (
          λ c l h p q. turn.ef (sym (x_code c l h p) ∙ y_code c l h q),
          λ c l h p q. omega (arith, be, ap (λ (g : ℕ). bits g a) (x_code c l h p)),
          λ c l h p q. omega (arith, bf, ap (λ (g : ℕ). bits g a) (y_code c l h p)),
        )

    e_size : size_in t e ≡ 1 + sum_of_others n x y (bits e)
    e_size = omega (
      arith,
      sum_parts_lem n x y two (bits e),
      turn.pe,
      not_y e turn.le turn.he turn.ef,
    )

    f_size : size_in t f ≡ 1 + sum_of_others n x y (bits f)
    f_size = omega (
      arith,
      sum_parts_lem n x y two (bits f),
      turn.qf,
      not_x f turn.lf turn.hf (λ h. turn.ef (sym h)),
    )

    g_size : (g : ℕ) → g < 2 * t.edges → head t.up g ≡ v → g ≢ e → g ≢ f
        → sum_of_others n x y (bits g) ≡ size_in t g
    g_size g l h de df = omega (arith, sum_parts_lem n x y two (bits g), not_x g l h de, not_y g l h df)

    pub leaving_sizes : leaving_path t x y v + size_in t e + size_in t f ≡ n
    unfolding leaving_path
    leaving_sizes = omega (
      arith,
      e_size,
      f_size,
      others-count n x y two,
      others_ext n x y (λ a. is (at a) v + bits e a + bits f a) (λ a. 1) turn_place,
      others-add n x y (λ a. is (at a) v + bits e a) (bits f),
      others-add n x y (λ a. is (at a) v) (bits e),
    )

    pub elsewhere_sizes : elsewhere t x y v + 2 ≡ size_in t e + size_in t f
    elsewhere_sizes = omega (arith, leaving_sizes, leaving_elsewhere t x y v, others-count n x y two)

    -- ---- pairs that hang together

    -- a number counted at the codes into v other than e and f
    abbrev beside : ℕ → ℕ → ℕ
    beside g z = ne e g * (ne f g * (is v (head t.up g) * z))

    beside_none : (g z : ℕ) → g < 2 * t.edges
        → (e ≢ g → f ≢ g → head t.up g ≡ v → z ≡ 0) → beside g z ≡ 0
    beside_none g z l h = elim (alike e g) [
      | inl q ↦ rw q.2 (omega arith)
      | inr de ↦ elim (alike f g) [
        | inl q ↦ rw q.2 (omega arith)
        | inr df ↦ elim (alike v (head t.up g)) [
          | inl q ↦ rw (h de.0 df.0 (sym q.0)) (omega arith)
          | inr dv ↦ rw dv.1 (omega arith)
        ]
      ]
    ]

    -- the edge of a code into v parts the labels behind it from x and y
    pub record Home (a g : ℕ) : Type 0 where
      pub lg : g < 2 * t.edges
      pub hg : head t.up g ≡ v
      pub ag : bits g a ≡ 1
      pub de : e ≢ g
      pub df : f ≢ g

    home : (a : ℕ) → Other n x y a → at a ≡ v → (g : ℕ) × Home a g
    home a o h =
        let na = t.node_le a o.la in
        let away : v ≢ t.node a = λ q. turn.ef (t.leaf a o.la e f turn.le turn.lf (turn.he ∙ q) (turn.hf ∙ q)) in
        let s = sum-pos (2 * t.edges) (into t.up v (t.node a))
        (omega (arith, one_way t.up t.tree t.edges v (t.node a) turn.lv na, ne_other v (t.node a) away)) in
        let p = into_pos t.up v (t.node a) s.0 s.2 in
        let q = turn_place a o in
        let one = is_eq (at a) v h in (
          s.0,
          record {
            lg = s.1;
            hg = p.0;
            ag = p.1;
            de = λ d. omega (arith, p.1, ap (λ (g : ℕ). bits g a) d);
            df = λ d. omega (arith, p.1, ap (λ (g : ℕ). bits g a) d);
          },
        )

    home_hangs : (a b g : ℕ) → Other n x y a → Other n x y b → at a ≡ v → Home a g → hangs t x y a b ≡ bits g b
    home_hangs a b g oa ob h m = elim (T_dec (butterfly_in t a b x y)) [
      | inl s ↦ bit-T (butterfly_in t a b x y) s ∙ sym (found ((parted-iff t.up t.edges _ _ _ _).0 s))
      | inr s ↦ (let s' = T_not (butterfly_in t a b x y) s in elim (bit_cases (behind_in t g b)) [
        | inl z ↦ bit_no (butterfly_in t a b x y) s' ∙ sym z
        | inr z ↦ absurd (s' ((parted-iff t.up t.edges _ _ _ _).1 (
          suc (g / 2),
          omega arith,
          omega (arith, m.lg),
          code_apart t.up g (t.node a) (t.node b) (t.node x) (t.node y) m.ag z
              (not_x g m.lg m.hg (λ q. m.de (sym q))) (not_y g m.lg m.hg (λ q. m.df (sym q))),
        )))
      ])
    ]
      where
        on-xy : OnPath t.up t.edges v (t.node x) (t.node y)
        on-xy c l q p s = turn.ef (sym (x_code c l q p) ∙ y_code c l q s)

        found : Parted t.up t.edges (t.node a) (t.node b) (t.node x) (t.node y) → bits g b ≡ 1
        found p =
            let side = path_side t.up t.tree t.edges p.0 v (t.node x) (t.node y) p.2 turn.lv
            on-xy p.3.cd in
            let s = one_side t.up t.tree t.edges p.0 v (t.node a) (t.node b) p.2 turn.lv
            (omega (arith, side, p.3)) p.3.ab in
            let same = code (t.node a) s.0 g (t.node_le a oa.la) s.1 m.lg s.2 m.hg s.3 m.ag in
            ap (λ (c : ℕ). bits c b) (sym same) ∙ s.4

    pair_codes : (a b : ℕ) → Other n x y a → Other n x y b
        → is (at a) v * hangs t x y a b ≡ sum (2 * t.edges) (λ g. beside g (bits g a * bits g b))
    pair_codes a b oa ob = elim (alike (at a) v) [
      | inr d ↦ rw d.1 (omega (
        arith,
        sum_none (2 * t.edges) (λ g. beside g (bits g a * bits g b)) (λ g l. beside_none g _ l (λ de df h.
            ap (λ (z : ℕ). z * bits g b) (away d g l de df h) ∙ omega arith)),
      ))
      | inl i ↦ (
          let m = home a oa i.0 in
          rw (i.1, home_hangs a b m.0 oa ob i.0 m.1) (omega (
            arith,
            sum_one (2 * t.edges) m.0 (λ g. beside g (bits g a * bits g b)) m.1.lg
                (λ g l d. beside_none g _ l (λ de df h.
                ap (λ (z : ℕ). z * bits g b) (only m.0 m.1 g l d h) ∙ omega arith)),
            at_home m.0 m.1,
          )))
    ]
      where
        na : t.node a ≤ t.edges
        na = t.node_le a oa.la

        away : (at a ≢ v) × (is (at a) v ≡ 0) × (ne (at a) v ≡ 1) → (g : ℕ) → g < 2 * t.edges → e ≢ g → f ≢ g
            → head t.up g ≡ v → bits g a ≡ 0
        away d g l de df h = elim (bit_cases (behind_in t g a)) [
          | inl z ↦ z
          | inr o ↦ elim (bit_cases (behind_in t e a)) [
            | inr be ↦ absurd (de (code (t.node a) e g na turn.le l turn.he h be o))
            | inl be ↦ absurd (df (code (t.node a) f g na turn.lf l turn.hf h
                (omega (arith, turn_place a oa, d.1)) o))
          ]
        ]

        only : (g₀ : ℕ) → Home a g₀ → (g : ℕ) → g < 2 * t.edges → g ≢ g₀ → head t.up g ≡ v → bits g a ≡ 0
        only g₀ m g l d h = elim (bit_cases (behind_in t g a)) [
          | inl z ↦ z
          | inr o ↦ absurd (d (code (t.node a) g g₀ na l m.lg h m.hg o m.ag))
        ]

        at_home : (g : ℕ) → Home a g → beside g (bits g a * bits g b) ≡ bits g b
        at_home g m = rw (
          ne_other e g m.de,
          ne_other f g m.df,
          m.hg,
          is_self v,
          m.ag,
        )
            (omega arith)

    pub together_sizes : in_one_subtree t x y v + size_in t e * size_in t e + size_in t f * size_in t f ≡ squares_into t v
    unfolding in_one_subtree squares_into
    together_sizes = omega (
      arith,
      others2_ext n x y (λ a b. is (at a) v * hangs t x y a b)
          (λ a b. sum (2 * t.edges) (λ g. beside g (bits g a * bits g b))) pair_codes,
      others2-sum n x y (2 * t.edges) (λ a b g. beside g (bits g a * bits g b)),
      sum_ext (2 * t.edges) _ (λ g. beside g (size_in t g * size_in t g)) each,
      sum-ne (2 * t.edges) f F turn.lf,
      sum-ne (2 * t.edges) e (λ g. ne f g * F g) turn.le,
      at-e,
      at_f,
    )
      where
        F : ℕ → ℕ
        F g = is v (head t.up g) * (size_in t g * size_in t g)

        at-e : ne f e * (is v (head t.up e) * (size_in t e * size_in t e)) ≡ size_in t e * size_in t e
        at-e = rw (ne_other f e (λ h. turn.ef (sym h)), turn.he, is_self v) (omega arith)

        at_f : is v (head t.up f) * (size_in t f * size_in t f) ≡ size_in t f * size_in t f
        at_f = rw (turn.hf, is_self v) (omega arith)

        scaled : (g : ℕ) → others2 n x y (λ a b. beside g (bits g a * bits g b))
            ≡ beside g (sum_of_others n x y (bits g) * sum_of_others n x y (bits g))
        scaled g = unfold others2 in
            others_cong n x y (λ a. spread (bits g a))
            ∙ others_cong n x y (λ a. turned (ne e g) (ne f g) (is v (head t.up g)) (bits g a) (sum_of_others n x y (bits g)))
            ∙ others-mul_left n x y (beside g (sum_of_others n x y (bits g))) (bits g)
            ∙ regroup (ne e g) (ne f g) (is v (head t.up g)) (sum_of_others n x y (bits g))
          where
            spread : (z : ℕ) → sum_of_others n x y (λ b. beside g (z * bits g b)) ≡ beside g (z * sum_of_others n x y (bits g))
            spread z =
                others_cong n x y (λ b. turned (ne e g) (ne f g) (is v (head t.up g)) z (bits g b))
                ∙ others_cong n x y (λ b. back (ne e g) (ne f g) (is v (head t.up g)) z (bits g b))
                ∙ others-mul_left n x y (beside g z) (bits g)
                ∙ last (ne e g) (ne f g) (is v (head t.up g)) z (sum_of_others n x y (bits g))
              where
                turned : (p q r z u : ℕ) → p * (q * (r * (z * u))) ≡ (p * (q * (r * u))) * z
                turned p q r z u = omega arith

                back : (p q r z u : ℕ) → (p * (q * (r * u))) * z ≡ (p * (q * (r * z))) * u
                back p q r z u = omega arith

                last : (p q r z u : ℕ) → (p * (q * (r * z))) * u ≡ p * (q * (r * (z * u)))
                last p q r z u = omega arith

            turned : (p q r z u : ℕ) → p * (q * (r * (z * u))) ≡ (p * (q * (r * u))) * z
            turned p q r z u = omega arith

            regroup : (p q r z : ℕ) → (p * (q * (r * z))) * z ≡ p * (q * (r * (z * z)))
            regroup p q r z = omega arith

        each : (g : ℕ) → g < 2 * t.edges → others2 n x y (λ a b. beside g (bits g a * bits g b))
            ≡ beside g (size_in t g * size_in t g)
        each g l = scaled g ∙ same
          where
            same : beside g (sum_of_others n x y (bits g) * sum_of_others n x y (bits g)) ≡ beside g (size_in t g * size_in t g)
            same = elim (alike e g) [
              | inl q ↦ rw q.2 (omega arith)
              | inr de ↦ elim (alike f g) [
                | inl q ↦ rw q.2 (omega arith)
                | inr df ↦ elim (alike v (head t.up g)) [
                  | inl q ↦ rw (g_size g l (sym q.0) (λ h. de.0 (sym h)) (λ h. df.0 (sym h)))
                  | inr dv ↦ rw dv.1 (omega arith)
                ]
              ]
            ]
