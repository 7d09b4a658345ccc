-- Which sets of four change their topology where the labels x and y are exchanged.
-- Assumes nothing.
use Rattle.std.specs.Prelude.{◌≡◌, ◌≢◌}
use Rattle.std.proofs.Math.Path.{sym, ap, fun_ext}
use Rattle.std.proofs.Common.{◌∙◌, subst, T_not}
use Rattle.std.proofs.Math.Logic.{inl, inr}
use Prim.Native.Nat.{ℕ, suc, ◌+◌, ◌*◌, ◌≤◌}
use native.Mathlib.Omega.{arith}
use Rattle.std.proofs.Math.Dec.{T}
use Rattle.sums.specs.Bits.{bit, is}
use Rattle.sums.specs.theorems.BitLaws.{ne, bit-T, bit_no, is_eq, ne_self, ne_other, alike}
use Rattle.sums.specs.theorems.TestLaws.{T_dec, same_test}
use Rattle.shapes.proofs.theorems.PartedFours.{parted_turn, parted-swap_left}
use Rattle.sums.specs.theorems.SumLaws.{sum_cong}
use Rattle.sums.specs.theorems.SetLaws.{Symmetric}
use Rattle.sums.specs.theorems.Products.{bit_sq}
use Rattle.sums.specs.theorems.Exclusion.{three_apart}
use Rattle.shapes.specs.Directions.{behind, head}
use Rattle.shapes.specs.theorems.DirectionLaws.{into}
use Rattle.shapes.proofs.theorems.EulerCentre.{one-centre}
use Rattle.shapes.specs.theorems.Triples.{triples}
use Rattle.shapes.proofs.theorems.Triples.{claimed_once}
use Rattle.shapes.specs.theorems.FourLabels.{Four}
use Rattle.shapes.specs.theorems.Shape.{Shape}
use Rattle.shapes.proofs.theorems.Shape.{butterfly_in}
use Rattle.shapes.proofs.theorems.Topologies.{topology_in, SameTests, same_topology-iff}
use Rattle.exchanges.specs.theorems.Others.{Two, Other}
use Rattle.sums.specs.Swaps.{swapped}
use Rattle.sums.specs.theorems.SwapLaws.{swapped-first, swapped_second, swapped_other}
use Rattle.exchanges.specs.theorems.Exchanged.{differ}
use Rattle.exchanges.proofs.theorems.Exchanged.{exchanged, exchanged_butterfly_lem, differ_symmetric}
use Rattle.exchanges.proofs.theorems.PathOrder.{ahead_clash, ahead_off, off_ahead}
use Rattle.exchanges.specs.theorems.ThreeNodes.{AllAlike}
use Rattle.exchanges.proofs.theorems.ThreeNodes.{hang_off, third_unlike, joined_alike, apart_unlike}
use Rattle.exchanges.specs.theorems.SetsChanged.{hangs, leaving_place}

-- ---- two shapes

module _ {n : ℕ} (t u : Shape n) (a b c d : ℕ) where
  differ_of : Four n a b c d → differ t u a b c d ≡ ne (topology_in t a b c d) (topology_in u a b c d)
  unfolding differ
  differ_of h = rw (
    ne_other a b h.ab,
    ne_other a c h.ac,
    ne_other a d h.ad,
    ne_other b c h.bc,
    ne_other b d h.bd,
    ne_other c d h.cd,
  )
      (omega arith)

  pub differ_none : Four n a b c d → SameTests t u a b c d → differ t u a b c d ≡ 0
  differ_none h s =
      differ_of h ∙ ap (λ (z : ℕ). ne z (topology_in u a b c d)) ((same_topology-iff t u a b c d).1 s)
      ∙ ne_self (topology_in u a b c d)

  pub differ-one : Four n a b c d → (SameTests t u a b c d → ⊥) → differ t u a b c d ≡ 1
  differ-one h s = differ_of h ∙ ne_other _ _ (λ e. s ((same_topology-iff t u a b c d).0 e))

-- ---- the labels x and y exchanged

module _ {n : ℕ} (t : Shape n) (x y : ℕ) (two : Two n x y) where
  abbrev changed : ℕ → ℕ → ℕ → ℕ → ℕ
  changed a b c d = differ t (exchanged t x y two) a b c d

  abbrev at : ℕ → ℕ
  at a = leaving_place t x y a

  abbrev up : ℕ → ℕ
  up v = t.up v

  moved : (a b c d a' b' c' d' : ℕ) → swapped x y a ≡ a' → swapped x y b ≡ b' → swapped x y c ≡ c'
      → swapped x y d ≡ d' → butterfly_in (exchanged t x y two) a b c d ≡ butterfly_in t a' b' c' d'
  moved a b c d a' b' c' d' ea eb ec ed = exchanged_butterfly_lem t x y two a b c d ∙ rw (ea, eb, ec, ed)

  to_y : swapped x y x ≡ y
  to_y = swapped-first x y

  to_x : swapped x y y ≡ x
  to_x = swapped_second x y

  stays : {a : ℕ} → Other n x y a → swapped x y a ≡ a
  stays {a} o = swapped_other x y a (λ e. o.xa (sym e)) (λ e. o.ya (sym e))

  nx : t.node x ≤ t.edges
  nx = t.node_le x two.lx

  ny : t.node y ≤ t.edges
  ny = t.node_le y two.ly

  na : {a : ℕ} → Other n x y a → t.node a ≤ t.edges
  na {a} o = t.node_le a o.la

  -- ---- neither

  pub neither_changes : (a b c d : ℕ) → Other n x y a → Other n x y b → Other n x y c → Other n x y d
      → changed a b c d ≡ 0
  neither_changes a b c d oa ob oc od = unfold differ in
      ap (λ (z : ℕ). ne a b * (ne a c * (ne a d * (ne b c * (ne b d * ne c d)))) * z) same ∙ omega arith
    where
      tests : SameTests t (exchanged t x y two) a b c d
      tests = record {
        one = sym (moved a b c d a b c d (stays oa) (stays ob) (stays oc) (stays od));
        two = sym (moved a c b d a c b d (stays oa) (stays oc) (stays ob) (stays od));
        three = sym (moved a d b c a d b c (stays oa) (stays od) (stays ob) (stays oc));
      }

      same : ne (topology_in t a b c d) (topology_in (exchanged t x y two) a b c d) ≡ 0
      same =
          ap (λ (z : ℕ). ne z (topology_in (exchanged t x y two) a b c d))
          ((same_topology-iff t (exchanged t x y two) a b c d).1 tests)
          ∙ ne_self (topology_in (exchanged t x y two) a b c d)

  -- ---- both

  both_four : (a b : ℕ) → Other n x y a → Other n x y b → a ≢ b → Four n x y a b
  both_four a b oa ob d = record {
    la = two.lx;
    lb = two.ly;
    lc = oa.la;
    ld = ob.la;
    ab = two.xy;
    ac = oa.xa;
    ad = ob.xa;
    bc = oa.ya;
    bd = ob.ya;
    cd = d;
  }

  module _ (a b : ℕ) (oa : Other n x y a) (ob : Other n x y b) where
    clash : T (butterfly_in t x a y b) → T (butterfly_in t x b y a) → ⊥
    clash = ahead_clash t.up t.tree t.edges (t.node x) (t.node y) (t.node a) (t.node b)

    -- xa|yb becomes ya|xb
    second_test : butterfly_in (exchanged t x y two) x a y b ≡ butterfly_in t x b y a
    second_test = moved x a y b y a x b to_y (stays oa) to_x (stays ob)
        ∙ parted_turn t.up t.edges _ _ _ _

    third_test : butterfly_in (exchanged t x y two) x b y a ≡ butterfly_in t x a y b
    third_test = moved x b y a y b x a to_y (stays ob) to_x (stays oa)
        ∙ parted_turn t.up t.edges _ _ _ _

    -- a set with x and y changes exactly if the two others leave the path at different nodes
    pub both_change : changed x y a b + is (at a) (at b) ≡ 1
    both_change = elim (alike a b) [
      | inl e ↦ unfold differ in omega (
        arith,
        ap (λ (z : ℕ). ne x y * (ne x a * (ne x b * (ne y a * (ne y b * z))))
            * ne (topology_in t x y a b) (topology_in (exchanged t x y two) x y a b)) e.2,
        is_eq (at a) (at b) (ap (λ (z : ℕ). at z) e.0),
      )
      | inr d ↦ elim (alike (at a) (at b)) [
        | inl e ↦ omega (
          arith,
          e.1,
          differ_none t (exchanged t x y two) x y a b (both_four a b oa ob d.0)
              (same e.0),
        )
        | inr f ↦ omega (
          arith,
          f.1,
          differ-one t (exchanged t x y two) x y a b (both_four a b oa ob d.0)
              (other f.0),
        )
      ]
    ]
      where
        no-ab : at a ≡ at b → T (butterfly_in t x a y b) → ⊥
        no-ab e s = ahead_off t.up t.tree t.edges (t.node x) (t.node y) nx ny (t.node a)
            (t.node b) (na oa) (na ob) s e

        no-ba : at a ≡ at b → T (butterfly_in t x b y a) → ⊥
        no-ba e s = ahead_off t.up t.tree t.edges (t.node x) (t.node y) nx ny (t.node b)
            (t.node a) (na ob) (na oa) s (sym e)

        same : at a ≡ at b → SameTests t (exchanged t x y two) x y a b
        same e = record {
          one = parted-swap_left t.up t.edges _ _ _ _
              ∙ sym (moved x y a b y x a b to_y to_x (stays oa) (stays ob));
          two = same_test _ _ (λ s. absurd (no-ab e s)) (λ s. absurd (no-ba e (subst T second_test s)));
          three = same_test _ _ (λ s. absurd (no-ba e s)) (λ s. absurd (no-ab e (subst T third_test s)));
        }

        other : at a ≢ at b → SameTests t (exchanged t x y two) x y a b → ⊥
        other f s = elim (off_ahead t.up t.tree t.edges (t.node x) (t.node y) nx ny (t.node a)
            (t.node b) (na oa) (na ob) f) [
              | inl p ↦ clash p (subst T (s.two ∙ second_test) p)
              | inr p ↦ clash (subst T (s.three ∙ third_test) p) p
            ]

  -- ---- one of them

  sy : Symmetric (differ t (exchanged t x y two))
  sy = differ_symmetric t (exchanged t x y two)

  none12 : (w a c : ℕ) → changed w a a c ≡ 0
  none12 w a c = sy.first_two w a a c ∙ sy.middle a w a c ∙ sy.none a w c

  none13 : (w a b : ℕ) → changed w a b a ≡ 0
  none13 w a b = sy.last_two w a b a ∙ none12 w a b

  none23 : (w a c : ℕ) → changed w a c c ≡ 0
  none23 w a c = sy.middle w a c c ∙ none13 w c a

  -- a label hangs with itself
  pub hangs_self : (a : ℕ) → Other n x y a → hangs t x y a a ≡ 1
  unfolding triples
  hangs_self a o =
      sym (claimed_once t.up t.tree t.edges (t.node a) (t.node a) (t.node x) (t.node y)
      (na o) (na o) nx ny (t.leaf a o.la) (t.leaf x two.lx) (t.leaf y two.ly) ax ay xy)
      ∙ sum_cong (suc t.edges) (λ v.
      ap (λ (f : ℕ → ℕ). three_apart (2 * t.edges) f (into t.up v (t.node x)) (into t.up v (t.node y)))
      (fun_ext (λ e. once v e)))
      ∙ one-centre t.up t.tree t.edges (t.node a) (t.node x) (t.node y) (na o) nx ny
      (t.leaf a o.la) (t.leaf x two.lx) (t.leaf y two.ly) ax ay xy
    where
      ax : t.node a ≢ t.node x
      ax = t.node_ne a x o.la two.lx (λ e. o.xa (sym e))

      ay : t.node a ≢ t.node y
      ay = t.node_ne a y o.la two.ly (λ e. o.ya (sym e))

      xy : t.node x ≢ t.node y
      xy = t.node_ne x y two.lx two.ly two.xy

      once : (v e : ℕ) → into t.up v (t.node a) e * bit (behind t.up e (t.node a)) ≡ into t.up v (t.node a) e
      once v e = omega (arith, ap (λ (z : ℕ). is v (head t.up e) * z) (bit_sq (behind t.up e (t.node a))))

  -- labels that leave the path at different nodes do not hang together
  pub hangs_none : (a b : ℕ) → Other n x y a → Other n x y b → at a ≢ at b → hangs t x y a b ≡ 0
  hangs_none a b oa ob d = bit_no (butterfly_in t a b x y) (λ h. d (hang_off t.up t.tree t.edges
      (t.node x) (t.node y) nx ny (t.node a) (t.node b) (na oa) (na ob) h))

  module _ (a b c : ℕ) (oa : Other n x y a) (ob : Other n x y b) (oc : Other n x y c) where
    abbrev Same3 : Type 0
    Same3 = AllAlike t.up t.edges (t.node x) (t.node y) (t.node a) (t.node b) (t.node c)

    tests_of_x : SameTests t (exchanged t x y two) x a b c → Same3
    tests_of_x s = record {
      one = s.one ∙ moved x a b c y a b c to_y (stays oa) (stays ob) (stays oc);
      two = s.two ∙ moved x b a c y b a c to_y (stays ob) (stays oa) (stays oc);
      three = s.three ∙ moved x c a b y c a b to_y (stays oc) (stays oa) (stays ob);
    }

    x_tests : Same3 → SameTests t (exchanged t x y two) x a b c
    x_tests s = record {
      one = s.one ∙ sym (moved x a b c y a b c to_y (stays oa) (stays ob) (stays oc));
      two = s.two ∙ sym (moved x b a c y b a c to_y (stays ob) (stays oa) (stays oc));
      three = s.three ∙ sym (moved x c a b y c a b to_y (stays oc) (stays oa) (stays ob));
    }

    tests_of_y : SameTests t (exchanged t x y two) y a b c → Same3
    tests_of_y s = record {
      one = sym (s.one ∙ moved y a b c x a b c to_x (stays oa) (stays ob) (stays oc));
      two = sym (s.two ∙ moved y b a c x b a c to_x (stays ob) (stays oa) (stays oc));
      three = sym (s.three ∙ moved y c a b x c a b to_x (stays oc) (stays oa) (stays ob));
    }

    y_tests : Same3 → SameTests t (exchanged t x y two) y a b c
    y_tests s = record {
      one = sym s.one ∙ sym (moved y a b c x a b c to_x (stays oa) (stays ob) (stays oc));
      two = sym s.two ∙ sym (moved y b a c x b a c to_x (stays ob) (stays oa) (stays oc));
      three = sym s.three ∙ sym (moved y c a b x c a b to_x (stays oc) (stays oa) (stays ob));
    }

    x_four : a ≢ b → a ≢ c → b ≢ c → Four n x a b c
    x_four ab ac bc = record {
      la = two.lx;
      lb = oa.la;
      lc = ob.la;
      ld = oc.la;
      ab = oa.xa;
      ac = ob.xa;
      ad = oc.xa;
      bc = ab;
      bd = ac;
      cd = bc;
    }

    y_four : a ≢ b → a ≢ c → b ≢ c → Four n y a b c
    y_four ab ac bc = record {
      la = two.ly;
      lb = oa.la;
      lc = ob.la;
      ld = oc.la;
      ab = oa.ya;
      ac = ob.ya;
      ad = oc.ya;
      bc = ab;
      bd = ac;
      cd = bc;
    }

    -- sets with y change as sets with x do
    pub y_as_x : changed y a b c ≡ changed x a b c
    y_as_x = elim (alike a b) [
      | inl e ↦ rw e.0 (none12 y b c ∙ sym (none12 x b c))
      | inr ab ↦ elim (alike a c) [
        | inl e ↦ rw e.0 (none13 y c b ∙ sym (none13 x c b))
        | inr ac ↦ elim (alike b c) [
          | inl e ↦ rw e.0 (none23 y a c ∙ sym (none23 x a c))
          | inr bc ↦ unlike ab.0 ac.0 bc.0
        ]
      ]
    ]
      where
        unlike : a ≢ b → a ≢ c → b ≢ c → changed y a b c ≡ changed x a b c
        unlike ab ac bc = elim (alike (topology_in t x a b c) (topology_in (exchanged t x y two) x a b c)) [
          | inl e ↦ (
              let s = tests_of_x ((same_topology-iff t (exchanged t x y two) x a b c).0 e.0) in
              differ_none t (exchanged t x y two) y a b c (y_four ab ac bc) (y_tests s)
              ∙ sym (differ_none t (exchanged t x y two) x a b c (x_four ab ac bc) (x_tests s)))
          | inr d ↦
              differ-one t (exchanged t x y two) y a b c (y_four ab ac bc)
              (λ s. d.0 ((same_topology-iff t (exchanged t x y two) x a b c).1 (x_tests (tests_of_y s))))
              ∙ sym (differ-one t (exchanged t x y two) x a b c (x_four ab ac bc)
              (λ s. d.0 ((same_topology-iff t (exchanged t x y two) x a b c).1 s)))
        ]

    -- all leave the path at one node
    joined_none : at a ≡ at b → at b ≡ at c → changed x a b c ≡ 0
    joined_none ab bc = elim (alike a b) [
      | inl e ↦ rw e.0 (none12 x b c)
      | inr dab ↦ elim (alike a c) [
        | inl e ↦ rw e.0 (none13 x c b)
        | inr dac ↦ elim (alike b c) [
          | inl e ↦ rw e.0 (none23 x a c)
          | inr dbc ↦ differ_none t (exchanged t x y two) x a b c (x_four dab.0 dac.0 dbc.0)
              (x_tests (joined_alike t.up t.tree t.edges (t.node x) (t.node y) nx ny (t.node a)
              (t.node b) (t.node c) (na oa) (na ob) (na oc) ab (inr (ab ∙ bc))))
        ]
      ]
    ]

    -- two leave it at one node, and the third at another
    pair_change : at a ≡ at b → at a ≢ at c → changed x a b c + hangs t x y a b ≡ 1
    pair_change ab ac = elim (alike a b) [
      | inl e ↦ omega (
        arith,
        ap (λ (z : ℕ). changed x z b c) e.0 ∙ none12 x b c,
        ap (λ (z : ℕ). hangs t x y a z) (sym e.0) ∙ hangs_self a oa,
      )
      | inr d ↦ (
          let four = x_four d.0 (λ e. ac (ap (λ (z : ℕ). at z) e)) (λ e. ac (ab ∙ ap (λ (z : ℕ). at z) e)) in
          elim (T_dec (butterfly_in t a b x y)) [
            | inl h ↦ omega (
              arith,
              bit-T (butterfly_in t a b x y) h,
              differ_none t (exchanged t x y two) x a b c four (x_tests (joined_alike t.up t.tree
                  t.edges (t.node x) (t.node y) nx ny (t.node a) (t.node b) (t.node c) (na oa) (na ob)
                  (na oc) ab (inl h))),
            )
            | inr h ↦ omega (
              arith,
              bit_no (butterfly_in t a b x y) (T_not (butterfly_in t a b x y) h),
              differ-one t (exchanged t x y two) x a b c four (λ s. third_unlike t.up t.tree t.edges
                  (t.node x) (t.node y) nx ny (t.node a) (t.node b) (t.node c) (na oa) (na ob) (na oc)
                  ab ac (T_not (butterfly_in t a b x y) h) (tests_of_x s).three),
            )
          ])
    ]

    -- all leave it at different nodes
    apart_change : at a ≢ at b → at a ≢ at c → at b ≢ at c → changed x a b c ≡ 1
    apart_change ab ac bc =
        differ-one t (exchanged t x y two) x a b c
        (x_four (λ e. ab (ap (λ (z : ℕ). at z) e)) (λ e. ac (ap (λ (z : ℕ). at z) e))
        (λ e. bc (ap (λ (z : ℕ). at z) e)))
        (λ s. apart_unlike t.up t.tree t.edges (t.node x) (t.node y) nx ny (t.node a) (t.node b)
        (t.node c) (na oa) (na ob) (na oc) ab ac bc (tests_of_x s))

  -- a set with x changes, unless its three others leave the path at one node, or two of them hang together and
  -- the third leaves it elsewhere
  pub one_changes : (a b c : ℕ) → Other n x y a → Other n x y b → Other n x y c
      → changed x a b c + is (at a) (at b) * is (at b) (at c)
      + hangs t x y a b * ne (at b) (at c) + hangs t x y b c * ne (at a) (at b) + hangs t x y a c * ne (at a) (at b)
      ≡ 1
  one_changes a b c oa ob oc = elim (alike (at a) (at b)) [
    | inl ab ↦ elim (alike (at b) (at c)) [
      | inl bc ↦ rw (ab.1, ab.2, bc.1, bc.2) (omega (arith, joined_none a b c oa ob oc ab.0 bc.0))
      | inr bc ↦ rw (ab.1, ab.2, bc.1, bc.2)
          (omega (arith, pair_change a b c oa ob oc ab.0 (λ e. bc.0 (sym ab.0 ∙ e))))
    ]
    | inr ab ↦ elim (alike (at b) (at c)) [
      | inl bc ↦ rw (ab.1, ab.2, bc.1, bc.2) (omega (
        arith,
        pair_change b c a ob oc oa bc.0 (λ e. ab.0 (sym e)),
        sy.middle x a b c ∙ sy.last_two x b a c,
        hangs_none a c oa oc (λ e. ab.0 (e ∙ sym bc.0)),
      ))
      | inr bc ↦ elim (alike (at a) (at c)) [
        | inl ac ↦ rw (ab.1, ab.2, bc.1, bc.2) (omega (
          arith,
          pair_change a c b oa oc ob ac.0 ab.0,
          sy.last_two x a b c,
          hangs_none a b oa ob ab.0,
          hangs_none b c ob oc bc.0,
        ))
        | inr ac ↦ rw (ab.1, ab.2, bc.1, bc.2) (omega (
          arith,
          apart_change a b c oa ob oc ab.0 ac.0 bc.0,
          hangs_none a b oa ob ab.0,
          hangs_none b c ob oc bc.0,
          hangs_none a c oa oc ac.0,
        ))
      ]
    ]
  ]
