-- The distance after an exchange from one sum along the path: over the directed edges from y towards x, each with what
-- its head takes.
-- Assumes nothing.
use Rattle.std.specs.Prelude.{◌≡◌, refl, ◌≢◌, ℕ, suc, ◌+◌, ◌*◌, ◌-◌, ◌≤◌, ◌<◌}
use Rattle.std.proofs.Common.{sym, ◌∙◌, arith}
use Rattle.std.proofs.Math.Path.{ap}
use Rattle.std.proofs.Math.Logic.{inl, inr}
use Rattle.std.proofs.Math.Decide.{ℕ_discrete}
use Rattle.sums.specs.Sum.{sum}
use Rattle.sums.specs.theorems.SumLaws.{sum_ext, sum_cong, sum-swap, sum-pos, sum_one, sum_none, sum-ge}
use Rattle.sums.specs.Bits.{bit, is}
use Rattle.sums.specs.theorems.BitLaws.{ne, bit_cases, is_self, is_other_lem, is_sym, ne_other, ne_self, alike, sum_is}
use Rattle.shapes.specs.Directions.{head, behind}
use Rattle.shapes.specs.theorems.DirectionLaws.{into}
use Rattle.shapes.proofs.theorems.DirectionLaws.{into_one, one_way, one_code}
use Rattle.shapes.proofs.theorems.EulerCentre.{into_pos, head-le}
use Rattle.shapes.specs.theorems.OneCentre.{OnAll}
use Rattle.shapes.proofs.theorems.OneCentre.{on_all-iff, centre_on}
use Rattle.shapes.specs.theorems.Shape.{Shape}
use Rattle.shapes.proofs.theorems.Shape.{behind_in}
use Rattle.shapes.proofs.theorems.Counting.{size_in}
use Rattle.exchanges.specs.theorems.Others.{Two, Other, others2}
use Rattle.exchanges.proofs.theorems.Others.{others_ext, others_none}
use Rattle.exchanges.specs.theorems.SetsChanged.{leaving_place, hangs}
use Rattle.exchanges.proofs.theorems.Distance.{leaving_path, elsewhere, in_one_subtree, other_labels, taken, distance_in, six_distances}
use Rattle.exchanges.specs.theorems.Turns.{squares_into, Turn}
use Rattle.exchanges.proofs.theorems.Turns.{leaving_sizes, elsewhere_sizes, together_sizes}
use Rattle.exchanges.specs.theorems.PathSum.{cost}

-- what the head of the code f takes on a path that comes by f and goes on to the node p; 0 where it does not go on
unfoldable pub head_cost : {n : ℕ} → Shape n → ℕ → ℕ → ℕ
head_cost {n} t p f = sum (2 * t.edges) (λ e.
    ne e f * (into t.up (head t.up f) p e
    * cost n (size_in t e) (size_in t f) (squares_into t (head t.up f))))

-- what the inner nodes of the path between the nodes p and q take together
unfoldable pub path_cost : {n : ℕ} → Shape n → ℕ → ℕ → ℕ
path_cost t p q = sum (2 * t.edges) (λ f. bit (behind t.up f q) * head_cost t p f)

module _ {n : ℕ} (t : Shape n) where
  -- the code into v with p behind it
  pub code_to : (v p : ℕ) → v ≤ t.edges → p ≤ t.edges → v ≢ p
      → (c : ℕ) × (c < 2 * t.edges) × (head t.up c ≡ v) × (bit (behind t.up c p) ≡ 1)
  code_to v p lv lp d =
      let s = sum-pos (2 * t.edges) (into t.up v p)
      (omega (arith, one_way t.up t.tree t.edges v p lv lp, ne_other v p d)) in
      let q = into_pos t.up v p s.0 s.2 in
      (s.0, s.1, q.0, q.1)

  -- no code into p has p behind it
  pub none_behind : (p c : ℕ) → p ≤ t.edges → c < 2 * t.edges → head t.up c ≡ p
      → bit (behind t.up c p) ≡ 1 → ⊥
  none_behind p c lp l h s = omega (
    arith,
    sum-ge (2 * t.edges) (into t.up p p) c l,
    one_way t.up t.tree t.edges p p lp lp,
    ne_self p,
    into_one t.up p p c h s,
  )

  -- over all nodes, each code is counted once
  spread : (F : ℕ → ℕ)
      → sum (suc t.edges) (λ v. sum (2 * t.edges) (λ f. is v (head t.up f) * F f)) ≡ sum (2 * t.edges) F
  spread F =
      sum-swap (suc t.edges) (2 * t.edges) (λ v f. is v (head t.up f) * F f)
      ∙ sum_ext (2 * t.edges) _ F (λ f l.
      sum_cong (suc t.edges) (λ v. ap (λ (z : ℕ). z * F f) (is_sym v (head t.up f)))
      ∙ sum_is (suc t.edges) (head t.up f) (λ v. F f)
      (omega (arith, head-le t.up t.tree t.edges f l)))

  -- no two codes into v have p behind the one and q behind the other
  abbrev NoTurn : ℕ → ℕ → ℕ → Type 0
  NoTurn p q v = (e f : ℕ) → e < 2 * t.edges → f < 2 * t.edges → head t.up e ≡ v → head t.up f ≡ v
      → bit (behind t.up e p) ≡ 1 → bit (behind t.up f q) ≡ 1 → e ≢ f → ⊥

  -- what the codes into v add
  abbrev node_cost : ℕ → ℕ → ℕ → ℕ
  node_cost p q v =
      sum (2 * t.edges) (λ f. is v (head t.up f) * (bit (behind t.up f q) * head_cost t p f))

  no_turn_cost : (p q v : ℕ) → NoTurn p q v → node_cost p q v ≡ 0
  no_turn_cost p q v no-turn = sum_none (2 * t.edges) _ (λ f lf. elim (alike v (head t.up f)) [
    | inr d ↦ rw d.1 (omega arith)
    | inl h ↦ elim (bit_cases (behind t.up f q)) [
      | inl z ↦ rw z (omega arith)
      | inr o ↦ rw (none f lf (sym h.0) o) (omega arith)
    ]
  ])
    where
      none : (f : ℕ) → f < 2 * t.edges → head t.up f ≡ v → bit (behind t.up f q) ≡ 1 → head_cost t p f ≡ 0
      none f lf hf o = unfold head_cost in sum_none (2 * t.edges) _ (λ e le. elim (alike e f) [
        | inl i ↦ rw i.2 (omega arith)
        | inr d ↦ elim (alike (head t.up f) (head t.up e)) [
          | inr g ↦ rw g.1 (omega arith)
          | inl g ↦ elim (bit_cases (behind t.up e p)) [
            | inl z ↦ rw z (omega arith)
            | inr s ↦ absurd (no-turn e f le lf (sym g.0 ∙ hf) hf s o d.0)
          ]
        ]
      ])

  -- the one code f from q, and the one code e from p
  turn_head_cost : (p q v e f : ℕ) → p ≤ t.edges → Turn t p q v e f
      → head_cost t p f ≡ cost n (size_in t e) (size_in t f) (squares_into t v)
  unfolding head_cost
  turn_head_cost p q v e f lp turn =
      sum_one (2 * t.edges) e _ turn.le (λ c lc d. elim (alike (head t.up f) (head t.up c)) [
        | inr g ↦ rw g.1 (omega arith)
        | inl g ↦ elim (bit_cases (behind t.up c p)) [
          | inl z ↦ rw z (omega arith)
          | inr s ↦ absurd (d (one_code t.up t.tree t.edges v p c e turn.lv lp lc turn.le
              (sym g.0 ∙ turn.hf) turn.he s turn.pe))
        ]
      ])
      ∙ rw (ne_other e f turn.ef, turn.hf, turn.he, turn.pe, is_self v) (omega arith)

  turn_cost : (p q v e f : ℕ) → p ≤ t.edges → q ≤ t.edges → Turn t p q v e f
      → node_cost p q v ≡ cost n (size_in t e) (size_in t f) (squares_into t v)
  turn_cost p q v e f lp lq turn =
      sum_one (2 * t.edges) f _ turn.lf (λ c lc d. elim (alike v (head t.up c)) [
        | inr g ↦ rw g.1 (omega arith)
        | inl g ↦ elim (bit_cases (behind t.up c q)) [
          | inl z ↦ rw z (omega arith)
          | inr s ↦ absurd (d (one_code t.up t.tree t.edges v q c f turn.lv lq lc turn.lf
              (sym g.0) turn.hf s turn.qf))
        ]
      ])
      ∙ rw (turn.hf, turn.qf, is_self v) (omega (arith, turn_head_cost p q v e f lp turn))

module _ {n : ℕ} (t : Shape n) (x y : ℕ) (two : Two n x y) where
  abbrev at : ℕ → ℕ
  at a = leaving_place t x y a

  nx : t.node x ≤ t.edges
  nx = t.node_le x two.lx

  ny : t.node y ≤ t.edges
  ny = t.node_le y two.ly

  on_all_lem : (a : ℕ) → Other n x y a → OnAll t.up t.edges (at a) (t.node x) (t.node y) (t.node a)
  on_all_lem a o = (on_all-iff t.up t.edges (at a) (t.node x) (t.node y) (t.node a)).0
      (centre_on t.up t.tree t.edges (t.node x) (t.node y) (t.node a) nx ny (t.node_le a o.la)).1

  -- nothing leaves the path at v
  taken_none : (v : ℕ) → ((a : ℕ) → Other n x y a → at a ≢ v) → taken t x y two v ≡ 0
  taken_none v h = rw (no-leaving, no-together) (omega arith)
    where
      no-leaving : leaving_path t x y v ≡ 0
      no-leaving = unfold leaving_path in
          others_ext n x y _ (λ a. 0) (λ a o. is_other_lem (at a) v (h a o)) ∙ others_none n x y _ (λ a. refl)

      no-together : in_one_subtree t x y v ≡ 0
      no-together = unfold in_one_subtree others2 in
          others_ext n x y _ (λ a. 0)
          (λ a o. others_none n x y _ (λ b. ap (λ (z : ℕ). z * hangs t x y a b) (is_other_lem (at a) v (h a o)) ∙ omega arith))
          ∙ others_none n x y _ (λ a. refl)

  taken_turn : (v e f : ℕ) → Turn t (t.node x) (t.node y) v e f
      → cost n (size_in t e) (size_in t f) (squares_into t v) ≡ taken t x y two v
  unfolding cost
  taken_turn v e f turn = rw (away, pairs, others-there)
    where
      away : n - size_in t e - size_in t f ≡ leaving_path t x y v
      away = omega (arith, leaving_sizes t x y two v e f turn)

      pairs : squares_into t v - size_in t e * size_in t e - size_in t f * size_in t f ≡ in_one_subtree t x y v
      pairs = omega (arith, together_sizes t x y two v e f turn)

      others-there : size_in t e + size_in t f - 2 ≡ elsewhere t x y v
      others-there = omega (arith, elsewhere_sizes t x y two v e f turn)

  -- no label leaves the path at a leaf of it
  not_at_end : (a z w : ℕ) → Other n x y a → z < n → w < n → z ≢ w → z ≢ a
      → ((c : ℕ) → c < 2 * t.edges → head t.up c ≡ t.node z → bit (behind_in t c w) ≡ 1
      → bit (behind_in t c a) ≡ 1 → ⊥) → ⊥
  not_at_end a z w o lz lw zw za on =
      let c = code_to t (t.node z) (t.node w) (t.node_le z lz) (t.node_le w lw) (t.node_ne z w lz lw zw) in
      let d = code_to t (t.node z) (t.node a) (t.node_le z lz) (t.node_le a o.la) (t.node_ne z a lz o.la za) in
      let e = t.leaf z lz c.0 d.0 c.1 d.1 c.2 d.2 in
      on c.0 c.1 c.2 c.3 (ap (λ (g : ℕ). bit (behind_in t g a)) e ∙ d.3)

  node_takes : (v : ℕ) → v ≤ t.edges → taken t x y two v ≡ node_cost t (t.node x) (t.node y) v
  node_takes v lv = elim (ℕ_discrete v (t.node x)) [
    | yes i ↦
        taken_none v (λ a o h. not_at_end a x y o two.lx two.ly two.xy o.xa
        (λ c l q. (on_all_lem a o).2 c l (q ∙ sym (h ∙ i))))
        ∙ sym (no_turn_cost t (t.node x) (t.node y) v (λ e f le lf he hf pe qf ef.
        none_behind t (t.node x) e nx le (he ∙ i) pe))
    | no dx ↦ elim (ℕ_discrete v (t.node y)) [
      | yes i ↦
          taken_none v (λ a o h. not_at_end a y x o two.ly two.lx (λ q. two.xy (sym q)) o.ya
          (λ c l q. (on_all_lem a o).1 c l (q ∙ sym (h ∙ i))))
          ∙ sym (no_turn_cost t (t.node x) (t.node y) v (λ e f le lf he hf pe qf ef.
          none_behind t (t.node y) f ny lf (hf ∙ i) qf))
      | no dy ↦ inner (code_to t v (t.node x) lv nx dx) (code_to t v (t.node y) lv ny dy)
    ]
  ]
    where
      inner : (c : ℕ) × (c < 2 * t.edges) × (head t.up c ≡ v) × (bit (behind t.up c (t.node x)) ≡ 1)
          → (c : ℕ) × (c < 2 * t.edges) × (head t.up c ≡ v) × (bit (behind t.up c (t.node y)) ≡ 1)
          → taken t x y two v ≡ node_cost t (t.node x) (t.node y) v
      inner e f = elim (ℕ_discrete e.0 f.0) [
        | no d ↦ (
            let turn : Turn t (t.node x) (t.node y) v e.0 f.0 = record {
              lv = lv;
              le = e.1;
              lf = f.1;
              he = e.2;
              hf = f.2;
              pe = e.3;
              qf = f.3;
              ef = d;
            } in
            sym (taken_turn v e.0 f.0 turn)
            ∙ sym (turn_cost t (t.node x) (t.node y) v e.0 f.0 nx ny turn))
        | yes i ↦
            taken_none v (λ a o h. (on_all_lem a o).0 e.0 e.1 (e.2 ∙ sym h) e.3
            (ap (λ (g : ℕ). bit (behind t.up g (t.node y))) i ∙ f.3))
            ∙ sym (no_turn_cost t (t.node x) (t.node y) v (λ g h lg lh hg hh pg qh d. d (
            one_code t.up t.tree t.edges v (t.node x) g e.0 lv nx lg e.1 hg e.2 pg e.3
            ∙ i
            ∙ one_code t.up t.tree t.edges v (t.node y) f.0 h lv ny f.1 lh f.2 hh f.3 qh)))
      ]

  pub takes_path : sum (suc t.edges) (taken t x y two) ≡ path_cost t (t.node x) (t.node y)
  unfolding path_cost
  takes_path =
      sum_ext (suc t.edges) (taken t x y two) (node_cost t (t.node x) (t.node y))
      (λ v l. node_takes v (omega arith))
      ∙ spread t (λ f. bit (behind t.up f (t.node y)) * head_cost t (t.node x) f)

  -- the distance, six times, from the cost of the path
  pub distance_path : 6 * distance_in t x y two + path_cost t (t.node x) (t.node y)
      ≡ 2 * (other_labels t x y * (other_labels t x y * other_labels t x y)) + 3 * (other_labels t x y * other_labels t x y)
  distance_path = omega (arith, six_distances t x y two, takes_path)
