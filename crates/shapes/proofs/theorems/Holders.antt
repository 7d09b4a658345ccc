-- Nodes that hold a set P of labels, all of P beyond them: the last one, and paths between labels of P.
-- Assumes nothing.
use Rattle.std.specs.Prelude.{◌≡◌, Bool, ◌⊎◌, ◌≢◌, ℕ, zero, suc, ◌≤◌, ◌<◌}
use Rattle.std.proofs.Common.{ap, inl, inr, arith}
use Rattle.std.proofs.Math.Decide.{dec_lt, ℕ_discrete}
use Rattle.sums.specs.Bits.{bit}
use Rattle.sums.specs.theorems.BitLaws.{bit_le, bit-T}
use Rattle.sums.specs.Counts.{Twice}
use Rattle.shapes.proofs.theorems.AncestorLaws.{anc_root}
use Rattle.shapes.specs.theorems.PathLaws.{OnPath}
use Rattle.shapes.proofs.theorems.PathLaws.{towards, across, end_on, fork}
use Rattle.shapes.specs.theorems.Shape.{Shape}
use Rattle.shapes.proofs.theorems.Shape.{beyond_in}

-- somewhere f is below g, or nowhere
pub some_less : (n : ℕ) (f g : ℕ → ℕ)
    → ((x : ℕ) × (x < n) × (f x < g x)) ⊎ ((x : ℕ) → x < n → g x ≤ f x)
some_less zero f g = inr (λ x l. absurd (omega arith))
some_less (suc n) f g = elim (dec_lt (f n) (g n)) [
  | yes h ↦ inl (n, omega arith, h)
  | no m ↦ elim (some_less n f g) [
    | inl s ↦ inl (s.0, omega (arith, s.1), s.2)
    | inr h ↦ inr (λ x l. elim (ℕ_discrete x n) [ yes e ↦ rw e (omega arith) | no d ↦ h x (omega arith) ])
  ]
]

module _ {n : ℕ} (t : Shape n) (P : ℕ → Bool) where
  abbrev pub Holds : ℕ → Type 0
  Holds v = (x : ℕ) → x < n → bit (P x) ≤ bit (beyond_in t v x)

  pub record LastHolder (v : ℕ) : Type 0 where
    pub node : v ≤ t.edges
    pub holds : Holds v
    pub last : (w : ℕ) → v < w → w ≤ t.edges → Holds w → ⊥

  -- a label of P that is not beyond v
  record Spilled (v : ℕ) : Type 0 where
    x : ℕ
    lx : x < n
    px : bit (P x) ≡ 1
    off : bit (beyond_in t v x) ≡ 0

  spilled : (v : ℕ) → Spilled v ⊎ Holds v
  spilled v = elim (some_less n (λ x. bit (beyond_in t v x)) (λ x. bit (P x))) [
    | inl s ↦ (let h = bit_le (P s.0) in
        inl (record { x = s.0; lx = s.1; px = omega (arith, s.2); off = omega (arith, s.2) }))
    | inr h ↦ inr h
  ]

  -- the last of the nodes 0 to k, if no later one holds P: the root does
  last_below_lem : (k : ℕ) → k ≤ t.edges → ((w : ℕ) → k < w → w ≤ t.edges → Holds w → ⊥)
      → (v : ℕ) × LastHolder v
  last_below_lem zero l h = (
    0,
    record {
      node = omega arith;
      holds = λ x m. omega (arith, bit_le (P x), anc_root t.up t.tree (t.node x));
      last = h;
    },
  )
  last_below_lem (suc k) l h = elim (spilled (suc k)) [
    | inl s ↦ last_below_lem k (omega arith) (λ w lw m q. elim (ℕ_discrete w (suc k)) [
      | yes e ↦ omega (arith, s.px, s.off, rw e at (q s.x s.lx))
      | no d ↦ h w (omega arith) m q
    ])
    | inr q ↦ (suc k, record { node = l; holds = q; last = h })
  ]

  pub last_holder : (v : ℕ) × LastHolder v
  last_holder = last_below_lem t.edges (omega arith) (λ w l m q. omega arith)

  -- ---- the paths of P

  -- a label of P lies beyond v
  pub record Meets (v : ℕ) : Type 0 where
    pub x : ℕ
    pub lx : x < n
    pub px : bit (P x) ≡ 1
    pub on : bit (beyond_in t v x) ≡ 1

  pub holds_meets : Twice n P → (v : ℕ) → Holds v → Meets v
  holds_meets two v h =
      let l : two.0 < n = omega (arith, two.2, two.3) in
      let p = bit-T (P two.0) two.4 in
      record { x = two.0; lx = l; px = p; on = omega (arith, h two.0 l, bit_le (beyond_in t v two.0)) }

  -- two labels of P with v on the path between them
  pub record Through (v : ℕ) : Type 0 where
    pub a : ℕ
    pub b : ℕ
    pub la : a < n
    pub lb : b < n
    pub pa : bit (P a) ≡ 1
    pub pb : bit (P b) ≡ 1
    pub ab : a ≢ b
    pub on : OnPath t.up t.edges v (t.node a) (t.node b)

  -- no later node holds P
  pub through : Twice n P → (v : ℕ) → Meets v → ((w : ℕ) → v < w → w ≤ t.edges → Holds w → ⊥) → Through v
  through two v m last = elim (spilled v) [
    | inl s ↦ off v m.on s
        (across t.up t.tree t.edges v (t.node a) (t.node s.x) m.on s.off)
    | inr h ↦ elim (ℕ_discrete v (t.node a)) [ yes e ↦ itself e | no d ↦ below d ]
  ]
    where
      a : ℕ
      a = m.x

      off : (w : ℕ) → bit (beyond_in t w a) ≡ 1 → (s : Spilled w)
          → OnPath t.up t.edges v (t.node a) (t.node s.x) → Through v
      off w h s on = record {
        a = a;
        b = s.x;
        la = m.lx;
        lb = s.lx;
        pa = m.px;
        pb = s.px;
        ab = λ e. omega (arith, s.off, ap (λ (x : ℕ). bit (beyond_in t w x)) e);
        on = on;
      }

      other : (b : ℕ) × (b < n) × (bit (P b) ≡ 1) × (a ≢ b)
      other = elim (ℕ_discrete a two.0) [
        | yes e ↦ (two.1, two.3, bit-T (P two.1) two.5, omega (arith, two.2))
        | no d ↦ (two.0, omega (arith, two.2, two.3), bit-T (P two.0) two.4, d)
      ]

      itself : v ≡ t.node a → Through v
      itself e = let o = other in record {
        a = a;
        b = o.0;
        la = m.lx;
        lb = o.1;
        pa = m.px;
        pb = o.2;
        ab = o.3;
        on = end_on t.up t.tree t.edges v (t.node a) (t.node o.0) e;
      }

      below : v ≢ t.node a → Through v
      below d =
          let c = towards t.up t.tree t.edges v (t.node a) (t.node_le a m.lx) d m.on in
          elim (spilled (suc c.0)) [
            | inl s ↦ (
                let on = fork t.up t.tree t.edges v c.0 (t.node a) (t.node s.x) in
                off (suc c.0) c.3 s (on c.2 c.3 s.off))
            | inr h ↦ absurd (last (suc c.0) (omega (arith, t.tree.falls c.0, c.2)) c.1 h)
          ]
