-- The arrays that a walk from one tip reads and writes, and the loops over them.
-- Assumes nothing.
use Rattle.std.specs.Prelude.{◌≡◌, List, ◌≢◌, ℕ, zero, suc, ◌+◌, ◌*◌, ◌-◌, ◌≤◌, ◌<◌, length, set, replicate}
use Rattle.std.proofs.Common.{sym, ◌∙◌, inl, mul-le-mul, arith, length-set}
use Rattle.std.proofs.Math.Decide.{dec_lt}
use Rattle.std.proofs.lemmas.List.{length-replicate, get_or-replicate}
use Rattle.std.proofs.Math.ListN.{get_or-eq_default}
use Rattle.table_words.specs.Sizes.{tips_most, nodes_most, node_room}
use Rattle.sums.specs.Bits.{bit}
use Rattle.sums.specs.theorems.BitLaws.{bit_le}
use Rattle.shapes.specs.Ancestors.{anc}
use Rattle.shapes.proofs.theorems.AncestorLaws.{anc-le}
use Rattle.shapes.specs.theorems.Shape.{Shape}
use Rattle.tree_check.specs.Table.{word}
use Rattle.exchanges.specs.theorems.Turns.{squares_into}
use Rattle.exchanges.specs.theorems.PathSum.{cost}
use Rattle.exchanges.proofs.theorems.PathSum.{path_cost}
use Rattle.exchanges.proofs.theorems.Steps.{labels_below}
use Rattle.exchanges.proofs.theorems.Bounds.{down_fits, up_fits, path_cost-le, toward_some}
use Rattle.exchange_distances.specs.lemmas.Loops.{Given, ClimbedTo, Swept, climb_start, climb_next, sweep_start, sweep_skip, sweep_next}
use Rattle.exchange_distances.specs.lemmas.Loops.{sweep_done}
use Rattle.exchange_distances.specs.lemmas.Powers.{square_le, cube_le}
use Rattle.exchange_distances.specs.lemmas.CostRoom.{cost_most, CostRoom}

-- ---- what a walk reads: the parents ps, the labels at or below each node bs, and the squares qs

-- the parents and sizes of a shape
pub record ShapeSizes (n : ℕ) (ps bs : List ℕ) (s : Shape n) : Type 0 where
  pub up : (v : ℕ) → s.up v ≡ word ps v
  pub edges : suc s.edges ≡ length ps
  pub sizes : (v : ℕ) → v ≤ s.edges → word bs v ≡ labels_below s v
  -- some label is at or below each node, and one is not below any but node 0
  pub some : (v : ℕ) → v ≤ s.edges → 1 ≤ labels_below s v
  pub not_all : (v : ℕ) → 1 ≤ v → labels_below s v + 1 ≤ n

-- .. and its squares
pub record Squared (n : ℕ) (ps bs qs : List ℕ) (s : Shape n) : Type 0 where
  pub sized : ShapeSizes n ps bs s
  pub sums : (v : ℕ) → v ≤ s.edges → word qs v ≡ squares_into s v

-- .. and the node of each label
pub record Reads (n : ℕ) (ps nodes bs qs : List ℕ) (s : Shape n) : Type 0 where
  pub squared : Squared n ps bs qs s
  pub node : (x : ℕ) → x < n → word nodes x ≡ s.node x

-- the arrays of a tree that is small
pub record WalkedArrays (n : ℕ) (ps nodes bs qs : List ℕ) : Type 0 where
  pub shape : Shape n
  pub reads : Reads n ps nodes bs qs shape
  pub tips : (2 ≤ n) × (n ≤ tips_most)
  pub nodes_few : length ps ≤ nodes_most

-- a walk begins at the node of a label
pub record WalkFrom (n : ℕ) (ps bs qs : List ℕ) (p : ℕ) : Type 0 where
  pub shape : Shape n
  pub read : Squared n ps bs qs shape
  pub label : ℕ
  pub label_lt : label < n
  pub here : p ≡ shape.node label
  pub tips : n ≤ tips_most
  pub nodes : length ps ≤ nodes_most

pub walk_from : (n : ℕ) (ps nodes bs qs : List ℕ) → WalkedArrays n ps nodes bs qs → (y p : ℕ) → y < n → p ≡ word nodes y
    → WalkFrom n ps bs qs p
walk_from n ps nodes bs qs h y p l e = record {
  shape = h.shape;
  read = h.reads.squared;
  label = y;
  label_lt = l;
  here = e ∙ h.reads.node y l;
  tips = h.tips.1;
  nodes = h.nodes_few;
}

-- the most that a path takes: 2 · 1023 · cost_most
abbrev pub path_most : ℕ
path_most = 275011731456

-- ---- what it writes: the marks of nodes above p, the labels towards p, and the cost of the path from p

abbrev pub Climbing : ℕ → List ℕ → List ℕ → List ℕ → ℕ → ℕ → List ℕ → List ℕ → List ℕ → Type 0
Climbing n ps bs qs p v marks tw acc = (s : Shape n) → Squared n ps bs qs s → ClimbedTo s p v marks tw acc

abbrev pub Sweeping : ℕ → List ℕ → List ℕ → List ℕ → ℕ → ℕ → List ℕ → List ℕ → List ℕ → Type 0
Sweeping n ps bs qs p i marks tw acc = (s : Shape n) → Squared n ps bs qs s → Swept s p i marks tw acc

-- the cost of the path from p to each other node
pub record CostsFrom (n : ℕ) (ps bs qs : List ℕ) (p : ℕ) (acc : List ℕ) : Type 0 where
  pub costs : (s : Shape n) → Squared n ps bs qs s → (w : ℕ) → w < length ps → w ≢ p → word acc w ≡ path_cost s p w

-- the arrays have a cell for each node
pub record Roomy (marks tw acc : List ℕ) : Type 0 where
  pub long_marks : length marks ≡ node_room
  pub long_tw : length tw ≡ node_room
  pub long_acc : length acc ≡ node_room

-- before a walk no node is marked
pub no_marks : (w : ℕ) → word (replicate node_room 0) w ≡ 0
no_marks w = elim (dec_lt w node_room) [
  | yes l ↦ get_or-replicate node_room w 0 0 l
  | no m ↦ get_or-eq_default (replicate node_room 0) 0 {n = w} (omega (arith, m, length-replicate {A = ℕ} node_room 0))
]

module _ (marks tw acc : List ℕ) (r : Roomy marks tw acc) where
  pub roomy_mark : (i x : ℕ) → Roomy (set marks i x) tw acc
  roomy_mark i x = record {
    long_marks = length-set marks i x ∙ r.long_marks;
    long_tw = r.long_tw;
    long_acc = r.long_acc;
  }

  pub roomy_next : (i x y : ℕ) → Roomy marks (set tw i x) (set acc i y)
  roomy_next i x y = record {
    long_marks = r.long_marks;
    long_tw = length-set tw i x ∙ r.long_tw;
    long_acc = length-set acc i y ∙ r.long_acc;
  }

module _ (n : ℕ) (ps bs qs : List ℕ) (p : ℕ) (f : WalkFrom n ps bs qs p) where
  given : (s : Shape n) → Squared n ps bs qs s → Given s bs qs
  given s h = record { sizes = h.sized.sizes; sums = h.sums }

  pub inside : p < length ps
  inside = omega (arith, f.here, f.shape.node_le f.label f.label_lt, f.read.sized.edges)

  p_le : (s : Shape n) → Squared n ps bs qs s → p ≤ s.edges
  p_le s h = omega (arith, inside, h.sized.edges)

  path_small : (q : ℕ) → path_cost f.shape p q ≤ path_most
  path_small q = small f.shape.edges (path_cost f.shape p q) (omega (arith, f.read.sized.edges, f.nodes))
      (path_cost-le f.shape p (p_le f.shape f.read) q)
    where
      small : (k c : ℕ) → k ≤ 1023 → c ≤ 2 * k * (8 * (n * (n * n)) + 3 * (n * n)) → c ≤ path_most
      small k c l h =
          let e : 8 * (n * (n * n)) + 3 * (n * n) ≤ cost_most = omega (arith, square_le n f.tips, cube_le n f.tips) in
          let d : 2 * k ≤ 2046 = omega arith in
          let r : 2 * k * (8 * (n * (n * n)) + 3 * (n * n)) ≤ 2046 * cost_most = mul-le-mul d e in
          omega arith

  -- ---- the climb

  pub climb_first : (marks tw acc : List ℕ) → Roomy marks tw acc → ((w : ℕ) → word marks w ≡ 0)
      → Climbing n ps bs qs p p (set marks p 1) tw acc
  climb_first marks tw acc r z s h = climb_start s p (p_le s h) marks tw acc
      (omega (arith, r.long_marks, h.sized.edges, f.nodes)) (omega (arith, r.long_tw, h.sized.edges, f.nodes))
      (omega (arith, r.long_acc, h.sized.edges, f.nodes)) z

  module _ (marks tw acc : List ℕ) where
    -- the climb stays at nodes, and rises
    pub climb_inside : (v : ℕ) → Climbing n ps bs qs p v marks tw acc → v < length ps
    climb_inside v c =
        omega (arith, anc-le f.shape.up f.shape.tree v p (c f.shape f.read).here, inside)

    pub climb_rises : (v : ℕ) → 0 < v → Climbing n ps bs qs p v marks tw acc → word ps v < v
    climb_rises zero l c = absurd (omega arith)
    climb_rises (suc j) l c = omega (arith, f.shape.tree.falls j, f.read.sized.up (suc j))

    -- a node on the way takes its cost, which is small
    pub climb_room : (v : ℕ) → 0 < v → v ≢ p → Climbing n ps bs qs p v marks tw acc
        → CostRoom n (word tw v) (n - word bs v) (word qs v) × (word acc v ≤ path_most)
    climb_room zero l d c = absurd (omega arith)
    climb_room (suc j) l d c =
        let s = f.shape in
        let h = f.read in
        let lv : suc j ≤ s.edges = omega (arith, climb_inside (suc j) c, h.sized.edges) in
        let here = (c s h).here in
        let right = (c s h).right (suc j) (omega arith) here d in (
          rw (right.toward_is, h.sized.sizes (suc j) lv, h.sums (suc j) lv) (record {
            fits = up_fits s p (p_le s h) j (omega (arith, lv)) here d;
            two = omega (
              arith,
              h.sized.not_all (suc j) (omega arith),
              rw (← f.here) at (toward_some s f.label (suc j) f.label_lt lv (rw (← f.here) d)),
            );
            tips = f.tips;
          }),
          omega (arith, right.cost_is, path_small (suc j)),
        )

    pub climb_step : (v u c : ℕ) → 0 < v → Climbing n ps bs qs p v marks tw acc → u ≡ word ps v
        → (v ≡ p → c ≡ 0) → (v ≢ p → c ≡ word acc v + cost n (word tw v) (n - word bs v) (word qs v))
        → Climbing n ps bs qs p u (set marks u 1) (set tw u (word bs v)) (set acc u c)
    climb_step zero u c l h eu first later s r = absurd (omega arith)
    climb_step (suc j) u c l h eu first later s r =
        climb_next s p (p_le s r) bs qs (given s r) marks tw acc j u c (h s r) (eu ∙ sym (r.sized.up (suc j))) first later

    -- ---- the sweep

    pub sweep_first : Climbing n ps bs qs p 0 marks tw acc → Sweeping n ps bs qs p 1 marks tw acc
    sweep_first h s r = sweep_start s p (p_le s r) bs qs (given s r) marks tw acc (h s r)

    pub sweep_rises : (i : ℕ) → 0 < i → i < length ps → word ps i < i
    sweep_rises zero l m = absurd (omega arith)
    sweep_rises (suc j) l m = omega (arith, f.shape.tree.falls j, f.read.sized.up (suc j))

    pub sweep_mark : (i : ℕ) → 0 < i → i < length ps → word marks i ≢ 0
        → Sweeping n ps bs qs p i marks tw acc → Sweeping n ps bs qs p (i + 1) marks tw acc
    sweep_mark i l m d h s r =
        let lv : i ≤ s.edges = omega (arith, r.sized.edges) in
        let e : word marks i ≡ 1 = omega (arith, (h s r).marked i lv, bit_le (anc s.up i p)) in
        let q : suc i ≡ i + 1 = omega arith in
        rw q at (sweep_skip s p (p_le s r) bs qs (given s r) marks tw acc i (h s r) lv e)

    pub sweep_room : (i u : ℕ) → 0 < i → i < length ps → word marks i ≡ 0 → u ≡ word ps i → u ≢ p
        → Sweeping n ps bs qs p i marks tw acc
        → CostRoom n (word tw u) (word bs i) (word qs u) × (word acc u ≤ path_most)
    sweep_room zero u l m e eu d h = absurd (omega arith)
    sweep_room (suc j) u l m e eu d h =
        let s = f.shape in
        let r = f.read in
        let lv : suc j ≤ s.edges = omega (arith, r.sized.edges) in
        let up : u ≡ s.up (suc j) = eu ∙ sym (r.sized.up (suc j)) in
        let lu : u < suc j = omega (arith, s.tree.falls j) in
        let off : bit (anc s.up (suc j) p) ≡ 0 = sym ((h s r).marked (suc j) lv) ∙ e in
        let right = (h s r).right u (omega arith) d (inl lu) in (
          rw (right.toward_is, r.sized.sizes (suc j) lv, r.sums u (omega arith)) (record {
            fits = rw (← up) at (down_fits s p (p_le s r) j (omega (arith, lv)) off (λ q. d (up ∙ q)));
            two = omega (
              arith,
              r.sized.some (suc j) lv,
              rw (← f.here) at (toward_some s f.label u f.label_lt (omega arith) (rw (← f.here) d)),
            );
            tips = f.tips;
          }),
          omega (arith, right.cost_is, path_small u),
        )

    -- fewer labels than all are at or below a node but node 0
    pub sweep_below : (i : ℕ) → 0 < i → i < length ps → word bs i ≤ n
    sweep_below i l m = omega (
      arith,
      f.read.sized.sizes i (omega (arith, f.read.sized.edges)),
      f.read.sized.not_all i l,
    )

    pub sweep_step : (i u c : ℕ) → 0 < i → i < length ps → word marks i ≡ 0 → u ≡ word ps i
        → Sweeping n ps bs qs p i marks tw acc
        → (u ≡ p → c ≡ 0) → (u ≢ p → c ≡ word acc u + cost n (word tw u) (word bs i) (word qs u))
        → Sweeping n ps bs qs p (i + 1) marks (set tw i (n - word bs i)) (set acc i c)
    sweep_step zero u c l m e eu h first later s r = absurd (omega arith)
    sweep_step (suc j) u c l m e eu h first later s r =
        let q : suc (suc j) ≡ suc j + 1 = omega arith in
        rw q at (sweep_next s p (p_le s r) bs qs (given s r) marks tw acc j u c (h s r)
        (omega (arith, r.sized.edges)) e (eu ∙ sym (r.sized.up (suc j))) first later)

    pub sweep_end : (i : ℕ) → i ≡ length ps → Sweeping n ps bs qs p i marks tw acc → CostsFrom n ps bs qs p acc
    sweep_end i e h = record {
      costs = λ s r w l d.
          let q : i ≡ suc s.edges = omega (arith, r.sized.edges) in
          sweep_done s p (p_le s r) bs qs (given s r) marks tw acc (rw q at (h s r)) w (omega (arith, r.sized.edges)) d;
    }
