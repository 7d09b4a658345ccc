-- The squares of all nodes: the labels that are not below a node, then each node's labels added to its parent.
-- Assumes nothing.
use Rattle.std.specs.Prelude.{◌≡◌, List, ℕ, zero, suc, ◌+◌, ◌*◌, ◌-◌, ◌≤◌, ◌<◌, length, set}
use Rattle.std.proofs.Common.{sym, ◌∙◌, mul-le-mul, arith, length-set, get_or-set_same, get_or-set_other}
use Rattle.std.proofs.Math.Decide.{ℕ_discrete}
use Rattle.table_words.specs.Sizes.{tips_most, nodes_most, node_room}
use Rattle.sums.specs.Sum.{sum}
use Rattle.sums.specs.Bits.{is}
use Rattle.sums.specs.theorems.SumLaws.{sum_mono, sum_const}
use Rattle.sums.specs.theorems.BitLaws.{bit_le}
use Rattle.shapes.specs.theorems.Shape.{Shape}
use Rattle.tree_check.specs.Table.{word}
use Rattle.exchanges.specs.theorems.Turns.{squares_into}
use Rattle.exchanges.proofs.theorems.Steps.{labels_below, below_root}
use Rattle.exchange_distances.specs.lemmas.Powers.{square_le}
use Rattle.exchange_distances.specs.lemmas.Loops.{Squaring, squaring_next, squaring_done}
use Rattle.exchange_distances.specs.lemmas.WalkArrays.{ShapeSizes}

-- the parents and sizes of a tree that is small
pub record Sizing (n : ℕ) (ps bs : List ℕ) : Type 0 where
  pub shape : Shape n
  pub sized : ShapeSizes n ps bs shape
  pub tips : n ≤ tips_most
  pub nodes : length ps ≤ nodes_most

-- the labels that are not below the nodes before k
pub record RestSquared (n : ℕ) (bs : List ℕ) (k : ℕ) (qs : List ℕ) : Type 0 where
  pub long : length qs ≡ node_room
  pub cells : (v : ℕ) → v < k → word qs v ≡ (n - word bs v) * (n - word bs v)

-- .. and the labels of the nodes before i, added to their parents
pub record Adding (n : ℕ) (ps bs : List ℕ) (i : ℕ) (qs : List ℕ) : Type 0 where
  pub long : length qs ≡ node_room
  pub squaring : (s : Shape n) → ShapeSizes n ps bs s → Squaring s (i - 1) qs

pub rest_none : (n : ℕ) (bs qs : List ℕ) → length qs ≡ node_room → RestSquared n bs 0 qs
rest_none n bs qs e = record { long = e; cells = λ v l. absurd (omega arith) }

pub rest_next : (n : ℕ) (bs : List ℕ) (k : ℕ) (qs : List ℕ) (x : ℕ) → k < node_room
    → x ≡ (n - word bs k) * (n - word bs k) → RestSquared n bs k qs → RestSquared n bs (k + 1) (set qs k x)
rest_next n bs k qs x l e h = record {
  long = length-set qs k x ∙ h.long;
  cells = λ v m. elim (ℕ_discrete v k) [
    | yes d ↦ rw d (get_or-set_same qs k x 0 (omega (arith, h.long)) ∙ e)
    | no d ↦ get_or-set_other qs k v x 0 d ∙ h.cells v (omega arith)
  ];
}

module _ (n : ℕ) (ps bs : List ℕ) (z : Sizing n ps bs) where
  pub some_node : 1 ≤ length ps
  some_node = omega (arith, z.sized.edges)

  -- no size is above n
  pub size-le : (v : ℕ) → v < length ps → word bs v ≤ n
  size-le zero l =
      let e = z.sized.sizes 0 (omega arith) in
      omega (arith, e, below_root z.shape)
  size-le (suc j) l = omega (
    arith,
    z.sized.sizes (suc j) (omega (arith, z.sized.edges)),
    z.sized.not_all (suc j) (omega arith),
  )

  pub size_square : (v : ℕ) → v < length ps → word bs v * word bs v ≤ 65536
  size_square v l = square_le (word bs v) (omega (arith, size-le v l, z.tips))

  pub rest_square : (v : ℕ) → (n - word bs v) * (n - word bs v) ≤ 65536
  rest_square v = square_le (n - word bs v) (omega (arith, z.tips))

  module _ (qs : List ℕ) where
    pub adding_first : RestSquared n bs (length ps) qs → Adding n ps bs 1 qs
    unfolding sum
    adding_first h = record {
      long = h.long;
      squaring = λ s r. record {
        long = omega (arith, h.long, r.edges, z.nodes);
        cells = λ v l. h.cells v (omega (arith, r.edges)) ∙ rw (r.sizes v l) (omega arith);
      };
    }

    pub parent-lt : (i : ℕ) → 0 < i → word ps i < i
    parent-lt zero l = absurd (omega arith)
    parent-lt (suc j) l = omega (arith, z.shape.tree.falls j, z.sized.up (suc j))

    pub adding_small : (i v : ℕ) → 0 < i → v < length ps → Adding n ps bs i qs → word qs v ≤ 65536 * i
    adding_small zero v l m h = absurd (omega arith)
    adding_small (suc j) v l m h =
        let s = z.shape in
        let r = z.sized in
        let e : suc j - 1 ≡ j = omega arith in
        let q = rw e at (h.squaring s r) in
        omega (
          arith,
          q.cells v (omega (arith, r.edges)),
          square_le (n - labels_below s v) (omega (arith, z.tips)),
          sum_mono j (λ i. is v (s.up (suc i)) * (labels_below s (suc i) * labels_below s (suc i))) (λ i. 65536)
              (λ i l. term (is v (s.up (suc i))) (labels_below s (suc i)) (bit_le _)
              (omega (arith, r.not_all (suc i) (omega arith), z.tips))),
          sum_const j 65536,
        )
      where
        term : (b a : ℕ) → b ≤ 1 → a ≤ 256 → b * (a * a) ≤ 65536
        term b a l m =
            let p : b * (a * a) ≤ 1 * 65536 = mul-le-mul l (square_le a m) in omega arith

    pub adding_next : (i u b : ℕ) → 0 < i → i < length ps → u ≡ word ps i → b ≡ word bs i → Adding n ps bs i qs
        → Adding n ps bs (i + 1) (set qs u (word qs u + b * b))
    adding_next zero u b l m eu eb h = absurd (omega arith)
    adding_next (suc j) u b l m eu eb h = record {
      long = length-set qs u (word qs u + b * b) ∙ h.long;
      squaring = λ s r.
          let e : suc j - 1 ≡ j = omega arith in
          let d : suc j + 1 - 1 ≡ suc j = omega arith in
          rw d (squaring_next s j qs (rw e at (h.squaring s r)) (omega (arith, r.edges)) u b
          (eu ∙ sym (r.up (suc j))) (eb ∙ r.sizes (suc j) (omega (arith, r.edges))));
    }

    pub adding_done : (i : ℕ) → i ≡ length ps → Adding n ps bs i qs
        → (s : Shape n) → ShapeSizes n ps bs s → (v : ℕ) → v ≤ s.edges → word qs v ≡ squares_into s v
    adding_done i e h s r v l =
        let d : i - 1 ≡ s.edges = omega (arith, r.edges) in
        squaring_done s qs (rw d at (h.squaring s r)) v l
