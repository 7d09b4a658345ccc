-- The edges of one tree that add to the sums, listed, and what they add by themselves.
-- Assumes nothing.
use Rattle.std.specs.Prelude.{◌≡◌, Bool, true, ◌&&◌, ◌⊎◌, List, ℕ, zero, suc, ◌+◌, ◌*◌, ◌-◌, ◌≤◌, ◌<◌, ltb, leb, length, set, drop}
use Rattle.std.proofs.Math.Path.{refl, ap₂}
use Rattle.std.proofs.Common.{sym, ◌∙◌, ap, subst, inl, inr, arith, le-leb, ltb-false, length-set, get_or-set_same, get_or-set_other, get_or-take, get_or-drop}
use Rattle.std.proofs.Math.Bool.{false}
use Rattle.std.proofs.Math.Decide.{ℕ_discrete, dec_lt}
use Rattle.std.proofs.lemmas.Bool.{lt-leb}
use Rattle.table_words.specs.Sizes.{node_room}
use Rattle.sums.specs.Sum.{sum}
use Rattle.sums.specs.theorems.SumLaws.{sum_ext, sum_next, sum_mono, sum_const}
use Rattle.sums.specs.Bits.{bit}
use Rattle.sums.specs.theorems.BitLaws.{bit_le}
use Rattle.sums.specs.theorems.Products.{product_le}
use Rattle.shapes.specs.theorems.TripletCounts.{edge_term}
use Rattle.shapes.proofs.theorems.LowestAncestors.{leaves_once}
use Rattle.tree_check.specs.Table.{Table, word, tips, nodes, parents, parent, node_of, beyond}
use Rattle.tree_check.specs.IsTree.{IsTree}
use Rattle.tree_check.specs.theorems.RootedTables.{rooted}
use Rattle.counting.specs.Kept.{is_other}
use Rattle.counting.specs.theorems.KeptTripletSums.{size_over, edge_over}
use Rattle.triplets.proofs.lemmas.EdgeSums.{edge_term_most, sum_most}

-- ---- as the code reads the totals

-- how many of the places of node j's span were counted
abbrev pub span_of : List ℕ → List ℕ → List ℕ → ℕ → ℕ
span_of sums begin end j = word sums (word end j) - word sums (word begin j)

-- an edge adds something if it has two labels beyond it, and fewer than the edge above it
unfoldable pub adds : ℕ → ℕ → Bool
adds s p = leb 2 s && ltb s p

pub adds_none : (s p : ℕ) → s < 2 → false ≡ adds s p
unfolding adds
adds_none s p l = rw (lt-leb 2 s l, adds) refl

pub adds-some : (s p : ℕ) → 2 ≤ s → ltb s p ≡ adds s p
unfolding adds
adds-some s p l = rw (le-leb 2 s l, adds) refl

adds_nothing : (s p : ℕ) → adds s p ≡ false → (s ≤ 1) ⊎ (p ≤ s)
adds_nothing s p e = elim (dec_lt s 2) [
  | yes l ↦ inl (omega arith)
  | no l ↦ inr (ltb-false s p (adds-some s p (omega arith) ∙ e))
]

abbrev pub adds_at : List ℕ → List ℕ → List ℕ → List ℕ → ℕ → Bool
adds_at all begin end table j = adds (span_of all begin end j) (span_of all begin end (word table (2 + j)))

-- ---- the list, node by node

-- of the first i nodes from node 2 on, the `count` that pass the test are listed
pub record ListedEdges (i count : ℕ) (test : ℕ → Bool) (listed : List ℕ) : Type 0 where
  pub few : count ≤ i
  pub long : length listed ≡ node_room
  pub node : (q : ℕ) → q < count → (2 ≤ word listed q) × (word listed q < i + 2)
  pub sums : (f : ℕ → ℕ) → sum count (λ q. f (word listed q)) ≡ sum i (λ j. bit (test (j + 2)) * f (j + 2))

pub listed_none : (test : ℕ → Bool) (listed : List ℕ) → length listed ≡ node_room → ListedEdges 0 0 test listed
listed_none test listed l = record {
  few = omega arith;
  long = l;
  node = λ q m. absurd (omega arith);
  sums = λ f. unfold sum in refl;
}

module _ (i count : ℕ) (test : ℕ → Bool) (listed : List ℕ) (l : i < node_room) (h : ListedEdges i count test listed) where
  same_sum : (x : ℕ) (f : ℕ → ℕ) → sum count (λ q. f (word (set listed count x) q)) ≡ sum count (λ q. f (word listed q))
  same_sum x f = sum_ext count _ _ (λ q m. ap f (get_or-set_other listed count q x 0 (λ e. omega arith)))

  pub listed-one : test (i + 2) ≡ true → ListedEdges (i + 1) (count + 1) test (set listed count (i + 2))
  listed-one t = record {
    few = omega (arith, h.few);
    long = length-set listed count (i + 2) ∙ h.long;
    node = λ q m. elim (ℕ_discrete q count) [
      | yes e ↦ rw (e, here) (omega arith)
      | no d ↦ rw (get_or-set_other listed count q (i + 2) 0 d) (let r = h.node q (omega arith) in (r.0, omega (arith, r.1)))
    ];
    sums = λ f. sum_next count _ ∙ omega (
      arith,
      same_sum (i + 2) f,
      ap f here,
      h.sums f,
      sum_next i (λ j. bit (test (j + 2)) * f (j + 2)),
      hit f,
    );
  }
    where
      here : word (set listed count (i + 2)) count ≡ i + 2
      here = get_or-set_same listed count (i + 2) 0 (omega (arith, h.few, h.long))

      one : bit true ≡ 1
      one = unfold bit in refl

      hit : (f : ℕ → ℕ) → bit (test (i + 2)) * f (i + 2) ≡ f (i + 2)
      hit f = rw (t, one) (omega arith)

  pub listed_other : test (i + 2) ≡ false → ListedEdges (i + 1) count test (set listed count (i + 2))
  listed_other t = record {
    few = omega (arith, h.few);
    long = length-set listed count (i + 2) ∙ h.long;
    node = λ q m. rw (get_or-set_other listed count q (i + 2) 0 (λ e. omega arith)) (let r = h.node q m in (r.0, omega (arith, r.1)));
    sums = λ f. omega (
      arith,
      same_sum (i + 2) f,
      h.sums f,
      sum_next i (λ j. bit (test (j + 2)) * f (j + 2)),
      miss f,
    );
  }
    where
      none : bit false ≡ 0
      none = unfold bit in refl

      miss : (f : ℕ → ℕ) → bit (test (i + 2)) * f (i + 2) ≡ 0
      miss f = rw (t, none) (omega arith)

-- ---- the totals of a node and of its parent

pub record EdgeTotals (all begin end : List ℕ) (j p : ℕ) : Type 0 where
  pub node : j < node_room
  pub parent_node : p < node_room
  pub rise : (word all (word begin j) ≤ word all (word end j)) × (word all (word begin p) ≤ word all (word end p))
  pub sizes : (span_of all begin end j ≤ span_of all begin end p) × (span_of all begin end p ≤ 256)

-- of every node from node 2 on, and of every listed one
pub record NodeSums (all begin end table : List ℕ) (m : ℕ) : Type 0 where
  pub few : (2 ≤ m) × (m ≤ node_room)
  pub inside : (j : ℕ) → j < m → 2 + j < length table
  pub sums : (j : ℕ) → 2 ≤ j → j < m → EdgeTotals all begin end j (word table (2 + j))

pub record ListedSums (all begin end table listed : List ℕ) (count : ℕ) : Type 0 where
  pub few : count ≤ node_room
  pub inside : (q : ℕ) → q < count → (word listed q ≤ node_room) × (2 + word listed q < length table)
  pub sums : (q : ℕ) → q < count → EdgeTotals all begin end (word listed q) (word table (2 + word listed q))

abbrev pub edge_listed : List ℕ → List ℕ → List ℕ → List ℕ → List ℕ → ℕ → ℕ
edge_listed all begin end table listed q =
    edge_term (span_of all begin end (word listed q)) (span_of all begin end (word table (2 + word listed q)))

module _ (all begin end table listed : List ℕ) (count : ℕ) (h : ListedSums all begin end table listed count) where
  pub edges_low : (q : ℕ) → q ≤ count → sum q (edge_listed all begin end table listed) ≤ 17179869184
  edges_low q l = omega (
    arith,
    sum_most q 16777216 (edge_listed all begin end table listed) (λ i m. let s = (h.sums i (omega arith)).sizes in edge_term_most _ _ s.0 s.1),
    product_le node_room 16777216 q 16777216 (omega (arith, h.few)) (omega arith),
  )

-- ---- the totals of a tree

pub parent-word : (t : Table) (v : ℕ) → v < nodes t → word t (2 + v) ≡ parent t v
unfolding parent parents
parent-word t v l = sym (get_or-take (nodes t) (drop 2 t) v 0 l ∙ get_or-drop 2 t v 0)

-- beyond an edge is beyond its parent's
pub size_up : (marks : List ℕ) (n : ℕ) (t : Table) → IsTree t → (i : ℕ) → 1 ≤ i → size_over marks n t i ≤ size_over marks n t (parent t i)
unfolding size_over beyond
size_up marks n t g i l = sum_mono n _ _ (λ y m.
    product_le _ _ _ _ (omega arith) (omega (arith, leaves_once (parent t) (rooted t g) i (node_of t y) l)))

pub size_few : (marks : List ℕ) (n : ℕ) (t : Table) (i : ℕ) → size_over marks n t i ≤ n
unfolding size_over
size_few marks n t i = omega (
  arith,
  sum_mono n (λ y. bit (is_other marks 0 y) * bit (beyond t i y)) (λ y. 1)
      (λ y l. product_le 1 1 _ _ (bit_le (is_other marks 0 y)) (bit_le (beyond t i y))),
  sum_const n 1,
)

-- an edge with one label or none beyond it, or with those of the edge above it, adds nothing
pub few_edge : (s p : ℕ) → (s ≤ 1) ⊎ (p ≤ s) → edge_term s p ≡ 0
unfolding edge_term
few_edge zero p m = omega arith
few_edge (suc zero) p m = let z : suc zero - 1 ≡ 0 = omega arith in rw z (omega arith)
few_edge (suc (suc s)) p (inl m) = absurd (omega arith)
few_edge (suc (suc s)) p (inr m) = let z : p - suc (suc s) ≡ 0 = omega arith in rw z (omega arith)

-- the totals of the spans are the kept labels beyond the nodes
pub record SizesOf (t : Table) (marks : List ℕ) (n : ℕ) (begin end all : List ℕ) : Type 0 where
  pub size : (j : ℕ) → 1 ≤ j → j < nodes t
      → (span_of all begin end j ≡ size_over marks n t j) × (word all (word begin j) ≤ word all (word end j))

module _ (t : Table) (g : IsTree t) (marks : List ℕ) (n : ℕ) (en : n ≡ tips t) (begin end all : List ℕ)
    (s : SizesOf t marks n begin end all) where
  -- a node from 2 on, and its parent
  two : (j p : ℕ) → 2 ≤ j → j < nodes t → p ≡ parent t j
      → EdgeTotals all begin end j p × (span_of all begin end j ≡ size_over marks n t j)
      × (span_of all begin end p ≡ size_over marks n t (parent t j))
  two j p a l e =
      let r = g.parents_range j a l in
      let pp : 1 ≤ p = omega (arith, e, r.0) in
      let lp : p < nodes t = omega (arith, e, r.1) in
      let cj = s.size j (omega arith) l in
      let cp = s.size p pp lp in (
        record {
          node = omega (arith, g.tips_range, g.nodes_range);
          parent_node = omega (arith, g.tips_range, g.nodes_range);
          rise = (cj.1, cp.1);
          sizes = (
            omega (arith, cj.0, cp.0, ap (size_over marks n t) e, size_up marks n t g j (omega arith)),
            omega (arith, cp.0, size_few marks n t p, en, g.tips_range.1),
          );
        },
        cj.0,
        cp.0 ∙ ap (size_over marks n t) e,
      )

  at_word : (j : ℕ) → 2 ≤ j → j < nodes t
      → EdgeTotals all begin end j (word t (2 + j)) × (span_of all begin end j ≡ size_over marks n t j)
      × (span_of all begin end (word t (2 + j)) ≡ size_over marks n t (parent t j))
  at_word j a l = two j _ a l (parent-word t j l)

  pub node_sums : (m : ℕ) → m ≡ nodes t → NodeSums all begin end t m
  node_sums m em = record {
    few = omega (arith, em, g.tips_range, g.nodes_range);
    inside = λ j l. omega (arith, em, g.words);
    sums = λ j a l. (at_word j a (omega (arith, em))).0;
  }

  module _ (listed : List ℕ) (count : ℕ) (h : ListedEdges (nodes t - 2) count (adds_at all begin end t) listed) where
    pub listed_node : (q : ℕ) → q < count → (2 ≤ word listed q) × (word listed q < nodes t)
    listed_node q m = let r = h.node q m in (r.0, omega (arith, r.1, g.tips_range, g.nodes_range))

    pub listed_few : count ≤ node_room
    listed_few = omega (arith, h.few, g.tips_range, g.nodes_range)

    pub listed_sums : ListedSums all begin end t listed count
    listed_sums = record {
      few = listed_few;
      inside = λ q m. let c = listed_node q m in (omega (arith, c.1, g.tips_range, g.nodes_range), omega (arith, c.1, g.words));
      sums = λ q m. let c = listed_node q m in (at_word (word listed q) c.0 c.1).0;
    }

    -- what the others add is 0, so the listed ones are enough
    pub listed_enough : (f : ℕ → ℕ)
        → ((j : ℕ) → 2 ≤ j → j < nodes t → (size_over marks n t j ≤ 1) ⊎ (size_over marks n t (parent t j) ≤ size_over marks n t j) → f j ≡ 0)
        → sum count (λ q. f (word listed q)) ≡ sum (nodes t - 2) (λ j. f (j + 2))
    listed_enough f none = h.sums f ∙ sum_ext (nodes t - 2) _ _ (λ j m. each j m (adds_at all begin end t (j + 2)) refl)
      where
        each : (j : ℕ) → j < nodes t - 2 → (b : Bool) → adds_at all begin end t (j + 2) ≡ b
            → bit (adds_at all begin end t (j + 2)) * f (j + 2) ≡ f (j + 2)
        each j m true e = rw e (unfold bit in omega arith)
        each j m false e =
            let a = at_word (j + 2) (omega arith) (omega arith) in
            rw (
              e,
              none (j + 2) (omega arith) (omega arith)
                  (subst (λ (z : ℕ). (size_over marks n t (j + 2) ≤ 1) ⊎ (z ≤ size_over marks n t (j + 2))) a.2
                  (subst (λ (z : ℕ). (z ≤ 1) ⊎ (span_of all begin end (word t (2 + (j + 2))) ≤ z)) a.1 (adds_nothing _ _ e))),
            )
            (unfold bit in omega arith)

    pub edge_sum_lem : sum count (edge_listed all begin end t listed) ≡ sum (nodes t - 2) (λ j. edge_over marks n t (j + 2))
    unfolding edge_over
    edge_sum_lem =
        sum_ext count _ _ (λ q m. let c = listed_node q m in
        let a = at_word (word listed q) c.0 c.1 in ap₂ edge_term a.1 a.2)
        ∙ listed_enough (λ j. edge_over marks n t j) (λ j a l. few_edge _ _)
