-- The labels beyond a node stand side by side in the walk: a tip is at or below the node exactly where its place lies in the
-- node's span.
-- Assumes nothing.
use Rattle.std.specs.Prelude.{◌≡◌, ℕ, zero, suc, ◌+◌, ◌-◌, ◌<◌, ◌≤◌, Bool, ◌&&◌, T, ◌≢◌, ◌↔◌, List, length, drop, nat_eq, nat_le, nat_lt, refl}
use Rattle.std.proofs.Math.Path.{sym, ap}
use Rattle.std.proofs.Common.{◌∙◌, arith}
use Rattle.std.proofs.Math.Logic.{inl, inr}
use Rattle.std.proofs.Math.Dec.{T_not}
use Rattle.std.proofs.Math.Seq.{get_or-take, get_or-drop}
use Rattle.sums.specs.Bits.{bit}
use Rattle.sums.specs.theorems.BitLaws.{bit-T, bit_no, bit_le}
use Rattle.sums.specs.theorems.CountLaws.{count-pos, count_none, count_once}
use Rattle.sums.specs.theorems.TestLaws.{T_dec, and-iff, eq_iff, le_iff, lt_iff}
use Rattle.shapes.proofs.theorems.AncestorLaws.{up_ind}
use Rattle.tree_check.specs.Table.{Table, word, tips, nodes, parent, label, node_of, beyond}
use Rattle.tree_check.specs.IsTree.{IsTree}
use Rattle.tree_check.specs.TreeOrder.{standing}
use Rattle.tree_check.specs.theorems.RootedTables.{rooted}
use Rattle.walks.specs.Walk.{own, walk, below, start, part}
use Rattle.walks.specs.Spans.{span_begin, span_end}
use Rattle.walks.specs.theorems.NodeLabels.{node_at}
use Rattle.walks.specs.theorems.WalkFrom.{own_length}
use Rattle.walks.specs.theorems.WalkLaws.{start-suc, walk_once, part_fits, part_length, part_holds, walk-length}
use Rattle.walks.specs.theorems.Reach.{walk_at}

-- place p lies in the span from b to before e
unfoldable pub in_span : ℕ → ℕ → ℕ → Bool
in_span p b e = nat_le b p && nat_lt p e

pub in_span-iff : (p b e : ℕ) → T (in_span p b e) ↔ (b ≤ p) × (p < e)
unfolding in_span
in_span-iff p b e = let a = and-iff (nat_le b p) (nat_lt p e) in (
  λ h. ((le_iff b p).0 (a.0 h).0, (lt_iff p e).0 (a.0 h).1),
  λ h. a.1 ((le_iff b p).1 h.0, (lt_iff p e).1 h.1),
)

-- what the lists of spans hold
pub record SpansOf (t : Table) (labelled begin end : List ℕ) : Type 0 where
  pub node : (x : ℕ) → x < tips t → word labelled x ≡ node_of t x
  pub begins : (v : ℕ) → v < nodes t → word begin v ≡ span_begin t v
  pub ends : (v : ℕ) → v < nodes t → word end v ≡ span_end t v

module _ (t : Table) (g : IsTree t) where
  -- node 0 is a tip and begins the walk, so every other node comes after its label
  pub start_after : (v : ℕ) → 1 ≤ v → 1 ≤ start t v
  start_after = up_ind (parent t) (rooted t g) (λ v. 1 ≤ v → 1 ≤ start t v) (λ l. absurd (omega arith)) step
    where
      first : length (own t 0) ≡ 1
      first = own_length t 0 ∙ bit-T (nat_lt (label t 0) (tips t))
          ((lt_iff (label t 0) (tips t)).1 (omega (arith, g.root_label, g.tips_range)))

      after : (p : ℕ) → (1 ≤ p → 1 ≤ start t p) → 1 ≤ start t p + length (own t p)
      after zero h = omega (arith, first)
      after (suc p) h = omega (arith, h (omega arith))

      step : (w : ℕ) → (1 ≤ parent t (suc w) → 1 ≤ start t (parent t (suc w))) → 1 ≤ suc w → 1 ≤ start t (suc w)
      step w h l = omega (arith, start-suc t g w, after (parent t (suc w)) h)

  module _ (i x : ℕ) (li : i < nodes t) (lx : x < tips t) where
    -- the cells of the node's part are those of the walk from its start on
    part_cell : (k : ℕ) → k < below t i → word (part t i (walk t)) k ≡ word (walk t) (start t i + k)
    unfolding part
    part_cell k l = get_or-take (below t i) (drop (start t i) (walk t)) k 0 l ∙ get_or-drop (start t i) (walk t) k 0

    -- the place of x
    place : (start t (node_of t x) < tips t) × (word (walk t) (start t (node_of t x)) ≡ x)
    place =
        let n = node_at t g x lx in
        let w = walk_at t g (node_of t x) n.0 (omega (arith, n.1)) in
        (w.0, w.1 ∙ n.1)

    -- .. and no other place is
    only_place : (k : ℕ) → k < tips t → word (walk t) k ≡ x → k ≡ start t (node_of t x)
    unfolding standing
    only_place k l e =
        let u = (count_once (tips t) (λ j. nat_eq (word (walk t) j) x)).0 (walk_once t g x lx) in
        u.3 k l ((eq_iff (word (walk t) k) x).1 e)
        ∙ sym (u.3 (start t (node_of t x)) place.0 ((eq_iff (word (walk t) (start t (node_of t x))) x).1 place.1))

    -- how often x stands in the part
    held : bit (beyond t i x) ≡ standing (below t i) (word (part t i (walk t))) x
    held = sym (part_holds t g i x li lx)
        ∙ ap (λ (k : ℕ). standing k (word (part t i (walk t))) x) (part_length t g i li (walk t) (omega (arith, walk-length t g)))

    -- x lies beyond node i exactly where its place lies in the span of node i
    pub beyond_span : (p : ℕ) → p ≡ start t (node_of t x)
        → bit (in_span p (start t i) (start t i + below t i)) ≡ bit (beyond t i x)
    unfolding standing
    beyond_span p e = elim (T_dec (in_span p (start t i) (start t i + below t i))) [
      | inl y ↦ inside ((in_span-iff p (start t i) (start t i + below t i)).0 y) y
      | inr n ↦ bit_no (in_span p (start t i) (start t i + below t i)) (T_not (in_span p (start t i) (start t i + below t i)) n)
          ∙ sym (held ∙ (count_none (below t i) (λ j. nat_eq (word (part t i (walk t)) j) x)).1 (λ k l h.
          T_not (in_span p (start t i) (start t i + below t i)) n (outside k l ((eq_iff (word (part t i (walk t)) k) x).0 h))))
    ]
      where
        inside : (start t i ≤ p) × (p < start t i + below t i) → T (in_span p (start t i) (start t i + below t i))
            → bit (in_span p (start t i) (start t i + below t i)) ≡ bit (beyond t i x)
        inside h y =
            let k = p - start t i in
            let q : start t i + k ≡ p = omega (arith, h) in
            let m = (count-pos (below t i) (λ j. nat_eq (word (part t i (walk t)) j) x)).1 (
              k,
              omega (arith, h),
              (eq_iff (word (part t i (walk t)) k) x).1
                  (part_cell k (omega (arith, h)) ∙ ap (word (walk t)) (q ∙ e) ∙ place.1),
            ) in
            omega (arith, bit-T (in_span p (start t i) (start t i + below t i)) y, held, m, bit_le (beyond t i x))

        outside : (k : ℕ) → k < below t i → word (part t i (walk t)) k ≡ x → T (in_span p (start t i) (start t i + below t i))
        outside k l h =
            let o = only_place (start t i + k) (omega (arith, part_fits t g i li)) (sym (part_cell k l) ∙ h) in
            (in_span-iff p (start t i) (start t i + below t i)).1 (omega (arith, o, e), omega (arith, o, e, l))

  -- a label but 0 is not that of node 0
  pub node_after : (x : ℕ) → x < tips t → x ≢ 0 → 1 ≤ node_of t x
  node_after x l d = positive (node_of t x) (λ z. d (sym (node_at t g x l).1 ∙ ap (label t) z ∙ g.root_label))
    where
      positive : (k : ℕ) → k ≢ 0 → 1 ≤ k
      positive k d = omega arith

  -- the same of listed spans: a label but 0 lies beyond node j exactly where its node begins in the span of node j
  module _ (labelled begin end : List ℕ) (s : SpansOf t labelled begin end) where
    pub listed_span : (x j : ℕ) → x < tips t → x ≢ 0 → 1 ≤ j → j < nodes t
        → bit (in_span (word begin (word labelled x)) (word begin j) (word end j)) ≡ bit (beyond t j x)
    listed_span x j lx d oj lj =
        let o = node_after x lx d in
        rw (s.node x lx, s.begins (node_of t x) (node_at t g x lx).0, s.begins j lj, s.ends j lj) (
        shifted (start t (node_of t x)) (start t j) (start t j + below t j)
        (start_after (node_of t x) o) (start_after j oj) (omega (arith, start_after j oj))
        ∙ beyond_span j x lj lx (start t (node_of t x)) refl)
      where
        shifted : (p b e : ℕ) → 1 ≤ p → 1 ≤ b → 1 ≤ e → bit (in_span (p - 1) (b - 1) (e - 1)) ≡ bit (in_span p b e)
        shifted p b e h k m = elim (T_dec (in_span p b e)) [
          | inl y ↦ let r = (in_span-iff p b e).0 y in
              bit-T (in_span (p - 1) (b - 1) (e - 1))
              ((in_span-iff (p - 1) (b - 1) (e - 1)).1 (omega (arith, r), omega (arith, r)))
              ∙ sym (bit-T (in_span p b e) y)
          | inr n ↦ bit_no (in_span (p - 1) (b - 1) (e - 1)) (λ y.
              let r = (in_span-iff (p - 1) (b - 1) (e - 1)).0 y in
              T_not (in_span p b e) n ((in_span-iff p b e).1 (omega (arith, r), omega (arith, r))))
              ∙ sym (bit_no (in_span p b e) (T_not (in_span p b e) n))
        ]
