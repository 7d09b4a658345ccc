-- The lists of spans as code writes them: the node of each label, and the places of each node's labels.
-- Assumes nothing.
use Rattle.std.specs.Prelude.{◌≡◌, ℕ, ◌+◌, ◌-◌, ◌%◌, ◌<◌, ◌≤◌, ◌≢◌, List, [], length, slice_set, refl, Err}
use Rattle.std.proofs.Math.Path.{sym, ap₂}
use Rattle.std.proofs.Common.{◌∙◌, ap, mod-eq_of_lt, add-one, arith, eq-eqb, ne_eqb, lt-ltb, le-ltb, length-set, get_or-set_same, get_or-set_other}
use Rattle.std.proofs.Math.Decide.{ℕ_discrete}
use Rattle.table_words.specs.Sizes.{tips_most}
use Rattle.sums.specs.Lists.{in_front}
use Rattle.sums.specs.theorems.ListLaws.{in_front_is, in_front_at}
use Rattle.tree_check.specs.Table.{Table, word, tips, nodes, node_below, node_of}
use Rattle.tree_check.specs.IsTree.{IsTree}
use Rattle.tree_check.specs.lemmas.TableParts.{table_of, tips_of_lem, nodes_of_lem}
use Rattle.tree_check.specs.Refusals.{refusal}
use Rattle.tree_check.specs.theorems.RefusalLaws.{refusal_none, refusal_here, refusal_next, if_accepted_lem, if_refused}
use Rattle.tree_check.specs.declared.refusals.Refusal.{Refusal}
use Rattle.tree_check.specs.Numbers.{refusal_number, refusal_named, answer_by}
use Rattle.tree_check.specs.TreeOrder.{tree_order}
use Rattle.walks.specs.Spans.{lists_order, spans_order, span_begin, span_end, filled}
use Rattle.walks.specs.theorems.NodeLabels.{node_at}
use Rattle.walks.specs.theorems.SpanLaws.{SpansOf}
use Rattle.walks.specs.theorems.WalkOrderLaws.{rules_passed, tree_refused, tree_accepted, lists_check, spans_check}
use Rattle.walks.specs.lemmas.TreeArrays.{TreeArrays, label_is, few_tips}
use Rattle.walks.specs.lemmas.Positions.{Sizes, Ends, part_bounds}

-- ---- the node of each label

-- in the cell of each of n labels that stands among the first k nodes the last node that has it; the others are as they were
pub record NodesListed (ls : List ℕ) (n k : ℕ) (old new : List ℕ) : Type 0 where
  pub long : length new ≡ length old
  pub at : (x v : ℕ) → x < n → v < k → word ls v ≡ x → word new x ≡ node_below (word ls) k x
  pub later : (c : ℕ) → n ≤ c → word new c ≡ word old c

pub listed_none : (ls : List ℕ) (n : ℕ) (old : List ℕ) → NodesListed ls n 0 old old
listed_none ls n old = record { long = refl; at = λ x v l m. absurd (omega arith); later = λ c l. refl }

below_hit : (lab : ℕ → ℕ) (k x : ℕ) → lab k ≡ x → node_below lab (k + 1) x ≡ k
unfolding node_below
below_hit lab k x e = rw (add-one, eq-eqb _ _ e, node_below)

below_other : (lab : ℕ → ℕ) (k x : ℕ) → (lab k ≢ x) → node_below lab (k + 1) x ≡ node_below lab k x
unfolding node_below
below_other lab k x d = rw (add-one, ne_eqb _ _ d, node_below)

module _ (ls : List ℕ) (n k : ℕ) (old new : List ℕ) (h : NodesListed ls n k old new) where
  -- node k has another label
  other : (x v : ℕ) → x < n → v < k + 1 → word ls v ≡ x → word ls k ≢ x → word new x ≡ node_below (word ls) (k + 1) x
  other x v l m e d = h.at x v l (earlier v m (λ q. d (ap (word ls) (sym q) ∙ e))) e ∙ sym (below_other (word ls) k x d)
    where
      earlier : (v : ℕ) → v < k + 1 → v ≢ k → v < k
      earlier v m q = omega arith

  -- node k has the label y
  pub listed_next : (y w : ℕ) → y ≡ word ls k → y < n → n ≤ length old → w ≡ k % 65536 → k < 65536
      → NodesListed ls n (k + 1) old (slice_set new y w)
  listed_next y w e l room ew low = record {
    long = length-set new y w ∙ h.long;
    at = λ x v m o q. elim (ℕ_discrete x y) [
      | yes d ↦ rw d (get_or-set_same new y w 0 (omega (arith, h.long))
          ∙ ew ∙ mod-eq_of_lt low ∙ sym (below_hit (word ls) k y (sym e)))
      | no d ↦ get_or-set_other new y x w 0 d ∙ other x v m o q (λ z. d (sym z ∙ sym e))
    ];
    later = λ c m. get_or-set_other new y c w 0 (λ q. omega arith) ∙ h.later c m;
  }

  -- node k has none of the n labels
  pub listed_skip : n ≤ word ls k → NodesListed ls n (k + 1) old new
  listed_skip l = record {
    long = h.long;
    at = λ x v m o q. other x v m o q (λ z. omega arith);
    later = h.later;
  }

-- every label of a tree stands at some node
pub listed-all : (n : ℕ) (ps ls : List ℕ) → TreeArrays n ps ls → (old new : List ℕ) → n ≤ length old
    → NodesListed ls n (length ls) old new → new ≡ in_front n (node_of (table_of n ps ls)) old
unfolding node_of
listed-all n ps ls a old new l h =
    in_front_is n (node_of (table_of n ps ls)) old new h.long l
    (λ x m.
    let r = node_at (table_of n ps ls) a.tree x (omega (arith, tips_of_lem n ps ls)) in
    h.at x (node_of (table_of n ps ls) x) m (omega (arith, r.0, nodes_of_lem n ps ls, a.same))
    (ap (λ (f : ℕ → ℕ). f (node_of (table_of n ps ls) x)) (sym (label_is n ps ls a)) ∙ r.1)
    ∙ ap₂ (λ (f : ℕ → ℕ) (k : ℕ). node_below f k x) (sym (label_is n ps ls a)) (a.same ∙ sym (nodes_of_lem n ps ls)))
    h.later

-- ---- the places of a node's labels

module _ (n : ℕ) (ps ls : List ℕ) (a : TreeArrays n ps ls) (size end : List ℕ)
    (z : Sizes (table_of n ps ls) size) (e : Ends (table_of n ps ls) end) (v : ℕ) (l : v < length ps) where
  node : v < nodes (table_of n ps ls)
  node = omega (arith, nodes_of_lem n ps ls)

  pub size_fits : word size v ≤ word end v
  size_fits = (part_bounds n ps ls a size end z e v l).0

  -- each fits a byte
  low : word end v ≤ tips_most
  low = omega (arith, part_bounds n ps ls a size end z e v l, few_tips n ps ls a)

  pub begin_is : (d b : ℕ) → d ≡ word end v - word size v - 1 → b ≡ d % 256 → b ≡ span_begin (table_of n ps ls) v
  begin_is d b ed eb = eb ∙ mod-eq_of_lt (omega (arith, low)) ∙ omega (arith, ed, z.sizes v node, e.ends v node)

  pub end_is : (d b : ℕ) → d ≡ word end v - 1 → b ≡ d % 256 → b ≡ span_end (table_of n ps ls) v
  end_is d b ed eb = eb ∙ mod-eq_of_lt (omega (arith, low)) ∙ omega (arith, ed, e.ends v node)

-- ---- the number

module _ (labelled begins ends n m : ℕ) where
  pub rooms_few : labelled < n → 12 ≡ refusal (lists_order labelled begins ends n m)
  rooms_few l = sym (refusal_here 12 _ _ (lt-ltb labelled n l))

  module _ (l : n ≤ labelled) where
    pub begins_few : begins < m → 12 ≡ refusal (lists_order labelled begins ends n m)
    begins_few b = sym (refusal_next 12 _ _ (le-ltb labelled n l) ∙ refusal_here 12 _ _ (lt-ltb begins m b))

    module _ (b : m ≤ begins) where
      pub ends_few : ends < m → 12 ≡ refusal (lists_order labelled begins ends n m)
      ends_few e = sym (refusal_next 12 _ _ (le-ltb labelled n l) ∙ refusal_next 12 _ _ (le-ltb begins m b)
          ∙ refusal_here 12 _ _ (lt-ltb ends m e))

      pub rooms_enough : m ≤ ends → 0 ≡ refusal (lists_order labelled begins ends n m)
      rooms_enough e = sym (refusal_next 12 _ _ (le-ltb labelled n l) ∙ refusal_next 12 _ _ (le-ltb begins m b)
          ∙ refusal_next 12 _ [] (le-ltb ends m e) ∙ refusal_none)

-- .. as code tests it
pub lists_passed : (labelled begins ends n m : ℕ) (r : Refusal) (number : ℕ)
    → Err r ≡ answer_by (refusal (lists_order labelled begins ends n m)) (tt {0})
    → number ≡ refusal_number r → (refusal (lists_order labelled begins ends n m) ≡ number) × (number ≢ 0)
lists_passed labelled begins ends n m =
    rules_passed (lists_order labelled begins ends n m) (unfold refusal_named in (refl, (refl, (refl, tt))))

-- ---- the number, and the lists afterwards

abbrev pub Spanned : Table → List ℕ → List ℕ → List ℕ → ℕ → List ℕ → List ℕ → List ℕ → Type 0
Spanned t labelled begin end k nodes-now begin-now end-now =
    (k ≡ refusal (spans_order t (length labelled) (length begin) (length end)))
    × (nodes-now ≡ filled k (tips t) (node_of t) labelled)
    × (begin-now ≡ filled k (nodes t) (span_begin t) begin)
    × (end-now ≡ filled k (nodes t) (span_end t) end)

module _ (t : Table) (labelled begin end : List ℕ) (k : ℕ) where
  refused : k ≢ 0 → k ≡ refusal (spans_order t (length labelled) (length begin) (length end))
      → Spanned t labelled begin end k labelled begin end
  refused d e = (e, sym (if_refused k _ _ d), sym (if_refused k _ _ d), sym (if_refused k _ _ d))

  pub spans_tree_refused : refusal (tree_order t) ≡ k → k ≢ 0 → Spanned t labelled begin end k labelled begin end
  unfolding spans_order
  spans_tree_refused e d = refused d (sym (tree_refused t _ k e d))

  module _ (g : IsTree t) (n m : ℕ) (en : n ≡ tips t) (em : m ≡ nodes t)
      (e : k ≡ refusal (lists_order (length labelled) (length begin) (length end) n m)) where
    number : k ≡ refusal (spans_order t (length labelled) (length begin) (length end))
    unfolding spans_order
    number = e
        ∙ ap₂ (λ (x y : ℕ). refusal (lists_order (length labelled) (length begin) (length end) x y)) en em
        ∙ sym (tree_accepted t _ g)

    pub spans_too_short : k ≢ 0 → Spanned t labelled begin end k labelled begin end
    spans_too_short d = refused d number

    pub spans_room : k ≡ 0 → (n ≤ length labelled) × (m ≤ length begin) × (m ≤ length end)
    spans_room z = (lists_check (length labelled) (length begin) (length end) n m).0 (sym e ∙ z)

    pub spans_filled : k ≡ 0 → (nodes-now begin-now end-now : List ℕ) → nodes-now ≡ in_front (tips t) (node_of t) labelled
        → begin-now ≡ in_front (nodes t) (span_begin t) begin → end-now ≡ in_front (nodes t) (span_end t) end
        → Spanned t labelled begin end k nodes-now begin-now end-now
    spans_filled z nodes-now begin-now end-now a b c = (
      number,
      a ∙ sym (if_accepted_lem k _ _ z),
      b ∙ sym (if_accepted_lem k _ _ z),
      c ∙ sym (if_accepted_lem k _ _ z),
    )

-- .. of a tree table, with lists that are long enough
pub spans_listed : (t : Table) (labelled begin end : List ℕ) → IsTree t → tips t ≤ length labelled → nodes t ≤ length begin
    → nodes t ≤ length end → (k : ℕ) (nodes-now begin-now end-now : List ℕ)
    → Spanned t labelled begin end k nodes-now begin-now end-now
    → SpansOf t nodes-now begin-now end-now
spans_listed t labelled begin end g la lb le k nodes-now begin-now end-now h =
    let z = h.0 ∙ (spans_check t (length labelled) (length begin) (length end)).1 (g, la, lb, le) in
    record {
      node = λ x l. ap (λ (c : List ℕ). word c x) (h.1 ∙ if_accepted_lem k _ _ z) ∙ in_front_at _ _ _ x l;
      begins = λ v l. ap (λ (c : List ℕ). word c v) (h.2 ∙ if_accepted_lem k _ _ z) ∙ in_front_at _ _ _ v l;
      ends = λ v l. ap (λ (c : List ℕ). word c v) (h.3 ∙ if_accepted_lem k _ _ z) ∙ in_front_at _ _ _ v l;
    }
