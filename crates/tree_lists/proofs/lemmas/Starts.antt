-- Where the tables of a list start, listed, and the tables as they are lent.
-- Assumes nothing.
use Rattle.std.specs.Prelude.{◌≡◌, Bool, true, false, not, ◌&&◌, ◌||◌, ◌≢◌, List, ℕ, ◌+◌, ◌-◌, ◌≤◌, ◌<◌, max, eqb, leb, length, take, drop, set, replicate}
use Rattle.std.proofs.Math.Path.{refl}
use Rattle.std.proofs.Common.{sym, ◌∙◌, ap, add-one, eq-eqb, ne_eqb, le-leb, get_or-set_same}
use Rattle.std.proofs.Math.Decide.{dec_lt, ℕ_discrete}
use native.Mathlib.Omega.{arith}
use Rattle.std.proofs.lemmas.Bool.{lt-leb}
use Rattle.std.proofs.Math.ListN.{length-set, get_or-eq_default}
use Rattle.std.proofs.lemmas.List.{length-replicate, get_or-replicate}
use Rattle.std.proofs.Math.Seq.{get_or-set_other}
use Rattle.sums.specs.Lists.{in_front}
use Rattle.sums.specs.theorems.ListLaws.{in_front-length, in_front_at, in_front_later, in_front_is}
use Rattle.table_words.specs.Cutting.{table_length}
use Rattle.tree_check.specs.Table.{Table, word, tips, nodes}
use Rattle.tree_check.specs.Refusals.{refusal}
use Rattle.tree_check.specs.IsTree.{IsTree}
use Rattle.tree_check.specs.TreeOrder.{tree_order}
use Rattle.tree_check.specs.theorems.TreeCheck.{tree_check}
use Rattle.tree_check.specs.lemmas.TableParts.{rest, rest-drop}
use Rattle.tree_lists.specs.TreeLists.{trees_most, start_of, tree_at, wrong_tree, edges_at, largest}
use Rattle.tree_lists.proofs.theorems.ListLaws.{next_start, start_inside, start_rises, tree_part}
use Rattle.tree_lists.specs.lemmas.Starts.{TableStarts}

-- ---- starts

abbrev blank : List ℕ
blank = replicate 17 0

length_blank : length blank ≡ 17
length_blank = length-replicate {A = ℕ} 17 0

zeros : (k a : ℕ) → word (replicate k 0) a ≡ 0
zeros k a = elim (dec_lt a k) [
  | yes l ↦ get_or-replicate k a 0 0 l
  | no n ↦ get_or-eq_default {A = ℕ} (replicate k 0) 0 {n = a} (omega (arith, length-replicate {A = ℕ} k 0))
]

module _ (list : List ℕ) where
  pub starts_first : TableStarts list 0 (set blank 0 1)
  unfolding start_of
  starts_first = record {
    long = length-set blank 0 1 ∙ length_blank;
    at = λ j l. let e : j ≡ 0 = omega arith in
        rw e (get_or-set_same blank 0 1 0 (omega (arith, length_blank)));
    later = λ j l. get_or-set_other blank 0 j 1 0 (λ z. omega arith) ∙ zeros 17 j;
  }

  pub starts_next : (i : ℕ) (cells : List ℕ) (x : ℕ) → i < 16 → x ≡ start_of list (i + 1) → TableStarts list i cells
      → TableStarts list (i + 1) (set cells (i + 1) x)
  starts_next i cells x l e h = record {
    long = length-set cells (i + 1) x ∙ h.long;
    at = λ j m. elim (ℕ_discrete j (i + 1)) [
      | yes d ↦ rw d (get_or-set_same cells (i + 1) x 0 (omega (arith, h.long)) ∙ e)
      | no d ↦ get_or-set_other cells (i + 1) j x 0 d ∙ h.at j (omega arith)
    ];
    later = λ j m. get_or-set_other cells (i + 1) j x 0 (λ z. omega arith) ∙ h.later j (omega arith);
  }

  -- `&list[at..]` is what remains, and its first table ends where the next one starts
  pub start_after : (i at x : ℕ) → at ≡ start_of list i → x ≡ table_length (rest at list) → at + x ≡ start_of list (i + 1)
  start_after i at x e f =
      let g : table_length (rest at list) ≡ table_length (drop (start_of list i) list) =
      ap table_length (rest-drop at list) ∙ ap (λ (j : ℕ). table_length (drop j list)) e in
      omega (arith, e, f, g, next_start list i) ∙ ap (start_of list) (sym (add-one i))

  pub first-start : 1 ≡ start_of list 0
  unfolding start_of
  first-start = refl

  -- the whole array, as it is told
  module _ (k : ℕ) (lk : k ≤ trees_most) (cells : List ℕ) where
    enough : k + 1 ≤ length blank
    enough = omega (arith, length_blank)

    pub starts_told : TableStarts list k cells → cells ≡ in_front (k + 1) (start_of list) blank
    starts_told h = in_front_is (k + 1) (start_of list) blank cells (h.long ∙ sym (length_blank)) enough
        (λ c l. h.at c (omega arith)) (λ c l. h.later c (omega arith) ∙ sym (zeros 17 c))

    pub starts_known : cells ≡ in_front (k + 1) (start_of list) blank → TableStarts list k cells
    starts_known e = record {
      long = ap length e ∙ in_front-length (k + 1) (start_of list) blank enough ∙ length_blank;
      at = λ j l. ap (λ (x : List ℕ). word x j) e ∙ in_front_at (k + 1) (start_of list) blank j (omega arith);
      later = λ j l. ap (λ (x : List ℕ). word x j) e ∙ in_front_later (k + 1) (start_of list) blank j (omega arith) ∙ zeros 17 j;
    }

-- ---- a table as it is lent

module _ (list : List ℕ) (l : 1 ≤ length list) (k : ℕ) (cells : List ℕ) (h : TableStarts list k cells) (i : ℕ) (m : i < k) where
  pub from_to : word cells i ≤ word cells (i + 1)
  from_to = omega (arith, h.at i (omega arith), h.at (i + 1) (omega arith), start_rises list i, ap (start_of list) (add-one i))

  pub to_end : word cells (i + 1) ≤ length list
  to_end = omega (arith, h.at (i + 1) (omega arith), start_inside list l (i + 1))

  pub lent_tree : take (word cells (i + 1) - word cells i) (drop (word cells i) list) ≡ tree_at list i
  lent_tree = tree_part list i (word cells i) (word cells (i + 1)) (h.at i (omega arith))
      (h.at (i + 1) (omega arith) ∙ ap (start_of list) (add-one i))

-- ---- as code finds it

pub too_few : (k : ℕ) → k < 2 → false ≡ (leb 2 k && leb k trees_most)
too_few k l = rw (lt-leb 2 k l) refl

pub few_enough : (k : ℕ) → 2 ≤ k → leb k 16 ≡ (leb 2 k && leb k trees_most)
few_enough k l = rw (le-leb 2 k l) refl

pub refused_wrong : (t : Table) (n k : ℕ) → refusal (tree_order t) ≡ k → k ≢ 0
    → true ≡ (not (eqb (refusal (tree_order t)) 0) || not (eqb (tips t) n))
refused_wrong t n k e d = rw (ne_eqb (refusal (tree_order t)) 0 (λ z. d (sym e ∙ z))) refl

pub tips_wrong : (t : Table) → IsTree t → (n m : ℕ) → m ≡ tips t
    → not (eqb m n) ≡ (not (eqb (refusal (tree_order t)) 0) || not (eqb (tips t) n))
tips_wrong t g n m e = rw (eq-eqb (refusal (tree_order t)) 0 ((tree_check t).1 g), e) refl

pub told_wrong : (list : List ℕ) (n i : ℕ) (t : Table) → t ≡ tree_at list i → (b : Bool)
    → b ≡ (not (eqb (refusal (tree_order t)) 0) || not (eqb (tips t) n)) → wrong_tree list n i ≡ b
unfolding wrong_tree
told_wrong list n i t e b h =
    sym (h ∙ ap (λ (u : Table). not (eqb (refusal (tree_order u)) 0) || not (eqb (tips u) n)) e)

pub told_edges : (list : List ℕ) (i : ℕ) (t : Table) → t ≡ tree_at list i → (x : ℕ) → x ≡ nodes t - 1 → x ≡ edges_at list i
unfolding edges_at
told_edges list i t e x h = h ∙ ap (λ (u : Table). nodes u - 1) e

-- ---- the largest, one more at a time

pub largest_none : (f : ℕ → ℕ) → 0 ≡ largest 0 f
unfolding largest
largest_none f = refl

pub largest_more : (f : ℕ → ℕ) (i most x : ℕ) → most ≡ largest i f → x ≡ f i → most < x → x ≡ largest (i + 1) f
unfolding largest
largest_more f i most x e q l = top ∙ ap (λ (k : ℕ). largest k f) (sym (add-one i))
  where
    top : x ≡ max (largest i f) (f i)
    top = omega (arith, e, q, l)

pub largest_same : (f : ℕ → ℕ) (i most x : ℕ) → most ≡ largest i f → x ≡ f i → x ≤ most → most ≡ largest (i + 1) f
unfolding largest
largest_same f i most x e q l = top ∙ ap (λ (k : ℕ). largest k f) (sym (add-one i))
  where
    top : most ≡ max (largest i f) (f i)
    top = omega (arith, e, q, l)
