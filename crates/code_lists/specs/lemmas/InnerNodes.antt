-- The nodes with three codes or more into them, listed: only they add to the claim sums.
-- Assumes nothing.
use Rattle.std.specs.Prelude.{◌≡◌, refl, List, ℕ, suc, ◌+◌, ◌*◌, ◌-◌, ◌≤◌, ◌<◌, length, set}
use Rattle.std.proofs.Math.Path.{sym}
use Rattle.std.proofs.Common.{◌∙◌, ap, lt_of_not-le, arith, length-set, get_or-set_same, get_or-set_other}
use Rattle.std.proofs.Math.Decide.{ℕ_discrete, dec_lt}
use Rattle.sums.specs.Sum.{sum}
use Rattle.sums.specs.theorems.SumLaws.{sum_ext, sum_mono, sum_const}
use Rattle.sums.specs.theorems.BitLaws.{bit-T, bit_no, bit_le, is_eq, is_other_lem}
use Rattle.sums.specs.Bits.{is}
use Rattle.sums.specs.theorems.TestLaws.{le_iff}
use Rattle.node_pairs.specs.CodesInto.{degree_of}
use Rattle.node_pairs.specs.theorems.CodesOfANode.{code_before, code_last, degree-suc, lists_codes}
use Rattle.tree_check.specs.Table.{word}
use Rattle.code_lists.specs.ListedCodes.{degree_at, is_inner, inner_count, inner_at, nodes_seen, inner_cell}
use Rattle.code_lists.specs.lemmas.Passed.{if_passed_lem, if_not, lt-true, lt-false, le-true, le-false}

-- a list begins with those of the nodes before k that have three codes or more into them
pub record InnerNodes (ps list : List ℕ) (count k : ℕ) : Type 0 where
  pub few : count ≤ k
  pub before : (i : ℕ) → i < count → word list i < k
  -- what only such nodes add, they add
  pub all : (f : ℕ → ℕ) → ((v : ℕ) → v < k → degree_at ps v < 3 → f v ≡ 0)
      → sum count (λ i. f (word list i)) ≡ sum k f

-- the nodes before k are listed in cells that were `old`
pub record InnerIn (starts old : List ℕ) (k : ℕ) (list : List ℕ) (count : ℕ) : Type 0 where
  pub long : length list ≡ length old
  pub many : count ≡ inner_count starts k
  pub at : (i : ℕ) → i < count → word list i ≡ inner_at starts k i
  pub later : (i : ℕ) → count ≤ i → word list i ≡ word old i

-- ---- one node after another

pub inner_yes : (starts : List ℕ) (v : ℕ) → 3 ≤ word starts (suc v) - word starts v → is_inner starts v ≡ 1
unfolding is_inner
inner_yes starts v l = bit-T _ ((le_iff 3 (word starts (suc v) - word starts v)).1 l)

pub inner_no : (starts : List ℕ) (v : ℕ) → word starts (suc v) - word starts v < 3 → is_inner starts v ≡ 0
unfolding is_inner
inner_no starts v l = bit_no _ (λ t. omega (arith, (le_iff 3 (word starts (suc v) - word starts v)).0 t))

-- they are no more than the nodes
pub inner_le : (starts : List ℕ) (k : ℕ) → inner_count starts k ≤ k
unfolding degree_of
inner_le starts k = omega (
  arith,
  sum_mono k (λ e. is 1 (is_inner starts e)) (λ e. 1) (λ e l. bit_le _),
  sum_const k 1,
)

pub no_inner : (starts old : List ℕ) → InnerIn starts old 0 old 0
no_inner starts old = record {
  long = refl;
  many = unfold degree_of sum in refl;
  at = λ i l. absurd (omega arith);
  later = λ i l. refl;
}

module _ (starts old : List ℕ) (k : ℕ) (list : List ℕ) (count : ℕ) (h : InnerIn starts old k list count) where
  -- the listed nodes keep their places
  kept : (i : ℕ) → i < count → word list i ≡ inner_at starts (suc k) i
  kept i l = h.at i l ∙ sym (code_before (is_inner starts) 1 k i (omega (arith, h.many)))

  -- a node with fewer codes into it
  pub inner_skip : word starts (suc k) - word starts k < 3 → InnerIn starts old (suc k) list count
  inner_skip m = record {
    long = h.long;
    many = omega (
      arith,
      h.many,
      degree-suc (is_inner starts) 1 k,
      is_other_lem 1 (is_inner starts k) (λ e. omega (arith, e, inner_no starts k m)),
    );
    at = kept;
    later = h.later;
  }

  -- .. and one with three or more
  pub inner_next : 3 ≤ word starts (suc k) - word starts k → count < length list
      → InnerIn starts old (suc k) (set list count k) (count + 1)
  inner_next m room = record {
    long = length-set list count k ∙ h.long;
    many = omega (arith, h.many, degree-suc (is_inner starts) 1 k, is_one);
    at = λ i l. elim (ℕ_discrete i count) [
      | yes e ↦ ap (word (set list count k)) e ∙ last
          ∙ sym (ap (inner_at starts (suc k)) (e ∙ h.many) ∙ code_last (is_inner starts) 1 k is_one)
      | no d ↦ get_or-set_other list count i k 0 d ∙ kept i (omega arith)
    ];
    later = λ i l. get_or-set_other list count i k 0 (λ e. omega arith) ∙ h.later i (omega arith);
  }
    where
      is_one : is 1 (is_inner starts k) ≡ 1
      is_one = is_eq 1 (is_inner starts k) (sym (inner_yes starts k m))

      last : word (set list count k) count ≡ k
      last = get_or-set_same list count k 0 room

-- ---- what the contract says

seen_all : (starts old : List ℕ) → length starts ≤ length old → nodes_seen starts old ≡ length starts - 1
unfolding nodes_seen
seen_all starts old l = if_passed_lem _ _ _ (le-true (length starts) (length old) l)

seen_none : (starts old : List ℕ) → length old < length starts → nodes_seen starts old ≡ 0
unfolding nodes_seen
seen_none starts old l = if_not _ _ _ (le-false (length starts) (length old) l)

-- a cell of the list, and one after it
cell_in : (starts old : List ℕ) (i : ℕ) → i < inner_count starts (nodes_seen starts old)
    → inner_cell starts old i ≡ inner_at starts (nodes_seen starts old) i
unfolding inner_cell
cell_in starts old i l = if_passed_lem _ _ _ (lt-true i (inner_count starts (nodes_seen starts old)) l)

cell_after : (starts old : List ℕ) (i : ℕ) → inner_count starts (nodes_seen starts old) ≤ i
    → inner_cell starts old i ≡ word old i
unfolding inner_cell
cell_after starts old i l = if_not _ _ _ (lt-false i (inner_count starts (nodes_seen starts old)) l)

-- all nodes are listed
pub inner_cells : (starts old : List ℕ) (k : ℕ) (list : List ℕ) (count : ℕ) → length starts ≤ length old
    → k ≡ length starts - 1 → InnerIn starts old k list count
    → (count ≡ inner_count starts (nodes_seen starts old)) × ((i : ℕ) → word list i ≡ inner_cell starts old i)
inner_cells starts old k list count l e h =
    let s : nodes_seen starts old ≡ k = seen_all starts old l ∙ sym e in
    let m : count ≡ inner_count starts (nodes_seen starts old) = h.many ∙ ap (inner_count starts) (sym s) in (
      m,
      λ i. elim (dec_lt i count) [
        | yes d ↦ h.at i d ∙ ap (λ (z : ℕ). inner_at starts z i) (sym s) ∙ sym (cell_in starts old i (omega arith))
        | no d ↦ h.later i (omega (arith, lt_of_not-le d)) ∙ sym (cell_after starts old i (omega (arith, lt_of_not-le d)))
      ],
    )

-- nothing is listed
pub inner_none : (starts old : List ℕ) → length old < length starts
    → (0 ≡ inner_count starts (nodes_seen starts old)) × ((i : ℕ) → word old i ≡ inner_cell starts old i)
inner_none starts old l =
    let m : inner_count starts (nodes_seen starts old) ≡ 0 =
    ap (inner_count starts) (seen_none starts old l) ∙ (unfold degree_of sum in refl) in
    (sym m, λ i. sym (cell_after starts old i (omega arith)))

-- ---- and what it tells of a tree whose codes begin at the starts

module _ (ps starts old list : List ℕ) (count : ℕ) (long : length starts ≡ length ps + 1) (room : length starts ≤ length old)
    (codes : (v : ℕ) → v < length ps → word starts (suc v) - word starts v ≡ degree_at ps v)
    (many : count ≡ inner_count starts (nodes_seen starts old))
    (cells : (i : ℕ) → word list i ≡ inner_cell starts old i) where
  seen : nodes_seen starts old ≡ length ps
  seen = seen_all starts old room ∙ omega arith

  count_is : count ≡ inner_count starts (length ps)
  count_is = many ∙ ap (inner_count starts) seen

  node_is : (i : ℕ) → i < count → word list i ≡ inner_at starts (length ps) i
  node_is i l = cells i ∙ cell_in starts old i (omega arith) ∙ ap (λ (z : ℕ). inner_at starts z i) seen

  adds : (f : ℕ → ℕ) → ((v : ℕ) → v < length ps → degree_at ps v < 3 → f v ≡ 0)
      → (v : ℕ) → v < length ps → is 1 (is_inner starts v) * f v ≡ f v
  adds f z v l = elim (dec_lt (degree_at ps v) 3) [
    | yes d ↦ rw (z v l d) (omega arith)
    | no d ↦ rw (is_eq 1 (is_inner starts v) (sym (inner_yes starts v (omega (arith, codes v l, lt_of_not-le d)))))
        (omega arith)
  ]

  pub inner_nodes : InnerNodes ps list count (length ps)
  inner_nodes = record {
    few = omega (arith, count_is, inner_le starts (length ps));
    before = λ i l. omega (
      arith,
      node_is i l,
      (lists_codes (length ps) (is_inner starts) 1).inside i (omega (arith, count_is)),
    );
    all = λ f z.
        sum_ext count (λ i. f (word list i)) (λ i. f (inner_at starts (length ps) i)) (λ i l. ap f (node_is i l))
        ∙ ap (λ (c : ℕ). sum c (λ i. f (inner_at starts (length ps) i))) count_is
        ∙ sym ((lists_codes (length ps) (is_inner starts) 1).total f)
        ∙ sum_ext (length ps) (λ v. is 1 (is_inner starts v) * f v) f (adds f z);
  }
