-- The codes into each node of a tree, and their lists, from its parent words.
-- Assumes nothing.
use Rattle.std.specs.Prelude.{◌≡◌, List, ℕ, zero, suc, ◌+◌, ◌*◌, ◌-◌, ◌/◌, ◌≤◌, ◌<◌, length}
use Rattle.std.proofs.Common.{sym, ◌∙◌, ap, inl, inr, eq-or-lt_of_le}
use native.Mathlib.Omega.{arith}
use Rattle.table_words.specs.Sizes.{nodes_most}
use Rattle.table_words.specs.lemmas.Rooms.{code_room, start_room}
use Rattle.sums.specs.Sum.{sum}
use Rattle.sums.specs.theorems.SumLaws.{sum-suc, sum_none, sum-swap, sum_mono, sum_const, sum-ge, sum-part}
use Rattle.sums.specs.Bits.{is}
use Rattle.sums.specs.theorems.BitLaws.{ne, is_eq, is_other_lem, alike}
use Rattle.shapes.specs.Directions.{head}
use Rattle.shapes.proofs.theorems.DirectionLaws.{head_even, head_odd, code_cases}
use Rattle.node_pairs.specs.CodesInto.{degree_of, code_at}
use Rattle.node_pairs.specs.theorems.CodesOfANode.{code_before, code_last, degree-suc, lists_codes}
use Rattle.node_pairs.specs.theorems.CodesOfANode.{distinct}
use Rattle.tree_check.specs.Table.{word}
use Rattle.code_lists.specs.ListedCodes.{codes_of, degree_at, code_into, codes_before}

-- parent words of a tree: every node's parent stands before it
pub record Parents (ps : List ℕ) : Type 0 where
  pub some : 1 ≤ length ps
  pub few : length ps ≤ nodes_most
  pub before : (i : ℕ) → 1 ≤ i → i < length ps → word ps i < i

-- where the codes into each node begin, and where the last of all ends
pub record CodeStarts (ps starts : List ℕ) : Type 0 where
  pub long : length starts ≡ start_room
  pub at : (v : ℕ) → v ≤ length ps → word starts v ≡ codes_before ps v

-- in the list, the edge of each code: code 2j and code 2j + 1 belong to edge j, counted from 0
pub record EdgeList (ps list : List ℕ) : Type 0 where
  pub long : length list ≡ code_room
  pub at : (v i : ℕ) → v < length ps → i < degree_at ps v
      → word list (codes_before ps v + i) ≡ code_into ps v i / 2

-- ---- the codes below a number

-- among more codes, as many or more lead into v
pub degree_mono : (h : ℕ → ℕ) (v j k : ℕ) → j ≤ k → degree_of j h v ≤ degree_of k h v
unfolding degree_of
degree_mono h v j k l = sum-part j k (λ e. is v (h e)) l

-- a code keeps its place among more codes
code_stays : (h : ℕ → ℕ) (v i j k : ℕ) → i < degree_of j h v → j ≤ k → code_at k h v i ≡ code_at j h v i
code_stays h v i j zero l m = ap (λ (z : ℕ). code_at z h v i) (omega arith)
code_stays h v i j (suc k) l m = elim (eq-or-lt_of_le m) [
  | inl e ↦ ap (λ (z : ℕ). code_at z h v i) (sym e)
  | inr n ↦ code_before h v k i (omega (arith, degree_mono h v j k (omega arith)))
      ∙ code_stays h v i j k l (omega arith)
]

-- the codes into v have the head v
pub head_of_code : (K : ℕ) (h : ℕ → ℕ) (v i : ℕ) → i < degree_of K h v → h (code_at K h v i) ≡ v
head_of_code K h v i l = elim (alike v (h (code_at K h v i))) [
  | inl e ↦ sym e.0
  | inr n ↦ absurd (omega (
    arith,
    n.2,
    sum-ge (degree_of K h v) (λ j. ne v (h (code_at K h v j))) i l,
    (lists_codes K h v).total (λ e. ne v (h e)),
    sum_none K (λ e. is v (h e) * ne v (h e)) (λ e m. never v (h e)),
  ))
]
  where
    never : (a b : ℕ) → is a b * ne a b ≡ 0
    never a b = elim (alike a b) [ inl e ↦ rw e.2 (omega arith) | inr n ↦ rw n.1 (omega arith) ]

-- ---- how many there are

-- a number is at most one of the first n
sum_is_le : (n x : ℕ) → sum n (λ u. is u x) ≤ 1
sum_is_le zero x = unfold sum in omega arith
sum_is_le (suc n) x = elim (alike n x) [
  | inl e ↦ omega (
    arith,
    sum-suc n (λ u. is u x),
    e.1,
    sum_none n (λ u. is u x) (λ u l. is_other_lem u x (λ q. omega (arith, e.0))),
  )
  | inr d ↦ omega (arith, sum-suc n (λ u. is u x), d.1, sum_is_le n x)
]

-- every code has one head
pub starts_inside : (ps : List ℕ) (v : ℕ) → codes_before ps v ≤ codes_of ps
unfolding degree_of
starts_inside ps v = omega (
  arith,
  sum-swap v (codes_of ps) (λ u e. is u (head (word ps) e)),
  sum_mono (codes_of ps) (λ e. sum v (λ u. is u (head (word ps) e))) (λ e. 1)
      (λ e l. sum_is_le v (head (word ps) e)),
  sum_const (codes_of ps) 1,
)

-- the codes into the next node follow
pub starts_suc : (ps : List ℕ) (v : ℕ) → codes_before ps (suc v) ≡ codes_before ps v + degree_at ps v
starts_suc ps v = sum-suc v (degree_at ps)

-- every code of the lists is a code
pub code_inside : (ps : List ℕ) (v i : ℕ) → i < degree_at ps v → code_into ps v i < codes_of ps
code_inside ps v i l = (lists_codes (codes_of ps) (head (word ps)) v).inside i l

-- ---- a node's own edge comes first

module _ (ps : List ℕ) (h : Parents ps) where
  -- the codes before that of node w + 1 itself lead into other nodes
  none_before : (w e : ℕ) → suc w < length ps → e < suc (2 * w) → is (suc w) (head (word ps) e) ≡ 0
  none_before w e l m = elim (code_cases e) [
    | inl z ↦ is_other_lem (suc w) (head (word ps) e) (λ q. omega (
      arith,
      z,
      ap (head (word ps)) z,
      head_even (word ps) (e / 2),
      h.before (suc (e / 2)) (omega arith) (omega (arith, z)),
    ))
    | inr z ↦ is_other_lem (suc w) (head (word ps) e) (λ q. omega (
      arith,
      z,
      ap (head (word ps)) z,
      head_odd (word ps) (e / 2),
    ))
  ]

  -- so it has none before it into node w + 1, ..
  own_none : (w : ℕ) → suc w < length ps → degree_of (suc (2 * w)) (head (word ps)) (suc w) ≡ 0
  unfolding degree_of
  own_none w l = sum_none (suc (2 * w)) _ (λ e m. none_before w e l m)

  -- .. leads there itself, ..
  own_head : (w : ℕ) → is (suc w) (head (word ps) (suc (2 * w))) ≡ 1
  own_head w = is_eq (suc w) _ (sym (head_odd (word ps) w))

  -- .. and is the first
  own_one : (w : ℕ) → suc w < length ps → degree_of (suc (suc (2 * w))) (head (word ps)) (suc w) ≡ 1
  own_one w l = omega (arith, degree-suc (head (word ps)) (suc w) (suc (2 * w)), own_none w l, own_head w)

  -- the first code into a node other than 0 is that of its own edge
  pub own_first : (v : ℕ) → 1 ≤ v → v < length ps
      → (1 ≤ degree_at ps v) × (code_into ps v 0 ≡ suc (2 * (v - 1)))
  own_first zero l m = absurd (omega arith)
  own_first (suc w) l m = (
    omega (arith, own_one w m, degree_mono (head (word ps)) (suc w) (suc (suc (2 * w))) (codes_of ps) low),
    code_stays (head (word ps)) (suc w) 0 (suc (suc (2 * w))) (codes_of ps) (omega (arith, own_one w m)) low
        ∙ ap (code_at (suc (suc (2 * w))) (head (word ps)) (suc w)) (sym (own_none w m))
        ∙ code_last (head (word ps)) (suc w) (suc (2 * w)) (own_head w)
        ∙ omega arith,
  )
    where
      low : suc (suc (2 * w)) ≤ codes_of ps
      low = omega arith

  -- the others are the children's edges, towards the node
  pub child_later : (v i : ℕ) → v < length ps → 1 ≤ i → i < degree_at ps v
      → code_into ps v i ≡ 2 * (code_into ps v i / 2)
  child_later v i l m k = elim (code_cases (code_into ps v i)) [
    | inl z ↦ z
    | inr z ↦ absurd (
        let e : v ≡ suc (code_into ps v i / 2) =
        sym (head_of_code (codes_of ps) (head (word ps)) v i k)
        ∙ ap (head (word ps)) z
        ∙ head_odd (word ps) (code_into ps v i / 2) in
        distinct (codes_of ps) (head (word ps)) v (degree_at ps v) (code_into ps v)
        (lists_codes (codes_of ps) (head (word ps)) v) i 0 k (omega arith) (λ q. omega arith)
        (omega (arith, z, e, (own_first v (omega (arith, e)) l).1)))
  ]
