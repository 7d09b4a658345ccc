-- What lies at or below a node, added up from the highest node down.
-- Assumes nothing.
use Rattle.std.specs.Prelude.{◌≡◌, Bool, ◌&&◌, ◌≢◌, ◌↔◌, leb}
use Rattle.std.proofs.Common.{sym, ◌∙◌, mul_comm, mul_left_comm, mul-add, mul-zero}
use Rattle.std.proofs.Math.Path.{ap, ap₂}
use Rattle.std.proofs.Math.Logic.{inl, inr}
use Prim.Native.Nat.{ℕ, zero, suc, ◌+◌, ◌*◌, ◌≤◌, ◌<◌}
use Rattle.std.proofs.Math.Nat.{mul_assoc, add-mul, zero-mul, mul-le-mul_right}
use Rattle.std.proofs.Math.Decide.{ℕ_discrete}
use native.Mathlib.Omega.{arith}
use Rattle.std.proofs.Math.Dec.{T, eqb}
use Rattle.sums.specs.Sum.{sum}
use Rattle.sums.specs.theorems.SumLaws.{sum_first, sum_ext, sum_cong, sum_mono, sum_none}
use Rattle.sums.specs.theorems.SumLaws.{sum-add, sum-mul_left, sum-mul_right, sum-swap}
use Rattle.sums.specs.Bits.{bit}
use Rattle.sums.specs.theorems.BitLaws.{bit_no, bit_mono, T_true, T_false, ne, is_self, is_other_lem, is_sym, alike, sum_is}
use Rattle.sums.specs.Bits.{is}
use Rattle.sums.specs.theorems.TestLaws.{and-iff, eq_iff, le_iff, same_test}
use Rattle.shapes.specs.theorems.AncestorLaws.{Rooted}
use Rattle.shapes.proofs.theorems.AncestorLaws.{parent-lt, anc_self}
use Rattle.shapes.specs.Ancestors.{anc}
use Rattle.shapes.proofs.theorems.DirectionLaws.{children_above}
use Rattle.shapes.specs.theorems.Totals.{Added, AddedFrom, late, total}

-- ---- totals of equal values, of sums and of multiples

pub total_ext : (up : ℕ → ℕ) (m : ℕ) (f g : ℕ → ℕ) (v : ℕ) → ((u : ℕ) → u < m → f u ≡ g u)
    → total up m f v ≡ total up m g v
unfolding total
total_ext up m f g v h = sum_ext m _ _ (λ u l. ap (λ (x : ℕ). bit (anc up v u) * x) (h u l))

pub total_none : (up : ℕ → ℕ) (m : ℕ) (f : ℕ → ℕ) (v : ℕ) → ((u : ℕ) → u < m → f u ≡ 0)
    → total up m f v ≡ 0
unfolding total
total_none up m f v h =
    sum_none m _ (λ u l. ap (λ (x : ℕ). bit (anc up v u) * x) (h u l) ∙ mul-zero (bit (anc up v u)))

pub total-add : (up : ℕ → ℕ) (m : ℕ) (f g : ℕ → ℕ) (v : ℕ)
    → total up m (λ u. f u + g u) v ≡ total up m f v + total up m g v
unfolding total
total-add up m f g v = simp (mul-add, sum-add)

pub total-mul_left : (up : ℕ → ℕ) (m c : ℕ) (f : ℕ → ℕ) (v : ℕ)
    → total up m (λ u. c * f u) v ≡ c * total up m f v
unfolding total
total-mul_left up m c f v =
    sum_cong m (λ u. mul_left_comm (bit (anc up v u)) c (f u)) ∙ sum-mul_left m c _

-- the one node w
pub total_is : (up : ℕ → ℕ) (m w v : ℕ) → w < m → total up m (is w) v ≡ bit (anc up v w)
unfolding total
total_is up m w v l =
    sum_cong m (λ u. mul_comm (bit (anc up v u)) (is w u)) ∙ sum_is m w (λ u. bit (anc up v u)) l

-- ---- the children of a node

-- node d is a child of v, and not below i
child_iff : (up : ℕ → ℕ) (i d v : ℕ) → T (leb i d && eqb (up d) v) ↔ (i ≤ d) × (up d ≡ v)
child_iff up i d v = let a = and-iff (leb i d) (eqb (up d) v) in (
  λ t. ((le_iff i d).0 (a.0 t).0, (eq_iff (up d) v).0 (a.0 t).1),
  λ h. a.1 ((le_iff i d).1 h.0, (eq_iff (up d) v).1 h.1),
)

module _ (up : ℕ → ℕ) (r : Rooted up) where
  -- a node at or below v is v itself or at or below one child of v
  anc-children : (m v u : ℕ) → u < m
      → bit (anc up v u) ≡ is v u + sum m (λ d. bit (leb 1 d && eqb (up d) v) * bit (anc up d u))
  unfolding bit
  anc-children zero v u l = absurd (omega arith)
  anc-children (suc k) v u l = omega (
    arith,
    itself,
    children_above up r k v u (omega arith),
    sum_first k (λ d. bit (leb 1 d && eqb (up d) v) * bit (anc up d u)),
    sum_cong k (λ j. ap (λ (x : ℕ). x * bit (anc up (suc j) u)) (child j)),
  )
    where
      child : (j : ℕ) → bit (leb 1 (suc j) && eqb (up (suc j)) v) ≡ is v (up (suc j))
      child j = rw (T_true (leb 1 (suc j)) ((le_iff 1 (suc j)).1 (omega arith))) (is_sym (up (suc j)) v)

      itself : bit (anc up v u) ≡ is v u + bit (anc up v u) * ne v u
      itself = elim (alike v u) [
        | inl e ↦ rw (e.2, e.1) (rw (← e.0) (omega (arith, anc_self up r v)))
        | inr d ↦ rw (d.2, d.1) (omega arith)
      ]

module _ (up : ℕ → ℕ) (r : Rooted up) (m : ℕ) (f : ℕ → ℕ) where
  -- a node holds its own and what its children hold
  pub total-children : (v : ℕ) → v < m
      → total up m f v ≡ f v + sum m (λ d. bit (leb 1 d && eqb (up d) v) * total up m f d)
  unfolding total
  total-children v l =
      sum_ext m _ _ (λ u h. ap (λ (x : ℕ). x * f u) (anc-children up r m v u h)
      ∙ add-mul (is v u) _ (f u)
      ∙ ap (λ (x : ℕ). is v u * f u + x) (sym (sum-mul_right m (f u) _)))
      ∙ sum-add m _ _
      ∙ ap₂ (λ (x y : ℕ). x + y) (sum_is m v f l)
      (sum-swap m m (λ u d. bit (leb 1 d && eqb (up d) v) * bit (anc up d u) * f u)
      ∙ sum_cong m (λ d. sum_cong m (λ u. mul_assoc (bit (leb 1 d && eqb (up d) v)) (bit (anc up d u)) (f u))
      ∙ sum-mul_left m (bit (leb 1 d && eqb (up d) v)) _))

  -- ---- from the highest node down

  total_late : (v : ℕ) → v < m → total up m f v ≡ f v + late up m f 1 v
  unfolding late
  total_late v l = total-children v l

  late_none : (v : ℕ) → late up m f m v ≡ 0
  unfolding late
  late_none v = sum_none m _ (λ d l.
      ap (λ (x : ℕ). x * total up m f d)
      (bit_no (leb m d && eqb (up d) v) (λ t. omega (arith, (child_iff up m d v).0 t)))
      ∙ zero-mul (total up m f d))

  -- one child more
  late_step : (y v : ℕ) → y < m → late up m f y v ≡ late up m f (y + 1) v + is (up y) v * total up m f y
  unfolding late bit
  late_step y v l =
      sum_cong m (λ d. one d)
      ∙ sum-add m _ _
      ∙ ap (λ (x : ℕ). late up m f (y + 1) v + x) (sum_is m y (λ d. is (up d) v * total up m f d) l)
    where
      one : (d : ℕ)
          → bit (leb y d && eqb (up d) v) * total up m f d
          ≡ bit (leb (y + 1) d && eqb (up d) v) * total up m f d + is y d * (is (up d) v * total up m f d)
      one d = elim (alike y d) [
        | inl e ↦ rw (
          T_true (leb y d) ((le_iff y d).1 (omega (arith, e.0))),
          T_false (leb (y + 1) d) (λ t. omega (arith, e.0, (le_iff (y + 1) d).0 t)),
          e.1,
        )
            (omega arith)
        | inr n ↦ rw (
          same_test (leb y d) (leb (y + 1) d)
              (λ t. (le_iff (y + 1) d).1 (omega (arith, n.0, (le_iff y d).0 t)))
              (λ t. (le_iff y d).1 (omega (arith, (le_iff (y + 1) d).0 t))),
          n.1,
        )
            (omega arith)
      ]

  late_first : (i d v : ℕ) → 1 ≤ i → T (leb i d && eqb (up d) v) → T (leb 1 d && eqb (up d) v)
  late_first i d v l t = let c = (child_iff up i d v).0 t in (child_iff up 1 d v).1 (omega arith)

  -- the children of v have higher numbers than v
  late_all : (i v : ℕ) → 1 ≤ i → i ≤ v + 1 → late up m f i v ≡ late up m f 1 v
  unfolding late
  late_all i v l h =
      sum_cong m (λ d. ap (λ (b : Bool). bit b * total up m f d)
      (same_test (leb i d && eqb (up d) v) (leb 1 d && eqb (up d) v) (late_first i d v l) (back d)))
    where
      back : (d : ℕ) → T (leb 1 d && eqb (up d) v) → T (leb i d && eqb (up d) v)
      back d t = let c = (child_iff up 1 d v).0 t in
          (child_iff up i d v).1 (omega (arith, parent-lt up r d c.0))

  late_le : (i v : ℕ) → 1 ≤ i → late up m f i v ≤ late up m f 1 v
  unfolding late
  late_le i v l = sum_mono m _ _ (λ d h. mul-le-mul_right (total up m f d)
      (bit_mono (leb i d && eqb (up d) v) (leb 1 d && eqb (up d) v) (late_first i d v l)))

  late_parent : (y : ℕ) → y < m
      → late up m f y (up y) ≡ late up m f (y + 1) (up y) + total up m f y
  late_parent y l = rw (late_step y (up y) l, is_self) (omega arith)

  -- ---- the nodes from k on

  pub added_from_none : (k : ℕ) (val : ℕ → ℕ) → ((v : ℕ) → k ≤ v → v < m → val v ≡ f v)
      → AddedFrom k up m f val m
  added_from_none k val h = record { holds = λ v o l. omega (arith, h v o l, late_none v) }

  -- a node whose number is at least i - 1 holds all that is its own
  pub added_from_all : (k : ℕ) (val : ℕ → ℕ) (i : ℕ) → 1 ≤ i → AddedFrom k up m f val i
      → (v : ℕ) → k ≤ v → i ≤ v + 1 → v < m → val v ≡ total up m f v
  added_from_all k val i o a v h n l = omega (arith, a.holds v h l, late_all i v o n, total_late v l)

  -- .. as node y does when its turn comes
  added_from_own : (k : ℕ) (val : ℕ → ℕ) (y : ℕ) → k ≤ y → y < m → AddedFrom k up m f val (y + 1)
      → val y ≡ total up m f y
  added_from_own k val y h l a = added_from_all k val (y + 1) (omega arith) a y h (omega arith) l

  -- node y is added to its parent, which is not below k
  pub added_from_next : (k : ℕ) (val val' : ℕ → ℕ) (y : ℕ) → 1 ≤ y → y < m → k ≤ up y
      → val' (up y) ≡ val (up y) + val y → ((v : ℕ) → k ≤ v → v < m → v ≢ up y → val' v ≡ val v)
      → AddedFrom k up m f val (y + 1) → AddedFrom k up m f val' y
  added_from_next k val val' y o l q hit miss a =
      let low = parent-lt up r y o in
      record {
        holds = λ v h j. elim (ℕ_discrete v (up y)) [
          | yes e ↦ rw e (omega (
            arith,
            hit,
            a.holds (up y) q (omega arith),
            added_from_own k val y (omega arith) l a,
            late_parent y l,
          ))
          | no n ↦ omega (
            arith,
            miss v h j n,
            a.holds v h j,
            late_step y v l,
            ap (λ (x : ℕ). x * total up m f y) (is_other_lem (up y) v (λ e. n (sym e))),
          )
        ];
      }

  -- the sum at the parent never passes the parent's total
  pub added_from_le : (k : ℕ) (val : ℕ → ℕ) (y : ℕ) → 1 ≤ y → y < m → k ≤ up y
      → AddedFrom k up m f val (y + 1) → val (up y) + val y ≤ total up m f (up y)
  added_from_le k val y o l q a = let low = parent-lt up r y o in omega (
    arith,
    a.holds (up y) q (omega arith),
    added_from_own k val y (omega arith) l a,
    late_parent y l,
    late_le y (up y) o,
    total_late (up y) (omega arith),
  )

  -- ---- all nodes

  -- before the first node is added, and after the last
  pub added_none : (val : ℕ → ℕ) → ((v : ℕ) → v < m → val v ≡ f v) → Added up m f val m
  added_none val h = record { holds = λ v l. omega (arith, h v l, late_none v) }

  pub added-all : (val : ℕ → ℕ) → Added up m f val 1 → (v : ℕ) → v < m → val v ≡ total up m f v
  added-all val a v l = a.holds v l ∙ sym (total_late v l)

  from_first : (val : ℕ → ℕ) (i : ℕ) → Added up m f val i → AddedFrom 0 up m f val i
  from_first val i a = record { holds = λ v h l. a.holds v l }

  -- a node whose children have all been added holds its total
  pub added-all_from : (val : ℕ → ℕ) (i v : ℕ) → Added up m f val i → 1 ≤ i → i ≤ v + 1 → v < m
      → val v ≡ total up m f v
  added-all_from val i v a o h l = added_from_all 0 val i o (from_first val i a) v (omega arith) h l

  -- node y is added to its parent
  pub added_next : (val val' : ℕ → ℕ) (y : ℕ) → 1 ≤ y → y < m → val' (up y) ≡ val (up y) + val y
      → ((v : ℕ) → v < m → v ≢ up y → val' v ≡ val v) → Added up m f val (y + 1) → Added up m f val' y
  added_next val val' y o l hit miss a =
      let b = added_from_next 0 val val' y o l (omega arith) hit (λ v h. miss v) (from_first val (y + 1) a) in
      record { holds = λ v l. b.holds v (omega arith) l }

  pub added-le : (val : ℕ → ℕ) (y : ℕ) → 1 ≤ y → y < m → Added up m f val (y + 1)
      → val (up y) + val y ≤ total up m f (up y)
  added-le val y o l a = added_from_le 0 val y o l (omega arith) (from_first val (y + 1) a)
