-- A sum over the claims of a tree is a sum over its nodes, of three different codes into each.
-- Assumes nothing.
use Rattle.std.specs.Prelude.{◌≡◌, refl}
use Rattle.std.proofs.Common.{sym, ◌∙◌, ap, mul_assoc, mul-add, arith}
use Prim.Native.Nat.{ℕ, suc, ◌+◌, ◌*◌, ◌≤◌, ◌<◌}
use Rattle.sums.specs.Sum.{sum}
use Rattle.sums.specs.theorems.SumLaws.{sum_ext, sum_cong, sum-add, sum-mul_left, sum-swap}
use Rattle.sums.specs.Bits.{is}
use Rattle.sums.specs.theorems.BitLaws.{ne, is_sym, sum_is}
use Rattle.sums.specs.theorems.Products.{sum-ne}
use Rattle.sums.specs.theorems.Exclusion.{two_apart, two_apart_lem}
use Rattle.shapes.specs.theorems.AncestorLaws.{Rooted}
use Rattle.shapes.specs.Directions.{head}
use Rattle.shapes.proofs.theorems.EulerCentre.{head-le}
use Rattle.shapes.specs.Claims.{sum_claims, choose2, claim_term}
use Rattle.shapes.specs.theorems.OrderedClaims.{sum_ordered}
use Rattle.shapes.proofs.theorems.OrderedClaims.{ordered_cong, claims_ordered}
use Rattle.node_pairs.specs.theorems.Cells.{apart, sum_apart}
use Rattle.node_pairs.specs.theorems.CodesOfANode.{Lists, same_ne}

-- ---- one node

-- the sum of F over e and two codes with the head v, the three different
abbrev rest_at : ℕ → (ℕ → ℕ) → ℕ → (ℕ → ℕ → ℕ → ℕ) → ℕ → ℕ
rest_at K h v F e = sum K (λ f. is v (h f) * sum K (λ g. is v (h g) * (apart e f g * F e f g)))

-- three different codes of a list stand at three different places
at_node : (K : ℕ) (h : ℕ → ℕ) (v d : ℕ) (c : ℕ → ℕ) → Lists K h v d c → (F : ℕ → ℕ → ℕ → ℕ)
    → sum K (λ e. is v (h e) * rest_at K h v F e) ≡ sum_apart d (λ i j l. F (c i) (c j) (c l))
unfolding sum_apart
at_node K h v d c z F =
    z.total (rest_at K h v F)
    ∙ sum_ext d _ _ (λ i li. z.total (λ f. sum K (λ g. is v (h g) * (apart (c i) f g * F (c i) f g)))
    ∙ sum_ext d _ _ (λ j lj. z.total (λ g. apart (c i) (c j) g * F (c i) (c j) g)
    ∙ sum_ext d _ _ (λ l ll. ap (λ (x : ℕ). x * F (c i) (c j) (c l)) (same_apart i j l li lj ll))))
  where
    same_apart : (i j l : ℕ) → i < d → j < d → l < d → apart (c i) (c j) (c l) ≡ apart i j l
    same_apart i j l li lj ll = rw (
      same_ne K h v d c z j l lj ll,
      same_ne K h v d c z i j li lj,
      same_ne K h v d c z i l li ll,
    )
        refl

-- ---- all nodes

module _ (up : ℕ → ℕ) (r : Rooted up) (k : ℕ) (d : ℕ → ℕ) (c : ℕ → ℕ → ℕ)
    (lists : (v : ℕ) → v ≤ k → Lists (2 * k) (head up) v (d v) (c v)) where
  -- a sum over ordered claims
  pub by_nodes : (F : ℕ → ℕ → ℕ → ℕ)
      → sum_ordered up (2 * k) F
      ≡ sum (suc k) (λ v. sum_apart (d v) (λ i j l. F (c v i) (c v j) (c v l)))
  unfolding sum_ordered
  by_nodes F =
      sum_ext K _ _ one-head
      ∙ sum-swap K (suc k) (λ e v. is v (h e) * rest_at K h v F e)
      ∙ sum_ext (suc k) _ _ (λ v l. at_node K h v (d v) (c v) (lists v (omega arith)) F)
    where
      K : ℕ
      K = 2 * k

      h : ℕ → ℕ
      h = head up

      -- the sum of F over the ordered claims with e first
      first : ℕ → ℕ
      first e = sum K (λ f. sum K (λ g.
          ne f g * ((ne e f * is (h e) (h f)) * (ne e g * is (h e) (h g))) * F e f g))

      regroup : (n m a o b x : ℕ) → n * ((m * a) * (o * b)) * x ≡ a * (b * (n * (m * o) * x))
      regroup n m a o b x = omega arith

      at_head : (e : ℕ) → first e ≡ rest_at K h (h e) F e
      at_head e = sum_cong K (λ f.
          sum_cong K (λ g.
          regroup (ne f g) (ne e f) (is (h e) (h f)) (ne e g) (is (h e) (h g)) (F e f g))
          ∙ sum-mul_left K (is (h e) (h f)) _)

      one-head : (e : ℕ) → e < K → first e ≡ sum (suc k) (λ v. is v (h e) * rest_at K h v F e)
      one-head e l =
          at_head e
          ∙ sym (sum_is (suc k) (h e) (λ v. rest_at K h v F e) (omega (arith, head-le up r k e l)))
          ∙ sum_cong (suc k) (λ v. ap (λ (x : ℕ). x * rest_at K h v F e) (is_sym (h e) v))

  -- twice S, from the sizes of the sets of tips behind the codes
  pub S_by_nodes : (size : ℕ → ℕ)
      → 2 * sum_claims up (2 * k) (claim_term size)
      ≡ sum (suc k) (λ v. sum_apart (d v) (λ i j l.
      choose2 (size (c v i)) * (size (c v j) * size (c v l))))
  S_by_nodes size =
      claims_ordered up (2 * k) (claim_term size) (λ e f g. omega arith)
      ∙ ordered_cong up (2 * k) (λ e f g. mul_assoc (choose2 (size e)) (size f) (size g))
      ∙ by_nodes (λ e f g. choose2 (size e) * (size f * size g))

-- ---- one sum over the codes in place of three

-- the sum of s over the indices below d other than i
abbrev pub other_indices : ℕ → (ℕ → ℕ) → ℕ → ℕ
other_indices d s i = sum d (λ j. ne i j * s j)

pub others_and_own : (d : ℕ) (s : ℕ → ℕ) (i : ℕ) → i < d → other_indices d s i + s i ≡ sum d s
others_and_own d s i l = sum-ne d i s l

-- two different indices other than i
two_others : (d : ℕ) (s : ℕ → ℕ) (i : ℕ) → i < d
    → two_apart d i s s + sum d (λ j. s j * s j) ≡ other_indices d s i * other_indices d s i + s i * s i
two_others d s i l = omega (arith, rw (← sum-ne d i s l) at (two_apart_lem d i s s l))

-- three different indices, of which the last two have one factor
pub products-apart : (d : ℕ) (p s : ℕ → ℕ)
    → sum_apart d (λ i j l. p i * (s j * s l)) + sum d (λ i. p i * sum d (λ j. s j * s j))
    ≡ sum d (λ i. p i * (other_indices d s i * other_indices d s i + s i * s i))
unfolding sum_apart two_apart
products-apart d p s =
    sym (sum-add d _ _)
    ∙ sum_ext d _ _ (λ i l.
    ap (λ (x : ℕ). x + p i * sum d (λ j. s j * s j)) (at_first i)
    ∙ sym (mul-add (p i) (two_apart d i s s) (sum d (λ j. s j * s j)))
    ∙ ap (λ (x : ℕ). p i * x) (two_others d s i l))
  where
    regroup : (n m o x y z : ℕ) → n * (m * o) * (x * (y * z)) ≡ x * (n * ((m * y) * (o * z)))
    regroup n m o x y z = omega arith

    at_first : (i : ℕ) → sum d (λ j. sum d (λ l. apart i j l * (p i * (s j * s l)))) ≡ p i * two_apart d i s s
    at_first i =
        sum_cong d (λ j.
        sum_cong d (λ l. regroup (ne j l) (ne i j) (ne i l) (p i) (s j) (s l)) ∙ sum-mul_left d (p i) _)
        ∙ sum-mul_left d (p i) _

-- what a node adds in `S_by_nodes`
pub node_closed : (d : ℕ) (s : ℕ → ℕ)
    → sum_apart d (λ i j l. choose2 (s i) * (s j * s l)) + sum d (λ i. choose2 (s i) * sum d (λ j. s j * s j))
    ≡ sum d (λ i. choose2 (s i) * (other_indices d s i * other_indices d s i + s i * s i))
node_closed d s = products-apart d (λ i. choose2 (s i)) s
