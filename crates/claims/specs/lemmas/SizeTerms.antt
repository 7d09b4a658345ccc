-- What a node adds to twice S, from the sizes of the sets of tips behind the codes into it: one sum in place of three.
-- Assumes nothing.
use Rattle.std.specs.Prelude.{◌≡◌, refl, List, ℕ, ◌+◌, ◌*◌, ◌-◌, ◌/◌, ◌≤◌, ◌<◌, length}
use Rattle.std.proofs.Common.{sym, ◌∙◌, ap, ap₂, arith}
use Rattle.table_words.specs.Sizes.{tips_most}
use Rattle.sums.specs.Sum.{sum}
use Rattle.sums.specs.theorems.SumLaws.{sum_cong, sum-ge, sum-mul_right, sum_next}
use Rattle.sums.specs.theorems.Products.{product_le}
use Rattle.shapes.specs.Claims.{choose2}
use Rattle.node_pairs.specs.theorems.NodeSums.{other_indices, others_and_own, node_closed}
use Rattle.tree_check.specs.Table.{word}
use Rattle.claims.specs.lemmas.CellLines.{Line, line_cell, squared}
use Rattle.claims.specs.lemmas.SumsByNode.{sizes_apart}

-- `count` sizes that add up to 256 at most
pub record SizesFew (sizes : List ℕ) (count : ℕ) : Type 0 where
  pub inside : count ≤ length sizes
  pub few : count ≤ tips_most
  pub whole : sum count (word sizes) ≤ tips_most

-- ---- one size

pub pairs_none : 0 ≡ choose2 0
unfolding choose2
pairs_none = refl

pub pairs_fit : (s : ℕ) → s ≤ tips_most → s * (s - 1) ≤ 65536
pairs_fit s l = product_le tips_most tips_most s (s - 1) l (omega arith)

pub pairs_some : (s : ℕ) → s ≤ tips_most → (s * (s - 1) / 2 ≡ choose2 s) × (s * (s - 1) / 2 ≤ 32768)
unfolding choose2
pairs_some s l = (refl, omega (arith, pairs_fit s l))

pairs_most : (s : ℕ) → s ≤ tips_most → choose2 s ≤ 32768
unfolding choose2
pairs_most s l = omega (arith, pairs_fit s l)

pub squares_most : (s o : ℕ) → s ≤ tips_most → o ≤ tips_most → (o * o ≤ 65536) × (s * s ≤ 65536)
squares_most s o l m = (product_le tips_most tips_most o o m m, product_le tips_most tips_most s s l l)

-- what a code with s tips behind it gives, where o tips are behind the others
abbrev pub size_term : ℕ → ℕ → ℕ
size_term s o = choose2 s * (o * o + s * s)

pub size_term_most : (s o p : ℕ) → p ≡ choose2 s → s ≤ tips_most → o ≤ tips_most → p * (o * o + s * s) ≤ 4294967296
size_term_most s o p e l m =
    let q = squares_most s o l m in
    product_le 32768 131072 p (o * o + s * s) (omega (arith, e, pairs_most s l)) (omega (arith, q.0, q.1))

-- ---- a line of sizes

pub sizes_line : (sizes : List ℕ) (count : ℕ) → SizesFew sizes count → Line (length sizes) 0 1 count
sizes_line sizes count h = record {
  inside = λ a l. omega (arith, h.inside);
  len_le = omega (arith, h.few);
  step_le = omega arith;
  at_le = omega arith;
}

line_word : (sizes : List ℕ) (a : ℕ) → line_cell sizes 0 1 a ≡ word sizes a
line_word sizes a = ap (word sizes) (once a)
  where
    once : (a : ℕ) → 0 + a * 1 ≡ a
    once a = omega arith

pub line_whole : (sizes : List ℕ) (count r : ℕ) → r ≡ sum count (line_cell sizes 0 1) → r ≡ sum count (word sizes)
line_whole sizes count r e = e ∙ sum_cong count (line_word sizes)

line-squared : (sizes : List ℕ) (count r : ℕ) → r ≡ sum count (squared (line_cell sizes 0 1))
    → r ≡ sum count (squared (word sizes))
line-squared sizes count r e = e ∙ sum_cong count (λ a. ap (λ (x : ℕ). x * x) (line_word sizes a))

-- ---- the terms before i

pub record SizeTerms (sizes : List ℕ) (count i plus pairs : ℕ) : Type 0 where
  pub plus_is : plus ≡ sum i (λ k. size_term (word sizes k) (other_indices count (word sizes) k))
  pub pairs_is : pairs ≡ sum i (λ k. choose2 (word sizes k))
  pub plus_most : plus ≤ i * 4294967296
  pub pairs_few : pairs ≤ i * 32768

pub no_terms : (sizes : List ℕ) (count : ℕ) → SizeTerms sizes count 0 0 0
unfolding sum
no_terms sizes count = record { plus_is = refl; pairs_is = refl; plus_most = omega arith; pairs_few = omega arith }

module _ (sizes : List ℕ) (count : ℕ) (h : SizesFew sizes count) (i : ℕ) (l : i < count) where
  pub size_low : (word sizes i ≤ sum count (word sizes)) × (sum count (word sizes) ≤ tips_most)
  size_low = (sum-ge count (word sizes) i l, h.whole)

  rest_is : (whole : ℕ) → whole ≡ sum count (word sizes) → whole - word sizes i ≡ other_indices count (word sizes) i
  rest_is whole e = omega (arith, e, others_and_own count (word sizes) i l)

  pub next_term : (plus pairs whole s p x : ℕ) → SizeTerms sizes count i plus pairs
      → whole ≡ sum count (word sizes) → s ≡ word sizes i → p ≡ choose2 s → x ≡ size_term s (whole - s)
      → x ≤ 4294967296 → p ≤ 32768 → SizeTerms sizes count (i + 1) (plus + x) (pairs + p)
  next_term plus pairs whole s p x q e es ep ex lx lp = record {
    plus_is =
        ap₂ (λ (a b : ℕ). a + b) q.plus_is (ex ∙ ap₂ size_term es (ap (λ (z : ℕ). whole - z) es ∙ rest_is whole e))
        ∙ sym (sum_next i (λ k. size_term (word sizes k) (other_indices count (word sizes) k)));
    pairs_is =
        ap₂ (λ (a b : ℕ). a + b) q.pairs_is (ep ∙ ap choose2 es) ∙ sym (sum_next i (λ k. choose2 (word sizes k)));
    plus_most = omega (arith, q.plus_most);
    pairs_few = omega (arith, q.pairs_few);
  }

-- all terms together
pub node_is : (sizes : List ℕ) (count i plus pairs squares : ℕ) → SizeTerms sizes count i plus pairs
    → i ≤ count → count ≤ i → squares ≡ sum count (squared (line_cell sizes 0 1))
    → (plus ≡ sizes_apart count (word sizes) + pairs * squares) × (plus ≤ count * 4294967296)
unfolding sizes_apart
node_is sizes count i plus pairs squares q l m e =
    let k : i ≡ count = omega arith in
    let r : SizeTerms sizes count count plus pairs = rw k at q in (
      omega (
        arith,
        r.plus_is,
        node_closed count (word sizes),
        sum-mul_right count (sum count (squared (word sizes))) (λ k. choose2 (word sizes k)),
        ap₂ (λ (a b : ℕ). a * b) r.pairs_is (line-squared sizes count squares e),
      ),
      r.plus_most,
    )
