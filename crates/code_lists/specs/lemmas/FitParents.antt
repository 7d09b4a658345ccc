-- The parent words whose codes are listed: those of a tree with at most `nodes_most` nodes.
-- Assumes nothing.
use Rattle.std.specs.Prelude.{◌≡◌, Bool, true, false, ◌&&◌, List, ℕ, zero, suc, ◌-◌, ◌≤◌, ◌<◌, T, leb, ltb, length}
use Rattle.std.proofs.Common.{sym, ap, subst, arith}
use Rattle.table_words.specs.Sizes.{nodes_most}
use Rattle.sums.specs.theorems.BitLaws.{T_true, T_false}
use Rattle.sums.specs.theorems.TestLaws.{and-iff, le_iff, lt_iff, every-iff}
use Rattle.sums.specs.Tests.{every}
use Rattle.tree_check.specs.Table.{word}
use Rattle.code_lists.specs.ListedCodes.{codes_of, parents_fit, codes_fit}
use Rattle.code_lists.specs.lemmas.CodesAt.{Parents}

-- the three tests
fit_says : (ps : List ℕ) → T (parents_fit ps)
    → T (leb 1 (length ps)) × T (leb (length ps) nodes_most)
    × T (every (length ps - 1) (λ i. ltb (word ps (suc i)) (suc i)))
unfolding parents_fit
fit_says ps t =
    let a = (and-iff (leb 1 (length ps)) _).0 t in
    let b = (and-iff (leb (length ps) nodes_most) _).0 a.1 in
    (a.0, b.0, b.1)

says_fit : (ps : List ℕ)
    → T (leb 1 (length ps)) × T (leb (length ps) nodes_most)
    × T (every (length ps - 1) (λ i. ltb (word ps (suc i)) (suc i)))
    → T (parents_fit ps)
unfolding parents_fit
says_fit ps h =
    (and-iff (leb 1 (length ps)) _).1 (h.0, (and-iff (leb (length ps) nodes_most) _).1 (h.1, h.2))

fit_T : (ps : List ℕ) → T (parents_fit ps) → Parents ps
fit_T ps t =
    let h = fit_says ps t in record {
      some = (le_iff 1 (length ps)).0 h.0;
      few = (le_iff (length ps) nodes_most).0 h.1;
      before = λ i l m. before h.2 i l m;
    }
  where
    before : T (every (length ps - 1) (λ i. ltb (word ps (suc i)) (suc i)))
        → (i : ℕ) → 1 ≤ i → i < length ps → word ps i < i
    before h zero l m = absurd (omega arith)
    before h (suc i) l m = (lt_iff (word ps (suc i)) (suc i)).0 ((every-iff (length ps - 1) _).0 h i (omega arith))

pub fit_parents : (ps : List ℕ) → parents_fit ps ≡ true → Parents ps
fit_parents ps e = fit_T ps (subst T (sym e) tt)

pub parents_fit_lem : (ps : List ℕ) → Parents ps → parents_fit ps ≡ true
parents_fit_lem ps p = T_true (parents_fit ps) (says_fit ps (
  (le_iff 1 (length ps)).1 p.some,
  (le_iff (length ps) nodes_most).1 p.few,
  (every-iff (length ps - 1) _).1 (λ i l. (lt_iff (word ps (suc i)) (suc i)).1 (p.before (suc i) (omega arith) (omega arith))),
))

-- none, too many, or a parent that is not before its node
pub none_unfit : (ps : List ℕ) → length ps < 1 → parents_fit ps ≡ false
none_unfit ps l = T_false (parents_fit ps) (λ t. omega (arith, (fit_T ps t).some))

pub many_unfit : (ps : List ℕ) → nodes_most < length ps → parents_fit ps ≡ false
many_unfit ps l = T_false (parents_fit ps) (λ t. omega (arith, (fit_T ps t).few))

pub late_unfit : (ps : List ℕ) (i : ℕ) → 1 ≤ i → i < length ps → i ≤ word ps i → parents_fit ps ≡ false
late_unfit ps i l m n = T_false (parents_fit ps) (λ t. omega (arith, (fit_T ps t).before i l m))

-- ---- with cells for all starts and edges

pub codes_fit_lem : (ps : List ℕ) (starts edges : ℕ) → Parents ps → length ps < starts → codes_of ps ≤ edges
    → codes_fit ps starts edges ≡ true
unfolding codes_fit
codes_fit_lem ps starts edges p l m = T_true _ ((and-iff (parents_fit ps) _).1 (
  subst T (sym (parents_fit_lem ps p)) tt,
  (and-iff (ltb (length ps) starts) _).1 ((lt_iff (length ps) starts).1 l, (le_iff (codes_of ps) edges).1 m),
))

pub fit_codes : (ps : List ℕ) (starts edges : ℕ) → codes_fit ps starts edges ≡ true
    → Parents ps × (length ps < starts) × (codes_of ps ≤ edges)
unfolding codes_fit
fit_codes ps starts edges e =
    let a = (and-iff (parents_fit ps) _).0 (subst T (sym e) tt) in
    let b = (and-iff (ltb (length ps) starts) _).0 a.1 in
    (fit_T ps a.0, (lt_iff (length ps) starts).0 b.0, (le_iff (codes_of ps) edges).0 b.1)

-- other parents, or cells too few
pub codes_unfit : (ps : List ℕ) (starts edges : ℕ) → parents_fit ps ≡ false → codes_fit ps starts edges ≡ false
unfolding codes_fit
codes_unfit ps starts edges e = ap (λ (b : Bool). b && (ltb (length ps) starts && leb (codes_of ps) edges)) e

pub starts_unfit : (ps : List ℕ) (starts edges : ℕ) → starts ≤ length ps → codes_fit ps starts edges ≡ false
starts_unfit ps starts edges l =
    T_false _ (λ t. omega (arith, (fit_codes ps starts edges (T_true _ t)).1))

pub edges_unfit : (ps : List ℕ) (starts edges : ℕ) → edges < codes_of ps → codes_fit ps starts edges ≡ false
edges_unfit ps starts edges l =
    T_false _ (λ t. omega (arith, (fit_codes ps starts edges (T_true _ t)).2))
