-- That a table is another with its pass-through nodes taken out, shown by tests of every node, which a small pair of tables
-- passes by computation.
-- Assumes nothing.
use Rattle.std.specs.Prelude.{◌≡◌, not, ◌&&◌, ◌↔◌, ℕ, ◌<◌, T, eqb, ltb}
use Rattle.std.proofs.Common.{sym, ◌∙◌, ap, arith, T_not}
use Rattle.std.proofs.Math.Logic.{inl, inr}
use Rattle.table_words.specs.Sizes.{inner_label}
use Rattle.sums.specs.Tests.{every}
use Rattle.sums.specs.theorems.BitLaws.{bit-T}
use Rattle.sums.specs.theorems.TestLaws.{and-iff, or-iff, implies_iff, eq_iff, lt_iff, not_eq_iff, every-iff}
use Rattle.shapes.specs.Ancestors.{anc}
use Rattle.shapes.proofs.theorems.AncestorLaws.{anc-le}
use Rattle.tree_check.specs.Table.{Table, nodes, parent, label}
use Rattle.tree_check.specs.IsTree.{IsTree}
use Rattle.tree_check.specs.TreeOrder.{children}
use Rattle.tree_check.specs.theorems.RootedTables.{rooted}
use Rattle.counting.specs.theorems.PassThrough.{PassThrough, NoPassThrough, NextAbove, TakenOut}
use Rattle.counting.proofs.theorems.PassThroughNodes.{single_child, one_child}
use Rattle.counting.specs.theorems.TakenOutTests.{TakenOutTests, comes_next, passes}

passes-iff : (t : Table) (j : ℕ) → T (passes t j) ↔ PassThrough t j
unfolding passes children
passes-iff t j =
    let a = and-iff (eqb (label t j) inner_label) (eqb (children (nodes t) (parent t) j) 1) in
    let e = eq_iff (label t j) inner_label in
    let k = eq_iff (children (nodes t) (parent t) j) 1 in
    (λ h. one_child t j (e.0 (a.0 h).0) (k.0 (a.0 h).1), λ p. a.1 (e.1 p.inner, k.1 (single_child t j p)))

-- no node passes the test: a table without pass-through nodes
pub none_passes : (t : Table) → T (every (nodes t) (λ i. not (passes t i))) → NoPassThrough t
none_passes t h i l p = T_not (passes t i) ((every-iff (nodes t) _).0 h i l) ((passes-iff t i).1 p)

module _ (t : Table) (g : IsTree t) where
  next_above : (p v : ℕ) → v < nodes t → T (comes_next t p v) → NextAbove t p v
  unfolding comes_next
  next_above p v l h =
      let a = (and-iff (anc (parent t) p v) _).0 h in
      let b = (and-iff (not (eqb p v)) _).0 a.1 in
      record {
        above = a.0;
        apart = (not_eq_iff p v).0 b.0;
        between = λ j x y d e.
            let m : j < nodes t = omega (arith, anc-le (parent t) (rooted t g) j v (bit-T (anc (parent t) j v) y)) in
            let c = (and-iff (anc (parent t) p j) (anc (parent t) j v)).1 (x, y) in
            let r = (implies_iff (anc (parent t) p j && anc (parent t) j v) _).0 ((every-iff (nodes t) _).0 b.1 j m) c in
            elim ((or-iff (eqb j p) _).0 r) [
              | inl z ↦ absurd (d ((eq_iff j p).0 z))
              | inr z ↦ elim ((or-iff (eqb j v) (passes t j)).0 z) [
                | inl w ↦ absurd (e ((eq_iff j v).0 w))
                | inr w ↦ (passes-iff t j).0 w
              ]
            ];
      }

  module _ (u : Table) (node back : ℕ → ℕ) (h : TakenOutTests t u node back) where
    a_node : (i : ℕ) → i < nodes u → node i < nodes t
    a_node i l = (lt_iff (node i) (nodes t)).0 ((every-iff (nodes u) _).0 h.inside i l)

    and_back : (i : ℕ) → i < nodes u → back (node i) ≡ i
    and_back i l = (eq_iff (back (node i)) i).0 ((every-iff (nodes u) _).0 h.different i l)

    pub tests_take_out : TakenOut t u
    tests_take_out = record {
      same_tips = h.same_tips;
      node = node;
      kept = λ i l. (
        a_node i l,
        λ p. T_not (passes t (node i)) ((every-iff (nodes u) _).0 h.kept i l) ((passes-iff t (node i)).1 p),
      );
      different = λ i j li lj e. sym (and_back i li) ∙ ap back e ∙ and_back j lj;
      all = λ j l np. elim ((or-iff (passes t j) _).0 ((every-iff (nodes t) _).0 h.all j l)) [
        | inl p ↦ absurd (np ((passes-iff t j).0 p))
        | inr r ↦ (
            let a = (and-iff (ltb (back j) (nodes u)) (eqb (node (back j)) j)).0 r in
            (back j, (lt_iff (back j) (nodes u)).0 a.0, (eq_iff (node (back j)) j).0 a.1))
      ];
      labels = λ i l. (eq_iff (label u i) (label t (node i))).0 ((every-iff (nodes u) _).0 h.labels i l);
      parents = λ i o l. elim ((or-iff (eqb i 0) _).0 ((every-iff (nodes u) _).0 h.parents i l)) [
        | inl z ↦ absurd (omega (arith, (eq_iff i 0).0 z))
        | inr n ↦ next_above (node (parent u i)) (node i) (a_node i l) n
      ];
    }
