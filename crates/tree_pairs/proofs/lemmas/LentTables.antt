-- Two tables filled through their arrays, as code lends them.
-- Assumes nothing.
use Rattle.std.specs.Prelude.{◌≡◌, refl, ◌≢◌, List, ℕ, ◌+◌, ◌*◌, ◌-◌, ◌≤◌, length}
use Rattle.std.proofs.Math.Path.{sym}
use Rattle.std.proofs.Common.{◌∙◌, ap, subst, arith}
use Rattle.tree_check.specs.Table.{Table, word, tips, nodes, parents}
use Rattle.tree_check.specs.lemmas.TableParts.{rest, table_of, to_parts, of_parts}
use Rattle.tree_check.specs.lemmas.TableParts.{parents-length, table_of-parts}
use Rattle.tree_check.specs.Refusals.{refusal}
use Rattle.tree_check.specs.theorems.RefusalLaws.{if_accepted_lem, if_refused}
use Rattle.walks.specs.lemmas.TreeArrays.{tree_arrays}
use Rattle.counting.specs.Labels.{Labels}
use Rattle.pair_check.specs.PairOrder.{PairWithCells, MarkedPair, cells_order, pair_order}
use Rattle.pair_check.specs.theorems.PairCheck.{cells_check, pair_check}
use Rattle.pair_check.specs.lemmas.PairOutcomes.{edges_some}
use Rattle.tree_pairs.specs.Crossings.{crossed, crossed_kept, crossed_all, after_crossings, after_all}
use Rattle.tree_pairs.specs.lemmas.Filling.{PairArrays}
use Rattle.tree_pairs.specs.lemmas.LentTables.{lent_parents}

-- the first word is the number of tips, ..
pub lent_tips : (t : Table) (n : ℕ) → n ≡ word t 0 → n ≡ tips t
unfolding tips
lent_tips t n e = e

-- .. the second that of nodes
pub lent_nodes : (t : Table) (m : ℕ) → m ≡ word t 1 → m ≡ nodes t
unfolding nodes
lent_nodes t m e = e

-- the labels `&t[2 + m..]`
abbrev lent_labels : Table → ℕ → List ℕ
lent_labels t m = rest (2 + m) t

module _ (t u : Table) (work : List ℕ) (h : PairWithCells t u (length work)) (n m : ℕ)
    (en : n ≡ word t 0) (em : m ≡ word t 1) where
  pub lent_length : length t ≡ 2 + 2 * m
  lent_length = omega (arith, h.pair.first.words, lent_nodes t m em)

  pub lent_arrays : PairArrays n (lent_parents t m) (lent_labels t m) u work
  lent_arrays = to_parts (λ x ps ls. PairArrays x ps ls u work) t n m h.pair.first.words (lent_tips t n en) (lent_nodes t m em)
      (record {
        first = tree_arrays t h.pair.first;
        second = h.pair.second;
        tips_are = sym h.pair.same_tips;
        room = rw (parents-length t h.pair.first.words) h.room;
      })

  pub lent_crossed : (ks new : List ℕ) → new ≡ crossed_kept (table_of n (lent_parents t m) (lent_labels t m)) u ks work
      → new ≡ crossed_kept t u ks work
  lent_crossed ks new e =
      of_parts (λ x ps ls. new ≡ crossed_kept (table_of x ps ls) u ks work)
      t n m h.pair.first.words (lent_tips t n en) (lent_nodes t m em) e
      ∙ ap (λ (x : Table). crossed_kept x u ks work) (table_of-parts t h.pair.first.words)

-- ---- a pair that was checked, as its answer tells it

-- the nodes of a table, from its edges
pub nodes_are : (t u : Table) (cells : ℕ) → PairWithCells t u cells → (rows columns : ℕ) → rows ≡ nodes t - 1
    → columns ≡ nodes u - 1 → (rows + 1 ≡ nodes t) × (columns + 1 ≡ nodes u)
nodes_are t u cells p rows columns er ec =
    (omega (arith, edges_some t p.pair.first), omega (arith, edges_some u p.pair.second))

-- both tables have their parents
pub lent_words : (t u : Table) (cells : ℕ) → PairWithCells t u cells → (m k : ℕ) → m ≡ nodes t → k ≡ nodes u
    → (2 + m ≤ length t) × (2 + k ≤ length u)
lent_words t u cells p m k em ek =
    (omega (arith, p.pair.first.words), omega (arith, p.pair.second.words))

-- ---- the lent cells afterwards

module _ (t u : Table) (marks work new : List ℕ) where
  pub crossings_accepted : MarkedPair t u marks (length work) → new ≡ crossed_kept t u marks work
      → new ≡ after_crossings t u marks work
  unfolding after_crossings
  crossings_accepted p h = h ∙ sym (if_accepted_lem _ _ _ ((pair_check t u marks (length work)).1 p))

  pub crossings_are : MarkedPair t u marks (length work) → new ≡ after_crossings t u marks work
      → new ≡ crossed_kept t u marks work
  unfolding after_crossings
  crossings_are p h = h ∙ if_accepted_lem _ _ _ ((pair_check t u marks (length work)).1 p)

pub crossings_refused : (t u : Table) (marks work : List ℕ) (k : ℕ) → k ≡ refusal (pair_order t u marks (length work))
    → k ≢ 0 → work ≡ after_crossings t u marks work
unfolding after_crossings
crossings_refused t u marks work k e d = sym (if_refused _ _ _ (λ z. d (e ∙ z)))

-- .. of all labels
module _ (t u : Table) (work new : List ℕ) where
  pub all_accepted : PairWithCells t u (length work) → new ≡ crossed_all t u work → new ≡ after_all t u work
  unfolding after_all
  all_accepted p h = h ∙ sym (if_accepted_lem _ _ _ ((cells_check t u (length work)).1 p))

  pub all_are : PairWithCells t u (length work) → new ≡ after_all t u work → new ≡ crossed_all t u work
  unfolding after_all
  all_are p h = h ∙ if_accepted_lem _ _ _ ((cells_check t u (length work)).1 p)

pub all_refused : (t u : Table) (work : List ℕ) (k : ℕ) → k ≡ refusal (cells_order t u (length work))
    → k ≢ 0 → work ≡ after_all t u work
unfolding after_all
all_refused t u work k e d = sym (if_refused _ _ _ (λ z. d (e ∙ z)))

-- what holds of the crossings of labels, of how many they are, and of the tips and parents of a pair holds of the cells, the
-- numbers and the parts that code lends, and back
module _ (P : List ℕ → ℕ → ℕ → List ℕ → List ℕ → Type 0) (l : Labels) (t u : Table) (work new : List ℕ)
    (p : PairWithCells t u (length work)) (w : new ≡ crossed l t u work)
    (c n m k : ℕ) (ec : c ≡ l.number) (en : n ≡ tips t) (em : m ≡ nodes t) (ek : k ≡ nodes u) where
  pub to_lent : P (crossed l t u work) l.number (tips t) (parents t) (parents u)
      → P new c n (lent_parents t m) (lent_parents u k)
  to_lent h =
      subst (λ (x : List ℕ). P x c n (lent_parents t m) (lent_parents u k)) (sym w)
      (subst (λ (x : ℕ). P (crossed l t u work) x n (lent_parents t m) (lent_parents u k)) (sym ec)
      (to_parts (λ x ps ls. P (crossed l t u work) l.number x ps (lent_parents u k)) t n m p.pair.first.words en em
      (to_parts (λ x qs ls. P (crossed l t u work) l.number (tips t) (parents t) qs)
      u (tips u) k p.pair.second.words refl ek h)))

  pub of_lent : P new c n (lent_parents t m) (lent_parents u k)
      → P (crossed l t u work) l.number (tips t) (parents t) (parents u)
  of_lent h =
      of_parts (λ x qs ls. P (crossed l t u work) l.number (tips t) (parents t) qs)
      u (tips u) k p.pair.second.words refl ek
      (of_parts (λ x ps ls. P (crossed l t u work) l.number x ps (lent_parents u k)) t n m p.pair.first.words en em
      (subst (λ (x : ℕ). P (crossed l t u work) x n (lent_parents t m) (lent_parents u k)) ec
      (subst (λ (x : List ℕ). P x c n (lent_parents t m) (lent_parents u k)) w h)))
