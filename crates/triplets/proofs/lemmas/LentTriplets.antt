-- The triplets of two tables through their parts, as code lends them.
-- Assumes nothing.
use Rattle.std.specs.Prelude.{◌≡◌, List, ℕ, length}
use Rattle.std.proofs.Common.{◌∙◌}
use Rattle.tree_check.specs.Table.{Table, tips, nodes}
use Rattle.counting.specs.Labels.{all}
use Rattle.pair_check.specs.PairOrder.{PairWithCells}
use Rattle.tree_pairs.specs.Crossings.{after_all}
use Rattle.tree_pairs.specs.lemmas.LentTables.{lent_parents}
use Rattle.tree_pairs.proofs.lemmas.LentTables.{all_are, to_lent, of_lent}
use Rattle.triplets.specs.declared.tables.TripletTable.{TripletTable}
use Rattle.triplets.specs.TripletAnswer.{triplet_answer}
use Rattle.triplets.specs.lemmas.TripletsCounted.{Countable, triplets_counted}
use Rattle.triplets.proofs.lemmas.TripletsCounted.{countable, triplets_accepted}

-- the cells of a pair, after its crossings were written
module _ (t u : Table) (work new : List ℕ) (p : PairWithCells t u (length work)) (w : new ≡ after_all t u work)
    (n m k : ℕ) (en : n ≡ tips t) (em : m ≡ nodes t) (ek : k ≡ nodes u) where
  pub lent_countable : Countable new n (lent_parents t m) (lent_parents u k)
  lent_countable = to_lent (λ c x y ps qs. Countable c x ps qs) (all (tips t)) t u work new p (all_are t u work new p w) n n m k en en em ek (countable t u work p)

  pub lent_triplets : (r : TripletTable) → r ≡ triplets_counted new n (lent_parents t m) (lent_parents u k)
      → r ≡ triplet_answer t u (length work)
  lent_triplets r q =
      of_lent (λ c x y ps qs. r ≡ triplets_counted c x ps qs) (all (tips t)) t u work new p (all_are t u work new p w) n n m k en en em ek q ∙ triplets_accepted t u work p
