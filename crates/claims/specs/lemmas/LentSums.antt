-- The claim sums of two tables through their parts, as code lends them.
-- Assumes nothing.
use Rattle.std.specs.Prelude.{◌≡◌, List, ℕ, length}
use Rattle.std.proofs.Math.Path.{sym}
use Rattle.std.proofs.Common.{◌∙◌}
use Rattle.tree_check.specs.Table.{Table, tips, nodes}
use Rattle.tree_check.specs.theorems.RefusalLaws.{if_accepted_lem}
use Rattle.marks.specs.Marks.{kept_of}
use Rattle.counting.specs.Labels.{Labels}
use Rattle.counting.specs.theorems.LabelLaws.{Rising}
use Rattle.counting.specs.Kept.{kept}
use Rattle.counting.proofs.theorems.KeptLaws.{kept-rising}
use Rattle.pair_check.specs.PairOrder.{MarkedPair}
use Rattle.pair_check.specs.theorems.PairCheck.{pair_check}
use Rattle.tree_pairs.specs.Crossings.{crossed, after_crossings}
use Rattle.tree_pairs.specs.lemmas.LentTables.{lent_parents}
use Rattle.tree_pairs.proofs.lemmas.LentTables.{crossings_are, to_lent, of_lent}
use Rattle.claims.specs.declared.totals.ClaimSums.{ClaimSums}
use Rattle.claims.specs.lemmas.SumsOf.{Summable, summed, summable, claims_over}
use Rattle.claims.specs.ClaimAnswer.{sums_over, claim_answer}

-- the cells of a pair, after its crossings were written
module _ (t u : Table) (marks work new : List ℕ) (p : MarkedPair t u marks (length work))
    (w : new ≡ after_crossings t u marks work) (c n m k : ℕ)
    (ec : c ≡ kept_of marks (tips t)) (en : n ≡ tips t) (em : m ≡ nodes t) (ek : k ≡ nodes u) where
  abbrev l : Labels
  l = kept marks (tips t)

  rises : Rising (tips t) l
  rises = kept-rising marks (tips t)

  written : new ≡ crossed l t u work
  written = crossings_are t u marks work new p w

  pub lent_summable : Summable new c n (lent_parents t m) (lent_parents u k)
  lent_summable =
      to_lent Summable l t u work new p.with_cells written c n m k ec en em ek (summable l t u work p.with_cells rises)

  pub lent_claims : (r : ClaimSums) → r ≡ summed new c (lent_parents t m) (lent_parents u k)
      → r ≡ claim_answer t u marks (length work)
  unfolding claim_answer
  lent_claims r q =
      of_lent (λ x y z ps qs. r ≡ summed x y ps qs) l t u work new p.with_cells written c n m k ec en em ek q
      ∙ claims_over l t u work p.with_cells rises
      ∙ sym (if_accepted_lem _ (sums_over l t u) _ ((pair_check t u marks (length work)).1 p))
