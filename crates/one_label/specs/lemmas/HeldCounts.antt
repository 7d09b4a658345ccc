-- The marks with two exchanged, and the sets that hold a label from the re-rooted tables.
-- Assumes nothing.
use Rattle.std.specs.Prelude.{◌≡◌, List, ℕ, ◌≤◌, ◌<◌, length}
use Rattle.sums.specs.Swaps.{swapped}
use Rattle.table_words.specs.Sizes.{tips_most}
use Rattle.tree_check.specs.Table.{Table, word}
use Rattle.counting.specs.declared.Case.{Case}
use Rattle.triplets.specs.declared.tables.TripletTable.{TripletTable}
use Rattle.one_label.specs.declared.answers.FiveCounts.{FiveCounts}
use Rattle.counting.specs.Holding.{holding_kept}
use Rattle.one_label.specs.Changes.{total_of}
use Rattle.one_label.specs.FiveAnswers.{counts_of}

-- the first k marks are copied
pub record MarksCopied (marks : List ℕ) (k : ℕ) (out : List ℕ) : Type 0 where
  pub long : length out ≡ tips_most
  pub mark : (y : ℕ) → y < k → word out y ≡ word marks y

-- the marks, with those of 0 and x exchanged
pub record MarksExchanged (marks : List ℕ) (x : ℕ) (out : List ℕ) : Type 0 where
  pub long : length out ≡ tips_most
  pub mark : (y : ℕ) → y < length marks → word out y ≡ word marks (swapped 0 x y)

-- the five counts are those of the sets that hold x, and are few
pub record HeldAre (t u : Table) (marks : List ℕ) (x : ℕ) (r : FiveCounts) : Type 0 where
  pub held_is : (k : Case) → counts_of r k ≡ holding_kept t u marks x k
  pub few : total_of (counts_of r) ≤ 2731135

-- the five counts of a table
abbrev pub five_counts : TripletTable → FiveCounts
five_counts r = record { a = r.a; b = r.b; c = r.c; d = r.d; e = r.e }
