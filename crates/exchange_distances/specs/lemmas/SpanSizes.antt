-- The sizes of nodes, from where their spans begin and end.
-- Assumes nothing.
use Rattle.std.specs.Prelude.{◌≡◌, List, ℕ, ◌+◌, ◌-◌, ◌≤◌, ◌<◌, length, set}
use Rattle.std.proofs.Common.{◌∙◌, arith, length-set, get_or-set_same, get_or-set_other}
use Rattle.std.proofs.Math.Decide.{ℕ_discrete}
use Rattle.table_words.specs.Sizes.{node_room}
use Rattle.tree_check.specs.Table.{word}

-- no span ends before it begins
pub record SpansFit (m : ℕ) (begin end size : List ℕ) : Type 0 where
  pub few : (1 ≤ m) × (m ≤ node_room)
  pub long : length size ≡ node_room
  pub rising : (v : ℕ) → 1 ≤ v → v < m → word begin v ≤ word end v

-- the sizes of the nodes before k
pub record SpanSizes (n k : ℕ) (begin end size : List ℕ) : Type 0 where
  pub long : length size ≡ node_room
  pub first : word size 0 ≡ n
  pub later : (v : ℕ) → 1 ≤ v → v < k → word size v ≡ word end v - word begin v

pub sizes_first : (n : ℕ) (begin end size : List ℕ) → length size ≡ node_room → SpanSizes n 1 begin end (set size 0 n)
sizes_first n begin end size e = record {
  long = length-set size 0 n ∙ e;
  first = get_or-set_same size 0 n 0 (omega arith);
  later = λ v l m. absurd (omega arith);
}

pub sizes_next : (n k : ℕ) (begin end size : List ℕ) (x : ℕ) → 1 ≤ k → k < node_room → x ≡ word end k - word begin k
    → SpanSizes n k begin end size → SpanSizes n (k + 1) begin end (set size k x)
sizes_next n k begin end size x lk l e h = record {
  long = length-set size k x ∙ h.long;
  first = get_or-set_other size k 0 x 0 (λ q. omega arith) ∙ h.first;
  later = λ v lv m. elim (ℕ_discrete v k) [
    | yes q ↦ rw q (get_or-set_same size k x 0 (omega (arith, h.long)) ∙ e)
    | no q ↦ get_or-set_other size k v x 0 q ∙ h.later v lv (omega arith)
  ];
}
