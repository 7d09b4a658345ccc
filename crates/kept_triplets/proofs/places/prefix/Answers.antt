-- Each place of the span adds 1.
-- Assumes nothing.
use Rattle.std.proofs.Common.{rules}
use Prim.Native.Nat.{ℕ}
use Rattle.sums.specs.Bits.{bit}
use Rattle.sums.specs.theorems.BitLaws.{bit_le}
use Rattle.walks.specs.theorems.SpanLaws.{in_span}
use Rattle.kept_triplets.proofs.places.prefix.Goals as goal

pub running_sums-requires-clause-low : goal.running_sums-requires-clause-low
running_sums-requires-clause-low c = λ p n k. search (rules, bit_le (in_span p c.args.begin c.args.end))

pub returns : goal.returns
returns c = record {
  long = c.running_sums.ensures.long;
  sum_is = c.running_sums.ensures.sums (λ (p : ℕ). bit (in_span p c.args.begin c.args.end)) (λ p n k. search rules);
}
