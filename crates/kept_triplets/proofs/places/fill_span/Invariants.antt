-- The invariant: the places of the span before `k` have the value.
-- Assumes nothing.
use mathlib.Core.Path.{◌≡◌}
use mathlib.Core.Logic.{◌⊎◌}
use Prim.Native.Nat.{◌≤◌}
use Rattle.kept_triplets.specs.lemmas.Weighing.{SpanFilled}
use Rattle.kept_triplets.proofs.places.fill_span.Given as goal

abbrev pub invariant-loop-k : goal.invariant-loop-k
invariant-loop-k l = ((l.k ≤ l.end) ⊎ (l.k ≡ l.begin)) × SpanFilled l.begin l.end l.k l.value l.initial.weights l.weights
