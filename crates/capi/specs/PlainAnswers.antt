-- The answers of the libraries as plain structs, field by field.
-- Assumes nothing.
use Rattle.std.specs.Prelude.{false, ℕ, zero, suc, pos, Float}
use Rattle.std.specs.Float.{fin}
use Rattle.walks.specs.declared.edges.PartBeyond.{PartBeyond}
use Rattle.trees.specs.declared.centres.CentreAnswer as trees-centre
use Rattle.trees.specs.declared.quartet.TopologyAnswer as trees-topology
use Rattle.trees.specs.Topology.{butterfly_of, partner_of}
use Rattle.trees.specs.Witness.{is_edge, witness_number}
use Rattle.evidence.specs.declared.shown.EvidenceAnswer as shown
use Rattle.counting.specs.Cases.{case_number}
use Rattle.splits.specs.declared.counts.SplitCounts.{SplitCounts}
use Rattle.claims.specs.declared.totals.ClaimSums.{ClaimSums}
use Rattle.quartets.specs.declared.tables.QuartetTable.{QuartetTable}
use Rattle.triplets.specs.declared.tables.TripletTable.{TripletTable}
use Rattle.weights.specs.declared.weight.Weight.{Weight}
use Rattle.weights.specs.declared.weight.Weight.TheVariants.{None, Full, Part}
use Rattle.weights.specs.declared.distances.WeightedDistance.{WeightedDistance}
use Rattle.capi.specs.declared.answers.BeyondAnswer.{BeyondAnswer}
use Rattle.capi.specs.declared.answers.CentreAnswer.{CentreAnswer}
use Rattle.capi.specs.declared.answers.TopologyAnswer.{TopologyAnswer}
use Rattle.capi.specs.declared.answers.ClaimSumsAnswer.{ClaimSumsAnswer}
use Rattle.capi.specs.declared.answers.QuartetTableAnswer.{QuartetTableAnswer}
use Rattle.capi.specs.declared.answers.SplitCountsAnswer.{SplitCountsAnswer}
use Rattle.capi.specs.declared.answers.TripletTableAnswer.{TripletTableAnswer}
use Rattle.capi.specs.declared.answers.WeightedDistanceAnswer.{WeightedDistanceAnswer}
use Rattle.capi.specs.declared.answers.EvidenceAnswer.{EvidenceAnswer}

abbrev pub plain_beyond : PartBeyond → BeyondAnswer
plain_beyond a = record { refusal = a.refusal; start = a.start; labels = a.count }

abbrev pub plain_centre : trees-centre.CentreAnswer → CentreAnswer
plain_centre a = record { refusal = a.refusal; node = a.node }

abbrev pub plain_topology : trees-topology.TopologyAnswer → TopologyAnswer
plain_topology a = record {
  refusal = a.refusal;
  butterfly = butterfly_of a.topology;
  partner = partner_of a.topology;
}

abbrev pub plain_claims : ClaimSums → ClaimSumsAnswer
plain_claims a = record {
  refusal = a.refusal;
  first = a.first;
  second = a.second;
  same = a.same;
  different = a.different;
}

abbrev pub plain_table : QuartetTable → QuartetTableAnswer
plain_table a = record {
  refusal = a.refusal;
  a = a.a;
  b = a.b;
  c = a.c;
  d = a.d;
  e = a.e;
  distance = a.distance;
}

-- .. and back, to read demand 3 of it
abbrev pub library_table : QuartetTableAnswer → QuartetTable
library_table a = record {
  refusal = a.refusal;
  a = a.a;
  b = a.b;
  c = a.c;
  d = a.d;
  e = a.e;
  distance = a.distance;
}

abbrev pub plain_splits : SplitCounts → SplitCountsAnswer
plain_splits a = record {
  refusal = a.refusal;
  first = a.first;
  second = a.second;
  common = a.common;
  distance = a.distance;
}

abbrev pub plain_triplets : TripletTable → TripletTableAnswer
plain_triplets a = record {
  refusal = a.refusal;
  a = a.a;
  b = a.b;
  c = a.c;
  d = a.d;
  e = a.e;
  distance = a.distance;
}

-- a weight as two numbers, its kind and its fraction: 0 is nothing, 1 full, 2 a part; any other kind is the fraction 2, which
-- is refused as no k/256
unfoldable pub weight_of : ℕ → Float → Weight
weight_of zero x = None
weight_of (suc zero) x = Full
weight_of (suc (suc zero)) x = Part x
weight_of (suc (suc (suc kind))) x = Part (fin false 1 (pos 1))

abbrev pub plain_weighted : WeightedDistance → WeightedDistanceAnswer
plain_weighted a = record { refusal = a.refusal; distance = a.distance }

abbrev pub plain_evidence : shown.EvidenceAnswer → EvidenceAnswer
plain_evidence a = record {
  refusal = a.refusal;
  which = case_number a.which;
  first_edge = is_edge a.first;
  first_number = witness_number a.first;
  second_edge = is_edge a.second;
  second_number = witness_number a.second;
}
