-- The answers for a tree with two labels exchanged as plain structs: the number, and the tallies or the distance.
-- Assumes nothing.
use Rattle.exchange_distances.specs.declared.distances.ExchangeDistance.{ExchangeDistance}
use Rattle.exchange_distances.specs.declared.tallies.ExchangeAnswer as library
use Rattle.capi.specs.declared.answers.ExchangeAnswer.{ExchangeAnswer}
use Rattle.capi.specs.declared.answers.ExchangeDistanceAnswer.{ExchangeDistanceAnswer}

abbrev pub plain_tallies : library.ExchangeAnswer → ExchangeAnswer
plain_tallies r = record { refusal = r.refusal; tallies = r.tallies }

abbrev pub plain_distance : ExchangeDistance → ExchangeDistanceAnswer
plain_distance r = record { refusal = r.refusal; distance = r.distance }
