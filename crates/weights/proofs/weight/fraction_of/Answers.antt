-- Each case has its fraction.
-- Assumes nothing.
use mathlib.Core.Path.{sym, ap}
use lib.Ieee.{of_bits}
use Rattle.weights.specs.Weights.{p_of}
use Rattle.weights.proofs.weight.fraction_of.Goals as goal

pub returns-in-None : goal.returns-in-None
unfolding of_bits
returns-in-None c = sym (ap p_of c.in-None.is)

pub returns-in-Full : goal.returns-in-Full
unfolding of_bits
returns-in-Full c = sym (ap p_of c.in-Full.is)
