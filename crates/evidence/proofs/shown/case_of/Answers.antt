-- Each arm is a clause of `case_of`.
-- Assumes nothing.
use Rattle.evidence.proofs.lemmas.EvidenceFound.{two_butterflies_lem, first_alone, second_alone, two_stars}
use Rattle.evidence.proofs.shown.case_of.Goals as goal

pub returns-in-Butterfly-second : goal.returns-in-Butterfly-second
returns-in-Butterfly-second c =
    two_butterflies_lem _ _ _ _ _ c.in-Butterfly.is c.in-Butterfly-second.is c.butterflies.ensures

pub returns-in-Star-second : goal.returns-in-Star-second
returns-in-Star-second c = first_alone _ _ _ c.in-Butterfly.is c.in-Star-second.is

pub returns-in-Butterfly-second-2 : goal.returns-in-Butterfly-second-2
returns-in-Butterfly-second-2 c = second_alone _ _ _ c.in-Star.is c.in-Butterfly-second-2.is

pub returns-in-Star-second-2 : goal.returns-in-Star-second-2
returns-in-Star-second-2 c = two_stars _ _ c.in-Star.is c.in-Star-second-2.is
