-- The order of refusals: rules with their numbers, and the number of the first one that is broken
-- (docs/SPECIFICATION.md, 'The first broken rule decides', 'What a refusal gives').
-- Assumes nothing.
use Rattle.std.specs.Prelude.{Bool, true, false, List, [], ◌∷◌, ℕ, zero, suc}

-- a rule's number, and whether the rule is broken
abbrev pub Rule : Type 0
Rule = ℕ × Bool

-- the number of the first rule that is broken; 0 if none is, and the input is accepted
unfoldable pub refusal : List Rule → ℕ
refusal [] = 0
refusal (r ∷ rs) = elim r.1 [ true ↦ r.0 | false ↦ refusal rs ]

-- the first of two answers if the number is 0, else the second: what a refusal gives
unfoldable pub if_accepted : {A : Type 0} → ℕ → A → A → A
if_accepted zero x y = x
if_accepted (suc k) x y = y
