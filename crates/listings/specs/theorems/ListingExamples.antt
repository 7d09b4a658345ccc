-- The listing of P and Q, and of two refusals, computed (docs/SPECIFICATION.md, 'The listing').
-- Assumes nothing.
use Rattle.std.specs.Prelude.{◌≡◌, refl, [], ◌∷◌}
use Rattle.listings.specs.declared.figures.Figures.{Figures}
use Rattle.listings.specs.Decimal.{decimal_in, decimal_of}
use Rattle.listings.specs.Lines.{spaced, spaced_all, line}
use Rattle.listings.specs.Listing.{of_refusal, first_lines, quartet_lines, split_line, triplet_line, lines, listed}

-- the figures of P and Q, K1
abbrev pub of_p_and_q : Figures
of_p_and_q = record {
  refusal = 0;
  tips = 5;
  claims = record { first = 10; second = 6; same = 6; different = 0 };
  quartets = record { a = 3; b = 0; c = 2; d = 0; e = 0 };
  distance = 2;
  splits = record { first = 2; second = 1; common = 1; distance = 1 };
  triplets = record { a = 3; b = 0; c = 1; d = 0; e = 0 };
}

-- leaves 5
-- claims 10 6 6 0
-- quartets 3 0 2 0 0
-- distance 2
-- splits 2 1 1 1
-- triplets 3 0 1 0 0
pub listing_of_P_and_Q :
    listed of_p_and_q
    ≡ 108 ∷ 101 ∷ 97 ∷ 118 ∷ 101 ∷ 115 ∷ 32 ∷ 53 ∷ 10
    ∷ 99 ∷ 108 ∷ 97 ∷ 105 ∷ 109 ∷ 115 ∷ 32 ∷ 49 ∷ 48 ∷ 32 ∷ 54 ∷ 32 ∷ 54 ∷ 32 ∷ 48 ∷ 10
    ∷ 113 ∷ 117 ∷ 97 ∷ 114 ∷ 116 ∷ 101 ∷ 116 ∷ 115 ∷ 32 ∷ 51 ∷ 32 ∷ 48 ∷ 32 ∷ 50 ∷ 32 ∷ 48 ∷ 32 ∷ 48 ∷ 10
    ∷ 100 ∷ 105 ∷ 115 ∷ 116 ∷ 97 ∷ 110 ∷ 99 ∷ 101 ∷ 32 ∷ 50 ∷ 10
    ∷ 115 ∷ 112 ∷ 108 ∷ 105 ∷ 116 ∷ 115 ∷ 32 ∷ 50 ∷ 32 ∷ 49 ∷ 32 ∷ 49 ∷ 32 ∷ 49 ∷ 10
    ∷ 116 ∷ 114 ∷ 105 ∷ 112 ∷ 108 ∷ 101 ∷ 116 ∷ 115 ∷ 32 ∷ 51 ∷ 32 ∷ 48 ∷ 32 ∷ 49 ∷ 32 ∷ 48 ∷ 32 ∷ 48 ∷ 10 ∷ []
unfolding listed lines first_lines quartet_lines split_line triplet_line line spaced_all spaced decimal_of decimal_in
listing_of_P_and_Q = refl

-- refused 4
pub listing_of_refusal_4 : listed (of_refusal 4) ≡ 114 ∷ 101 ∷ 102 ∷ 117 ∷ 115 ∷ 101 ∷ 100 ∷ 32 ∷ 52 ∷ 10 ∷ []
unfolding listed line spaced_all spaced decimal_of decimal_in
listing_of_refusal_4 = refl

-- refused 101
pub listing_of_refusal_101 :
    listed (of_refusal 101) ≡ 114 ∷ 101 ∷ 102 ∷ 117 ∷ 115 ∷ 101 ∷ 100 ∷ 32 ∷ 49 ∷ 48 ∷ 49 ∷ 10 ∷ []
unfolding listed line spaced_all spaced decimal_of decimal_in
listing_of_refusal_101 = refl
