-- What the comparing program prints of a comparison.
-- Assumes nothing.
use Rattle.std.specs.Prelude.{true, false, List, [], ◌∷◌, ◌++◌, ℕ, eqb, leb, length, drop}
use Rattle.listings.specs.declared.figures.Figures.{Figures}
use Rattle.listings.specs.Lines.{line}

-- the number of a refusal, and zeros
abbrev pub of_refusal : ℕ → Figures
of_refusal number = record {
  refusal = number;
  tips = 0;
  claims = record { first = 0; second = 0; same = 0; different = 0 };
  quartets = record { a = 0; b = 0; c = 0; d = 0; e = 0 };
  distance = 0;
  splits = record { first = 0; second = 0; common = 0; distance = 0 };
  triplets = record { a = 0; b = 0; c = 0; d = 0; e = 0 };
}

-- ---- the words of the lines, in ASCII

abbrev pub leaves_word : List ℕ
leaves_word = 108 ∷ 101 ∷ 97 ∷ 118 ∷ 101 ∷ 115 ∷ []

abbrev pub claims_word : List ℕ
claims_word = 99 ∷ 108 ∷ 97 ∷ 105 ∷ 109 ∷ 115 ∷ []

abbrev pub quartets_word : List ℕ
quartets_word = 113 ∷ 117 ∷ 97 ∷ 114 ∷ 116 ∷ 101 ∷ 116 ∷ 115 ∷ []

abbrev pub distance_word : List ℕ
distance_word = 100 ∷ 105 ∷ 115 ∷ 116 ∷ 97 ∷ 110 ∷ 99 ∷ 101 ∷ []

abbrev pub splits_word : List ℕ
splits_word = 115 ∷ 112 ∷ 108 ∷ 105 ∷ 116 ∷ 115 ∷ []

abbrev pub triplets_word : List ℕ
triplets_word = 116 ∷ 114 ∷ 105 ∷ 112 ∷ 108 ∷ 101 ∷ 116 ∷ 115 ∷ []

abbrev pub refused_word : List ℕ
refused_word = 114 ∷ 101 ∷ 102 ∷ 117 ∷ 115 ∷ 101 ∷ 100 ∷ []

-- ---- the lines

-- n; S, S', S2 and S3
unfoldable pub first_lines : Figures → List ℕ
first_lines f =
    line leaves_word (f.tips ∷ [])
    ++ line claims_word (f.claims.first ∷ f.claims.second ∷ f.claims.same ∷ f.claims.different ∷ [])

-- A to E of the quartets; the distance
unfoldable pub quartet_lines : Figures → List ℕ
quartet_lines f =
    line quartets_word
    (f.quartets.a ∷ f.quartets.b ∷ f.quartets.c ∷ f.quartets.d ∷ f.quartets.e ∷ [])
    ++ line distance_word (f.distance ∷ [])

-- the four split counts
unfoldable pub split_line : Figures → List ℕ
split_line f =
    line splits_word (f.splits.first ∷ f.splits.second ∷ f.splits.common ∷ f.splits.distance ∷ [])

-- A to E of the triplets
unfoldable pub triplet_line : Figures → List ℕ
triplet_line f =
    line triplets_word
    (f.triplets.a ∷ f.triplets.b ∷ f.triplets.c ∷ f.triplets.d ∷ f.triplets.e ∷ [])

unfoldable pub lines : Figures → List ℕ
lines f = first_lines f ++ quartet_lines f ++ split_line f ++ triplet_line f

-- six lines, or one line for a refusal, as `refused 4`
unfoldable pub listed : Figures → List ℕ
listed f = elim (eqb f.refusal 0) [ true ↦ lines f | false ↦ line refused_word (f.refusal ∷ []) ]

-- ---- the lent buffer

-- how many bytes are always enough
abbrev pub text_room : ℕ
text_room = 512

-- a buffer that is long enough begins with the listing afterwards; any other stays as it is
unfoldable pub after_listing : Figures → List ℕ → List ℕ
after_listing f old =
    elim (leb (length (listed f)) (length old)) [ true ↦ listed f ++ drop (length (listed f)) old | false ↦ old ]

-- how many bytes of the listing are in the buffer afterwards
unfoldable pub bytes_listed : Figures → List ℕ → ℕ
bytes_listed f old = elim (leb (length (listed f)) (length old)) [ true ↦ length (listed f) | false ↦ 0 ]
