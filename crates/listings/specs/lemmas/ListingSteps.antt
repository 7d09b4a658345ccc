-- What the code's steps to a listing leave.
-- Assumes nothing.
use Rattle.std.specs.Prelude.{◌≡◌, ◌≢◌, List, [], ◌∷◌, ◌++◌, ℕ, ◌+◌, ◌≤◌, ◌<◌, take, drop}
use Rattle.std.proofs.Common.{sym, ◌∙◌, subst, append_assoc, zero-add, arith, length-append, length-take-le}
use Rattle.std.proofs.Math.Path.{ap}
use Rattle.std.proofs.Math.Bool.{true, false}
use Rattle.std.proofs.Math.Decide.{dec_le}
use Rattle.std.proofs.Math.Dec.{leb}
use Rattle.std.proofs.Math.ListN.{length}
use Rattle.std.proofs.Math.Seq.{take-append_seam}
use borrow.Author.Tests.{eq-eqb, ne_eqb, le-leb, lt-leb}
use Rattle.io.specs.Counts.{IsPrefixLen}
use Rattle.listings.specs.declared.figures.Figures.{Figures}
use Rattle.listings.specs.Lines.{line}
use Rattle.listings.specs.lemmas.Written.{TextWritten, text_written, written_both}
use Rattle.listings.specs.Listing.{leaves_word, claims_word, quartets_word, distance_word}
use Rattle.listings.specs.Listing.{splits_word, triplets_word, refused_word}
use Rattle.listings.specs.Listing.{first_lines, quartet_lines, split_line, triplet_line, lines, listed}
use Rattle.listings.specs.Listing.{after_listing, bytes_listed}
use Rattle.listings.specs.Listing.{text_room}

-- ---- the lines, one after the other

module _ (f : Figures) (at : ℕ) (old : List ℕ) (middle : ℕ) (new : List ℕ) (end : ℕ) (last : List ℕ) where
  pub first_lines-written : (tips : ℕ) → tips ≡ f.tips → TextWritten at old (line leaves_word (tips ∷ [])) middle new
      → TextWritten middle new
      (line claims_word (f.claims.first ∷ f.claims.second ∷ f.claims.same ∷ f.claims.different ∷ [])) end last
      → TextWritten at old (first_lines f) end last
  unfolding first_lines
  first_lines-written tips e h g =
      written_both at old _ middle new _ end last
      (subst (λ (x : ℕ). TextWritten at old (line leaves_word (x ∷ [])) middle new) e h) g

  pub quartet_lines-written :
      TextWritten at old
      (line quartets_word (f.quartets.a ∷ f.quartets.b ∷ f.quartets.c ∷ f.quartets.d ∷ f.quartets.e ∷ []))
      middle new
      → TextWritten middle new (line distance_word (f.distance ∷ [])) end last → TextWritten at old (quartet_lines f) end last
  unfolding quartet_lines
  quartet_lines-written h g = written_both at old _ middle new _ end last h g

  pub last_lines-written : (a b c d : ℕ)
      → a ≡ f.splits.first → b ≡ f.splits.second → c ≡ f.splits.common → d ≡ f.splits.distance
      → TextWritten at old (line splits_word (a ∷ b ∷ c ∷ d ∷ [])) middle new
      → TextWritten middle new
      (line triplets_word (f.triplets.a ∷ f.triplets.b ∷ f.triplets.c ∷ f.triplets.d ∷ f.triplets.e ∷ []))
      end last
      → TextWritten at old (split_line f ++ triplet_line f) end last
  unfolding split_line triplet_line
  last_lines-written a b c d ea eb ec ed h g =
      written_both at old (split_line f) middle new (triplet_line f) end last (rw (← ea, ← eb, ← ec, ← ed) h) g

pub lines-written : (f : Figures) (old : List ℕ) (i j k : ℕ) (one two three : List ℕ)
    → TextWritten 0 old (first_lines f) i one → TextWritten i one (quartet_lines f) j two
    → TextWritten j two (split_line f ++ triplet_line f) k three → TextWritten 0 old (lines f) k three
unfolding lines
lines-written f old i j k one two three a b c =
    subst (λ (x : List ℕ). TextWritten 0 old x k three)
    (sym (append_assoc (first_lines f ++ quartet_lines f) (split_line f) (triplet_line f)))
    (written_both 0 old _ j two _ k three (written_both 0 old _ i one _ j two a b) c)

pub listed_accepted : (f : Figures) (old : List ℕ) (end : ℕ) (new : List ℕ) → f.refusal ≡ 0
    → TextWritten 0 old (lines f) end new → TextWritten 0 old (listed f) end new
unfolding listed
listed_accepted f old end new e h = rw (eq-eqb f.refusal 0 e, listed) h

pub listed_refused : (f : Figures) (old : List ℕ) (end : ℕ) (new : List ℕ) (k : ℕ) → k ≡ f.refusal → f.refusal ≢ 0
    → TextWritten 0 old (line refused_word (k ∷ [])) end new → TextWritten 0 old (listed f) end new
unfolding listed
listed_refused f old end new k e d h = rw (ne_eqb f.refusal 0 d, listed) (rw (← e) h)

-- ---- the listing in the lent buffer

module _ (f : Figures) (old text : List ℕ) (n : ℕ) (new : List ℕ) (h : TextWritten 0 text (listed f) n new)
    (m : n ≤ text_room) where
  bytes : take n new ≡ listed f
  bytes = h.text

  count : n ≡ length (listed f)
  count = omega (arith, h.long)

  pub listing_fits : n ≤ length old → (r : ℕ) (last : List ℕ) → r ≡ 0 + length (take n new)
      → last ≡ text_written 0 (take n new) old
      → (r ≡ bytes_listed f old) × (last ≡ after_listing f old) × (length (listed f) ≤ text_room)
  unfolding bytes_listed after_listing text_written
  listing_fits l r last er el = (
    rw (fits, bytes_listed) (omega (arith, ap length bytes)),
    rw (fits, after_listing) (el ∙ after),
    omega (arith, count),
  )
    where
      fits : leb (length (listed f)) (length old) ≡ true
      fits = le-leb (length (listed f)) (length old) (omega (arith, count))

      after : text_written 0 (take n new) old ≡ listed f ++ drop (length (listed f)) old
      after = rw bytes (rw (zero-add, text_written))

  pub listing_short : length old < n
      → (0 ≡ bytes_listed f old) × (old ≡ after_listing f old) × (length (listed f) ≤ text_room)
  unfolding bytes_listed after_listing
  listing_short l = (rw (short, bytes_listed), rw (short, after_listing), omega (arith, count))
    where
      short : leb (length (listed f)) (length old) ≡ false
      short = lt-leb (length (listed f)) (length old) (omega (arith, count))

-- the bytes that are told are in the buffer
bytes_listed-le : (f : Figures) (old : List ℕ) → bytes_listed f old ≤ length (after_listing f old)
unfolding bytes_listed after_listing
bytes_listed-le f old = elim (dec_le (length (listed f)) (length old)) [
  | yes l ↦ rw (le-leb (length (listed f)) (length old) l, bytes_listed, after_listing)
      (omega (arith, length-append (listed f) (drop (length (listed f)) old)))
  | no d ↦ rw (lt-leb (length (listed f)) (length old) (omega arith), bytes_listed, after_listing) (omega arith)
]

pub listing_counts : (f : Figures) (old : List ℕ) (r : ℕ) (new : List ℕ)
    → r ≡ bytes_listed f old → new ≡ after_listing f old → IsPrefixLen r new
listing_counts f old r new er en = rw (er, en) (
  bytes_listed-le f old,
  sym (length-take-le (bytes_listed f old) (after_listing f old) (bytes_listed-le f old)),
)

-- 512 bytes hold a listing that has no more: the bytes that are told are the listing
pub listing_in_room : (f : Figures) (old : List ℕ) → length (listed f) ≤ text_room → text_room ≤ length old
    → take (bytes_listed f old) (after_listing f old) ≡ listed f
unfolding bytes_listed after_listing
listing_in_room f old l m =
    rw (fits, bytes_listed, after_listing) (take-append_seam (listed f) (drop (length (listed f)) old))
  where
    fits : leb (length (listed f)) (length old) ≡ true
    fits = le-leb (length (listed f)) (length old) (omega arith)
