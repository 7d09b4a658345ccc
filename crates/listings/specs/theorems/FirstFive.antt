-- The first five lines of a listing are those from `leaves` to `splits`; the triplets have no part in them.
-- Assumes nothing.
use Rattle.std.specs.Prelude.{◌≡◌, refl, ◌≢◌, true, false, List, [], ◌∷◌, ◌++◌, ℕ, zero, suc, ◌+◌, ◌/◌, ◌%◌, eqb}
use Rattle.std.proofs.Common.{sym, ◌∙◌, ap, append_assoc, append-nil, add_assoc, arith, eq-eqb, ne_eqb, lt-ltb}
use Rattle.std.proofs.Math.Decide.{dec_le}
use Rattle.listings.specs.declared.figures.Figures.{Figures}
use Rattle.listings.specs.Decimal.{last_digit, decimal_in, decimal_of}
use Rattle.listings.specs.Lines.{spaced, spaced_all, line}
use Rattle.listings.specs.Listing.{leaves_word, claims_word, quartets_word, distance_word, splits_word}
use Rattle.listings.specs.Listing.{first_lines, quartet_lines, split_line, triplet_line, lines, listed}
use Rattle.listings.specs.lemmas.DecimalLaws.{few_digits, more_digits}

-- the first k lines of a text, each with its line end
unfoldable pub lines_of : ℕ → List ℕ → List ℕ
lines_of zero bytes = []
lines_of (suc k) [] = []
lines_of (suc k) (b ∷ bytes) = b ∷ elim (eqb b 10) [ true ↦ lines_of k bytes | false ↦ lines_of (suc k) bytes ]

-- ---- bytes with no line end

abbrev Within : List ℕ → Type 0
Within bytes = (k : ℕ) (rest : List ℕ) → lines_of (suc k) (bytes ++ rest) ≡ bytes ++ lines_of (suc k) rest

byte_within : (b : ℕ) → b ≢ 10 → Within (b ∷ [])
unfolding lines_of
byte_within b d k rest = rw (ne_eqb b 10 d, lines_of)

both_within : (a b : List ℕ) → Within a → Within b → Within (a ++ b)
both_within a b h g k rest =
    ap (lines_of (suc k)) (append_assoc a b rest)
    ∙ h k (b ++ rest)
    ∙ ap (λ (x : List ℕ). a ++ x) (g k rest)
    ∙ sym (append_assoc a b (lines_of (suc k) rest))

digit_within : (n : ℕ) → Within (last_digit n)
digit_within n = rw (lt-ltb (n % 10) 10 (omega arith)) (byte_within (48 + n % 10) (λ e. omega (arith, e)))

decimal_within : (k n : ℕ) → Within (decimal_in k n)
unfolding decimal_in
decimal_within zero n = digit_within n
decimal_within (suc k) n = elim (dec_le 10 n) [
  | yes l ↦ rw (more_digits k n l) (both_within (decimal_in k (n / 10)) (last_digit n) (decimal_within k (n / 10)) (digit_within n))
  | no d ↦ rw (few_digits (suc k) n (omega arith)) (digit_within n)
]

spaced_within : (n : ℕ) → Within (spaced n)
unfolding spaced decimal_of
spaced_within n = both_within (32 ∷ []) (decimal_in n n) (byte_within 32 (λ e. omega (arith, e))) (decimal_within n n)

numbers_within : (ns : List ℕ) → Within (spaced_all ns)
unfolding spaced_all
numbers_within [] = λ k rest. refl
numbers_within (n ∷ ns) = both_within (spaced n) (spaced_all ns) (spaced_within n) (numbers_within ns)

-- ---- bytes that are so many lines

abbrev Are : ℕ → List ℕ → Type 0
Are i bytes = (k : ℕ) (rest : List ℕ) → lines_of (i + k) (bytes ++ rest) ≡ bytes ++ lines_of k rest

both_are : (i j : ℕ) (a b : List ℕ) → Are i a → Are j b → Are (i + j) (a ++ b)
both_are i j a b h g k rest =
    ap (λ (x : ℕ). lines_of x ((a ++ b) ++ rest)) (add_assoc i j k)
    ∙ ap (lines_of (i + (j + k))) (append_assoc a b rest)
    ∙ h (j + k) (b ++ rest)
    ∙ ap (λ (x : List ℕ). a ++ x) (g k rest)
    ∙ sym (append_assoc a b (lines_of k rest))

line_is : (word ns : List ℕ) → Within word → Are 1 (line word ns)
unfolding line lines_of
line_is word ns h k rest =
    ap (λ (x : ℕ). lines_of x (line word ns ++ rest)) one
    ∙ ap (λ (x : List ℕ). lines_of (suc k) (x ++ rest)) (sym whole)
    ∙ ap (lines_of (suc k)) (append_assoc front (10 ∷ []) rest)
    ∙ both_within word (spaced_all ns) h (numbers_within ns) k (10 ∷ rest)
    ∙ sym (append_assoc front (10 ∷ []) (lines_of k rest))
    ∙ ap (λ (x : List ℕ). x ++ lines_of k rest) whole
  where
    front : List ℕ
    front = word ++ spaced_all ns

    whole : front ++ (10 ∷ []) ≡ line word ns
    whole = append_assoc word (spaced_all ns) (10 ∷ [])

    one : 1 + k ≡ suc k
    one = omega arith

two_lines_are : (word ns other ms : List ℕ) → Within word → Within other → Are 2 (line word ns ++ line other ms)
two_lines_are word ns other ms h g =
    both_are 1 1 (line word ns) (line other ms) (line_is word ns h) (line_is other ms g)

-- ---- the lines of a listing

first_are : (f : Figures) → Are 2 (first_lines f)
unfolding first_lines lines_of
first_are f =
    two_lines_are leaves_word (f.tips ∷ []) claims_word
    (f.claims.first ∷ f.claims.second ∷ f.claims.same ∷ f.claims.different ∷ [])
    (λ k rest. refl) (λ k rest. refl)

quartets_are : (f : Figures) → Are 2 (quartet_lines f)
unfolding quartet_lines lines_of
quartets_are f =
    two_lines_are quartets_word
    (f.quartets.a ∷ f.quartets.b ∷ f.quartets.c ∷ f.quartets.d ∷ f.quartets.e ∷ [])
    distance_word (f.distance ∷ []) (λ k rest. refl) (λ k rest. refl)

splits_are : (f : Figures) → Are 1 (split_line f)
unfolding split_line lines_of
splits_are f = line_is splits_word _ (λ k rest. refl)

five_are : (f : Figures) → Are 5 (first_lines f ++ quartet_lines f ++ split_line f)
five_are f =
    both_are 4 1 (first_lines f ++ quartet_lines f) (split_line f)
    (both_are 2 2 (first_lines f) (quartet_lines f) (first_are f) (quartets_are f)) (splits_are f)

-- so a listing of these five lines alone is compared with the first five
pub first-five-lines : (f : Figures) → f.refusal ≡ 0
    → lines_of 5 (listed f) ≡ first_lines f ++ quartet_lines f ++ split_line f
unfolding listed lines lines_of
first-five-lines f e =
    rw (eq-eqb f.refusal 0 e, listed)
    (five_are f 0 (triplet_line f) ∙ append-nil (first_lines f ++ quartet_lines f ++ split_line f))
