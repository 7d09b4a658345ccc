-- A list whose first cells have been set one by one, each to a function's value.
-- Assumes nothing.
use Rattle.std.specs.Prelude.{◌≡◌, refl, List, ◌∷◌, ◌++◌, ℕ, zero, suc, ◌+◌, ◌≤◌, ◌<◌, length, set, take, drop, replicate}
use Rattle.std.proofs.Common.{◌∙◌, sym, ap, not-suc-le-zero, add-one, arith, length-set, get_or-set_same, get_or-set_other}
use Rattle.std.proofs.Math.Seq.{set-append_seam, drop-cons}
use Rattle.std.proofs.lemmas.List.{length-replicate, length-take-le, set-append_left, take-append-drop}
use Rattle.std.proofs.Math.Decide.{ℕ_discrete}
use Rattle.tree_check.specs.Table.{word}

-- the first k cells are f's values, the others as they were
unfoldable pub filled_to : (ℕ → ℕ) → ℕ → List ℕ → List ℕ
filled_to f zero xs = xs
filled_to f (suc k) xs = set (filled_to f k xs) k (f k)

filled-suc : (f : ℕ → ℕ) (k : ℕ) (xs : List ℕ) → filled_to f (suc k) xs ≡ set (filled_to f k xs) k (f k)
unfolding filled_to
filled-suc f k xs = refl

-- one more cell
pub filled_next : (f : ℕ → ℕ) (k v : ℕ) (xs ys : List ℕ) → ys ≡ filled_to f k xs → v ≡ f k
    → set ys k v ≡ filled_to f (k + 1) xs
filled_next f k v xs ys e h = rw (e, h, add-one, filled-suc)

-- the length stays
length-kept : (f : ℕ → ℕ) (k : ℕ) (xs : List ℕ) → length (filled_to f k xs) ≡ length xs
unfolding filled_to
length-kept f zero xs = refl
length-kept f (suc k) xs = length-set (filled_to f k xs) k (f k) ∙ length-kept f k xs

-- a cell from k on stays
pub filled_later : (f : ℕ → ℕ) (k : ℕ) (xs : List ℕ) (i : ℕ) → k ≤ i → word (filled_to f k xs) i ≡ word xs i
unfolding filled_to
filled_later f zero xs i h = refl
filled_later f (suc k) xs i h =
    get_or-set_other (filled_to f k xs) k i (f k) 0 (λ e. omega arith) ∙ filled_later f k xs i (omega arith)

-- a cell before k is f's value
filled_before : (f : ℕ → ℕ) (k : ℕ) (xs : List ℕ) (i : ℕ) → i < k → k ≤ length xs → word (filled_to f k xs) i ≡ f i
unfolding filled_to
filled_before f zero xs i h l = absurd (not-suc-le-zero h)
filled_before f (suc k) xs i h l =
    elim (ℕ_discrete i k) [
      | yes e ↦ rw e (get_or-set_same (filled_to f k xs) k (f k) 0 (rw (length-kept f k xs) l))
      | no d ↦ get_or-set_other (filled_to f k xs) k i (f k) 0 d ∙ filled_before f k xs i (omega arith) (omega arith)
    ]

-- .. in a list that is given by an equation
pub filled_at : (f : ℕ → ℕ) (k : ℕ) (xs ys : List ℕ) → k ≤ length xs → ys ≡ filled_to f k xs
    → (i : ℕ) → i < k → word ys i ≡ f i
filled_at f k xs ys l e i m = ap (λ (z : List ℕ). word z i) e ∙ filled_before f k xs i m l

-- .. of a list that is given by an equation
pub length-filled : (f : ℕ → ℕ) (k : ℕ) (xs ys : List ℕ) → ys ≡ filled_to f k xs → length ys ≡ length xs
length-filled f k xs ys e = ap length e ∙ length-kept f k xs

-- ---- the first cells as a list of their own

filled_part : (f : ℕ → ℕ) (k n : ℕ) (xs : List ℕ) → k ≤ n → n ≤ length xs
    → filled_to f k (take n xs) ++ drop n xs ≡ filled_to f k xs
unfolding filled_to
filled_part f zero n xs h l = take-append-drop n xs
filled_part f (suc k) n xs h l =
    let part = filled_to f k (take n xs) in
    let m : k < length part = omega (arith, length-kept f k (take n xs), length-take-le n xs l) in
    sym (set-append_left part (drop n xs) k (f k) m)
    ∙ ap (λ (z : List ℕ). set z k (f k)) (filled_part f k n xs (omega arith) l)

-- once all of them are set
pub filled-whole : (f : ℕ → ℕ) (k n : ℕ) (xs ys : List ℕ) → n ≤ length xs → length (take n xs) ≤ k → k ≤ length (take n xs)
    → ys ≡ filled_to f k (take n xs) → ys ++ drop n xs ≡ filled_to f n xs
filled-whole f k n xs ys l h m e =
    let i : k ≡ n = omega (arith, length-take-le n xs l) in
    ap (λ (z : List ℕ). z ++ drop n xs) (rw i at e) ∙ filled_part f n n xs (omega arith) l

-- ---- one number in each of the first cells

same_shift : (v k : ℕ) (ys : List ℕ) → v ∷ (replicate k v ++ ys) ≡ replicate k v ++ (v ∷ ys)
same_shift v zero ys = refl
same_shift v (suc k) ys = ap (λ (z : List ℕ). v ∷ z) (same_shift v k ys)

pub filled_same : (v k : ℕ) (xs : List ℕ) → k ≤ length xs → replicate k v ++ drop k xs ≡ filled_to (λ l. v) k xs
unfolding filled_to
filled_same v zero xs h = refl
filled_same v (suc k) xs h =
    let rest = drop (suc k) xs in
    same_shift v k rest
    ∙ sym (set-append_seam (replicate k v) (word xs k) rest v)
    ∙ ap (λ (n : ℕ). set (replicate k v ++ word xs k ∷ rest) n v) (length-replicate k v)
    ∙ ap (λ (z : List ℕ). set (replicate k v ++ z) k v) (sym (drop-cons xs k 0 (omega arith)))
    ∙ ap (λ (z : List ℕ). set z k v) (filled_same v k xs (omega arith))
