-- Lists of a function's values, cell by cell and as a loop writes them.
-- Assumes nothing.
use Rattle.std.specs.Prelude.{◌≡◌, refl, List, [], ◌∷◌, ℕ, zero, suc, ◌+◌, ◌-◌, ◌≤◌, ◌<◌, length, get_or, drop, set}
use Rattle.std.proofs.Common.{sym, ◌∙◌, ap, ap₂, arith, length-set, length-drop, length-append, ext_get_or, get_or-drop, get_or-append-add, get_or-set_same, get_or-set_other}
use Rattle.std.proofs.Math.Decide.{dec_lt, ℕ_discrete}
use Rattle.std.proofs.Math.ListN.{get_or-append}
use Rattle.sums.specs.Lists.{in_order, in_front}

pub in_order-length : (k : ℕ) (f : ℕ → ℕ) → length (in_order k f) ≡ k
unfolding in_order
in_order-length zero f = refl
in_order-length (suc k) f = ap suc (in_order-length k (λ i. f (suc i)))

pub in_order_at : (k : ℕ) (f : ℕ → ℕ) (i : ℕ) → i < k → get_or (in_order k f) i 0 ≡ f i
unfolding in_order
in_order_at zero f i l = absurd (omega arith)
in_order_at (suc k) f zero l = refl
in_order_at (suc k) f (suc i) l = in_order_at k (λ i. f (suc i)) i (omega arith)

-- a list of these values is this list
pub in_order_is : (m : ℕ) (f : ℕ → ℕ) (l : List ℕ) → length l ≡ m → ((i : ℕ) → i < m → f i ≡ get_or l i 0) → in_order m f ≡ l
unfolding in_order
in_order_is zero f [] e h = refl
in_order_is zero f (a ∷ l) e h = absurd (omega arith)
in_order_is (suc m) f [] e h = absurd (omega arith)
in_order_is (suc m) f (a ∷ l) e h =
    ap₂ (λ (b : ℕ) (k : List ℕ). b ∷ k) (h 0 (omega arith))
    (in_order_is m (λ i. f (suc i)) l (omega arith) (λ i o. h (suc i) (omega arith)))

-- ---- in front of other cells

module _ (k : ℕ) (f : ℕ → ℕ) (cells : List ℕ) where
  pub in_front-length : k ≤ length cells → length (in_front k f cells) ≡ length cells
  in_front-length l =
      omega (arith, length-append (in_order k f) (drop k cells), in_order-length k f, length-drop k cells)

  pub in_front_at : (c : ℕ) → c < k → get_or (in_front k f cells) c 0 ≡ f c
  in_front_at c m =
      get_or-append (in_order k f) (drop k cells) 0 c (omega (arith, in_order-length k f)) ∙ in_order_at k f c m

  -- later cells stay
  pub in_front_later : (c : ℕ) → k ≤ c → get_or (in_front k f cells) c 0 ≡ get_or cells c 0
  in_front_later c m =
      let d = c - k in
      let q : c ≡ k + d = omega arith in
      ap (λ (i : ℕ). get_or (in_front k f cells) i 0) (q ∙ ap (λ (z : ℕ). z + d) (sym (in_order-length k f)))
      ∙ get_or-append-add (in_order k f) (drop k cells) d 0
      ∙ get_or-drop k cells d 0
      ∙ ap (λ (i : ℕ). get_or cells i 0) (sym q)

  -- a list with these cells in front and the others as they were
  pub in_front_is : (new : List ℕ) → length new ≡ length cells → k ≤ length cells
      → ((c : ℕ) → c < k → get_or new c 0 ≡ f c) → ((c : ℕ) → k ≤ c → get_or new c 0 ≡ get_or cells c 0)
      → new ≡ in_front k f cells
  in_front_is new e l front back =
      ext_get_or 0 new (in_front k f cells) (e ∙ sym (in_front-length l)) (λ c m. at c (dec_lt c k))
    where
      at : (c : ℕ) → Dec (c < k) → get_or new c 0 ≡ get_or (in_front k f cells) c 0
      at c (yes m) = front c m ∙ sym (in_front_at c m)
      at c (no m) = back c (omega arith) ∙ sym (in_front_later c (omega arith))

-- written once more they are the same
pub in_front_again : (k : ℕ) (f : ℕ → ℕ) (cells : List ℕ) → k ≤ length cells → in_front k f (in_front k f cells) ≡ in_front k f cells
in_front_again k f cells l =
    in_front_is k f cells (in_front k f (in_front k f cells))
    (in_front-length k f (in_front k f cells) (omega (arith, in_front-length k f cells l)) ∙ in_front-length k f cells l) l
    (λ c m. in_front_at k f (in_front k f cells) c m)
    (λ c m. in_front_later k f (in_front k f cells) c m ∙ in_front_later k f cells c m)

-- ---- as a loop writes them

pub in_front_none : (f : ℕ → ℕ) (cells : List ℕ) → cells ≡ in_front 0 f cells
unfolding in_order
in_front_none f cells = refl

pub in_front_next : (k : ℕ) (f : ℕ → ℕ) (cells : List ℕ) (x : ℕ) → k < length cells → x ≡ f k
    → set (in_front k f cells) k x ≡ in_front (k + 1) f cells
in_front_next k f cells x l e =
    in_front_is (k + 1) f cells (set (in_front k f cells) k x)
    (length-set (in_front k f cells) k x ∙ long) (omega arith)
    (λ c m. elim (ℕ_discrete c k) [
      | yes d ↦ rw d (get_or-set_same (in_front k f cells) k x 0 (omega (arith, long)) ∙ e)
      | no d ↦ get_or-set_other (in_front k f cells) k c x 0 d ∙ in_front_at k f cells c (omega arith)
    ])
    (λ c m. get_or-set_other (in_front k f cells) k c x 0 (λ q. omega arith) ∙ in_front_later k f cells c (omega arith))
  where
    long : length (in_front k f cells) ≡ length cells
    long = in_front-length k f cells (omega arith)
