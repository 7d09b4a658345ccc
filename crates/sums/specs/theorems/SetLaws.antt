-- Sums over tuples, and over sets of two, three and four: each set in 2, 6 and 24 orders.
-- Assumes nothing.
use Rattle.std.specs.Prelude.{◌≡◌, refl, ◌↔◌, ℕ, zero, suc, ◌+◌, ◌*◌, ◌≤◌, ◌<◌}
use Rattle.std.proofs.Common.{◌∙◌, ap, arith}
use Rattle.std.proofs.Math.Path.{fun_ext}
use Rattle.sums.specs.Sum.{sum}
use Rattle.sums.specs.theorems.SumLaws.{sum-suc, sum_first, sum_ext, sum_cong, sum-add, sum_none, sum-ge, sum_mono, sum-mul_left, sum-swap}
use Rattle.sums.specs.SetsOfFour.{sets2, sets3, sets4}

-- ---- tuples, whose members need not differ

unfoldable pub tuples2 : ℕ → (ℕ → ℕ → ℕ) → ℕ
tuples2 n f = sum n (λ a. sum n (λ b. f a b))

unfoldable pub tuples3 : ℕ → (ℕ → ℕ → ℕ → ℕ) → ℕ
tuples3 n f = sum n (λ a. tuples2 n (f a))

unfoldable pub tuples4 : ℕ → (ℕ → ℕ → ℕ → ℕ → ℕ) → ℕ
tuples4 n f = sum n (λ a. tuples3 n (f a))

-- ---- equal terms

pub tuples2_cong : (n : ℕ) {f g : ℕ → ℕ → ℕ} → ((a b : ℕ) → f a b ≡ g a b) → tuples2 n f ≡ tuples2 n g
tuples2_cong n h = ap (tuples2 n) (fun_ext (λ a. fun_ext (h a)))

pub tuples3_cong : (n : ℕ) {f g : ℕ → ℕ → ℕ → ℕ} → ((a b c : ℕ) → f a b c ≡ g a b c)
    → tuples3 n f ≡ tuples3 n g
tuples3_cong n h = ap (tuples3 n) (fun_ext (λ a. fun_ext (λ b. fun_ext (h a b))))

pub tuples4_cong : (n : ℕ) {f g : ℕ → ℕ → ℕ → ℕ → ℕ}
    → ((a b c d : ℕ) → f a b c d ≡ g a b c d) → tuples4 n f ≡ tuples4 n g
tuples4_cong n h = ap (tuples4 n) (fun_ext (λ a. fun_ext (λ b. fun_ext (λ c. fun_ext (h a b c)))))

-- for members below n
pub tuples4_ext : (n : ℕ) (f g : ℕ → ℕ → ℕ → ℕ → ℕ)
    → ((a b c d : ℕ) → a < n → b < n → c < n → d < n → f a b c d ≡ g a b c d)
    → tuples4 n f ≡ tuples4 n g
unfolding tuples4 tuples3 tuples2
tuples4_ext n f g h = sum_ext n _ _ (λ a la. sum_ext n _ _ (λ b lb.
    sum_ext n _ _ (λ c lc. sum_ext n _ _ (λ d ld. h a b c d la lb lc ld))))

-- for rising members below n
pub sets4_ext : (n : ℕ) (f g : ℕ → ℕ → ℕ → ℕ → ℕ)
    → ((w x y z : ℕ) → w < x → x < y → y < z → z < n → f w x y z ≡ g w x y z)
    → sets4 n f ≡ sets4 n g
unfolding sets4 sets3 sets2
sets4_ext n f g h = sum_ext n _ _ (λ z lz. sum_ext z _ _ (λ y ly.
    sum_ext y _ _ (λ x lx. sum_ext x _ _ (λ w lw. h w x y z lw lx ly lz))))

pub sets3_ext : (n : ℕ) (f g : ℕ → ℕ → ℕ → ℕ)
    → ((x y z : ℕ) → x < y → y < z → z < n → f x y z ≡ g x y z) → sets3 n f ≡ sets3 n g
unfolding sets3 sets2
sets3_ext n f g h =
    sum_ext n _ _ (λ z lz. sum_ext z _ _ (λ y ly. sum_ext y _ _ (λ x lx. h x y z lx ly lz)))

-- a sum over the sets is 0 exactly if each term is
pub sets4_none : (n : ℕ) (f : ℕ → ℕ → ℕ → ℕ → ℕ)
    → (sets4 n f ≡ 0) ↔ ((w x y z : ℕ) → w < x → x < y → y < z → z < n → f w x y z ≡ 0)
unfolding sets4 sets3 sets2
sets4_none n f = (
  λ e w x y z lw lx ly lz.
      zeros x _ (zeros y _ (zeros z _ (zeros n _ e z lz) y ly) x lx) w lw,
  λ h. sum_none n _ (λ z lz. sum_none z _ (λ y ly.
      sum_none y _ (λ x lx. sum_none x _ (λ w lw. h w x y z lw lx ly lz)))),
)
  where
    zeros : (n : ℕ) (f : ℕ → ℕ) → sum n f ≡ 0 → (i : ℕ) → i < n → f i ≡ 0
    zeros n f e i l = omega (arith, sum-ge n f i l)

-- terms that are at most others
pub sets4_mono : (n : ℕ) (f g : ℕ → ℕ → ℕ → ℕ → ℕ) → ((w x y z : ℕ) → f w x y z ≤ g w x y z) → sets4 n f ≤ sets4 n g
unfolding sets4 sets3 sets2
sets4_mono n f g h =
    sum_mono n _ _ (λ z lz. sum_mono z _ _ (λ y ly. sum_mono y _ _ (λ x lx. sum_mono x _ _ (λ w lw. h w x y z))))

-- ---- sums of sums, and members in another order

pub tuples4-add : (n : ℕ) (f g : ℕ → ℕ → ℕ → ℕ → ℕ)
    → tuples4 n (λ a b c d. f a b c d + g a b c d) ≡ tuples4 n f + tuples4 n g
unfolding tuples4 tuples3 tuples2
tuples4-add n f g = simp sum-add

pub sets4-add : (n : ℕ) (f g : ℕ → ℕ → ℕ → ℕ → ℕ)
    → sets4 n (λ w x y z. f w x y z + g w x y z) ≡ sets4 n f + sets4 n g
unfolding sets4 sets3 sets2
sets4-add n f g = simp sum-add

pub sets4-mul : (n c : ℕ) (f : ℕ → ℕ → ℕ → ℕ → ℕ) → sets4 n (λ w x y z. c * f w x y z) ≡ c * sets4 n f
unfolding sets4 sets3 sets2
sets4-mul n c f = simp sum-mul_left

pub sets3-add : (n : ℕ) (f g : ℕ → ℕ → ℕ → ℕ) → sets3 n (λ x y z. f x y z + g x y z) ≡ sets3 n f + sets3 n g
unfolding sets3 sets2
sets3-add n f g = simp sum-add

pub tuples4-swap_middle : (n : ℕ) (f : ℕ → ℕ → ℕ → ℕ → ℕ) → tuples4 n (λ a b c d. f a c b d) ≡ tuples4 n f
unfolding tuples4 tuples3 tuples2
tuples4-swap_middle n f = sum_cong n (λ a. sum-swap n n (λ b c. sum n (λ d. f a c b d)))

pub tuples4-swap_last : (n : ℕ) (f : ℕ → ℕ → ℕ → ℕ → ℕ) → tuples4 n (λ a b c d. f a b d c) ≡ tuples4 n f
unfolding tuples4 tuples3 tuples2
tuples4-swap_last n f = sum_cong n (λ a. sum_cong n (λ b. sum-swap n n (λ c d. f a b d c)))

-- ---- one number more

tuples2-suc : (n : ℕ) (f : ℕ → ℕ → ℕ)
    → tuples2 (suc n) f ≡ tuples2 n f + sum n (λ a. f a n) + sum n (f n) + f n n
unfolding tuples2 sum
tuples2-suc n f = omega (arith, sum-add n (λ a. sum n (f a)) (λ a. f a n))

tuples3-suc : (n : ℕ) (f : ℕ → ℕ → ℕ → ℕ) → tuples3 (suc n) f
    ≡ tuples3 n f + tuples2 n (λ a b. f a b n) + tuples2 n (λ a b. f a n b) + tuples2 n (f n)
    + sum n (λ a. f a n n) + sum n (λ a. f n a n) + sum n (f n n) + f n n n
unfolding tuples3
tuples3-suc n f = simp (sum-suc, tuples2-suc, sum-add) (unfold tuples2 in omega arith)

tuples4-suc : (n : ℕ) (f : ℕ → ℕ → ℕ → ℕ → ℕ) → tuples4 (suc n) f
    ≡ tuples4 n f
    + tuples3 n (λ a b c. f a b c n) + tuples3 n (λ a b c. f a b n c)
    + tuples3 n (λ a b c. f a n b c) + tuples3 n (f n)
    + tuples2 n (λ a b. f a b n n) + tuples2 n (λ a b. f a n b n) + tuples2 n (λ a b. f a n n b)
    + tuples2 n (λ a b. f n a b n) + tuples2 n (λ a b. f n a n b) + tuples2 n (f n n)
    + sum n (λ a. f a n n n) + sum n (λ a. f n a n n) + sum n (λ a. f n n a n) + sum n (f n n n) + f n n n n
unfolding tuples4
tuples4-suc n f = simp (sum-suc, tuples3-suc, sum-add) (unfold tuples2 tuples3 in omega arith)

tuples2_none : (n : ℕ) {f : ℕ → ℕ → ℕ} → ((a b : ℕ) → f a b ≡ 0) → tuples2 n f ≡ 0
unfolding tuples2
tuples2_none n h = sum_none n _ (λ i l. sum_none n _ (λ j m. h i j))

-- ---- a symmetric function, 0 where two members are equal, meets each set in every order

-- each set of two twice
pub twice : (n : ℕ) (f : ℕ → ℕ → ℕ) → ((a b : ℕ) → f a b ≡ f b a) → ((a : ℕ) → f a a ≡ 0)
    → tuples2 n f ≡ 2 * sets2 n f
unfolding tuples2 sets2 sum
twice zero f s d = refl
twice (suc n) f s d = rw tuples2-suc (omega (arith, twice n f s d, sum_cong n (s n), d n))

-- each set of three six times
six_times : (n : ℕ) (f : ℕ → ℕ → ℕ → ℕ) → ((a b c : ℕ) → f a b c ≡ f b a c)
    → ((a b c : ℕ) → f a b c ≡ f a c b) → ((a b : ℕ) → f a a b ≡ 0) → tuples3 n f ≡ 6 * sets3 n f
unfolding tuples3 sets3 sum
six_times zero f s t d = refl
six_times (suc n) f s t d = rw tuples3-suc (omega (
  arith,
  six_times n f s t d,
  twice n (λ a b. f a b n) (λ a b. s a b n) (λ a. d a n),
  tuples2_cong n (λ a b. t a n b),
  tuples2_cong n (λ a b. s n a b ∙ t a n b),
  sum_none n (λ a. f a n n) (λ a l. s a n n ∙ t n a n ∙ d n a),
  sum_none n (λ a. f n a n) (λ a l. t n a n ∙ d n a),
  sum_none n (λ a. f n n a) (λ a l. d n a),
  d n n,
))

-- ---- any function that is 0 where two members are equal, by the orders of each set

-- both orders of a set of two
either_order : (n : ℕ) (f : ℕ → ℕ → ℕ) → ((a : ℕ) → f a a ≡ 0) → tuples2 n f ≡ sets2 n (λ x y. f x y + f y x)
unfolding tuples2 sets2 sum
either_order zero f d = refl
either_order (suc n) f d =
    rw tuples2-suc (omega (arith, either_order n f d, sum-add n (λ x. f x n) (f n), d n))

-- the six orders of a set of three
abbrev pub six_ways : (ℕ → ℕ → ℕ → ℕ) → ℕ → ℕ → ℕ → ℕ
six_ways f a b c = f a b c + f a c b + f b a c + f b c a + f c a b + f c b a

pub every_order : (n : ℕ) (f : ℕ → ℕ → ℕ → ℕ) → ((a b : ℕ) → f a a b ≡ 0) → ((a b : ℕ) → f a b a ≡ 0)
    → ((a b : ℕ) → f a b b ≡ 0) → tuples3 n f ≡ sets3 n (six_ways f)
unfolding tuples3 sets3 sum
every_order zero f p q r = refl
every_order (suc n) f p q r = rw tuples3-suc (omega (
  arith,
  every_order n f p q r,
  either_order n (λ a b. f a b n) (λ a. p a n),
  either_order n (λ a b. f a n b) (λ a. q a n),
  either_order n (f n) (λ a. r n a),
  last-three,
  sum_none n (λ a. f a n n) (λ a l. r a n),
  sum_none n (λ a. f n a n) (λ a l. q n a),
  sum_none n (f n n) (λ a l. p n a),
  p n n,
))
  where
    last-three : sets2 n (λ x y. six_ways f x y n)
        ≡ sets2 n (λ x y. f x y n + f y x n) + sets2 n (λ x y. f x n y + f y n x) + sets2 n (λ x y. f n x y + f n y x)
    last-three = unfold sets2 in simp sum-add (omega arith)

-- ---- the sets that hold 0, and the others

sets2-first : (n : ℕ) (f : ℕ → ℕ → ℕ)
    → sets2 (suc n) f ≡ sets2 n (λ x y. f (suc x) (suc y)) + sum n (λ y. f 0 (suc y))
unfolding sets2 sum
sets2-first n f =
    sum_first n (λ y. sum y (λ x. f x y))
    ∙ ap (λ (z : ℕ). 0 + z) (sum_cong n (λ y. sum_first y (λ x. f x (suc y)))
    ∙ sum-add n (λ y. f 0 (suc y)) (λ y. sum y (λ x. f (suc x) (suc y))))
    ∙ omega arith

pub sets3-first : (n : ℕ) (f : ℕ → ℕ → ℕ → ℕ)
    → sets3 (suc n) f ≡ sets3 n (λ x y z. f (suc x) (suc y) (suc z)) + sets2 n (λ y z. f 0 (suc y) (suc z))
unfolding sets3 sets2 sum
sets3-first n f =
    sum_first n (λ z. sets2 z (λ x y. f x y z))
    ∙ ap (λ (w : ℕ). 0 + w) (sum_cong n (λ z. sets2-first z (λ x y. f x y (suc z)))
    ∙ sum-add n _ _)
    ∙ omega arith

pub sets4-first : (n : ℕ) (f : ℕ → ℕ → ℕ → ℕ → ℕ)
    → sets4 (suc n) f
    ≡ sets4 n (λ w x y z. f (suc w) (suc x) (suc y) (suc z)) + sets3 n (λ x y z. f 0 (suc x) (suc y) (suc z))
unfolding sets4 sets3 sets2 sum
sets4-first n f =
    sum_first n (λ z. sets3 z (λ w x y. f w x y z))
    ∙ ap (λ (w : ℕ). 0 + w) (sum_cong n (λ z. sets3-first z (λ w x y. f w x y (suc z)))
    ∙ sum-add n _ _)
    ∙ omega arith

-- no exchange of neighbours changes f, and f is 0 where two members are equal
pub record Symmetric (f : ℕ → ℕ → ℕ → ℕ → ℕ) : Type 0 where
  pub first_two : (a b c d : ℕ) → f a b c d ≡ f b a c d
  pub middle : (a b c d : ℕ) → f a b c d ≡ f a c b d
  pub last_two : (a b c d : ℕ) → f a b c d ≡ f a b d c
  pub none : (a b c : ℕ) → f a a b c ≡ 0

-- each set of four twenty-four times
pub twenty_four_times : (n : ℕ) (f : ℕ → ℕ → ℕ → ℕ → ℕ) → Symmetric f → tuples4 n f ≡ 24 * sets4 n f
unfolding tuples4 sets4 sum
twenty_four_times zero f h = refl
twenty_four_times (suc n) f h = rw tuples4-suc (omega (
  arith,
  twenty_four_times n f h,
  six_times n (λ a b c. f a b c n) (λ a b c. h.first_two a b c n) (λ a b c. h.middle a b c n)
      (λ a b. h.none a b n),
  tuples3_cong n (λ a b c. h.last_two a b n c),
  tuples3_cong n (λ a b c. h.middle a n b c ∙ h.last_two a b n c),
  tuples3_cong n (λ a b c. h.first_two n a b c ∙ h.middle a n b c ∙ h.last_two a b n c),
  tuples2_none n (λ a b. last-equal a b),
  tuples2_none n (λ a b. h.first_two a n b n ∙ ends-equal a b),
  tuples2_none n (λ a b. h.first_two a n n b ∙ first-third a b),
  tuples2_none n (λ a b. ends-equal a b),
  tuples2_none n (λ a b. first-third a b),
  tuples2_none n (λ a b. h.none n a b),
  sum_none n (λ a. f a n n n) (λ a l. last-equal a n),
  sum_none n (λ a. f n a n n) (λ a l. ends-equal a n),
  sum_none n (λ a. f n n a n) (λ a l. h.none n a n),
  sum_none n (f n n n) (λ a l. h.none n n a),
  h.none n n n,
))
  where
    first-third : (a b : ℕ) → f n a n b ≡ 0
    first-third a b = h.middle n a n b ∙ h.none n a b

    ends-equal : (a b : ℕ) → f n a b n ≡ 0
    ends-equal a b = h.last_two n a b n ∙ first-third a b

    last-equal : (a b : ℕ) → f a b n n ≡ 0
    last-equal a b = h.middle a b n n ∙ h.first_two a n b n ∙ ends-equal a b
