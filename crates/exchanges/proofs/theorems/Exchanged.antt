-- A shape with the labels x and y exchanged, and the sets of four whose topologies change by that.
-- Assumes nothing.
use Rattle.std.specs.Prelude.{◌≡◌, refl, ℕ, ◌+◌}
use Rattle.std.proofs.Common.{sym, ◌∙◌, inl, inr, arith}
use Rattle.sums.specs.theorems.BitLaws.{ne, ne_self, ne_sym, ne_other, alike}
use Rattle.sums.specs.Swaps.{swapped}
use Rattle.sums.specs.theorems.SwapLaws.{swapped_one, swapped-lt}
use Rattle.sums.specs.SetsOfFour.{sets4}
use Rattle.sums.specs.theorems.SetLaws.{sets4_ext, Symmetric}
use Rattle.shapes.proofs.theorems.PartedFours.{parted-swap_left, parted-swap_right, parted_turn}
use Rattle.shapes.specs.theorems.Shape.{Shape}
use Rattle.shapes.proofs.theorems.Shape.{butterfly_in}
use Rattle.shapes.proofs.theorems.Topologies.{topology_in, cases_in, cases_differing, SameTests, same_topology-iff}
use Rattle.exchanges.specs.theorems.Others.{Two}
use Rattle.exchanges.specs.theorems.Exchanged.{differ}

-- ---- the shape with the labels x and y exchanged

unfoldable pub exchanged : {n : ℕ} → Shape n → (x y : ℕ) → Two n x y → Shape n
exchanged {n} t x y two = record {
  up = t.up;
  tree = t.tree;
  edges = t.edges;
  node = λ a. t.node (swapped x y a);
  node_le = λ a la. t.node_le _ (swapped-lt x y a n two.lx two.ly la);
  node_ne = λ a b la lb d. t.node_ne _ _ (swapped-lt x y a n two.lx two.ly la)
      (swapped-lt x y b n two.lx two.ly lb) (λ e. d (swapped_one x y a b e));
  leaf = λ a la. t.leaf _ (swapped-lt x y a n two.lx two.ly la);
}

pub exchanged_butterfly_lem : {n : ℕ} (t : Shape n) (x y : ℕ) (two : Two n x y) (a b c d : ℕ)
    → butterfly_in (exchanged t x y two) a b c d
    ≡ butterfly_in t (swapped x y a) (swapped x y b) (swapped x y c) (swapped x y d)
unfolding exchanged
exchanged_butterfly_lem t x y two a b c d = refl

-- ---- different topologies, whatever the order of the four

ne_iff : (a b c d : ℕ) → (a ≡ b → c ≡ d) → (c ≡ d → a ≡ b) → ne a b ≡ ne c d
ne_iff a b c d f g = elim (alike a b) [
  | inl e ↦ (elim (alike c d) [ inl h ↦ omega (arith, e.2, h.2) | inr h ↦ absurd (h.0 (f e.0)) ])
  | inr e ↦ (elim (alike c d) [ inl h ↦ absurd (e.0 (g h.0)) | inr h ↦ omega (arith, e.2, h.2) ])
]

module _ {n : ℕ} (t u : Shape n) where
  swap_left : (s : Shape n) (a b c d : ℕ) → butterfly_in s a b c d ≡ butterfly_in s b a c d
  swap_left s a b c d = parted-swap_left s.up s.edges _ _ _ _

  swap_right : (s : Shape n) (a b c d : ℕ) → butterfly_in s a b c d ≡ butterfly_in s a b d c
  swap_right s a b c d = parted-swap_right s.up s.edges _ _ _ _

  turn : (s : Shape n) (a b c d : ℕ) → butterfly_in s a b c d ≡ butterfly_in s c d a b
  turn s a b c d = parted_turn s.up s.edges _ _ _ _

  same_of : (a b c d a' b' c' d' : ℕ) → (SameTests t u a b c d → SameTests t u a' b' c' d')
      → topology_in t a b c d ≡ topology_in u a b c d → topology_in t a' b' c' d' ≡ topology_in u a' b' c' d'
  same_of a b c d a' b' c' d' f e =
      (same_topology-iff t u a' b' c' d').1 (f ((same_topology-iff t u a b c d).0 e))

  first_two : (a b c d : ℕ) → SameTests t u a b c d → SameTests t u b a c d
  first_two a b c d h = record {
    one = sym (swap_left t a b c d) ∙ h.one ∙ swap_left u a b c d;
    two = turn t b c a d ∙ swap_right t a d b c ∙ swap_right t a d c b ∙ h.three ∙ swap_right u a d b c
        ∙ swap_right u a d c b ∙ turn u a d b c;
    three = turn t b d a c ∙ h.two ∙ turn u a c b d;
  }

  middle : (a b c d : ℕ) → SameTests t u a b c d → SameTests t u a c b d
  middle a b c d h = record {
    one = h.two;
    two = h.one;
    three = swap_right t a d c b ∙ h.three ∙ swap_right u a d b c;
  }

  last_two : (a b c d : ℕ) → SameTests t u a b c d → SameTests t u a b d c
  last_two a b c d h = record {
    one = swap_right t a b d c ∙ h.one ∙ swap_right u a b c d;
    two = swap_right t a d b c ∙ swap_right t a d c b ∙ h.three;
    three = swap_right t a c b d ∙ swap_right t a c d b ∙ h.two;
  }

  pub differ_symmetric : Symmetric (differ t u)
  unfolding differ
  differ_symmetric = record {
    first_two = λ a b c d. rw (
      ne_sym a b,
      ne_iff _ _ _ _ (same_of a b c d b a c d (first_two a b c d))
          (same_of b a c d a b c d (first_two b a c d)),
    ) (omega arith);
    middle = λ a b c d. rw (
      ne_sym b c,
      ne_iff _ _ _ _ (same_of a b c d a c b d (middle a b c d))
          (same_of a c b d a b c d (middle a c b d)),
    ) (omega arith);
    last_two = λ a b c d. rw (
      ne_sym c d,
      ne_iff _ _ _ _ (same_of a b c d a b d c (last_two a b c d))
          (same_of a b d c a b c d (last_two a b d c)),
    ) (omega arith);
    none = λ a b c. rw (ne_self a) (omega arith);
  }

  -- the existing count of sets of four whose topologies differ
  pub differ_sets : cases_in t u 1 + cases_in t u 2 + cases_in t u 3 ≡ sets4 n (differ t u)
  unfolding differ
  differ_sets = cases_differing t u ∙ sets4_ext n _ _ (λ w x y z lw lx ly lz. rw (
    ne_other w x (omega arith),
    ne_other w y (omega arith),
    ne_other w z (omega arith),
    ne_other x y (omega arith),
    ne_other x z (omega arith),
    ne_other y z (omega arith),
  )
      (omega arith))
