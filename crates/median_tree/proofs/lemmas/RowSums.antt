-- Sums of distances, each two trees added once to both.
-- Assumes nothing.
use Rattle.std.specs.Prelude.{◌≡◌, List, ℕ, zero, suc, ◌+◌, ◌*◌, ◌≤◌, ◌<◌, length, set, replicate}
use Rattle.std.proofs.Math.Path.{refl}
use Rattle.std.proofs.Common.{sym, ◌∙◌, ap, subst, mul-le-mul_right, add-one, arith, length-set, get_or-set_same, get_or-set_other}
use Rattle.std.proofs.Math.Decide.{dec_lt, ℕ_discrete}
use Rattle.std.proofs.Math.ListN.{length-replicate, get_or-replicate, get_or-eq_default}
use Rattle.sums.specs.Sum.{sum}
use Rattle.sums.specs.theorems.SumLaws.{sum-suc, sum_mono, sum_const}
use Rattle.tree_check.specs.Table.{word}
use Rattle.tree_lists.specs.TreeLists.{trees_most, trees_of}
use Rattle.median_tree.specs.Least.{first_least}
use Rattle.median_tree.specs.Nearest.{distance_of}
use Rattle.median_tree.proofs.theorems.LeastLaws.{less, no_less, least_of_one, is_first_least, least_only}
use Rattle.median_tree.proofs.theorems.NearestLaws.{apart_either, apart_self, apart_most}
use Rattle.median_tree.specs.lemmas.Distances.{ListReady}
use Rattle.median_tree.specs.lemmas.RowSums.{Sums}

module _ (d : ℕ → ℕ → ℕ) where
  pub sums_none : Sums d 0 0 (replicate trees_most 0)
  sums_none = record {
    long = length-replicate {A = ℕ} trees_most 0;
    met = λ a l. absurd (omega arith);
    not_yet = λ a l m. absurd (omega arith);
    own = unfold sum in zeros 0;
    later = λ a l. zeros a;
  }
    where
      zeros : (a : ℕ) → word (replicate trees_most 0) a ≡ 0
      zeros a = elim (dec_lt a trees_most) [
        | yes l ↦ get_or-replicate trees_most a 0 0 l
        | no n ↦ get_or-eq_default {A = ℕ} (replicate trees_most 0) 0 {n = a} (omega (arith, length-replicate {A = ℕ} trees_most 0))
      ]

  module _ (i j : ℕ) (cells : List ℕ) (h : Sums d i j cells) where
    module _ (lj : j < i) (li : i < trees_most) (x : ℕ) (e : x ≡ d i j) (turned : d i j ≡ d j i) where
      abbrev first : List ℕ
      first = set cells i (word cells i + x)

      pub sums_next : Sums d i (j + 1) (set first j (word first j + x))
      sums_next = record {
        long = length-set first j (word first j + x) ∙ length-first;
        met = λ a l. elim (ℕ_discrete a j) [
          | yes q ↦ rw q (get_or-set_same first j (word first j + x) 0 (omega (arith, length-first))
              ∙ omega (arith, same-at-j, h.not_yet j (omega arith) lj, e, turned, sum-suc i (d j)))
          | no n ↦ get_or-set_other first j a (word first j + x) 0 n
              ∙ get_or-set_other cells i a (word cells i + x) 0 (λ z. omega arith) ∙ h.met a (omega arith)
        ];
        not_yet = λ a l m. get_or-set_other first j a (word first j + x) 0 (λ z. omega arith)
            ∙ get_or-set_other cells i a (word cells i + x) 0 (λ z. omega arith) ∙ h.not_yet a (omega arith) m;
        own = get_or-set_other first j i (word first j + x) 0 (λ z. omega arith)
            ∙ get_or-set_same cells i (word cells i + x) 0 (omega (arith, h.long))
            ∙ omega (arith, h.own, e, sum-suc j (d i), ap (λ (m : ℕ). sum m (d i)) (add-one j));
        later = λ a l. get_or-set_other first j a (word first j + x) 0 (λ z. omega arith)
            ∙ get_or-set_other cells i a (word cells i + x) 0 (λ z. omega arith) ∙ h.later a l;
      }
        where
          length-first : length first ≡ trees_most
          length-first = length-set cells i (word cells i + x) ∙ h.long

          same-at-j : word first j ≡ word cells j
          same-at-j = get_or-set_other cells i j (word cells i + x) 0 (λ z. omega arith)

    -- no sum is larger than so many of the largest distance
    pub sums_small : (b k : ℕ) → k ≤ trees_most → i < k → j ≤ i → ((a c : ℕ) → a < k → c < k → d a c ≤ b) → (a : ℕ) → a ≤ i
        → word cells a ≤ trees_most * b
    sums_small b k lk li lj few a la = elim (dec_lt a j) [
      | yes l ↦ omega (arith, h.met a l, part (suc i) (omega arith))
      | no n ↦ elim (dec_lt a i) [
        | yes m ↦ omega (arith, h.not_yet a (omega arith) m, part i (omega arith))
        | no m ↦ (let q : a ≡ i = omega arith in rw q (omega (arith, h.own, own-part)))
      ]
    ]
      where
        times : (m : ℕ) → m ≤ trees_most → m * b ≤ trees_most * b
        times m l = mul-le-mul_right b l

        part : (m : ℕ) → m ≤ k → sum m (d a) ≤ trees_most * b
        part m l = omega (
          arith,
          sum_mono m (d a) (λ c. b) (λ c o. few a c (omega arith) (omega arith)),
          sum_const m b,
          times m (omega arith),
        )

        own-part : sum j (d i) ≤ trees_most * b
        own-part = omega (
          arith,
          sum_mono j (d i) (λ c. b) (λ c o. few i c (omega arith) (omega arith)),
          sum_const j b,
          times j (omega arith),
        )

  -- a whole row: tree i is summed
  pub sums_row : (i : ℕ) (cells : List ℕ) → d i i ≡ 0 → Sums d i i cells → Sums d (i + 1) 0 cells
  sums_row i cells z h = record {
    long = h.long;
    met = λ a l. absurd (omega arith);
    not_yet = λ a l m. elim (ℕ_discrete a i) [
      | yes q ↦ rw q (omega (arith, h.own, z, sum-suc i (d i), ap (λ (m : ℕ). sum m (d i)) (add-one i)))
      | no n ↦ h.met a (omega arith) ∙ ap (λ (m : ℕ). sum m (d a)) (sym (add-one i))
    ];
    own = h.later (i + 1) (omega arith) ∙ (unfold sum in refl);
    later = λ a l. h.later a (omega arith);
  }

-- ---- the first least position, one more at a time

pub least_none : (f : ℕ → ℕ) → 0 ≡ first_least f 0
unfolding first_least
least_none f = refl

pub least_takes : (f : ℕ → ℕ) (i p : ℕ) → p ≡ first_least f i → f i < f p → i ≡ first_least f (i + 1)
least_takes f i p e l =
    sym (less f i (subst (λ (q : ℕ). f i < f q) e l)) ∙ ap (first_least f) (sym (add-one i))

pub least_keeps : (f : ℕ → ℕ) (i p : ℕ) → p ≡ first_least f i → f p ≤ f i → p ≡ first_least f (i + 1)
least_keeps f i p e l =
    e ∙ sym (no_less f i (subst (λ (q : ℕ). f q ≤ f i) e l)) ∙ ap (first_least f) (sym (add-one i))

-- ---- of a list

module _ (list starts : List ℕ) (n cells : ℕ) (w : ListReady list starts n cells) (i : ℕ) (li : i < trees_of list) where
  -- the first sum is added to, and the second
  module _ (j : ℕ) (lj : j < i) (sums : List ℕ) (h : Sums (distance_of list) i j sums) (x : ℕ) (e : x ≡ distance_of list i j) where
    small : (a : ℕ) → a ≤ i → word sums a ≤ 2796682240
    small a la = sums_small (distance_of list) i j sums h 174792640 (trees_of list) w.list_is.few_trees li (omega arith)
        (apart_most list w.list_is) a la

    most : x ≤ 174792640
    most = omega (arith, e, apart_most list w.list_is i j li (omega arith))

    pub own_fits : (a : ℕ) → a ≤ i → word sums a + x < 3146267521
    own_fits a la = omega (arith, small a la, most)

    pub other_fits : (a b : ℕ) → a ≤ i → b ≤ i → word (set sums a (word sums a + x)) b + x < 3146267521
    other_fits a b la lb = elim (ℕ_discrete b a) [
      | yes e ↦ rw e (omega (
        arith,
        small a la,
        most,
        get_or-set_same sums a (word sums a + x) 0 (omega (arith, h.long, li, w.list_is.few_trees, la)),
      ))
      | no d ↦ omega (arith, small b lb, most, get_or-set_other sums a b (word sums a + x) 0 d)
    ]

    pub added : Sums (distance_of list) i (j + 1)
        (set (set sums i (word sums i + x)) j (word (set sums i (word sums i + x)) j + x))
    added = sums_next (distance_of list) i j sums h lj (omega (arith, w.list_is.few_trees)) x e (apart_either list i j)

  pub row_done : (sums : List ℕ) (j : ℕ) → j ≡ i → Sums (distance_of list) i j sums → Sums (distance_of list) (i + 1) 0 sums
  row_done sums j e h = sums_row (distance_of list) i sums (apart_self list w.list_is i li)
      (subst (λ (m : ℕ). Sums (distance_of list) i m sums) e h)

-- functions that agree below k have the same first least position
pub least_alike : (f g : ℕ → ℕ) (k : ℕ) → ((a : ℕ) → a < k → f a ≡ g a) → first_least f k ≡ first_least g k
least_alike f g zero h = unfold first_least in refl
least_alike f g (suc zero) h = least_of_one f ∙ sym (least_of_one g)
least_alike f g (suc (suc k)) h =
    let a = is_first_least f (suc k) in
    let b = is_first_least g (suc k) in
    least_only f (suc (suc k)) (first_least f (suc (suc k))) (first_least g (suc (suc k))) a (record {
      position = b.position;
      least = λ i l. omega (arith, h i l, h (first_least g (suc (suc k))) b.position, b.least i l);
      earliest = λ i l. omega (
        arith,
        h i (omega (arith, l, b.position)),
        h (first_least g (suc (suc k))) b.position,
        b.earliest i l,
      );
    })
