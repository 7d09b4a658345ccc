-- Each set of four kept labels is held by four of them: over all kept labels the sets that hold each add up to four times all.
-- Assumes nothing.
use Rattle.std.specs.Prelude.{◌≡◌, List, ℕ, zero, suc, ◌*◌, ◌≤◌, ◌<◌, ltb}
use Rattle.std.proofs.Common.{sym, ◌∙◌, ap, ap₂, arith}
use Rattle.sums.specs.Sum.{sum}
use Rattle.sums.specs.theorems.SumLaws.{sum_ext, sum-mul_left}
use Rattle.sums.specs.Bits.{bit}
use Rattle.sums.specs.theorems.BitLaws.{ne, bit-T, T-bit, ne_other, ne_self, ne_sym, is_ne}
use Rattle.sums.specs.theorems.TestLaws.{lt_iff}
use Rattle.sums.specs.theorems.Products.{times_pos, ne_times_pos}
use Rattle.sums.specs.SetsOfFour.{sets2, sets3, sets4}
use Rattle.sums.specs.theorems.SetLaws.{tuples3, tuples4, six_ways, every_order, Symmetric, twenty_four_times, sets3_ext, sets4_ext}
use Rattle.shapes.specs.theorems.FourLabels.{Four}
use Rattle.trees.specs.declared.quartet.Topology.{Topology}
use Rattle.tree_check.specs.Table.{Table, tips}
use Rattle.tree_check.specs.IsTree.{IsTree}
use Rattle.trees.specs.Topology.{topology}
use Rattle.trees.specs.theorems.TopologyLaws.{Rearranged, as_is, first_two, middle, last_two, any_order}
use Rattle.marks.specs.Marks.{is_kept, kept_of}
use Rattle.counting.specs.Kept.{kept}
use Rattle.counting.specs.declared.Case.{Case}
use Rattle.counting.specs.Cases.{case_of, is_case, topology_at, quartets}
use Rattle.counting.proofs.theorems.KeptLaws.{sum_kept, sets4-kept}
use Rattle.counting.specs.Kept.{is_other}
use Rattle.counting.proofs.theorems.OtherLabels.{other_bit}
use Rattle.counting.specs.Holding.{holding_kept}
use Rattle.counting.proofs.theorems.OneLabelLaw.{held}

-- equal where the factor is not 0
where_some : (x r s : ℕ) → (1 ≤ x → r ≡ s) → x * r ≡ x * s
where_some zero r s h = omega arith
where_some (suc x) r s h = ap (λ (z : ℕ). suc x * z) (h (omega arith))

sets3-mul : (n c : ℕ) (f : ℕ → ℕ → ℕ → ℕ) → sets3 n (λ x y z. c * f x y z) ≡ c * sets3 n f
unfolding sets3 sets2
sets3-mul n c f =
    sum_ext n _ _ (λ z lz. sum_ext z _ _ (λ y ly. sum-mul_left y c (λ x. f x y z)) ∙ sum-mul_left z c (λ y. sum y (λ x. f x y z)))
    ∙ sum-mul_left n c (λ z. sum z (λ y. sum y (λ x. f x y z)))

-- the sets of three with x, each in six orders
six : (n : ℕ) (g : ℕ → ℕ → ℕ → ℕ → ℕ) → Symmetric g → (x : ℕ) → tuples3 n (g x) ≡ 6 * sets3 n (g x)
six n g s x =
    every_order n (g x)
    (λ a b. s.first_two x a a b ∙ s.middle a x a b ∙ s.none a x b)
    (λ a b. s.last_two x a b a ∙ s.first_two x a a b ∙ s.middle a x a b ∙ s.none a x b)
    (λ a b. s.first_two x a b b ∙ s.middle a x b b ∙ s.last_two a b x b ∙ s.first_two a b b x ∙ s.middle b a b x ∙ s.none b a x)
    ∙ sets3_ext n (six_ways (g x)) (λ a b c. 6 * g x a b c) (λ a b c la lb lc. omega (
      arith,
      s.last_two x a b c,
      s.middle x a b c,
      s.last_two x b a c,
      s.middle x a c b,
      s.last_two x c a b,
    ))
    ∙ sets3-mul n 6 (g x)

-- ---- any function of four different labels in any order

module _ (n : ℕ) (K : ℕ → ℕ) (f : ℕ → ℕ → ℕ → ℕ → ℕ)
    (order : (a b c d w x y z : ℕ) → Four n a b c d → Rearranged a b c d w x y z → f w x y z ≡ f a b c d) where
  abbrev P : ℕ → ℕ
  P y = bit (ltb y n) * K y

  abbrev N : ℕ → ℕ → ℕ → ℕ → ℕ
  N a b c d = ne a b * (ne a c * (ne a d * (ne b c * (ne b d * (ne c d * (P a * (P b * (P c * P d))))))))

  abbrev G : ℕ → ℕ → ℕ → ℕ → ℕ
  G a b c d = N a b c d * f a b c d

  below : (y : ℕ) → 1 ≤ P y → y < n
  below y l = (lt_iff y n).0 (T-bit (ltb y n) (times_pos (bit (ltb y n)) (K y) l).0)

  four : (a b c d : ℕ) → 1 ≤ N a b c d → Four n a b c d
  four a b c d l =
      let p = ne_times_pos a b _ l in
      let q = ne_times_pos a c _ p.1 in
      let r = ne_times_pos a d _ q.1 in
      let s = ne_times_pos b c _ r.1 in
      let v = ne_times_pos b d _ s.1 in
      let w = ne_times_pos c d _ v.1 in
      let x = times_pos (P a) (P b * (P c * P d)) w.1 in
      let y = times_pos (P b) (P c * P d) x.1 in
      let z = times_pos (P c) (P d) y.1 in
      record {
        la = below a x.0;
        lb = below b y.0;
        lc = below c z.0;
        ld = below d z.1;
        ab = p.0;
        ac = q.0;
        ad = r.0;
        bc = s.0;
        bd = v.0;
        cd = w.0;
      }

  symmetric : Symmetric (λ a b c d. N a b c d * f a b c d)
  symmetric = record {
    first_two = λ a b c d.
        where_some (N a b c d) _ _ (λ l. sym (order a b c d b a c d (four a b c d l) (first_two as_is)))
        ∙ ap (λ (z : ℕ). z * f b a c d) (swap-first (ne a b) (ne a c) (ne a d) (ne b c) (ne b d) (ne c d) (P a) (P b) (P c) (P d) (ne b a) (ne_sym a b));
    middle = λ a b c d.
        where_some (N a b c d) _ _ (λ l. sym (order a b c d a c b d (four a b c d l) (middle as_is)))
        ∙ ap (λ (z : ℕ). z * f a c b d) (swap-middle (ne a b) (ne a c) (ne a d) (ne b c) (ne b d) (ne c d) (P a) (P b) (P c) (P d) (ne c b) (ne_sym b c));
    last_two = λ a b c d.
        where_some (N a b c d) _ _ (λ l. sym (order a b c d a b d c (four a b c d l) (last_two as_is)))
        ∙ ap (λ (z : ℕ). z * f a b d c) (swap-last (ne a b) (ne a c) (ne a d) (ne b c) (ne b d) (ne c d) (P a) (P b) (P c) (P d) (ne d c) (ne_sym c d));
    none = λ a b c. rw (ne_self a) (omega arith);
  }
    where
      swap-first : (ab ac ad bc bd cd p q r s ba : ℕ) → ab ≡ ba
          → ab * (ac * (ad * (bc * (bd * (cd * (p * (q * (r * s)))))))) ≡ ba * (bc * (bd * (ac * (ad * (cd * (q * (p * (r * s))))))))
      swap-first ab ac ad bc bd cd p q r s ba e = rw e (omega arith)

      swap-middle : (ab ac ad bc bd cd p q r s cb : ℕ) → bc ≡ cb
          → ab * (ac * (ad * (bc * (bd * (cd * (p * (q * (r * s)))))))) ≡ ac * (ab * (ad * (cb * (cd * (bd * (p * (r * (q * s))))))))
      swap-middle ab ac ad bc bd cd p q r s cb e = rw e (omega arith)

      swap-last : (ab ac ad bc bd cd p q r s dc : ℕ) → cd ≡ dc
          → ab * (ac * (ad * (bc * (bd * (cd * (p * (q * (r * s)))))))) ≡ ab * (ad * (ac * (bd * (bc * (dc * (p * (q * (s * r))))))))
      swap-last ab ac ad bc bd cd p q r s dc e = rw e (omega arith)

  four_times : sum n (λ x. sets3 n (λ a b c. G x a b c)) ≡ 4 * sets4 n (λ a b c d. G a b c d)
  four_times = omega (
    arith,
    twenty_four_times n (λ a b c d. N a b c d * f a b c d) symmetric,
    in-sixes,
    sum-mul_left n 6 (λ x. sets3 n (λ a b c. G x a b c)),
  )
    where
      in-sixes : tuples4 n (λ a b c d. G a b c d) ≡ sum n (λ x. 6 * sets3 n (λ a b c. G x a b c))
      in-sixes = unfold tuples4 in sum_ext n _ _ (λ x l. six n (λ a b c d. N a b c d * f a b c d) symmetric x)

  inside : (y : ℕ) → y < n → P y ≡ K y
  inside y l = rw (bit-T (ltb y n) ((lt_iff y n).1 l)) (omega arith)

  all_sets : sets4 n (λ a b c d. G a b c d) ≡ sets4 n (λ w x y z. K z * (K y * (K x * (K w * f w x y z))))
  all_sets = sets4_ext n _ _ (λ w x y z lw lx ly lz. rw (
    ne_other w x (λ e. omega arith),
    ne_other w y (λ e. omega arith),
    ne_other w z (λ e. omega arith),
    ne_other x y (λ e. omega arith),
    ne_other x z (λ e. omega arith),
    ne_other y z (λ e. omega arith),
    inside w (omega arith),
    inside x (omega arith),
    inside y (omega arith),
    inside z lz,
  ) (omega arith))

  with_one : (O : ℕ → ℕ → ℕ) → ((x y : ℕ) → O x y ≡ K y * ne x y) → (x : ℕ) → x < n
      → K x * sets3 n (λ a b c. O x c * (O x b * (O x a * f x a b c))) ≡ sets3 n (λ a b c. G x a b c)
  with_one O h x l =
      sym (sets3-mul n (K x) (λ a b c. O x c * (O x b * (O x a * f x a b c))))
      ∙ sets3_ext n (λ a b c. K x * (O x c * (O x b * (O x a * f x a b c)))) _ (λ a b c la lb lc. rw (
        ne_other a b (λ e. omega arith),
        ne_other a c (λ e. omega arith),
        ne_other b c (λ e. omega arith),
        inside x l,
        inside a (omega arith),
        inside b (omega arith),
        inside c lc,
        h x a,
        h x b,
        h x c,
      ) (omega arith))

  pub each_by_four : (O : ℕ → ℕ → ℕ) → ((x y : ℕ) → O x y ≡ K y * ne x y)
      → sum n (λ x. K x * sets3 n (λ a b c. O x c * (O x b * (O x a * f x a b c))))
      ≡ 4 * sets4 n (λ w x y z. K z * (K y * (K x * (K w * f w x y z))))
  each_by_four O h = sum_ext n _ _ (with_one O h) ∙ four_times ∙ ap (λ (z : ℕ). 4 * z) all_sets

-- ---- kept labels

other_is : (marks : List ℕ) (x y : ℕ) → bit (is_other marks x y) ≡ bit (is_kept marks y) * ne x y
other_is marks x y = omega (arith, other_bit marks x y, ap (λ (z : ℕ). bit (is_kept marks y) * z) (is_ne x y))

-- over all kept labels, by rank
pub held_by_four : (t u : Table) → IsTree t → IsTree u → tips t ≡ tips u → (marks : List ℕ) (k : Case)
    → sum (kept_of marks (tips t)) (λ i. holding_kept t u marks ((kept marks (tips t)).at i) k) ≡ 4 * quartets (kept marks (tips t)) t u k
held_by_four t u g h e marks k =
    sum_kept (is_kept marks) n (λ x. holding_kept t u marks x k)
    ∙ sum_ext n _ _ (λ x l. ap (λ (z : ℕ). bit (is_kept marks x) * z) (held t u g h e x l k marks))
    ∙ each_by_four n (λ y. bit (is_kept marks y)) f same_case (λ x y. bit (is_other marks x y)) (other_is marks)
    ∙ ap (λ (z : ℕ). 4 * z) (sym all)
  where
    n : ℕ
    n = tips t

    f : ℕ → ℕ → ℕ → ℕ → ℕ
    f a b c d = bit (is_case (case_of (topology t a b c d) (topology u a b c d)) k)

    same_case : (a b c d w x y z : ℕ) → Four (tips t) a b c d → Rearranged a b c d w x y z → f w x y z ≡ f a b c d
    same_case a b c d w x y z q r = ap₂ (λ (s s' : Topology). bit (is_case (case_of s s') k))
        (any_order t g a b c d q r) (any_order u h a b c d (rw e at q) r)

    all : quartets (kept marks (tips t)) t u k ≡ sets4 (tips t) (λ w x y z. bit (is_kept marks z) * (bit (is_kept marks y) * (bit (is_kept marks x) * (bit (is_kept marks w) * f w x y z))))
    all = unfold quartets topology_at in sets4-kept (is_kept marks) (tips t) f
