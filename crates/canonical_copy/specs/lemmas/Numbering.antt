-- Numbers given rank by rank: what the arrays hold when the round of rank x comes to node v.
-- Assumes nothing.
use Rattle.std.specs.Prelude.{◌≡◌, refl, Bool, ◌&&◌, ◌⊎◌, ◌≢◌, List, ℕ, zero, suc, ◌+◌, ◌*◌, ◌-◌, ◌≤◌, ◌<◌, T, eqb, length, set, replicate}
use Rattle.std.proofs.Common.{sym, ◌∙◌, ap, subst, arith, length-set, get_or-set_same, get_or-set_other}
use Rattle.std.proofs.Math.Logic.{inl, inr}
use Rattle.std.proofs.Math.Decide.{ℕ_discrete}
use Rattle.std.proofs.lemmas.List.{length-replicate}
use Rattle.table_words.specs.Sizes.{node_room, tips_most}
use Rattle.sums.specs.theorems.SumLaws.{sum_none}
use Rattle.sums.specs.Bits.{bit}
use Rattle.sums.specs.theorems.BitLaws.{bit_le, bit-T, bit_no}
use Rattle.sums.specs.theorems.TestLaws.{and-iff, eq_iff, first_hit}
use Rattle.sums.specs.theorems.CountLaws.{count-le}
use Rattle.sums.specs.Tests.{first}
use Rattle.shapes.specs.Ancestors.{anc}
use Rattle.shapes.proofs.theorems.AncestorLaws.{anc_trans, anc_root}
use Rattle.tree_check.specs.Table.{word}
use Rattle.canonical.specs.Copying.{full, low, branch, stays, copy_size, number}
use Rattle.canonical.specs.theorems.Branches.{TipRooted, Branch}
use Rattle.canonical.proofs.theorems.Branches.{full_of, full_up, branch-iff_to, branch-iff_of, branch_above, branch-lt, root_stays}
use Rattle.canonical.proofs.theorems.Numbers.{low_label, low_least, number-zero, inside}
use Rattle.canonical.proofs.theorems.Positions.{size-all}
use Rattle.canonical_copy.specs.lemmas.Chains.{IsNext}
use Rattle.canonical_copy.specs.lemmas.Rounds.{done, taken_by, done_iff, done_of, number-taken, taken_next, taken_round, parent_done, taken_none}

-- a node with a smallest rank has one at it or below
pub low_full_of : (up : ℕ → ℕ) (m : ℕ) (node : ℕ → ℕ) (k : ℕ) → TipRooted up m node k → (v : ℕ) → low up m node k v < k → T (full up m node k v)
unfolding low
low_full_of up m node k h v l =
    full_of up m node k h v (first k (λ x. anc up v (node x))) l (bit-T _ (first_hit k (λ x. anc up v (node x)) l))

-- what the numbering reads: the arrays of a tree with k ranks that is rooted at the tip of rank 0
pub record NumberingReady (ps sizes bits heads nexts : List ℕ) : Type 0 where
  pub k : ℕ
  pub node : ℕ → ℕ
  pub rooted : TipRooted (word ps) (length ps) node k
  pub few : length ps ≤ node_room
  pub labels : k ≤ tips_most
  pub sizes_are : (v : ℕ) → v < length ps → word sizes v ≡ copy_size (word ps) (length ps) node k v
  pub bits_are : (v : ℕ) → v < length ps → word bits v ≡ bit (stays (word ps) (length ps) node k v)
  pub heads_are : (x : ℕ) → x < k → IsNext (low (word ps) (length ps) node k) (length ps) 1 x (word heads x)
  pub nexts_are : (v : ℕ) → 1 ≤ v → v < length ps
      → IsNext (low (word ps) (length ps) node k) (length ps) (suc v) (low (word ps) (length ps) node k v) (word nexts v)

module _ (ps sizes bits heads nexts : List ℕ) (y : NumberingReady ps sizes bits heads nexts) where
  abbrev up : ℕ → ℕ
  up = word ps

  abbrev node : ℕ → ℕ
  node = y.node

  abbrev m : ℕ
  m = length ps

  abbrev k : ℕ
  k = y.k

  abbrev h : TipRooted (word ps) (length ps) y.node y.k
  h = y.rooted

  abbrev num : ℕ → ℕ
  num = number (word ps) (length ps) y.node y.k

  abbrev lo : ℕ → ℕ
  lo = low (word ps) (length ps) y.node y.k

  abbrev sz : ℕ → ℕ
  sz = copy_size (word ps) (length ps) y.node y.k

  abbrev full_at : ℕ → Bool
  full_at = full (word ps) (length ps) y.node y.k

  abbrev keep_at : ℕ → Bool
  keep_at = stays (word ps) (length ps) y.node y.k

  -- node 0, or a node that has had its turn
  abbrev pub Had : ℕ → ℕ → ℕ → Type 0
  Had x v d = (d ≡ 0) ⊎ T (done (word ps) (length ps) y.node y.k y.rooted x v d)

  pub record NodesNumbered (x v : ℕ) (nums frees : List ℕ) : Type 0 where
    pub nums_long : length nums ≡ node_room
    pub frees_long : length frees ≡ node_room
    pub number_is : (d : ℕ) → d < length ps → T (full (word ps) (length ps) y.node y.k d) → Had x v d
        → word nums d ≡ number (word ps) (length ps) y.node y.k d
    -- the next free number in the run of d
    pub free_is : (d : ℕ) → d < length ps → T (full (word ps) (length ps) y.node y.k d) → Had x v d
        → word frees d ≡ number (word ps) (length ps) y.node y.k d + bit (stays (word ps) (length ps) y.node y.k d)
        + taken_by (word ps) (length ps) y.node y.k y.rooted x v d

  low_full : (v : ℕ) → lo v < k → T (full_at v)
  low_full v l = low_full_of up m node k h v l

  parent-branch : (v : ℕ) → 1 ≤ v → lo v < k → Branch up m node k (up v) v
  parent-branch v p l = record { pos = p; below = refl; holds = low_full v l }

  whole : sz 0 ≤ m
  whole = omega (arith, size-all up m node k h, count-le m keep_at)

  -- the run of a node ends within m
  run_fits : (v : ℕ) → v < m → T (full_at v) → num v + sz v ≤ m
  run_fits v l f = omega (arith, (inside up m node k h 0 v l f (anc_root up h.tree v)).1, number-zero up m node k h, whole)

  -- ---- at the turn of node v

  module _ (x v : ℕ) (nums frees : List ℕ) (n : NodesNumbered x v nums frees) (pv : 1 ≤ v) (lv : v < length ps) where
    -- done is done, one node on; only v is new
    had_back : (d : ℕ) → d ≢ v → Had x (suc v) d → Had x v d
    had_back d ne (inl e) = inl e
    had_back d ne (inr t) = inr (elim (done_iff up m node k h x (suc v) d t) [
      | inl w ↦ done_of up m node k h x v d (inl w)
      | inr w ↦ done_of up m node k h x v d (inr (w.0, omega (arith, w.1)))
    ])

    -- a node of another label has no turn now
    pub numbered_skip : low (word ps) (length ps) y.node y.k v ≢ x → NodesNumbered x (suc v) nums frees
    numbered_skip ne = record {
      nums_long = n.nums_long;
      frees_long = n.frees_long;
      number_is = λ d ld fd hd. n.number_is d ld fd (back d hd);
      free_is = λ d ld fd hd. n.free_is d ld fd (back d hd) ∙ ap (λ (z : ℕ). num d + bit (keep_at d) + z) (sym (same d));
    }
      where
        other : lo v ≢ x
        other = ne

        same : (d : ℕ) → taken_by up m node k h x (suc v) d ≡ taken_by up m node k h x v d
        same d =
            let z = bit_no (branch up m node k d v && eqb (lo v) x) (λ t. other ((eq_iff (lo v) x).0 ((and-iff (branch up m node k d v) (eqb (lo v) x)).0 t).1)) in
            omega (arith, taken_next up m node k h x v d lv, ap (λ (b : ℕ). b * sz v) z)

        back : (d : ℕ) → Had x (suc v) d → Had x v d
        back d hd = elim (ℕ_discrete d v) [
          | no q ↦ had_back d q hd
          | yes q ↦ again d q hd
        ]
          where
            again : (d : ℕ) → d ≡ v → Had x (suc v) d → Had x v d
            again d q (inl e) = inl e
            again d q (inr t) = inr (elim (done_iff up m node k h x (suc v) d t) [
              | inl w ↦ done_of up m node k h x v d (inl w)
              | inr w ↦ absurd (other (subst (λ (u : ℕ). lo u ≡ x) q w.0))
            ])

    -- a node of the label takes its parent's next free number
    module _ (is_low : low (word ps) (length ps) y.node y.k v ≡ x) (lx : x < y.k) (p a : ℕ) (ep : p ≡ word ps v) (ea : a ≡ word frees p) where
      s : Branch up m node k (up v) v
      s = parent-branch v pv (omega (arith, is_low))

      less : up v < v
      less = branch-lt up m node k h (up v) v s

      full_parent : T (full_at (up v))
      full_parent = full_up up m node k h (up v) v (branch_above up m node k h (up v) v s) s.holds

      had_parent : Had x v (up v)
      had_parent = inr (subst (λ (z : ℕ). T (done up m node k h z v (up v))) is_low (parent_done up m node k h (up v) v s))

      taken-parent : word frees (up v) ≡ num (up v) + bit (keep_at (up v)) + taken_by up m node k h x v (up v)
      taken-parent = n.free_is (up v) (omega (arith, less)) full_parent had_parent

      at_number : a ≡ num v
      at_number =
          ea ∙ ap (word frees) ep ∙ taken-parent
          ∙ ap (λ (z : ℕ). num (up v) + bit (keep_at (up v)) + taken_by up m node k h z v (up v)) (sym is_low)
          ∙ sym (number-taken up m node k h (up v) v s)

      -- both sums fit
      pub numbered_fits : (p < v) × (p < node_room) × (v < node_room) × (a + word bits v ≤ 1025) × (a + word sizes v ≤ node_room)
      numbered_fits =
          let r = run_fits v lv s.holds in (
            omega (arith, less),
            omega (arith, less, y.few),
            omega (arith, y.few),
            omega (arith, at_number, r, y.few, y.bits_are v lv, bit_le (keep_at v)),
            omega (arith, at_number, r, y.few, y.sizes_are v lv),
          )

      -- nothing of v's own branches is done yet
      own_none : taken_by up m node k h x v v ≡ 0
      unfolding taken_by
      own_none = sum_none m _ (λ d ld. rw (bit_no (branch up m node k v d && done up m node k h x v d) (λ t.
          let q = (and-iff (branch up m node k v d) (done up m node k h x v d)).0 t in
          let kd = branch-iff_to up m node k h v d q.0 in
          let ld = low_label up m node k h d kd.holds in
          let lv = low_least up m node k h v (lo d) ld.0 (anc_trans up h.tree v d (node (lo d)) (branch_above up m node k h v d kd) ld.1) in
          elim (done_iff up m node k h x v d q.1) [
            | inl w ↦ omega (arith, is_low)
            | inr w ↦ omega (arith, w.1, branch-lt up m node k h v d kd)
          ])) (omega arith))

      taken_v : taken_by up m node k h x (suc v) v ≡ 0
      taken_v =
          let z = bit_no (branch up m node k v v && eqb (lo v) x) (λ t.
          let kd = branch-iff_to up m node k h v v ((and-iff (branch up m node k v v) (eqb (lo v) x)).0 t).0 in
          omega (arith, branch-lt up m node k h v v kd)) in
          omega (arith, taken_next up m node k h x v v lv, own_none, ap (λ (b : ℕ). b * sz v) z)

      taken_p : taken_by up m node k h x (suc v) (up v) ≡ taken_by up m node k h x v (up v) + sz v
      taken_p =
          let o = bit-T (branch up m node k (up v) v && eqb (lo v) x) ((and-iff (branch up m node k (up v) v) (eqb (lo v) x)).1 (branch-iff_of up m node k h (up v) v s, (eq_iff (lo v) x).1 is_low)) in
          omega (arith, taken_next up m node k h x v (up v) lv, ap (λ (b : ℕ). b * sz v) o)

      taken_other : (d : ℕ) → d ≢ up v → taken_by up m node k h x (suc v) d ≡ taken_by up m node k h x v d
      taken_other d ne =
          let z = bit_no (branch up m node k d v && eqb (lo v) x) (λ t.
          ne (sym (branch-iff_to up m node k h d v ((and-iff (branch up m node k d v) (eqb (lo v) x)).0 t).0).below)) in
          omega (arith, taken_next up m node k h x v d lv, ap (λ (b : ℕ). b * sz v) z)

      pub numbered_take : NodesNumbered x (suc v) (set nums v a) (set (set frees v (a + word bits v)) p (a + word sizes v))
      numbered_take = record {
        nums_long = length-set nums v a ∙ n.nums_long;
        frees_long = length-set (set frees v (a + word bits v)) p (a + word sizes v) ∙ length-set frees v (a + word bits v) ∙ n.frees_long;
        number_is = λ d ld fd hd. elim (ℕ_discrete d v) [
          | yes q ↦ rw q (get_or-set_same nums v a 0 (omega (arith, n.nums_long, y.few)) ∙ at_number)
          | no q ↦ get_or-set_other nums v d a 0 q ∙ n.number_is d ld fd (had_back d q hd)
        ];
        free_is = λ d ld fd hd. elim (ℕ_discrete d p) [
          | yes q ↦ (
              let r : d ≡ up v = q ∙ ep in
              rw q (get_or-set_same (set frees v (a + word bits v)) p (a + word sizes v) 0
              (omega (arith, less, length-set frees v (a + word bits v), n.frees_long, y.few)))
              ∙ parent-run d r)
          | no q ↦ get_or-set_other (set frees v (a + word bits v)) p d (a + word sizes v) 0 q ∙ elim (ℕ_discrete d v) [
            | yes w ↦ own-run d w
            | no w ↦ get_or-set_other frees v d (a + word bits v) 0 w ∙ n.free_is d ld fd (had_back d w hd)
                ∙ ap (λ (z : ℕ). num d + bit (keep_at d) + z) (sym (taken_other d (λ r. q (r ∙ sym ep))))
          ]
        ];
      }
        where
          parent-run : (d : ℕ) → d ≡ up v → a + word sizes v ≡ num d + bit (keep_at d) + taken_by up m node k h x (suc v) d
          parent-run d r = rw r (omega (arith, ea, ap (word frees) ep, taken-parent, taken_p, y.sizes_are v lv))

          own-run : (d : ℕ) → d ≡ v → word (set frees v (a + word bits v)) d ≡ num d + bit (keep_at d) + taken_by up m node k h x (suc v) d
          own-run d w = rw w (get_or-set_same frees v (a + word bits v) 0 (omega (arith, n.frees_long, y.few))
              ∙ (omega (arith, at_number, y.bits_are v lv, taken_v)))

  -- ---- rounds

  -- the next round
  pub numbered_round : (x : ℕ) (nums frees : List ℕ) → NodesNumbered x m nums frees → NodesNumbered (suc x) 1 nums frees
  numbered_round x nums frees n = record {
    nums_long = n.nums_long;
    frees_long = n.frees_long;
    number_is = λ d ld fd hd. n.number_is d ld fd (back d ld hd);
    free_is = λ d ld fd hd. n.free_is d ld fd (back d ld hd) ∙ ap (λ (z : ℕ). num d + bit (keep_at d) + z) (sym (same d));
  }
    where
      some : 0 < m
      some = omega (arith, h.node_lt 0 (omega (arith, h.two)))

      same : (d : ℕ) → taken_by up m node k h (suc x) 1 d ≡ taken_by up m node k h x m d
      same d =
          let z = bit_no (branch up m node k d 0 && eqb (lo 0) (suc x)) (λ t.
          let kd = branch-iff_to up m node k h d 0 ((and-iff (branch up m node k d 0) (eqb (lo 0) (suc x))).0 t).0 in
          omega (arith, kd.pos)) in
          omega (arith, taken_next up m node k h (suc x) 0 d some, ap (λ (b : ℕ). b * sz 0) z, taken_round up m node k h x d)

      back : (d : ℕ) → d < length ps → Had (suc x) 1 d → Had x m d
      back d ld (inl e) = inl e
      back d ld (inr t) = elim (done_iff up m node k h (suc x) 1 d t) [
        | inr w ↦ inl (omega (arith, w.1))
        | inl w ↦ inr (elim (ℕ_discrete (lo d) x) [
          | yes e ↦ done_of up m node k h x m d (inr (e, ld))
          | no q ↦ done_of up m node k h x m d (inl (omega arith))
        ])
      ]

  -- after the last round every node with labels has its number
  pub numbered_all : (nums frees : List ℕ) → NodesNumbered k 1 nums frees
      → (d : ℕ) → d < length ps → T (full_at d) → word nums d ≡ num d
  numbered_all nums frees n d ld fd =
      n.number_is d ld fd (inr (done_of up m node k h k 1 d (inl (low_label up m node k h d fd).0)))

  -- before the first round: node 0 has the number 0, and 1 is free
  pub numbered_first : (nums frees : List ℕ) → length nums ≡ node_room → length frees ≡ node_room → word nums 0 ≡ 0 → word frees 0 ≡ 1
      → NodesNumbered 0 1 nums frees
  numbered_first nums frees a b c d = record {
    nums_long = a;
    frees_long = b;
    number_is = λ v lv fv hv. rw (only v hv) (c ∙ sym (number-zero up m node k h));
    free_is = λ v lv fv hv. rw (only v hv)
        (omega (arith, d, number-zero up m node k h, bit-T (keep_at 0) (root_stays up m node k h), none));
  }
    where
      only : (v : ℕ) → Had 0 1 v → v ≡ 0
      only v (inl e) = e
      only v (inr t) = elim (done_iff up m node k h 0 1 v t) [ inl w ↦ absurd (omega arith) | inr w ↦ omega (arith, w.1) ]

      none : taken_by up m node k h 0 1 0 ≡ 0
      none =
          let z = bit_no (branch up m node k 0 0 && eqb (lo 0) 0) (λ t.
          let kd = branch-iff_to up m node k h 0 0 ((and-iff (branch up m node k 0 0) (eqb (lo 0) 0)).0 t).0 in
          omega (arith, kd.pos)) in
          omega (
            arith,
            taken_next up m node k h 0 0 0 (omega (arith, h.node_lt 0 (omega (arith, h.two)))),
            ap (λ (b : ℕ). b * sz 0) z,
            taken_none up m node k h 0,
          )

  -- ---- along a chain

  -- nodes of other ranks have no turn
  jump_in : (f x i : ℕ) (nums frees : List ℕ) → 1 ≤ i → i + f ≤ m → ((v : ℕ) → i ≤ v → v < i + f → lo v ≢ x)
      → NodesNumbered x i nums frees → NodesNumbered x (i + f) nums frees
  jump_in zero x i nums frees p l h n = let e : i + 0 ≡ i = omega arith in rw e n
  jump_in (suc f) x i nums frees p l h n =
      let e : i + suc f ≡ suc i + f = omega arith in
      rw e (jump_in f x (suc i) nums frees (omega arith) (omega arith) (λ v a b. h v (omega arith) (omega arith))
      (numbered_skip x i nums frees n p (omega arith) (h i (omega arith) (omega arith))))

  pub numbered_jump : (x i w : ℕ) (nums frees : List ℕ) → 1 ≤ i → IsNext lo m i x w → NodesNumbered x i nums frees → NodesNumbered x w nums frees
  numbered_jump x i w nums frees p q n =
      let f = w - i in
      let a = q.after in
      let b = q.most in
      let e : i + f ≡ w = omega arith in
      subst (λ (j : ℕ). NodesNumbered x j nums frees) e
      (jump_in f x i nums frees p (omega arith) (λ v l u. q.none v l (omega (arith, e, u))) n)

-- ---- as contracts say it

-- before the round of rank x
pub record Going (ps sizes bits heads nexts : List ℕ) (x : ℕ) (nums frees : List ℕ) : Type 0 where
  pub state : (y : NumberingReady ps sizes bits heads nexts) → x ≤ y.k → NodesNumbered ps sizes bits heads nexts y x 1 nums frees

-- in it, at node v or after the last
pub record NumberingTurn (ps sizes bits heads nexts : List ℕ) (x v : ℕ) (nums frees : List ℕ) : Type 0 where
  pub node : (1 ≤ v) × (v ≤ length ps)
  pub is_low : (y : NumberingReady ps sizes bits heads nexts) → x < y.k → v < length ps → low (word ps) (length ps) y.node y.k v ≡ x
  pub state : (y : NumberingReady ps sizes bits heads nexts) → x < y.k → NodesNumbered ps sizes bits heads nexts y x v nums frees

-- a round can be made
pub record Round (ps sizes bits heads nexts : List ℕ) (x : ℕ) (nums frees : List ℕ) : Type 0 where
  pub ready : NumberingReady ps sizes bits heads nexts
  pub rank : x < ready.k
  pub going : Going ps sizes bits heads nexts x nums frees

-- all k rounds can
pub record RanksReady (ps sizes bits heads nexts : List ℕ) (k : ℕ) : Type 0 where
  pub ready : NumberingReady ps sizes bits heads nexts
  pub ranks : ready.k ≡ k

module _ (ps sizes bits heads nexts : List ℕ) (x : ℕ) where
  pub turn_first : (nums frees : List ℕ) → Round ps sizes bits heads nexts x nums frees → (v : ℕ) → v ≡ word heads x
      → NumberingTurn ps sizes bits heads nexts x v nums frees
  turn_first nums frees r v e =
      let q = r.ready.heads_are x r.rank in
      rw e (record {
        node = (q.after, q.most);
        is_low = λ y l lv. (y.heads_are x l).is lv;
        state = λ y l. numbered_jump ps sizes bits heads nexts y x 1 (word heads x) nums frees (omega arith) (y.heads_are x l)
            (r.going.state y (omega arith));
      })

  module _ (y : NumberingReady ps sizes bits heads nexts) (lx : x < y.k) (v : ℕ) (nums frees : List ℕ)
      (t : NumberingTurn ps sizes bits heads nexts x v nums frees) (lv : v < length ps) where
    pub turn_fits : (p a : ℕ) → p ≡ word ps v → a ≡ word frees p
        → (p < node_room) × (v < node_room) × (a + word bits v ≤ 1025) × (a + word sizes v ≤ node_room)
    turn_fits p a ep ea =
        let q = numbered_fits ps sizes bits heads nexts y x v nums frees (t.state y lx) t.node.0 lv (t.is_low y lx lv) lx p a ep ea in
        (q.1, q.2, q.3, q.4)

    -- the next node of the chain comes later
    pub turn_later : (w : ℕ) → w ≡ word nexts v → v < w
    turn_later w e = omega (arith, e, (y.nexts_are v t.node.0 lv).after)

  pub turn_next : (nums frees : List ℕ) (v : ℕ) → NumberingTurn ps sizes bits heads nexts x v nums frees → v < length ps
      → (y : NumberingReady ps sizes bits heads nexts) → x < y.k → (p a w : ℕ) → p ≡ word ps v → a ≡ word frees p → w ≡ word nexts v
      → NumberingTurn ps sizes bits heads nexts x w (set nums v a) (set (set frees v (a + word bits v)) p (a + word sizes v))
  turn_next nums frees v t lv y₀ l₀ p a w ep ea ew =
      let q = y₀.nexts_are v t.node.0 lv in
      rw ew (record {
        node = (omega (arith, q.after), q.most);
        is_low = λ y l lw. (subst (λ (z : ℕ). IsNext (low (word ps) (length ps) y.node y.k) (length ps) (suc v) z (word nexts v))
            (t.is_low y l lv) (y.nexts_are v t.node.0 lv)).is lw;
        state = λ y l. numbered_jump ps sizes bits heads nexts y x (suc v) (word nexts v) _ _ (omega arith)
            (subst (λ (z : ℕ). IsNext (low (word ps) (length ps) y.node y.k) (length ps) (suc v) z (word nexts v))
            (t.is_low y l lv) (y.nexts_are v t.node.0 lv))
            (numbered_take ps sizes bits heads nexts y x v nums frees (t.state y l) t.node.0 lv (t.is_low y l lv) l p a ep ea);
      })

  pub turn_last : (nums frees : List ℕ) (v : ℕ) → NumberingTurn ps sizes bits heads nexts x v nums frees → length ps ≤ v
      → Going ps sizes bits heads nexts (x + 1) nums frees
  turn_last nums frees v t l = record {
    state = λ y lx.
        let e : v ≡ length ps = omega (arith, t.node.1) in
        let f : suc x ≡ x + 1 = omega arith in
        subst (λ (z : ℕ). NodesNumbered ps sizes bits heads nexts y z 1 nums frees) f
        (numbered_round ps sizes bits heads nexts y x nums frees
        (subst (λ (u : ℕ). NodesNumbered ps sizes bits heads nexts y x u nums frees) e (t.state y (omega arith))));
  }

-- each node with a rank at it or below has its number
pub record NumbersAre (ps sizes bits heads nexts : List ℕ) (k : ℕ) (nums : List ℕ) : Type 0 where
  pub number_is : (y : NumberingReady ps sizes bits heads nexts) → y.k ≡ k → (v : ℕ) → v < length ps
      → T (full (word ps) (length ps) y.node y.k v) → word nums v ≡ number (word ps) (length ps) y.node y.k v

module _ (ps sizes bits heads nexts : List ℕ) where
  pub going_all : (k x : ℕ) (nums frees : List ℕ) → x ≡ k → Going ps sizes bits heads nexts x nums frees
      → NumbersAre ps sizes bits heads nexts k nums
  going_all k x nums frees e g = record {
    number_is = λ y q. numbered_all ps sizes bits heads nexts y nums frees
        (subst (λ (z : ℕ). NodesNumbered ps sizes bits heads nexts y z 1 nums frees) (e ∙ sym q) (g.state y (omega arith)));
  }

  pub going_first : Going ps sizes bits heads nexts 0 (replicate node_room 0) (set (replicate node_room 0) 0 1)
  going_first =
      let z : List ℕ = replicate node_room 0 in
      let e : length z ≡ node_room = length-replicate {A = ℕ} node_room 0 in
      record {
        state = λ y l. numbered_first ps sizes bits heads nexts y z (set z 0 1) e (length-set z 0 1 ∙ e) refl (get_or-set_same z 0 1 0 (omega arith));
      }
