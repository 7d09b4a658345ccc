-- The copy of a tree that is rooted at the tip of rank 0, from its arrays into a slice.
-- Assumes nothing.
use Rattle.std.specs.Prelude.{◌≡◌, refl, Bool, ◌&&◌, ◌||◌, T, length, get_or, take, drop}
use Rattle.std.proofs.Math.Path.{sym, ap, ap₂}
use Rattle.std.proofs.Common.{◌∙◌, subst, inl, inr, T_not, length-drop, take-append-drop, get_or-drop, length-take-le, get_or-append-add}
use Rattle.std.proofs.Math.Bool.{true, false}
use mathlib.Core.List.{List, ◌∷◌, ◌++◌}
use Prim.Native.Nat.{ℕ, zero, suc, ◌+◌, ◌*◌, ◌-◌, ◌≤◌, ◌<◌}
use Rattle.std.proofs.Math.Decide.{dec_lt, ℕ_discrete}
use native.Mathlib.Omega.{arith}
use Rattle.std.proofs.Math.Dec.{ltb, leb, eqb, not_T}
use Rattle.std.proofs.Math.ListN.{length-append, get_or-append}
use Rattle.std.proofs.Math.Seq.{ext_get_or, get_or-take}
use Rattle.table_words.specs.Sizes.{tips_most, node_room, inner_label}
use Rattle.sums.specs.Bits.{bit}
use Rattle.sums.specs.Tests.{first}
use Rattle.sums.specs.Lists.{in_order}
use Rattle.sums.specs.theorems.BitLaws.{bit_le, bit-T, T_true, T_false}
use Rattle.sums.specs.theorems.CountLaws.{count-le}
use Rattle.sums.specs.theorems.ListLaws.{in_order-length, in_order_at}
use Rattle.sums.specs.theorems.Products.{bit_and}
use Rattle.sums.specs.theorems.SumLaws.{sum_ext}
use Rattle.sums.specs.theorems.TestLaws.{T_dec, same_test, lt_iff, first-le, first_least_lem, first_hit}
use Rattle.shapes.specs.Ancestors.{anc}
use Rattle.shapes.proofs.theorems.AncestorLaws.{parent-lt}
use Rattle.shapes.specs.theorems.Totals.{total}
use Rattle.shapes.proofs.theorems.Totals.{added-all}
use Rattle.tree_check.specs.Table.{word}
use Rattle.canonical.specs.Copying.{full, low, branch, tip, stays, copy_size, number, over, at, label_word, copy_of}
use Rattle.canonical.specs.theorems.Branches.{TipRooted}
use Rattle.canonical.proofs.theorems.Branches.{passed, tip_of, tip-label, root_stays, stays_full}
use Rattle.canonical.proofs.theorems.Numbers.{low_label}
use Rattle.canonical.proofs.theorems.Positions.{size-all, number-one, number_lt, at_is}
use Rattle.canonical.proofs.theorems.Over.{over_root, over_suc}
use Rattle.canonical.proofs.theorems.CopyTree.{word-tip, word_inner}
use Rattle.canonical_copy.specs.CopyAnswer.{written_over}
use Rattle.canonical_copy.specs.lemmas.Parents.{ParentsBefore}
use Rattle.canonical_copy.proofs.lemmas.Parents.{parent-le}
use Rattle.canonical_copy.specs.lemmas.Ranks.{rank_of, NodeRanks}
use Rattle.canonical_copy.specs.lemmas.LeastBelow.{LeastBelow}
use Rattle.canonical_copy.specs.lemmas.Staying.{branch_at, BranchCounts, StayBits, OwnAtMostOne, SizesAre}
use Rattle.canonical_copy.specs.lemmas.Chains.{IsNext, Chainable, ChainsAre}
use Rattle.canonical_copy.specs.lemmas.Numbering.{low_full_of, NumberingReady, RanksReady, NumbersAre}
use Rattle.canonical_copy.specs.lemmas.ParentNumbers.{ParentNumbers}
use Rattle.canonical_copy.proofs.lemmas.ParentNumbers.{above_stays, above_gone}
use Rattle.canonical_copy.specs.lemmas.Writing.{label_for, Writable, CopyWritten}
use Rattle.canonical_copy.specs.lemmas.RootedCopy.{CopiedInto, RootedRanks}

-- what stands in front and stays behind is written over
written_over_lem : (c old new : List ℕ) (j : ℕ) → length c ≡ j → length new ≡ length old → take j new ≡ c
    → ((i : ℕ) → j ≤ i → word new i ≡ word old i) → new ≡ written_over c old
unfolding written_over
written_over_lem c old new j e l w r =
    sym (take-append-drop j new) ∙ ap₂ (λ (x y : List ℕ). x ++ y) w (rest ∙ ap (λ (i : ℕ). drop i old) (sym e))
  where
    rest : drop j new ≡ drop j old
    rest = ext_get_or 0 (drop j new) (drop j old) (length-drop j new ∙ ap (λ (n : ℕ). n - j) l ∙ sym (length-drop j old))
        (λ i q. get_or-drop j new i 0 ∙ r (j + i) (omega arith) ∙ sym (get_or-drop j old i 0))

module _ (ps labels ranks : List ℕ) (k : ℕ) (y : RootedRanks ps labels ranks k) where
  abbrev up : ℕ → ℕ
  up = word ps

  abbrev m : ℕ
  m = length ps

  abbrev node : ℕ → ℕ
  node = y.node

  abbrev h : TipRooted (word ps) (length ps) y.node k
  h = y.rooted

  abbrev num : ℕ → ℕ
  num = number (word ps) (length ps) y.node k

  abbrev next : ℕ → ℕ
  next = over (word ps) (length ps) y.node k

  abbrev keeps : ℕ → Bool
  keeps = stays (word ps) (length ps) y.node k

  abbrev N : ℕ
  N = copy_size (word ps) (length ps) y.node k 0

  pub some-nodes : (1 ≤ length ps) × (length ps ≤ node_room) × (length labels ≤ node_room) × (k ≤ tips_most)
  some-nodes = omega (arith, h.node_lt 0 (omega (arith, h.two)), y.few, y.same, y.small)

  pub parents_are : ParentsBefore ps
  parents_are = record { rooted = h.tree; some = some-nodes.0; few = y.few }

  module _ (at' : List ℕ) (a : NodeRanks labels ranks k (length labels) at') where
    -- node v has the rank that stands there, or none
    data Held (v : ℕ) : Type 0 where
      held : word at' v < k → y.node (word at' v) ≡ v → T (tip (word ps) (length ps) y.node k v) → Held v
      free : word at' v ≡ k → (T (tip (word ps) (length ps) y.node k v) → ⊥) → Held v

    at_is' : (v : ℕ) → v < m → word at' v ≡ rank_of ranks k (word labels v)
    at_is' v l = a.rank_is v (omega (arith, y.same))

    holds : (v : ℕ) → v < m → Held v
    holds v l = elim (T_dec (tip up m node k v)) [
      | inl t ↦ (
          let x = tip-label up m node k h v t in
          let e : word at' v ≡ x.0 = at_is' v l ∙ ap (λ (w : ℕ). rank_of ranks k (word labels w)) (sym x.2) ∙ y.own x.0 x.1 in
          held (omega (arith, x.1, e)) (ap node e ∙ x.2) t)
      | inr n ↦ (
          let none : T (tip up m node k v) → ⊥ = λ t. T_not (tip up m node k v) n t in
          free (at_is' v l ∙ y.other v l (λ x lx e. none (subst (λ (w : ℕ). T (tip up m node k w)) e (tip_of up m node k h x lx)))) none)
    ]

    rank_tip : (v : ℕ) → Held v → ltb (word at' v) k ≡ tip up m node k v
    rank_tip v (held l e t) = same_test _ _ (λ w. t) (λ w. (lt_iff (word at' v) k).1 l)
    rank_tip v (free e n) = same_test _ _ (λ w. absurd (omega (arith, (lt_iff (word at' v) k).0 w, e))) (λ w. absurd (n w))

    pub label_words_lem : (v : ℕ) → v < length ps → label_for (word at' v) k ≡ label_word (word ps) (length ps) y.node k v
    unfolding label_for
    label_words_lem v l = go (holds v l)
      where
        go : Held v → elim (ltb (word at' v) k) as (λ z. ℕ) [ true ↦ word at' v | false ↦ inner_label ] ≡ label_word up m node k v
        go (held lx e t) =
            ap (λ (b : Bool). elim b as (λ z. ℕ) [ true ↦ word at' v | false ↦ inner_label ]) (T_true (ltb (word at' v) k) ((lt_iff (word at' v) k).1 lx))
            ∙ sym (subst (λ (w : ℕ). label_word up m node k w ≡ word at' v) e (word-tip up m node k h (word at' v) lx))
        go (free e n) =
            ap (λ (b : Bool). elim b as (λ z. ℕ) [ true ↦ word at' v | false ↦ inner_label ])
            (T_false (ltb (word at' v) k) (λ t. absurd (omega (arith, (lt_iff (word at' v) k).0 t, e))))
            ∙ sym (word_inner up m node k h v (not_T (tip up m node k v) n))

    module _ (lows : List ℕ) (b : LeastBelow ps at' lows) where
      -- ---- the smallest ranks

      lows_are : (v : ℕ) → v < m → word lows v ≡ low up m node k v
      unfolding low
      lows_are v l =
          let s = b.stands v l in
          by s.0 s.1 s.2 s.3 (holds s.0 s.1)
        where
          f : ℕ
          f = first k (λ x. anc up v (node x))

          least : f < k → word lows v ≤ f
          least q =
              let t = first_hit k (λ x. anc up v (node x)) q in
              let lf = h.node_lt f q in
              omega (
                arith,
                b.least v (node f) l lf (bit-T (anc up v (node f)) t),
                at_is' (node f) lf,
                y.own f q,
              )

          by : (w : ℕ) → w < m → bit (anc up v w) ≡ 1 → word lows v ≡ word at' w → Held w → word lows v ≡ f
          by w lw o e (held lx n t) =
              let x = word at' w in
              let p = first_least_lem k (λ x. anc up v (node x)) x lx (passed (anc up v (node x)) (subst (λ (u : ℕ). bit (anc up v u) ≡ 1) (sym n) o)) in
              omega (arith, e, p, least (omega (arith, p, lx)))
          by w lw o e (free q n) = elim (dec_lt f k) [
            | yes c ↦ absurd (omega (arith, least c, e, q))
            | no c ↦ omega (arith, first-le k (λ x. anc up v (node x)), e, q)
          ]

      lows_few : (v : ℕ) → v < m → word lows v ≤ k
      unfolding low
      lows_few v l = omega (arith, lows_are v l, first-le k (λ x. anc up v (node x)))

      -- ---- what stays

      module _ (counts bits : List ℕ) (c : BranchCounts ps lows k (length ps) counts) (d : StayBits at' counts k (length ps) bits) where
        same_branch : (v i : ℕ) → i < m → branch_at ps lows k v i ≡ branch up m node k v i
        unfolding branch_at branch
        same_branch v i l = ap (λ (q : Bool). ltb 0 i && eqb (up i) v && q) (same_test (ltb (word lows i) k) (full up m node k i)
            (λ t. low_full_of up m node k h i (omega (arith, (lt_iff (word lows i) k).0 t, lows_are i l)))
            (λ t. (lt_iff (word lows i) k).1 (omega (arith, (low_label up m node k h i t).0, lows_are i l))))

        bits_are : (v : ℕ) → v < m → word bits v ≡ bit (keeps v)
        unfolding stays
        bits_are v l =
            d.bits_are v l
            ∙ ap₂ (λ (x : Bool) (z : ℕ). bit (x || leb 2 z)) (rank_tip v (holds v l))
            (c.counts_are v l ∙ sum_ext m _ _ (λ i li. ap bit (same_branch v i li)))

        pub bits_small : OwnAtMostOne (length ps) bits
        bits_small = record { long = d.long; small = λ v l. omega (arith, bits_are v l, bit_le (keeps v)) }

        stay_T : (v : ℕ) → v < m → word bits v ≡ 1 → T (keeps v)
        stay_T v l e = passed (keeps v) (sym (bits_are v l) ∙ e)

        -- ---- sizes

        module _ (sizes : List ℕ) (s : SizesAre ps bits 1 sizes) where
          sizes_are : (v : ℕ) → v < m → word sizes v ≡ copy_size up m node k v
          unfolding copy_size total
          sizes_are v l =
              added-all up h.tree m (word bits) (word sizes) s.added v l
              ∙ sum_ext m _ _ (λ w lw. omega (
                arith,
                ap (λ (x : ℕ). bit (anc up v w) * x) (bits_are w lw),
                bit_and (stays up m node k w) (anc up v w),
              ))

          module _ (n : ℕ) (e : n ≡ word sizes 0) where
            count_is : n ≡ N
            count_is = e ∙ sizes_are 0 (omega (arith, some-nodes))

            pub count_few : n ≤ node_room
            count_few = omega (arith, count_is, size-all up m node k h, count-le m keeps, y.few)

            copy_long : length (copy_of up m node k) ≡ 2 + 2 * n
            unfolding copy_of
            copy_long = omega (
              arith,
              count_is,
              in_order-length N (λ i. num (next (at up m node k i))),
              in_order-length N (λ i. label_word up m node k (at up m node k i)),
              length-append (in_order N (λ i. num (next (at up m node k i)))) (in_order N (λ i. label_word up m node k (at up m node k i))),
            )

            pub too_short : (old : List ℕ) → length old < 2 + 2 * n → CopiedInto (copy_of (word ps) (length ps) y.node k) old old 0
            too_short old l = record {
              short = λ q. (refl, refl);
              long = λ q. absurd (omega (arith, copy_long));
            }

            -- ---- chains

            pub chainable : (heads nexts : List ℕ) → length heads ≡ node_room → length nexts ≡ node_room
                → ((x : ℕ) → x < node_room → word heads x ≡ length ps) → Chainable lows (length ps) heads nexts
            chainable heads nexts lh ln none = record {
              some = omega (arith, some-nodes);
              few = y.few;
              lows_few = λ v l. omega (arith, lows_few v l, y.small);
              heads_long = lh;
              nexts_long = ln;
              heads_none = none;
            }

            module _ (heads nexts : List ℕ) (g : ChainsAre lows (length ps) 1 heads nexts) where
              by_low : (i x w : ℕ) → 1 ≤ i → IsNext (word lows) m i x w → IsNext (low up m node k) m i x w
              by_low i x w p q = record {
                after = q.after;
                most = q.most;
                none = λ v a b c. q.none v a b (lows_are v (omega (arith, b, q.most)) ∙ c);
                is = λ l. sym (lows_are w l) ∙ q.is l;
              }

              pub ready : NumberingReady ps sizes bits heads nexts
              ready = record {
                k = k;
                node = node;
                rooted = h;
                few = y.few;
                labels = y.small;
                sizes_are = sizes_are;
                bits_are = bits_are;
                heads_are = λ x l. by_low 1 x (word heads x) (omega arith) (g.heads_are x (omega (arith, y.small)));
                nexts_are = λ v p l. subst (λ (z : ℕ). IsNext (low up m node k) m (suc v) z (word nexts v)) (lows_are v l)
                    (by_low (suc v) (word lows v) (word nexts v) (omega arith) (g.nexts_are v p l));
              }

              pub ranks_ready : (k' : ℕ) → k' ≡ k → RanksReady ps sizes bits heads nexts k'
              unfolding ready
              ranks_ready k' e = record { ready = ready; ranks = sym e }

              module _ (k' : ℕ) (ek : k' ≡ k) (numbers above : List ℕ) (q : NumbersAre ps sizes bits heads nexts k' numbers)
                  (p : ParentNumbers ps bits numbers (length ps) above) where
                number_is : (v : ℕ) → v < m → T (keeps v) → word numbers v ≡ num v
                unfolding ready
                number_is v l t = q.number_is ready (sym ek) v l (stays_full up m node k h v t)

                next_stays : (v : ℕ) → T (keeps (up v)) → next v ≡ up v
                next_stays zero t = over_root up m node k h ∙ sym h.tree.root
                next_stays (suc w) t = over_suc up m node k h w
                    ∙ ap (λ (b : Bool). elim b as (λ z. ℕ) [ true ↦ up (suc w) | false ↦ next (up (suc w)) ]) (T_true (keeps (up (suc w))) t)

                next_gone : (v : ℕ) → (T (keeps (up v)) → ⊥) → (1 ≤ v) × (next v ≡ next (up v))
                next_gone zero n = absurd (n (subst (λ (u : ℕ). T (keeps u)) (sym h.tree.root) (root_stays up m node k h)))
                next_gone (suc w) n = (
                  omega arith,
                  over_suc up m node k h w
                      ∙ ap (λ (b : Bool). elim b as (λ z. ℕ) [ true ↦ up (suc w) | false ↦ next (up (suc w)) ]) (T_false (keeps (up (suc w))) n),
                )

                above_step : (v : ℕ) → v < m → ((w : ℕ) → w < v → w < m → word above w ≡ num (next w)) → word above v ≡ num (next v)
                above_step v l before =
                    let lp : up v < m = omega (arith, parent-le ps parents_are v) in
                    p.above_is v l ∙ elim (ℕ_discrete (word bits (up v)) 1) [
                      | yes e ↦ (let t = stay_T (up v) lp e in
                          above_stays ps bits numbers above v e ∙ number_is (up v) lp t ∙ ap num (sym (next_stays v t)))
                      | no d ↦ (
                          let w = next_gone v (λ t. d (bits_are (up v) lp ∙ bit-T (keeps (up v)) t)) in
                          above_gone ps bits numbers above v d ∙ before (up v) (parent-lt up h.tree v w.0) lp ∙ ap num (sym w.1))
                    ]

                above_in : (f v : ℕ) → v ≤ f → v < m → word above v ≡ num (next v)
                above_in zero v lf l = above_step v l (λ w lw. absurd (omega arith))
                above_in (suc f) v lf l = above_step v l (λ w lw lm. above_in f w (omega arith) lm)

                pub writable : (old : List ℕ) → 2 + 2 * n ≤ length old → Writable bits numbers (length ps) n old
                writable old room = record {
                  few = y.few;
                  count_few = count_few;
                  numbers_lt = λ v l e. let t = stay_T v l e in omega (arith, number_is v l t, number_lt up m node k h v l t, count_is);
                  numbers_one = λ v w lv lw ev ew d.
                      let tv = stay_T v lv ev in let tw = stay_T w lw ew in
                      number-one up m node k h v w lv lw tv tw (sym (number_is v lv tv) ∙ d ∙ number_is w lw tw);
                  room = room;
                }

                words_written : (old new : List ℕ) → 2 + 2 * n ≤ length old → CopyWritten at' bits numbers above (length ps) k n old new
                    → take (2 + 2 * n) new ≡ copy_of up m node k
                unfolding copy_of
                words_written old new room w =
                    ext_get_or 0 (take (2 + 2 * n) new) copy
                    (length-take-le (2 + 2 * n) new long ∙ sym whole)
                    (λ i li. get_or-take (2 + 2 * n) new i 0 (small i li) ∙ each i (small i li))
                  where
                    pw : List ℕ
                    pw = in_order N (λ i. num (next (at up m node k i)))

                    lw : List ℕ
                    lw = in_order N (λ i. label_word up m node k (at up m node k i))

                    copy : List ℕ
                    copy = k ∷ N ∷ (pw ++ lw)

                    lp : length pw ≡ N
                    lp = in_order-length N (λ i. num (next (at up m node k i)))

                    ll : length lw ≡ N
                    ll = in_order-length N (λ i. label_word up m node k (at up m node k i))

                    long : 2 + 2 * n ≤ length new
                    long = omega (arith, room, w.long)

                    whole : length copy ≡ 2 + 2 * n
                    whole = omega (arith, length-append pw lw, lp, ll, count_is)

                    small : (i : ℕ) → i < length (take (2 + 2 * n) new) → i < 2 + 2 * n
                    small i li = omega (arith, length-take-le (2 + 2 * n) new long)

                    bit-one : (i : ℕ) → i < N → word bits (at up m node k i) ≡ 1
                    bit-one i l = let p = at_is up m node k h i l in
                        bits_are (at up m node k i) p.0 ∙ bit-T (keeps (at up m node k i)) p.1

                    number_at : (i : ℕ) → i < N → word numbers (at up m node k i) ≡ i
                    number_at i l = let p = at_is up m node k h i l in number_is (at up m node k i) p.0 p.1 ∙ p.2

                    each : (i : ℕ) → i < 2 + 2 * n → get_or new i 0 ≡ get_or copy i 0
                    each zero li = w.tips_word
                    each (suc zero) li = w.nodes_word ∙ count_is
                    each (suc (suc i)) li = elim (dec_lt i N) [
                      | yes a ↦ (
                          let v = at up m node k i in
                          let q = at_is up m node k h i a in
                          let e : suc (suc i) ≡ 2 + word numbers v = omega (arith, number_at i a) in
                          ap (λ (j : ℕ). get_or new j 0) e ∙ w.parents v q.0 (bit-one i a) ∙ above_in v v (omega arith) q.0
                          ∙ sym (get_or-append pw lw 0 i (omega (arith, lp)) ∙ in_order_at N (λ i. num (next (at up m node k i))) i a))
                      | no b ↦ (
                          let j : ℕ = i - N in
                          let lj : j < N = omega (arith, count_is) in
                          let v = at up m node k j in
                          let q = at_is up m node k h j lj in
                          let e : suc (suc i) ≡ 2 + (n + word numbers v) = omega (arith, number_at j lj, count_is) in
                          let f : i ≡ length pw + j = omega (arith, lp) in
                          ap (λ (u : ℕ). get_or new u 0) e ∙ w.labels v q.0 (bit-one j lj) ∙ label_words_lem v q.0
                          ∙ sym (ap (λ (u : ℕ). get_or (pw ++ lw) u 0) f ∙ get_or-append-add pw lw j 0
                          ∙ in_order_at N (λ i. label_word up m node k (at up m node k i)) j lj))
                    ]

                pub copied_into : (old new : List ℕ) → 2 + 2 * n ≤ length old → CopyWritten at' bits numbers above (length ps) k n old new
                    → (w : ℕ) → w ≡ 2 + 2 * n → CopiedInto (copy_of (word ps) (length ps) y.node k) old new w
                copied_into old new room s w e = record {
                  short = λ q. absurd (omega (arith, copy_long));
                  long = λ q. (
                    e ∙ sym copy_long,
                    written_over_lem (copy_of up m node k) old new (2 + 2 * n) copy_long s.long (words_written old new room s) s.rest,
                  );
                }
