-- The words of the copy, written node by node.
-- Assumes nothing.
use Rattle.std.specs.Prelude.{◌≡◌, refl, ◌≢◌, List, ℕ, ◌+◌, ◌*◌, ◌≤◌, ◌<◌, length, set}
use Rattle.std.proofs.Common.{sym, ◌∙◌, ap, arith, lt-ltb, le-ltb, length-set, get_or-set_same, get_or-set_other}
use Rattle.std.proofs.Math.Decide.{ℕ_discrete}
use Rattle.table_words.specs.Sizes.{node_room, inner_label}
use Rattle.tree_check.specs.Table.{word}
use Rattle.canonical_copy.specs.lemmas.Writing.{CopyWritten, Writable, label_for}

pub label_rank : (rank k : ℕ) → rank < k → rank ≡ label_for rank k
unfolding label_for
label_rank rank k l = rw (lt-ltb rank k l, label_for)

pub label_inner : (rank k : ℕ) → k ≤ rank → inner_label ≡ label_for rank k
unfolding label_for
label_inner rank k l = rw (le-ltb rank k l, label_for)

pub written_none : (ranks bits numbers above : List ℕ) (k count z : ℕ) (old : List ℕ) → 2 + 2 * count ≤ length old → z ≡ count
    → CopyWritten ranks bits numbers above 0 k count old (set (set old 0 k) 1 z)
written_none ranks bits numbers above k count z old room e = record {
  long = length-set (set old 0 k) 1 z ∙ length-set old 0 k;
  tips_word = get_or-set_other (set old 0 k) 1 0 z 0 (omega arith) ∙ get_or-set_same old 0 k 0 (omega arith);
  nodes_word = get_or-set_same (set old 0 k) 1 z 0 (omega (arith, length-set old 0 k)) ∙ e;
  parents = λ v l. absurd (omega arith);
  labels = λ v l. absurd (omega arith);
  rest = λ j l. get_or-set_other (set old 0 k) 1 j z 0 (omega arith) ∙ get_or-set_other old 0 j k 0 (omega arith);
}

module _ (ranks bits numbers above : List ℕ) (m k count v : ℕ) (old new : List ℕ) (y : Writable bits numbers m count old) (lv : v < m)
    (s : CopyWritten ranks bits numbers above v k count old new) where
  pub written_skip : word bits v ≢ 1 → CopyWritten ranks bits numbers above (v + 1) k count old new
  written_skip d = record {
    long = s.long;
    tips_word = s.tips_word;
    nodes_word = s.nodes_word;
    parents = λ w l e. s.parents w (before w l e) e;
    labels = λ w l e. s.labels w (before w l e) e;
    rest = s.rest;
  }
    where
      before : (w : ℕ) → w < v + 1 → word bits w ≡ 1 → w < v
      before w l e = elim (ℕ_discrete w v) [ yes q ↦ absurd (d (ap (word bits) (sym q) ∙ e)) | no q ↦ omega arith ]

  module _ (e : word bits v ≡ 1) where
    pub written_room : (word numbers v < count) × (count ≤ node_room) × (2 + 2 * count ≤ length new)
    written_room = (y.numbers_lt v lv e, y.count_few, omega (arith, y.room, s.long))

    abbrev i : ℕ
    i = 2 + word numbers v

    abbrev j : ℕ
    j = 2 + (count + word numbers v)

    written-set : (a b : ℕ) → a ≡ word above v → b ≡ label_for (word ranks v) k
        → CopyWritten ranks bits numbers above (v + 1) k count old (set (set new (2 + word numbers v) a) (2 + (count + word numbers v)) b)
    written-set a b ea eb = record {
      long = length-set (set new i a) j b ∙ length-set new i a ∙ s.long;
      tips_word = other 0 (omega arith) (omega arith) ∙ s.tips_word;
      nodes_word = other 1 (omega arith) (omega arith) ∙ s.nodes_word;
      parents = λ w l q. elim (ℕ_discrete w v) [
        | yes d ↦ rw d (get_or-set_other (set new i a) j i b 0 (omega (arith, low))
            ∙ get_or-set_same new i a 0 (omega (arith, low, written_room)) ∙ ea)
        | no d ↦ (
            let lw : w < v = omega arith in
            let ne = apart w lw q in
            other (2 + word numbers w) (omega arith) (omega (arith, y.numbers_lt w (omega arith) q)) ∙ s.parents w lw q)
      ];
      labels = λ w l q. elim (ℕ_discrete w v) [
        | yes d ↦ rw d (get_or-set_same (set new i a) j b 0 (omega (arith, low, written_room, length-set new i a)) ∙ eb)
        | no d ↦ (
            let lw : w < v = omega arith in
            let ne = apart w lw q in
            other (2 + (count + word numbers w)) (omega (arith, low)) (omega arith) ∙ s.labels w lw q)
      ];
      rest = λ u l. other u (omega (arith, low)) (omega (arith, low)) ∙ s.rest u l;
    }
      where
        low : word numbers v < count
        low = y.numbers_lt v lv e

        other : (u : ℕ) → u ≢ i → u ≢ j → word (set (set new i a) j b) u ≡ word new u
        other u ni nj = get_or-set_other (set new i a) j u b 0 nj ∙ get_or-set_other new i u a 0 ni

        apart : (w : ℕ) → w < v → word bits w ≡ 1 → word numbers w ≢ word numbers v
        apart w lw q d = let x = y.numbers_one w v (omega arith) lv q e d in omega arith

    pub written-take : (u b : ℕ) → u ≡ word numbers v → b ≡ label_for (word ranks v) k
        → CopyWritten ranks bits numbers above (v + 1) k count old (set (set new (2 + u) (word above v)) (2 + (count + u)) b)
    written-take u b eu eb = rw eu (written-set (word above v) b refl eb)
