-- Labels by rank: different ranks have different labels.
-- Assumes nothing.
use Rattle.std.specs.Prelude.{◌≡◌, refl, ◌≢◌, ℕ, zero, suc, ◌≤◌, ◌<◌}
use Rattle.std.proofs.Common.{subst, arith}
use Rattle.std.proofs.Math.Decide.{dec_lt}
use Rattle.shapes.specs.theorems.FourLabels.{Four}
use Rattle.counting.specs.Labels.{Labels, all}
use Rattle.counting.specs.theorems.LabelLaws.{Rising}

pub all-rising : (n : ℕ) → Rising n (all n)
all-rising n = record { inside = λ x l. l; rises = λ x y l m. l }

-- all labels of a tree with as many tips
pub all_of : (n m : ℕ) → m ≡ n → Rising m (all n)
all_of n m e = record { inside = λ x l. omega arith; rises = λ x y l k. l }

-- any labels of it
pub rising_of : (n m : ℕ) (l : Labels) → n ≡ m → Rising n l → Rising m l
rising_of n m l e r = subst (λ (k : ℕ). Rising k l) e r

module _ (n : ℕ) (l : Labels) (r : Rising n l) where
  pub at_apart : (x y : ℕ) → x < l.number → y < l.number → x ≢ y → l.at x ≢ l.at y
  at_apart x y lx ly d e = elim (dec_lt x y) [
    | yes m ↦ omega (arith, r.rises x y m ly)
    | no m ↦ omega (arith, r.rises y x (omega arith) lx)
  ]

  -- four different ranks are four different labels
  pub at_four : (a b c d : ℕ) → Four l.number a b c d → Four n (l.at a) (l.at b) (l.at c) (l.at d)
  at_four a b c d f = record {
    la = r.inside a f.la;
    lb = r.inside b f.lb;
    lc = r.inside c f.lc;
    ld = r.inside d f.ld;
    ab = at_apart a b f.la f.lb f.ab;
    ac = at_apart a c f.la f.lc f.ac;
    ad = at_apart a d f.la f.ld f.ad;
    bc = at_apart b c f.lb f.lc f.bc;
    bd = at_apart b d f.lb f.ld f.bd;
    cd = at_apart c d f.lc f.ld f.cd;
  }

  -- a rank is no more than its label, so there are n labels at most
  rank_le : (x : ℕ) → x < l.number → x ≤ l.at x
  rank_le zero m = omega arith
  rank_le (suc x) m = omega (arith, rank_le x (omega arith), r.rises x (suc x) (omega arith) m)

  pub number-le : l.number ≤ n
  number-le = go l.number refl
    where
      go : (k : ℕ) → l.number ≡ k → l.number ≤ n
      go zero e = omega arith
      go (suc k) e = omega (arith, rank_le k (omega arith), r.inside k (omega arith))
