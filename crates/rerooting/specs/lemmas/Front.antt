-- The front of the cells that a caller lends is the re-rooted table.
-- Assumes nothing.
use Rattle.std.specs.Prelude.{◌≡◌, List, ℕ, ◌+◌, ◌*◌, ◌≤◌, ◌<◌, length, take, drop, replicate}
use Rattle.std.proofs.Common.{sym, ◌∙◌, ap, arith, take_at}
use Rattle.std.proofs.lemmas.List.{length-replicate}
use Rattle.tree_check.specs.Table.{Table, nodes}
use Rattle.tree_check.specs.lemmas.Sized.{Sized, sized_fit}
use Rattle.rerooting.specs.Rerooted.{rerooted, written, after_reroot}
use Rattle.rerooting.specs.theorems.RerootedParts.{rerooted-length}
use Rattle.rerooting.specs.lemmas.Writing.{reroot_accepted}

pub front_is : (t : Table) (n m x : ℕ) (cells out : List ℕ) → Sized t n m → x < n → 2 + 2 * m ≤ length cells → out ≡ after_reroot t x cells
    → take (2 + 2 * m) out ≡ rerooted t x
unfolding written
front_is t n m x cells out h lx room e =
    let a = reroot_accepted t x cells h.tree (omega (arith, h.tips_are)) (omega (arith, h.nodes_are)) in
    ap (take (2 + 2 * m)) (e ∙ sym a.1)
    ∙ take_at (rerooted t x) (drop (2 + 2 * nodes t) cells) (2 + 2 * m) (rerooted-length t x ∙ ap (λ (k : ℕ). 2 + 2 * k) (sym h.nodes_are))

pub front_length : (t : Table) (n m x : ℕ) (cells out : List ℕ) → Sized t n m → x < n → 2 + 2 * m ≤ length cells → out ≡ after_reroot t x cells
    → 2 + 2 * m ≡ length (take (2 + 2 * m) out)
front_length t n m x cells out h lx room e =
    sym (ap length (front_is t n m x cells out h lx room e) ∙ rerooted-length t x ∙ ap (λ (k : ℕ). 2 + 2 * k) (sym h.nodes_are))

pub words_fit : (t : Table) (n m : ℕ) → Sized t n m → (2 + 2 * m ≤ length (replicate {A = ℕ} 2050 0)) × (n ≤ 256)
words_fit t n m h =
    let f = sized_fit t n m h in
    (omega (arith, length-replicate {A = ℕ} 2050 0, f.3), f.1)
