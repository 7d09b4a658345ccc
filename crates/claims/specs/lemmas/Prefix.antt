-- The first numbers of a list, read one by one.
-- Assumes nothing.
use Rattle.std.specs.Prelude.{◌≡◌, List, ℕ, ◌≤◌, ◌<◌, length, take}
use Rattle.std.proofs.Common.{arith}
use Rattle.std.proofs.lemmas.List.{length-take-le, get_or-take}
use Rattle.tree_check.specs.Table.{word}

-- number i of the first n is number i
pub prefix_read : (n : ℕ) (xs : List ℕ) (i : ℕ) → n ≤ length xs → i < length (take n xs)
    → (i < n) × (word (take n xs) i ≡ word xs i)
prefix_read n xs i h t =
    let m : i < n = omega (arith, length-take-le n xs h) in
    (m, get_or-take n xs i 0 m)

-- after the last of them all n are read
pub prefix_read-all : (n : ℕ) (xs : List ℕ) (i : ℕ) → n ≤ length xs → i ≤ length (take n xs)
    → length (take n xs) ≤ i → i ≡ n
prefix_read-all n xs i h l m = omega (arith, length-take-le n xs h)
