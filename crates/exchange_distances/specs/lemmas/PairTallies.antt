-- Each pair of labels of a shape in its tally, from the walks of its arrays.
-- Assumes nothing.
use Rattle.std.specs.Prelude.{◌≡◌, List, ◌≢◌, ℕ, ◌+◌, ◌-◌, ◌/◌, ◌≤◌, ◌<◌, length, take, drop}
use Rattle.std.proofs.Math.Path.{refl, fun_ext}
use Rattle.std.proofs.Common.{sym, ◌∙◌, ap, ap₂, arith, ext_get_or}
use Rattle.sums.specs.Sum.{sum}
use Rattle.sums.specs.Bits.{is}
use Rattle.sums.specs.Fours.{fours}
use Rattle.sums.specs.Lists.{in_order}
use Rattle.sums.specs.SetsOfFour.{sets2}
use Rattle.sums.specs.theorems.ListLaws.{in_order-length, in_order_at}
use Rattle.shapes.specs.theorems.Shape.{Shape}
use Rattle.table_words.specs.Sizes.{node_room}
use Rattle.tree_check.specs.Table.{Table, word, tips, parents}
use Rattle.tree_check.specs.lemmas.Sized.{Sized}
use Rattle.tree_check.specs.lemmas.TableParts.{to_parts, of_parts}
use Rattle.exchanges.specs.Exchanges.{exchange_distance, tally_of, tally}
use Rattle.exchanges.specs.theorems.ExchangedTables.{shape}
use Rattle.exchanges.proofs.theorems.ExchangedTables.{distance_moved, tally_in-shape}
use Rattle.exchanges.specs.theorems.Others.{Two}
use Rattle.exchanges.proofs.theorems.PathSum.{path_cost}
use Rattle.exchanges.specs.theorems.Walk.{whole_cost}
use Rattle.exchanges.proofs.theorems.Walk.{path_le}
use Rattle.exchanges.proofs.theorems.Tallies.{moved_by, moved_path, moved_either, moved_le, tally_in, tally-lt, tally_many, fours-some}
use Rattle.exchange_distances.specs.lemmas.Powers.{square_le}
use Rattle.exchange_distances.specs.lemmas.WalkArrays.{Reads, WalkedArrays, CostsFrom}
use Rattle.exchange_distances.specs.lemmas.TableArrays.{Arrays, table_walked}
use Rattle.exchange_distances.specs.lemmas.TallyLoops.{falls_at, CountedTallies, Rows, rows_next, rows_le}
use Rattle.exchange_distances.specs.lemmas.TallyRoom.{TallyRowRoom, whole_le}

-- the tally of a pair
abbrev pub pair_tally : {n : ℕ} → Shape n → ℕ → ℕ → ℕ
pair_tally {n} s x y = tally_of n (moved_by s x y)

-- eleven cells are the tallies of the shape of these arrays
pub record ShapeTallied (n : ℕ) (ps nodes bs qs tallies : List ℕ) : Type 0 where
  pub tallies_are : (s : Shape n) → Reads n ps nodes bs qs s → tallies ≡ in_order 11 (tally_in s)

-- .. those of the pairs below y
pub record Tallying (n : ℕ) (ps nodes bs qs : List ℕ) (y : ℕ) (tallies : List ℕ) : Type 0 where
  pub rows : (s : Shape n) → Reads n ps nodes bs qs s → Rows (pair_tally s) y tallies

module _ (n : ℕ) (ps nodes bs qs : List ℕ) (h : WalkedArrays n ps nodes bs qs) where
  -- eleven cells with the pairs of all rows are the tallies
  pub all_rows : (tallies : List ℕ) → Tallying n ps nodes bs qs n tallies → ShapeTallied n ps nodes bs qs tallies
  all_rows tallies r = record {
    tallies_are = λ s a.
        let b = r.rows s a in
        ext_get_or 0 tallies (in_order 11 (tally_in s)) (b.long ∙ sym (in_order-length 11 (tally_in s)))
        (λ i l. b.cells i (omega (arith, b.long)) ∙ cell s i
        ∙ sym (in_order_at 11 (tally_in s) i (omega (arith, b.long))));
  }
    where
      cell : (s : Shape n) (i : ℕ) → sum n (λ y. sum y (λ x. is (pair_tally s x y) i)) ≡ tally_in s i
      cell s i = unfold tally_in sets2 in refl

  module _ (s : Shape n) (a : Reads n ps nodes bs qs s) where
    pub node_lt : (x : ℕ) → x < n → word nodes x < length ps
    node_lt x l = omega (arith, a.node x l, s.node_le x l, a.squared.sized.edges)

    module _ (y p : ℕ) (ly : y < n) (ep : p ≡ word nodes y) (costs : List ℕ) (c : CostsFrom n ps bs qs p costs) where
      cost_is : (x : ℕ) → x < n → x ≢ y → word costs (word nodes x) ≡ path_cost s (s.node y) (s.node x)
      cost_is x l d =
          c.costs s a.squared (word nodes x) (node_lt x l) apart
          ∙ ap₂ (λ (u v : ℕ). path_cost s u v) (ep ∙ a.node y ly) (a.node x l)
        where
          apart : word nodes x ≢ p
          apart e = s.node_ne x y l ly d (sym (a.node x l) ∙ e ∙ ep ∙ a.node y ly)

      two : (x : ℕ) → x < n → x ≢ y → Two n y x
      two x l d = record { lx = ly; ly = l; xy = λ e. d (sym e) }

      -- the distance of an exchange with y, from what its path takes
      pub distance_found : (x : ℕ) → x < n → x ≢ y
          → (word costs (word nodes x) ≤ whole_cost n) × ((whole_cost n - word costs (word nodes x)) / 6 ≡ moved_by s y x)
      distance_found x l d = (
        omega (arith, cost_is x l d, path_le s y x (two x l d)),
        ap (λ (z : ℕ). (whole_cost n - z) / 6) (cost_is x l d) ∙ sym (moved_path s y x (two x l d)),
      )

      module _ (four : 4 ≤ n) (w sets : ℕ) (ew : w ≡ whole_cost n) (es : sets ≡ fours n) where
        falls_is : (x : ℕ) → x < y → falls_at w sets nodes costs x ≡ pair_tally s x y
        falls_is x l = rw (ew, es, (distance_found x (omega arith) (λ e. omega arith)).1)
            (sym (tally_many n (moved_by s y x) four) ∙ ap (tally_of n) (moved_either s y x))

        falls_lt : (x : ℕ) → x < y → falls_at w sets nodes costs x < 11
        falls_lt x l = rw (falls_is x l) (tally-lt n (moved_by s x y)
            (moved_le s x y (record { lx = omega arith; ly = ly; xy = λ e. omega arith })))

        row_room_of : (tallies : List ℕ) → Rows (pair_tally s) y tallies → TallyRowRoom y w sets nodes costs tallies
        row_room_of tallies r = record {
          row = omega (arith, h.tips);
          few = omega (arith, ew, whole_le n h.tips.1);
          some = omega (arith, es, fours-some n four);
          node = λ x l. omega (arith, node_lt x (omega arith), h.nodes_few);
          least = λ x l. omega (arith, ew, (distance_found x (omega arith) (λ e. omega arith)).0);
          falls = falls_lt;
          long = r.long;
          small = λ i l. omega (arith, rows_le _ y tallies i l r, square_le y (omega (arith, h.tips)));
        }

        row_next_of : (old new : List ℕ) → Rows (pair_tally s) y old → CountedTallies (falls_at w sets nodes costs) y old new
            → Rows (pair_tally s) (y + 1) new
        row_next_of old new r d = rows_next (pair_tally s) y old new (falls_at w sets nodes costs) falls_is r d

  module _ (y p : ℕ) (ly : y < n) (ep : p ≡ word nodes y) (costs : List ℕ) (c : CostsFrom n ps bs qs p costs) (four : 4 ≤ n)
      (w sets : ℕ) (ew : w ≡ whole_cost n) (es : sets ≡ fours n) where
    -- the row of y may be counted, ..
    pub row_room : (tallies : List ℕ) → Tallying n ps nodes bs qs y tallies → TallyRowRoom y w sets nodes costs tallies
    row_room tallies r =
        row_room_of h.shape h.reads y p ly ep costs c four w sets ew es tallies (r.rows h.shape h.reads)

    -- .. and is one row more
    pub row_next : (old new : List ℕ) → Tallying n ps nodes bs qs y old
        → CountedTallies (falls_at w sets nodes costs) y old new → Tallying n ps nodes bs qs (y + 1) new
    row_next old new r d = record {
      rows = λ s a. row_next_of s a y p ly ep costs c four w sets ew es old new (r.rows s a) d;
    }

-- ---- the same of a table

module _ (t : Table) (n m : ℕ) (h : Sized t n m) (nodes bs qs : List ℕ) (a : Arrays t nodes bs qs) where
  pub lent_walked : WalkedArrays n (take (2 + m - 2) (drop 2 t)) nodes bs qs
  lent_walked = to_parts (λ n ps ls. WalkedArrays n ps nodes bs qs) t n m h.tree.words h.tips_are h.nodes_are
      (table_walked t h.tree nodes bs qs a)

  pub lent_tallied : (tallies : List ℕ) → ShapeTallied n (take (2 + m - 2) (drop 2 t)) nodes bs qs tallies
      → tallies ≡ in_order 11 (tally t)
  lent_tallied tallies r =
      (of_parts (λ n ps ls. ShapeTallied n ps nodes bs qs tallies) t n m h.tree.words h.tips_are h.nodes_are r
      ).tallies_are (shape t h.tree) (a.reads h.tree)
      ∙ ap (in_order 11) (fun_ext (λ i. sym (tally_in-shape t h.tree i)))

  module _ (x y : ℕ) (two : Two n x y) (p q : ℕ) (ep : p ≡ word nodes x) (eq : q ≡ word nodes y) (costs : List ℕ)
      (c : CostsFrom n (take (2 + m - 2) (drop 2 t)) bs qs p costs) where
    pub lent_node : q < node_room
    lent_node =
        let w = lent_walked in
        omega (arith, node_lt _ _ _ _ _ w w.shape w.reads y two.ly, w.nodes_few)

    found : (word costs (word nodes y) ≤ whole_cost (tips t)) × ((whole_cost (tips t) - word costs (word nodes y)) / 6 ≡ moved_by (shape t h.tree) x y)
    found = distance_found (tips t) (parents t) nodes bs qs (table_walked t h.tree nodes bs qs a) (shape t h.tree)
        (a.reads h.tree) x p (omega (arith, two.lx, h.tips_are)) ep costs
        (of_parts (λ n ps ls. CostsFrom n ps bs qs p costs) t n m h.tree.words h.tips_are h.nodes_are c)
        y (omega (arith, two.ly, h.tips_are)) (λ e. two.xy (sym e))

    pub lent_least : word costs q ≤ whole_cost n
    lent_least = rw (eq, h.tips_are) found.0

    pub lent_distance : (whole_cost n - word costs q) / 6 ≡ exchange_distance t x y
    lent_distance =
        ap₂ (λ (k v : ℕ). (whole_cost k - word costs v) / 6) h.tips_are eq
        ∙ found.1
        ∙ sym (distance_moved t h.tree x y (record {
          lx = omega (arith, two.lx, h.tips_are);
          ly = omega (arith, two.ly, h.tips_are);
          xy = two.xy;
        }))
