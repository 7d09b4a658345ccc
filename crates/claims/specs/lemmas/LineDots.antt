-- The dot products of pairs of lines, added up cell by cell, and their squares.
-- Assumes nothing.
use Rattle.std.specs.Prelude.{◌≡◌, refl, List, ℕ, ◌+◌, ◌*◌, ◌≤◌, ◌<◌, length}
use Rattle.std.proofs.Common.{sym, ◌∙◌, ap, ap₂, mul_comm, arith}
use Rattle.table_words.specs.Sizes.{tips_most}
use Rattle.sums.specs.Sum.{sum}
use Rattle.sums.specs.theorems.SumLaws.{sum_ext, sum_cong, sum-swap, sum_mono, sum_const, sum_none, sum_next, sum_step}
use Rattle.sums.specs.SetsOfFour.{sets2}
use Rattle.tree_check.specs.Table.{word}
use Rattle.node_pairs.specs.theorems.ClosedForms.{dot, dot_squares, term_squares}
use Rattle.sums.specs.theorems.Products.{product_le}
use Rattle.claims.specs.lemmas.CellLines.{Line, LowNumbers, line_cell, squared}
use Rattle.claims.specs.lemmas.Filled.{filled_to, filled_at}
use Rattle.claims.specs.lemmas.MatrixBounds.{products-le}

-- ---- one line with the lines before it

-- of lines that begin `gap` apart, cell a of the i-th
abbrev pub line_of : List ℕ → ℕ → ℕ → ℕ → ℕ → ℕ
line_of cells gap step i a = line_cell cells (i * gap) step a

-- t times each cell of a line
abbrev pub scaled : List ℕ → ℕ → ℕ → ℕ → ℕ → ℕ
scaled cells t at gap l = t * line_cell cells at gap l

-- .. added to what is there
abbrev pub added : List ℕ → List ℕ → ℕ → ℕ → ℕ → ℕ → ℕ
added cells dots t at gap l = word dots l + scaled cells t at gap l

-- the squares of the dot products of line i with the lines before it, over the first n cells
abbrev pub dot_squares_of : List ℕ → ℕ → ℕ → ℕ → ℕ → ℕ
dot_squares_of cells gap step i n = sum i (λ l. dot n (line_of cells gap step) l i * dot n (line_of cells gap step) l i)

-- the squares of the terms of these dot products, cell by cell
abbrev pub term_squares_of : List ℕ → ℕ → ℕ → ℕ → ℕ → ℕ
term_squares_of cells gap step i n =
    sum n (λ a. sum i (squared (scaled cells (line_of cells gap step i a) (a * step) gap)))

-- `count` lines in a slice, each with 256 at most in all its cells
pub record FewLines (cells : List ℕ) (gap count step len : ℕ) : Type 0 where
  pub inside : (i a : ℕ) → i < count → a < len → i * gap + a * step < length cells
  pub low : (i a : ℕ) → i < count → a < len → line_of cells gap step i a ≤ tips_most
  pub total : (i : ℕ) → i < count → sum len (line_of cells gap step i) ≤ tips_most
  pub count_few : count ≤ tips_most
  pub len_few : len ≤ tips_most
  pub gap_few : gap ≤ tips_most
  pub step_few : step ≤ tips_most

-- a list holds the dot products of line i with the lines before it, over the first n cells
pub record Dotted (cells dots : List ℕ) (gap step i n : ℕ) : Type 0 where
  pub is : (l : ℕ) → l < i → word dots l ≡ dot n (line_of cells gap step) l i
  pub le : (l : ℕ) → l < i → word dots l ≤ n * 65536

-- t times a line can be added to a list
pub record AddRoom (cells : List ℕ) (t at gap n : ℕ) (dots : List ℕ) : Type 0 where
  pub line : Line (length cells) at gap n
  pub low : (l : ℕ) → l < n → line_cell cells at gap l ≤ tips_most
  pub factor_low : t ≤ tips_most
  pub few : n ≤ tips_most
  pub dots_long : n ≤ length dots
  -- the list that holds them is low ..
  pub dots_low : (l : ℕ) → l < n → word dots l ≤ 16777216

-- ---- one cell more

-- cleared: no cell yet
pub dotted_none : (cells dots dots' : List ℕ) (gap step i : ℕ) → i ≤ length dots → dots' ≡ filled_to (λ l. 0) i dots
    → Dotted cells dots' gap step i 0
unfolding sum
dotted_none cells dots dots' gap step i f e = record {
  is = filled_at (λ l. 0) i dots dots' f e;
  le = λ l m. omega (arith, filled_at (λ l. 0) i dots dots' f e l m);
}

module _ (cells : List ℕ) (gap count step len : ℕ) (h : FewLines cells gap count step len) (i a : ℕ)
    (li : i < count) (la : a < len) (t : ℕ) (t_is : t ≡ line_of cells gap step i a) where
  -- cell l of the line across is cell a of line l
  across : (l : ℕ) → line_cell cells (a * step) gap l ≡ line_of cells gap step l a
  across l = ap (λ (z : ℕ). word cells z) (turn l)
    where
      turn : (l : ℕ) → a * step + l * gap ≡ l * gap + a * step
      turn l = omega arith

  -- the cells across are low ..
  across_low : (l : ℕ) → l < i → line_cell cells (a * step) gap l ≤ tips_most
  across_low l m = omega (arith, h.low l a (omega arith) la, across l)

  -- .. and so is the factor
  factor_le : t ≤ tips_most
  factor_le = omega (arith, h.low i a li la)

  module _ (dots : List ℕ) (long : i ≤ length dots) (q : Dotted cells dots gap step i a) where
    -- the line across can be added
    pub add_room : AddRoom cells t (a * step) gap i dots
    add_room = record {
      line = record {
        inside = λ l m. omega (arith, h.inside l a (omega arith) la);
        len_le = omega (arith, h.count_few);
        step_le = omega (arith, h.gap_few);
        at_le = product_le tips_most tips_most a step (omega (arith, h.len_few)) h.step_few;
      };
      low = across_low;
      factor_low = factor_le;
      few = omega (arith, h.count_few);
      dots_long = long;
      dots_low = λ l m. omega (arith, q.le l m, h.len_few);
    }

    -- .. and one more cell is in every dot product
    pub dotted_next : (dots' : List ℕ) → dots' ≡ filled_to (added cells dots t (a * step) gap) i dots
        → Dotted cells dots' gap step i (a + 1)
    dotted_next dots' e = record {
      is = λ l m.
          at l m ∙ sum_step a (λ a. line_of cells gap step l a * line_of cells gap step i a) _ _ (q.is l m) (product l);
      le = λ l m. omega (
        arith,
        at l m,
        q.le l m,
        product_le tips_most tips_most t (line_cell cells (a * step) gap l) factor_le (across_low l m),
      );
    }
      where
        at : (l : ℕ) → l < i → word dots' l ≡ added cells dots t (a * step) gap l
        at = filled_at (added cells dots t (a * step) gap) i dots dots' long e

        product : (l : ℕ) → scaled cells t (a * step) gap l ≡ line_of cells gap step l a * line_of cells gap step i a
        product l = ap₂ (λ (x y : ℕ). x * y) t_is (across l) ∙ mul_comm _ _

    -- an empty cell changes nothing
    pub dotted_skip : t ≡ 0 → Dotted cells dots gap step i (a + 1)
    dotted_skip e = record {
      is = λ l m. q.is l m ∙ omega (
        arith,
        sum_next a (λ a. line_of cells gap step l a * line_of cells gap step i a),
        ap (λ (z : ℕ). line_of cells gap step l a * z) (sym t_is ∙ e),
      );
      le = λ l m. omega (arith, q.le l m);
    }

  -- the squares of what was added are the next terms
  pub terms_next : (s z : ℕ) → s ≡ term_squares_of cells gap step i a
      → z ≡ sum i (squared (scaled cells t (a * step) gap))
      → s + z ≡ term_squares_of cells gap step i (a + 1)
  terms_next s z e f =
      sum_step a (λ a. sum i (squared (scaled cells (line_of cells gap step i a) (a * step) gap))) s z e
      (f ∙ ap (λ (t : ℕ). sum i (squared (scaled cells t (a * step) gap))) t_is)

  -- .. and none where the cell is empty
  pub terms_skip : (s : ℕ) → t ≡ 0 → s ≡ term_squares_of cells gap step i a → s ≡ term_squares_of cells gap step i (a + 1)
  terms_skip s e f = omega (arith, terms_next s _ f refl, none)
    where
      none : sum i (squared (scaled cells t (a * step) gap)) ≡ 0
      none = sum_none i _ (λ l m. rw e (omega arith))

-- ---- one line more

-- the first lines are few too
pub fewer_lines : (cells : List ℕ) (gap count step len i : ℕ) → i < count → FewLines cells gap count step len
    → FewLines cells gap (i + 1) step len
fewer_lines cells gap count step len i l h = record {
  inside = λ j a lj la. h.inside j a (omega arith) la;
  low = λ j a lj la. h.low j a (omega arith) la;
  total = λ j lj. h.total j (omega arith);
  count_few = omega (arith, h.count_few);
  len_few = h.len_few;
  gap_few = h.gap_few;
  step_few = h.step_few;
}

module _ (cells : List ℕ) (gap step i len : ℕ) (h : FewLines cells gap (i + 1) step len) where
  -- the dot products are low ..
  dot-le : (l : ℕ) → l < i → dot len (line_of cells gap step) l i ≤ 65536
  dot-le l m = products-le len tips_most tips_most (line_of cells gap step l) (line_of cells gap step i)
      (λ a la. h.low i a (omega arith) la) (h.total l (omega arith))

  -- .. and so are their squares
  pub dot_squares-le : dot_squares_of cells gap step i len ≤ 1099511627776
  dot_squares-le = omega (
    arith,
    sum_mono i _ (λ l. 4294967296) (λ l m. product_le 65536 65536 _ _ (dot-le l m) (dot-le l m)),
    sum_const i 4294967296,
    h.count_few,
  )

  module _ (dots : List ℕ) (q : Dotted cells dots gap step i len) where
    pub dots_low : i ≤ length dots → LowNumbers dots i
    dots_low long = record {
      inside = long;
      few = omega (arith, h.count_few);
      low = λ l m. omega (arith, q.is l m, dot-le l m);
    }

    -- .. and its squares are theirs
    pub dot_squares_at : sum i (squared (word dots)) ≡ dot_squares_of cells gap step i len
    dot_squares_at = sum_ext i _ _ (λ l m. ap (λ (z : ℕ). z * z) (q.is l m))

-- ---- all lines

-- line by line, the squares of all dot products ..
pub dot_squares-lines : (cells : List ℕ) (gap step count len : ℕ)
    → sum count (λ i. dot_squares_of cells gap step i len) ≡ dot_squares count len (line_of cells gap step)
unfolding dot_squares sets2
dot_squares-lines cells gap step count len = refl

-- .. and of all their terms
pub term_squares-lines : (cells : List ℕ) (gap step count len : ℕ)
    → sum count (λ i. term_squares_of cells gap step i len) ≡ term_squares count len (line_of cells gap step)
unfolding term_squares sets2
term_squares-lines cells gap step count len =
    sum_cong count (λ i. sum-swap len i _ ∙ sum_cong i (λ l. sum_cong len (λ a. cell i l a)))
  where
    turn : (x y : ℕ) → x + y ≡ y + x
    turn x y = omega arith

    cell : (i l a : ℕ) → squared (scaled cells (line_of cells gap step i a) (a * step) gap) l
        ≡ (line_of cells gap step l a * line_of cells gap step i a)
        * (line_of cells gap step l a * line_of cells gap step i a)
    cell i l a = ap (λ (z : ℕ). z * z)
        (ap (λ (z : ℕ). line_of cells gap step i a * word cells z) (turn (a * step) (l * gap)) ∙ mul_comm _ _)
