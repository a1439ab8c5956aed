-- Rows that are painted one after the other are the page of their bytes.
use Rattle.std.proofs.Common.{◌≡◌, ℕ, ◌+◌, ◌-◌, ◌*◌, ◌/◌, ◌%◌, ◌<◌, ◌≤◌, ◌&&◌, ◌||◌, List, [], ◌++◌}
use Rattle.std.proofs.Common.{length, Option, pos, refl, sym, ap, arith, inl, inr, length-append}
use Rattle.std.specs.Prelude.{ℤ, nat_eq, nat_le, nat_lt}
use Rattle.std.specs.Io.KnownBytes.{Consumes}
use Rattle.std.proofs.KnownBytes.{Consumes-trans}
use Rattle.std.proofs.Math.Nat.{mul-le-mul_right}
use Rattle.std.proofs.lemmas.Bool.{cases_order}
use Rattle.std.proofs.lemmas.List.{get_or_append_left}
use Rattle.std.proofs.lemmas.Bool.Decides.{nat_tests}
use Rattle.std.proofs.lemmas.Grind.{common_steps}
use Rattle.press_bits.specs.DotRule.{dot_after, both_transparent}
use Rattle.press_bits.specs.Page.{Page, black_at, blank}
use Rattle.press_bits.specs.Mark.{Row, painted, row_dot, byte_dot, Mark, eight_black, row_mark, effect_at}
use Rattle.press_bits.specs.DotRows.{page_of_rows}
use Rattle.press_bits.specs.Lines.{bytes_per_line}
use Rattle.press_bits.proofs.DotRowsLemmas.{width-page_of_rows, height-page_of_rows, page_of_rows-HasNoDotOutside, black_at-page_of_rows, white_page_of_rows}
use Rattle.press_bits.proofs.LineLemmas.{row_dot-past}
use Rattle.press_bits.proofs.MarkLemmas.{painted_by_effects, row_lands, repeated-eight_black}
use Rattle.press_pbm.specs.Reading.{StopsShort, RowsStop}
use Rattle.press_pbm.specs.declared.fault.ReadPbmError.{ReadPbmError}
use Rattle.press_pbm.specs.declared.fault.ReadPbmError.TheVariants.{NotPbm, BadSize, Truncated, ReadFault, NoMemory}

-- without rows the page is white
pub no_rows : (width height : ℕ) → blank width height ≡ page_of_rows width height []
no_rows width height = sym (white_page_of_rows width height 0 [] refl)

-- the dots of the first bytes, and those of the bytes behind them
pub row_dot-prefix : (bytes others : List ℕ) (p : ℕ) → p < 8 * length bytes → row_dot (bytes ++ others) p ≡ row_dot bytes p
unfolding row_dot
row_dot-prefix bytes others p within = ap (λ b. byte_dot b (p % 8)) (get_or_append_left bytes others 0 (p / 8) (omega arith))

pub row_dot-behind : (bytes others : List ℕ) (p x : ℕ) → p ≡ 8 * length bytes + x → row_dot (bytes ++ others) p ≡ row_dot others x
unfolding row_dot
row_dot-behind bytes others p x is = grind (arith, common_steps)

-- the dots of a row that comes behind those above it
row_more : (w n y v x : ℕ) (rows row : List ℕ) → w ≤ 8 * n → length rows ≡ y * n → length row ≡ n → x < w →
    row_dot (rows ++ row) (8 * (v * n) + x) ≡ (row_dot rows (8 * (v * n) + x) || (((nat_eq v y && nat_le 0 x) && nat_lt x (0 + w)) && row_dot row (0 + (x - 0))))
row_more w n y v x rows row wide long one within =
    elim (cases_order v y) [
      | inl same ↦
          grind (arith, nat_tests, row_dot-behind rows row (8 * (v * n) + x) x (grind arith), row_dot-past rows (8 * (v * n) + x))
      | inr apart ↦ elim apart [
        | inl before ↦
            let next : v + 1 ≤ y = omega arith in
            grind (arith, nat_tests, row_dot-prefix rows row (8 * (v * n) + x) (omega (arith, mul-le-mul_right n next)))
        | inr after ↦
            let next : y + 1 ≤ v = omega arith in
            grind (
              arith,
              nat_tests,
              row_dot-past (rows ++ row) (8 * (v * n) + x) (omega (arith, mul-le-mul_right n next, length-append rows row)),
              row_dot-past rows (8 * (v * n) + x) (omega (arith, mul-le-mul_right n next)),
            )
      ]
    ]

-- the mark of a row of a file
abbrev file_row : (line : ℤ) → List ℕ → (dots : ℕ) → Mark
file_row line row dots = row_mark (pos 0) line (record { bits = row; dots = dots }) eight_black both_transparent

-- a row is painted below the rows above it
painted-page_of_rows : (w h y : ℕ) (rows row : List ℕ) → length rows ≡ y * bytes_per_line w → length row ≡ bytes_per_line w →
    painted (page_of_rows w h rows) (file_row (pos y) row w) ≡ page_of_rows w h (rows ++ row)
painted-page_of_rows w h y rows row long one =
    sym (painted_by_effects page (page_of_rows w h (rows ++ row)) (file_row (pos y) row w)
    (page_of_rows-HasNoDotOutside w h (rows ++ row))
    (grind (arith, width-page_of_rows)) (grind (arith, height-page_of_rows))
    (λ x v wide high. grind (arith, width-page_of_rows, height-page_of_rows, dot x v)))
  where
    page : Page
    page = page_of_rows w h rows

    dot : (x v : ℕ) → x < w → v < h → black_at (page_of_rows w h (rows ++ row)) x v ≡ dot_after (effect_at (file_row (pos y) row w) x v) (black_at (page_of_rows w h rows) x v)
    dot x v wide high =
        grind (
          arith,
          nat_tests,
          black_at-page_of_rows,
          row_more w (bytes_per_line w) y v x rows row (omega arith) long one wide,
          repeated-eight_black x,
          row_lands (pos 0) (pos y) (record { bits = row; dots = w }) eight_black both_transparent 0 0 w y w x v refl (inl refl) refl (omega arith) wide,
        )

-- the page after a row was painted
pub row_painted : (w h y dots : ℕ) (line : ℤ) (pattern : Row) (rows row : List ℕ) (old new : Page) →
    new ≡ painted old (row_mark (pos 0) line (record { bits = row; dots = dots }) pattern both_transparent) → pattern ≡ eight_black → old ≡ page_of_rows w h rows → line ≡ pos y → dots ≡ w →
    length rows ≡ y * bytes_per_line w → length row ≡ bytes_per_line w → new ≡ page_of_rows w h (rows ++ row)
row_painted w h y dots line pattern rows row old new is solid shown at_line wide long one = grind (arith, painted-page_of_rows)

-- the rest of the rows was not read
pub stopped_in_rows : (error : ReadPbmError) (had middle left : Option (List ℕ)) (rows : List ℕ) (n y height wanted : ℕ) → Consumes had middle rows → length rows ≡ y * n → y < height → wanted ≡ n →
    StopsShort error wanted middle left → RowsStop error (height * n) had left
stopped_in_rows Truncated had middle left rows n y height wanted first long below_end one (read, few, more, ends) =
    let next : y + 1 ≤ height = omega arith in
    (rows ++ read, omega (arith, mul-le-mul_right n next, length-append rows read), Consumes-trans had middle left rows read first more, ends)
stopped_in_rows ReadFault had middle left rows n y height wanted first long below_end one stopped = tt
stopped_in_rows NotPbm had middle left rows n y height wanted first long below_end one stopped = stopped
stopped_in_rows BadSize had middle left rows n y height wanted first long below_end one stopped = stopped
stopped_in_rows NoMemory had middle left rows n y height wanted first long below_end one stopped = absurd stopped
