-- What is written is a P4 file.
use Rattle.std.proofs.Common.{◌≡◌, ℕ, ◌+◌, ◌*◌, ◌^◌, ◌<◌, ◌≤◌, zero, suc, true, List, [], ◌∷◌, ◌++◌, length, refl, sym, ap, ◌∙◌, arith, length-append}
use Rattle.std.specs.Fmt.{decimal}
use Rattle.std.specs.Char.{IsAsciiDigit, is_ascii_digit}
use Rattle.std.specs.List.{AllByRecursion, flat_map, range_with_len}
use Rattle.std.proofs.lemmas.Bool.Decides.{nat_tests}
use Rattle.std.proofs.lemmas.Fmt.{decimal_nonempty, length-decimal-le}
use Rattle.std.proofs.lemmas.List.FromFn.{length-map-range_with_len, get_or-map-range_with_len}
use Rattle.press_units.proofs.DecimalLemmas.{decimal-digits, number_of-decimal}
use Rattle.press_units.proofs.FieldTest.{digit-from}
use Rattle.press_bits.specs.Page.{Page, black_at, is_page_size, HasNoDotOutside}
use Rattle.press_bits.specs.Mark.{row_dot}
use Rattle.press_bits.specs.Lines.{bytes_per_line}
use Rattle.press_bits.specs.DotRows.{page_of_rows}
use Rattle.press_bits.proofs.PageLemmas.{page_where_itself, page_where_alike}
use Rattle.press_pbm.specs.Header.{White, IsNumber, HeaderParts, header_spelling}
use Rattle.press_pbm.specs.Spelling.{byte_of_dots, line_bytes}
use Rattle.press_pbm.specs.Answer.{WrittenIsFile}
use Rattle.press_pbm.proofs.LineLemmas.{byte_dot-byte_of_dots}
use Rattle.press_pbm.proofs.RowsLemmas.{row_dot-prefix, row_dot-behind}

-- ---- a number in decimal

are_digits : (digits : List ℕ) → AllByRecursion IsAsciiDigit digits → AllByRecursion (λ d. is_ascii_digit d ≡ true) digits
are_digits [] are = tt
are_digits (first ∷ digits) (one, are) = (digit-from first one, are_digits digits are)

decimal-IsNumber : (n : ℕ) → n < 2 ^ 64 → IsNumber (decimal n)
decimal-IsNumber n small = (decimal_nonempty n small, are_digits (decimal n) (decimal-digits n small))

-- ---- the lines

pub length-line_bytes : (page : Page) (y : ℕ) → length (line_bytes page y) ≡ bytes_per_line page.width
unfolding line_bytes
length-line_bytes page y = length-map-range_with_len (λ i. byte_of_dots (λ j. black_at page (8 * i + j) y)) 0 (bytes_per_line page.width)

-- the dots of a line
pub row_dot-line_bytes : (page : Page) (y x : ℕ) → x < 8 * bytes_per_line page.width → row_dot (line_bytes page y) x ≡ black_at page x y
unfolding row_dot line_bytes
row_dot-line_bytes page y x within = grind (arith, get_or-map-range_with_len, byte_dot-byte_of_dots)

-- so many lines, from line `first` on
length-lines : (page : Page) (first count : ℕ) → length (flat_map (line_bytes page) (range_with_len first count)) ≡ count * bytes_per_line page.width
length-lines page first zero = omega arith
length-lines page first (suc count) =
    length-append (line_bytes page first) (flat_map (line_bytes page) (range_with_len (first + 1) count)) ∙ omega (arith, length-line_bytes page first, length-lines page (first + 1) count)

row_dot-lines : (page : Page) (first count y x : ℕ) → y < count → x < 8 * bytes_per_line page.width →
    row_dot (flat_map (line_bytes page) (range_with_len first count)) (8 * (y * bytes_per_line page.width) + x) ≡ black_at page x (first + y)
row_dot-lines page first zero y x inside within = absurd (omega arith)
row_dot-lines page first (suc count) zero x inside within = grind (arith, length-line_bytes, row_dot-line_bytes, row_dot-prefix)
row_dot-lines page first (suc count) (suc y) x inside within =
    let n : ℕ = bytes_per_line page.width in
    let line : (first + 1) + y ≡ first + suc y = omega arith in
    row_dot-behind (line_bytes page first) (flat_map (line_bytes page) (range_with_len (first + 1) count)) (8 * (suc y * n) + x) (8 * (y * n) + x) (omega (arith, length-line_bytes page first))
    ∙ row_dot-lines page (first + 1) count y x (omega arith) within
    ∙ ap (black_at page x) line

-- the page of its lines
page_of_lines : (page : Page) → HasNoDotOutside page → page ≡ page_of_rows page.width page.height (flat_map (line_bytes page) (range_with_len 0 page.height))
unfolding page_of_rows
page_of_lines page none =
    let n : ℕ = bytes_per_line page.width in
    let rows : List ℕ = flat_map (line_bytes page) (range_with_len 0 page.height) in
    sym (page_where_itself page none)
    ∙ page_where_alike page.width page.height (black_at page) (λ x y. row_dot rows (8 * (y * n) + x))
    (λ x y wide high. let line : 0 + y ≡ y = omega arith in ap (black_at page x) (sym line) ∙ sym (row_dot-lines page 0 page.height y x high (omega arith)))

-- ---- the file

sides : (width height : ℕ) → is_page_size width height ≡ true → (width < 100000) × (height < 100000)
sides width height is = (grind (arith, nat_tests), grind (arith, nat_tests))

pub read_back : WrittenIsFile
read_back page size none =
    let (wide, high) = sides page.width page.height size in
    let rows : List ℕ = flat_map (line_bytes page) (range_with_len 0 page.height) in
    let parts : HeaderParts = record { before_width = White 10 ∷ []; width = decimal page.width; before_height = White 32 ∷ []; height = decimal page.height; last = 10 } in
    let width_is = number_of-decimal page.width (omega arith) in
    let height_is = number_of-decimal page.height (omega arith) in
    let short : length (header_spelling parts) ≤ 65536 =
    header_short (decimal page.width) (decimal page.height) (length-decimal-le 5 page.width (omega arith) (omega arith) (omega arith))
    (length-decimal-le 5 page.height (omega arith) (omega arith) (omega arith)) in
    record {
      parts = parts;
      header = record {
        before_width = (omega arith, (refl, tt));
        width = decimal-IsNumber page.width (omega arith);
        before_height = (omega arith, (refl, tt));
        height = decimal-IsNumber page.height (omega arith);
        last = refl;
        long = short;
      };
      rows = rows;
      spelled = refl;
      size = (λ i. is_page_size (width_is i) (height_is i)) ∙ size;
      long = length-lines page 0 page.height ∙ (λ i. sym height_is i * bytes_per_line (sym width_is i));
      shows = page_of_lines page none ∙ (λ i. page_of_rows (sym width_is i) (sym height_is i) rows);
    }
  where
    header_short : (width height : List ℕ) → length width ≤ 5 → length height ≤ 5 → length (80 ∷ 52 ∷ 10 ∷ (width ++ 32 ∷ (height ++ 10 ∷ []))) ≤ 65536
    header_short width height wide high = omega (arith, length-append width (32 ∷ (height ++ 10 ∷ [])), length-append height (10 ∷ []))
