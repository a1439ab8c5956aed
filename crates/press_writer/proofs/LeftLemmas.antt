-- What is left of a job, and the next piece of it.
use Rattle.std.proofs.Common.{◌≡◌, ◌≤◌, ◌<◌, ℕ, zero, suc, ◌+◌, ◌-◌, List, [], ◌∷◌, ◌++◌, length, drop}
use Rattle.std.proofs.Common.{slice_get, Option, Some, None, IfSome, true, false, refl}
use Rattle.std.proofs.Common.{ap, ◌∙◌, arith, rules, append_assoc, length-append}
use Rattle.std.specs.List.{flat_map}
use Rattle.std.proofs.lemmas.Grind.{flat_map-append}
use Rattle.press_bits.specs.Page.{Page}
use Rattle.press_cmd.specs.Token.{Token, bytes_of}
use Rattle.press_page.specs.declared.media.PageSetup.{PageSetup}
use Rattle.press_pbm.specs.Spelling.{line_bytes}
use Rattle.press_rows.specs.Encoding.{best_method}
use Rattle.press_rows.specs.declared.compression.Method.{Method}
use Rattle.press_rows.specs.declared.compression.Method.TheVariants.{Unencoded}
use Rattle.press_writer.specs.declared.part.PageLeft.{PageLeft}
use Rattle.press_writer.specs.declared.part.Part.{Part}
use Rattle.press_writer.specs.declared.sequence.Sequence.TheVariants.{EndRaster}
use Rattle.press_writer.specs.Inside.{AppendsSome}
use Rattle.press_writer.specs.Job.{head_of, commands_of_part, FitsPart, form_feed_command, page}
use Rattle.press_writer.specs.Left.{JobLeft, HasImages, GivesPiece, commands_left, rest_of_page, rest_of_begun}
use Rattle.press_writer.specs.Picture.{is_white_row, left_out, row_commands, raster_rows, row_before, rows_from, page_start}
use Rattle.press_writer.specs.Sequences.{command, written}
use Rattle.press_writer.proofs.PictureLemmas.{rows_from-next, raster_rows-white, raster_rows-sent, raster_rows-none}

-- the bytes of commands and of those behind them
pub written-append : (first second : List Token) → written (first ++ second) ≡ written first ++ written second
written-append first second = flat_map-append bytes_of first second

-- a white row is left out
pub skips-white : (image : Page) (from y : ℕ) (method : Method) → from ≤ y → y < image.height → is_white_row (line_bytes image y) ≡ true
    → raster_rows method (row_before image y) (y - from) (rows_from image y)
    ≡ raster_rows method (row_before image (y + 1)) (y + 1 - from) (rows_from image (y + 1))
skips-white image from y method behind below is = grind (arith, raster_rows-white)

-- where no row is left
pub no_row_left : (image : Page) (y white : ℕ) (method : Method) → image.height ≤ y → raster_rows method (row_before image y) white (rows_from image y) ≡ []
no_row_left image y white method past = grind (arith, raster_rows-none)

-- a sequence is a byte at least, and so are commands with one at their end
pub some_bytes : (commands : List Token) (last : Token) → 1 ≤ length (bytes_of last) → 1 ≤ length (written (commands ++ last ∷ []))
some_bytes commands last some = grind (arith, written-append, length-append)

-- the head is a byte at least, since it begins with the universal exit
pub head_some : (medium : PageSetup) → 1 ≤ length (written (head_of medium))
head_some medium = grind arith

-- the first of some commands were appended
pub appends_some : (most : ℕ) (commands front others : List Token) (before after : List ℕ) → length front ≤ most → commands ≡ front ++ others → 1 ≤ length (written front)
    → after ≡ before ++ written front → AppendsSome most commands others before after
appends_some most commands front others before after few is some appended = grind (arith, written-append, append_assoc, length-append)

-- the next row of a page that has a black dot
abbrev pub row_commands_from : (image : Page) (left : PageLeft) (y : ℕ) → List Token
row_commands_from image left y = left_out (y - left.line) ++ row_commands left.method (row_before image y) (line_bytes image y)

abbrev pub page_behind : (image : Page) (left : PageLeft) (y : ℕ) → PageLeft
page_behind image left y = record { page = left.page; line = y + 1; method = best_method (line_bytes image y) (row_before image y) }

pub row_of_page : (image : Page) (left : PageLeft) (y : ℕ)
    → ((method : Method) → raster_rows method (row_before image left.line) 0 (rows_from image left.line) ≡ raster_rows method (row_before image y) (y - left.line) (rows_from image y))
    → y < image.height → is_white_row (line_bytes image y) ≡ false
    → rest_of_page image left ≡ row_commands_from image left y ++ rest_of_page image (page_behind image left y)
row_of_page image left y skips below black = grind (arith, append_assoc, rows_from-next, raster_rows-sent)

-- a page behind whose rows only its end is left
pub end_of_page : (image : Page) (left : PageLeft) (y : ℕ)
    → ((method : Method) → raster_rows method (row_before image left.line) 0 (rows_from image left.line) ≡ raster_rows method (row_before image y) (y - left.line) (rows_from image y))
    → image.height ≤ y → rest_of_page image left ≡ command EndRaster 0 ∷ form_feed_command ∷ []
end_of_page image left y skips past = grind (arith, no_row_left)

-- a page of which nothing is sent
pub page_begun : (image : Page) (number : ℕ) → page image ≡ page_start image ++ rest_of_page image (record { page = number; line = 0; method = Unencoded })
page_begun image number = grind (arith, append_assoc)

-- a row is three commands at most
pub row_few : (image : Page) (left : PageLeft) (y : ℕ) → length (row_commands_from image left y) ≤ 3
row_few image left y = grind arith

-- a row is a byte at least
pub row_some : (image : Page) (left : PageLeft) (y : ℕ) → 1 ≤ length (written (row_commands_from image left y))
row_some image left y = grind arith

-- the next piece: the first of the commands that come next were appended, and behind the others stands what stood there
pub gives : (most : ℕ) (old new : JobLeft) (images : List Page) (commands others behind : List Token) (bytes before after : List ℕ)
    → most ≤ 8 → commands_left old images ≡ commands ++ behind → commands_left new images ≡ others ++ behind
    → AppendsSome most commands others [] bytes → after ≡ before ++ bytes → GivesPiece old images true new before after
gives most old new images commands others behind bytes before after little was stands appends appended = grind (arith, written-append, append_assoc, length-append)

pub next_part : (parts : List Part) (i : ℕ) (part : Part) → slice_get parts i ≡ Some part → drop i parts ≡ part ∷ drop (i + 1) parts
next_part [] i part at = absurd (cc)
next_part (p ∷ parts) zero part at = grind (arith, rules, at)
next_part (p ∷ parts) (suc i) part at = grind (arith, next_part parts i part at)

-- a job of which a page is begun, and one of which a part is begun
abbrev pub with_begun : Option PageLeft → List Part → JobLeft → JobLeft
with_begun begun parts left = record left { begun = begun; parts = parts }

pub goes_on : (old : JobLeft) (images : List Page) (left : PageLeft) (begun : Option PageLeft) (bytes before after : List ℕ) → old.begun ≡ Some left
    → AppendsSome 3 (rest_of_begun images (Some left)) (rest_of_begun images begun) [] bytes → after ≡ before ++ bytes
    → GivesPiece old images true (with_begun begun old.parts old) before after
goes_on old images left begun bytes before after was appends appended =
    let behind = flat_map (commands_of_part old.medium images) old.parts in
    gives 3 old (with_begun begun old.parts old) images (rest_of_begun images (Some left)) (rest_of_begun images begun) behind bytes before after
    (omega arith) (ap (λ page. rest_of_begun images page ++ behind) was) refl appends appended

pub begins : (old : JobLeft) (images : List Page) (part : Part) (parts : List Part) (begun : Option PageLeft) (bytes before after : List ℕ)
    → old.begun ≡ None → old.parts ≡ part ∷ parts
    → AppendsSome 8 (commands_of_part old.medium images part) (rest_of_begun images begun) [] bytes → after ≡ before ++ bytes
    → GivesPiece old images true (with_begun begun parts old) before after
begins old images part parts begun bytes before after none is appends appended =
    let f = commands_of_part old.medium images in
    gives 8 old (with_begun begun parts old) images (f part) (rest_of_begun images begun) (flat_map f parts) bytes before after
    (omega arith) (λ j. rest_of_begun images (none j) ++ flat_map f (is j)) refl appends appended

-- the images of the part that comes next, and of those behind it
pub next_fits : (count : ℕ) (left : JobLeft) (part : Part) (parts : List Part) → left.parts ≡ part ∷ parts → HasImages count left → FitsPart count part
next_fits count left part parts is fits = fits.parts 0 part (ap (λ ps. slice_get ps 0) is)

pub later_fit : (count : ℕ) (left : JobLeft) (part : Part) (parts : List Part) (begun : Option PageLeft) → left.parts ≡ part ∷ parts
    → IfSome begun (λ page. page.page < count) → HasImages count left → HasImages count (with_begun begun parts left)
later_fit count left part parts begun is page fits = record {
  begun = page;
  parts = λ i p at. fits.parts (suc i) p (ap (λ ps. slice_get ps (suc i)) is ∙ at);
}

-- more is held of what was left
pub held_more : (all done held longer piece left more : List ℕ) → all ≡ done ++ (held ++ left) → longer ≡ held ++ piece → left ≡ piece ++ more
    → all ≡ done ++ (longer ++ more)
held_more all done held longer piece left more is appended next = grind (arith, append_assoc)
