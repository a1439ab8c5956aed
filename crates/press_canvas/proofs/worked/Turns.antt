-- Worked places of pages that are turned, computed.
use Rattle.std.proofs.Common.{◌≡◌, true, refl}
use Rattle.press_page.specs.Place.{placed_dot}
use Rattle.press_page.specs.declared.media.Orientation.TheVariants.{Landscape, ReversePortrait, ReverseLandscape}
use Rattle.press_canvas.specs.Block.{dot_from, line_from, swapped_place}
use Rattle.press_canvas.specs.Strip.{across, place_at, strip_dots}
use Rattle.press_canvas.specs.Turned.{opposite}

-- the dot 150 of line 3239 of a landscape Letter page is column 60 of the frame's line 150: ESC&l1O ESC*p0x0Y ESC*c3a2b0P marks there
pub of_landscape : placed_dot Landscape 2550 3300 150 3239 ≡ (60, 150)
of_landscape = refl

pub of_reverse_landscape : placed_dot ReverseLandscape 2550 3300 150 3239 ≡ (3239, 2399)
of_reverse_landscape = refl

pub of_reverse_portrait : placed_dot ReversePortrait 2550 3300 0 0 ≡ (2549, 3299)
of_reverse_portrait = refl

-- what turns a landscape page back
pub back_from_landscape : opposite Landscape ≡ ReverseLandscape
back_from_landscape = refl

-- the columns of a frame, read from the last line back, are the lines of a page in reverse landscape
pub read_back : across true ≡ ReverseLandscape
read_back = refl

pub first_of_ten_back : place_at true 10 0 ≡ 9
first_of_ten_back = refl

pub last_of_ten_back : place_at true 10 9 ≡ 0
last_of_ten_back = refl

-- the longest side, and 512 dots more
pub the_strip : strip_dots ≡ 16896
the_strip = refl

-- squares of 32 lines and dots beside the diagonal are exchanged: line 0, dot 33 comes from line 32, dot 1
pub line_of_a_square : line_from 32 0 33 ≡ 32
line_of_a_square = refl

pub dot_of_a_square : dot_from 32 0 33 ≡ 1
dot_of_a_square = refl

-- those on the diagonal stay
pub line_on_the_diagonal : line_from 32 40 50 ≡ 40
line_on_the_diagonal = refl

pub the_place_beside : swapped_place 1 6 ≡ 7
the_place_beside = refl

pub the_place_before : swapped_place 1 7 ≡ 6
the_place_before = refl
