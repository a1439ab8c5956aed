-- Margins and text length (PCL 5 Printer Language Technical Reference Manual: Left, Right and Top Margin, Text Length
-- and Clear Horizontal Margins commands).
use Rattle.std.specs.Prelude.{ℕ, ◌+◌, ◌-◌, ◌*◌, ◌/◌, ◌==◌, ◌&&◌, ℤ, pos, negsuc, ◌+ℤ◌, nat_le, nat_lt, if◌then◌else◌, Option, Some, None, unsigned_abs}
use Rattle.press_units.specs.Position.{position_of}
use Rattle.press_page.specs.Numbers.{within, cut, below, above}
use Rattle.press_page.specs.PageSetup.{logical_width, logical_length}
use Rattle.press_page.specs.declared.margins.Margins.{Margins}
use Rattle.press_page.specs.declared.media.PageSetup.{PageSetup}

-- the top margin after a reset, and the least room below the text by default: half an inch
abbrev pub default_top : ℕ
default_top = 3600

abbrev pub default_bottom : ℕ
default_bottom = 3600

-- The text length by default: as many whole lines as the page has room for, or all the room where lines have no height.
abbrev pub text_room : (length top : ℕ) → ℕ
text_room length top = length - top - default_bottom

abbrev pub default_text_length : (length top vertical_motion : ℕ) → ℕ
default_text_length length top vertical_motion =
    if vertical_motion == 0 then text_room length top
    else vertical_motion * (text_room length top / vertical_motion)

-- the margins after a reset
abbrev pub default_margins : PageSetup → (vertical_motion : ℕ) → Margins
default_margins page_setup vertical_motion = record {
  left = 0;
  right = logical_width page_setup;
  top = default_top;
  text_length = default_text_length (logical_length page_setup) default_top vertical_motion;
}

-- ESC&l#E, the top margin in lines: on the page
abbrev pub top_margin_of : (value : ℤ) (vertical_motion length : ℕ) → Option ℕ
top_margin_of value vertical_motion length =
    if nat_lt 0 vertical_motion then within length (position_of value vertical_motion) else None

-- ESC&l#F, the text length in lines: the text ends on the page
abbrev pub text_length_of : ℤ → (vertical_motion top length : ℕ) → Option ℕ
text_length_of (pos n) vertical_motion top length =
    if nat_lt 0 vertical_motion && nat_lt 0 n && nat_le (top + n * vertical_motion) length
    then Some (n * vertical_motion) else None
text_length_of (negsuc n) vertical_motion top length = None

-- ESC&a#L, the left margin in columns: not negative, and left of the right margin
abbrev pub left_margin_of : (value : ℤ) (horizontal_motion right : ℕ) → Option ℕ
left_margin_of (pos n) horizontal_motion right = below right (unsigned_abs (position_of (pos n) horizontal_motion))
left_margin_of (negsuc n) horizontal_motion right = None

-- ESC&a#M, the right margin, behind a column: cut to the page, and right of the left margin
abbrev pub right_margin_of : (value : ℤ) (horizontal_motion left width : ℕ) → Option ℕ
right_margin_of value horizontal_motion left width =
    above left (cut width (position_of (value +ℤ pos 10000) horizontal_motion))
