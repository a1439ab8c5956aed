-- How commands measure, where lines end, and how many copies go out (PCL 5 Printer Language Technical Reference Manual:
-- Unit of Measure, Horizontal and Vertical Motion Index, Line Spacing, Line Termination, Perforation Skip and Number of
-- Copies commands; the ranges of the motion indices are this profile's).
use Rattle.std.specs.Prelude.{ℕ, ◌*◌, ◌/◌, ℤ, pos, negsuc, Bool, true, false, nat_le, nat_lt, min, if◌then◌else◌, [], ◌∷◌, Option, Some, None, unsigned_abs}
use Rattle.press_units.specs.Measure.{positions_per_inch, is_measure, horizontal_motion_unit, vertical_motion_unit}
use Rattle.press_units.specs.Position.{position_of}
use Rattle.press_page.specs.Numbers.{named}
use Rattle.press_page.specs.declared.settings.LineTermination.{LineTermination}
use Rattle.press_page.specs.declared.settings.Settings.{Settings}

-- ESC&u#D, the unit of measure
abbrev pub measure_of : ℤ → Option ℕ
measure_of (pos n) = if is_measure n then Some n else None
measure_of (negsuc n) = None

-- ESC&k#G, line termination: whether a carriage return is followed by a line feed, and whether a line feed and a form
-- feed are preceded by a carriage return
abbrev pub terminated : (feed_after_return return_before_feed : Bool) → LineTermination
terminated feed_after_return return_before_feed =
    record { feed_after_return = feed_after_return; return_before_feed = return_before_feed }

abbrev pub line_termination_of : ℤ → Option LineTermination
line_termination_of =
    named
    ((0, terminated false false) ∷ (1, terminated true false) ∷ (2, terminated false true) ∷ (3, terminated true true)
    ∷ [])

-- a motion index: a value from 0 to the most, in its unit
abbrev pub motion_of : (value : ℤ) (most unit : ℕ) → Option ℕ
motion_of (pos n) most unit = if nat_le n (10000 * most) then Some (unsigned_abs (position_of (pos n) unit)) else None
motion_of (negsuc n) most unit = None

-- ESC&k#H, the horizontal motion index in 1/120 inch
abbrev pub horizontal_motion_of : (value : ℤ) → Option ℕ
horizontal_motion_of value = motion_of value 840 horizontal_motion_unit

-- ESC&l#C, the vertical motion index in 1/48 inch
abbrev pub vertical_motion_of : (value : ℤ) → Option ℕ
vertical_motion_of value = motion_of value 336 vertical_motion_unit

-- ESC&l#D, line spacing: the vertical motion index under so many lines to the inch
abbrev pub lines : ℕ → ℕ × ℕ
lines n = (n, positions_per_inch / n)

abbrev pub line_spacing_of : ℤ → Option ℕ
line_spacing_of =
    named (lines 1 ∷ lines 2 ∷ lines 3 ∷ lines 4 ∷ lines 6 ∷ lines 8 ∷ lines 12 ∷ lines 16 ∷ lines 24 ∷ lines 48 ∷ [])

-- ESC&l#L, perforation skip: off or on, where that is a change
abbrev pub skip_change_of : ℤ → (held : Bool) → Option Bool
skip_change_of n true = named ((0, false) ∷ []) n
skip_change_of n false = named ((1, true) ∷ []) n

-- the most copies
abbrev pub most_copies : ℕ
most_copies = 999

-- ESC&l#X, copies: at least 1, and at most the most are taken
abbrev pub copies_of : ℤ → Option ℕ
copies_of (pos n) = if nat_lt 0 n then Some (min n most_copies) else None
copies_of (negsuc n) = None

-- half a line, as a half-line feed moves
abbrev pub half_line : (vertical_motion : ℕ) → ℕ
half_line vertical_motion = vertical_motion / 2

-- six lines and ten columns to the inch
abbrev pub default_vertical_motion : ℕ
default_vertical_motion = 1200

abbrev pub default_horizontal_motion : ℕ
default_horizontal_motion = 720

-- the settings after a reset
abbrev pub default_settings : (copies : ℕ) → Settings
default_settings copies = record {
  unit_of_measure = 300;
  horizontal_motion = default_horizontal_motion;
  vertical_motion = default_vertical_motion;
  line_termination = terminated false false;
  perforation_skip = true;
  copies = copies;
}
