-- The page environment and its commands (PCL 5 Printer Language Technical Reference Manual, Page Control Commands and
-- the print environment; Printer Job Language Technical Reference Manual, environment variables). Each setter names its
-- command; a value that a command does not know leaves the environment.
use Rattle.std.specs.Prelude.{◌==◌, ◌&&◌, ℕ, ℤ, pos, ◌+ℤ◌, ◌-ℤ◌, int_lt, Bool, false, not, if◌then◌else◌, Option, Some, None, is_some}
use Rattle.press_units.specs.Value.{whole_part}
use Rattle.press_units.specs.declared.position.Resolution.TheVariants.{Dpi300}
use Rattle.press_cursor.specs.declared.logical_page.LogicalPage.{LogicalPage}
use Rattle.press_page.specs.Margins.{default_top, default_text_length, default_margins, top_margin_of, text_length_of, left_margin_of, right_margin_of}
use Rattle.press_page.specs.PageSetup.{page_size_of, orientation_of, duplex_of, logical_width, logical_length, logical_page, with_duplex}
use Rattle.press_page.specs.Settings.{measure_of, line_termination_of, horizontal_motion_of, vertical_motion_of, line_spacing_of}
use Rattle.press_page.specs.Settings.{skip_change_of, copies_of, default_vertical_motion, default_horizontal_motion}
use Rattle.press_page.specs.Settings.{default_settings}
use Rattle.press_page.specs.declared.defaults.Defaults.{Defaults}
use Rattle.press_page.specs.declared.environment.PageEnv.{PageEnv}
use Rattle.press_page.specs.declared.media.Binding.TheVariants.{LongEdge}
use Rattle.press_page.specs.declared.media.Orientation.{Orientation}
use Rattle.press_page.specs.declared.media.Orientation.TheVariants.{Portrait}
use Rattle.press_page.specs.declared.media.PageSize.{PageSize}
use Rattle.press_page.specs.declared.media.PageSize.TheVariants.{Letter}
use Rattle.press_page.specs.declared.media.PageSetup.{PageSetup}
use Rattle.press_page.specs.declared.media.DuplexMode.{DuplexMode}

-- the factory values of the job language's variables
abbrev pub factory : Defaults
factory = record {
  copies = 1;
  size = Letter;
  orientation = Portrait;
  duplex = false;
  binding = LongEdge;
  resolution = Dpi300;
}

-- the media of a reset
abbrev pub default_media : Defaults → PageSetup
default_media defaults = record {
  size = defaults.size;
  orientation = defaults.orientation;
  duplex = defaults.duplex;
  binding = defaults.binding;
  resolution = defaults.resolution;
}

-- The page environment after a reset.
abbrev pub reset_environment : Defaults → PageEnv
reset_environment defaults = record {
  settings = default_settings defaults.copies;
  margins = default_margins (default_media defaults) default_vertical_motion;
  page_setup = default_media defaults;
}

-- the logical page
abbrev pub logical_page_of : PageEnv → LogicalPage
logical_page_of env = logical_page env.page_setup env.margins.top

-- A change by what a command asks for, if it asks for something: of the environment, or of whatever else commands set.
abbrev pub changed_by : {Asked Changed : Type 0} → Option Asked → (Asked → Changed → Changed) → Changed → Changed
changed_by None change changed = changed
changed_by (Some asked) change changed = change asked changed

-- ESC&u#D, Unit of Measure
abbrev pub set_unit_of_measure : ℤ → PageEnv → PageEnv
set_unit_of_measure value =
    changed_by (measure_of (whole_part value))
    (λ measure env. record env { settings = record env.settings { unit_of_measure = measure } })

-- ESC&k#G, Line Termination
abbrev pub set_line_termination : ℤ → PageEnv → PageEnv
set_line_termination value =
    changed_by (line_termination_of (whole_part value))
    (λ termination env. record env { settings = record env.settings { line_termination = termination } })

-- ESC&k#H, Horizontal Motion Index; no margin changes
abbrev pub with_horizontal_motion : ℕ → PageEnv → PageEnv
with_horizontal_motion motion env = record env { settings = record env.settings { horizontal_motion = motion } }

abbrev pub set_horizontal_motion : ℤ → PageEnv → PageEnv
set_horizontal_motion value = changed_by (horizontal_motion_of value) with_horizontal_motion

-- ESC&l#C, Vertical Motion Index, and ESC&l#D, Line Spacing; neither margin nor text length changes
abbrev pub with_vertical_motion : ℕ → PageEnv → PageEnv
with_vertical_motion motion env = record env { settings = record env.settings { vertical_motion = motion } }

abbrev pub set_vertical_motion : ℤ → PageEnv → PageEnv
set_vertical_motion value = changed_by (vertical_motion_of value) with_vertical_motion

abbrev pub set_line_spacing : ℤ → PageEnv → PageEnv
set_line_spacing value = changed_by (line_spacing_of (whole_part value)) with_vertical_motion

-- a new top margin, with the text length by default
abbrev pub with_top : ℕ → PageEnv → PageEnv
with_top top env =
    record env {
      margins = record env.margins {
        top = top;
        text_length = default_text_length (logical_length env.page_setup) top env.settings.vertical_motion;
      };
    }

-- ESC&l#E, Top Margin, and whether it has effect
abbrev pub asked_top : ℤ → PageEnv → Option ℕ
asked_top value env = top_margin_of value env.settings.vertical_motion (logical_length env.page_setup)

abbrev pub set_top_margin : ℤ → PageEnv → PageEnv
set_top_margin value env = changed_by (asked_top value env) with_top env

-- ESC&l#F, Text Length
abbrev pub asked_text_length : ℤ → PageEnv → Option ℕ
asked_text_length value env =
    text_length_of (whole_part value) env.settings.vertical_motion env.margins.top (logical_length env.page_setup)

abbrev pub set_text_length : ℤ → PageEnv → PageEnv
set_text_length value env =
    changed_by (asked_text_length value env)
    (λ text_length env. record env { margins = record env.margins { text_length = text_length } }) env

-- ESC&l#L, Perforation Skip: a change sets the top margin and the text length to their defaults (this profile)
abbrev pub asked_skip : ℤ → PageEnv → Option Bool
asked_skip value env = skip_change_of (whole_part value) env.settings.perforation_skip

abbrev pub with_skip : Bool → PageEnv → PageEnv
with_skip skip env = with_top default_top (record env { settings = record env.settings { perforation_skip = skip } })

abbrev pub set_perforation_skip : ℤ → PageEnv → PageEnv
set_perforation_skip value env = changed_by (asked_skip value env) with_skip env

-- whether it changes the top margin's number
abbrev pub skip_moves_top : ℤ → PageEnv → Bool
skip_moves_top value env = is_some (asked_skip value env) && not (env.margins.top == default_top)

-- ESC&a#L, Left Margin
abbrev pub asked_left : ℤ → PageEnv → Option ℕ
asked_left value env = left_margin_of value env.settings.horizontal_motion env.margins.right

abbrev pub set_left_margin : ℤ → PageEnv → PageEnv
set_left_margin value env =
    changed_by (asked_left value env) (λ left env. record env { margins = record env.margins { left = left } }) env

-- ESC&a#M, Right Margin
abbrev pub asked_right : ℤ → PageEnv → Option ℕ
asked_right value env =
    right_margin_of value env.settings.horizontal_motion env.margins.left (logical_width env.page_setup)

abbrev pub set_right_margin : ℤ → PageEnv → PageEnv
set_right_margin value env =
    changed_by (asked_right value env) (λ right env. record env { margins = record env.margins { right = right } }) env

-- ESC 9, Clear Horizontal Margins
abbrev pub clear_margins : PageEnv → PageEnv
clear_margins env = record env { margins = record env.margins { left = 0; right = logical_width env.page_setup } }

-- the margins by default, on the media and with the vertical motion index of now
abbrev pub with_default_margins : PageEnv → PageEnv
with_default_margins env = record env { margins = default_margins env.page_setup env.settings.vertical_motion }

-- Whether the page closes, if it has a mark, at ESC&l#A, ESC&l#O and ESC&l#S: where the value asks for something, also for what
-- holds already. No other setter closes the page.
abbrev pub closes_page : {Asked : Type 0} → Option Asked → Bool
closes_page asked = is_some asked

-- ESC&l#A, Page Size: the margins go back to their defaults, also for the size that holds
abbrev pub asked_page_size : ℤ → Option PageSize
asked_page_size value = page_size_of (whole_part value)

abbrev pub with_page_size : PageSize → PageEnv → PageEnv
with_page_size size env = with_default_margins (record env { page_setup = record env.page_setup { size = size } })

abbrev pub set_page_size : ℤ → PageEnv → PageEnv
set_page_size value = changed_by (asked_page_size value) with_page_size

-- ESC&l#O, Logical Page Orientation: the motion indices go back to their defaults first
abbrev pub asked_orientation : ℤ → Option Orientation
asked_orientation value = orientation_of (whole_part value)

abbrev pub with_orientation : Orientation → PageEnv → PageEnv
with_orientation orientation env =
    with_default_margins (with_vertical_motion default_vertical_motion (with_horizontal_motion default_horizontal_motion
    (record env { page_setup = record env.page_setup { orientation = orientation } })))

abbrev pub set_orientation : ℤ → PageEnv → PageEnv
set_orientation value = changed_by (asked_orientation value) with_orientation

-- ESC&l#S, Simplex/Duplex Print
abbrev pub asked_duplex : ℤ → Option DuplexMode
asked_duplex value = duplex_of (whole_part value)

abbrev pub with_duplex_mode : DuplexMode → PageEnv → PageEnv
with_duplex_mode sides env = record env { page_setup = with_duplex sides env.page_setup }

abbrev pub set_duplex : ℤ → PageEnv → PageEnv
set_duplex value = changed_by (asked_duplex value) with_duplex_mode

-- ESC&l#X, Number of Copies
abbrev pub set_copies : ℤ → PageEnv → PageEnv
set_copies value =
    changed_by (copies_of (whole_part value))
    (λ copies env. record env { settings = record env.settings { copies = copies } })

-- the end of the text, below the top margin; without perforation skip that of the page
abbrev pub text_end : PageEnv → ℤ
text_end env =
    if env.settings.perforation_skip then pos env.margins.text_length
    else (pos (logical_length env.page_setup) -ℤ pos env.margins.top)

-- whether a line feed by a distance passes the end of the text, from where the cursor is
abbrev pub passes_text : (y : ℤ) (distance : ℕ) → PageEnv → Bool
passes_text y distance env = int_lt (text_end env) (y +ℤ pos distance)
