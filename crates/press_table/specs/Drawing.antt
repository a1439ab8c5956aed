-- How marks are made (PCL 5 Printer Language Technical Reference Manual, "The PCL Print Model" and "Rectangular Area Fill
-- Graphics").
use Rattle.std.specs.Prelude.{ℕ, ℤ, Bool, true, false, [], ◌∷◌, Option, Some, None}
use Rattle.press_bits.specs.DotRule.{both_transparent}
use Rattle.press_page.specs.Numbers.{named, within}
use Rattle.press_pattern.specs.declared.pattern.PatternKind.TheVariants as kinds
use Rattle.press_pattern.specs.declared.pattern.Pattern.{Pattern}
use Rattle.press_raster.specs.Settings.{initial}
use Rattle.press_table.specs.Rectangle.{no_rectangle, size_of}
use Rattle.press_table.specs.declared.drawing.Drawing.{Drawing}

-- solid black, which has no ID
abbrev pub solid_black_pattern : Pattern
solid_black_pattern = record { kind = kinds.Black; id = 0 }

-- After power on and a reset: no rectangle, pattern ID 0, solid black, both white dots transparent; raster
-- graphics of 75 dots per inch by method 0, without source width and height.
abbrev pub initial_drawing : Drawing
initial_drawing = record { rectangle = no_rectangle; pattern_id = 0; pattern = solid_black_pattern; mode = both_transparent; raster = initial }

-- ESC*c#A and ESC*c#B, horizontal and vertical rectangle size in PCL units, and ESC*c#H and ESC*c#V, in decipoints; a negative
-- value has no effect (this profile)
abbrev pub with_width : Option ℕ → Drawing → Drawing
with_width None drawing = drawing
with_width (Some width) drawing = record drawing { rectangle = record drawing.rectangle { width = width } }

abbrev pub with_height : Option ℕ → Drawing → Drawing
with_height None drawing = drawing
with_height (Some height) drawing = record drawing { rectangle = record drawing.rectangle { height = height } }

abbrev pub set_rectangle_width : ℤ → (unit : ℕ) → Drawing → Drawing
set_rectangle_width value unit drawing = with_width (size_of value unit) drawing

abbrev pub set_rectangle_height : ℤ → (unit : ℕ) → Drawing → Drawing
set_rectangle_height value unit drawing = with_height (size_of value unit) drawing

-- ESC*c#G, pattern ID, at most 32,767
abbrev pub greatest_pattern_id : ℕ
greatest_pattern_id = 32767

abbrev pub with_pattern_id : Option ℕ → Drawing → Drawing
with_pattern_id None drawing = drawing
with_pattern_id (Some id) drawing = record drawing { pattern_id = id }

abbrev pub set_pattern_id : (number : ℤ) → Drawing → Drawing
set_pattern_id number drawing = with_pattern_id (within greatest_pattern_id number) drawing

-- whether white dots are opaque, by the number of a transparency command: 0 transparent, 1 opaque
abbrev pub is_opaque : ℤ → Option Bool
is_opaque = named ((0, false) ∷ (1, true) ∷ [])

-- ESC*v#N, source transparency mode
abbrev pub with_source_opaque : Option Bool → Drawing → Drawing
with_source_opaque None drawing = drawing
with_source_opaque (Some opaque) drawing = record drawing { mode = record drawing.mode { source_opaque = opaque } }

abbrev pub set_source_transparency : (number : ℤ) → Drawing → Drawing
set_source_transparency number drawing = with_source_opaque (is_opaque number) drawing

-- ESC*v#O, pattern transparency mode
abbrev pub with_pattern_opaque : Option Bool → Drawing → Drawing
with_pattern_opaque None drawing = drawing
with_pattern_opaque (Some opaque) drawing = record drawing { mode = record drawing.mode { pattern_opaque = opaque } }

abbrev pub set_pattern_transparency : (number : ℤ) → Drawing → Drawing
set_pattern_transparency number drawing = with_pattern_opaque (is_opaque number) drawing
