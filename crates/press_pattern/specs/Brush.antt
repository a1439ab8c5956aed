-- What marks are painted with (PCL 5 Printer Language Technical Reference Manual, "The PCL Print Model").
use Rattle.std.specs.Prelude.{Option, option_map}
use Rattle.press_bits.specs.DotRule.{solid_white_mode}
use Rattle.press_bits.specs.declared.mode.Mode.{Mode}
use Rattle.press_pattern.specs.Solid.{solid_black}
use Rattle.press_pattern.specs.Store.{UserPatterns, tile_of}
use Rattle.press_pattern.specs.declared.brush.Brush.{Brush}
use Rattle.press_pattern.specs.declared.pattern.PatternKind.{PatternKind}
use Rattle.press_pattern.specs.declared.pattern.PatternKind.TheVariants as kinds
use Rattle.press_pattern.specs.declared.pattern.Pattern.{Pattern}

-- The mode in which a pattern of a kind meets the page: solid white always whitens, so its white dots are opaque.
abbrev pub brush_mode : PatternKind → Mode → Mode
brush_mode kinds.Black mode = mode
brush_mode kinds.White mode = solid_white_mode mode
brush_mode kinds.Shading mode = mode
brush_mode kinds.CrossHatch mode = mode
brush_mode kinds.User mode = mode

-- What a pattern is painted with, where it exists.
abbrev pub brush_of : UserPatterns → Pattern → Mode → Option Brush
brush_of patterns pattern mode =
    option_map (λ tile. record { tile = tile; mode = brush_mode pattern.kind mode })
    (tile_of patterns pattern.kind pattern.id)

-- Solid black in a mode.
abbrev pub black_brush : Mode → Brush
black_brush mode = record { tile = solid_black; mode = mode }
