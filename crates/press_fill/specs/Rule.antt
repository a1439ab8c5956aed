-- The dot rule as a call gives it.
use Rattle.std.specs.Prelude.{Bool}
use Rattle.press_bits.specs.DotRule as rule
use Rattle.press_bits.specs.declared.mode.Mode.{Mode}
use Rattle.press_fill.specs.declared.rule.DotEffect.{DotEffect}
use Rattle.press_fill.specs.declared.rule.DotEffect.TheVariants as effects

-- what becomes of a dot, by its name
abbrev pub dot_effect : DotEffect → rule.DotEffect
dot_effect effects.MadeBlack = rule.DotEffect.MadeBlack
dot_effect effects.MadeWhite = rule.DotEffect.MadeWhite
dot_effect effects.Unchanged = rule.DotEffect.Unchanged

abbrev pub mode : (source_opaque pattern_opaque : Bool) → Mode
mode source_opaque pattern_opaque = record { source_opaque = source_opaque; pattern_opaque = pattern_opaque }
