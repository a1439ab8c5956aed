-- Worked fills, computed.
use Rattle.std.proofs.Common.{◌≡◌, true, false, None, refl}
use Rattle.press_bits.specs.DotRule as rule
use Rattle.press_bits.specs.Page.{Page}
use Rattle.press_page.specs.declared.media.Orientation.{Orientation}
use Rattle.press_fill.specs.declared.rect.Rect.{Rect}
use Rattle.press_fill.specs.Fill.{filled}
use Rattle.press_fill.specs.Rule.{dot_effect, mode}
use Rattle.press_fill.specs.declared.rule.DotEffect.TheVariants as effects

-- a pattern that is not there changes nothing, whatever the rectangle
pub no_pattern : (orientation : Orientation) (rect : Rect) (page : Page) → filled orientation rect None page ≡ page
no_pattern orientation rect page = refl

-- the source of a fill is black all over: a white pattern dot leaves the page where the pattern is transparent, and whitens it where not
pub transparent_pattern : rule.dot_rule (mode false false) true false ≡ dot_effect effects.Unchanged
transparent_pattern = refl

pub opaque_pattern : rule.dot_rule (mode false true) true false ≡ dot_effect effects.MadeWhite
opaque_pattern = refl

pub black_pattern : rule.dot_rule (mode true true) true true ≡ dot_effect effects.MadeBlack
black_pattern = refl
