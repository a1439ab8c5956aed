-- Images that stand one behind the other.
use Rattle.std.proofs.Common.{◌≡◌, ◌∙◌, ℕ, List, [], ◌∷◌, ◌++◌, refl, arith}
use Rattle.press_bits.specs.Page.{Page}
use Rattle.press_pbm.specs.File.{IsFile}
use Rattle.press_memory.specs.Written.{StandBefore}

-- one image more
pub stand-more : (bytes rest left : List ℕ) (images : List Page) (image : Page) (file : List ℕ)
    → StandBefore bytes rest images → IsFile image file → rest ≡ file ++ left → StandBefore bytes left (images ++ image ∷ [])
stand-more bytes rest left [] image file stand is more = (file, left, is, stand ∙ more, refl)
stand-more bytes rest left (first ∷ images) image file stand is more = grind (arith, stand-more stand.1 rest left images image file stand.4 is more)
