-- Names in the job language (PJL Technical Reference Manual, the syntax of PJL commands): they are written in letters of
-- either case, and stand here in upper case.
use Rattle.std.specs.Prelude.{ℕ, Bool, true, false, List, Option, codes, bytes_eq}
use Rattle.std.specs.List.{find}
use Rattle.press_cmd.specs.Language.{raised}
use Rattle.press_page.specs.declared.media.Binding.{Binding}
use Rattle.press_page.specs.declared.media.Binding.TheVariants as bindings
use Rattle.press_page.specs.declared.media.Orientation.{Orientation}
use Rattle.press_page.specs.declared.media.Orientation.TheVariants as orientations
use Rattle.press_page.specs.declared.media.PageSize.{PageSize}
use Rattle.press_page.specs.declared.media.PageSize.TheVariants as sizes
use Rattle.press_units.specs.declared.position.Resolution.{Resolution}
use Rattle.press_units.specs.declared.position.Resolution.TheVariants as resolutions

-- the first of some things whose name a text is, in letters of either case
abbrev pub of_name : {A : Type 0} → (name : A → List ℕ) → List A → (text : List ℕ) → Option A
of_name name things text = find (λ thing. bytes_eq (raised text) (name thing)) things

-- the names of page sizes
abbrev pub size_name : PageSize → List ℕ
size_name sizes.Letter = codes "LETTER"
size_name sizes.Legal = codes "LEGAL"
size_name sizes.A4 = codes "A4"
size_name sizes.Executive = codes "EXECUTIVE"
size_name sizes.Ledger = codes "LEDGER"
size_name sizes.A3 = codes "A3"

-- of orientations; the reversed ones, which no line names, have the name of theirs
abbrev pub orientation_name : Orientation → List ℕ
orientation_name orientations.Portrait = codes "PORTRAIT"
orientation_name orientations.Landscape = codes "LANDSCAPE"
orientation_name orientations.ReversePortrait = codes "PORTRAIT"
orientation_name orientations.ReverseLandscape = codes "LANDSCAPE"

-- of what is on or off
abbrev pub switch_name : Bool → List ℕ
switch_name true = codes "ON"
switch_name false = codes "OFF"

-- of the edges of a binding
abbrev pub binding_name : Binding → List ℕ
binding_name bindings.LongEdge = codes "LONGEDGE"
binding_name bindings.ShortEdge = codes "SHORTEDGE"

-- of resolutions
abbrev pub resolution_name : Resolution → List ℕ
resolution_name resolutions.Dpi300 = codes "300"
resolution_name resolutions.Dpi600 = codes "600"
