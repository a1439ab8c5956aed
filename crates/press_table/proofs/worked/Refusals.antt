-- Worked reasons why commands are refused, computed on the definitions.
use Prim.Native.Char.{Char, code}
use Prim.Native.String.{String}
use Rattle.std.proofs.Common.{◌≡◌, List, [], ◌∷◌, ◌++◌, map, Option, Some, None, true, refl}
use Rattle.std.specs.Prelude.{codes}
use Rattle.press_units.specs.declared.position.Resolution.TheVariants.{Dpi600}
use Rattle.press_cmd.specs.Token.{Token, Control, Escape, ForeignByte, Grouped, PjlLine, Text, Uel, Ungrouped}
use Rattle.press_page.specs.declared.environment.PageEnv.{PageEnv}
use Rattle.press_table.specs.declared.effect.Source.TheVariants as sources
use Rattle.press_table.specs.declared.refusal.Refusal.{Refusal}
use Rattle.press_table.specs.declared.refusal.Refusal.TheVariants.{HpGl, Overlay, NoRow, NoSuchValue}
use Rattle.press_table.specs.declared.state.State.{State}
use Rattle.press_table.specs.Outcome.{power_on_state}
use Rattle.press_table.specs.Refusals.{refusal_of}

abbrev sequence : Char → Char → String → Char → Token
sequence character group field end = Grouped (code character) (code group) (codes field) (code end) []

abbrev refusals_in : State → List Token → List (Option Refusal)
refusals_in state commands = map (λ command. refusal_of sources.Stream command state) commands

-- text, a bell, a self test, a byte of another language and a font's pitch have no row; CR, a reset and the universal exit have one
rows : refusals_in power_on_state (Text 72 ∷ Control 7 ∷ Escape 122 ∷ ForeignByte 72 ∷ sequence "(" "s" "10" "H" ∷ Control 13 ∷ Escape 69 ∷ Uel ∷ [])
    ≡ Some NoRow ∷ Some NoRow ∷ Some NoRow ∷ Some NoRow ∷ Some NoRow ∷ None ∷ None ∷ None ∷ []
rows = refl

-- while HP-GL/2 is on, all is refused but a reset, the universal exit, PJL lines and the way back to PCL
in_hp_gl :
    refusals_in (record power_on_state { hp_gl = true })
    (Text 72 ∷ Control 13 ∷ sequence "*" "p" "1" "X" ∷ sequence "*" "b" "4" "M" ∷ Ungrouped (code "%") (codes "0") (code "B") [] ∷ Escape 69 ∷ Uel
    ∷ PjlLine (codes "@PJL\n") ∷ Ungrouped (code "%") (codes "0") (code "A") [] ∷ [])
    ≡ Some HpGl ∷ Some HpGl ∷ Some HpGl ∷ Some HpGl ∷ Some HpGl ∷ None ∷ None ∷ None ∷ None ∷ []
in_hp_gl = refl

-- in an overlay the six rows that close the page are refused, whatever their value; text has no row there either; CR, LF and a move have effect
in_an_overlay :
    map (λ command. refusal_of sources.Overlay command power_on_state)
    (Control 12 ∷ sequence "&" "l" "2" "A" ∷ sequence "&" "l" "4" "A" ∷ sequence "&" "l" "0" "O" ∷ sequence "&" "l" "0" "S" ∷ sequence "&" "l" "1" "H"
    ∷ sequence "&" "a" "0" "G" ∷ Text 72 ∷ Control 13 ∷ Control 10 ∷ sequence "*" "p" "1" "X" ∷ sequence "*" "b" "4" "M" ∷ [])
    ≡ Some Overlay ∷ Some Overlay ∷ Some Overlay ∷ Some Overlay ∷ Some Overlay ∷ Some Overlay ∷ Some Overlay ∷ Some NoRow ∷ None ∷ None ∷ None
    ∷ Some NoSuchValue ∷ []
in_an_overlay = refl

-- page sizes 2 and 4, resolutions 75 and 200 of a page of 300, methods 3 and 4, the horizontal motion index up to and above the most, 0 and 1 copies
values :
    refusals_in power_on_state
    (sequence "&" "l" "2" "A" ∷ sequence "&" "l" "4" "A" ∷ sequence "*" "t" "75" "R" ∷ sequence "*" "t" "200" "R" ∷ sequence "*" "b" "3" "M"
    ∷ sequence "*" "b" "4" "M" ∷ sequence "&" "k" "840" "H" ∷ sequence "&" "k" "840.5" "H" ∷ sequence "&" "l" "0" "X" ∷ sequence "&" "l" "1" "X" ∷ [])
    ≡ None ∷ Some NoSuchValue ∷ None ∷ Some NoSuchValue ∷ None ∷ Some NoSuchValue ∷ None ∷ Some NoSuchValue ∷ Some NoSuchValue ∷ None ∷ []
values = refl

-- a rectangle that is negative, a left margin in the last column and behind it, a top margin on the page and below it, and a move that is negative
places :
    refusals_in power_on_state
    (sequence "*" "c" "-1" "A" ∷ sequence "&" "a" "79" "L" ∷ sequence "&" "a" "80" "L" ∷ sequence "&" "l" "66" "E" ∷ sequence "&" "l" "67" "E"
    ∷ sequence "*" "p" "-1" "X" ∷ [])
    ≡ Some NoSuchValue ∷ None ∷ Some NoSuchValue ∷ None ∷ Some NoSuchValue ∷ None ∷ []
places = refl

-- the greatest ID and one more, controls of patterns and macros that there are and are not, a fill by the current pattern and by none
numbers :
    refusals_in power_on_state
    (sequence "&" "f" "32767" "Y" ∷ sequence "&" "f" "32768" "Y" ∷ sequence "*" "c" "2" "Q" ∷ sequence "*" "c" "3" "Q" ∷ sequence "&" "f" "10" "X"
    ∷ sequence "&" "f" "11" "X" ∷ sequence "*" "c" "5" "P" ∷ sequence "*" "c" "6" "P" ∷ [])
    ≡ None ∷ Some NoSuchValue ∷ None ∷ Some NoSuchValue ∷ None ∷ Some NoSuchValue ∷ None ∷ Some NoSuchValue ∷ []
numbers = refl

-- rows of 200 dots per inch on a page of 600, and a top margin of two lines where lines have no height
abbrev with_environment : (PageEnv → PageEnv) → State
with_environment change = record power_on_state { environment = change power_on_state.environment }

pages :
    refusals_in (with_environment (λ env. record env { page_setup = record env.page_setup { resolution = Dpi600 } })) (sequence "*" "t" "200" "R" ∷ [])
    ++ refusals_in (with_environment (λ env. record env { settings = record env.settings { vertical_motion = 0 } })) (sequence "&" "l" "2" "E" ∷ [])
    ≡ None ∷ Some NoSuchValue ∷ []
pages = refl
