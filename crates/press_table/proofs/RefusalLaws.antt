-- A command that is refused changes nothing.
use Rattle.std.proofs.Common.{◌≡◌, ℕ, ℤ, Bool, true, false, if◌then◌else◌, Option, Some, None, refl, subst, arith}
use Rattle.std.proofs.lemmas.Bool.{true≢false}
use Rattle.std.specs.Prelude.{◌&&◌, ◌||◌, not, is_some}
use Rattle.press_cmd.specs.Token.{Token}
use Rattle.press_cmd.specs.Kinds.{kind_of}
use Rattle.press_page.specs.Settings.{skip_change_of}
use Rattle.press_table.specs.declared.effect.Source.{Source}
use Rattle.press_table.specs.declared.operation.Operation.{Operation}
use Rattle.press_table.specs.declared.operation.Operation.TheVariants as operations
use Rattle.press_table.specs.declared.refusal.Refusal.{Refusal}
use Rattle.press_table.specs.declared.refusal.Refusal.TheVariants as refusals
use Rattle.press_table.specs.declared.state.State.{State}
use Rattle.press_table.specs.Motion.{in_overlay}
use Rattle.press_table.specs.Operation.{operation_of}
use Rattle.press_table.specs.Outcome.{Effect, Changes}
use Rattle.press_table.specs.Raster.{start_of}
use Rattle.press_table.specs.Refusals.{is_switch, names_value, has_row, row_refusal, refusal_of, NothingIfRefused}
use Rattle.press_table.specs.Table.{table_row, value_of, whole_part_of, works_in_hp_gl, works_in_overlay}

none-of : {Named : Type 0} (some : Option Named) → is_some some ≡ false → some ≡ None
none-of some is = grind arith

-- perforation skip is off or on, and nothing else
no-skip : (number : ℤ) (held : Bool) → is_switch number ≡ false → skip_change_of number held ≡ None
no-skip number held other = grind arith

-- where rows begin does not decide whether they do
not-started : (number : ℤ) (x : ℕ) → is_some (start_of number 0) ≡ false → start_of number x ≡ None
not-started number x none = grind arith

-- a row whose value is not named changes nothing
other_value : (source : Source) (operation : Operation) (command : Token) (state : State) → names_value operation (value_of command) state.environment ≡ false
    → table_row source operation command state ≡ Changes state
other_value source operations.UnitOfMeasure command state other = rw (none-of _ other) refl
other_value source operations.SelectPageSide command state other = rw (none-of _ other) refl
other_value source operations.PushOrPop command state other = grind arith
other_value source operations.LineTermination command state other = rw (none-of _ other) refl
other_value source operations.HorizontalMotion command state other = rw (none-of _ other) refl
other_value source operations.VerticalMotion command state other = rw (none-of _ other) refl
other_value source operations.LineSpacing command state other = rw (none-of _ other) refl
other_value source operations.PerforationSkip command state other = rw (no-skip (whole_part_of command) state.environment.settings.perforation_skip other) refl
other_value source operations.Copies command state other = rw (none-of _ other) refl
other_value source operations.RectangleWidth command state other = grind arith
other_value source operations.RectangleHeight command state other = grind arith
other_value source operations.PatternId command state other = rw (none-of _ other) refl
other_value source operations.RectangleWidthInDecipoints command state other = grind arith
other_value source operations.Fill command state other = grind (arith, none-of)
other_value source operations.ControlPatterns command state other = rw (none-of _ other) refl
other_value source operations.RectangleHeightInDecipoints command state other = grind arith
other_value source operations.SourceTransparency command state other = rw (none-of _ other) refl
other_value source operations.PatternTransparency command state other = rw (none-of _ other) refl
other_value source operations.SelectPattern command state other = rw (none-of _ other) refl
other_value source operations.RasterResolution command state other = rw (none-of _ other) (grind arith)
other_value source operations.StartRaster command state other = rw (not-started (whole_part_of command) state.cursor.x other) (grind arith)
other_value source operations.SourceWidth command state other = rw (none-of _ other) (grind arith)
other_value source operations.SourceHeight command state other = rw (none-of _ other) (grind arith)
other_value source operations.SetMethod command state other = rw (none-of _ other) refl
other_value source operations.OffsetRaster command state other = rw (none-of _ other) (grind arith)
other_value source operations.MacroId command state other = rw (none-of _ other) refl
other_value source operations.ControlMacro command state other = rw (none-of _ other) refl
other_value source operations.LeftMargin command state other = rw (none-of _ other) (grind arith)
other_value source operations.RightMargin command state other = rw (none-of _ other) (grind arith)
other_value source operations.TopMargin command state other = rw (none-of _ other) (grind arith)
other_value source operations.TextLength command state other = rw (none-of _ other) refl
other_value source operations.SelectPageSize command state other = rw (none-of _ other) refl
other_value source operations.SelectOrientation command state other = rw (none-of _ other) refl
other_value source operations.SelectDuplex command state other = rw (none-of _ other) refl
other_value source operation command state other = absurd (true≢false other)

no_row : (source : Source) (operation : Operation) (command : Token) (state : State) → has_row operation ≡ false
    → table_row source operation command state ≡ Changes state
no_row source operations.Nothing command state none = refl
no_row source operation command state none = absurd (true≢false none)

refused-row : (source : Source) (operation : Operation) (command : Token) (state : State)
    → is_some (row_refusal operation (value_of command) state.environment) ≡ true → table_row source operation command state ≡ Changes state
refused-row source operation command state refused = grind (arith, no_row, other_value)

-- HP-GL/2 skips it, an overlay does, or its row refuses it
either : (hp_gl in_overlay : Bool) (refusal : Option Refusal) (row : Effect) (state : State)
    → is_some (if hp_gl then Some refusals.HpGl else if in_overlay then Some refusals.Overlay else refusal) ≡ true
    → (is_some refusal ≡ true → row ≡ Changes state) → (if hp_gl || in_overlay then Changes state else row) ≡ Changes state
either true in_overlay refusal row state refused by_row = refl
either false true refusal row state refused by_row = refl
either false false refusal row state refused by_row = by_row refused

pub refused_nothing : (refusal : Option Refusal) (source : Source) (command : Token) (state : State) → refusal ≡ refusal_of source command state
    → NothingIfRefused refusal source command state
refused_nothing refusal source command state is refused runs =
    let operation = operation_of (kind_of command) in
    rw runs
    (either (state.hp_gl && not (works_in_hp_gl operation)) (in_overlay source && not (works_in_overlay operation))
    (row_refusal operation (value_of command) state.environment) (table_row source operation command state) state
    (subst (λ refusal. is_some refusal ≡ true) is refused) (refused-row source operation command state))
