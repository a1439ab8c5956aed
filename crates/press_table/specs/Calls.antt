-- What a macro call restores, and the environment of an overlay (PCL 5 Printer Language Technical Reference Manual, "Macros").
use Rattle.std.specs.Prelude.{Bool, ◌==◌, ◌&&◌, ℕ, if◌then◌else◌, List, Option, Some, None}
use Rattle.press_cmd.specs.Token.{Token}
use Rattle.press_cursor.specs.Cursor.{at, clamped}
use Rattle.press_cursor.specs.declared.stack.CursorPosition.{CursorPosition}
use Rattle.press_macros.specs.Macros.{body_of}
use Rattle.press_page.specs.Environment.{reset_environment, logical_page_of}
use Rattle.press_page.specs.PageSetup.{size_number, orientation_number}
use Rattle.press_page.specs.declared.environment.PageEnv.{PageEnv}
use Rattle.press_page.specs.declared.margins.Margins.{Margins}
use Rattle.press_page.specs.declared.media.PageSetup.{PageSetup}
use Rattle.press_table.specs.declared.calls.SavedEnvironment.{SavedEnvironment}
use Rattle.press_table.specs.declared.effect.BodyEnd.{BodyEnd}
use Rattle.press_table.specs.declared.effect.BodyEnd.TheVariants as ends
use Rattle.press_table.specs.declared.effect.BodyStart.{BodyStart}
use Rattle.press_table.specs.declared.effect.BodyStart.TheVariants as starts
use Rattle.press_table.specs.declared.state.State.{State}
use Rattle.press_table.specs.Drawing.{initial_drawing}
use Rattle.press_table.specs.Motion.{to_home}
use Rattle.press_table.specs.Outcome.{bounds, ended_raster}

-- What a call keeps at its start.
abbrev pub kept_of : State → SavedEnvironment
kept_of state = record { environment = state.environment; drawing = state.drawing; macro_id = state.macro_id }

-- whether media have the same size and orientation
abbrev pub lies_as : PageSetup → PageSetup → Bool
lies_as page_setup other =
    size_number page_setup.size == size_number other.size
    && orientation_number page_setup.orientation == orientation_number other.orientation

-- Margins and text length are restored where page size and orientation are those that were kept.
abbrev pub restored_margins : (kept now : PageEnv) → Margins
restored_margins kept now = if lies_as kept.page_setup now.page_setup then kept.margins else now.margins

-- The settings are restored; the media stays.
abbrev pub restored_environment : (kept now : PageEnv) → PageEnv
restored_environment kept now =
    record { settings = kept.settings; margins = restored_margins kept now; page_setup = now.page_setup }

-- What was kept is restored; the cursor stays where it is, on the logical page, and raster graphics ends.
abbrev pub restored : SavedEnvironment → State → State
restored kept state =
    let environment = restored_environment kept.environment state.environment in
    record state {
      environment = environment;
      drawing = kept.drawing;
      macro_id = kept.macro_id;
      cursor = clamped (logical_page_of environment) state.cursor;
      graphics = None;
    }

-- what comes at the end of a body that starts in a state
abbrev pub end_of : BodyStart → State → BodyEnd
end_of starts.Execute state = ends.Execute
end_of starts.Call state = ends.Call (kept_of state)

-- What comes at the start of a body and at its end: nothing for a macro that is executed; a call ends raster graphics, and
-- restores what it kept.
abbrev pub at_start : BodyEnd → State → State
at_start ends.Execute state = state
at_start (ends.Call kept) state = ended_raster state

abbrev pub at_end : BodyEnd → State → State
at_end ends.Execute state = state
at_end (ends.Call kept) state = restored kept state

-- The page environment of an overlay: what a call restores is as after a reset, copies excepted; the media stays.
abbrev pub overlay_environment : PageEnv → PageEnv
overlay_environment environment =
    reset_environment (record {
      copies = environment.settings.copies;
      size = environment.page_setup.size;
      orientation = environment.page_setup.orientation;
      duplex = environment.page_setup.duplex;
      binding = environment.page_setup.binding;
      resolution = environment.page_setup.resolution;
    })

-- The body of the overlay, where it is on and its macro exists.
abbrev pub body_under : Option ℕ → State → Option (List Token)
body_under None state = None
body_under (Some id) state = body_of state.macros id

abbrev pub overlay_body : State → Option (List Token)
overlay_body state = body_under state.overlay state

-- At the start of an overlay its environment holds, the cursor is at home, and raster graphics ends.
abbrev pub overlaid : State → State
overlaid state =
    to_home (record state {
      environment = overlay_environment state.environment;
      drawing = initial_drawing;
      macro_id = 0;
    })

-- At its end what was kept before it is restored, and the cursor is put back where it was, on the logical page.
abbrev pub put_back : SavedEnvironment → CursorPosition → State → State
put_back kept place after =
    let state = restored kept after in
    record state { cursor = at place (bounds state) state.cursor }
