-- What rows of the command table give, and the state after power on.
use Rattle.std.specs.Prelude.{ℕ, Bool, false, is_some, if◌then◌else◌, List, [], ◌++◌, None}
use Rattle.std.specs.FinMap as maps
use Rattle.press_cursor.specs.Cursor.{home}
use Rattle.press_cursor.specs.CursorState.{CursorState}
use Rattle.press_cursor.specs.declared.logical_page.LogicalPage.{LogicalPage}
use Rattle.press_cmd.specs.Token.{Token}
use Rattle.press_macros.specs.Macros.{Macros, no_macros, permanent_macros}
use Rattle.press_page.specs.Environment.{reset_environment, logical_page_of}
use Rattle.press_page.specs.declared.environment.PageEnv.{PageEnv}
use Rattle.press_store.specs.Things.{permanent_only}
use Rattle.press_pjl.specs.Lines as lines
use Rattle.press_pjl.specs.declared.environment.PjlEnv.{PjlEnv}
use Rattle.press_sink.specs.Sending.{Output}
use Rattle.press_table.specs.declared.effect.BodyEnd.{BodyEnd}
use Rattle.press_table.specs.declared.effect.EjectCause.{EjectCause}
use Rattle.press_table.specs.declared.drawing.Drawing.{Drawing}
use Rattle.press_table.specs.declared.state.State.{State}
use Rattle.press_table.specs.Drawing.{initial_drawing}

-- What a part of a command leaves: the state, and the outputs in order.
pub record Outcome : Type 0 where
  pub state : State
  pub outputs : List Output

-- the state, and nothing goes out
abbrev pub done : State → Outcome
done state = record { state = state; outputs = [] }

-- an outcome after earlier outputs
abbrev pub after_outputs : List Output → Outcome → Outcome
after_outputs outputs outcome = record { state = outcome.state; outputs = outputs ++ outcome.outputs }

-- What a row of the table gives.
-- Changes: a state. MayAllocate: a state, and memory may be taken, for a mark, a pattern or a recorded command. GivesReply: a state, and a
-- reply goes out. Stays: a page without a mark stays, and the command does at once what it does after a close. Closes: the page closes.
-- Starts: the body of a macro starts; the last part is what comes at its end.
pub data Effect : Type 0 where
  Changes : State → Effect
  MayAllocate : State → Effect
  GivesReply : (reply : List ℕ) → State → Effect
  Stays : EjectCause → State → Effect
  Closes : EjectCause → State → Effect
  Starts : List Token → BodyEnd → State → Effect

-- the page environment after a reset: by the current values of the job language's variables
abbrev pub default_environment : PjlEnv → PageEnv
default_environment language = reset_environment language.current

-- home on a page of this environment, with nothing pushed
abbrev pub first_home : PageEnv → CursorState
first_home environment =
    home environment.margins.left environment.settings.vertical_motion (logical_page_of environment)

-- What a reset sets: page environment, drawing and macro ID, overlay and HP-GL/2 off, no temporary pattern or macro, raster
-- graphics off, and the cursor at home with nothing pushed.
abbrev pub reset_fields : State → State
reset_fields state =
    record state {
      environment = default_environment state.language;
      drawing = initial_drawing;
      macro_id = 0;
      overlay = None;
      hp_gl = false;
      patterns = permanent_only state.patterns;
      macros = permanent_macros state.macros;
      graphics = None;
      cursor = first_home (default_environment state.language);
    }

-- After power on: the job language's factory values, what a reset sets by them, no sheet, no user-defined pattern, no macro,
-- and a blank page without a mark.
abbrev pub power_on_state : State
power_on_state = record {
  language = lines.power_on_language;
  since_job = 0;
  environment = default_environment lines.power_on_language;
  drawing = initial_drawing;
  macro_id = 0;
  overlay = None;
  cursor = first_home (default_environment lines.power_on_language);
  hp_gl = false;
  sheets = 0;
  patterns = maps.empty;
  macros = no_macros;
  graphics = None;
  page = None;
  pending = None;
}

-- whether a mark was made on the page
abbrev pub is_marked : State → Bool
is_marked state = is_some state.page

-- the logical page, which bounds the cursor
abbrev pub bounds : State → LogicalPage
bounds state = logical_page_of state.environment

-- raster graphics off
abbrev pub ended_raster : State → State
ended_raster state = record state { graphics = None }

abbrev pub ended_raster_if : Bool → State → State
ended_raster_if ends state = if ends then ended_raster state else state

-- A move of the cursor ends raster graphics, also where it leaves the cursor where it was.
abbrev pub moved : CursorState → State → State
moved cursor state = record state { cursor = cursor; graphics = None }

-- a change of the drawing alone
abbrev pub with_drawing : (Drawing → Drawing) → State → State
with_drawing change state = record state { drawing = change state.drawing }

-- a change of the macros alone
abbrev pub with_macros : (Macros → Macros) → State → State
with_macros change state = record state { macros = change state.macros }

-- a change of the page environment alone
abbrev pub with_environment : (PageEnv → PageEnv) → State → State
with_environment change state = record state { environment = change state.environment }
