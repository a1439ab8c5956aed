-- The line of a table step: compact JSON, its keys in byte order.
use Rattle.std.specs.Prelude.{◌≡◌, ℕ, List, [], ◌∷◌, ◌++◌, ◌==◌, if◌then◌else◌, length, min, Option, None, Some, true, codes}
use Rattle.serde_json.specs.Data.{Data, number, unsigned, boolean, string, object, Members, no_members, put}
use Rattle.serde_json.specs.Find.{of_integer}
use Rattle.serde_json.specs.Written.{compact_text}
use Rattle.press_units.specs.Limits.{greatest_of_64_bits}
use Rattle.press_bits.specs.Page.{Page}
use Rattle.press_sink.specs.Sending.{sheets_of, reply_bytes_of}
use Rattle.press_engine.specs.declared.machine.Last.{Last}
use Rattle.press_engine.specs.declared.machine.Last.TheVariants as lasts
use Rattle.press_engine.specs.declared.machine.Machine.{Machine}
use Rattle.press_engine.specs.declared.view.View.{View}
use Rattle.press_engine.specs.Engine.{view_of}
use Rattle.press_trace.specs.declared.place.Place.{Place}
use Rattle.press_trace.specs.Pages.{IsPageTold}
use Rattle.press_trace.specs.Places.{Placed}
use Rattle.press_trace.specs.Seen.{view_told, object_if, put_some}
use Rattle.press_trace.specs.Spelled.{spelled}
use Rattle.press_trace.specs.Texts.{kind_data, refusal_data, text_of}

-- the kind of the command that a step took, whether it was recorded, and why it was refused, if it was
abbrev pub last_told : Last → Option Data
last_told lasts.Nothing = None
last_told (lasts.Ran kind) = Some (kind_data kind)
last_told (lasts.Recorded kind) = Some (kind_data kind)
last_told (lasts.Refused kind refusal) = Some (kind_data kind)

abbrev pub recorded_told : Last → Option Data
recorded_told (lasts.Recorded kind) = Some (boolean true)
recorded_told last = None

abbrev pub refused_told : Last → Option Data
refused_told (lasts.Refused kind refusal) = Some (refusal_data refusal)
refused_told last = None

-- how many sheets went out, if any did
abbrev pub delivered_told : ℕ → Option Data
delivered_told sheets = if sheets == 0 then None else Some (number (unsigned sheets))

-- the bytes of the replies that went out, if there are any
abbrev pub reply_told : List ℕ → Option Data
reply_told replies = if length replies == 0 then None else Some (string (text_of replies))

-- the fields that changed, if any did
abbrev pub view_object : Option View → View → Option Data
view_object before now = object_if (view_told before now)

-- Where a step stands. It tells the command of the stream to which the step belongs, by its first byte and how many bytes it has. It tells
-- how many bodies run, how many sheets were handed out, how many steps were taken, and the cursor in 1/7200 inch.
abbrev pub where_members : Place → View → Members → Members
where_members place now members =
    put (codes "y") (number (of_integer now.y.0))
    (put (codes "x") (number (of_integer now.x.0))
    (put (codes "step") (number (unsigned now.step))
    (put (codes "sheets") (number (unsigned now.sheets))
    (put (codes "depth") (number (unsigned now.depth))
    (put (codes "bytes") (number (unsigned place.bytes))
    (put (codes "at") (number (unsigned place.at)) members))))))

-- And what it did: the sheets and replies that went out, the kind of its command, why that was refused, what changed of the open page
-- and of what can be seen.
abbrev pub line_members :
    Place → (sheets : ℕ) → (replies : List ℕ) → (before : Option View) → (now : View) → (opened page : Option Data) → Members
line_members place sheets replies before now opened page =
    put_some (codes "view") (view_object before now)
    (put_some (codes "reply") (reply_told replies)
    (put_some (codes "refused") (refused_told now.last)
    (put_some (codes "recorded") (recorded_told now.last)
    (put_some (codes "page") page
    (put_some (codes "opened") opened
    (put_some (codes "last") (last_told now.last)
    (put_some (codes "delivered") (delivered_told sheets) (where_members place now no_members))))))))

-- How many steps a line tells, where they are more than one.
abbrev pub steps_told : ℕ → Option Data
steps_told steps = if steps == 1 then None else Some (number (unsigned steps))

abbrev pub run_members :
    (steps : ℕ) → Place → (sheets : ℕ) → (replies : List ℕ) → (before : Option View) → (now : View) → (opened page : Option Data) → Members
run_members steps place sheets replies before now opened page =
    put_some (codes "steps") (steps_told steps) (line_members place sheets replies before now opened page)

-- The line of members: their compact JSON, in which no character stands that a terminal takes as a control, and a line feed.
abbrev pub line_text : Members → List ℕ
line_text members = spelled (compact_text (object members)) ++ 10 ∷ []

-- what can be seen of a machine, and of none
abbrev pub IsViewOf : Machine → View → Type 0
IsViewOf machine view = (view ≡ view_of view.stack machine) × (view.stack.now ≡ machine.state.cursor.stack)

abbrev pub IsViewIf : Option Machine → Option View → Type 0
IsViewIf None None = Unit {0}
IsViewIf (Some machine) (Some view) = IsViewOf machine view
IsViewIf machine view = ⊥

-- the open page of a machine, if one is open
abbrev pub page_if : Option Machine → Option Page
page_if None = None
page_if (Some machine) = machine.state.page

-- The line of an item, behind another one if there is one, that tells so many steps.
pub record IsLineOf (steps : ℕ) (before : Option Machine) (placed : Placed) (text : List ℕ) : Type 0 where
  pub seen : Option View
  pub now : View
  pub opened : Option Data
  pub page : Option Data
  pub seen_is : IsViewIf before seen
  pub now_is : IsViewOf placed.run.machine now
  pub page_is : IsPageTold (page_if before) placed.run.machine.state.page opened page
  pub text_is : text ≡ line_text (
      run_members steps placed.place (min (length (sheets_of placed.run.outputs)) greatest_of_64_bits)
      (reply_bytes_of placed.run.outputs) seen now opened page
      )

-- The line of an item by itself.
abbrev pub IsLine : Option Machine → Placed → List ℕ → Type 0
IsLine before placed text = IsLineOf 1 before placed text

-- The lines of items, one after another.
abbrev pub AreLines : Option Machine → List Placed → List ℕ → Type 0
AreLines before [] text = text ≡ []
AreLines before (placed ∷ others) text =
    (line : List ℕ) × (rest : List ℕ) × IsLine before placed line × AreLines (Some placed.run.machine) others rest
    × (text ≡ line ++ rest)
