-- Sessions with a press: what its lines ask, what comes of them, and what is written and made.
use Rattle.std.specs.Prelude.{◌≡◌, ◌≢◌, ◌⊎◌, ℕ, Bool, true, false, List, [], ◌∷◌, ◌++◌, map, IsTrue, MatchBool, Option, Some, None, Ok, Err, codes, ⊤}
use Rattle.std.specs.Fmt.{decimal}
use Rattle.std.specs.List.{All}
use Rattle.std.specs.Io.KnownBytes.{Appends}
use Rattle.press_devices.specs.Writing.{AppendsPrefix}
use Rattle.press_sink.specs.Outputs.{MadeOutput, with_outputs}
use Rattle.press_sink.specs.declared.fault.TemplateError.TheVariants as template_fault
use Rattle.press_sink.specs.declared.delivery.Delivery.{Delivery}
use Rattle.press_core.specs.declared.engines.BadEngines.{BadEngines}
use Rattle.press_core.specs.declared.turn.Turn.{Turn as DoneTurn}
use Rattle.press_core.specs.declared.turn.TurnError.{TurnError}
use Rattle.press_core.specs.declared.turn.TurnError.TheVariants as turn_fault
use Rattle.press_core.specs.Engines.{are_engines}
use Rattle.press_core.specs.Events.{Event, Message, TurnOn, Operator, Happens, EventAnswer, Response, Turned, Nothing}
use Rattle.press_core.specs.Turns.{FaultsAfter}
use Rattle.press_history.specs.Runs.{Transition, IsAnswered, IsExecution}
use Rattle.press_history.specs.RunLaws.{ComesFromNew}
use Rattle.press_core.specs.World.{World, new_world}
use Rattle.press_files.specs.Causes.{Failures, InputCause}
use Rattle.press_files.specs.Change.{Change}
use Rattle.press_files.specs.EntryPages.{MakesPages, page_lines, pages_behind}
use Rattle.press_files.specs.PagesKept.{deliveries_of, faults_of}
use Rattle.press_files.specs.EntryTemplate.{EntryParts, IsEntryTemplate, IsNoEntryTemplate}
use Rattle.press_files.specs.declared.jobs.JobFileError.{JobFileError}
use Rattle.press_files.specs.declared.jobs.JobFileError.TheVariants as fault
use Rattle.press_pbm.specs.declared.fault.ReadPbmError.TheVariants as image_fault
use Rattle.press_sessions.specs.declared.session.Session.{Session}
use Rattle.press_sessions.specs.declared.session_error.SessionError.{SessionError}
use Rattle.press_sessions.specs.declared.session_error.SessionError.TheVariants.{Engines, Template, File, Turn, Output, NoMemory}
use Rattle.press_files.specs.Inputs.{ReadWhole}
use Rattle.press_files.specs.EntryListing.{entry_listing}
use Rattle.press_sessions.specs.EventLines.{EventLine, MessageLine, TurnLine, OperatorLine, event_of_line}
use Rattle.press_sessions.specs.Faults.{told_of_session}
use Rattle.press_files.specs.Jobs.{HaveImages, ImagesRefused}
use Rattle.press_files.specs.NamedInputs.{NamedInput}
use Rattle.press_files.specs.declared.inputs.InputError.TheVariants as input_fault
use Rattle.press_files.specs.Talking.{Talking, AnswersAll, AnswersSome, caused}
use Rattle.press_words.specs.Words.{SessionAsked}

-- the line of a turn: the entry that took steps, and how many
abbrev pub turn_text : Option ℕ → ℕ → List ℕ
turn_text None steps = codes "turn - " ++ (decimal steps ++ 10 ∷ [])
turn_text (Some number) steps = codes "turn Q" ++ (decimal number ++ (codes " " ++ (decimal steps ++ 10 ∷ [])))

-- What is written for the answer of an event: the response, the turn, or `ok`; nothing where it met a fault.
abbrev pub answer_text : EventAnswer → List ℕ
answer_text (Response (Some bytes)) = bytes ++ 10 ∷ []
answer_text (Turned (Ok turn)) = turn_text turn.entry turn.steps
answer_text Nothing = codes "ok" ++ 10 ∷ []
answer_text answer = []

-- the same, of what an event handed back: its response with a line feed, and what its turn did
abbrev pub handed_back : (response : List ℕ) → List DoneTurn → List ℕ
handed_back response (turn ∷ turns) = turn_text turn.entry turn.steps
handed_back [] [] = codes "ok" ++ 10 ∷ []
handed_back (byte ∷ bytes) [] = byte ∷ bytes

-- What becomes of a line: it is none of an event; it is wrong, and this is told of it; or its event happens.
pub data LineDone : Type 0 where
  NoEvent : LineDone
  Wrong : (told : List ℕ) → LineDone
  Happened : Transition → LineDone

-- What is written for a line behind deliveries, by the template of files, where there is one: the lines of the files that were made, and then
-- the answer of its event.
abbrev pub answer_to : Option EntryParts → (had : List Delivery) → LineDone → List ℕ
answer_to parts had NoEvent = codes "what?" ++ 10 ∷ []
answer_to parts had (Wrong told) = told ++ 10 ∷ []
answer_to parts had (Happened happening) = page_lines parts had happening.handed ++ answer_text happening.answer

-- what a line handed out
abbrev pub handed_by : LineDone → List Delivery
handed_by (Happened happening) = happening.handed
handed_by done = []

-- what is written for lines
abbrev pub answers_to : Option EntryParts → (had : List Delivery) → List LineDone → List ℕ
answers_to parts had [] = []
answers_to parts had (done ∷ lines) = answer_to parts had done ++ answers_to parts (had ++ handed_by done) lines

-- the events among lines
abbrev pub happenings_in : List LineDone → List Transition
happenings_in [] = []
happenings_in (Happened happening ∷ lines) = happening ∷ happenings_in lines
happenings_in (done ∷ lines) = happenings_in lines

-- what events handed out
abbrev pub handed_in : List Transition → List Delivery
handed_in [] = []
handed_in (happening ∷ happenings) = happening.handed ++ handed_in happenings

-- the world behind a line
abbrev pub world_behind : World → LineDone → World
world_behind world (Happened happening) = happening.next
world_behind world done = world

-- The inputs, by their names.
abbrev pub Inputs : Type 1
Inputs = List ℕ → NamedInput

-- By what a session is played: the inputs, whether it goes on behind a line that is wrong, and the template of files.
pub record Rules : Type 1 where
  pub inputs : Inputs
  pub goes_on : Bool
  pub parts : Option EntryParts

-- an input had this text, to its end
abbrev pub HasText : (had : Option (List ℕ)) → (text : List ℕ) → Type 0
HasText had text = (left : Option (List ℕ)) × ReadWhole had left text

-- The event is what a line asks: a message has the text of the input of its file, and the images of the inputs that are named.
abbrev pub IsAsked : Inputs → EventLine → Event → Type 0
IsAsked inputs (MessageLine file names) (Message text images) = HasText (inputs file).bytes text × HaveImages (map inputs names) images
IsAsked inputs (TurnLine engine most) (TurnOn which steps) = (which ≡ engine) × (steps ≡ most)
IsAsked inputs (OperatorLine asked) (Operator command) = command ≡ asked
IsAsked inputs asked event = ⊥

-- where a session is: its press, what was delivered, and how many faults the sink of that had
pub record Standing : Type 0 where
  pub world : World
  pub delivered : List Delivery
  pub faults : ℕ

-- An event happened, and has its answer: what it handed out was delivered behind what had been, and this is the answer's line, behind those
-- of the files that were made.
abbrev pub TakesEvent : Option EntryParts → Event → (old new : Standing) → (answer : List ℕ) → Type 0
TakesEvent parts event old new answer =
    (its : EventAnswer) × (handed : List Delivery) × Happens old.world event its handed new.world × (new.delivered ≡ old.delivered ++ handed)
    × (new.faults ≡ old.faults) × (answer ≡ page_lines parts old.delivered handed ++ answer_text its) × IsAnswered its

-- So did the event that a line asks.
abbrev pub TakesAsked : Inputs → Option EntryParts → EventLine → (old new : Standing) → (answer : List ℕ) → Type 0
TakesAsked inputs parts asked old new answer = (event : Event) × IsAsked inputs asked event × TakesEvent parts event old new answer

-- Why an input of a name was not read: it may be one that cannot be opened; or it is not read on.
abbrev pub Unreadable : NamedInput → Type 0
Unreadable input = input.IsMissing ⊎ input.Failed

-- Why a file has no text: it was not read; or memory ran out.
abbrev pub IsUnread : NamedInput → JobFileError → Type 0
IsUnread input (fault.Input input_fault.ReadFault) = Unreadable input
IsUnread input (fault.Input input_fault.NoMemory) = ⊤
IsUnread input why = ⊥

-- What was delivered stays, and stands in front of what came.
abbrev pub KeepsDelivered : (old new : Standing) → Type 0
KeepsDelivered old new = (handed : List Delivery) × (new.delivered ≡ old.delivered ++ handed)

-- Why a message has no answer: its file is read first, then the images in their order; nothing happened then.
abbrev pub MessageFails : Inputs → (file : List ℕ) → (names : List (List ℕ)) → (old : Standing) → SessionError → (new : Standing) → Type 0
MessageFails inputs file names old (File why) new =
    (IsUnread (inputs file) why ⊎ ((text : List ℕ) × HasText (inputs file).bytes text × ImagesRefused (map inputs names) why)) × (new ≡ old)
MessageFails inputs file names old NoMemory new = KeepsDelivered old new
MessageFails inputs file names old why new = ⊥

-- Why a turn has no answer: it has a fault, or memory ran out. What it handed out before was delivered.
abbrev pub TurnFails : (engine most : ℕ) → (old : Standing) → SessionError → (new : Standing) → Type 0
TurnFails engine most old (Turn error) new =
    (handed : List Delivery) × Happens old.world (TurnOn engine most) (Turned (Err error)) handed new.world × (new.delivered ≡ old.delivered ++ handed)
    × FaultsAfter {A = DoneTurn} (Err error) old.faults new.faults
TurnFails engine most old NoMemory new = KeepsDelivered old new
TurnFails engine most old why new = ⊥

-- what is told where a fault stopped an event
abbrev pub stopped_by : TurnError → SessionError
stopped_by turn_fault.NoMemory = NoMemory
stopped_by error = Turn error

-- Why an event has no answer.
abbrev pub EventFails : Event → (old : Standing) → SessionError → (new : Standing) → Type 0
EventFails (TurnOn engine most) old why new = TurnFails engine most old why new
EventFails event old why new = (why ≡ NoMemory) × KeepsDelivered old new

-- Why what a line asks has no answer.
abbrev pub HasFault : Inputs → EventLine → (old : Standing) → SessionError → (new : Standing) → Type 0
HasFault inputs (MessageLine file names) old why new = MessageFails inputs file names old why new
HasFault inputs (TurnLine engine most) old why new = TurnFails engine most old why new
HasFault inputs (OperatorLine command) old why new = (why ≡ NoMemory) × KeepsDelivered old new

-- Why a line has no answer: what it asks has none, or memory ran out.
abbrev pub IsUnanswered : Inputs → (line : List ℕ) → (old : Standing) → SessionError → (new : Standing) → Type 0
IsUnanswered inputs line old why new =
    ((asked : EventLine) × (event_of_line line ≡ Some asked) × HasFault inputs asked old why new) ⊎ ((why ≡ NoMemory) × KeepsDelivered old new)

-- whether a fault is one of the line: its file, an image, or an engine that there is not; no device failed but an input of the line, and memory was there
abbrev pub is_of_line : SessionError → Bool
is_of_line (File (fault.Input input_fault.ReadFault)) = true
is_of_line (File (fault.Image image_fault.NoMemory)) = false
is_of_line (File (fault.Image error)) = true
is_of_line (Turn turn_fault.NoEngine) = true
is_of_line why = false

-- A line is wrong where the session goes on behind such lines, and this is told of it: what it asks has a fault of its own, by which nothing
-- happened.
abbrev pub IsWrong : Rules → (line : List ℕ) → (world : World) → (told : List ℕ) → Type 0
IsWrong rules line world told =
    (rules.goes_on ≡ true) × (why : SessionError) × (is_of_line why ≡ true) × (told_of_session why ≡ Some told)
    × (at : Standing) × (at.world ≡ world) × IsUnanswered rules.inputs line at why at

-- a line is one of this event, with what came of it; or it is wrong; or of none
abbrev pub IsLineOf : Rules → (line : List ℕ) → (world : World) → LineDone → Type 0
IsLineOf rules line world NoEvent = event_of_line line ≡ None
IsLineOf rules line world (Wrong told) = IsWrong rules line world told
IsLineOf rules line world (Happened happening) = (asked : EventLine) × (event_of_line line ≡ Some asked) × IsAsked rules.inputs asked happening.event

-- each line is so, in order
abbrev pub AreLinesOf : Rules → (lines : List (List ℕ)) → (world : World) → List LineDone → Type 0
AreLinesOf rules [] world [] = ⊤
AreLinesOf rules (line ∷ lines) world (done ∷ others) = IsLineOf rules line world done × AreLinesOf rules lines (world_behind world done) others
AreLinesOf rules _ world _ = ⊥

-- Lines were carried out, one after another, from one world to another, and each event has its answer: what their events handed out was
-- delivered behind what had been, and these are their answers.
pub record TakesLines (rules : Rules) (lines : List (List ℕ)) (old new : Standing) (answers : List ℕ) : Type 0 where
  pub happenings : List LineDone
  pub are : AreLinesOf rules lines old.world happenings
  pub leads : IsExecution old.world (happenings_in happenings) new.world
  pub handed : new.delivered ≡ old.delivered ++ handed_in (happenings_in happenings)
  pub faults : new.faults ≡ old.faults
  pub happened : All (λ happening. IsAnswered happening.answer) (happenings_in happenings)
  pub answered : answers ≡ answers_to rules.parts old.delivered happenings

-- Why a line ends a session: it has no answer. Where the session goes on behind a line that is wrong, that is not why.
abbrev pub LineEnds : Rules → (line : List ℕ) → (old : Standing) → SessionError → (new : Standing) → Type 0
LineEnds rules line old why new = IsUnanswered rules.inputs line old why new × (rules.goes_on ≡ true → is_of_line why ≡ false)

-- The talk of a session, by these rules.
abbrev pub playing : Rules → Talking Standing SessionError
playing rules = record {
  Takes = λ lines old answers new. TakesLines rules lines old new answers;
  Refuses = λ at line why ended. LineEnds rules line at why ended;
  Unread = λ error why. why ≡ File (fault.Input error);
  Unwritten = λ error why. why ≡ Output error;
}

-- All lines that a reader had, to its end, were carried out; their answers were written, and then the listing of all that was
-- delivered, with sums or without, and nothing else.
pub record PlaysToItsEnd (rules : Rules) (sums : Bool) (first : Standing) (bytes left old new : Option (List ℕ)) : Type 0 where
  pub between : Option (List ℕ)
  pub answered : AnswersAll (playing rules) first bytes left old between
  pub listed : Appends between new (entry_listing sums answered.last.delivered)

-- What was written of a listing: a prefix of it, where the writer failed; else nothing.
abbrev pub StopsListing : (Failed : Type 0) → (sums : Bool) (had : List Delivery) → (old new : Option (List ℕ)) → SessionError → Type 0
StopsListing Failed sums had old new (Output error) = AppendsPrefix old new (entry_listing sums had) × Failed
StopsListing Failed sums had old new NoMemory = new ≡ old
StopsListing Failed sums had old new why = ⊥

-- All lines were carried out, and their answers written; the session stopped at its listing.
pub record StopsAtTheListing (rules : Rules) (sums : Bool) (Failed : Type 0) (first ended : Standing) (read output : Change (Option (List ℕ))) (why : SessionError) : Type 0 where
  pub between : Option (List ℕ)
  pub answered : AnswersAll (playing rules) first read.before read.after output.before between
  pub last : ended ≡ answered.last
  pub stops : StopsListing Failed sums answered.last.delivered between output.after why

-- The same talk over devices of which these failed: no line is read where their reader is not read on, and an answer is not written where
-- the writer failed.
abbrev pub playing_over : Rules → Failures → Talking Standing SessionError
playing_over rules fails = caused (playing rules) (InputCause fails.input) fails.output

-- It stopped behind the first lines, or at its listing.
abbrev pub StopsPlaying : Rules → (sums : Bool) → Failures → (first ended : Standing) → (read output : Change (Option (List ℕ))) → SessionError → Type 0
StopsPlaying rules sums fails first ended read output why =
    ((some : AnswersSome (playing_over rules fails) first read.before read.after output why) × (some.ended ≡ ended))
    ⊎ StopsAtTheListing rules sums fails.output first ended read output why

-- where a session with a press is that delivered nothing, and where one with a new press is
abbrev pub beginning : World → Standing
beginning world = record { world = world; delivered = []; faults = 0 }

abbrev pub at_beginning : (engines : ℕ) → Standing
at_beginning engines = beginning (new_world engines)

-- where a session is
abbrev pub standing : {O X D : Type 0} {o w d : _} → Session O X D o w d → Standing
standing session = record { world = session.press; delivered = deliveries_of session.pages; faults = faults_of session.pages }

-- The text that is asked for as the template of files has these parts; there are none where no text is.
abbrev pub AreParts : (template : Option (List ℕ)) → Option EntryParts → Type 0
AreParts None None = ⊤
AreParts (Some text) (Some parts) = IsEntryTemplate text parts
AreParts template parts = ⊥

-- by what a session is played
abbrev pub by_rules : Inputs → (goes_on : Bool) → Option EntryParts → Rules
by_rules inputs goes_on parts = record { inputs = inputs; goes_on = goes_on; parts = parts }

-- A session was played by rules, from this state on: the files of all sheets that were delivered were made, and nothing else.
pub record PlaysBy (rules : Rules) (sums : Bool) (first : Standing) (bytes left old new : Option (List ℕ)) (made makes : Option (List MadeOutput)) : Type 0 where
  pub played : PlaysToItsEnd rules sums first bytes left old new
  pub files : makes ≡ with_outputs (pages_behind rules.parts [] played.answered.last.delivered) made

-- It stopped early in another state, and this is why. The files of the sheets that were delivered were made, and nothing else, but for a prefix
-- of those of one sheet more, where an output failed.
pub record StopsBy (rules : Rules) (sums : Bool) (fails : Failures) (first : Standing) (read output : Change (Option (List ℕ))) (made : Change (Option (List MadeOutput))) (why : SessionError) : Type 0 where
  pub ended : Standing
  pub stops : StopsPlaying rules sums fails first ended read output why
  pub files : ∥ MakesPages rules.parts ended.delivered ended.faults made.before made.after ∥₁
  pub cause : ended.faults ≢ 0 → fails.outputs

-- A session was played, with a press of so many engines at its beginning, which came by the events of its lines to the world behind them:
-- by the laws of every press, of what is delivered under each number, and when, of its engines and of its queue. Where there is a template,
-- the files of all sides that were delivered were made, each under the name of its entry and its number among the sides of that, and nothing
-- else.
pub record Plays (asked : SessionAsked) (inputs : Inputs) (bytes left old new : Option (List ℕ)) (made makes : Option (List MadeOutput)) : Type 0 where
  pub are : IsTrue (are_engines asked.engines)
  pub parts : Option EntryParts
  pub are_parts : AreParts asked.template parts
  pub by : PlaysBy (by_rules inputs asked.goes_on parts) asked.sums (at_beginning asked.engines) bytes left old new made makes
  pub comes : ComesFromNew asked.engines (happenings_in by.played.answered.takes.happenings) by.played.answered.last.world

-- nothing was read, written or made
abbrev pub NothingBegan : (read output : Change (Option (List ℕ))) → Change (Option (List MadeOutput)) → Type 0
NothingBegan read output made = (read.after ≡ read.before) × (output.after ≡ output.before) × (made.after ≡ made.before)

-- why a session does not begin: no press has so many engines
abbrev pub HasNoPress : SessionError → Type 0
HasNoPress why = (error : BadEngines) × (why ≡ Engines error)

-- or its text is no template of files, or memory ran out for it
abbrev pub HasNoTemplate : (template : Option (List ℕ)) → SessionError → Type 0
HasNoTemplate (Some text) why = ((why ≡ Template template_fault.BadTemplate) × IsNoEntryTemplate text) ⊎ (why ≡ Template template_fault.NoMemory)
HasNoTemplate None why = ⊥

-- It began, and stopped early, and this is why.
pub record StopsWithin (asked : SessionAsked) (inputs : Inputs) (fails : Failures) (read output : Change (Option (List ℕ))) (made : Change (Option (List MadeOutput))) (why : SessionError) : Type 0 where
  pub parts : Option EntryParts
  pub are_parts : AreParts asked.template parts
  pub by : StopsBy (by_rules inputs asked.goes_on parts) asked.sums fails (at_beginning asked.engines) read output made why

-- It did not begin, or stopped early, and this is why.
abbrev pub Stops : (asked : SessionAsked) → Inputs → Failures → (read output : Change (Option (List ℕ))) → Change (Option (List MadeOutput)) → SessionError → Type 0
Stops asked inputs fails read output made why =
    MatchBool (are_engines asked.engines)
    ((HasNoTemplate asked.template why × NothingBegan read output made) ⊎ StopsWithin asked inputs fails read output made why)
    (HasNoPress why × NothingBegan read output made)
