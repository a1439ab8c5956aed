-- A table step of a job: what it takes of the stream, and the item that it does.
use Rattle.std.specs.Prelude.{◌≡◌, ◌⊎◌, ℕ, zero, suc, length, List, [], ◌∷◌, Option, Some, None, Result, Ok, Err, true, false}
use Rattle.std.specs.List.{AllByRecursion}
use Rattle.press_cmd.specs.Token.{Token, Uel}
use Rattle.press_cmd.specs.declared.variant.Kind.{Kind}
use Rattle.press_scan.specs.Gives.{Passes, IsDone}
use Rattle.press_scan.specs.Passing.{PassesEach}
use Rattle.press_scan.specs.ScannerState.{ScannerState}
use Rattle.press_engine.specs.declared.step_output.StepOutput.{StepOutput}
use Rattle.press_engine.specs.declared.activation.Activation.{Activation}
use Rattle.press_engine.specs.declared.machine.Machine.{Machine}
use Rattle.press_engine.specs.Changing.{Changed}
use Rattle.press_engine.specs.Engine.{IsOfKind, NeedsMemory, Steps}
use Rattle.press_engine.specs.Machine.{StepResult, macro_levels}
use Rattle.press_table.specs.Outputs.{all_outputs}
use Rattle.press_engine.specs.Stack.{continuation, HasNext}
use Rattle.press_engine.specs.Fold.{run_all}
use Rattle.press_engine.specs.Passing.{passed}
use Rattle.press_cmd.specs.Kinds.{kind_of}
use Rattle.press_table.specs.Passing.{HasNoEffect}
use Rattle.press_engine.specs.Trace.{trace_at}
use Rattle.press_stream.specs.declared.carrying.Plain.{Plain}
use Rattle.press_stream.specs.declared.carrying.Plain.TheVariants as plain
use Rattle.press_stream.specs.declared.fault.JobError.{JobError}
use Rattle.press_stream.specs.declared.fault.JobError.TheVariants as errors
use Rattle.press_stream.specs.State.{JobState}
use Rattle.press_stream.specs.Meaning.{left}

-- What a step takes of the stream: nothing, where a body runs; the next command that is held; or, where nothing is held, the
-- universal exit that is added.
abbrev pub TakesNothing : JobState → List Token → JobState → Type 0
TakesNothing old given new = HasNext old.bodies × (given ≡ []) × (new.held ≡ old.held) × (new.exited ≡ old.exited)

abbrev pub TakesHeld : JobState → List Token → JobState → Type 0
TakesHeld old given new =
    (command : Token) × (given ≡ command ∷ []) × (old.bodies ≡ []) × (old.exited ≡ false) × (new.exited ≡ false)
    × Passes old.held command new.held

abbrev pub TakesExit : JobState → List Token → JobState → Type 0
TakesExit old given new =
    (given ≡ Uel ∷ []) × (old.bodies ≡ []) × (old.exited ≡ false) × (new.exited ≡ true) × (new.held ≡ old.held)
    × (old.held.ended ≡ true) × IsDone old.held

abbrev pub TakesGiven : JobState → List Token → JobState → Type 0
TakesGiven old given new = TakesNothing old given new ⊎ TakesHeld old given new ⊎ TakesExit old given new

-- A step of a job did this item, whose command has this kind: the first of what was left of the bodies that run and of the
-- commands that it takes. The others are what the bodies owe then.
pub record Does (old : JobState) (item : StepResult) (kind : Kind) (new : JobState) : Type 0 where
  pub given : List Token
  pub takes : TakesGiven old given new
  pub from : Machine
  pub starts : old.machine ≡ Some from
  pub ends : new.machine ≡ Some item.machine
  pub is_kind : IsOfKind item.machine.last kind
  pub are : left given old.bodies from ≡ item ∷ continuation new.bodies item.machine

-- The same of a step that answers what goes out in it.
abbrev pub DoesStep : JobState → StepOutput → JobState → Type 0
DoesStep old step new =
    (machine : Machine) × Does old (record { machine = machine; outputs = all_outputs step.sent.items }) step.kind new

-- An engine that owed items took a step; or memory ran out where the step needs some, and the engine has failed.
abbrev pub Carries : Option Machine → (Machine → List StepResult) → (needs : Type 0) → Result StepOutput JobError → Option Machine → List Activation → Type 0
Carries old owing needs (Ok step) new still = Steps old owing step new still
Carries old owing needs (Err error) new still = (error ≡ errors.NoMemory) × needs × (new ≡ None)

-- The same of one command that was handed to an engine in which no body ran.
abbrev pub CarriesOne : Token → Option Machine → Result StepOutput JobError → Option Machine → List Activation → Type 0
CarriesOne command old result new still = Carries old (trace_at macro_levels command) (NeedsMemory old command) result new still

-- The next command that a scanner holds was handed to an engine; or it holds none, and nothing changed.
abbrev pub CarriesNext : ScannerState → Option Machine → Result (Option StepOutput) JobError → ScannerState → Option Machine → List Activation → Type 0
CarriesNext held old (Ok (Some step)) next new still = (command : Token) × Passes held command next × CarriesOne command old (Ok step) new still
CarriesNext held old (Ok None) next new still = IsDone held × (next ≡ held) × (new ≡ old) × (still ≡ [])
CarriesNext held old (Err error) next new still = (command : Token) × Passes held command next × CarriesOne command old (Err error) new still

-- The next command that a scanner holds was handed to an engine, and did no more than change the machine; or it did more, which is a step;
-- or it was not taken, and nothing changed.
abbrev pub CarriesPlain : ScannerState → Option Machine → Result Plain JobError → ScannerState → Option Machine → List Activation → Type 0
CarriesPlain held old (Ok plain.Changed) next new still = (command : Token) × Passes held command next × Changed true command old new × (still ≡ [])
CarriesPlain held old (Ok (plain.Ran step)) next new still = (command : Token) × Passes held command next × CarriesOne command old (Ok step) new still
CarriesPlain held old (Ok plain.Other) next new still = (next ≡ held) × (new ≡ old) × (still ≡ [])
CarriesPlain held old (Err error) next new still = (command : Token) × Passes held command next × CarriesOne command old (Err error) new still

-- the machine behind commands that have no effect: each is a step more, and its kind that of the last
abbrev pub passed_each : List Token → Machine → Machine
passed_each [] machine = machine
passed_each (command ∷ commands) machine = passed_each commands (passed 1 (kind_of command) machine)

-- So many commands of the stream were taken one after another, no body ran, and each has no effect: it is a step more, and no more.
pub record PassesRun (old : JobState) (count : ℕ) (new : JobState) : Type 0 where
  pub given : List Token
  pub count_is : count ≡ length given
  pub each : PassesEach old.held given new.held
  pub from : Machine
  pub starts : old.machine ≡ Some from
  pub none : AllByRecursion (HasNoEffect from.state) given
  pub ends : new.machine ≡ Some (passed_each given from)
  pub idle : (old.bodies ≡ []) × (new.bodies ≡ [])
  pub going : (old.exited ≡ false) × (new.exited ≡ false)

-- The same, or none was taken, and nothing changed.
abbrev pub PassesOrStays : JobState → (count : ℕ) → JobState → Type 0
PassesOrStays old zero new = new ≡ old
PassesOrStays old (suc more) new = PassesRun old (suc more) new

-- Commands that a scanner holds were handed to an engine one after another, and what they leave is left; nothing goes out.
pub record CarriesIdle (held : ScannerState) (old : Option Machine) (next : ScannerState) (new : Option Machine) : Type 0 where
  pub given : List Token
  pub each : PassesEach held given next
  pub from : Machine
  pub starts : old ≡ Some from
  pub ends : new ≡ Some (run_all given from).machine
  pub nothing : (run_all given from).outputs ≡ []
