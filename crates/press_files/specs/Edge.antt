-- What is around the program: what it reads and writes, and what it is told and makes.
use Rattle.std.specs.Prelude.{◌≡◌, ℕ, List, Option, None, Bool, true, false, map}
use Rattle.std.specs.Borrow.{Bor}
use Rattle.press_devices.specs.Reading.{ReadFails, SomeFails}
use Rattle.press_devices.specs.declared.reading.ReadDevice.{Ghosts as Reads}
use Rattle.press_devices.specs.declared.writing.WriteDevice.{Ghosts as Writes}
use Rattle.press_sink.specs.declared.named_outputs.NamedOutputs.{Ghosts as Makes}
use Rattle.press_devices.specs.declared.telling.Teller.{Ghosts as Tells}
use Rattle.press_files.specs.declared.named_inputs.NamedInputs.{Ghosts as Opens}
use Rattle.press_sink.specs.Outputs.{MadeOutput}
use Rattle.press_files.specs.Causes.{Failures, failures}
use Rattle.press_files.specs.Change.{Changes, around}
use Rattle.press_files.specs.NamedInputs.{NamedInput, named}
use Rattle.press_files.specs.declared.devices.Devices.{Devices}

-- What is around the program at one moment, each where it is known: what its reader has left, whether a read of it failed, and how many there
-- were; whether an input that was opened by its name is not read on; what standard output took, whether bytes may wait in it, and whether it
-- failed; what standard error took; and the outputs that were made, whether bytes of these may wait, and whether one failed.
pub record Edge : Type 0 where
  pub unread : Option (List ℕ)
  pub failed : Bool
  pub reads : ℕ
  pub lost : Bool
  pub written : Option (List ℕ)
  pub waits : Bool
  pub cut : Bool
  pub told : Option (List ℕ)
  pub made : Option (List MadeOutput)
  pub holds : Bool
  pub spoiled : Bool

-- the edge of devices alone, by what their types tell of them, where nothing is read
abbrev pub devices_edge : {P I X O Y W E : Type 0} → Opens I X → Makes O Y → Writes W → Tells E → Devices P I O W E X Y → Edge
devices_edge i o w e devices = record {
  unread = None;
  failed = false;
  reads = 0;
  lost = i.failed devices.inputs;
  written = w.contents devices.out;
  waits = w.waiting devices.out;
  cut = w.failed devices.out;
  told = e.said devices.err;
  made = o.made devices.outputs;
  holds = o.waiting devices.outputs;
  spoiled = o.failed devices.outputs;
}

-- the edge of a reader and of the devices beside it
abbrev pub edge : {R P I X O Y W E : Type 0} → Reads R → Opens I X → Makes O Y → Writes W → Tells E → R → Devices P I O W E X Y → Edge
edge r i o w e reader devices =
    record (devices_edge i o w e devices) { unread = r.remaining reader; failed = r.failed reader; reads = r.reads reader }

-- which devices failed by then
abbrev pub fails_of : Edge → Failures
fails_of edge = failures (ReadFails edge.failed edge.reads) (edge.lost ≡ true) (edge.cut ≡ true) (edge.spoiled ≡ true)

-- What a subcommand promises: a relation of the edges before and after, with its status.
abbrev pub Promise : Type 1
Promise = (status : ℕ) (before after : Edge) → Type 0

-- the input of a name, by what the type of inputs and that of one tell
abbrev pub input_called : {X I : Type 0} → Reads X → Opens I X → I → (name : List ℕ) → NamedInput
input_called x i inputs = named (SomeFails x.failed x.reads) (i.bytes inputs) (i.missing inputs)

-- what texts that are lent are
abbrev pub lent_texts : List (Bor (List ℕ)) → List (List ℕ)
lent_texts texts = map (λ text. text.now) texts

-- the inputs of names
abbrev pub inputs_called : {X I : Type 0} → Reads X → Opens I X → I → (names : List (Bor (List ℕ))) → List NamedInput
inputs_called x i inputs names = map (input_called x i inputs) (lent_texts names)

-- The inputs by their names, and which of them may be ones that can be opened.
pub record Inputs : Type 1 where
  pub named : List ℕ → NamedInput
  pub present : List ℕ → Type 0

-- those of devices
abbrev pub inputs_of : {P I X O Y W E : Type 0} → Reads X → Opens I X → Devices P I O W E X Y → Inputs
inputs_of x i devices = record {
  named = input_called x i devices.inputs;
  present = i.present devices.inputs;
}

-- what changed from one edge to another, where no input is read by its name
abbrev pub between : (before after : Edge) → Changes
between before after =
    around (record (fails_of after) { file = ⊥ }) before.told after.told before.unread after.unread before.written after.written
    before.made after.made

-- nothing was read, standard output took nothing, no output was made
abbrev pub ReadsNothing : (before after : Edge) → Type 0
ReadsNothing before after = after.unread ≡ before.unread

abbrev pub WritesNothing : (before after : Edge) → Type 0
WritesNothing before after = after.written ≡ before.written

abbrev pub MakesNothing : (before after : Edge) → Type 0
MakesNothing before after = after.made ≡ before.made
