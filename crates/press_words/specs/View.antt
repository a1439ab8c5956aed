-- The code's requests and refusals as contracts see them.
use Rattle.std.specs.Prelude.{◌≡◌, ℕ, List, map, option_map}
use Rattle.clap.specs.Words.{IsAmong, Text, fault_of, kind_of}
use Rattle.clap.specs.declared.error.kind.ErrorKind.{ErrorKind}
use Rattle.clap.specs.declared.error.kind.ErrorKind.TheVariants.{DisplayHelp, DisplayVersion, OutOfMemory}
use Rattle.press_words.specs.declared.session_words.SessionRequest.{SessionRequest}
use Rattle.press_words.specs.declared.words.Input.{Input}
use Rattle.press_words.specs.declared.words.Input.TheVariants as inputs
use Rattle.press_words.specs.declared.words.Output.{Output}
use Rattle.press_words.specs.declared.words.Output.TheVariants as outputs
use Rattle.press_words.specs.declared.words.Request.{Request}
use Rattle.press_words.specs.declared.words.Refusal.{Refusal}
use Rattle.press_words.specs.declared.words.Refusal.TheVariants.{Words, NoName, NoDefault}
use Rattle.press_words.specs.Words.{Source, Standard, FileNamed, Made, Listed, SummedOf, FilesBy, SessionAsked, Answered, AsText, ExplainedOf, DebuggedOf, TracedOf, RunsOf, PageTo, StreamTo, JobTo, TablesTold, Arguments, press_app}

-- an input by the text of its name
abbrev pub source_seen : Input → Source
source_seen inputs.Standard = Standard
source_seen (inputs.File name) = FileNamed name.now

-- what a session is asked for, by its texts
abbrev pub session_seen : SessionRequest → SessionAsked
session_seen asked = record {
  engines = asked.engines;
  template = option_map (λ template. template.now) asked.template;
  sums = asked.sums;
  goes_on = asked.goes_on;
}

-- an output by its texts
abbrev pub made_seen : Output → Made
made_seen (outputs.Listing prefix) = Listed prefix.items
made_seen (outputs.Sums prefix) = SummedOf prefix.items
made_seen (outputs.Files prefix template) = FilesBy prefix.items template.now
made_seen (outputs.Session asked) = Answered (session_seen asked)
made_seen outputs.Text = AsText
made_seen (outputs.Explained prefix) = ExplainedOf prefix.items
made_seen (outputs.Debugged prefix name) = DebuggedOf prefix.items name.now
made_seen (outputs.Traced prefix) = TracedOf prefix.items
made_seen (outputs.Runs prefix) = RunsOf prefix.items
made_seen (outputs.Page prefix steps name) = PageTo prefix.items steps name.now
made_seen (outputs.Assembled name) = StreamTo name.now
made_seen (outputs.Job name images) = JobTo name.now (map (λ image. image.now) images.items)
made_seen outputs.Tables = TablesTold

-- a request by its texts
abbrev pub request_seen : Request → Arguments
request_seen request = record { source = source_seen request.input; made = made_seen request.output }

-- memory ran out
abbrev pub IsForMemory : Refusal → Type 0
IsForMemory (Words error) = kind_of error ≡ OutOfMemory
IsForMemory NoName = ⊥
IsForMemory (NoDefault text) = ⊥

-- the status after an error of the command line, by its kind
abbrev pub status_of_kind : ErrorKind → ℕ
status_of_kind OutOfMemory = 1
status_of_kind DisplayHelp = 0
status_of_kind DisplayVersion = 0
status_of_kind _ = 2

-- The status after a refusal: 0 after help or the version, 1 where memory ran out, else 2.
abbrev pub status_of : Refusal → ℕ
status_of (Words error) = status_of_kind (kind_of error)
status_of NoName = 2
status_of (NoDefault text) = 2

-- The command line answers these words with help or the version.
abbrev pub AsksHelp : List Text → Type 0
AsksHelp words = (kind : ErrorKind) × (status_of_kind kind ≡ 0) × IsAmong kind (fault_of press_app words)
