-- What the program does for what its words ask: relations of the edges before and after, with the status.
use Rattle.std.specs.Prelude.{◌≡◌, ◌⊎◌, ℕ, zero, suc, Bool, true, false, List, Option, Some, None, IfSome, map}
use Rattle.std.specs.String.{string_bytes}
use Rattle.std.specs.declared.string.String.{String}
use Rattle.std.specs.Io.KnownBytes.{Appends}
use Rattle.clap.specs.Words.{Text}
use Rattle.press_units.specs.Faults.{fault_text}
use Rattle.press_sink.specs.Faults.{sink_number}
use Rattle.press_sink.specs.Template.{IsSideName}
use Rattle.press_sink.specs.declared.fault.SinkError.TheVariants.{SinkFault}
use Rattle.press_devices.specs.Faults.{read_fault}
use Rattle.press_devices.specs.Writing.{AppendsPrefix}
use Rattle.press_devices.specs.Telling.{output_text, Tells, as_line}
use Rattle.press_trace.specs.declared.line_of.LineOf.TheVariants.{Run, Step}
use Rattle.press_words.specs.Defaults.{HoldsBehind, with_prefix}
use Rattle.press_words.specs.View.{AsksHelp}
use Rattle.press_words.specs.Words.{Source, Standard, FileNamed, Made, Listed, SummedOf, FilesBy, Answered, AsText, ExplainedOf, DebuggedOf, TracedOf, RunsOf, PageTo, StreamTo, JobTo, TablesTold, Arguments, arguments}
use Rattle.press_files.specs.Change.{change}
use Rattle.press_files.specs.Edge.{Edge, Inputs, MakesNothing, Promise, ReadsNothing, WritesNothing, fails_of}
use Rattle.press_files.specs.Ends.{PrintingFiles, PrintingList, Writing}
use Rattle.press_files.specs.Files.{DoesNothing}
use Rattle.press_forms.specs.Ends.{Assembling, Debugging, Disassembling, Explaining, Paging, TracingBy}
use Rattle.press_sessions.specs.Ends.{Playing}
use Rattle.press_main.specs.Tables.{tables_text}

-- The edge whose reader has this; and that of a file that is opened, which tells whether a read failed, and how many there were.
abbrev pub having : Option (List ℕ) → Edge → Edge
having bytes edge = record edge { unread = bytes }

abbrev pub opening : Option (List ℕ) → (failed : Bool) (reads : ℕ) → Edge → Edge
opening bytes failed reads edge = record edge { unread = bytes; failed = failed; reads = reads }

-- This holds with these bytes in front of what the reader has. What it has left is known where none stand there.
abbrev pub Behind : (prefix : List ℕ) → Promise → (status : ℕ) (before after : Edge) → Type 0
Behind prefix Holds status before after =
    HoldsBehind prefix before.unread after.unread (λ had left. Holds status (having had before) (having left after))

-- A session with a debugger of the input of this name, with these bytes in front of its stream. 304 also where it may be one that cannot be
-- opened.
abbrev pub DebuggingFile : (prefix : List ℕ) (name : Text) → Inputs → (status : ℕ) (before after : Edge) → Type 0
DebuggingFile prefix name inputs status before after =
    (rest : Option (List ℕ))
    × Debugging (record {
      bytes = change (with_prefix prefix (inputs.named name).bytes) rest;
      Failed = after.lost ≡ true;
      IsMissing = (inputs.named name).IsMissing;
    }) status before after

-- A text was written whole, and nothing was told; or a prefix of it, with status 1, and that it cannot be written was told, as the writer
-- failed.
abbrev pub WritesText : (text : List ℕ) (status : ℕ) (before after : Edge) → Type 0
WritesText text status before after =
    ((status ≡ 0) × (after.told ≡ before.told) × Appends before.written after.written text)
    ⊎ ((status ≡ 1) × Tells before.told after.told (as_line (Some output_text))
    × (fails_of after).output × AppendsPrefix before.written after.written text)

-- The program's own tables were written, or a front of them where standard output failed. Nothing was read or made.
abbrev pub WritesTables : (status : ℕ) (before after : Edge) → Type 0
WritesTables status before after =
    WritesText tables_text status before after × ReadsNothing before after × MakesNothing before after

-- The input is a file that has the name of a side by this template.
abbrev pub IsASide : Source → (template : Text) → Type 0
IsASide Standard template = ⊥
IsASide (FileNamed name) template = IsSideName template name

-- Files of a stream that is itself one of them are asked for.
abbrev pub PrintsAFile : Arguments → Type 0
PrintsAFile arguments =
    (prefix : List ℕ) × (template : Text) × (arguments.made ≡ FilesBy prefix template) × IsASide arguments.source template

-- What is asked for was done with what the input had, by a row for each subcommand. Files are not made of a stream that is one of them (301),
-- and the tables take nothing of the input.
abbrev pub Makes : Source → Made → Inputs → (status : ℕ) (before after : Edge) → Type 0
Makes source (Listed prefix) inputs status before after = PrintingList false prefix status before after
Makes source (SummedOf prefix) inputs status before after = PrintingList true prefix status before after
Makes source (FilesBy prefix template) inputs status before after =
    (¬ (IsASide source template) × PrintingFiles prefix template status before after)
    ⊎ (IsASide source template × DoesNothing (sink_number SinkFault) status before after)
Makes source (Answered asked) inputs status before after = Playing asked inputs status before after
Makes source AsText inputs status before after = Disassembling status before after
Makes source (ExplainedOf prefix) inputs status before after = Behind prefix Explaining status before after
Makes source (DebuggedOf prefix name) inputs status before after = DebuggingFile prefix name inputs status before after
Makes source (TracedOf prefix) inputs status before after = Behind prefix (TracingBy Step) status before after
Makes source (RunsOf prefix) inputs status before after = Behind prefix (TracingBy Run) status before after
Makes source (PageTo prefix steps name) inputs status before after = Behind prefix (Paging steps name) status before after
Makes source (StreamTo name) inputs status before after = Assembling name status before after
Makes source (JobTo name images) inputs status before after = Writing name images inputs status before after
Makes source TablesTold inputs status before after = WritesTables status before after

-- A file that was opened is done with. Where it is not read on, the inputs say so; what was told, written and made is as it was, and so is
-- which of the other devices failed.
pub record IsDoneWith (within after : Edge) : Type 0 where
  pub told : after.told ≡ within.told
  pub written : after.written ≡ within.written
  pub made : after.made ≡ within.made
  pub cut : after.cut ≡ within.cut
  pub spoiled : after.spoiled ≡ within.spoiled
  pub input : (fails_of within).input → (fails_of after).file
  pub file : (fails_of within).file → (fails_of after).file

-- This holds of a file that may be one that can be opened: of what it has this was done, and then it was done with. Standard input stays. Or
-- the file may be one that cannot be opened, or memory ran out, and nothing was done.
abbrev pub OfFile : (name : Text) → Inputs → Promise → (status : ℕ) (before after : Edge) → Type 0
OfFile name inputs Holds status before after =
    (inputs.present name × ReadsNothing before after × (failed : Bool) × (reads : ℕ) × (within : Edge)
    × Holds status (opening (inputs.named name).bytes failed reads before) within × IsDoneWith within after)
    ⊎ ((inputs.named name).IsMissing × DoesNothing (Some read_fault) status before after)
    ⊎ DoesNothing None status before after

-- This holds of the input that is asked for: of standard input, or of a file.
abbrev pub OfInput : Source → Inputs → Promise → Promise
OfInput Standard inputs Holds = Holds
OfInput (FileNamed name) inputs Holds = OfFile name inputs Holds

-- What is asked for was done with its input.
abbrev pub Performs : Arguments → Inputs → Promise
Performs asked inputs = OfInput asked.source inputs (Makes asked.source asked.made inputs)

-- What became of a refusal, by the status that is wanted. 0, help: some text was written, or could not be. 1, memory ran out: that was
-- told, and nothing was written. 2, the words are refused: some text was told, and nothing was written. Which texts these are, and whether
-- they are empty, no clause says.
abbrev pub RefusesBy : (wanted status : ℕ) (before after : Edge) → Type 0
RefusesBy zero status before after = (text : List ℕ) × WritesText text status before after
RefusesBy (suc zero) status before after =
    (status ≡ 1) × WritesNothing before after × Tells before.told after.told (as_line (Some (fault_text None)))
RefusesBy (suc (suc more)) status before after =
    (status ≡ 2) × WritesNothing before after × Tells before.told after.told None

-- What became of words that ask for nothing: they are refused, or memory ran out; or they ask for help.
abbrev pub Refuses : List Text → (status : ℕ) (before after : Edge) → Type 0
Refuses words status before after =
    RefusesBy 2 status before after ⊎ RefusesBy 1 status before after ⊎ (AsksHelp words × RefusesBy 0 status before after)

-- The texts of words.
abbrev pub texts : {A : Type 0} → List (String A) → List Text
texts = map string_bytes

-- What was done for words: what they ask for, unless memory ran out; or, of words that ask for nothing, nothing was read or made, and why was
-- told, or help was written.
abbrev pub Runs : List Text → Inputs → (status : ℕ) (before after : Edge) → Type 0
Runs words inputs status before after =
    (arguments words ≡ None → Refuses words status before after × ReadsNothing before after × MakesNothing before after)
    × IfSome (arguments words) (λ asked. Performs asked inputs status before after ⊎ DoesNothing None status before after)
