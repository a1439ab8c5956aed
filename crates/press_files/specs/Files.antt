-- Streams that are printed to files.
use Rattle.std.specs.Prelude.{◌≡◌, ◌⊎◌, ℕ, zero, suc, List, [], ◌∷◌, ◌++◌, Option, Some, None, refl}
use Rattle.std.specs.Coded.{Coded, code_by, coded×, coded_ℕ}
use Rattle.press_cmd.specs.Token.{Token}
use Rattle.press_cmd.specs.Split.{Closed}
use Rattle.press_bits.specs.PrintedSheet.{PrintedSheet, printed_sheet_code}
use Rattle.press_sink.specs.declared.delivery.Delivery.{Delivery}
use Rattle.press_sink.specs.SinkLog.{SheetLog, ReplyLog, logs, under}
use Rattle.press_sink.specs.Sending.{HandsOut, sheets_of, sheets_in}
use Rattle.press_sink.specs.Outputs.{MadeOutput, IsPrefix, with_outputs, sheet_outputs}
use Rattle.press_sink.specs.Template.{NameParts, IsTemplate, IsNoTemplate, number_after, side_count}
use Rattle.press_engine.specs.declared.machine.Machine.{Machine}
use Rattle.press_stream.specs.declared.fault.JobError.{JobError}
use Rattle.press_stream.specs.declared.fault.JobError.TheVariants.{ReadFault, SinkFault, ReplyFault}
use Rattle.press_stream.specs.Answers.{ending_by}
use Rattle.press_stream.specs.Meaning.{meaning_of, with_exit}
use Rattle.press_stream.specs.Printed.{Printed}
use Rattle.press_units.specs.Faults.{fault_text}
use Rattle.press_sink.specs.Faults.{template_number}
use Rattle.press_sink.specs.declared.fault.TemplateError.TheVariants.{BadTemplate}
use Rattle.press_files.specs.Causes.{Failures}
use Rattle.press_files.specs.Change.{Change, Changes, change}
use Rattle.press_files.specs.Edge.{Edge, between}
use Rattle.press_files.specs.Printing.{status_of_fault, TellsFault}
use Rattle.press_devices.specs.Telling.{Tells, as_line}

-- deliveries are stored as the pairs of their tags and sheets
abbrev pub delivery_code : Coded Delivery
delivery_code =
    code_by (ℕ × PrintedSheet) (coded× coded_ℕ printed_sheet_code)
    (λ delivery. (delivery.tag, delivery.sheet))
    (λ parts. record { tag = parts.0; sheet = parts.1 })
    (λ _. refl)

-- what a writer tells as a reply sink: the bytes that it holds, and so many replies that failed
abbrev pub replies_written : Option (List ℕ) → ℕ → ReplyLog
replies_written contents faults = record { replied = contents; faults = faults }

-- A stream of these bytes and of what a reader had behind them was printed to a sheet sink under tag 0, and its replies were written: so much
-- of it went out, by the error that there was or was not, and the status is 0 exactly where there was none. Then the writer took all the
-- replies, and nothing else. The error is what was told. 304 comes only where the reader is not read on, and 302 where the writer failed.
pub record PrintsTo (fails : Failures) (status : ℕ) (front : List ℕ) (told read : Change (Option (List ℕ)))
    (sheets : Change SheetLog) (written : Change (Option (List ℕ))) : Type 0 where
  pub error : Option JobError
  pub machine : Option Machine
  pub faults : ℕ
  pub printed : HandsOut (ending_by error) (Printed front read.before read.after error machine)
      (under 0 (logs sheets.before (replies_written written.before 0)) (logs sheets.after (replies_written written.after faults)))
  pub answers : status ≡ status_of_fault error
  pub tells : TellsFault error told.before told.after
  pub reads : error ≡ Some ReadFault → fails.input
  pub replies : error ≡ Some ReplyFault → fails.output

-- The outputs of sheets in their order, the first front of which has this number.
abbrev pub sheets_outputs : NameParts → ℕ → List PrintedSheet → List MadeOutput
sheets_outputs parts number [] = []
sheets_outputs parts number (sheet ∷ sheets) = sheet_outputs parts number sheet ++ sheets_outputs parts (number_after (side_count sheet) number) sheets

-- the number of the side behind these sheets, the first front of which has this number
abbrev pub number_behind : ℕ → List PrintedSheet → ℕ
number_behind number [] = number
number_behind number (sheet ∷ sheets) = number_behind (number_after (side_count sheet) number) sheets

-- What stands behind the outputs of sheets that a sink took, by its faults: nothing; or a prefix of the outputs of one sheet more,
-- whose front has this number.
abbrev pub ComesBehind : (faults : ℕ) → List MadeOutput → NameParts → ℕ → Type 0
ComesBehind zero behind parts number = behind ≡ []
ComesBehind (suc faults) behind parts number = (sheet : PrintedSheet) × IsPrefix behind (sheet_outputs parts number sheet)

-- What was made of the sheets that a sink took, numbered from 1: the outputs of all of them, and nothing else, but for a prefix of
-- those of the sheet at which it had a fault.
pub record MakesSheets (parts : NameParts) (sheets : List PrintedSheet) (faults : ℕ) (before after : Option (List MadeOutput)) : Type 0 where
  pub behind : List MadeOutput
  pub comes : ComesBehind faults behind parts (number_behind 1 sheets)
  pub made : after ≡ with_outputs (sheets_outputs parts 1 sheets ++ behind) before

-- what a sink of files tells that took these sheets
abbrev pub files_told : List Delivery → ℕ → SheetLog
files_told deliveries faults = record { delivered = Some deliveries; faults = faults }

-- Such a stream was printed to a sink of files by a template of these parts, which took nothing before. What it took was made, and where it had
-- a fault perhaps a front of one sheet more. 301 comes only where outputs failed.
pub record PrintsBy (parts : NameParts) (front : List ℕ) (status : ℕ) (changes : Changes) : Type 0 where
  pub deliveries : List Delivery
  pub faults : ℕ
  pub prints : PrintsTo changes.fails status front changes.told changes.read (change (files_told [] 0) (files_told deliveries faults)) changes.written
  pub outputs : prints.error ≡ Some SinkFault → changes.fails.outputs
  pub makes : ∥ MakesSheets parts (sheets_in deliveries) faults changes.made.before changes.made.after ∥₁

-- The files of a stream of these bytes were made by a template, and nothing else: the sides of the sheets that its meaning delivers,
-- in order, each under the name with its number, and each the P4 file of its page.
pub record MakesFiles (template : List ℕ) (bytes : List ℕ) (before after : Option (List MadeOutput)) : Type 0 where
  pub parts : NameParts
  pub is_template : IsTemplate template parts
  pub commands : List Token
  pub closed : Closed bytes commands
  pub made : after ≡ with_outputs (sheets_outputs parts 1 (sheets_of (meaning_of (with_exit commands)).outputs)) before

-- Nothing was read, nothing was written or made, the status is 1, and this fault was told, or that memory ran out; and the same of edges.
pub record BeginsNothing (number : Option ℕ) (status : ℕ) (changes : Changes) : Type 0 where
  pub answers : status ≡ 1
  pub told : Tells changes.told.before changes.told.after (as_line (Some (fault_text number)))
  pub unread : changes.read.after ≡ changes.read.before
  pub unwritten : changes.written.after ≡ changes.written.before
  pub unmade : changes.made.after ≡ changes.made.before

abbrev pub DoesNothing : (number : Option ℕ) (status : ℕ) (before after : Edge) → Type 0
DoesNothing number status before after = BeginsNothing number status (between before after)

-- A stream was printed to files by a text that is a template; or nothing was begun of it: the text is none, or memory ran out.
abbrev pub PrintsFiles : (front template : List ℕ) (status : ℕ) (changes : Changes) → Type 0
PrintsFiles front template status changes =
    ((parts : NameParts) × IsTemplate template parts × PrintsBy parts front status changes)
    ⊎ (IsNoTemplate template × BeginsNothing (template_number BadTemplate) status changes)
    ⊎ BeginsNothing None status changes
