-- What the words of the command line ask for.
use Rattle.std.specs.Prelude.{ℕ, List, [], ◌∷◌, Option, Some, None, Bool, true, false, codes, option_map, option_and_then, unwrap_or, if◌then◌else◌}
use Rattle.std.specs.List.{find, list_all}
use Rattle.std.specs.Option.{option_map_or}
use Rattle.std.specs.Str.{bytes_eq}
use Rattle.clap.specs.Words.{App, Row, Rule, Text, new_app, new_rule, with_rule, with_subcommand, subcommand_of, first_of, all_of, fault_of}
use Rattle.press_pjl.specs.Variables.{is_assignment}
use Rattle.press_words.specs.Defaults.{prefix_of}
use Rattle.press_words.specs.Lines.{number_word}
use Rattle.press_words.specs.declared.subcommands.Subcommand.{Subcommand}
use Rattle.press_words.specs.declared.subcommands.Subcommand.TheVariants.{Print, Asm, Disasm, Explain, Debug, Trace, Page, Write, Press, Tables}
use Rattle.clap.specs.declared.builder.action.ArgAction.TheVariants.{Append, SetTrue}

-- Where an input is read: from standard input, or from the file of this name.
pub data Source : Type 0 where
  Standard : Source
  FileNamed : Text → Source

-- What a session is asked for, beside its lines: how many engines its press has; by which template each side that is delivered is made a file,
-- if it is; whether the listing has digests; and whether the session goes on behind a line that is wrong.
pub record SessionAsked : Type 0 where
  pub engines : ℕ
  pub template : Option Text
  pub sums : Bool
  pub goes_on : Bool

-- What is made of an input. A prefix is bytes that stand in front of the stream.
-- Listed: the listing of a stream. SummedOf: the same with a digest of each side. FilesBy: the files of a stream, named by a template. AsText: the assembly text of a stream. ExplainedOf: the same, explained command by command. TracedOf:
-- the trace of a stream. RunsOf: the same, with a line for each run of steps that do no more than count. PageTo: the file of this name, of the page that is open behind so many steps of a stream. DebuggedOf: a
-- debugger's answers to lines, over the stream of this file. Answered: the answers of a press that is asked for so to lines of events, the
-- files of the sides that it delivers, where they are asked for, and their listing. StreamTo: the file of this name, of an assembly text. JobTo: the file of this name, the job of a
-- ticket with the images of these files. TablesTold: the program's own tables, of no input.
pub data Made : Type 0 where
  Listed : (prefix : List ℕ) → Made
  SummedOf : (prefix : List ℕ) → Made
  FilesBy : (prefix : List ℕ) (template : Text) → Made
  Answered : SessionAsked → Made
  AsText : Made
  ExplainedOf : (prefix : List ℕ) → Made
  DebuggedOf : (prefix : List ℕ) (name : Text) → Made
  TracedOf : (prefix : List ℕ) → Made
  RunsOf : (prefix : List ℕ) → Made
  PageTo : (prefix : List ℕ) (steps : ℕ) (name : Text) → Made
  StreamTo : Text → Made
  JobTo : (name : Text) (images : List Text) → Made
  TablesTold : Made

-- What the program is asked to do.
pub record Arguments : Type 0 where
  pub source : Source
  pub made : Made

-- The option of a default, which may stand more than once.
abbrev pub default_rule : Rule
default_rule = record (new_rule (codes "default")) { long = Some (codes "default"); action = Some Append; value_names = 1 }

-- The words of `print`: the flag of a listing, that of one with digests, any number of defaults, the input, and the template.
abbrev pub list_rule : Rule
list_rule = record (new_rule (codes "list")) { long = Some (codes "list"); action = Some SetTrue }

abbrev pub sums_rule : Rule
sums_rule = record (new_rule (codes "sums")) { long = Some (codes "sums"); action = Some SetTrue }

abbrev pub needed_rule : Text → Rule
needed_rule id = record (new_rule id) { required = true }

abbrev pub print_app : App
print_app = with_rule (with_rule (with_rule (with_rule (with_rule (new_app (codes "print")) list_rule) sums_rule) default_rule) (needed_rule (codes "IN"))) (new_rule (codes "OUT"))

-- The words of `asm`: the input and the output.
abbrev pub asm_app : App
asm_app = with_rule (with_rule (new_app (codes "asm")) (needed_rule (codes "IN"))) (needed_rule (codes "OUT"))

-- The word of `disasm`: the input.
abbrev pub disasm_app : App
disasm_app = with_rule (new_app (codes "disasm")) (needed_rule (codes "IN"))

-- The words of `explain`: any number of defaults, and the input.
abbrev pub explain_app : App
explain_app = with_rule (with_rule (new_app (codes "explain")) default_rule) (needed_rule (codes "IN"))

-- The words of `debug`: any number of defaults, and the input.
abbrev pub debug_app : App
debug_app = with_rule (with_rule (new_app (codes "debug")) default_rule) (needed_rule (codes "IN"))

-- The words of `trace`: the flag of runs, any number of defaults, and the input.
abbrev pub runs_rule : Rule
runs_rule = record (new_rule (codes "runs")) { long = Some (codes "runs"); action = Some SetTrue }

abbrev pub trace_app : App
trace_app = with_rule (with_rule (with_rule (new_app (codes "trace")) runs_rule) default_rule) (needed_rule (codes "IN"))

-- The words of `page`: any number of defaults, the input, how many steps, and the output.
abbrev pub page_app : App
page_app =
    with_rule (with_rule (with_rule (with_rule (new_app (codes "page")) default_rule) (needed_rule (codes "IN"))) (needed_rule (codes "K")))
    (needed_rule (codes "OUT"))

-- The words of `write`: the ticket, the output, and any number of images.
abbrev pub images_rule : Rule
images_rule = record (new_rule (codes "IMG")) { action = Some Append }

abbrev pub write_app : App
write_app = with_rule (with_rule (with_rule (new_app (codes "write")) (needed_rule (codes "TICKET"))) (needed_rule (codes "OUT"))) images_rule

-- The words of `press`: how many engines it has, the template of files, the flag of digests, and that by which it goes on.
abbrev pub engines_rule : Rule
engines_rule = record (new_rule (codes "engines")) { long = Some (codes "engines"); value_names = 1 }

abbrev pub pages_rule : Rule
pages_rule = record (new_rule (codes "out")) { long = Some (codes "out"); value_names = 1 }

abbrev pub keep_going_rule : Rule
keep_going_rule = record (new_rule (codes "keep-going")) { long = Some (codes "keep-going"); action = Some SetTrue }

abbrev pub playing_app : App
playing_app = with_rule (with_rule (new_app (codes "press")) engines_rule) pages_rule

abbrev pub session_app : App
session_app = with_rule (with_rule playing_app sums_rule) keep_going_rule

-- `tables` has no words.
abbrev pub tables_app : App
tables_app = new_app (codes "tables")

-- The program without its subcommands: it has a version.
abbrev pub program_app : App
program_app = record { top = record (new_app (codes "press")).top { has_version = true }; subs = [] }

-- a flag is set where its value is `true`
abbrev pub is_set : Text → List Row → Bool
is_set flag rows = option_map_or (λ value. bytes_eq value (codes "true")) (first_of flag rows) false

-- `-` is standard input
abbrev pub source_of : Text → Source
source_of name = if bytes_eq name (codes "-") then Standard else FileNamed name

-- the defaults, in the order of the words
abbrev pub defaults_of : List Row → List Text
defaults_of rows = unwrap_or (all_of (codes "default") rows) []

-- what stands in front of the stream, where each default is one of the job language
abbrev pub prefix_in : List Row → Option (List ℕ)
prefix_in rows = if list_all is_assignment (defaults_of rows) then Some (prefix_of (defaults_of rows)) else None

-- with a flag a listing, with digests where those are asked for, whatever the template; without one there has to be a template
abbrev pub made_behind : List Row → (prefix : List ℕ) → Option Made
made_behind rows prefix =
    if is_set (codes "sums") rows then Some (SummedOf prefix) else if is_set (codes "list") rows then Some (Listed prefix) else option_map (FilesBy prefix) (first_of (codes "OUT") rows)

abbrev pub made_of : List Row → Option Made
made_of rows = option_and_then (made_behind rows) (prefix_in rows)

-- the images that `write` names, in the order of the words
abbrev pub images_of : List Row → List Text
images_of rows = unwrap_or (all_of (codes "IMG") rows) []

-- a file that is made has a name, and `-` is none
abbrev pub made_named : Text → Option Text
made_named name = if bytes_eq name (codes "-") then None else Some name

abbrev pub made_in : List Row → Option Text
made_in rows = option_and_then made_named (first_of (codes "OUT") rows)

-- what the values of the words of `write` ask for: the ticket is a file, whatever its name
abbrev pub job_arguments : List Row → Option Arguments
job_arguments rows =
    option_and_then (λ ticket. option_map (λ name. record { source = FileNamed ticket; made = JobTo name (images_of rows) }) (made_in rows)) (first_of (codes "TICKET") rows)

-- what the values of the words of `print`, of `asm` and of `disasm` ask for
abbrev pub print_arguments : List Row → Option Arguments
print_arguments rows =
    option_and_then (λ name. option_map (λ made. record { source = source_of name; made = made }) (made_of rows)) (first_of (codes "IN") rows)

abbrev pub asm_arguments : List Row → Option Arguments
asm_arguments rows =
    option_and_then (λ name. option_map (λ made. record { source = source_of name; made = StreamTo made }) (made_in rows)) (first_of (codes "IN") rows)

abbrev pub disasm_arguments : List Row → Option Arguments
disasm_arguments rows = option_map (λ name. record { source = source_of name; made = AsText }) (first_of (codes "IN") rows)

-- what `explain` asks for
abbrev pub explain_arguments : List Row → Option Arguments
explain_arguments rows =
    option_and_then (λ prefix. option_map (λ name. record { source = source_of name; made = ExplainedOf prefix }) (first_of (codes "IN") rows))
    (prefix_in rows)

-- what `debug` asks for: the lines stand on standard input, so the stream stands in a file
abbrev pub debug_of : (prefix : List ℕ) → Text → Option Arguments
debug_of prefix name = if bytes_eq name (codes "-") then None else Some (record { source = Standard; made = DebuggedOf prefix name })

abbrev pub debug_arguments : List Row → Option Arguments
debug_arguments rows = option_and_then (λ prefix. option_and_then (debug_of prefix) (first_of (codes "IN") rows)) (prefix_in rows)

-- what `trace` asks for
abbrev pub traced_as : (runs : Bool) → (prefix : List ℕ) → Made
traced_as runs prefix = if runs then RunsOf prefix else TracedOf prefix

abbrev pub trace_arguments : List Row → Option Arguments
trace_arguments rows =
    option_and_then (λ prefix. option_map (λ name. record { source = source_of name; made = traced_as (is_set (codes "runs") rows) prefix })
    (first_of (codes "IN") rows)) (prefix_in rows)

-- what `page` asks for: the steps are a number, and the page is made a file
abbrev pub steps_in : List Row → Option ℕ
steps_in rows = option_and_then number_word (first_of (codes "K") rows)

abbrev pub page_to : (prefix : List ℕ) (steps : ℕ) → List Row → Option Arguments
page_to prefix steps rows =
    option_and_then (λ source. option_map (λ name. record { source = source_of source; made = PageTo prefix steps name }) (made_in rows))
    (first_of (codes "IN") rows)

abbrev pub page_arguments : List Row → Option Arguments
page_arguments rows = option_and_then (λ prefix. option_and_then (λ steps. page_to prefix steps rows) (steps_in rows)) (prefix_in rows)

-- how many engines `press` asks for: one where nothing is said of them
abbrev pub engines_of : List Row → Option ℕ
engines_of rows = option_map_or number_word (first_of (codes "engines") rows) (Some 1)

-- what `press` asks a session for
abbrev pub session_of : List Row → Option SessionAsked
session_of rows =
    option_map (λ engines. record {
      engines = engines;
      template = first_of (codes "out") rows;
      sums = is_set (codes "sums") rows;
      goes_on = is_set (codes "keep-going") rows;
    }) (engines_of rows)

-- what `press` asks for: the events stand on standard input
abbrev pub session_arguments : List Row → Option Arguments
session_arguments rows = option_map (λ session. record { source = Standard; made = Answered session }) (session_of rows)

-- what `tables` asks for: nothing is read
abbrev pub tables_arguments : List Row → Option Arguments
tables_arguments rows = Some (record { source = Standard; made = TablesTold })

-- A line of the table of subcommands: its words, its line of help, and what the values of its words ask for.
pub record Usage : Type 0 where
  pub words : App
  pub about : Text
  pub asks : List Row → Option Arguments

abbrev pub usage : (words : App) (about : Text) (asks : List Row → Option Arguments) → Usage
usage words about asks = record { words = words; about = about; asks = asks }

-- The table of subcommands.
abbrev pub subcommands : List Subcommand
subcommands = Print ∷ Asm ∷ Disasm ∷ Explain ∷ Debug ∷ Trace ∷ Page ∷ Write ∷ Press ∷ Tables ∷ []

abbrev pub usage_of : Subcommand → Usage
usage_of Print =
    usage print_app (codes "Prints a stream to a P4 file (raw PBM) for each side, or lists its sheets") print_arguments
usage_of Asm = usage asm_app (codes "Makes a print stream from assembly text, a line for each command") asm_arguments
usage_of Disasm =
    usage disasm_app (codes "Writes a stream as assembly text, a line for each command, to standard output") disasm_arguments
usage_of Explain =
    usage explain_app (codes "Writes a stream as assembly text, and in front of each command what it is and does") explain_arguments
usage_of Debug = usage debug_app (codes "Steps through a stream, as the lines on standard input ask") debug_arguments
usage_of Trace = usage trace_app (codes "Tells what a stream does, step by step, in a line of JSON for each") trace_arguments
usage_of Page =
    usage page_app (codes "Makes a P4 file (raw PBM) of the page that is open behind so many steps of a stream") page_arguments
usage_of Write = usage write_app (codes "Makes a print stream from a job ticket and the images of its pages") job_arguments
usage_of Press =
    usage session_app (codes "Plays a session with a press that has a queue, by the lines on standard input") session_arguments
usage_of Tables = usage tables_app (codes "Writes what the program has tables of, as JSON: a row in a line") tables_arguments

-- the name of a subcommand, and the subcommand of a name
abbrev pub name_of : Subcommand → Text
name_of subcommand = (usage_of subcommand).words.top.name

abbrev pub subcommand_named : Text → Option Subcommand
subcommand_named name = find (λ subcommand. bytes_eq name (name_of subcommand)) subcommands

-- what the values of the words of a subcommand ask for, and of that of a name
abbrev pub arguments_of : Subcommand → List Row → Option Arguments
arguments_of subcommand = (usage_of subcommand).asks

abbrev pub arguments_by : Text → List Row → Option Arguments
arguments_by name rows = option_and_then (λ subcommand. arguments_of subcommand rows) (subcommand_named name)

-- The command line: the program with the words of each line of the table.
abbrev pub with_subcommands : App → List Subcommand → App
with_subcommands app [] = app
with_subcommands app (one ∷ more) = with_subcommands (with_subcommand app (usage_of one).words.top) more

abbrev pub press_app : App
press_app = with_subcommands program_app subcommands

-- what words ask for in which the command line finds these faults
abbrev pub arguments_without : {K : Type 0} → List K → List Text → Option Arguments
arguments_without [] words = option_and_then (λ found. arguments_by found.0 found.1) (subcommand_of press_app words)
arguments_without (fault ∷ faults) words = None

-- What words ask for, the program's name among them: without any, the listing of standard input; nothing where they are
-- refused.
abbrev pub arguments : List Text → Option Arguments
arguments [] = Some (record { source = Standard; made = Listed [] })
arguments (program ∷ []) = Some (record { source = Standard; made = Listed [] })
arguments (program ∷ word ∷ words) = arguments_without (fault_of press_app (program ∷ word ∷ words)) (program ∷ word ∷ words)
