-- What is done for words, and the inputs of names.
use Rattle.std.proofs.Common.{Bor, ◌≡◌, ◌⊎◌, ◌∙◌, ℕ, Bool, List, [], ◌∷◌, Option, Some, None, is_some, refl, sym, ap, subst, inl, inr, arith}
use Rattle.std.proofs.lemmas.Bool.{false≢true}
use Rattle.std.specs.Fmt.{option_append}
use Rattle.clap.specs.Words.{Text}
use Rattle.press_files.specs.Change.{Change, Changes}
use Rattle.press_files.specs.Edge.{Edge, Inputs, MakesNothing, Promise, ReadsNothing}
use Rattle.press_sink.specs.Faults.{sink_number}
use Rattle.press_sink.specs.Template.{IsSideName}
use Rattle.press_sink.specs.declared.fault.SinkError.{SinkError}
use Rattle.press_sink.specs.declared.fault.SinkError.TheVariants.{SinkFault, NoMemory}
use Rattle.press_files.specs.declared.inputs.InputError.{InputError}
use Rattle.press_files.specs.declared.inputs.InputError.TheVariants as input_fault
use Rattle.std.specs.Prelude.{Vec}
use Rattle.std.specs.declared.alloc.Global.{Global}
use Rattle.press_words.specs.declared.words.Input.{Input}
use Rattle.press_words.specs.declared.words.Input.TheVariants as sources
use Rattle.press_words.specs.declared.words.Output.TheVariants as makes
use Rattle.press_words.specs.declared.words.Request.{Request}
use Rattle.press_files.specs.Faults.{input_number}
use Rattle.press_devices.specs.Faults.{read_fault}
use Rattle.press_words.specs.View.{AsksHelp, IsForMemory, made_seen, source_seen, request_seen, status_of}
use Rattle.press_words.specs.declared.words.Refusal.{Refusal}
use Rattle.press_words.specs.declared.words.Refusal.TheVariants as refusals
use Rattle.press_words.specs.Defaults.{HoldsBehind, with_prefix}
use Rattle.press_words.specs.Words.{Source, Standard, FileNamed, FilesBy, Arguments, arguments}
use Rattle.press_files.specs.Files.{BeginsNothing, DoesNothing}
use Rattle.press_forms.specs.Debugging.{IsUnopened}
use Rattle.press_forms.specs.Ends.{Debugging}
use Rattle.press_forms.specs.declared.debugging.DebugError.{DebugError}
use Rattle.press_forms.specs.declared.debugging.DebugError.TheVariants as debugs
use Rattle.press_main.specs.Program.{IsASide, Makes, OfFile, OfInput, Performs, PrintsAFile, RefusesBy, Runs}

module _ (words : List Text) (inputs : Inputs) (status : ℕ) (before after : Edge) where
  -- nothing is done for want of memory
  pub runs-nothing : DoesNothing None status before after → Runs words inputs status before after
  runs-nothing nothing = grind arith

  -- what words ask for is done
  pub runs-asked : (asked : Arguments) → arguments words ≡ Some asked
      → Performs asked inputs status before after ⊎ DoesNothing None status before after
      → Runs words inputs status before after
  runs-asked asked is performs = (λ none. absurd (false≢true (ap is_some (sym none ∙ is))), rw is performs)

module _ (source : Source) (inputs : Inputs) (Holds : Promise) (status : ℕ) (before after : Edge) where
  -- of standard input
  pub of-standard : source ≡ Standard → Holds status before after → OfInput source inputs Holds status before after
  of-standard is holds = rw is holds

  -- or of a file
  pub of-file : (name : Text) → source ≡ FileNamed name → OfFile name inputs Holds status before after
      → OfInput source inputs Holds status before after
  of-file name is holds = rw is holds

-- files of a stream that is a file with the name of a side
pub prints-a-file : (request : Request) (name : Bor (List ℕ)) (prefix : Vec ℕ Global) (template : Bor (List ℕ))
    → request.input ≡ sources.File name → request.output ≡ makes.Files prefix template → IsSideName template.now name.now
    → PrintsAFile (request_seen request)
prints-a-file request name prefix template input output side =
    (prefix.items, template.now, ap made_seen output, subst (λ (one : Input). IsASide (source_seen one) template.now) (sym input) side)

-- what is no such file has no name of a side
pub is-no-side : (source : Source) (prefix : List ℕ) (template : Text)
    → ¬ (PrintsAFile (record { source = source; made = FilesBy prefix template })) → ¬ (IsASide source template)
is-no-side source prefix template none side = none (prefix, template, refl, side)

-- the fault of inputs that are not noted
pub makes-nothing : (error : SinkError) (asked : Arguments) (inputs : Inputs) (status : ℕ) (before after : Edge)
    → (error ≡ SinkFault → PrintsAFile asked) → DoesNothing (sink_number error) status before after
    → Makes asked.source asked.made inputs status before after ⊎ DoesNothing None status before after
makes-nothing SinkFault asked inputs status before after own nothing = grind arith
makes-nothing NoMemory asked inputs status before after own nothing = inr nothing

-- that of an input that is not opened
pub opens-nothing : (error : InputError) (missing : Type 0) (status : ℕ) (changes : Changes) → (error ≡ input_fault.ReadFault → missing)
    → BeginsNothing (input_number error) status changes
    → (missing × BeginsNothing (Some read_fault) status changes) ⊎ BeginsNothing None status changes
opens-nothing input_fault.ReadFault missing status changes own nothing = inl (own refl, nothing)
opens-nothing input_fault.NoMemory missing status changes own nothing = inr nothing

-- ---- bytes in front

-- it holds of bytes in front, of which none are left where none stood there
pub holds-behind : (prefix bytes : List ℕ) (had left : Option (List ℕ)) (Holds : Option (List ℕ) → Option (List ℕ) → Type 0)
    → (prefix ≡ [] → bytes ≡ []) → Holds (option_append (Some prefix) had) (option_append (Some bytes) left) → HoldsBehind prefix had left Holds
holds-behind prefix bytes had left Holds given holds = grind arith

-- whatever is left
pub behind-some : (prefix : List ℕ) (had left : Option (List ℕ)) (Holds : Option (List ℕ) → Option (List ℕ) → Type 0) → HoldsBehind prefix had left Holds
    → (rest : Option (List ℕ)) × Holds (with_prefix prefix had) rest
behind-some [] had left Holds holds = (left, holds)
behind-some (byte ∷ prefix) had left Holds holds = holds

-- ---- sessions with a debugger

-- the fault of a stream that is not opened
pub unopened : (error : InputError) (missing Fails : Type 0) → (error ≡ input_fault.ReadFault → missing)
    → IsUnopened missing Fails (debugs.Input error)
unopened error missing Fails own = grind arith

-- a stream that was opened, and then closed
pub debugging-closed : (missing Fails file : Type 0) (bytes : Change (Option (List ℕ))) (status : ℕ) (before after : Edge) → (Fails → file)
    → Debugging (record { bytes = bytes; Failed = Fails; IsMissing = ⊥ }) status before after
    → Debugging (record { bytes = bytes; Failed = file; IsMissing = missing }) status before after
debugging-closed missing Fails file bytes status before after closed h2 = grind arith

-- ---- words that are refused

-- what devices tell beside a reader
pub refuses-beside : (wanted status : ℕ) (had left : Option (List ℕ)) (failed fails : Bool) (reads more : ℕ) (before after : Edge)
    → RefusesBy wanted status before after
    → RefusesBy wanted status (record before { unread = had; failed = failed; reads = reads })
    (record after { unread = left; failed = fails; reads = more })
refuses-beside wanted status had left failed fails reads more before after by = grind arith

module _ (words : List Text) (inputs : Inputs) (status : ℕ) (before after : Edge) (unread : ReadsNothing before after) (unmade : MakesNothing before after) where
  -- words that are refused: nothing is read or made
  pub runs-refused : (refusal : Refusal) → IsForMemory refusal ⊎ (arguments words ≡ None) → (status_of refusal ≡ 0 → AsksHelp words)
      → RefusesBy (status_of refusal) status before after ⊎ RefusesBy 1 status before after → Runs words inputs status before after
  runs-refused refusal why help h3 = grind arith
