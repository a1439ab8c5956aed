-- What is made of sheets that are printed to files.
use Rattle.std.proofs.Common.{◌≡◌, ◌⊎◌, ◌≢◌, ◌∙◌, ◌+◌, ℕ, zero, List, [], ◌∷◌, ◌++◌}
use Rattle.std.proofs.Common.{Option, Some, None, Err, IfSome, refl, subst, inl, inr, arith}
use Rattle.press_files.specs.Causes.{Failures, failures}
use Rattle.press_files.specs.Change.{Changes, around, change}
use Rattle.std.proofs.lemmas.List.{append-nil, map-append}
use Rattle.std.specs.Coded.{Coded, Coded-set, code_by, coded×, coded_list, coded_option, coded_ℕ}
use mathlib.Core.Logic.{∥∥₁_elim}
use Rattle.press_bits.specs.PrintedSheet.{PrintedSheet}
use Rattle.press_sink.specs.declared.fault.SinkError.{SinkError}
use Rattle.press_sink.specs.declared.fault.SinkError.TheVariants.{SinkFault}
use Rattle.press_sink.specs.declared.delivery.Delivery.{Delivery}
use Rattle.press_sink.specs.Sending.{Output, HandsOut, sheets_in}
use Rattle.press_sink.specs.Outputs.{MadeOutput, MakesPrefix, MakesOutputs, IsPrefix, with_outputs, sheet_outputs}
use Rattle.press_sink.specs.Template.{NameParts, IsTemplate, IsNoTemplate, number_after, side_count}
use Rattle.press_sink.specs.Faults.{template_number}
use Rattle.press_sink.specs.declared.fault.TemplateError.{TemplateError}
use Rattle.press_sink.specs.declared.fault.TemplateError.TheVariants as template_fault
use Rattle.press_sink.specs.declared.fault.TemplateError.TheVariants.{BadTemplate}
use Rattle.press_sink.proofs.SendingLemmas.{sheets_in-tagged, told-twice}
use Rattle.press_engine.specs.declared.machine.Machine.{Machine}
use Rattle.press_stream.specs.declared.fault.JobError.{JobError}
use Rattle.press_stream.specs.declared.fault.JobError.TheVariants as errors
use Rattle.press_stream.specs.Answers.{ending_by}
use Rattle.press_sink.specs.SinkLog.{SinkLog, under}
use Rattle.press_stream.specs.Printed.{Printed}
use Rattle.press_files.specs.Files.{PrintsTo, PrintsBy, MakesFiles, files_told, BeginsNothing}
use Rattle.press_files.specs.Files.{MakesSheets, sheets_outputs, number_behind}
use Rattle.press_files.specs.Folders.{FolderState, KeepsFolder}
use Rattle.press_files.proofs.ListingLemmas.{read_all}

-- what was made is stored as a list of pairs
pub made_code : Coded (Option (List MadeOutput))
made_code =
    coded_option (coded_list (code_by (List ℕ × Option (List ℕ)) (coded× (coded_list coded_ℕ) (coded_option (coded_list coded_ℕ)))
    (λ output. (output.name, output.holds)) (λ parts. record { name = parts.0; holds = parts.1 }) (λ _. refl)))

-- the outputs of one sheet more
sheets_outputs-push : (parts : NameParts) (number : ℕ) (sheets : List PrintedSheet) (sheet : PrintedSheet)
    → sheets_outputs parts number (sheets ++ sheet ∷ [])
    ≡ sheets_outputs parts number sheets ++ sheet_outputs parts (number_behind number sheets) sheet
sheets_outputs-push parts number [] sheet = append-nil (sheet_outputs parts number sheet)
sheets_outputs-push parts number (first ∷ sheets) sheet =
    grind (arith, sheets_outputs-push parts (number_after (side_count first) number) sheets sheet)

number_behind-push : (number : ℕ) (sheets : List PrintedSheet) (sheet : PrintedSheet)
    → number_behind number (sheets ++ sheet ∷ []) ≡ number_after (side_count sheet) (number_behind number sheets)
number_behind-push number [] sheet = refl
number_behind-push number (first ∷ sheets) sheet = number_behind-push (number_after (side_count first) number) sheets sheet

-- Before the first fault what was made is the outputs of the sheets, whatever is made behind them, and the next sheet has the next number.
keeps_made : (parts : NameParts) (begun : Option (List MadeOutput)) (sheets : List PrintedSheet) (sheet : PrintedSheet) (old : FolderState) (more : List MadeOutput)
    → KeepsFolder parts begun sheets 0 old
    → (sheet_outputs old.names old.number sheet ≡ sheet_outputs parts (number_behind 1 sheets) sheet)
    × (with_outputs more old.made ≡ with_outputs (sheets_outputs parts 1 sheets ++ more) begun)
keeps_made parts begun sheets sheet old more keeps = grind (arith, append-nil, told-twice begun (sheets_outputs parts 1 sheets) more)

-- a sheet was delivered
pub KeepsFolder-next : (parts : NameParts) (begun : Option (List MadeOutput)) (faults : ℕ) (taken taken' : List Delivery) (one : Delivery) (old new : FolderState)
    → faults ≡ 0 → taken' ≡ taken ++ one ∷ [] → KeepsFolder parts begun (sheets_in taken) faults old
    → new.names ≡ old.names → new.made ≡ with_outputs (sheet_outputs old.names old.number one.sheet) old.made
    → new.number ≡ number_after (side_count one.sheet) old.number → new.own ≡ old.own → KeepsFolder parts begun (sheets_in taken') faults new
KeepsFolder-next parts begun faults taken taken' one old new none is keeps same made next faultless =
    let more = sheet_outputs parts (number_behind 1 (sheets_in taken)) one.sheet in
    grind (arith, keeps_made parts begun (sheets_in taken) one.sheet old more, map-append, append-nil, sheets_outputs-push, number_behind-push)

-- a sheet had a fault, the first one
pub KeepsFolder-failed : (parts : NameParts) (begun : Option (List MadeOutput)) (sheets : List PrintedSheet) (faults : ℕ) (sheet : PrintedSheet) (old new : FolderState)
    → faults ≡ 0 → KeepsFolder parts begun sheets faults old → new.names ≡ old.names
    → MakesPrefix (sheet_outputs old.names old.number sheet) old.made new.made → KeepsFolder parts begun sheets (faults + 1) new
KeepsFolder-failed parts begun sheets faults sheet old new none keeps same front =
    let made = keeps_made parts begun sheets sheet old front.0 (rw none at keeps) in
    record {
      named = same ∙ keeps.named;
      makes = rw none (record { behind = front.0; comes = (sheet, subst (λ (outputs : List MadeOutput). IsPrefix front.0 outputs) made.0 front.1); made = front.2 ∙ made.1 });
      numbered = λ zero. absurd (omega (arith, zero));
      sound = λ zero. absurd (omega (arith, zero));
    }

-- nothing more was made after a fault
pub KeepsFolder-again : (parts : NameParts) (begun : Option (List MadeOutput)) (sheets : List PrintedSheet) (faults : ℕ) (now : FolderState)
    → (faults ≡ 0 → ⊥) → KeepsFolder parts begun sheets faults now → KeepsFolder parts begun sheets (faults + 1) now
KeepsFolder-again parts begun sheets faults now some keeps = grind arith

-- what a fault leaves
pub fault_made : (error : SinkError) (outputs : List MadeOutput) (old new : Option (List MadeOutput)) → error ≡ SinkFault
    → MakesOutputs (Err error) outputs old new → MakesPrefix outputs old new
fault_made error outputs old new fault made = subst (λ (one : SinkError). MakesOutputs (Err one) outputs old new) fault made

-- without a fault the outputs are those of the sheets
made_of : (parts : NameParts) (sheets : List PrintedSheet) (faults : ℕ) (before after : Option (List MadeOutput)) → faults ≡ 0
    → ∥ MakesSheets parts sheets faults before after ∥₁ → after ≡ with_outputs (sheets_outputs parts 1 sheets) before
made_of parts sheets faults before after none makes =
    ∥∥₁_elim makes (Coded-set made_code after (with_outputs (sheets_outputs parts 1 sheets) before)) (λ one. made_here one)
  where
    made_here : MakesSheets parts sheets faults before after → after ≡ with_outputs (sheets_outputs parts 1 sheets) before
    made_here one = grind (arith, append-nil)

-- the files of a stream that had no fault
pub makes_files : (template front : List ℕ) (parts : NameParts) (status : ℕ) (fails : Failures) (said says known left old new : Option (List ℕ))
    (before after : Option (List MadeOutput))
    → IsTemplate template parts → PrintsBy parts front status (around fails said says known left old new before after) → status ≡ 0
    → IfSome known (λ bytes. MakesFiles template (front ++ bytes) before after)
makes_files template front parts status fails said says known left old new before after is_template prints zero_ =
    grind (arith, sheets_in-tagged, read_all, made_of)

-- why nothing was begun of a text
pub prints-no-files : (error : TemplateError) (template : List ℕ) (status : ℕ) (changes : Changes) → (error ≡ BadTemplate → IsNoTemplate template)
    → BeginsNothing (template_number error) status changes
    → (IsNoTemplate template × BeginsNothing (template_number BadTemplate) status changes) ⊎ BeginsNothing None status changes
prints-no-files BadTemplate template status changes bad nothing = inl (bad refl, nothing)
prints-no-files template_fault.NoMemory template status changes bad nothing = inr nothing

-- where a stream ended at a sheet, its sink had one fault more
sheet-fault : (front : List ℕ) (had left : Option (List ℕ)) (error : Option JobError) (machine : Option Machine) (before after : SinkLog)
    → HandsOut (ending_by error) (Printed front had left error machine) (under 0 before after) → error ≡ Some errors.SinkFault
    → after.sheets.faults ≡ before.sheets.faults + 1
sheet-fault front had left error machine before after hands is = grind arith

-- a stream that was printed to a sink of files, which took nothing before
pub prints-by : (parts : NameParts) (front : List ℕ) (status : ℕ) (Input Output Outputs Other : Type 0) (said says had left old new : Option (List ℕ))
    (before after : Option (List MadeOutput)) (first taken : List Delivery) (begun faults : ℕ)
    → first ≡ [] → begun ≡ 0
    → PrintsTo (failures Input ⊥ Output Other) status front (change said says) (change had left)
    (change (files_told first begun) (files_told taken faults)) (change old new)
    → ∥ MakesSheets parts (sheets_in taken) faults before after ∥₁ → (faults ≢ 0 → Outputs)
    → PrintsBy parts front status (around (failures Input ⊥ Output Outputs) said says had left old new before after)
prints-by parts front status Input Output Outputs Other said says had left old new _ _ first taken begun faults none sound prints makes cause =
    let all = rw (none, sound) at prints in
    record {
      deliveries = taken;
      faults = faults;
      prints = record {
        error = all.error;
        machine = all.machine;
        faults = all.faults;
        printed = all.printed;
        answers = all.answers;
        tells = all.tells;
        reads = all.reads;
        replies = all.replies;
      };
      outputs = λ is.
          let faulted = sheet-fault front had left all.error all.machine _ _ all.printed is in
          cause (λ zero. omega (arith, zero, faulted));
      makes = makes;
    }
