-- Outputs that are made one after another.
use Rattle.std.proofs.Common.{◌≡◌, ◌∙◌, ℕ, ◌-◌, List, [], ◌∷◌, ◌++◌, length, Option, Some, option_map, Result, Ok}
use Rattle.std.proofs.Common.{Err, OnOk, IfErr, IsErrAnd, is_err, false, refl, ap, arith, slice_set, slice_index_or}
use Rattle.std.proofs.lemmas.List.{append_assoc, append-nil}
use Rattle.std.specs.Io.KnownBytes.{Appends}
use Rattle.press_bits.specs.Page.{Page}
use Rattle.press_devices.specs.Writing.{AppendsPrefix}
use Rattle.press_sink.proofs.SendingLemmas.{told-twice}
use Rattle.press_sink.specs.declared.fault.SinkError.{SinkError}
use Rattle.press_sink.specs.declared.fault.SinkError.TheVariants.{SinkFault, NoMemory}
use Rattle.press_sink.specs.declared.list_outputs.ListedOutput.{ListedOutput}
use Rattle.press_sink.specs.Kept.{output_of, outputs_in}
use Rattle.press_sink.specs.Outputs.{MadeOutput, opened, holding, with_outputs, last_holds, HoldsPrefix, GivesUp, Closes}
use Rattle.press_sink.specs.Outputs.{IsPrefix, MakesPrefix, MakesOutputs, side_output, sheet_outputs}
use Rattle.press_bits.specs.PrintedSheet.{PrintedSheet}
use Rattle.press_sink.specs.Template.{NameParts, number_after}

-- the output behind others is the last
last_holds-append : (bytes : Option (List ℕ)) (all : List MadeOutput) (one : MadeOutput) → last_holds bytes (all ++ one ∷ []) ≡ all ++ record one { holds = bytes } ∷ []
last_holds-append bytes [] one = refl
last_holds-append bytes (first ∷ []) one = refl
last_holds-append bytes (first ∷ next ∷ others) one = ap (λ (all : List MadeOutput). first ∷ all) (last_holds-append bytes (next ∷ others) one)

-- an output was opened, and then closed
closed : (text name : List ℕ) (bytes : Option (List ℕ)) (old between new : Option (List MadeOutput)) → text ≡ name
    → between ≡ with_outputs (opened text ∷ []) old → new ≡ option_map (last_holds bytes) between
    → new ≡ with_outputs (record { name = name; holds = bytes } ∷ []) old
closed text name bytes old between new is opens closes = grind (arith, last_holds-append)

-- a prefix of the bytes was written to an output that was empty, and it holds a prefix of that
holds_prefix : (name file : List ℕ) (first last holds : Option (List ℕ)) (old new : Option (List MadeOutput))
    → first ≡ option_map (λ _. []) old → AppendsPrefix first last file → HoldsPrefix holds last
    → new ≡ with_outputs (record { name = name; holds = holds } ∷ []) old → MakesPrefix (holding name file ∷ []) old new
holds_prefix name file first last holds old new empty appends held made = grind (arith, append_assoc)

-- an output was made, written to, and closed
pub made_whole : {X E : Type 0}
    → (result : Result X E) (text name file : List ℕ) (first last : Option (List ℕ)) (old between new : Option (List MadeOutput))
    → is_err result ≡ false → text ≡ name → between ≡ with_outputs (opened text ∷ []) old → first ≡ option_map (λ _. []) old
    → Appends first last file → Closes result last between new → new ≡ with_outputs (holding name file ∷ []) old
made_whole result text name file first last old between new good is opens empty appends closes = grind (arith, closed)

-- the same where it was given up, and a front was written
pub made_given_up : (text name file : List ℕ) (first last : Option (List ℕ)) (old between new : Option (List MadeOutput)) → text ≡ name
    → between ≡ with_outputs (opened text ∷ []) old → first ≡ option_map (λ _. []) old → AppendsPrefix first last file
    → GivesUp last between new → MakesPrefix (holding name file ∷ []) old new
made_given_up text name file first last old between new is opens empty appends (holds, prefix, gives) =
    holds_prefix name file first last holds old new empty appends prefix (closed text name holds old between new is opens gives)

-- the same where it was closed, and a front was written or came through
pub made_prefix : {X E : Type 0}
    → (result : Result X E) (text name file : List ℕ) (first last : Option (List ℕ)) (old between new : Option (List MadeOutput))
    → text ≡ name → between ≡ with_outputs (opened text ∷ []) old → first ≡ option_map (λ _. []) old → AppendsPrefix first last file
    → Closes result last between new → MakesPrefix (holding name file ∷ []) old new
made_prefix (Ok done) text name file first last old between new is opens empty appends closes =
    holds_prefix name file first last last old new empty appends (grind (arith, append-nil)) (closed text name last old between new is opens closes)
made_prefix (Err error) text name file first last old between new is opens empty appends closes =
    made_given_up text name file first last old between new is opens empty appends closes

-- these, and a prefix of others behind them
pub IsPrefix-behind : (outputs made others : List MadeOutput) → IsPrefix made others → IsPrefix (outputs ++ made) (outputs ++ others)
IsPrefix-behind outputs made others prefix = record {
  whole = outputs ++ prefix.whole;
  cut = prefix.cut;
  others = prefix.others;
  in_order = grind (arith, append_assoc, prefix.in_order);
  is_made = grind (arith, append_assoc, prefix.is_made);
  is_cut = prefix.is_cut;
}

-- all of these were made, and of others what the answer says, which is not want of memory
pub MakesOutputs-then : (result : Result (Unit {0}) SinkError) (outputs others : List MadeOutput)
    (old between new : Option (List MadeOutput))
    → IfErr result (λ error. error ≡ SinkFault) → between ≡ with_outputs outputs old → MakesOutputs result others between new
    → MakesOutputs result (outputs ++ others) old new
MakesOutputs-then (Ok done) outputs others old between new told first made = made ∙ ap (with_outputs others) first ∙ told-twice old outputs others
MakesOutputs-then (Err SinkFault) outputs others old between new told first made =
    (outputs ++ made.0, IsPrefix-behind outputs made.0 others made.1, made.2 ∙ ap (with_outputs made.0) first ∙ told-twice old outputs made.0)
MakesOutputs-then (Err NoMemory) outputs others old between new told first made = cc

-- these had a fault, and others behind them were not begun
pub MakesOutputs-stopped : (result : Result (Unit {0}) SinkError) (error : SinkError) (outputs others : List MadeOutput)
    (old new : Option (List MadeOutput))
    → IsErrAnd result (λ told. told ≡ error) → error ≡ SinkFault → MakesOutputs (Err error) outputs old new
    → MakesOutputs result (outputs ++ others) old new
MakesOutputs-stopped (Ok done) error outputs others old new told is made = absurd told
MakesOutputs-stopped (Err SinkFault) SinkFault outputs others old new told is made = (made.0, grind (arith, append_assoc, made.1), made.2)
MakesOutputs-stopped (Err NoMemory) SinkFault outputs others old new told is made = cc
MakesOutputs-stopped (Err error) NoMemory outputs others old new told is made = cc

-- the outputs of a front and of a back
pub sheet_outputs-both : (parts : NameParts) (number next : ℕ) (front back : MadeOutput) (inside sheet : PrintedSheet) (page : Page)
    → inside ≡ sheet → inside.back ≡ Some page → next ≡ number_after 1 number → front ≡ side_output parts number inside.front
    → back ≡ side_output parts next page → (front ∷ []) ++ (back ∷ []) ≡ sheet_outputs parts number sheet
sheet_outputs-both parts number next front back inside sheet page seen has is first second = grind arith

-- the last of listed outputs is another, which differs in what it holds
outputs_in-set : (listed : List ListedOutput) (other next : ListedOutput) (bytes : Option (List ℕ))
    → output_of next ≡ record (output_of (slice_index_or listed (length listed - 1) other)) { holds = bytes }
    → outputs_in (slice_set listed (length listed - 1) next) ≡ last_holds bytes (outputs_in listed)
outputs_in-set [] other next bytes is = refl
outputs_in-set (one ∷ []) other next bytes is = ap (λ (output : MadeOutput). output ∷ []) is
outputs_in-set (one ∷ second ∷ listed) other next bytes is = grind (arith, outputs_in-set (second ∷ listed) other next bytes)

pub outputs_in-last : (listed : List ListedOutput) (other next : ListedOutput) (bytes : Option (List ℕ)) (count : ℕ)
    → count ≡ length listed → output_of next ≡ record (output_of (slice_index_or listed (count - 1) other)) { holds = bytes }
    → outputs_in (slice_set listed (count - 1) next) ≡ last_holds bytes (outputs_in listed)
outputs_in-last listed other next bytes count is last = grind (arith, outputs_in-set)

-- what holds whatever the answer
pub at_ok : {X E : Type 0} {P : Type 0} → (result : Result X E) → P → OnOk result P
at_ok result holds = grind arith

-- an output is whole where the answer of its close is no fault
pub ok_whole : {X E : Type 0}
    → (result : Result X E) (name file : List ℕ) (first last : Option (List ℕ)) (old between new : Option (List MadeOutput))
    → between ≡ with_outputs (opened name ∷ []) old → first ≡ option_map (λ _. []) old → Appends first last file
    → Closes result last between new → OnOk result (new ≡ with_outputs (holding name file ∷ []) old)
ok_whole {X} {E} (Ok done) name file first last old between new opens empty appends closes =
    made_whole {X = X} {E = E} (Ok done) name name file first last old between new refl refl opens empty appends closes
ok_whole (Err error) name file first last old between new opens empty appends closes = tt
