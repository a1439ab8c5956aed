-- Outputs that are made by their names, one after another.
use Rattle.std.specs.Prelude.{◌≡◌, ℕ, List, [], ◌∷◌, ◌++◌, Option, Some, None, option_map, Result, Ok, Err, ⊤}
use Rattle.press_bits.specs.Page.{Page}
use Rattle.press_pbm.specs.Spelling.{file_of}
use Rattle.press_bits.specs.PrintedSheet.{PrintedSheet}
use Rattle.press_sink.specs.Template.{NameParts, side_name, number_after}
use Rattle.press_sink.specs.declared.fault.SinkError.{SinkError}
use Rattle.press_sink.specs.declared.fault.SinkError.TheVariants.{SinkFault, NoMemory}

-- An output that was made: its name, and the bytes that it holds, which are told once it is closed.
pub record MadeOutput : Type 0 where
  pub name : List ℕ
  pub holds : Option (List ℕ)

-- an output that is open
abbrev pub opened : List ℕ → MadeOutput
opened name = record { name = name; holds = None }

-- an output that holds these bytes
abbrev pub holding : List ℕ → List ℕ → MadeOutput
holding name bytes = record { name = name; holds = Some bytes }

-- what was made, and then these; where it is known
abbrev pub with_outputs : List MadeOutput → Option (List MadeOutput) → Option (List MadeOutput)
with_outputs outputs made = option_map (λ all. all ++ outputs) made

-- The output that was made last holds this.
abbrev pub last_holds : Option (List ℕ) → List MadeOutput → List MadeOutput
last_holds bytes [] = []
last_holds bytes (last ∷ []) = record last { holds = bytes } ∷ []
last_holds bytes (first ∷ next ∷ others) = first ∷ last_holds bytes (next ∷ others)

-- The bytes are a prefix of those that are to be held, where those are known.
abbrev pub HoldsPrefix : (holds all : Option (List ℕ)) → Type 0
HoldsPrefix (Some prefix) (Some bytes) = (back : List ℕ) × (bytes ≡ prefix ++ back)
HoldsPrefix None None = ⊤
HoldsPrefix holds all = ⊥

-- The output that was made last is given up: it holds a prefix of what was written.
abbrev pub GivesUp : (written : Option (List ℕ)) → (old new : Option (List MadeOutput)) → Type 0
GivesUp written old new = (holds : Option (List ℕ)) × HoldsPrefix holds written × (new ≡ option_map (last_holds holds) old)

-- The output that was made last is closed: it holds what was written, all of it, or a prefix of it after a fault.
abbrev pub Closes : {X E : Type 0} → Result X E → (written : Option (List ℕ)) → (old new : Option (List MadeOutput)) → Type 0
Closes (Ok _) written old new = new ≡ option_map (last_holds written) old
Closes (Err _) written old new = GivesUp written old new

-- Nothing stands there; or one output, which has the name of the first of these, and holds a prefix of what that is to hold.
abbrev pub IsCut : (cut outputs : List MadeOutput) → Type 0
IsCut [] outputs = ⊤
IsCut (one ∷ []) (first ∷ outputs) = (one.name ≡ first.name) × HoldsPrefix one.holds first.holds
IsCut cut outputs = ⊥

-- A prefix of outputs: the first of them whole, and perhaps the next, which holds a prefix of its bytes.
pub record IsPrefix (made outputs : List MadeOutput) : Type 0 where
  pub whole : List MadeOutput
  pub cut : List MadeOutput
  pub others : List MadeOutput
  pub in_order : outputs ≡ whole ++ others
  pub is_made : made ≡ whole ++ cut
  pub is_cut : IsCut cut others

-- A prefix of these outputs was made.
abbrev pub MakesPrefix : (outputs : List MadeOutput) (old new : Option (List MadeOutput)) → Type 0
MakesPrefix outputs old new = (made : List MadeOutput) × IsPrefix made outputs × (new ≡ with_outputs made old)

-- The output of a side: the name with its number, and the P4 file of its page.
abbrev pub side_output : NameParts → ℕ → Page → MadeOutput
side_output parts number page = holding (side_name parts number) (file_of page)

-- that of a back, if there is one
abbrev pub back_output : NameParts → ℕ → Option Page → List MadeOutput
back_output parts number None = []
back_output parts number (Some back) = side_output parts number back ∷ []

-- Those of a sheet, whose front has this number: the front's before the back's.
abbrev pub sheet_outputs : NameParts → ℕ → PrintedSheet → List MadeOutput
sheet_outputs parts number sheet = side_output parts number sheet.front ∷ back_output parts (number_after 1 number) sheet.back

-- What was made of these outputs, by the answer: all of them; a prefix of them after a fault; nothing for want of memory.
abbrev pub MakesOutputs : Result (Unit {0}) SinkError → (outputs : List MadeOutput) (old new : Option (List MadeOutput)) → Type 0
MakesOutputs (Ok _) outputs old new = new ≡ with_outputs outputs old
MakesOutputs (Err SinkFault) outputs old new = MakesPrefix outputs old new
MakesOutputs (Err NoMemory) outputs old new = new ≡ old
