-- Outputs, and how far they went out to the two sinks.
use Rattle.std.specs.Prelude.{◌≡◌, ◌+◌, ◌++◌, ℕ, List, [], ◌∷◌, map, option_map}
use Rattle.std.specs.Io.KnownBytes.{Appends}
use Rattle.press_bits.specs.PrintedSheet.{PrintedSheet}
use Rattle.press_sink.specs.declared.delivery.Delivery.{Delivery}
use Rattle.press_sink.specs.SinkLog.{SinkLog, SinkUse}

-- An output: a sheet to deliver, or the bytes of a reply.
pub data Output : Type 0 where
  Deliver : PrintedSheet → Output
  Reply : List ℕ → Output

-- the sheets among the outputs, in order
abbrev pub sheets_of : List Output → List PrintedSheet
sheets_of [] = []
sheets_of (Deliver sheet ∷ outputs) = sheet ∷ sheets_of outputs
sheets_of (Reply bytes ∷ outputs) = sheets_of outputs

-- the bytes of the replies among the outputs, joined
abbrev pub reply_bytes_of : List Output → List ℕ
reply_bytes_of [] = []
reply_bytes_of (Deliver sheet ∷ outputs) = reply_bytes_of outputs
reply_bytes_of (Reply bytes ∷ outputs) = bytes ++ reply_bytes_of outputs

-- sheets as they are delivered, under a tag
abbrev pub under_tag : ℕ → List PrintedSheet → List Delivery
under_tag tag sheets = map (λ (sheet : PrintedSheet). record { tag = tag; sheet = sheet }) sheets

-- the sheets of deliveries, whatever their tags
abbrev pub sheets_in : List Delivery → List PrintedSheet
sheets_in deliveries = map (λ (delivery : Delivery). delivery.sheet) deliveries

-- How the outputs of a call end: all of them go out; those up to a sheet at which the sheet sink has a fault; up to a reply in which the
-- reply sink has one; up to where memory runs out; or the call was refused, or could not read on.
pub data Ending : Type 0 where
  Complete : Ending
  AtSheet : Ending
  AtReply : Ending
  ForMemory : Ending
  Refused : Ending

-- What goes out of outputs that end so: all of them; those before a sheet; those before a reply, and a prefix of that reply; or the
-- first of them. Outputs that are sent do not end refused.
abbrev pub GoesOut : Ending → (went outputs : List Output) → Type 0
GoesOut Complete went outputs = went ≡ outputs
GoesOut AtSheet went outputs = (sheet : PrintedSheet) × (others : List Output) × (outputs ≡ went ++ Deliver sheet ∷ others)
GoesOut AtReply went outputs =
    (whole others : List Output) × (prefix back : List ℕ) × (outputs ≡ whole ++ Reply (prefix ++ back) ∷ others) × (went ≡ whole ++ Reply prefix ∷ [])
GoesOut ForMemory went outputs = (others : List Output) × (outputs ≡ went ++ others)
GoesOut Refused went outputs = ⊥

-- the faults of the sheet sink after outputs that ended so
abbrev pub sheet_faults_after : Ending → (before : ℕ) → ℕ
sheet_faults_after AtSheet before = before + 1
sheet_faults_after _ before = before

-- those of the reply sink
abbrev pub reply_faults_after : Ending → (before : ℕ) → ℕ
reply_faults_after AtReply before = before + 1
reply_faults_after _ before = before

-- What the sinks tell after these outputs ended so: they took what goes out of them, in order, and count the fault.
pub record WentOut (tag : ℕ) (outputs : List Output) (ending : Ending) (before after : SinkLog) : Type 0 where
  pub went : List Output
  pub goes : GoesOut ending went outputs
  pub delivered : after.sheets.delivered ≡ option_map (λ all. all ++ under_tag tag (sheets_of went)) before.sheets.delivered
  pub replied : Appends before.replies.replied after.replies.replied (reply_bytes_of went)
  pub sheet_faults : after.sheets.faults ≡ sheet_faults_after ending before.sheets.faults
  pub reply_faults : after.replies.faults ≡ reply_faults_after ending before.replies.faults

-- The sinks took these outputs, all of them and in order, under a tag. The ending says which sink counts one fault more; neither does
-- where all went out, memory ran out, or the call was refused or could not read on.
pub record Took (tag : ℕ) (went : List Output) (ending : Ending) (before after : SinkLog) : Type 0 where
  pub delivered : after.sheets.delivered ≡ option_map (λ all. all ++ under_tag tag (sheets_of went)) before.sheets.delivered
  pub replied : Appends before.replies.replied after.replies.replied (reply_bytes_of went)
  pub sheet_faults : after.sheets.faults ≡ sheet_faults_after ending before.sheets.faults
  pub reply_faults : after.replies.faults ≡ reply_faults_after ending before.replies.faults

-- Some outputs went out of a call. This is true of them, and the sinks took them and nothing else.
pub record HandsOut (ending : Ending) (Is : (went : List Output) → Type 0) (sinks : SinkUse) : Type 0 where
  pub went : List Output
  pub is : Is went
  pub took : Took sinks.tag went ending sinks.before sinks.after
