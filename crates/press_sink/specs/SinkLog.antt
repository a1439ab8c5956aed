-- What sinks tell of themselves: what they took, where they tell it, and how many faults they had.
use Rattle.std.specs.Prelude.{◌≡◌, ◌<◌, ◌+◌, ◌++◌, min, ℕ, List, [], ◌∷◌, Option, None, option_map, Result, Ok, Err}
use Rattle.std.specs.Io.KnownBytes.{Appends, Keeps}
use Rattle.press_units.specs.Limits.{greatest_of_64_bits}
use Rattle.press_sink.specs.declared.delivery.Delivery.{Delivery}
use Rattle.press_sink.specs.declared.fault.SinkError.{SinkError}
use Rattle.press_sink.specs.declared.fault.SinkError.TheVariants as sink_errors
use Rattle.press_sink.specs.declared.fault.ReplyError.{ReplyError}
use Rattle.press_sink.specs.declared.fault.ReplyError.TheVariants as reply_errors

-- The sheets that a sink took, each with its tag, in the order of delivery, where the sink tells them; and its faults.
pub record SheetLog : Type 0 where
  pub delivered : Option (List Delivery)
  pub faults : ℕ

-- The bytes that a sink took as replies, joined, where the sink tells them; and its faults.
pub record ReplyLog : Type 0 where
  pub replied : Option (List ℕ)
  pub faults : ℕ

-- what both sinks tell
pub record SinkLog : Type 0 where
  pub sheets : SheetLog
  pub replies : ReplyLog

abbrev pub logs : SheetLog → ReplyLog → SinkLog
logs sheets replies = record { sheets = sheets; replies = replies }

-- What a call makes of both sinks: the tag of the sheets that it delivers, and what they tell before and after it.
pub record SinkUse : Type 0 where
  pub tag : ℕ
  pub before : SinkLog
  pub after : SinkLog

abbrev pub under : (tag : ℕ) (before after : SinkLog) → SinkUse
under tag before after = record { tag = tag; before = before; after = after }

-- the most faults that a sink can count
abbrev pub most_faults : ℕ
most_faults = greatest_of_64_bits

-- what a sink tells that keeps no list of its sheets
abbrev pub unlisted_log : ℕ → SheetLog
unlisted_log faults = record { delivered = None; faults = faults }

-- what a sink over a writer tells: the bytes that the writer holds, where they are known
abbrev pub written_log : Option (List ℕ) → ℕ → ReplyLog
written_log bytes faults = record { replied = bytes; faults = faults }

-- what a sink over another tells, which had so many faults of its own
abbrev pub with_own_faults : SheetLog → ℕ → SheetLog
with_own_faults told own = record { delivered = told.delivered; faults = min (told.faults + own) most_faults }

-- the same of replies
abbrev pub replies_with_own_faults : ReplyLog → ℕ → ReplyLog
replies_with_own_faults told own = record { replied = told.replied; faults = min (told.faults + own) most_faults }

-- Both sinks can count one more fault.
pub record HasFaultRoom (told : SinkLog) : Type 0 where
  pub sheets : told.sheets.faults < most_faults
  pub replies : told.replies.faults < most_faults

-- A sheet is delivered: it is added, or the sink had one fault more and nothing is added, or memory ran out and nothing changes.
abbrev pub Delivers : SheetLog → Delivery → Result (Unit {0}) SinkError → SheetLog → Type 0
Delivers old delivery (Ok _) new =
    (new.delivered ≡ option_map (λ all. all ++ delivery ∷ []) old.delivered) × (new.faults ≡ old.faults)
Delivers old delivery (Err sink_errors.SinkFault) new = (new.delivered ≡ old.delivered) × (new.faults ≡ old.faults + 1)
Delivers old delivery (Err sink_errors.NoMemory) new = (new.delivered ≡ old.delivered) × (new.faults ≡ old.faults)

-- What the sink took last, where it tells what it took, is this.
abbrev pub TookLast : SheetLog → Delivery → Type 0
TookLast told delivery =
    (before : Option (List Delivery)) × (told.delivered ≡ option_map (λ all. all ++ delivery ∷ []) before)

-- A reply is written: known bytes grow by it, or the sink had one fault more and they grow by a prefix of it, or memory ran out
-- and they stay as they were.
abbrev pub Replies : ReplyLog → List ℕ → Result (Unit {0}) ReplyError → ReplyLog → Type 0
Replies old bytes (Ok _) new = Appends old.replied new.replied bytes × (new.faults ≡ old.faults)
Replies old bytes (Err reply_errors.ReplyFault) new =
    (prefix back : List ℕ) × (bytes ≡ prefix ++ back) × Appends old.replied new.replied prefix × (new.faults ≡ old.faults + 1)
Replies old bytes (Err reply_errors.NoMemory) new = Keeps old.replied new.replied × (new.faults ≡ old.faults)
