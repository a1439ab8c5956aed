-- How far outputs go out, put together.
use Rattle.std.proofs.Common.{◌≡◌, ◌≢◌, ◌∙◌, ◌<◌, ◌+◌, ◌-◌, ◌≤◌, zero, suc, arith, ℕ, List, [], ◌∷◌, ◌++◌, length, drop, append-nil, Option, None, Some, Result, Ok, Err, refl, sym, ap, subst}
use Rattle.std.proofs.KnownBytes.{Appends-nil, Appends-kept}
use Rattle.std.specs.Io.KnownBytes.{Appends}
use Rattle.press_bits.specs.PrintedSheet.{PrintedSheet}
use Rattle.press_sink.specs.declared.fault.SinkError.{SinkError}
use Rattle.press_sink.specs.declared.fault.SinkError.TheVariants as sink_errors
use Rattle.press_sink.specs.declared.fault.ReplyError.{ReplyError}
use Rattle.press_sink.specs.declared.fault.ReplyError.TheVariants as reply_errors
use Rattle.press_sink.specs.SinkLog.{SheetLog, ReplyLog, SinkLog, logs, Delivers, TookLast, Replies}
use Rattle.press_sink.specs.Sending.{Output, Deliver, Reply, Ending, AtSheet, AtReply, ForMemory, Complete, WentOut}
use Rattle.press_sink.proofs.SendingLemmas.{told-nothing, WentOut-none, WentOut-then, WentOut-stopped, all-delivered}
use Rattle.press_engine.specs.declared.fault.EngineError.{EngineError}
use Rattle.press_engine.specs.Engine.{ending_of}
use Rattle.press_table.specs.Outputs.{copy_out, next_count, copies_out, outputs_of, all_outputs}
use Rattle.press_table.specs.declared.effect.Sent.{Sent}

-- outputs do not all go out where an error is answered
pub stops : (error : EngineError) → ending_of {X = Unit {0}} (Err error) ≡ Complete → ⊥
stops error is = grind arith

-- a first part that stopped, and the exit that hands its error on
pub WentOut-exit : (tag : ℕ) (outputs others : List Output) (first result : Result (Unit {0}) EngineError) (error : EngineError)
    (before after : SinkLog)
    → WentOut tag outputs (ending_of first) before after → first ≡ Err error → result ≡ Err error
    → WentOut tag (outputs ++ others) (ending_of result) before after
WentOut-exit tag outputs others first result error before after sends is exits =
    let P : Result (Unit {0}) EngineError → Type 0 = λ one. WentOut tag outputs (ending_of one) before after in
    let Q : Result (Unit {0}) EngineError → Type 0 = λ one. WentOut tag (outputs ++ others) (ending_of one) before after in
    subst Q (sym exits) (WentOut-stopped tag outputs others (ending_of {X = Unit {0}} (Err error)) before after (stops error) (subst P is sends))

-- how a sheet ends, by what its sink answers, and how a reply does
abbrev pub ending_at_sheet : Result (Unit {0}) SinkError → Ending
ending_at_sheet (Ok _) = Complete
ending_at_sheet (Err sink_errors.SinkFault) = AtSheet
ending_at_sheet (Err sink_errors.NoMemory) = ForMemory

abbrev pub ending_at_reply : Result (Unit {0}) ReplyError → Ending
ending_at_reply (Ok _) = Complete
ending_at_reply (Err reply_errors.ReplyFault) = AtReply
ending_at_reply (Err reply_errors.NoMemory) = ForMemory

pub deliver-sends : (old new : SheetLog) (tag : ℕ) (sheet : PrintedSheet) (result : Result (Unit {0}) SinkError)
    → Delivers old (record { tag = tag; sheet = sheet }) result new → (replies : ReplyLog)
    → WentOut tag (Deliver sheet ∷ []) (ending_at_sheet result) (logs old replies) (logs new replies)
deliver-sends old new tag sheet (Ok done) (told, faults) replies =
    record { went = Deliver sheet ∷ []; goes = refl; delivered = told; replied = Appends-nil replies.replied; sheet_faults = faults; reply_faults = refl }
deliver-sends old new tag sheet (Err sink_errors.SinkFault) (told, faults) replies =
    record { went = []; goes = (sheet, [], refl); delivered = told ∙ told-nothing old.delivered; replied = Appends-nil replies.replied; sheet_faults = faults; reply_faults = refl }
deliver-sends old new tag sheet (Err sink_errors.NoMemory) (told, faults) replies =
    record { went = []; goes = (Deliver sheet ∷ [], refl); delivered = told ∙ told-nothing old.delivered; replied = Appends-nil replies.replied; sheet_faults = faults; reply_faults = refl }

pub reply-sends : (old new : ReplyLog) (tag : ℕ) (bytes : List ℕ) (result : Result (Unit {0}) ReplyError) → Replies old bytes result new
    → (sheets : SheetLog) → WentOut tag (Reply bytes ∷ []) (ending_at_reply result) (logs sheets old) (logs sheets new)
reply-sends old new tag bytes (Ok done) (told, faults) sheets =
    record {
      went = Reply bytes ∷ [];
      goes = refl;
      delivered = told-nothing sheets.delivered;
      replied = subst (Appends old.replied new.replied) (sym (append-nil bytes)) told;
      sheet_faults = refl;
      reply_faults = faults;
    }
reply-sends old new tag bytes (Err reply_errors.ReplyFault) (prefix, back, parts, told, faults) sheets = record {
  went = Reply prefix ∷ [];
  goes = ([], [], prefix, back, ap (λ (all : List ℕ). Reply all ∷ []) parts, refl);
  delivered = told-nothing sheets.delivered;
  replied = subst (Appends old.replied new.replied) (sym (append-nil prefix)) told;
  sheet_faults = refl;
  reply_faults = faults;
}
reply-sends old new tag bytes (Err reply_errors.NoMemory) (told, faults) sheets = record {
  went = [];
  goes = (Reply bytes ∷ [], refl);
  delivered = told-nothing sheets.delivered;
  replied = Appends-kept old.replied old.replied new.replied [] (Appends-nil old.replied) told;
  sheet_faults = refl;
  reply_faults = faults;
}

-- the copies of a sheet, with the replies that follow each
module _ (sheet : PrintedSheet) (tag done copies : ℕ) (count next : Option ℕ) (counts : next ≡ next_count count) where
  one_more : done < copies → copies_out sheet (copies - done) count ≡ copy_out sheet next ++ copies_out sheet (copies - (done + 1)) next
  one_more below = grind arith

  -- a copy went out, and then of the others so much
  pub WentOut-copy : (result : Result (Unit {0}) EngineError) (before between after : SinkLog) → done < copies
      → WentOut tag (copy_out sheet next) Complete before between
      → WentOut tag (copies_out sheet (copies - (done + 1)) next) (ending_of result) between after
      → WentOut tag (copies_out sheet (copies - done) count) (ending_of result) before after
  WentOut-copy result before between after below first then =
      let P : List Output → Type 0 = λ outputs. WentOut tag outputs (ending_of result) before after in
      subst P (sym (one_more below)) (WentOut-then tag (copy_out sheet next) (copies_out sheet (copies - (done + 1)) next) (ending_of result) before between after first then)

  -- a copy that did not go out
  pub WentOut-stopped_copy : (first result : Result (Unit {0}) EngineError) (error : EngineError) (before after : SinkLog) → done < copies
      → WentOut tag (copy_out sheet next) (ending_of first) before after → first ≡ Err error → result ≡ Err error
      → WentOut tag (copies_out sheet (copies - done) count) (ending_of result) before after
  WentOut-stopped_copy first result error before after below sends stops exits = search (arith, one_more, WentOut-exit)

-- behind a copy the sheet is what its sink took last
pub TookLast-copy : (sheet : PrintedSheet) (tag : ℕ) (count : Option ℕ) (before after : SinkLog)
    → WentOut tag (copy_out sheet count) Complete before after → TookLast after.sheets (record { tag = tag; sheet = sheet })
TookLast-copy sheet tag None before after took = (before.sheets.delivered, all-delivered tag (copy_out sheet None) before after took)
TookLast-copy sheet tag (Some since_job) before after took = (before.sheets.delivered, all-delivered tag (copy_out sheet (Some since_job)) before after took)

-- no copy is left
pub WentOut-no_copy : (sheet : PrintedSheet) (tag done copies : ℕ) (count : Option ℕ) (told : SinkLog) → copies ≤ done → WentOut tag (copies_out sheet (copies - done) count) Complete told told
WentOut-no_copy sheet tag done copies count told past =
    let e : copies - done ≡ 0 = omega arith in
    let P : ℕ → Type 0 = λ n. WentOut tag (copies_out sheet n count) Complete told told in
    subst P (sym e) (WentOut-none tag told)

-- where a part of the outputs is not empty, they are not
pub some-before : (outputs others : List Output) → outputs ≢ [] → outputs ++ others ≢ []
some-before [] others some nothing = some refl
some-before (output ∷ outputs) others some nothing = cc

pub some-behind : (outputs others : List Output) → others ≢ [] → outputs ++ others ≢ []
some-behind [] others some nothing = some nothing
some-behind (output ∷ outputs) others some nothing = cc

-- where a part of what goes out is not empty, the whole is not
pub all_outputs-some : (sent : List Sent) (done : ℕ) (part : Sent) (rest : List Sent) → drop done sent ≡ part ∷ rest → outputs_of part ≢ [] → all_outputs sent ≢ []
all_outputs-some [] zero part rest left some nothing = absurd cc
all_outputs-some [] (suc done) part rest left some nothing = absurd cc
all_outputs-some (one ∷ sent) zero part rest left some nothing =
    let P : List Sent → Type 0 = λ these. all_outputs these ≢ [] in
    subst P (sym left) (some-before (outputs_of part) (all_outputs rest) some) nothing
all_outputs-some (one ∷ sent) (suc done) part rest left some nothing = some-behind (outputs_of one) (all_outputs sent) (all_outputs-some sent done part rest left some) nothing

-- all parts went out
pub WentOut-all : (tag done : ℕ) (sent : List Sent) (told : SinkLog) → length sent ≤ done → WentOut tag (all_outputs (drop done sent)) Complete told told
WentOut-all tag zero [] told past = WentOut-none tag told
WentOut-all tag (suc done) [] told past = WentOut-none tag told
WentOut-all tag zero (one ∷ sent) told past = absurd (omega arith)
WentOut-all tag (suc done) (one ∷ sent) told past = WentOut-all tag done sent told (omega arith)
