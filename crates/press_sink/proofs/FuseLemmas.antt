-- Replies at which a fuse has its fault.
use Rattle.std.proofs.Common.{◌≡◌, ◌<◌, ◌+◌, ℕ, List, ◌++◌, Result, Ok, Err, arith}
use Rattle.press_sink.specs.declared.fault.ReplyError.{ReplyError}
use Rattle.press_sink.specs.declared.fault.ReplyError.TheVariants.{ReplyFault}
use Rattle.press_sink.specs.SinkLog.{ReplyLog, Replies, most_faults, replies_with_own_faults}

-- it was handed on whole, and the fault was the fuse's own
pub fuse-fault : (old new after : ReplyLog) (own more : ℕ) (prefix back bytes : List ℕ) (result : Result (Unit {0}) ReplyError)
    → result ≡ Err ReplyFault → after ≡ new → bytes ≡ prefix ++ back → Replies old prefix (Ok tt) new → more ≡ own + 1
    → old.faults + own < most_faults → Replies (replies_with_own_faults old own) bytes result (replies_with_own_faults after more)
fuse-fault old new after own more prefix back bytes result is same split replied counts below = grind arith
