use Rattle.std.proofs.Common.{◌≡◌}
use Rattle.press_sessions.specs.Sessions.{standing}
use Rattle.press_sessions.proofs.session.Session.message.Given as goal

-- the session is where it was
abbrev pub invariant-loop-image : goal.invariant-loop-image
invariant-loop-image g l = standing l.self ≡ standing l.fn.self
