use Rattle.std.proofs.Common.{rules, arith, ℕ, ◌++◌, take, subst}
use Rattle.press_units.proofs.ExitLemmas.{exit-is}
use Rattle.std.specs.Io.KnownBytes.{Consumes}
use Rattle.std.proofs.KnownBytes.{Consumes-trans}
use Rattle.press_sink.proofs.SendingLemmas.{Took-has_fault_room}
use Rattle.press_stream.proofs.RunLemmas.{RunsReader-drain, RunsReader-finish, RunsReader-feed, HandsOut-fed}
use Rattle.press_stream.proofs.Carries.{same_fault}
use Rattle.press_stream.proofs.Faults.{no_read_fault, no_read_fault-fed}
use Rattle.press_stream.proofs.job.Job.read_through.Goals as goal

pub returns-in_err-drain-clause-runs : goal.returns-in_err-drain-clause-runs
returns-in_err-drain-clause-runs g c =
    rw (exit-is c.from_residual.ensures.1) (RunsReader-drain c.args.self.now c.drain.new.self (g.R.ReadDevice.remaining c.args.reader.now) c.args.tag _ _ _
    c.requires.going (rw c.in_err-drain.was at c.drain.ensures.drains))

pub returns-in_err-drain-clause-fault : goal.returns-in_err-drain-clause-fault
returns-in_err-drain-clause-fault g c = grind (arith, exit-is, no_read_fault, same_fault)

pub returns-in_err-drain-clause-cause : goal.returns-in_err-drain-clause-cause
returns-in_err-drain-clause-cause g c = grind (arith, exit-is, no_read_fault, same_fault)

pub returns-then-length-eq0-clause-runs : goal.returns-then-length-eq0-clause-runs
returns-then-length-eq0-clause-runs g c =
    let so_far = c.loop-length.invariant in
    let now = g.R.ReadDevice.remaining c.loop-length.reader in
    let left = g.R.ReadDevice.remaining c.read_next.new.reader in
    let gives = c.in-Ok.ensures.piece in
    let P : ℕ → Type 0 = λ count. Consumes now left (take count c.read_next.new.piece) in
    RunsReader-finish c.args.self.now c.loop-length.self c.finish.new.self (g.R.ReadDevice.remaining c.args.reader.now) now left so_far.bytes
    c.args.tag c.finish.result _ _ _ so_far.lost (subst P c.if-length-eq0.true gives.1) (gives.2 c.if-length-eq0.true) so_far.goes
    c.finish.ensures.finishes

pub loop-length-preserved : goal.loop-length-preserved
loop-length-preserved g c =
    let so_far = c.loop-length.invariant in
    let piece = take c.in-Ok.length c.read_next.new.piece in
    let gives = c.in-Ok.ensures.piece in
    let fed = rw c.in_ok-feed.was at c.feed.ensures.feeds in
    record {
      bytes = so_far.bytes ++ piece;
      lost =
          Consumes-trans (g.R.ReadDevice.remaining c.args.reader.now) (g.R.ReadDevice.remaining c.loop-length.reader)
          (g.R.ReadDevice.remaining c.read_next.new.reader) so_far.bytes piece so_far.lost gives.1;
      goes = HandsOut-fed c.args.self.now c.loop-length.self c.feed.new.self so_far.bytes piece c.args.tag _ _ _ so_far.goes fed;
      hungry = fed.is.1;
      has_fault_room = Took-has_fault_room c.args.tag fed.went _ _ fed.took so_far.has_fault_room;
      few = omega (arith, c.read_next.ensures.bound, so_far.few);
      told = c.read_next.ensures.told so_far.told;
      going = search rules;
    }

pub returns-in_err-feed-clause-runs : goal.returns-in_err-feed-clause-runs
returns-in_err-feed-clause-runs g c =
    let so_far = c.loop-length.invariant in
    let piece = take c.in-Ok.length c.read_next.new.piece in
    let gives = c.in-Ok.ensures.piece in
    rw (exit-is c.from_residual-in_err-feed.ensures.1) (RunsReader-feed c.args.self.now c.loop-length.self c.feed.new.self (g.R.ReadDevice.remaining c.args.reader.now)
    (g.R.ReadDevice.remaining c.loop-length.reader) (g.R.ReadDevice.remaining c.read_next.new.reader) so_far.bytes piece
    c.args.tag _ _ _ _ so_far.lost so_far.hungry gives.1 so_far.goes (rw c.in_err-feed.was at c.feed.ensures.feeds))

pub returns-in_err-feed-clause-fault : goal.returns-in_err-feed-clause-fault
returns-in_err-feed-clause-fault g c = grind (arith, exit-is, no_read_fault-fed, same_fault)

pub returns-in_err-feed-clause-cause : goal.returns-in_err-feed-clause-cause
returns-in_err-feed-clause-cause g c = grind (arith, exit-is, no_read_fault-fed, same_fault)
