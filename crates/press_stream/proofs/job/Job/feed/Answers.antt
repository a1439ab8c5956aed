use Rattle.std.proofs.Common.{[], Err}
use Rattle.press_units.proofs.ExitLemmas.{exit-is}
use Rattle.press_stream.proofs.Faults.{Feeds-refused, HandsOut-before, HandsOut-feeds, HandsOut-goes}
use Rattle.press_stream.proofs.Refusals.{Answered-goes}
use Rattle.press_stream.proofs.job.Job.feed.Goals as goal

pub returns-in_err-check_going-clause-feeds : goal.returns-in_err-check_going-clause-feeds
returns-in_err-check_going-clause-feeds g c =
    rw (exit-is c.from_residual.ensures.1) (Feeds-refused c.args.self.now c.args.piece.now c.args.tag _ _ (rw c.in_err-check_going.was at c.check_going.ensures))

-- what was held had a fault
pub returns-in_err-drain-clause-feeds : goal.returns-in_err-drain-clause-feeds
returns-in_err-drain-clause-feeds g c =
    let going = rw c.in_ok-check_going.was at c.check_going.ensures in
    rw (exit-is c.from_residual-in_err-drain.ensures.1) (HandsOut-feeds c.args.self.now c.drain.new.self c.args.piece.now (Err _) c.args.tag _ _ going.1 tt
    (HandsOut-before c.args.self.now c.drain.new.self [] c.args.piece.now c.args.tag _ _ _ (rw c.in_err-drain.was at c.drain.ensures.drains)))

pub returns-in_err-drain-clause-answered : goal.returns-in_err-drain-clause-answered
returns-in_err-drain-clause-answered g c =
    let going = rw c.in_ok-check_going.was at c.check_going.ensures in
    rw (exit-is c.from_residual-in_err-drain.ensures.1) (Answered-goes c.args.self.now c.drain.new.self [] (Err _) c.args.tag _ _ going.0 going.1
    (rw c.in_err-drain.was at c.drain.ensures.drains))

pub returns-clause-feeds : goal.returns-clause-feeds
returns-clause-feeds g c =
    let going = rw c.in_ok-check_going.was at c.check_going.ensures in
    let idle = rw c.in_ok-drain.was at c.drain.ensures.idle in
    HandsOut-feeds c.args.self.now c.feed_by_parts.new.self c.args.piece.now c.feed_by_parts.result c.args.tag _ _ going.1 c.feed_by_parts.ensures.fed
    (HandsOut-goes c.args.self.now c.drain.new.self c.feed_by_parts.new.self [] c.args.piece.now c.feed_by_parts.result c.args.tag _ _ _ idle.1
    (rw c.in_ok-drain.was at c.drain.ensures.drains) c.feed_by_parts.ensures.goes)

pub returns-clause-answered : goal.returns-clause-answered
returns-clause-answered g c =
    let going = rw c.in_ok-check_going.was at c.check_going.ensures in
    let idle = rw c.in_ok-drain.was at c.drain.ensures.idle in
    Answered-goes c.args.self.now c.feed_by_parts.new.self c.args.piece.now c.feed_by_parts.result c.args.tag _ _ going.0 going.1
    (HandsOut-goes c.args.self.now c.drain.new.self c.feed_by_parts.new.self [] c.args.piece.now c.feed_by_parts.result c.args.tag _ _ _ idle.1
    (rw c.in_ok-drain.was at c.drain.ensures.drains) c.feed_by_parts.ensures.goes)
