use Rattle.std.proofs.lemmas.Bool.Decides.{nat_tests}
use Rattle.std.proofs.Common.{Ok, arith}
use Rattle.press_units.proofs.ExitLemmas.{exit-is}
use Rattle.press_engine.proofs.SendsLemmas.{WentOut-copy, WentOut-stopped_copy, WentOut-no_copy, TookLast-copy}
use Rattle.press_engine.proofs.sender.send_copies.Goals as goal

pub returns-in_err-send_copy-clause-sends : goal.returns-in_err-send_copy-clause-sends
returns-in_err-send_copy-clause-sends g c =
    c.loop-copy.invariant.rest _ _
    (WentOut-stopped_copy c.args.finished.now.sheet c.args.tag c.loop-copy.copy c.args.finished.now.copies c.loop-copy.count
    c.next_count-count.result c.next_count-count.ensures c.send_copy.result _ _ _ _ c.loop-copy-test.true c.send_copy.ensures
    c.in_err-send_copy.was (exit-is c.from_residual.ensures.1))

pub returns-in_err-send_copy-clause-memory : goal.returns-in_err-send_copy-clause-memory
returns-in_err-send_copy-clause-memory g c stops = grind (arith, c.loop-copy-test.true)

pub send_copy-requires-clause-last : goal.send_copy-requires-clause-last
send_copy-requires-clause-last g c = λ again. c.loop-copy.invariant.last (grind (arith, nat_tests))

pub loop-copy-preserved : goal.loop-copy-preserved
loop-copy-preserved g c = record {
  has_fault_room = grind (arith, c.in_ok-send_copy.ensures, c.loop-copy.invariant.has_fault_room);
  rest =
      λ result after sends.
      c.loop-copy.invariant.rest result after
      (WentOut-copy c.args.finished.now.sheet c.args.tag c.loop-copy.copy c.args.finished.now.copies c.loop-copy.count
      c.next_count-count.result c.next_count-count.ensures result _ _ after c.loop-copy-test.true c.in_ok-send_copy.ensures
      sends);
  last = λ _. TookLast-copy c.args.finished.now.sheet c.args.tag c.next_count-count.result _ _ c.in_ok-send_copy.ensures;
}

pub returns-clause-sends : goal.returns-clause-sends
returns-clause-sends g c =
    grind (arith, c.loop-copy.invariant.rest (Ok tt) _ (WentOut-no_copy c.args.finished.now.sheet c.args.tag c.loop-copy.copy c.args.finished.now.copies c.loop-copy.count _ c.loop-copy-test.false))
