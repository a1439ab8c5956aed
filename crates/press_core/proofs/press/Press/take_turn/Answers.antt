use Rattle.std.proofs.Common.{ℕ, List, [], Some, Ok, Err, subst, sym, refl}
use Rattle.press_units.proofs.ExitLemmas.{exit-is}
use Rattle.press_sink.specs.declared.delivery.Delivery.{Delivery}
use Rattle.press_core.specs.declared.turn.Turn.{Turn}
use Rattle.press_core.specs.declared.turn.TurnError.TheVariants.{NoMemory}
use Rattle.press_core.specs.Turns.{TakesTurn, WereHandedOut}
use Rattle.press_core.proofs.TurnLemmas.{begins_some, fault_of_turn, nothing_handed, turn_stopped, turn_taken}
use Rattle.press_core.proofs.press.Press.take_turn.Goals as goal

pub returns-in_err-number : goal.returns-in_err-number
returns-in_err-number g c =
    let is = exit-is c.from_residual.ensures.1 in
    subst (λ r. (handed : List Delivery) × TakesTurn c.args.self.now c.args.engine c.args.most r handed c.next_running.new.self
    × WereHandedOut handed r (g.S.SheetSink.told c.args.sink.now) (g.S.SheetSink.told c.args.sink.now)) (sym is) (
      [],
      turn_stopped c.args.self.now c.next_running.new.self c.args.engine c.args.most c.in_err-number.field-0.0 c.requires.works c.in_err-number.ensures.begins,
      nothing_handed (Err NoMemory) (g.S.SheetSink.told c.args.sink.now) refl,
    )

pub returns-in_err-steps : goal.returns-in_err-steps
returns-in_err-steps g c =
    let is = exit-is c.from_residual-in_err-steps.ensures.1 in
    let took = c.in_err-steps.ensures in
    subst (λ r. (handed : List Delivery) × TakesTurn c.args.self.now c.args.engine c.args.most r handed c.take_steps.new.self
    × WereHandedOut handed r (g.S.SheetSink.told c.args.sink.now) (g.S.SheetSink.told c.take_steps.new.sink)) (sym is) (
      took.0,
      turn_taken c.args.self.now c.next_running.new.self c.take_steps.new.self c.args.engine c.in-Some.number c.args.most (Err c.in_err-steps.field-0.0) took.0 c.requires.works
          (begins_some c.args.self.now c.next_running.new.self c.args.engine c.in_ok-number.field-0 c.in-Some.number c.in-Some.is c.in_ok-number.ensures.begins) tt took.1,
      record { told = took.2.told; faults = fault_of_turn ℕ Turn c.in_err-steps.field-0.0 _ _ took.2.faults },
    )

pub returns : goal.returns
returns g c =
    let took = c.in_ok-steps.ensures in (
      took.0,
      turn_taken c.args.self.now c.next_running.new.self c.take_steps.new.self c.args.engine c.in-Some.number c.args.most
          (Ok (record { entry = Some c.in-Some.number; steps = c.in_ok-steps.steps })) took.0
          c.requires.works
          (begins_some c.args.self.now c.next_running.new.self c.args.engine c.in_ok-number.field-0 c.in-Some.number c.in-Some.is c.in_ok-number.ensures.begins) refl took.1,
      record { told = took.2.told; faults = took.2.faults },
    )
