use Rattle.std.proofs.Common.{◌∙◌, List, [], ◌∷◌, ◌++◌, ap}
use Rattle.press_units.proofs.ExitLemmas.{exit-is}
use Rattle.press_core.specs.declared.turn.Turn.{Turn}
use Rattle.press_theorem.proofs.EventLemmas.{message-cut, message-happened, message-unanswered, turn-happened, turn-stopped, turn-unbegun, operator-happened}
use Rattle.press_theorem.proofs.events.carry_out.Goals as goal

pub returns-in_ok-append_line-in-Message-clause-all : goal.returns-in_ok-append_line-in-Message-clause-all
returns-in_ok-append_line-in-Message-clause-all g c =
    rw c.in-Message.is (message-happened c.args.press.now c.message.new.self c.in-Message.text.now c.in-Message.images.now c.message.result
    c.in_ok-response-in-Message.response _ c.deref.result.now c.args.responses.now.items c.append_line.new.out.items c.args.turns.now.items
    c.in_ok-response-in-Message.was c.message.ensures c.deref.ensures.value c.in_ok-append_line-in-Message.ensures.ok)

pub returns-in-Ok-clause-all : goal.returns-in-Ok-clause-all
returns-in-Ok-clause-all g c =
    rw c.in-Turn.is
    (turn-happened c.args.press.now c.turn_on.new.self c.in-Turn.engine c.in-Turn.most c.turn_on.result c.in_ok-turn-in-Turn.turn _ _ c.args.responses.now.items
    c.args.turns.now.items c.push.new.self.items c.in_ok-turn-in-Turn.was c.turn_on.ensures.turn
    ((rw c.in-Ok.is at c.push.ensures.items) ∙ ap (λ (turns : List Turn). turns ++ c.in_ok-turn-in-Turn.turn ∷ []) c.reserve.ensures.items))

pub returns-in-Operator-clause-all : goal.returns-in-Operator-clause-all
returns-in-Operator-clause-all g c =
    rw c.in-Operator.is (operator-happened c.args.press.now c.operator.new.self c.in-Operator.command _ c.args.responses.now.items c.args.turns.now.items c.operator.ensures)

pub returns-in_err-response-in-Message-clause-err : goal.returns-in_err-response-in-Message-clause-err
returns-in_err-response-in-Message-clause-err g c =
    rw (exit-is c.from_residual.ensures.1)
    (rw c.in-Message.is (message-unanswered c.args.press.now c.message.new.self c.in-Message.text.now c.in-Message.images.now _ c.args.responses.now.items c.args.turns.now.items c.in_err-response-in-Message.ensures))

pub returns-in_err-append_line-in-Message-clause-err : goal.returns-in_err-append_line-in-Message-clause-err
returns-in_err-append_line-in-Message-clause-err g c =
    rw (exit-is c.from_residual-in_err-append_line-in-Message.ensures.1)
    (rw c.in-Message.is
    (message-cut c.args.press.now c.message.new.self c.in-Message.text.now c.in-Message.images.now c.message.result
    c.in_ok-response-in-Message.response _ c.deref.result.now c.args.responses.now.items c.append_line.new.out.items c.args.turns.now.items
    c.in_ok-response-in-Message.was c.message.ensures c.deref.ensures.value
    c.in_err-append_line-in-Message.ensures.err))

pub returns-in_err-reserve-in-Turn-clause-err : goal.returns-in_err-reserve-in-Turn-clause-err
returns-in_err-reserve-in-Turn-clause-err g c =
    rw (exit-is c.from_residual-in_err-reserve-in-Turn.ensures.1)
    (rw (c.in-Turn.is, c.reserve.ensures.items) (turn-unbegun c.args.press.now c.in-Turn.engine c.in-Turn.most _ c.args.responses.now.items c.args.turns.now.items))

pub returns-in_err-turn-in-Turn-clause-err : goal.returns-in_err-turn-in-Turn-clause-err
returns-in_err-turn-in-Turn-clause-err g c =
    rw (exit-is c.from_residual-in_err-turn-in-Turn.ensures.1)
    (rw (c.in-Turn.is, c.reserve.ensures.items) (turn-stopped c.in_err-turn-in-Turn.field-0.0 c.args.press.now c.turn_on.new.self c.in-Turn.engine c.in-Turn.most _
    _ c.args.responses.now.items c.args.turns.now.items c.in_err-turn-in-Turn.ensures.turn))
