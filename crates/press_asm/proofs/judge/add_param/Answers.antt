use Rattle.std.proofs.Common.{◌≡◌, ◌∙◌, length, refl, sym}
use Rattle.std.proofs.lemmas.Result.{on_ok_weaker}
use Rattle.press_cmd.specs.Carried.{data_count}
use Rattle.press_cmd.specs.View.{param_token}
use Rattle.press_asm.proofs.Adding.{param_added}
use Rattle.press_asm.proofs.judge.add_param.Goals as goal

pub returns-clause-ok : goal.returns-clause-ok
returns-clause-ok c =
    let w = c.args.word.now in
    let count : length c.in_ok-payload.payload.items ≡ data_count w.character w.group w.field.now w.end =
    sym (c.len.ensures ∙ c.in_ok-payload.payload.ok.0) ∙ c.if-len-data_count.false ∙ c.data_count.ensures.count in
    on_ok_weaker c.add_command.result
    (λ added. param_added w.character w.group w.field.now w.end c.args.digits.now c.in_ok-payload.payload.items c.args.out.now.items _ c.deref.result.now
    (param_token c.new-param.result) (c.if-not-is_field.ensures.field.0 refl) c.in_ok-payload.ensures.ok count c.new-param.ensures c.deref.ensures.value added)
    c.add_command.ensures.ok
