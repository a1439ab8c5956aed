use Rattle.std.proofs.Common.{◌∙◌, refl}
use Rattle.std.proofs.lemmas.Result.{on_ok_weaker}
use Rattle.press_asm.proofs.Adding.{line_added}
use Rattle.press_asm.proofs.judge.add_line.Goals as goal

pub returns-clause-ok : goal.returns-clause-ok
returns-clause-ok c =
    on_ok_weaker c.add_command.result
    (λ added. line_added c.args.digits.now c.in_ok-bytes.bytes.items c.args.out.now.items _ c.deref.result.now c.new.result.bytes.now c.in_ok-bytes.ensures.ok
    (c.if-not-is_line.ensures.0 refl) c.deref.ensures.value (c.new.ensures ∙ c.deref-2.ensures.value) added)
    c.add_command.ensures.ok
