use Rattle.std.proofs.Common.{◌∷◌, []}
use Rattle.press_asm.specs.Kinds.{kind_line}
use Rattle.press_cmd.specs.Token.{field_of}
use Rattle.press_cmd.specs.View.{param_token}
use Rattle.press_units.specs.Value.{tenthousandths_of, whole_part}
use Rattle.press_explain.specs.Remarks.{integer}
use Rattle.press_explain.proofs.CarryLemmas.{ok_so}
use Rattle.press_explain.proofs.DeedLemmas.{three_said}
use Rattle.press_explain.proofs.naming.append_key.Goals as goal

pub returns : goal.returns
returns c =
    ok_so c.append_whole.result
    (λ said. three_said c.args.key.now.items c.write_kind.new.out.items c.push.new.self.items c.append_whole.new.key.items (kind_line c.args.kind) (32 ∷ [])
    (integer (whole_part (tenthousandths_of (field_of (param_token c.args.param.now)))))
    c.in_ok-write_kind.ensures.ok c.in_ok-push.ensures.items said)
    c.append_whole.ensures
