use Rattle.press_cmd.specs.View.{param_token}
use Rattle.press_asm.specs.Written.{prefix_of}
use Rattle.std.proofs.Common.{◌∷◌, []}
use Rattle.press_asm.proofs.ParamLine.{prefix_kept}
use Rattle.press_asm.proofs.write.write_param.Goals as goal

pub returns-clause-prefix : goal.returns-clause-prefix
returns-clause-prefix c =
    prefix_kept c.args.out.now.items (prefix_of (param_token c.args.param.now)) _ _ c.in_ok-write_prefix.ensures.ok
    (prefix_kept _ c.field.result.now _ _ c.in_ok-extend_from_slice.ensures.items
    (prefix_kept _ (c.end.result ∷ []) _ _ c.in_ok-extend_from_slice-2.ensures.items c.write_spaced.ensures.prefix))
