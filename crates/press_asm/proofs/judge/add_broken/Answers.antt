use Rattle.std.proofs.Common.{◌∙◌, ◌++◌, ap}
use Rattle.press_asm.proofs.Adding.{broken_added}
use Rattle.press_asm.proofs.judge.add_broken.Goals as goal

pub returns-clause-ok : goal.returns-clause-ok
returns-clause-ok c =
    broken_added c.args.digits.now c.in_ok-bytes.bytes.items c.args.out.now.items _ c.in_ok-bytes.ensures.ok
    (c.in_ok-extend_from_slice.ensures.items ∙ ap (λ x. c.args.out.now.items ++ x) c.deref.ensures.value)
