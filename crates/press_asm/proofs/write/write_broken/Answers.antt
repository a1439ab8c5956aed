use Rattle.std.proofs.Common.{append_assoc}
use Rattle.std.proofs.Common.{arith}
use Rattle.std.proofs.Common.{◌∙◌, sym, ap}
use Rattle.std.proofs.lemmas.Result.{on_ok_weaker}
use Rattle.press_asm.specs.Written.{written_line}
use Rattle.press_asm.proofs.ParamLine.{broken_line}
use Rattle.press_asm.proofs.write.write_broken.Goals as goal

pub returns-clause-ok : goal.returns-clause-ok
returns-clause-ok c =
    on_ok_weaker c.write_digits.result
    (λ written. grind (arith, append_assoc, c.in_ok-extend_from_slice.ensures.items, c.in_ok-write_sequence.ensures.ok, ap written_line (sym c.parts-sequence.ensures) ∙ broken_line c.parts-sequence.result.0 c.parts-sequence.result.1.now))
    c.write_digits.ensures.ok
