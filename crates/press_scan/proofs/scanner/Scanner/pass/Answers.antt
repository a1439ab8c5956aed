use Rattle.std.proofs.Common.{◌∙◌, drop, refl, ap, arith}
use Rattle.std.proofs.lemmas.List.{take_rest}
use Rattle.press_scan.specs.Modes.{mode_of}
use Rattle.press_scan.proofs.PassingLaws.{plain_passes}
use Rattle.press_scan.proofs.scanner.Scanner.pass.Goals as goal

pub returns : goal.returns
returns c =
    let same = take_rest c.deref.result.now c.self.inside.start ∙ ap (drop c.self.inside.start) c.deref.ensures.value in
    plain_passes c.args.controls (mode_of c.self.inside.mode) c.self.inside.buffer.items _ c.self.inside.start c.passed_prefix-count.result c.self.inside.ended c.self.inside.room _ _ c.args.self.now _
    same c.passed_prefix-count.ensures.plain c.passed_prefix-count.ensures.within (omega (arith, c.if-count-eq0.false)) c.byte_kind-kind.ensures c.self.view_is refl
