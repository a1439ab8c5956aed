use Rattle.std.proofs.Common.{◌∙◌, drop, refl, ap}
use Rattle.std.proofs.lemmas.List.{take_rest}
use Rattle.press_scan.specs.Modes.{mode_of}
use Rattle.press_scan.proofs.ScannerLaws.{passes_behind}
use Rattle.press_scan.proofs.scanner.Scanner.next_plain.Goals as goal

pub returns : goal.returns
returns c =
    let same = take_rest c.deref.result.now c.self.inside.start ∙ ap (drop c.self.inside.start) c.deref.ensures.value in
    let passes = passes_behind (mode_of c.self.inside.mode) c.self.inside.ended c.self.inside.buffer.items _ c.self.inside.start c.self.inside.room c.in_ok-found.found c.args.self.now same c.self.view_is
    (c.in_ok-found.ensures.next c.self.inside.ended) in
    ((refl, λ _. tt, passes), record { some = (_, passes); after = tt })
