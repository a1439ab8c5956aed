use Rattle.std.proofs.Common.{ℕ, List, drop, subst, refl, sym, ap, ◌∙◌, arith, length-take, length-drop}
use Rattle.press_scan.specs.Modes.{mode_of}
use Rattle.press_scan.specs.Gives.{IsDone}
use Rattle.std.proofs.lemmas.List.{take_rest}
use Rattle.press_scan.proofs.AwaitedLaws.{done-awaited}
use Rattle.press_scan.proofs.ScannerLaws.{passes_behind, done_in}
use Rattle.press_scan.proofs.scanner.Scanner.next.Goals as goal

pub returns-then-not-self : goal.returns-then-not-self
returns-then-not-self c =
    let held : List ℕ = drop c.self.inside.start c.self.inside.buffer.items in
    let none = done-awaited (mode_of c.self.inside.mode) held c.self.inside.awaited c.self.invariant.2 (grind (arith, length-take, length-drop)) in
    let done : IsDone c.args.self.now = subst IsDone c.self.view_is (done_in c.self.inside.room _ (rw (sym c.if-not-self.true) at none)) in
    ((refl, λ _. tt, c.self.view_is), record { ok = refl; some = tt; none = done; free = omega (arith, done.few); after = tt })

pub returns-in-Some : goal.returns-in-Some
returns-in-Some c =
    let same = take_rest c.deref.result.now c.self.inside.start ∙ ap (drop c.self.inside.start) c.deref.ensures.value in
    let passes = passes_behind (mode_of c.self.inside.mode) c.self.inside.ended c.self.inside.buffer.items _ c.self.inside.start c.self.inside.room c.in-Some.found c.args.self.now same c.self.view_is
    (rw c.in-Some.is at c.peek-plain.ensures.found) in
    ((refl, λ _. tt, passes), record { ok = refl; some = (_, passes); none = tt; free = tt; after = tt })
