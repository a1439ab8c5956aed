use Rattle.std.proofs.Common.{◌≡◌, ◌∙◌, refl, sym, subst, arith}
use Rattle.press_scan.specs.ScannerState.{ScannerState}
use Rattle.press_engine.specs.Engine.{machine_of}
use Rattle.press_stream.specs.declared.phase.Phase.TheVariants.{Running}
use Rattle.press_stream.specs.Answers.{PassesOn}
use Rattle.press_stream.specs.State.{job_state}
use Rattle.press_stream.proofs.Passing.{each-stays, CarriesIdle-some, passes_on, passes_run, PassesOn-none}
use Rattle.press_stream.proofs.carrying.pass.Goals as goal

pub returns-then-not-skips_bytes-clause-passes : goal.returns-then-not-skips_bytes-clause-passes
returns-then-not-skips_bytes-clause-passes c = grind (arith, PassesOn-none (job_state c.args.scanner.now c.args.engine.now Running) c.requires.running c.requires.none)

pub returns-in-None-clause-passes : goal.returns-in-None-clause-passes
returns-in-None-clause-passes c =
    let same : c.pass.new.self ≡ c.args.scanner.now = rw c.in-None.is at c.pass.ensures in
    subst (λ (held : ScannerState). PassesOn (job_state c.args.scanner.now c.args.engine.now Running) (job_state held c.args.engine.now Running)) (sym same)
    (PassesOn-none (job_state c.args.scanner.now c.args.engine.now Running) c.requires.running c.requires.none)

pub returns-in-Some-clause-passes : goal.returns-in-Some-clause-passes
returns-in-Some-clause-passes c =
    let next = c.pass.new.self in
    let new = c.pass-in-Some.new.self in
    let carries = CarriesIdle-some c.skips_controls.result c.args.scanner.now next (machine_of c.args.engine.now) (machine_of new) c.in-Some.passed c.requires.running
    (c.skips_bytes.ensures c.if-not-skips_bytes.false) c.skips_controls.ensures (rw c.in-Some.is at c.pass.ensures) c.pass-in-Some.ensures.passed in
    passes_on (job_state c.args.scanner.now c.args.engine.now Running) (job_state next new Running) refl refl c.requires.none (c.pass-in-Some.ensures.bodies ∙ c.requires.none) carries

pub returns-in-Some-clause-counts : goal.returns-in-Some-clause-counts
returns-in-Some-clause-counts c =
    let next = c.pass.new.self in
    let new = c.pass-in-Some.new.self in
    passes_run c.skips_controls.result (job_state c.args.scanner.now c.args.engine.now Running) (job_state next new Running) c.in-Some.passed
    c.requires.running (c.skips_bytes.ensures c.if-not-skips_bytes.false) c.skips_controls.ensures (rw c.in-Some.is at c.pass.ensures)
    c.pass-in-Some.ensures.passed (c.requires.none, c.pass-in-Some.ensures.bodies ∙ c.requires.none) (refl, refl)

pub returns-in-Some-clause-fits : goal.returns-in-Some-clause-fits
returns-in-Some-clause-fits c = grind (arith, each-stays)
