use Rattle.std.proofs.Common.{None, refl, inl, inr, arith}
use Rattle.press_files.specs.Edge.{edge}
use Rattle.press_forms.specs.declared.debugging.DebugError.TheVariants.{Input}
use Rattle.press_main.proofs.ProgramLemmas.{behind-some, debugging-closed, unopened}
use Rattle.press_main.proofs.program.debug_file.Goals as goal

pub returns-in-Ok-clause-debugs : goal.returns-in-Ok-clause-debugs
returns-in-Ok-clause-debugs g c =
    let debugged = c.debug_behind-file in
    let some = behind-some c.args.prefix.now _ _ _ (rw c.in-Ok.ensures.bytes at debugged.ensures.debugs) in (
      some.0,
      debugging-closed _ _ _ _ _ (edge g.R.ReadDevice g.P.Inputs.NamedInputs g.P.Outputs.NamedOutputs g.P.Out.WriteDevice g.P.Err.Teller c.args.reader.now c.args.devices.now) (edge g.R.ReadDevice g.P.Inputs.NamedInputs g.P.Outputs.NamedOutputs g.P.Out.WriteDevice g.P.Err.Teller debugged.new.reader debugged.new.devices)
          (λ fails. c.close.ensures.1 (inr fails)) some.1,
    )

pub returns-in-Err-clause-debugs : goal.returns-in-Err-clause-debugs
returns-in-Err-clause-debugs g c = (
  None,
  (
    record {
      done = λ zero. absurd (omega (arith, c.report.ensures.status, zero));
      stops = λ other. (c.report.ensures.status, Input c.in-Err.error, c.report.ensures.told, inl (unopened c.in-Err.error _ _ (λ is _. c.in-Err.ensures.missing is), refl, refl));
    },
    refl,
  ),
)
