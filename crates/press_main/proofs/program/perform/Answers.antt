use Rattle.std.proofs.Common.{ap, refl, inl, inr}
use Rattle.press_words.specs.View.{request_seen, source_seen}
use Rattle.press_main.specs.Program.{Makes}
use Rattle.press_main.proofs.ProgramLemmas.{of-file, of-standard, opens-nothing}
use Rattle.press_main.proofs.program.perform.Goals as goal

pub returns-in-Standard-clause-performs : goal.returns-in-Standard-clause-performs
returns-in-Standard-clause-performs g c =
    let asked = request_seen c.args.request.now in
    elim c.try_making.ensures.makes [
      | inl makes ↦ inl (of-standard _ _ (Makes asked.source asked.made _) _ _ _ (ap source_seen c.in-Standard.is) makes)
      | inr nothing ↦ inr nothing
    ]

pub returns-in-Ok-clause-performs : goal.returns-in-Ok-clause-performs
returns-in-Ok-clause-performs g c =
    let asked = request_seen c.args.request.now in
    elim c.try_making-status.ensures.makes [
      | inl makes ↦ inl (of-file _ _ (Makes asked.source asked.made _) _ _ _ c.in-File.name.now (ap source_seen c.in-File.is)
          (inl (
            c.in-Ok.ensures.present,
            refl,
            g.P.Inputs.Input.ReadDevice.failed c.in-Ok.file,
            g.P.Inputs.Input.ReadDevice.reads c.in-Ok.file,
            _,
            rw c.in-Ok.ensures.bytes at makes,
            record {
              told = refl;
              written = refl;
              made = refl;
              cut = refl;
              spoiled = refl;
              input = λ fails. c.close.ensures.1 (inr fails);
              file = λ other. c.close.ensures.1 (inl other);
            },
          )))
      | inr nothing ↦ inr (record {
        answers = nothing.answers;
        told = nothing.told;
        unread = refl;
        unwritten = nothing.unwritten;
        unmade = nothing.unmade;
      })
    ]

pub returns-in-Err-clause-performs : goal.returns-in-Err-clause-performs
returns-in-Err-clause-performs g c =
    let asked = request_seen c.args.request.now in
    inl (of-file _ _ (Makes asked.source asked.made _) _ _ _ c.in-File.name.now (ap source_seen c.in-File.is)
    (inr (opens-nothing c.in-Err.error _ _ _ (λ is _. c.in-Err.ensures.missing is)
    (record { answers = c.report.ensures.status; told = c.report.ensures.told; unread = refl; unwritten = refl; unmade = refl }))))
