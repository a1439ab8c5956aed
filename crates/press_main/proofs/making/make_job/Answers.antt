use Rattle.std.proofs.Common.{[], sym, refl, inl, inr}
use Rattle.std.proofs.lemmas.List.{append-nil}
use Rattle.press_writer.specs.Job.{job_bytes}
use Rattle.press_sink.proofs.OutputsLemmas.{made_whole, made_prefix, made_given_up}
use Rattle.press_main.proofs.making.make_job.Goals as goal

pub returns-in-Err-clause-err : goal.returns-in-Err-clause-err
returns-in-Err-clause-err g c =
    inr (record {
      fits = c.in_ok-check.ensures.ok;
      told = c.in-Err.ensures.fault c.in_ok-check.ensures.ok;
      made = made_given_up _ _ _ _ _ _ _ _ refl c.in-Ok.ensures.made c.in-Ok.ensures.empty c.in-Err.ensures.err c.abandon.ensures.gives;
    })

pub returns-then-is_err-clause-err : goal.returns-then-is_err-clause-err
returns-then-is_err-clause-err g c =
    let bytes = job_bytes c.args.ticket.now c.args.images.now in
    inr (record {
      fits = c.in_ok-check.ensures.ok;
      told = inl refl;
      made = made_prefix c.close.result _ _ _ _ _ _ _ _ refl c.in-Ok.ensures.made c.in-Ok.ensures.empty (bytes, [], sym (append-nil bytes), c.in_default-write_job.ensures.ok) c.close.ensures.closes;
    })

pub returns-clause-ok : goal.returns-clause-ok
returns-clause-ok g c = record {
  fits = c.in_ok-check.ensures.ok;
  made = made_whole c.close.result _ _ _ _ _ _ _ _ (sym c.if-is_err.ensures.value) refl c.in-Ok.ensures.made c.in-Ok.ensures.empty c.in_default-write_job.ensures.ok c.close.ensures.closes;
  prints = c.in_default-write_job.ensures.prints c.in_ok-check.ensures.ok;
}
