use Rattle.std.proofs.Common.{refl}
use Rattle.press_forms.proofs.PagingLemmas.{tells_end, tells_no_end}
use Rattle.press_forms.proofs.paging.page_file.Goals as goal

pub returns-then-taken-steps-clause-pages : goal.returns-then-taken-steps-clause-pages
returns-then-taken-steps-clause-pages g c =
    let made = c.in-Ok.ensures.ok in
    record {
      done = λ _. (made.0, tells_end c.args.steps made.0.1.items c.in-Ok.taken _ _ made.1 c.if-taken-steps.true c.tell.ensures);
      stops = λ fails. absurd (fails refl);
      unwritten = refl;
    }

pub returns-else-taken-steps-clause-pages : goal.returns-else-taken-steps-clause-pages
returns-else-taken-steps-clause-pages g c =
    let made = c.in-Ok.ensures.ok in
    record {
      done = λ _. (made.0, tells_no_end c.args.steps made.0.1.items c.in-Ok.taken _ made.1 c.if-taken-steps.false);
      stops = λ fails. absurd (fails refl);
      unwritten = refl;
    }
