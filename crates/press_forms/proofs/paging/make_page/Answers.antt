use Rattle.press_units.proofs.ExitLemmas.{exit-is}
use Rattle.press_forms.proofs.PagingLemmas.{page_made, page_stopped}
use Rattle.press_forms.proofs.paging.make_page.Goals as goal

pub returns-in_err-write_open_page-clause-err : goal.returns-in_err-write_open_page-clause-err
returns-in_err-write_open_page-clause-err g c =
    let stands = c.in_ok-stands.ensures.stands in
    rw (exit-is c.from_residual-in_err-write_open_page.ensures.1)
    (page_stopped _ _ _ stands.1 c.args.steps c.in_ok-stands.stands.taken c.in_ok-stands.stands.stepper c.args.name.now _ _
    c.in_err-write_open_page.field-0.0 stands.2 c.in_err-write_open_page.ensures.makes)

pub returns-clause-ok : goal.returns-clause-ok
returns-clause-ok g c =
    let stands = c.in_ok-stands.ensures.stands in
    page_made _ _ _ stands.1 c.args.steps c.in_ok-stands.stands.taken c.in_ok-stands.stands.stepper c.args.name.now _ _ stands.2
    c.in_ok-write_open_page.ensures.makes
