use Rattle.press_trace.proofs.page.told_page.Goals as goal

pub returns-in-Some-clause-told : goal.returns-in-Some-clause-told
returns-in-Some-clause-told c = rw c.in-Some.is c.told_open.ensures.told
