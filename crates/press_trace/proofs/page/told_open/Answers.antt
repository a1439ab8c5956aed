use Rattle.press_trace.proofs.PageLemmas.{told_open}
use Rattle.press_trace.proofs.page.told_open.Goals as goal

pub returns-clause-told : goal.returns-clause-told
returns-clause-told c =
    told_open c.args.before c.args.after.now c.in_ok-page.page _ _ c.in_ok-page.ensures c.in_ok-change.ensures.told
