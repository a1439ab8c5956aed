use Rattle.press_trace.proofs.PageLemmas.{starts_white}
use Rattle.press_trace.proofs.page.start.Goals as goal

pub returns-in_ok-white-in_default : goal.returns-in_ok-white-in_default
returns-in_ok-white-in_default c = starts_white c.args.before c.args.after.now c.in_ok-white-in_default.field-0 c.in_ok-white-in_default.ensures
