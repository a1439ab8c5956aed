use Rattle.std.proofs.Common.{sym}
use Rattle.press_core.proofs.PressLemmas.{IsPress-new}
use Rattle.press_core.proofs.press.Press.with_engines.Goals as goal

pub invariant_of-result : goal.invariant_of-result
invariant_of-result c = rw (c.new.ensures, c.new-2.ensures.empty, c.in_ok-new.ensures.ok) (IsPress-new c.args.engines (sym c.in_ok-new.ensures.are))
