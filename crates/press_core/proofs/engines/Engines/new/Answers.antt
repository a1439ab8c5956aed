use Rattle.std.proofs.Common.{None, arith}
use Rattle.std.proofs.lemmas.List.{take-replicate}
use Rattle.press_core.proofs.engines.Engines.new.Goals as goal

pub returns-clause-ok : goal.returns-clause-ok
returns-clause-ok c = take-replicate c.args.count 4 None (omega (arith, c.if-count.false))
