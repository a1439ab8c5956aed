-- A step leaves one item fewer.
use Rattle.std.proofs.Common.{◌<◌, [], ◌∷◌, length, ap, arith}
use Rattle.press_stream.proofs.ItemsLeft.{items_left, LeftOf-one, LeftOf-some}
use Rattle.press_stream.proofs.LeftLemmas.{left_before}
use Rattle.press_trace.specs.declared.tracer.Tracer.{Tracer}
use Rattle.press_trace.specs.Tracing.{TakesOne}

pub fewer_left : (old new : Tracer) → TakesOne old new → length (items_left new.job) < length (items_left old.job)
fewer_left old new tells =
    let after = LeftOf-some new.job tells.item.machine tells.does.ends in
    let before = LeftOf-some old.job tells.does.from tells.does.starts in
    let all = left_before old.job new.job tells.item tells.kind [] (items_left new.job) after tells.does in
    let one = LeftOf-one old.job (items_left old.job) (tells.item ∷ items_left new.job) before all in
    omega (arith, ap length one)
