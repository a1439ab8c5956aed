use Rattle.std.proofs.Common.{◌≡◌, ◌∙◌}
use Rattle.std.specs.Box.{with_value}
use Rattle.press_engine.proofs.engine.Engine.keep_all.Goals as goal

pub loop-part-preserved : goal.loop-part-preserved
loop-part-preserved c =
    let kept : record c.deref_mut.result.now { state = c.keep.new.self } ≡ c.deref_mut.result.now = λ i. record c.deref_mut.result.now { state = c.keep.ensures i } in
    (λ i. record c.loop-part.self { machine = with_value c.loop-part.self.machine ((kept ∙ c.deref_mut.ensures.value) i) }) ∙ c.loop-part.invariant
