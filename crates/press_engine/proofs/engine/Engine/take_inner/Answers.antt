use Rattle.std.proofs.Common.{[], Some, None, Bool, if◌then◌else◌, refl, sym, subst}
use Rattle.press_engine.specs.declared.machine.Machine.{Machine}
use Rattle.press_engine.specs.Engine.{Steps, StepsTo}
use Rattle.press_engine.specs.Stack.{continuation}
use Rattle.press_engine.proofs.engine.Engine.take_inner.Goals as goal

pub returns-clause-steps : goal.returns-clause-steps
returns-clause-steps c =
    let running = c.args.self.now.bodies in
    let new = c.step_inner.new in
    let Q : Machine → Type 0 = λ machine. StepsTo (continuation running machine) c.in-Ok.step new.machine new.self in
    let P : Bool → Type 0 =
    λ failed.
    Steps (if failed then None else Some c.args.self.now.machine.value) (continuation (if failed then [] else running))
    c.in-Ok.step (if failed then None else Some new.machine) (if failed then [] else new.self) in
    subst P (sym c.if-self.false)
    (record { before = c.args.self.now.machine.value; after = new.machine; was = refl; is = refl; steps = subst Q c.deref_mut.ensures.value c.in-Ok.ensures.steps })
