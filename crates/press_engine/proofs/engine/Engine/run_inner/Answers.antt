use Rattle.std.proofs.Common.{[], Some, None, Bool, if◌then◌else◌, refl, sym, subst}
use Rattle.press_engine.specs.declared.machine.Machine.{Machine}
use Rattle.press_engine.specs.Running.{RunsInner, RunsTo, ComesToTakeMemory, ComesToNeedMemory}
use Rattle.press_engine.proofs.engine.Engine.run_inner.Goals as goal

pub returns-clause-runs : goal.returns-clause-runs
returns-clause-runs c =
    let running = c.args.self.now.bodies in
    let new = c.run_inner.new in
    let Q : Machine → Type 0 = λ machine. RunsTo running machine c.in-Ok.step new.machine new.self in
    let P : Bool → Type 0 =
    λ failed.
    RunsInner (if failed then None else Some c.args.self.now.machine.value) (if failed then [] else running)
    c.in-Ok.step (if failed then None else Some new.machine) (if failed then [] else new.self) in
    subst P (sym c.if-self.false)
    (record { before = c.args.self.now.machine.value; after = new.machine; was = refl; is = refl; runs = subst Q c.deref_mut.ensures.value c.in-Ok.ensures.runs })

pub returns-in_default-clause-memory : goal.returns-in_default-clause-memory
returns-in_default-clause-memory c stops =
    let running = c.args.self.now.bodies in
    let before = c.args.self.now.machine.value in
    let Q : Machine → Type 0 = λ machine. ComesToTakeMemory running machine in
    let P : Bool → Type 0 = λ failed. ComesToNeedMemory (if failed then None else Some before) (if failed then [] else running) in
    subst P (sym c.if-self.false) (subst Q c.deref_mut.ensures.value (c.in_default.ensures.memory refl))
