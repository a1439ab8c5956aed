use Rattle.std.proofs.Common.{[], Some, None, Bool, if◌then◌else◌, refl, sym, subst}
use Rattle.press_cmd.specs.View.{token}
use Rattle.press_engine.specs.declared.machine.Machine.{Machine}
use Rattle.press_engine.specs.Engine.{Steps, StepsTo}
use Rattle.press_engine.specs.Machine.{macro_levels}
use Rattle.press_engine.specs.Trace.{trace_at}
use Rattle.press_engine.proofs.engine.Engine.take_step.Goals as goal

pub returns-clause-steps : goal.returns-clause-steps
returns-clause-steps c =
    let owing = trace_at macro_levels (token c.args.command) in
    let new = c.step.new in
    let Q : Machine → Type 0 = λ machine. StepsTo (owing machine) c.in-Ok.step new.machine new.self in
    let P : Bool → Type 0 =
    λ failed.
    Steps (if failed then None else Some c.args.self.now.machine.value) owing c.in-Ok.step
    (if failed then None else Some new.machine) (if failed then [] else new.self) in
    subst P (sym c.if-self.false)
    (record { before = c.args.self.now.machine.value; after = new.machine; was = refl; is = refl; steps = subst Q c.deref_mut.ensures.value c.in-Ok.ensures.steps })
