use Rattle.std.proofs.Common.{Some, None, Bool, if◌then◌else◌, refl, sym, subst}
use Rattle.press_cmd.specs.View.{token}
use Rattle.press_engine.specs.declared.machine.Machine.{Machine}
use Rattle.press_engine.specs.Changing.{ChangesOrStays, Changed}
use Rattle.press_engine.proofs.engine.Engine.change.Goals as goal

pub returns-clause-changes : goal.returns-clause-changes
returns-clause-changes c =
    let command = token c.args.command.now in
    let before = c.args.self.now.machine.value in
    let after = c.change.new.self in
    let Q : Machine → Type 0 = λ machine. ChangesOrStays c.in-Ok.changes command machine after in
    let P : Bool → Type 0 = λ failed. Changed c.in-Ok.changes command (if failed then None else Some before) (if failed then None else Some after) in
    subst P (sym c.if-self.false)
    (record { before = before; after = after; was = refl; is = refl; does = subst Q c.deref_mut.ensures.value c.in-Ok.ensures.changes })
