-- Bodies that run and go on by commands that do no more than change the machine.
use Rattle.std.proofs.Common.{◌≡◌, List, [], ◌∷◌, ◌++◌, Vec, false, refl, sym, ap, subst, arith}
use Rattle.std.specs.declared.alloc.Global.{Global}
use Rattle.press_cmd.specs.Token.{Token}
use Rattle.press_cmd.specs.declared.variant.Kind.{Kind}
use Rattle.press_table.specs.declared.effect.Sent.{Sent}
use Rattle.press_engine.specs.declared.activation.Activation.{Activation}
use Rattle.press_engine.specs.declared.machine.Machine.{Machine}
use Rattle.press_engine.specs.Changing.{OnlyChanges}
use Rattle.press_engine.specs.Engine.{IsOfKind}
use Rattle.press_engine.specs.Machine.{StepResult, silent}
use Rattle.press_engine.specs.Running.{ChangesEach, GoesOn, RunsThrough, RunsTo}
use Rattle.press_engine.specs.Stack.{continuation, HasNext}
use Rattle.press_engine.specs.Stepping.{used_up, step_inner, stepped_of}
use Rattle.press_engine.specs.Trace.{last_machine, joined}
use Rattle.press_engine.proofs.EndsLemmas.{ended-not}
use Rattle.press_engine.proofs.ItemsLemmas.{inner-gives}
use Rattle.press_engine.proofs.StackLaws.{inner-continuation}
use Rattle.press_engine.proofs.StepLemmas.{steps-to}

-- such commands, and then one more
pub each-then : (given : List Token) (command : Token) (old between new : Machine) → ChangesEach given old between → OnlyChanges command between new
    → ChangesEach (given ++ command ∷ []) old new
each-then [] command old between new is does = (new, subst (λ (machine : Machine). OnlyChanges command machine new) is does, refl)
each-then (first ∷ given) command old between new (next, one, more) does = (next, one, each-then given command next between new more does)

-- What was owed is items in which nothing goes out, and then others.
pub record PassesItems (owing : List StepResult) (before after : Machine) (others : List StepResult) : Type 0 where
  pub items : List StepResult
  pub nothing : joined items ≡ []
  pub ends : last_machine before items ≡ after
  pub owes : owing ≡ items ++ others

not-used : (given : List Token) (command : Token) (rest : List Token) → used_up (given ++ command ∷ rest) ≡ false
not-used [] command rest = refl
not-used (one ∷ given) command rest = refl

-- a step by such a command, where another is left
changed-step : (activation : Activation) (command : Token) (body : List Token) (outer : List Activation) (old new : Machine) → used_up body ≡ false
    → OnlyChanges command old new
    → step_inner activation command body outer old ≡ record { item = silent new; activations = record activation { body = body } ∷ outer }
changed-step activation command body outer old new more does = grind (arith, ended-not)

each-items : (activation : Activation) (given : List Token) (command : Token) (rest : List Token) (outer : List Activation) (old new : Machine)
    → ChangesEach given old new
    → PassesItems (continuation (record activation { body = given ++ command ∷ rest } ∷ outer) old) old new
    (continuation (record activation { body = command ∷ rest } ∷ outer) new)
each-items activation [] command rest outer old new is = record {
  items = [];
  nothing = refl;
  ends = sym is;
  owes = ap (λ (machine : Machine). continuation (record activation { body = command ∷ rest } ∷ outer) machine) (sym is);
}
each-items activation (one ∷ given) command rest outer old new (next, does, more) =
    let body = given ++ command ∷ rest in
    let others = each-items activation given command rest outer next new more in
    record {
      items = silent next ∷ others.items;
      nothing = others.nothing;
      ends = others.ends;
      owes = grind (arith, inner-continuation activation one body outer old, changed-step activation one body outer old next (not-used given command rest) does, others.owes);
    }

-- so do the bodies that go on by them
pub goes_on : (old new : List Activation) (before after : Machine) → GoesOn old before new after
    → PassesItems (continuation old before) before after (continuation new after)
goes_on old new before after goes = grind (arith, each-items)

first-next : (bodies : List Activation) (activation : Activation) (given : List Token) (command : Token) (rest : List Token) (outer : List Activation)
    → bodies ≡ record activation { body = given ++ command ∷ rest } ∷ outer → HasNext bodies
first-next bodies activation [] command rest outer is = (activation, command, rest, outer, is)
first-next bodies activation (one ∷ given) command rest outer is = (activation, one, given ++ command ∷ rest, outer, is)

pub was_next : (old new : List Activation) (before after : Machine) → GoesOn old before new after → HasNext old
was_next old new before after goes = first-next old goes.activation goes.given goes.command goes.rest goes.outer goes.was

pub still_next : (old new : List Activation) (before after : Machine) → GoesOn old before new after → HasNext new
still_next old new before after goes = (goes.activation, goes.command, goes.rest, goes.outer, goes.is)

-- the step behind them, as what is answered of it
pub runs-to : (bodies : List Activation) (before : Machine) (kind : Kind) (sent : Vec Sent Global) (new : Machine) (still : List Activation)
    → RunsThrough bodies before (stepped_of new sent.items still) → IsOfKind new.last kind
    → RunsTo bodies before (record { kind = kind; sent = sent }) new still
runs-to bodies before kind sent new still runs is_kind = search (arith, steps-to, inner-gives)
