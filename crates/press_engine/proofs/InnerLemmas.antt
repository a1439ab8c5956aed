-- The first command of the innermost body is taken: what the code is lent, and what it leaves.
use Rattle.std.proofs.Common.{◌≡◌, ◌≢◌, ◌⊎◌, ◌∙◌, ◌-◌, ℕ, List, [], ◌∷◌, ◌++◌, Option, None, is_some, false, Result, Ok, Err, IfOk, Vec, length, reverse, slice_index_or, slice_set, refl, sym, ap, subst, arith}
use Rattle.std.specs.declared.alloc.Global.{Global}
use Rattle.press_cmd.specs.Token.{Token}
use Rattle.press_table.specs.declared.effect.Effect.{Effect}
use Rattle.press_table.specs.declared.effect.Sent.{Sent}
use Rattle.press_table.specs.Memory.{TakesMemory}
use Rattle.press_engine.specs.declared.activation.Activation.{Activation}
use Rattle.press_engine.specs.declared.machine.Machine.{Machine}
use Rattle.press_engine.specs.Running.{ChangesEach, GoesOn, TakesOn, RunsThrough}
use Rattle.press_engine.specs.Stack.{EndsOverlay}
use Rattle.press_engine.specs.Stepping.{TakesFirst, begun_by, finished, LeavesWork, MayTakeMemory, stepped_of}
use Rattle.press_engine.proofs.CommandItems.{taking_in, begins_at, effect_at}
use Rattle.press_engine.proofs.EndsLemmas.{begins-from}
use Rattle.press_engine.proofs.NestingLemmas.{innermost-lies, innermost-set}

-- what a command begins that was taken, and whether it takes memory
pub taken-begins : (activation : Activation) (command : Token) (old new : Machine) (effect : Option Effect) → TakesFirst activation command old effect new
    → begun_by activation.in_overlay activation.macro_levels effect new ≡ begins_at (taking_in activation command old)
taken-begins activation command old new effect does = grind (arith, begins-from)

pub taken-memory : (activation : Activation) (command : Token) (old new : Machine) (effect : Option Effect) → TakesFirst activation command old effect new
    → MayTakeMemory effect new.state → TakesMemory (effect_at (taking_in activation command old))
taken-memory activation command old new effect does makes = grind arith

-- the first command of a body that has one
pub first-of : (body : List Token) → body ≢ [] → (command : Token) × (rest : List Token) × (body ≡ command ∷ rest)
first-of [] some = absurd (some refl)
first-of (command ∷ rest) some = (command, rest, refl)

-- no effect
pub none-of : (effect : Option Effect) → is_some effect ≡ false → effect ≡ None
none-of effect is = grind arith

-- one more command is taken of a body that has gone on
pub takes-behind : (first old new : Activation) (before between after : Machine) (given : List Token) (effect : Option Effect) (command : Token) (rest : List Token)
    → first.body ≡ given ++ old.body → old ≡ record first { body = old.body } → ChangesEach given before between → old.body ≡ command ∷ rest
    → TakesFirst old command between effect after × (new ≡ record old { body = rest }) → TakesOn first before effect new after
takes-behind first old new before between after given effect command rest was stays each is (takes, left) = record {
  given = given;
  command = command;
  rest = rest;
  was = was ∙ ap (λ (body : List Token). given ++ body) is;
  between = between;
  each = each;
  takes = grind (arith, subst (λ (one : Activation). TakesFirst one command between effect after) stays takes);
  left = left ∙ ap (λ (one : Activation). record one { body = rest }) stays;
}

module _ (items : List Activation) (count : ℕ) (lent : Activation) (counted : count ≡ length items) (lies : lent ≡ slice_index_or items (count - 1) lent)
    (activation : Activation) (command : Token) (rest : List Token) (outer : List Activation)
    (is : reverse items ≡ record activation { body = command ∷ rest } ∷ outer) where
  pub lent-is : lent ≡ record activation { body = command ∷ rest }
  lent-is = lies ∙ innermost-lies items is count counted lent

  pub inner-taken : (left : Activation) (old new : Machine) (effect : Option Effect)
      → ((command : Token) (rest : List Token) → lent.body ≡ command ∷ rest → TakesFirst lent command old effect new × (left ≡ record lent { body = rest }))
      → (begun_by lent.in_overlay lent.macro_levels effect new ≡ begins_at (taking_in activation command old))
      × (reverse (slice_set items (count - 1) left) ≡ record activation { body = rest } ∷ outer)
      × (MayTakeMemory effect new.state → TakesMemory (effect_at (taking_in activation command old)))
  inner-taken left old new effect takes =
      let (took, behind) = takes command rest (ap (λ (one : Activation). one.body) lent-is) in
      let P : Activation → Type 0 = λ one. TakesFirst one command old effect new in
      let first : TakesFirst activation command old effect new = subst P lent-is took in (
        (λ i. begun_by (lent-is i).in_overlay (lent-is i).macro_levels effect new) ∙ taken-begins activation command old new effect first,
        innermost-set items is count counted left ∙ ap (λ (one : Activation). one ∷ outer) behind
            ∙ ap (λ (one : Activation). record one { body = rest } ∷ outer) lent-is,
        taken-memory activation command old new effect first,
      )

  -- Several are taken: the bodies go on to the last of them.
  pub inner-goes : (given : List Token) (last : Token) (more : List Token) (old between : Machine) → lent.body ≡ given ++ last ∷ more → ChangesEach given old between
      → GoesOn (reverse items) old (record lent { body = last ∷ more } ∷ outer) between
  inner-goes given last more old between was each = record {
    activation = lent;
    given = given;
    command = last;
    rest = more;
    outer = outer;
    was = is ∙ ap (λ (one : Activation). one ∷ outer) (sym lent-is) ∙ ap (λ (body : List Token). record lent { body = body } ∷ outer) was;
    is = refl;
    each = each;
  }

  pub runs-through : {E : Type 0} (left : Activation) (old new after : Machine) (effect : Option Effect) (result : Result (Vec Sent Global) E) (still : List Activation)
      → TakesOn lent old effect left new
      → IfOk result (λ out. stepped_of after out.items still ≡ finished (begun_by lent.in_overlay lent.macro_levels effect new) (reverse (slice_set items (count - 1) left)))
      → IfOk result (λ out. RunsThrough (reverse items) old (stepped_of after out.items still))
  unfolding inner-goes
  runs-through left old new after effect (Ok out) still takes steps = record {
    left = record lent { body = takes.command ∷ takes.rest } ∷ outer;
    between = takes.between;
    goes = inner-goes takes.given takes.command takes.rest old takes.between takes.was takes.each;
    steps =
        steps
        ∙ (λ i. finished (taken-begins lent takes.command takes.between new effect takes.takes i) (innermost-set items is count counted left i))
        ∙ ap (λ (one : Activation). finished (begins_at (taking_in lent takes.command takes.between)) (one ∷ outer)) takes.left;
  }
  runs-through left old new after effect (Err error) still takes steps = tt

  pub inner-memory : (left : Activation) (old new : Machine) (effect : Option Effect) → (takes : TakesOn lent old effect left new)
      → MayTakeMemory effect new.state ⊎ LeavesWork (begun_by lent.in_overlay lent.macro_levels effect new) (reverse (slice_set items (count - 1) left))
      → TakesMemory (effect_at (taking_in lent takes.command takes.between)) ⊎ EndsOverlay (record lent { body = takes.rest } ∷ outer)
  inner-memory left old new effect takes h1 = grind (arith, innermost-set)
