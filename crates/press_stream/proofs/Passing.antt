-- Commands of one byte each that a job takes at once.
use Rattle.std.proofs.Common.{◌≡◌, ◌≢◌, ◌∙◌, ◌≤◌, ◌<◌, ◌+◌, ℕ, zero, suc, List, [], ◌∷◌, ◌++◌, length, Bool, false, Option, Some, None, IsSome, IfSome, IsTrue, refl, sym, ap, subst, arith, append-nil}
use Rattle.std.specs.Prelude.{option_map}
use Rattle.std.specs.List.{AllByRecursion}
use Rattle.std.proofs.lemmas.List.{length-append}
use Rattle.press_cmd.specs.Token.{Token, Escape, Grouped, Ungrouped, Control, Text, Broken, Uel, PjlLine, ForeignByte}
use Rattle.press_cmd.specs.Kinds.{kind_of}
use Rattle.press_cmd.specs.Split.{Steps}
use Rattle.press_scan.specs.declared.passing.Passed.{Passed}
use Rattle.press_scan.specs.Passing.{PassesEach, IsOneByte, PassesOver}
use Rattle.press_scan.specs.ScannerState.{ScannerState}
use Rattle.press_engine.specs.declared.machine.Machine.{Machine}
use Rattle.press_table.specs.declared.state.State.{State}
use Rattle.press_engine.specs.Machine.{StepResult}
use Rattle.press_table.specs.Passing.{HasNoEffect, SkipsBytes, SkipsControls}
use Rattle.press_engine.specs.Passing.{passed}
use Rattle.press_engine.specs.Fold.{run_all}
use Rattle.press_engine.specs.Trace.{trace}
use Rattle.press_engine.proofs.FoldLaws.{trace_tells_the_run}
use Rattle.press_engine.proofs.PassingLaws.{passed-more, passing_is_counted}
use Rattle.press_stream.specs.Answers.{PassesOn}
use Rattle.press_stream.specs.Meaning.{Owes}
use Rattle.press_stream.specs.State.{JobState}
use Rattle.press_stream.specs.Steps.{CarriesIdle, PassesOrStays, PassesRun, passed_each}
use Rattle.press_stream.proofs.Going.{CarriesOn-none, passes-to_end}

-- ---- what a scanner passes over

-- The end of input and the room stay, and there are fewer bytes, by one for each command at least.
pub record StaysSo (old : ScannerState) (count : ℕ) (new : ScannerState) : Type 0 where
  pub ended : new.ended ≡ old.ended
  pub room : new.room ≡ old.room
  pub fewer : count + length new.bytes ≤ length old.bytes

pub each-stays : (given : List Token) (old new : ScannerState) → PassesEach old given new → StaysSo old (length given) new
each-stays [] old new is = rw is (record { ended = refl; room = refl; fewer = omega arith })
each-stays (command ∷ given) old new (next, passes, others) =
    let more = each-stays given next new others in
    record { ended = more.ended ∙ passes.ended; room = more.room ∙ passes.room; fewer = omega (arith, more.fewer, passes.used) }

each-steps : (given : List Token) (old new : ScannerState) → old.ended ≡ false → PassesEach old given new → Steps old.mode old.bytes given new.mode new.bytes
each-steps [] old new going is = rw is (refl, refl)
each-steps (command ∷ given) old new going (next, passes, others) =
    let (used, bytes_are, head) = passes.head going in
    (used, next.bytes, next.mode, bytes_are, head, each-steps given next new (passes.ended ∙ going) others)

each-owes : (given : List Token) (old new : JobState) → old.exited ≡ false → new.exited ≡ false → PassesEach old.held given new.held
    → (more : List ℕ) (commands : List Token) → Owes new more commands → Owes old more (given ++ commands)
each-owes [] old new going still is more commands owes = grind arith
each-owes (command ∷ given) old new going still (next, passes, others) more commands owes =
    let between : JobState = record old { held = next; exited = false } in
    passes-to_end old between command more (given ++ commands) going refl passes (each-owes given between new refl still others more commands owes)

-- ---- what an engine leaves of them

-- the machine behind several is counted at once
each-passed : (prefix : List Token) (last : Token) (machine : Machine)
    → passed_each (prefix ++ last ∷ []) machine ≡ passed (length (prefix ++ last ∷ [])) (kind_of last) machine
each-passed [] last machine = refl
each-passed (command ∷ prefix) last machine =
    each-passed prefix last (passed 1 (kind_of command) machine) ∙ passed-more (length (prefix ++ last ∷ [])) command last machine

no_effect : (controls : Bool) (state : State) → SkipsBytes state → (IsTrue controls → SkipsControls state) → (command : Token) → IsOneByte controls command → HasNoEffect state command
no_effect controls state bytes some (Text byte) one = bytes.text byte
no_effect controls state bytes some (ForeignByte byte) one = bytes.foreign byte
no_effect controls state bytes some (Control byte) one = some one byte
no_effect controls state bytes some (Escape byte) one = absurd one
no_effect controls state bytes some (Grouped character group field end payload) one = absurd one
no_effect controls state bytes some (Ungrouped character field end payload) one = absurd one
no_effect controls state bytes some (Broken broken) one = absurd one
no_effect controls state bytes some Uel one = absurd one
no_effect controls state bytes some (PjlLine line) one = absurd one

no_effects : (controls : Bool) (state : State) → SkipsBytes state → (IsTrue controls → SkipsControls state) → (commands : List Token)
    → AllByRecursion (IsOneByte controls) commands → AllByRecursion (HasNoEffect state) commands
no_effects controls state bytes some [] all = tt
no_effects controls state bytes some (command ∷ commands) all = (no_effect controls state bytes some command all.0, no_effects controls state bytes some commands all.1)

pub CarriesIdle-some : (controls : Bool) (held next : ScannerState) (old new : Option Machine) (over : Passed) → IsSome old
    → IfSome old (λ machine. SkipsBytes machine.state) → (IsTrue controls → IfSome old (λ machine. SkipsControls machine.state))
    → PassesOver controls held over next → new ≡ option_map (passed over.count over.kind) old → CarriesIdle held old next new
CarriesIdle-some controls held next (Some machine) new over running bytes some passes is =
    let given = passes.prefix ++ passes.last ∷ [] in
    let run = passing_is_counted passes.prefix passes.last machine (no_effects controls machine.state bytes some given passes.bytes) in
    let ends : passed over.count over.kind machine ≡ (run_all given machine).machine = rw (passes.count, passes.kind) (sym (ap (λ (r : StepResult). r.machine) run)) in
    record {
      given = given;
      each = passes.each;
      from = machine;
      starts = refl;
      ends = is ∙ ap (λ (m : Machine). Some m) ends;
      nothing = ap (λ (r : StepResult). r.outputs) run;
    }
CarriesIdle-some controls held next None new over running bytes some passes is = absurd (cc)

some_passed : (old : JobState) (count : ℕ) (new : JobState) → PassesRun old count new → 0 < count → PassesOrStays old count new
some_passed old zero new run some = absurd (omega (arith, some))
some_passed old (suc more) new run some = run

pub some_fewer : (old : JobState) (count : ℕ) (new : JobState) → PassesOrStays old count new → count ≢ 0 → length new.held.bytes < length old.held.bytes
some_fewer old zero new stays some = absurd (some refl)
some_fewer old (suc more) new run some = omega (arith, run.count_is, (each-stays run.given old.held new.held run.each).fewer)

-- a run of them
pub passes_run : (controls : Bool) (old new : JobState) (over : Passed) → IsSome old.machine
    → IfSome old.machine (λ machine. SkipsBytes machine.state) → (IsTrue controls → IfSome old.machine (λ machine. SkipsControls machine.state))
    → PassesOver controls old.held over new.held → new.machine ≡ option_map (passed over.count over.kind) old.machine
    → (old.bodies ≡ []) × (new.bodies ≡ []) → (old.exited ≡ false) × (new.exited ≡ false) → PassesOrStays old over.count new
passes_run controls old new over running bytes some passes is idle going = by old.machine refl running bytes some is where
  by : (machine : Option Machine) → old.machine ≡ machine → IsSome machine → IfSome machine (λ machine. SkipsBytes machine.state)
      → (IsTrue controls → IfSome machine (λ machine. SkipsControls machine.state)) → new.machine ≡ option_map (passed over.count over.kind) machine
      → PassesOrStays old over.count new
  by None same running bytes some is = absurd (cc)
  by (Some machine) same running bytes some is =
      let given = passes.prefix ++ passes.last ∷ [] in
      let ends : passed over.count over.kind machine ≡ passed_each given machine = rw (passes.count, passes.kind) (sym (each-passed passes.prefix passes.last machine)) in
      some_passed old over.count new (record {
        given = given;
        count_is = passes.count;
        each = passes.each;
        from = machine;
        starts = same;
        none = no_effects controls machine.state bytes some given passes.bytes;
        ends = is ∙ ap (λ (m : Machine). Some m) ends;
        idle = idle;
        going = going;
      }) (omega (arith, passes.count, length-append passes.prefix (passes.last ∷ [])))

-- ---- how a job goes on by them

pub passes_on : (old new : JobState) → old.exited ≡ false → new.exited ≡ false → old.bodies ≡ [] → new.bodies ≡ [] → CarriesIdle old.held old.machine new.held new.machine → PassesOn old new
passes_on old new going still idle none carries =
    let given = carries.given in
    let from = carries.from in
    let items = trace given from in
    let tells = trace_tells_the_run given from in
    let stays = each-stays given old.held new.held carries.each in
    record {
      goes = (
        given,
        items,
        record {
          so_far = λ now.
              let before : old.held.ended ≡ false = sym stays.ended ∙ now in
              let P : List ℕ → Type 0 = λ all. Steps old.held.mode all given new.held.mode new.held.bytes in
              (before, subst P (sym (append-nil old.held.bytes)) (each-steps given old.held new.held before carries.each));
          to_end = each-owes given old new going still carries.each;
          from = from;
          starts = carries.starts;
          ends = carries.ends ∙ ap (λ (m : Machine). Some m) (sym tells.machine);
          are = grind (arith, append-nil);
        },
        sym (tells.outputs ∙ carries.nothing),
      );
      idle = λ _. none;
      inside = λ some. absurd (some idle);
      fewer = rw (going, still) (omega (arith, stays.fewer));
      ended = stays.ended;
    }

-- in a job that runs no more nothing is taken
pub PassesOn-none : (job : JobState) → IsSome job.machine → job.bodies ≡ [] → PassesOn job job
PassesOn-none job running idle = grind (arith, CarriesOn-none)
