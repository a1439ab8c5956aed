-- How a job goes on.
use Rattle.std.proofs.Common.{◌≡◌, ◌≢◌, ◌∙◌, ◌≤◌, ◌+◌, inl, inr, arith, length, ℕ, List, [], ◌∷◌, ◌++◌, Bool, true, false, Option, Some, None, IsSome, is_some, MatchBool, refl, sym, ap, subst}
use Rattle.std.proofs.lemmas.Bool.{false≢true, true≢false}
use Rattle.std.proofs.lemmas.List.{append_assoc, append-nil}
use Rattle.press_cmd.specs.ParserState.{ParserState}
use Rattle.press_cmd.specs.Split.{Steps, ClosedFrom, closing}
use Rattle.press_cmd.specs.Token.{Token, Uel}
use Rattle.press_cmd.proofs.Splits.{some_split, steps-more, steps-then}
use Rattle.press_cmd.specs.declared.variant.Kind.{Kind}
use Rattle.press_scan.specs.Gives.{Passes, IsDone}
use Rattle.press_scan.specs.ScannerState.{ScannerState}
use Rattle.press_sink.specs.Sending.{Output, Ending, Complete, ForMemory, GoesOut}
use Rattle.press_sink.proofs.SendingLemmas.{goes-then, goes-stopped}
use Rattle.press_engine.specs.declared.activation.Activation.{Activation}
use Rattle.press_engine.specs.declared.machine.Machine.{Machine}
use Rattle.press_engine.specs.Machine.{StepResult}
use Rattle.press_engine.specs.Stack.{continuation, HasNext}
use Rattle.press_engine.specs.Trace.{last_machine, joined, trace}
use Rattle.press_stream.specs.State.{JobState, with_piece, input_ended, most_commands}
use Rattle.press_stream.specs.Steps.{TakesGiven, Does}
use Rattle.press_stream.specs.Meaning.{with_exit, left, Owes, CarriesOut, CarriesOn, Stops}
use Rattle.press_stream.specs.Answers.{TakesOf, StopsAtDue}
use Rattle.press_engine.proofs.TraceLaws.{joined-append}
use Rattle.press_stream.proofs.Items.{joined-one, left-none, left-append, left-then, last-append}

-- the value of an option that has one
pub some_of : {X : Type 0} (option : Option X) → IsSome option → (value : X) × (option ≡ Some value)
some_of (Some value) some = (value, refl)
some_of None some = absurd (false≢true some)

-- an option has one value
pub same_some : {X : Type 0} (option : Option X) (one other : X) → option ≡ Some one → option ≡ Some other → one ≡ other
same_some option one other p q = cc

-- ---- what is owed

-- a job owes something, whatever comes
pub Owes-some : (job : JobState) (bytes : List ℕ) → (job.held.ended ≡ true → bytes ≡ []) → (commands : List Token) × Owes job bytes commands
Owes-some job bytes none_after = continuation job.exited where
  continuation : (exited : Bool)
      → (commands : List Token)
      × ((job.held.ended ≡ true → bytes ≡ [])
      × MatchBool exited (commands ≡ [])
      ((closed : List Token) × ClosedFrom job.held.mode (job.held.bytes ++ bytes) closed × (commands ≡ with_exit closed)))
  continuation true = ([], (none_after, refl))
  continuation false =
      let found = some_split job.held.mode (job.held.bytes ++ bytes) in
      let closed = found.commands ++ closing found.mode found.rest in
      (with_exit closed, (none_after, (closed, (found.commands, found.mode, found.rest, found.split, refl), refl)))

-- steps, and then what closes what they leave
pub closed-then : (from : ParserState) (bytes : List ℕ) (commands closed : List Token) (mode : ParserState) (rest : List ℕ)
    → Steps from bytes commands mode rest → ClosedFrom mode rest closed → ClosedFrom from bytes (commands ++ closed)
closed-then from bytes commands closed mode rest steps ends = (
  commands ++ ends.0,
  ends.1,
  ends.2,
  record { steps = steps-then from bytes commands ends.0 mode ends.1 rest ends.2 steps ends.3.steps; short = ends.3.short },
  ap (λ others. commands ++ others) ends.4 ∙ sym (append_assoc commands ends.0 _),
)

-- ---- from one call to the next

-- no command changes nothing
stays : (old new : JobState) (bytes : List ℕ) → IsSome old.machine → new.machine ≡ old.machine → new.bodies ≡ old.bodies
    → (new.held.ended ≡ false → (old.held.ended ≡ false) × Steps old.held.mode (old.held.bytes ++ bytes) [] new.held.mode new.held.bytes)
    → ((more : List ℕ) (commands : List Token) → Owes new more commands → Owes old (bytes ++ more) commands)
    → CarriesOut old bytes [] [] new
stays old new bytes running same still so_far to_end =
    let some = some_of old.machine running in
    record {
      so_far = so_far;
      to_end = to_end;
      from = some.0;
      starts = some.1;
      ends = same ∙ some.1;
      are = left-none old.bodies some.0 ∙ ap (λ (bodies : List Activation). continuation bodies some.0) (sym still);
    }

pub CarriesOut-none : (job : JobState) → IsSome job.machine → CarriesOut job [] [] [] job
CarriesOut-none job running = grind (arith, stays job job [] running refl refl (λ going. (going, (refl, append-nil job.held.bytes))) (λ more commands owes. owes))

pub CarriesOut-push : (job : JobState) (piece : List ℕ) → IsSome job.machine → job.held.ended ≡ false → CarriesOut job piece [] [] (with_piece piece job)
CarriesOut-push job piece running going =
    stays job (with_piece piece job) piece running refl refl (λ _. (going, (refl, refl)))
    (λ more commands owes. (λ ended. absurd (true≢false (sym ended ∙ going)), continuation job.exited more commands owes.1)) where
      continuation : (exited : Bool) (more : List ℕ) (commands : List Token)
          → MatchBool exited (commands ≡ [])
          ((closed : List Token) × ClosedFrom job.held.mode ((job.held.bytes ++ piece) ++ more) closed × (commands ≡ with_exit closed))
          → MatchBool exited (commands ≡ [])
          ((closed : List Token) × ClosedFrom job.held.mode (job.held.bytes ++ (piece ++ more)) closed × (commands ≡ with_exit closed))
      continuation true more commands none = none
      continuation false more commands some =
          let P : List ℕ → Type 0 = λ all. ClosedFrom job.held.mode all some.0 in
          (some.0, subst P (append_assoc job.held.bytes piece more) some.1, some.2)

pub CarriesOut-ends : (job : JobState) → IsSome job.machine → CarriesOut job [] [] [] (input_ended job)
CarriesOut-ends job running =
    stays job (input_ended job) [] running refl refl (λ going. absurd (true≢false going)) (λ more commands owes. (λ _. owes.0 refl, owes.1))

pub CarriesOut-then : (old between new : JobState) (bytes more : List ℕ) (given others : List Token) (items rest : List StepResult)
    → CarriesOut old bytes given items between → CarriesOut between more others rest new
    → CarriesOut old (bytes ++ more) (given ++ others) (items ++ rest) new
CarriesOut-then old between new bytes more given others items rest first second =
    let from = first.from in
    let at = last_machine from items in
    let same : second.from ≡ at = same_some between.machine second.from at second.starts first.ends in
    let last = last-append items rest from in
    let second_are : left others between.bodies at ≡ rest ++ continuation new.bodies (last_machine at rest) = grind (arith, continuation) in
    record {
      so_far = λ going.
          let last = second.so_far going in
          let start = first.so_far last.0 in
          let longer = steps-more old.held.mode (old.held.bytes ++ bytes) more given between.held.mode between.held.bytes start.1 in
          let P : List ℕ → Type 0 = λ all. Steps old.held.mode all (given ++ others) new.held.mode new.held.bytes in (
            start.0,
            subst P (append_assoc old.held.bytes bytes more)
                (steps-then old.held.mode ((old.held.bytes ++ bytes) ++ more) given others between.held.mode new.held.mode
                (between.held.bytes ++ more) new.held.bytes longer last.1),
          );
      to_end = λ last commands owes.
          let P : List ℕ → Type 0 = λ all. Owes old all ((given ++ others) ++ commands) in
          let Q : List Token → Type 0 = λ all. Owes old (bytes ++ (more ++ last)) all in
          subst P (sym (append_assoc bytes more last)) (subst Q (sym (append_assoc given others commands)) (first.to_end (more ++ last) (others ++ commands) (second.to_end last commands owes)));
      from = from;
      starts = first.starts;
      ends = second.ends ∙ ap (λ (machine : Machine). Some (last_machine machine rest)) same ∙ ap (λ (machine : Machine). Some machine) (sym last);
      are = grind (arith, append_assoc, continuation, left-then);
    }

-- ---- the outputs of what was carried out

-- nothing was carried out
pub CarriesOn-none : (job : JobState) → IsSome job.machine → CarriesOn job [] job []
CarriesOn-none job running = ([], [], CarriesOut-none job running, refl)

pub CarriesOn-push : (job : JobState) (piece : List ℕ) → IsSome job.machine → job.held.ended ≡ false → CarriesOn job piece (with_piece piece job) []
CarriesOn-push job piece running going = ([], [], CarriesOut-push job piece running going, refl)

pub CarriesOn-ends : (job : JobState) → IsSome job.machine → CarriesOn job [] (input_ended job) []
CarriesOn-ends job running = ([], [], CarriesOut-ends job running, refl)

-- commands, and then others
pub CarriesOn-then : (old between new : JobState) (bytes more : List ℕ) (went others : List Output) → CarriesOn old bytes between went
    → CarriesOn between more new others → CarriesOn old (bytes ++ more) new (went ++ others)
CarriesOn-then old between new bytes more went others (given, items, first, is) (commands, rest, second, are) = (
  given ++ commands,
  items ++ rest,
  CarriesOut-then old between new bytes more given commands items rest first second,
  (λ i. is i ++ are i) ∙ sym (joined-append items rest),
)

-- the others of no more bytes
pub CarriesOn-after : (old between new : JobState) (bytes : List ℕ) (went others : List Output) → CarriesOn old bytes between went
    → CarriesOn between [] new others → CarriesOn old bytes new (went ++ others)
CarriesOn-after old between new bytes went others first second = grind (arith, append-nil bytes, CarriesOn-then old between new bytes [] went others first second)

-- a job that went on runs
pub CarriesOn-to : (old new : JobState) (bytes : List ℕ) (went : List Output) → CarriesOn old bytes new went → IsSome new.machine
CarriesOn-to old new bytes went goes = ap is_some goes.2.ends

-- the next command of what a scanner holds
passes_owed : (held next : ScannerState) (command : Token) (more : List ℕ) (closed : List Token) → Passes held command next
    → (next.ended ≡ true → more ≡ []) → ClosedFrom next.mode (next.bytes ++ more) closed
    → ClosedFrom held.mode (held.bytes ++ more) (command ∷ closed)
passes_owed held next command more closed passes none_after ends = by held.ended refl where
  by : (ended : Bool) → held.ended ≡ ended → ClosedFrom held.mode (held.bytes ++ more) (command ∷ closed)
  by true e =
      let none = none_after (passes.ended ∙ e) in
      let P : List ℕ → Type 0 = λ all. ClosedFrom held.mode all (command ∷ closed) in
      let Q : List ℕ → Type 0 = λ all. ClosedFrom next.mode (next.bytes ++ all) closed in
      let R : List ℕ → Type 0 = λ all. ClosedFrom next.mode all closed in
      subst P (sym (append-nil held.bytes) ∙ ap (λ all. held.bytes ++ all) (sym none)) (passes.closes e closed (subst R (append-nil next.bytes) (subst Q none ends)))
  by false e =
      let (used, bytes_are, head) = passes.head e in
      let steps = steps-more held.mode held.bytes more (command ∷ []) next.mode next.bytes (used, next.bytes, next.mode, bytes_are, head, (refl, refl)) in
      closed-then held.mode (held.bytes ++ more) (command ∷ []) closed next.mode (next.bytes ++ more) steps ends

pub passes-to_end : (old new : JobState) (command : Token) (more : List ℕ) (commands : List Token) → old.exited ≡ false
    → new.exited ≡ false → Passes old.held command new.held → Owes new more commands → Owes old more (command ∷ commands)
passes-to_end old new command more commands going still passes owes =
    let P : Bool → Type 0 = λ exited. MatchBool exited (commands ≡ []) ((closed : List Token) × ClosedFrom new.held.mode (new.held.bytes ++ more) closed × (commands ≡ with_exit closed)) in
    let Q : Bool → Type 0 =
    λ exited.
    MatchBool exited (command ∷ commands ≡ [])
    ((closed : List Token) × ClosedFrom old.held.mode (old.held.bytes ++ more) closed
    × (command ∷ commands ≡ with_exit closed)) in
    let owing = subst P still owes.1 in (
      λ ended. owes.0 (passes.ended ∙ ended),
      subst Q (sym going) (command ∷ owing.0, passes_owed old.held new.held command more owing.0 passes owes.0 owing.1, ap (λ all. command ∷ all) owing.2),
    )

-- the exit that is added
pub exit_owed : (job : JobState) → job.exited ≡ false → job.held.ended ≡ true → IsDone job.held → Owes job [] (Uel ∷ [])
exit_owed job going ended done =
    let P : List ℕ → Type 0 = λ all. ClosedFrom job.held.mode all [] in
    let Q : Bool → Type 0 = λ exited. MatchBool exited (Uel ∷ [] ≡ []) ((closed : List Token) × ClosedFrom job.held.mode (job.held.bytes ++ []) closed × (Uel ∷ [] ≡ with_exit closed)) in
    (λ _. refl, subst Q (sym going) ([], subst P (sym (append-nil job.held.bytes)) (done.closed ended), refl))

-- What a step takes of the stream: the bytes so far, what is owed behind it, and how many commands are left.
pub taken-so_far : (old new : JobState) (given : List Token) → TakesGiven old given new → new.held.ended ≡ false
    → (old.held.ended ≡ false) × Steps old.held.mode (old.held.bytes ++ []) given new.held.mode new.held.bytes
taken-so_far old new given (inl (_, none, held, _)) going = grind (arith, append-nil)
taken-so_far old new given (inr (inl (command, is, _, _, _, passes))) going = grind (arith, append-nil)
taken-so_far old new given (inr (inr (_, _, _, _, held, ended, _))) going = cc

pub taken-to_end : (old new : JobState) (given : List Token) → TakesGiven old given new → (more : List ℕ) (commands : List Token) → Owes new more commands → Owes old more (given ++ commands)
taken-to_end old new given (inl (_, none, held, exited)) more commands owes = grind arith
taken-to_end old new given (inr (inl (command, is, _, going, still, passes))) more commands owes = grind (arith, passes-to_end)
taken-to_end old new given (inr (inr (is, _, going, exited, held, ended, done))) more commands owes = grind (arith, exit_owed)

pub taken-fewer : (old new : JobState) (given : List Token) → TakesGiven old given new → length given + most_commands new ≤ most_commands old
taken-fewer old new given (inl (_, none, held, exited)) = rw (none, held, exited) (omega arith)
taken-fewer old new given (inr (inl (command, is, _, going, still, passes))) = rw (is, going, still) (omega (arith, passes.used))
taken-fewer old new given (inr (inr (is, _, going, exited, held, _, _))) = rw (is, held, going, exited) (omega arith)

pub taken-ended : (old new : JobState) (given : List Token) → TakesGiven old given new → new.held.ended ≡ old.held.ended
taken-ended old new given (inl (_, _, held, _)) = ap (λ (now : ScannerState). now.ended) held
taken-ended old new given (inr (inl (_, _, _, _, _, passes))) = passes.ended
taken-ended old new given (inr (inr (_, _, _, _, held, _, _))) = ap (λ (now : ScannerState). now.ended) held

pub next_runs : (bodies : List Activation) → HasNext bodies → bodies ≢ []
next_runs bodies (_, _, _, _, is) none = cc

pub taken-of : (old new : JobState) (given : List Token) → TakesGiven old given new → TakesOf old given
taken-of old new given (inl (next, none, _, _)) = inl (next_runs old.bodies next, none)
taken-of old new given (inr (inl (command, is, idle, going, _, passes))) = inr (command, (idle, going, inl (new.held, passes)), is)
taken-of old new given (inr (inr (is, idle, going, _, _, ended, done))) = inr (Uel, (idle, going, inr (ended, done, refl)), is)

-- A step that did an item.
pub CarriesOut-one : (old new : JobState) (item : StepResult) (kind : Kind) → (did : Does old item kind new) → CarriesOut old [] did.given (item ∷ []) new
CarriesOut-one old new item kind did = record {
  so_far = taken-so_far old new did.given did.takes;
  to_end = taken-to_end old new did.given did.takes;
  from = did.from;
  starts = did.starts;
  ends = did.ends;
  are = did.are;
}

pub CarriesOut-took : (old new : JobState) (item : StepResult) (kind : Kind) → Does old item kind new
    → (given : List Token) × TakesOf old given × CarriesOut old [] given (item ∷ []) new
CarriesOut-took old new item kind did = (did.given, taken-of old new did.given did.takes, CarriesOut-one old new item kind did)

pub CarriesOn-one : (old new : JobState) (item : StepResult) (kind : Kind) (went : List Output) → Does old item kind new → went ≡ item.outputs → CarriesOn old [] new went
CarriesOn-one old new item kind went did is = (did.given, item ∷ [], CarriesOut-one old new item kind did, is ∙ sym (joined-one item))

-- Whatever a step takes of the stream, something is owed behind it.
taken_owed : (job : JobState) (given : List Token) (more : List ℕ) → (job.held.ended ≡ true → more ≡ []) → TakesOf job given → (others : List Token) × Owes job more (given ++ others)
taken_owed job given more none_after (inl (_, none)) = grind (arith, Owes-some job more none_after)
taken_owed job given more none_after (inr (command, (_, going, inl (next, passes)), is)) =
    let new : JobState = record { held = next; machine = job.machine; bodies = job.bodies; exited = false } in
    let others = Owes-some new more (λ ended. none_after (sym passes.ended ∙ ended)) in
    let P : List Token → Type 0 = λ prefix. Owes job more (prefix ++ others.0) in
    (others.0, subst P (sym is) (passes-to_end job new command more others.0 going refl passes others.1))
taken_owed job given more none_after (inr (command, (_, going, inr (ended, done, exit)), is)) =
    let P : List Token → Type 0 = λ prefix. Owes job more (prefix ++ []) in
    let Q : Token → Type 0 = λ one. Owes job more (one ∷ []) in
    let R : List ℕ → Type 0 = λ all. Owes job all (Uel ∷ []) in
    ([], subst P (sym is) (subst Q (sym exit) (subst R (sym (none_after ended)) (exit_owed job going ended done))))

-- a step that stopped, and what was left behind it
pub Stops-due : (job : JobState) (bytes : List ℕ) (ending : Ending) (went : List Output) → (ending ≡ Complete → ⊥)
    → (job.held.ended ≡ true → bytes ≡ []) → StopsAtDue job ending went → Stops job bytes ending went
Stops-due job bytes ending went stops none_after stopped =
    let (others, owes) = taken_owed job stopped.given bytes none_after stopped.takes in
    let all = left stopped.given job.bodies stopped.from in
    let behind = trace others (last_machine stopped.from all) in
    let more = stopped.others ++ behind in
    let is : left (stopped.given ++ others) job.bodies stopped.from ≡ stopped.item ∷ more = grind (arith, left-append) in
    record {
      commands = stopped.given ++ others;
      owes = owes;
      from = stopped.from;
      starts = stopped.starts;
      goes = subst (GoesOut ending went) (sym (ap joined is)) (goes-stopped ending went stopped.item.outputs (joined more) stops stopped.goes);
    }

-- a job that stopped after it had gone on
pub Stops-then : (old between : JobState) (bytes more : List ℕ) (ending : Ending) (went others : List Output)
    → CarriesOn old bytes between went → Stops between more ending others → Stops old (bytes ++ more) ending (went ++ others)
Stops-then old between bytes more ending went others (given, items, goes, is) stops =
    let at = last_machine goes.from items in
    let same : stops.from ≡ at = same_some between.machine stops.from at stops.starts goes.ends in
    let rest = joined (left stops.commands between.bodies at) in
    let behind : GoesOut ending others rest = subst (λ (machine : Machine). GoesOut ending others (joined (left stops.commands between.bodies machine))) same stops.goes in
    let owed = joined (left (given ++ stops.commands) old.bodies goes.from) in
    let all : owed ≡ joined items ++ rest =
    grind (arith, left-then given stops.commands old.bodies between.bodies goes.from items goes.are, joined-append items (left stops.commands between.bodies at)) in
    record {
      commands = given ++ stops.commands;
      owes = goes.to_end more stops.commands stops.owes;
      from = goes.from;
      starts = goes.starts;
      goes = subst (λ (front : List Output). GoesOut ending (front ++ others) owed) (sym is)
          (subst (GoesOut ending (joined items ++ others)) (sym all) (goes-then ending (joined items) others rest behind));
    }

-- memory ran out before anything went out
pub Stops-memory : (job : JobState) (bytes : List ℕ) → IsSome job.machine → (job.held.ended ≡ true → bytes ≡ []) → Stops job bytes ForMemory []
Stops-memory job bytes running none_after =
    let (commands, owes) = Owes-some job bytes none_after in
    let some = some_of job.machine running in
    record { commands = commands; owes = owes; from = some.0; starts = some.1; goes = (joined (left commands job.bodies some.0), refl) }
