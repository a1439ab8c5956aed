-- Jobs that stopped at a fault, chained.
use Rattle.std.proofs.Common.{◌≡◌, ◌∙◌, inl, inr, ℕ, List, [], ◌∷◌, ◌++◌, false, Option, IsSome, OnOk, Some, None, Result, Ok, Err, refl, sym, ap, subst, append_assoc, arith}
use Rattle.std.proofs.lemmas.Bool.{true≢false}
use Rattle.std.proofs.lemmas.List.{append-nil}
use Rattle.press_cmd.specs.declared.variant.Kind.{Kind}
use Rattle.press_sink.specs.SinkLog.{SinkLog, under}
use Rattle.press_sink.specs.Sending.{Output, Complete, AtSheet, AtReply, ForMemory, Refused, HandsOut}
use Rattle.press_sink.proofs.SendingLemmas.{HandsOut-then, HandsOut-as, Took-none}
use Rattle.press_stream.specs.declared.fault.JobError.{JobError}
use Rattle.press_stream.specs.declared.fault.JobError.TheVariants as errors
use Rattle.press_stream.specs.declared.step.Step.{Step}
use Rattle.press_stream.specs.declared.step.Step.TheVariants as answers
use Rattle.press_stream.specs.State.{JobState, NeedsInput, with_piece, input_ended}
use Rattle.press_stream.specs.Meaning.{CarriesOn}
use Rattle.press_stream.specs.Answers.{IsGoing, IsIdle, Takes, CarriesOrStops, Feeds, Finishes, Faults, FaultsBefore, ending_by, fault_of}
use Rattle.press_stream.proofs.Going.{CarriesOn-none, CarriesOn-one, CarriesOn-then, CarriesOn-after, CarriesOn-push, CarriesOn-ends, Stops-then, Stops-due}

-- a job that has failed has no machine
none_is_no_some : {X : Type 0} (option : Option X) (value : X) → option ≡ None → option ≡ Some value → ⊥
none_is_no_some option value p q = cc

-- a job that stopped after it had gone on
pub Faults-then : (old between new : JobState) (bytes more : List ℕ) (error : JobError) (went others : List Output)
    → CarriesOn old bytes between went → Faults between more error new others → Faults old (bytes ++ more) error new (went ++ others)
Faults-then old between new bytes more errors.SinkFault went others goes faults = (faults.0, Stops-then old between bytes more AtSheet went others goes faults.1)
Faults-then old between new bytes more errors.ReplyFault went others goes faults = (faults.0, Stops-then old between bytes more AtReply went others goes faults.1)
Faults-then old between new bytes more errors.NoMemory went others goes faults = (faults.0, Stops-then old between bytes more ForMemory went others goes faults.1)
Faults-then old between new bytes more errors.Failed went others goes faults = absurd (none_is_no_some between.machine _ faults.0 goes.2.ends)
Faults-then old between new bytes more errors.ReadFault went others goes faults = absurd faults.1.goes
Faults-then old between new bytes more errors.AfterEnd went others goes faults = absurd faults.1.goes

-- the fault of a step, whatever bytes come
pub FaultsBefore-step : (old new : JobState) (error : JobError) (went : List Output) → Takes old (Err error) new went → FaultsBefore old [] error new went
FaultsBefore-step old new errors.SinkFault went faults = λ more none_after. (faults.0, Stops-due old more AtSheet went (λ e. cc) none_after faults.1)
FaultsBefore-step old new errors.ReplyFault went faults = λ more none_after. (faults.0, Stops-due old more AtReply went (λ e. cc) none_after faults.1)
FaultsBefore-step old new errors.NoMemory went faults = λ more none_after. (faults.0, Stops-due old more ForMemory went (λ e. cc) none_after faults.1)
FaultsBefore-step old new errors.Failed went faults = λ more none_after. faults
FaultsBefore-step old new errors.ReadFault went faults = absurd faults.1.goes
FaultsBefore-step old new errors.AfterEnd went faults = absurd faults.1.goes

-- the fault where nothing comes behind, in a job that takes more bytes
pub Faults-now : (old new : JobState) (bytes : List ℕ) (error : JobError) (went : List Output) → old.held.ended ≡ false
    → FaultsBefore old bytes error new went → Faults old bytes error new went
Faults-now old new bytes error went going faults = grind (arith, append-nil bytes, faults [] (λ ended. absurd (true≢false (sym ended ∙ going))))

-- the fault before bytes that came, too
pub FaultsBefore-more : (old new : JobState) (bytes rest : List ℕ) (error : JobError) (went : List Output) → FaultsBefore old bytes error new went
    → FaultsBefore old (bytes ++ rest) error new went
FaultsBefore-more old new bytes rest error went faults = grind (arith, append_assoc)

-- no call before the end of input answers that a read failed
pub no_read_fault : (old new : JobState) (bytes : List ℕ) (error : JobError) (went : List Output) → old.held.ended ≡ false → error ≡ errors.ReadFault
    → FaultsBefore old bytes error new went → ⊥
no_read_fault old new bytes error went going is faults =
    let P : JobError → Type 0 = λ fault. Faults old bytes fault new went in
    (subst P is (Faults-now old new bytes error went going faults)).1.goes

-- bytes of which nothing is left behind others
none_behind : (bytes more : List ℕ) → bytes ++ more ≡ [] → more ≡ []
none_behind [] more e = e
none_behind (byte ∷ bytes) more e = absurd (cc)

-- ---- what goes on, and then goes on or stops

pub CarriesOrStops-then : (old between new : JobState) (bytes piece : List ℕ) (result : Result (Unit {0}) JobError) (went others : List Output)
    → between.held.ended ≡ old.held.ended → CarriesOn old bytes between went → CarriesOrStops between piece result new others
    → CarriesOrStops old (bytes ++ piece) result new (went ++ others)
CarriesOrStops-then old between new bytes piece (Ok done) went others still goes then = CarriesOn-then old between new bytes piece went others goes then
CarriesOrStops-then old between new bytes piece (Err error) went others still goes faults = grind (arith, Faults-then, none_behind, append_assoc)

-- the same of what the sinks took
pub HandsOut-goes : (old between new : JobState) (bytes piece : List ℕ) (result : Result (Unit {0}) JobError) (tag : ℕ) (before middle after : SinkLog)
    → between.held.ended ≡ old.held.ended → HandsOut Complete (CarriesOn old bytes between) (under tag before middle)
    → HandsOut (ending_by (fault_of result)) (CarriesOrStops between piece result new) (under tag middle after)
    → HandsOut (ending_by (fault_of result)) (CarriesOrStops old (bytes ++ piece) result new) (under tag before after)
HandsOut-goes old between new bytes piece result tag before middle after still goes then = grind (arith, CarriesOrStops-then, HandsOut-then)

-- nothing goes out
pub HandsOut-nothing : (old new : JobState) (bytes : List ℕ) (tag : ℕ) (told : SinkLog) → CarriesOn old bytes new [] → HandsOut Complete (CarriesOn old bytes new) (under tag told told)
HandsOut-nothing old new bytes tag told goes = record { went = []; is = goes; took = Took-none tag Complete told refl refl }

-- a step that was taken, or found nothing to take
CarriesOn-step : (old new : JobState) (step : Step) (went : List Output) → IsSome old.machine → Takes old (Ok step) new went → CarriesOn old [] new went
CarriesOn-step old new (answers.Ran kind) went running (item, did, is) = CarriesOn-one old new item kind went did is
CarriesOn-step old new answers.Hungry went running (hungry, same, none) = rw (same, none) (CarriesOn-none old running)
CarriesOn-step old new answers.Ended went running (over, same, none) = rw (same, none) (CarriesOn-none old running)

pub HandsOut-step : (old new : JobState) (tag : ℕ) (step : Step) (before after : SinkLog) → IsSome old.machine
    → HandsOut Complete (Takes old (Ok step) new) (under tag before after) → HandsOut Complete (CarriesOn old [] new) (under tag before after)
HandsOut-step old new tag step before after running =
    HandsOut-as Complete (Takes old (Ok step) new) (CarriesOn old [] new) (under tag before after) (λ went takes. CarriesOn-step old new step went running takes)

-- a step that stopped
pub HandsOut-stopped : (old new : JobState) (tag : ℕ) (error : JobError) (before after : SinkLog)
    → HandsOut (ending_by (Some error)) (Takes old (Err error) new) (under tag before after)
    → HandsOut (ending_by (Some error)) (CarriesOrStops old [] (Err error) new) (under tag before after)
HandsOut-stopped old new tag error before after = grind (arith, FaultsBefore-step, HandsOut-as)

-- no step was taken, and nothing changed
pub idle_of : (old new : JobState) (step : Step) (went : List Output) → ((kind : Kind) → step ≡ answers.Ran kind → ⊥) → Takes old (Ok step) new went
    → IsIdle new × (new.held.ended ≡ old.held.ended)
idle_of old new (answers.Ran kind) went not takes = absurd (not kind refl)
idle_of old new answers.Hungry went not (hungry, same, none) = grind arith
idle_of old new answers.Ended went not (over, same, none) = grind arith

-- ---- pieces

-- what was fed before the end of input
pub Feeds-goes : (old new : JobState) (piece : List ℕ) (result : Result (Unit {0}) JobError) (went : List Output) → old.held.ended ≡ false
    → OnOk result (NeedsInput new) → CarriesOrStops old piece result new went → Feeds old piece result new went
Feeds-goes old new piece (Ok done) went going hungry goes = (goes, hungry)
Feeds-goes old new piece (Err errors.SinkFault) went going hungry faults = faults
Feeds-goes old new piece (Err errors.ReplyFault) went going hungry faults = faults
Feeds-goes old new piece (Err errors.NoMemory) went going hungry faults = faults
Feeds-goes old new piece (Err errors.Failed) went going hungry faults = faults
Feeds-goes old new piece (Err errors.ReadFault) went going hungry faults = faults
Feeds-goes old new piece (Err errors.AfterEnd) went going hungry faults = absurd (Faults-now old new piece errors.AfterEnd went going faults).1.goes

pub HandsOut-feeds : (old new : JobState) (piece : List ℕ) (result : Result (Unit {0}) JobError) (tag : ℕ) (before after : SinkLog) → old.held.ended ≡ false
    → OnOk result (NeedsInput new) → HandsOut (ending_by (fault_of result)) (CarriesOrStops old piece result new) (under tag before after)
    → HandsOut (ending_by (fault_of result)) (Feeds old piece result new) (under tag before after)
HandsOut-feeds old new piece result tag before after going hungry = grind (arith, Feeds-goes, HandsOut-as)

-- a fault before the rest of a piece came
pub HandsOut-before : (old new : JobState) (bytes rest : List ℕ) (tag : ℕ) (error : JobError) (before after : SinkLog)
    → HandsOut (ending_by (Some error)) (CarriesOrStops old bytes (Err error) new) (under tag before after)
    → HandsOut (ending_by (Some error)) (CarriesOrStops old (bytes ++ rest) (Err error) new) (under tag before after)
HandsOut-before old new bytes rest tag error before after = grind (arith, FaultsBefore-more, HandsOut-as)

pub CarriesOrStops-feeds : (old new : JobState) (piece : List ℕ) (result : Result (Unit {0}) JobError) (went : List Output) → old.held.ended ≡ false
    → Feeds old piece result new went → CarriesOrStops old piece result new went
CarriesOrStops-feeds old new piece (Ok done) went going feeds = feeds.0
CarriesOrStops-feeds old new piece (Err errors.SinkFault) went going feeds = feeds
CarriesOrStops-feeds old new piece (Err errors.ReplyFault) went going feeds = feeds
CarriesOrStops-feeds old new piece (Err errors.NoMemory) went going feeds = feeds
CarriesOrStops-feeds old new piece (Err errors.Failed) went going feeds = feeds
CarriesOrStops-feeds old new piece (Err errors.ReadFault) went going feeds = feeds
CarriesOrStops-feeds old new piece (Err errors.AfterEnd) went going feeds = absurd (true≢false (sym feeds.0.1 ∙ going))

pub no_read_fault-fed : (old new : JobState) (piece : List ℕ) (error : JobError) (went : List Output) → old.held.ended ≡ false → error ≡ errors.ReadFault
    → Feeds old piece (Err error) new went → ⊥
no_read_fault-fed old new piece error went going is feeds = no_read_fault old new piece error went going is (CarriesOrStops-feeds old new piece (Err error) went going feeds)

-- a piece that was refused
pub Feeds-refused : (job : JobState) (piece : List ℕ) (tag : ℕ) (error : JobError) (told : SinkLog) → IsGoing job (Err error)
    → HandsOut (ending_by (Some error)) (Feeds job piece (Err error) job) (under tag told told)
Feeds-refused job piece tag errors.Failed told none = record { went = []; is = λ more none_after. (none, refl, refl); took = Took-none tag Refused told refl refl }
Feeds-refused job piece tag errors.AfterEnd told after = record { went = []; is = (after, refl, refl); took = Took-none tag Refused told refl refl }
Feeds-refused job piece tag errors.SinkFault told none = absurd none
Feeds-refused job piece tag errors.ReplyFault told none = absurd none
Feeds-refused job piece tag errors.ReadFault told none = absurd none
Feeds-refused job piece tag errors.NoMemory told none = absurd none

-- A part of a piece was taken, and carried out.
pub HandsOut-part : (old between new : JobState) (part : List ℕ) (result : Result (Unit {0}) JobError) (tag : ℕ) (before after : SinkLog) → NeedsInput old
    → between ≡ with_piece part old → HandsOut (ending_by (fault_of result)) (CarriesOrStops between [] result new) (under tag before after)
    → HandsOut (ending_by (fault_of result)) (CarriesOrStops old part result new) (under tag before after)
HandsOut-part old between new part result tag before after hungry is hands =
    let P : JobState → Type 0 = λ job. HandsOut (ending_by (fault_of result)) (CarriesOrStops job [] result new) (under tag before after) in
    rw (append-nil part) at (HandsOut-goes old (with_piece part old) new part [] result tag before before after refl (HandsOut-nothing old (with_piece part old) part tag before (CarriesOn-push old part hungry.running hungry.going)) (subst P is hands))

-- ---- the end of input

-- the input ended, and the job drained
pub Finishes-drain : (old between new : JobState) (result : Result (Unit {0}) JobError) (went : List Output) → IsSome old.machine → between ≡ input_ended old
    → OnOk result (IsIdle new × (new.held.ended ≡ between.held.ended)) → CarriesOrStops between [] result new went → Finishes old result new went
Finishes-drain old between new (Ok done) went running is (idle, still) goes =
    let P : JobState → Type 0 = λ job. CarriesOn job [] new went in (
      CarriesOn-after old (input_ended old) new [] [] went (CarriesOn-ends old running) (subst P is goes),
      elim idle [
        | inl hungry ↦ absurd (true≢false (sym (still ∙ ap (λ (job : JobState). job.held.ended) is) ∙ hungry.going))
        | inr over ↦ over
      ],
    )
Finishes-drain old between new (Err error) went running is idle faults =
    let P : JobState → Type 0 = λ job. FaultsBefore job [] error new went in
    Faults-then old (input_ended old) new [] [] error [] went (CarriesOn-ends old running) (subst P is faults [] (λ _. refl))
