-- The calls of a job, one after another.
use Rattle.std.proofs.Common.{◌≡◌, ◌∙◌, ◌<◌, ◌+◌, ℕ, List, [], ◌∷◌, ◌++◌, length, take, drop, get_or, Ok, Err, Result, Option, arith}
use Rattle.std.proofs.Common.{Some, None, IsSome, OnOk, false, refl, sym, ap, subst}
use Rattle.std.specs.List.{flat_map}
use Rattle.std.proofs.KnownBytes.{Consumes-nil}
use Rattle.std.proofs.lemmas.Grind.{flat_map-append}
use Rattle.std.proofs.lemmas.Bool.{true≢false}
use Rattle.std.proofs.lemmas.List.{append-nil, take_more, take-append-drop}
use Rattle.press_sink.specs.SinkLog.{SinkLog, under}
use Rattle.press_sink.specs.Sending.{Output, Complete, AtSheet, AtReply, ForMemory, HandsOut}
use Rattle.press_sink.proofs.SendingLemmas.{HandsOut-as, HandsOut-then, Took-none}
use Rattle.press_engine.specs.declared.machine.Machine.{Machine}
use Rattle.press_stream.specs.declared.fault.JobError.{JobError}
use Rattle.press_stream.specs.declared.fault.JobError.TheVariants as errors
use Rattle.press_stream.specs.State.{JobState, opened}
use Rattle.press_stream.specs.Answers.{Pushes, CarriesOrStops, Feeds, Finishes, Faults, RunsReader, ending_by, fault_of}
use Rattle.press_stream.specs.Chain.{PrintsAll}
use Rattle.press_stream.specs.Meaning.{CarriesOn}
use Rattle.press_stream.specs.Printed.{Prints, PrintedTo, Printed, TellsMeaning}
use Rattle.press_stream.proofs.Faults.{Faults-then, Faults-now, CarriesOrStops-feeds, HandsOut-goes, HandsOut-nothing}
use Rattle.press_stream.proofs.Going.{CarriesOn-after, CarriesOn-none, CarriesOn-push, Stops-memory}
use Rattle.press_stream.proofs.MeaningLaws.{reader-means}
use Rattle.press_stream.specs.Calls.{StopsHanded, StopsRead}

-- the bytes of the first pieces, and of one more
pub pieces-next : {A : Type 0} (f : A → List ℕ) (pieces : List A) (i : ℕ) (other : A) → i < length pieces → flat_map f (take (i + 1) pieces) ≡ flat_map f (take i pieces) ++ f (get_or pieces i other)
pieces-next f pieces i other inside =
    cc (take_more pieces i other inside, flat_map-append f (take i pieces) (get_or pieces i other ∷ []), append-nil (f (get_or pieces i other)))

-- the bytes of the first pieces, of one more, and of the others
pub pieces-rest : {A : Type 0} (f : A → List ℕ) (pieces : List A) (i : ℕ) (other : A) → i < length pieces
    → (flat_map f (take i pieces) ++ f (get_or pieces i other)) ++ flat_map f (drop (i + 1) pieces) ≡ flat_map f pieces
pieces-rest f pieces i other inside =
    cc (pieces-next f pieces i other inside, flat_map-append f (take (i + 1) pieces) (drop (i + 1) pieces), take-append-drop (i + 1) pieces)

-- ---- the calls

-- a job that was opened
pub HandsOut-opened : (job : JobState) (tag : ℕ) (told : SinkLog) → job ≡ opened → HandsOut Complete (CarriesOn opened [] job) (under tag told told)
HandsOut-opened job tag told is = rw is (HandsOut-nothing opened opened [] tag told (CarriesOn-none opened refl))

pub opened-going : (job : JobState) → job ≡ opened → job.held.ended ≡ false
opened-going job is = ap (λ (one : JobState). one.held.ended) is

-- one call more
pub HandsOut-more : (bytes more all : List ℕ) (tag : ℕ) (result : Result (Unit {0}) JobError) (job new : JobState) (before middle after : SinkLog)
    → all ≡ bytes ++ more → job.held.ended ≡ false → HandsOut Complete (CarriesOn opened bytes job) (under tag before middle)
    → HandsOut (ending_by (fault_of result)) (CarriesOrStops job more result new) (under tag middle after)
    → HandsOut (ending_by (fault_of result)) (CarriesOrStops opened all result new) (under tag before after)
HandsOut-more bytes more all tag result job new before middle after is going first second =
    rw is (HandsOut-goes opened job new bytes more result tag before middle after going first second)

-- a piece that was pushed
pub pushed : (old new : JobState) (piece : List ℕ) (tag : ℕ) (result : Result (Unit {0}) JobError) (told : SinkLog) → IsSome old.machine
    → old.held.ended ≡ false → Pushes old piece result new → HandsOut (ending_by (fault_of result)) (CarriesOrStops old piece result new) (under tag told told)
pushed old new piece tag (Ok done) told running going pushes = rw pushes.2 (HandsOut-nothing old _ piece tag told (CarriesOn-push old piece running going))
pushed old new piece tag (Err errors.NoMemory) told running going pushes = record {
  went = [];
  is = λ more none_after. (pushes.2, Stops-memory old (piece ++ more) running none_after);
  took = Took-none tag ForMemory told refl refl;
}
pushed old new piece tag (Err errors.Failed) told running going pushes = cc
pushed old new piece tag (Err errors.AfterEnd) told running going pushes = absurd (true≢false (sym pushes.0.1 ∙ going))
pushed old new piece tag (Err errors.SinkFault) told running going pushes = absurd pushes
pushed old new piece tag (Err errors.ReplyFault) told running going pushes = absurd pushes
pushed old new piece tag (Err errors.ReadFault) told running going pushes = absurd pushes

-- a piece that was fed
pub fed : (old new : JobState) (piece : List ℕ) (tag : ℕ) (result : Result (Unit {0}) JobError) (before after : SinkLog) → old.held.ended ≡ false
    → HandsOut (ending_by (fault_of result)) (Feeds old piece result new) (under tag before after)
    → HandsOut (ending_by (fault_of result)) (CarriesOrStops old piece result new) (under tag before after)
fed old new piece tag result before after going = grind (arith, HandsOut-as, CarriesOrStops-feeds)

-- ---- what is printed

-- A job stopped at a fault: the bytes are printed as far as the answer says.
PrintedTo-fault : PrintsAll → (bytes : List ℕ) (error : JobError) (new : JobState) (went : List Output) → Faults opened bytes error new went
    → PrintedTo (Some error) bytes None went
PrintedTo-fault prints bytes errors.SinkFault new went faults = prints.stopped [] bytes AtSheet opened [] went (λ e. cc) (CarriesOn-none opened refl) faults.1 None
PrintedTo-fault prints bytes errors.ReplyFault new went faults = prints.stopped [] bytes AtReply opened [] went (λ e. cc) (CarriesOn-none opened refl) faults.1 None
PrintedTo-fault prints bytes errors.NoMemory new went faults = prints.stopped [] bytes ForMemory opened [] went (λ e. cc) (CarriesOn-none opened refl) faults.1 None
PrintedTo-fault prints bytes errors.Failed new went faults = cc
PrintedTo-fault prints bytes errors.ReadFault new went faults = absurd faults.1.goes
PrintedTo-fault prints bytes errors.AfterEnd new went faults = absurd faults.1.goes

-- the same of a fault whatever bytes come behind those that were handed in
pub PrintedTo-before : PrintsAll → (bytes more all : List ℕ) (tag : ℕ) (error : JobError) (new : JobState) (before after : SinkLog) → bytes ++ more ≡ all
    → HandsOut (ending_by (Some error)) (CarriesOrStops opened bytes (Err error) new) (under tag before after)
    → HandsOut (ending_by (Some error)) (PrintedTo (Some error) all None) (under tag before after)
PrintedTo-before prints bytes more all tag error new before after is = grind (arith, PrintedTo-fault, true≢false, HandsOut-as)

-- there was no memory for a job
pub PrintedTo-none : PrintsAll → (all : List ℕ) (tag : ℕ) (told : SinkLog) → HandsOut ForMemory (PrintedTo (Some errors.NoMemory) all None) (under tag told told)
PrintedTo-none prints all tag told = record {
  went = [];
  is = prints.stopped [] all ForMemory opened [] [] (λ e. cc) (CarriesOn-none opened refl) (Stops-memory opened all refl (λ ended. absurd (true≢false (sym ended)))) None;
  took = Took-none tag ForMemory told refl refl;
}

-- the end of a stream, and its fault
pub Prints-end : PrintsAll → (bytes all : List ℕ) (tag : ℕ) (job new : JobState) (before middle after : SinkLog) → all ≡ bytes
    → HandsOut Complete (CarriesOn opened bytes job) (under tag before middle) → HandsOut Complete (Finishes job (Ok tt) new) (under tag middle after)
    → HandsOut Complete (Prints all Complete new.machine) (under tag before after)
Prints-end prints bytes all tag job new before middle after is =
    HandsOut-then tag Complete (CarriesOn opened bytes job) (Finishes job (Ok tt) new) (Prints all Complete new.machine) before middle after
    (λ went others first last. subst (λ (handed : List ℕ). Prints handed Complete new.machine (went ++ others)) (sym is)
    (prints.at_end bytes new (went ++ others) (CarriesOn-after opened job new bytes went others first last.0) last.1))

pub PrintedTo-end : PrintsAll → (bytes all : List ℕ) (tag : ℕ) (error : JobError) (job new : JobState) (before middle after : SinkLog) → all ≡ bytes
    → HandsOut Complete (CarriesOn opened bytes job) (under tag before middle)
    → HandsOut (ending_by (Some error)) (Finishes job (Err error) new) (under tag middle after)
    → HandsOut (ending_by (Some error)) (PrintedTo (Some error) all None) (under tag before after)
PrintedTo-end prints bytes all tag error job new before middle after is =
    HandsOut-then tag (ending_by (Some error)) (CarriesOn opened bytes job) (Finishes job (Err error) new) (PrintedTo (Some error) all None) before middle after
    (λ went others goes faults. subst (λ (handed : List ℕ). PrintedTo (Some error) handed None (went ++ others)) (append-nil bytes ∙ sym is)
    (PrintedTo-fault prints (bytes ++ []) error new (went ++ others) (Faults-then opened job new bytes [] error went others goes faults)))

-- a run behind other calls
pub Printed-run : PrintsAll → (bytes all : List ℕ) (had left : Option (List ℕ)) (tag : ℕ) (result : Result (Unit {0}) JobError) (job new : JobState)
    (before middle after : SinkLog) → all ≡ bytes → job.held.ended ≡ false → HandsOut Complete (CarriesOn opened bytes job) (under tag before middle)
    → HandsOut (ending_by (fault_of result)) (RunsReader job had left result new) (under tag middle after)
    → HandsOut (ending_by (fault_of result)) (Printed all had left (fault_of result) new.machine) (under tag before after)
Printed-run prints bytes all had left tag result job new before middle after is going =
    HandsOut-then tag (ending_by (fault_of result)) (CarriesOn opened bytes job) (RunsReader job had left result new)
    (Printed all had left (fault_of result) new.machine) before middle after
    (λ went others goes runs. subst (λ (handed : List ℕ). Printed handed had left (fault_of result) new.machine (went ++ others)) (sym is)
    (prints.runs_on bytes had left result job new went others goes going runs))

-- where it ended, and its reader tells its bytes
pub run-means : (front : List ℕ) (had left : Option (List ℕ)) (tag : ℕ) (result : Result (Unit {0}) JobError) (new : Option Machine) (before after : SinkLog)
    → HandsOut (ending_by (fault_of result)) (Printed front had left (fault_of result) new) (under tag before after)
    → OnOk result ((read : List ℕ) → had ≡ Some read → TellsMeaning (front ++ read) new (under tag before after))
run-means front had left tag (Ok done) new before after prints = λ read is.
    reader-means front read left new tag before after
    (subst (λ (told : Option (List ℕ)). HandsOut Complete (Printed front told left None new) (under tag before after)) is prints)
run-means front had left tag (Err error) new before after prints = tt

-- a call stopped, and nothing was read
PrintedTo-any : (error : JobError) (bytes : List ℕ) (one other : Option Machine) (went : List Output) → PrintedTo (Some error) bytes one went
    → PrintedTo (Some error) bytes other went
PrintedTo-any errors.SinkFault bytes one other went printed = printed
PrintedTo-any errors.ReplyFault bytes one other went printed = printed
PrintedTo-any errors.NoMemory bytes one other went printed = printed
PrintedTo-any errors.Failed bytes one other went printed = printed
PrintedTo-any errors.ReadFault bytes one other went printed = printed
PrintedTo-any errors.AfterEnd bytes one other went printed = printed

pub Printed-stopped : (bytes : List ℕ) (had : Option (List ℕ)) (tag : ℕ) (error : JobError) (new : Option Machine) (before after : SinkLog)
    → HandsOut (ending_by (Some error)) (PrintedTo (Some error) bytes None) (under tag before after)
    → HandsOut (ending_by (Some error)) (Printed bytes had had (Some error) new) (under tag before after)
Printed-stopped bytes had tag error new before after = grind (arith, PrintedTo-any, Consumes-nil, append-nil, HandsOut-as)

-- ---- which errors there are

-- of a job that runs, where all its bytes are handed in
pub Faults-handed : (old new : JobState) (bytes : List ℕ) (error : JobError) (went : List Output) → IsSome old.machine → Faults old bytes error new went
    → StopsHanded error
Faults-handed old new bytes errors.SinkFault went running faults = tt
Faults-handed old new bytes errors.ReplyFault went running faults = tt
Faults-handed old new bytes errors.NoMemory went running faults = tt
Faults-handed old new bytes errors.Failed went running faults = absurd (cc faults.0)
Faults-handed old new bytes errors.ReadFault went running faults = absurd faults.1.goes
Faults-handed old new bytes errors.AfterEnd went running faults = absurd faults.1.goes

-- of one that takes more bytes
pub stops-handed : (old new : JobState) (bytes : List ℕ) (error : JobError) (went : List Output) → IsSome old.machine → old.held.ended ≡ false
    → CarriesOrStops old bytes (Err error) new went → StopsHanded error
stops-handed old new bytes error went running going faults = Faults-handed old new bytes error went running (Faults-now old new bytes error went going faults)

-- of one that reads
pub handed-read : (error : JobError) → StopsHanded error → StopsRead error
handed-read errors.SinkFault stops = stops
handed-read errors.ReplyFault stops = stops
handed-read errors.NoMemory stops = stops
handed-read errors.Failed stops = stops
handed-read errors.ReadFault stops = tt
handed-read errors.AfterEnd stops = stops
