-- Lines that are written one after another.
use Rattle.std.proofs.Common.{◌≡◌, ◌∙◌, ◌≤◌, ◌<◌, ◌+◌, ◌*◌, ℕ, List, [], ◌++◌, Option, Err, length, false, inl, inr, refl, sym, ap, subst, arith}
use Rattle.std.proofs.lemmas.List.{length-append}
use Rattle.std.specs.Io.KnownBytes.{Appends, Consumes, Keeps}
use Rattle.std.proofs.KnownBytes.{Appends-nil, Appends-trans, Consumes-kept, Consumes-nil, Consumes-trans}
use Rattle.std.proofs.lemmas.Bool.{true≢false}
use Rattle.press_devices.specs.Writing.{AppendsPrefix}
use Rattle.press_stream.specs.Answers.{IsIdle}
use Rattle.press_stream.specs.State.{IsOver, NeedsInput, input_ended}
use Rattle.press_trace.specs.declared.fault.TraceError.TheVariants.{ReadFault, Output, NoMemory}
use Rattle.press_trace.specs.declared.tracer.Tracer.{Tracer}
use Rattle.press_trace.specs.Traced.{TracedBy, Traces, TracesSoFar, StopsTellingBy, StopsTracing}
use Rattle.press_trace.specs.Standing.{Further, HasTold, TracerStandsBehind, TellsFurther, TellsRead, TellsToEnd}
use Rattle.press_trace.specs.declared.fault.TraceError.{TraceError}
use Rattle.press_trace.specs.Tracing.{IsAtStart, IsSound, with_more}
use Rattle.press_trace.specs.declared.line_of.LineOf.{LineOf}
use Rattle.press_trace.specs.Runs.{AreTold}
use Rattle.press_trace.proofs.RunLemmas.{AreTold-then, TellsNext}
use Rattle.press_trace.proofs.Standing.{all_so_far, at_start, at_end, are_first, no_more, none_first, piece_more}

-- nothing was told yet
none_told : (by : LineOf) → AreTold by [] []
none_told by = grind arith

-- memory ran out before the first step
pub nothing_told : (by : LineOf) (bytes : List ℕ) (out : Option (List ℕ)) → StopsTracing by bytes out out NoMemory
nothing_told by bytes out = record {
  placed = [];
  text = [];
  between = out;
  first = none_first bytes;
  lines = none_told by;
  written = Appends-nil out;
  stops = refl;
}

pub begun : (by : LineOf) (out : Option (List ℕ)) (tracer : Tracer) → IsAtStart tracer → IsSound tracer → HasTold by [] out out tracer
begun by out tracer start sound = record {
  placed = [];
  text = [];
  behind = at_start tracer start;
  sound = sound;
  lines = none_told by;
  written = Appends-nil out;
}

module _ (by : LineOf) (bytes : List ℕ) (old now : Option (List ℕ)) (tracer : Tracer) (told : HasTold by bytes old now tracer) where
  pub all_told : IsOver tracer.job → Traces by bytes old now
  all_told over =
      let whole = at_end bytes told.placed tracer told.behind over in
      record { placed = told.placed; text = told.text; items = whole.0; places = whole.1; lines = told.lines; written = told.written }

  pub told_so_far : NeedsInput tracer.job → TracesSoFar by bytes old now
  told_so_far hungry =
      let all = all_so_far bytes told.placed tracer told.behind hungry in
      record { placed = told.placed; text = told.text; items = all.0; places = all.1; lines = told.lines; written = told.written }

  pub no_memory : StopsTracing by bytes old now NoMemory
  no_memory = search (arith, are_first)

  -- ---- a piece more, and the end

  pub piece_comes : (piece : List ℕ) → tracer.job.held.ended ≡ false → HasTold by (bytes ++ piece) old now (with_more piece tracer)
  piece_comes piece going = grind (arith, piece_more, length-append)

  pub end_comes : (new : Tracer) → new ≡ record tracer { job = input_ended tracer.job } → HasTold by bytes old now new
  end_comes new is = record {
    placed = told.placed;
    text = told.text;
    behind = no_more bytes told.placed tracer told.behind new is;
    sound = subst (λ (now : Tracer). IsSound now) (sym is) (record {
      running = told.sound.running;
      within = told.sound.within;
      shown = told.sound.shown;
      kept = told.sound.kept;
    });
    lines = told.lines;
    written = told.written;
  }

  -- ---- a line more

  module _ (new : Tracer) (line : List ℕ) (tells : TellsNext by tracer line new) where
    stands : TracerStandsBehind bytes (told.placed ++ tells.next) new
    stands = tells.stands bytes told.placed told.behind

    pub more_told : (after : Option (List ℕ)) → IsSound new → Appends now after line → HasTold by bytes old after new
    more_told after sound written = record {
      placed = told.placed ++ tells.next;
      text = told.text ++ line;
      behind = stands;
      sound = sound;
      lines = AreTold-then by told.placed told.text tells.next line told.lines (tells.is_line bytes told.placed told.behind);
      written = Appends-trans old now after told.text line told.written written;
    }

    pub no_output : (after : Option (List ℕ)) (error : _) → AppendsPrefix now after line → StopsTracing by bytes old after (Output error)
    no_output after error prefix = record {
      placed = told.placed;
      text = told.text;
      between = now;
      first = are_first bytes told.placed tracer told.behind;
      lines = told.lines;
      written = told.written;
      stops = (tells.next, line, are_first bytes (told.placed ++ tells.next) new stands, tells.is_line bytes told.placed told.behind, prefix);
    }

-- ---- the lines of a piece

-- Lines were written since this tracer stood here, and no step of more bytes was taken.
pub record Since (by : LineOf) (before : Tracer) (was : Option (List ℕ)) (now : Tracer) (written : Option (List ℕ)) : Type 0 where
  pub told : (bytes : List ℕ) (old : Option (List ℕ)) → HasTold by bytes old was before → HasTold by bytes old written now
  pub sound : IsSound now
  pub going : now.job.held.ended ≡ before.job.held.ended
  pub long : now.length ≡ before.length

pub since_here : (by : LineOf) (tracer : Tracer) (out : Option (List ℕ)) → IsSound tracer → Since by tracer out tracer out
since_here by tracer out sound = record { told = λ bytes old told. told; sound = sound; going = refl; long = refl }

module _ (by : LineOf) (before : Tracer) (was : Option (List ℕ)) (now : Tracer) (written : Option (List ℕ)) (since : Since by before was now written) where
  pub one_since : (new : Tracer) (line : List ℕ) (after : Option (List ℕ)) → TellsNext by now line new → IsSound new
      → Appends written after line → Since by before was new after
  one_since new line after one sound lines = record {
    told = λ bytes old told. more_told by bytes old written now (since.told bytes old told) new line one after sound lines;
    sound = sound;
    going = one.going ∙ since.going;
    long = one.still ∙ since.long;
  }

  pub further : IsIdle now.job → Further by before was now written
  further idle = record { told = since.told; idle = idle; going = since.going; long = since.long }

-- ---- what a reader gives

pub none_read : (by : LineOf) (had out : Option (List ℕ)) (tracer : Tracer) → IsAtStart tracer → IsSound tracer → TellsRead by had had out out tracer
none_read by had out tracer start sound = grind (arith, begun)

-- where memory ran out, or a line cannot be written, that is what was written
stopped : (by : LineOf) (had left old new : Option (List ℕ)) (bytes : List ℕ) (why : TraceError) → Consumes had left bytes → StopsTracing by bytes old new why → StopsTellingBy by had left old new why
stopped by had left old new bytes why read stops = grind arith

pub not_begun : (by : LineOf) (had old : Option (List ℕ)) → StopsTellingBy by had had old old NoMemory
not_begun by had old = ([], Consumes-nil had, nothing_told by [] old)

module _ (by : LineOf) (had left old now : Option (List ℕ)) (tracer : Tracer) (so_far : TellsRead by had left old now tracer) where
  pub read_failed : (after : Option (List ℕ)) → Keeps left after → StopsTellingBy by had after old now ReadFault
  read_failed after kept =
      (so_far.bytes, Consumes-kept had left after so_far.bytes so_far.read kept, told_so_far by so_far.bytes old now tracer so_far.told so_far.hungry)

  module _ (after : Option (List ℕ)) (piece : List ℕ) (read : Consumes left after piece) where
    all_read : Consumes had after (so_far.bytes ++ piece)
    all_read = Consumes-trans had left after so_far.bytes piece so_far.read read

    abbrev with_piece_told : HasTold by (so_far.bytes ++ piece) old now (with_more piece tracer)
    with_piece_told = piece_comes by so_far.bytes old now tracer so_far.told piece so_far.hungry.going

    -- memory ran out for the piece
    pub piece_not_held : StopsTellingBy by had after old now NoMemory
    piece_not_held = (so_far.bytes ++ piece, all_read, no_memory by (so_far.bytes ++ piece) old now (with_more piece tracer) with_piece_told)

    module _ (pushed : Tracer) (is : pushed ≡ with_more piece tracer) where
      pushed_told : HasTold by (so_far.bytes ++ piece) old now pushed
      pushed_told = subst (λ (one : Tracer). HasTold by (so_far.bytes ++ piece) old now one) (sym is) with_piece_told

      pub piece_told : (new : Tracer) (later : Option (List ℕ)) → Further by pushed now new later → TellsRead by had after old later new
      piece_told new later further = record {
        bytes = so_far.bytes ++ piece;
        read = all_read;
        told = further.told (so_far.bytes ++ piece) old pushed_told;
        hungry = hungry_of further.idle (further.going ∙ ap (λ (one : Tracer). one.job.held.ended) is ∙ so_far.hungry.going);
      }
        where
          hungry_of : IsIdle new.job → new.job.held.ended ≡ false → NeedsInput new.job
          hungry_of (inl needs) going = needs
          hungry_of (inr over) going = absurd (true≢false (sym over.ended ∙ going))

      pub piece_stopped : (why : TraceError) (new : Tracer) (later : Option (List ℕ)) → TellsFurther by pushed now (Err why) new later → StopsTellingBy by had after old later why
      piece_stopped why new later stops = stopped by had after old later (so_far.bytes ++ piece) why all_read (stops (so_far.bytes ++ piece) old pushed_told)

      -- no more bytes came than so many reads give
      pub piece_few : (new : Tracer) (later : Option (List ℕ)) (reads more : ℕ) → Further by pushed now new later → tracer.length ≤ 16384 * reads → reads < more
          → length piece ≤ 16384 → new.length ≤ 16384 * more
      piece_few new later reads more further few fewer short =
          let long : new.length ≡ tracer.length + length piece = further.long ∙ ap (λ (one : Tracer). one.length) is in
          omega (arith, long, few, fewer, short)

-- ---- at the end of the stream

module _ (by : LineOf) (had left old now : Option (List ℕ)) (tracer : Tracer) (to_end : TellsToEnd by had left old now tracer) (ended : Tracer) (is : ended ≡ record tracer { job = input_ended tracer.job }) where
  abbrev bytes : List ℕ
  bytes = to_end.0.bytes

  ended_told : HasTold by bytes old now ended
  ended_told = end_comes by bytes old now tracer to_end.0.told ended is

  pub end_told : (new : Tracer) (later : Option (List ℕ)) → Further by ended now new later → TracedBy by had left old later
  end_told new later further = (bytes, to_end.0.read, to_end.1, all_told by bytes old later new (further.told bytes old ended_told) (over_of further.idle)) where
    over_of : IsIdle new.job → IsOver new.job
    over_of (inl needs) = absurd (true≢false (sym (further.going ∙ ap (λ (one : Tracer). one.job.held.ended) is) ∙ needs.going))
    over_of (inr over) = over

  pub end_stopped : (why : TraceError) (new : Tracer) (later : Option (List ℕ)) → TellsFurther by ended now (Err why) new later → StopsTellingBy by had left old later why
  end_stopped why new later stops = stopped by had left old later bytes why to_end.0.read (stops bytes old ended_told)

-- ---- the flush behind it

pub flushed : (by : LineOf) (had left old now after : Option (List ℕ)) → TracedBy by had left old now → Keeps now after → TracedBy by had left old after
flushed by had left old now after h1 kept = grind arith

pub not_flushed : (by : LineOf) (had left old now after : Option (List ℕ)) (error : _) → TracedBy by had left old now → Keeps now after → StopsTellingBy by had left old after (Output error)
not_flushed by had left old now after error traced kept = inr (flushed by had left old now after traced kept)
