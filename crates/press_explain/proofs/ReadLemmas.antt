-- A stream that is read piece by piece and explained.
use Rattle.std.specs.Io.KnownBytes.{Appends, Consumes, IsAtEnd, Keeps}
use Rattle.std.proofs.Common.{◌≡◌, ◌∙◌, ◌+◌, ◌*◌, ◌≤◌, ◌<◌, ℕ, List, [], ◌++◌, length, Option, Ok, Err, true, false, refl, sym, ap, subst, inl, inr, arith}
use Rattle.std.proofs.KnownBytes.{Appends-kept, Appends-nil, Appends-trans, Consumes-kept, Consumes-nil, Consumes-trans}
use Rattle.std.proofs.lemmas.List.{append_assoc, append-nil}
use Rattle.press_devices.specs.Writing.{AppendsPrefix}
use Rattle.press_devices.proofs.WritesLemmas.{prefix_then}
use Rattle.std.proofs.lemmas.Bool.{false≢true}
use Rattle.press_cmd.specs.Split.{NoHead}
use Rattle.press_cmd.proofs.Splits.{no_head_of_nothing}
use Rattle.press_scan.specs.Gives.{IsDone}
use Rattle.press_trace.specs.declared.fault.TraceError.{TraceError}
use Rattle.press_trace.specs.declared.fault.TraceError.TheVariants.{ReadFault, Output, NoMemory}
use Rattle.press_explain.specs.Explained.{Explained, IsExplanation, StopsExplaining}
use Rattle.press_explain.specs.Reading.{ExplainsToEnd, HasExplained, HasWritten, StopsSome, WritesEnd, WritesHeld}
use Rattle.press_explain.specs.Standing.{Finishes, GoesOn, IsAtStart, StandsBehind, with_more}
use Rattle.press_explain.specs.declared.explainer.Explainer.{Explainer}
use Rattle.press_explain.proofs.StandLemmas.{all_of, at_start, first_of, no_more, piece_more, whole_of}

-- ---- what a scanner held

-- memory ran out
pub want_of_memory : (bytes : List ℕ) (old now : Option (List ℕ)) (explainer : Explainer) → HasExplained bytes old now explainer → StopsSome bytes old now NoMemory
want_of_memory bytes old now explainer told = (told.said, inl (first_of bytes told.said explainer told.stands), told.written)

module _ (before : Explainer) (was : Option (List ℕ)) (after : Explainer) (text : List ℕ) (goes : GoesOn before [] after text) where
  module _ (bytes : List ℕ) (old : Option (List ℕ)) (told : HasExplained bytes old was before) where
    abbrev said : List ℕ
    said = told.said ++ text

    stands : StandsBehind bytes said after
    stands = subst (λ (added : List ℕ). StandsBehind bytes (told.said ++ added) after) (sym goes.text) (goes.stands bytes told.said told.stands)

    pub held_told : (now : Option (List ℕ)) → Appends was now text → HasExplained bytes old now after
    held_told now written = record { said = said; stands = stands; written = Appends-trans old was now told.said text told.written written }

    pub held_cut : (now : Option (List ℕ)) → AppendsPrefix was now text → (error : _) → StopsSome bytes old now (Output error)
    held_cut now prefix error = (said, inl (first_of bytes said after stands), prefix_then old was now told.said text told.written prefix)

  pub held_written : (now : Option (List ℕ)) → Appends was now text → IsDone after.scanner → HasWritten before was after now
  held_written now written done = record { told = λ bytes old told. held_told bytes old told now written; done = done; ended = goes.ended; long = goes.long }

  -- the exit behind it
  module _ (all : List ℕ) (finishes : Finishes after text all) (done : IsDone after.scanner) (bytes : List ℕ) (old : Option (List ℕ)) (told : HasExplained bytes old was before) (ended : before.scanner.ended ≡ true) where
    whole : (line : List ℕ) × (all ≡ text ++ line) × IsExplanation bytes ((told.said ++ text) ++ line)
    whole = all_of bytes (told.said ++ text) after (stands bytes old told) text all (goes.ended ∙ ended) done finishes

    explanation : IsExplanation bytes (told.said ++ all)
    explanation = subst (IsExplanation bytes) (append_assoc told.said text whole.0 ∙ ap (λ (more : List ℕ). told.said ++ more) (sym whole.1)) whole.2

    pub end_written : (now : Option (List ℕ)) → Appends was now all → (said : List ℕ) × IsExplanation bytes said × Appends old now said
    end_written now written = (told.said ++ all, explanation, Appends-trans old was now told.said all told.written written)

    pub end_cut : (now : Option (List ℕ)) → AppendsPrefix was now all → (error : _) → StopsSome bytes old now (Output error)
    end_cut now prefix error = (told.said ++ all, inr explanation, prefix_then old was now told.said all told.written prefix)

-- ---- what a reader gives

-- A reader gave these bytes, all their whole commands were explained, and more bytes may come.
pub record ExplainsRead (had left old now : Option (List ℕ)) (explainer : Explainer) : Type 0 where
  pub bytes : List ℕ
  pub read : Consumes had left bytes
  pub told : HasExplained bytes old now explainer
  pub going : explainer.scanner.ended ≡ false
  pub done : IsDone explainer.scanner

pub none_read : (had out : Option (List ℕ)) (explainer : Explainer) → IsAtStart explainer → ExplainsRead had had out out explainer
none_read had out explainer start = record {
  bytes = [];
  read = Consumes-nil had;
  told = record { said = []; stands = at_start explainer start; written = Appends-nil out };
  going = start.going;
  done = record {
    short = λ _. subst (NoHead explainer.scanner.mode) (sym start.none) (no_head_of_nothing explainer.scanner.mode);
    nothing = λ _. start.none;
    closed = λ ended. absurd (false≢true (sym start.going ∙ ended));
    few = omega (arith, ap length start.none);
  };
}

stopped : (had left old new : Option (List ℕ)) (bytes : List ℕ) (why : TraceError) → Consumes had left bytes → StopsSome bytes old new why → StopsExplaining had left old new why
stopped had left old new bytes ReadFault read stops = absurd stops
stopped had left old new bytes NoMemory read (text, some, written) = (bytes, text, read, some, written)
stopped had left old new bytes (Output error) read (text, some, written) = (bytes, text, read, some, written)

module _ (had left old now : Option (List ℕ)) (explainer : Explainer) (so_far : ExplainsRead had left old now explainer) where
  pub read_failed : (after : Option (List ℕ)) → Keeps left after → StopsExplaining had after old now ReadFault
  read_failed after kept = (
    so_far.bytes,
    so_far.told.said,
    Consumes-kept had left after so_far.bytes so_far.read kept,
    whole_of so_far.bytes so_far.told.said explainer so_far.told.stands so_far.going so_far.done,
    so_far.told.written,
  )

  module _ (after : Option (List ℕ)) (piece : List ℕ) (read : Consumes left after piece) where
    all_read : Consumes had after (so_far.bytes ++ piece)
    all_read = Consumes-trans had left after so_far.bytes piece so_far.read read

    with_piece : HasExplained (so_far.bytes ++ piece) old now (with_more piece explainer)
    with_piece = record {
      said = so_far.told.said;
      stands = piece_more so_far.bytes so_far.told.said explainer so_far.told.stands piece so_far.going;
      written = so_far.told.written;
    }

    -- memory ran out for the piece
    pub piece_not_held : StopsExplaining had after old now NoMemory
    piece_not_held = stopped had after old now (so_far.bytes ++ piece) NoMemory all_read (want_of_memory (so_far.bytes ++ piece) old now (with_more piece explainer) with_piece)

    module _ (pushed : Explainer) (is : pushed ≡ with_more piece explainer) where
      pushed_told : HasExplained (so_far.bytes ++ piece) old now pushed
      pushed_told = subst (λ (one : Explainer). HasExplained (so_far.bytes ++ piece) old now one) (sym is) with_piece

      pub piece_told : (new : Explainer) (later : Option (List ℕ)) → HasWritten pushed now new later → ExplainsRead had after old later new
      piece_told new later written = record {
        bytes = so_far.bytes ++ piece;
        read = all_read;
        told = written.told (so_far.bytes ++ piece) old pushed_told;
        going = written.ended ∙ ap (λ (one : Explainer). one.scanner.ended) is ∙ so_far.going;
        done = written.done;
      }

      pub piece_stopped : (why : TraceError) (new : Explainer) (later : Option (List ℕ)) → WritesHeld pushed now (Err why) new later → StopsExplaining had after old later why
      piece_stopped why new later stops = stopped had after old later (so_far.bytes ++ piece) why all_read (stops (so_far.bytes ++ piece) old pushed_told)

      -- no more bytes came than so many reads give
      pub piece_few : (new : Explainer) (later : Option (List ℕ)) (reads more : ℕ) → HasWritten pushed now new later → explainer.length ≤ 16384 * reads → reads < more
          → length piece ≤ 16384 → new.length ≤ 16384 * more
      piece_few new later reads more written few fewer short =
          let long : new.length ≡ explainer.length + length piece = written.long ∙ ap (λ (one : Explainer). one.length) is in
          omega (arith, long, few, fewer, short)

-- ---- at the end of the stream

module _ (had left old now : Option (List ℕ)) (explainer : Explainer) (to_end : ExplainsToEnd had left old now explainer) (ended : Explainer) (is : ended ≡ record explainer { scanner = record explainer.scanner { ended = true } }) where
  ended_told : HasExplained to_end.bytes old now ended
  ended_told = record {
    said = to_end.told.said;
    stands = no_more to_end.bytes to_end.told.said explainer to_end.told.stands ended is;
    written = to_end.told.written;
  }

  has_ended : ended.scanner.ended ≡ true
  has_ended = ap (λ (one : Explainer). one.scanner.ended) is

  pub end_told : (later : Option (List ℕ)) → WritesEnd ended now (Ok tt) later → Explained had left old later
  end_told later all =
      let found = all to_end.bytes old ended_told has_ended in
      (to_end.bytes, found.0, to_end.read, to_end.at_end, found.1, found.2)

  pub end_stopped : (why : TraceError) (later : Option (List ℕ)) → WritesEnd ended now (Err why) later → StopsExplaining had left old later why
  end_stopped why later stops = stopped had left old later to_end.bytes why to_end.read (stops to_end.bytes old ended_told has_ended)

-- ---- the flush behind it

pub flushed : (had left old now after : Option (List ℕ)) → Explained had left old now → Keeps now after → Explained had left old after
flushed had left old now after (bytes, text, read, at_end, is, written) kept = (bytes, text, read, at_end, is, Appends-kept old now after text written kept)

pub not_flushed : (had left old now after : Option (List ℕ)) (error : _) → Explained had left old now → Keeps now after → StopsExplaining had left old after (Output error)
not_flushed had left old now after error (bytes, text, read, at_end, is, written) kept =
    (bytes, text, read, inr is, (text, [], sym (append-nil text), Appends-kept old now after text written kept))

pub not_begun : (had old : Option (List ℕ)) → StopsExplaining had had old old NoMemory
not_begun had old = (
  [],
  [],
  Consumes-nil had,
  inl (record { pieces = []; mode = _; left = []; prefix = (refl, refl); explained = refl }),
  Appends-nil old,
)
