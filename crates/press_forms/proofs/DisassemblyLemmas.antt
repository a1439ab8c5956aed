-- The lines of a stream that is read piece by piece.
use Rattle.std.specs.Io.KnownBytes.{Appends, Consumes, IsAtEnd, Keeps}
use Rattle.std.proofs.Common.{◌≡◌, ◌∙◌, ℕ, List, [], ◌++◌, length, Option, Result, Ok, Err, IfErr, OnOk, false, true, refl, sym, ap, subst, arith, append-nil}
use Rattle.std.proofs.lemmas.Bool.{false≢true}
use Rattle.std.proofs.lemmas.List.{append_assoc}
use Rattle.std.proofs.KnownBytes.{Appends-kept, Appends-nil, Appends-trans, Consumes-nil, Consumes-trans}
use Rattle.press_devices.specs.Writing.{AppendsPrefix}
use Rattle.press_devices.proofs.WritesLemmas.{prefix_then}
use Rattle.press_cmd.specs.Token.{Token}
use Rattle.press_cmd.specs.ParserState.{Exit}
use Rattle.press_cmd.specs.Split.{Closed, NoHead, closing}
use Rattle.press_cmd.proofs.Splits.{no_head_of_nothing, some_split}
use Rattle.press_scan.specs.Gives.{IsDone}
use Rattle.press_scan.specs.Reached.{Reached, Remains}
use Rattle.press_scan.specs.ScannerState.{ScannerState}
use Rattle.press_scan.proofs.ReachedLaws.{end_reaches, feeds_reach}
use Rattle.press_asm.specs.Written.{text_of}
use Rattle.press_disasm.specs.Disassembly.{Lists}
use Rattle.press_disasm.proofs.Listing.{disassembled, reached-each, remains-each, still-ended, text-append, written-append}
use Rattle.press_forms.specs.Assembly.{DisassembledTo, ListsSoFar, ListsSome, ListsRead, StopsDisassembling, StopsLines, WritesLines}
use Rattle.press_forms.specs.declared.assembly.TextError.{TextError}
use Rattle.press_forms.specs.declared.assembly.TextError.TheVariants.{Input, Refused, WriteFault, NoOutput, NoMemory}

-- nothing was read, and nothing written
pub none_read : (had old : Option (List ℕ)) (held : ScannerState) → held.mode ≡ Exit → held.bytes ≡ [] → held.ended ≡ false → ListsSoFar had had old old held
none_read had old held mode empty going = record {
  bytes = [];
  read = Consumes-nil had;
  given = [];
  reached = feeds_reach.begins held mode empty;
  going = going;
  done = record {
    short = λ _. subst (λ (bytes : List ℕ). NoHead held.mode bytes) (sym empty) (no_head_of_nothing held.mode);
    nothing = λ _. empty;
    closed = λ ended. absurd (false≢true (sym going ∙ ended));
    few = omega (arith, ap length empty);
  };
  each = tt;
  written = Appends-nil old;
}

-- the first commands of the bytes that were read
first_of : (had left : Option (List ℕ)) (bytes : List ℕ) (given : List Token) (now : ScannerState) → Consumes had left bytes → Reached bytes given now → ListsSome had left (text_of given)
first_of had left bytes given now read reached =
    let split = some_split Exit bytes in
    let more = feeds_reach.prefix bytes given split.commands now split.mode split.rest reached split.split in
    let closes = closing split.mode split.rest in
    record {
      bytes = bytes;
      read = read;
      lists = record {
        commands = given;
        others = more.0 ++ closes;
        closed = (
          split.commands,
          split.mode,
          split.rest,
          split.split,
          sym (append_assoc given more.0 closes) ∙ ap (λ (these : List Token). these ++ closes) (sym more.1),
        );
        listed = refl;
      };
    }

-- all of them
all_of : (had left : Option (List ℕ)) (bytes text : List ℕ) (commands : List Token) → Consumes had left bytes → Closed bytes commands → text ≡ text_of commands → ListsSome had left text
all_of had left bytes text commands read closed listed = grind (arith, append-nil)

module _ (had left old new : Option (List ℕ)) (held : ScannerState) (so_far : ListsSoFar had left old new held) where
  -- a read failed
  pub read_failed : (after : Option (List ℕ)) → Keeps left after → ListsRead had after old new
  read_failed after kept = grind arith

  -- a piece was read, and handed to the scanner
  module _ (after : Option (List ℕ)) (piece : List ℕ) (read : Consumes left after piece) where
    all_read : Consumes had after (so_far.bytes ++ piece)
    all_read = Consumes-trans had left after so_far.bytes piece so_far.read read

    module _ (fed : ScannerState) (mode : fed.mode ≡ held.mode) (bytes : fed.bytes ≡ held.bytes ++ piece) (going : fed.ended ≡ false) where
      reached_fed : Reached (so_far.bytes ++ piece) so_far.given fed
      reached_fed = feeds_reach.feeds so_far.bytes piece so_far.given held fed so_far.reached mode bytes

      pub piece_listed : (now : ScannerState) (later : Option (List ℕ)) → WritesLines fed now new later → ListsSoFar had after old later now
      piece_listed now later (text, (lists, done), written) = record {
        bytes = so_far.bytes ++ piece;
        read = all_read;
        given = so_far.given ++ lists.commands;
        reached = reached-each (so_far.bytes ++ piece) so_far.given lists.commands fed now reached_fed going lists.each;
        going = still-ended fed now lists.commands lists.each ∙ going;
        done = done;
        each = written-append so_far.given lists.commands so_far.each lists.written;
        written =
            subst (λ (lines : List ℕ). Appends old later lines) (ap (λ (lines : List ℕ). text_of so_far.given ++ lines) lists.listed ∙ sym (text-append so_far.given lists.commands))
            (Appends-trans old new later (text_of so_far.given) text so_far.written written);
      }

      pub piece_stopped : (why : TextError) (later : Option (List ℕ)) → StopsLines fed new later why → StopsDisassembling had after old later why
      piece_stopped NoMemory later same =
          (text_of so_far.given, first_of had after (so_far.bytes ++ piece) so_far.given fed all_read reached_fed, subst (λ (held : Option (List ℕ)). Appends old held (text_of so_far.given)) (sym same) so_far.written)
      piece_stopped NoOutput later (text, now, (lists, done), written) = (
        text_of (so_far.given ++ lists.commands),
        first_of had after (so_far.bytes ++ piece) (so_far.given ++ lists.commands) now all_read (reached-each (so_far.bytes ++ piece) so_far.given lists.commands fed now reached_fed going lists.each),
        subst (λ (lines : List ℕ). AppendsPrefix old later lines) (ap (λ (lines : List ℕ). text_of so_far.given ++ lines) lists.listed ∙ sym (text-append so_far.given lists.commands))
            (prefix_then old new later (text_of so_far.given) text so_far.written written),
      )
      piece_stopped (Input why) later stops = absurd stops
      piece_stopped (Refused why) later stops = absurd stops
      piece_stopped WriteFault later stops = absurd stops

    -- memory ran out for the piece
    pub piece_not_held : StopsDisassembling had after old new NoMemory
    piece_not_held = (
      text_of so_far.given,
      first_of had after (so_far.bytes ++ piece) so_far.given (record held { bytes = held.bytes ++ piece }) all_read (feeds_reach.feeds so_far.bytes piece so_far.given held (record held { bytes = held.bytes ++ piece }) so_far.reached refl refl),
      so_far.written,
    )

  -- ---- at the end of the stream
  module _ (at_end : IsAtEnd left) (ended : ScannerState) (is : ended ≡ record held { ended = true }) where
    has_ended : ended.ended ≡ true
    has_ended = ap (λ (now : ScannerState). now.ended) is

    remains : Remains so_far.bytes so_far.given ended
    remains = end_reaches.ends so_far.bytes so_far.given ended (subst (λ (now : ScannerState). Reached so_far.bytes so_far.given now) (sym is) so_far.reached)

    all_closed : (last : ScannerState) (text : List ℕ) → (lists : Lists ended [] last text) → IsDone last → Closed so_far.bytes (so_far.given ++ lists.commands)
    all_closed last text lists done =
        end_reaches.done so_far.bytes (so_far.given ++ lists.commands) last (remains-each so_far.bytes so_far.given lists.commands ended last remains has_ended lists.each)
        (still-ended ended last lists.commands lists.each ∙ has_ended) done

    both : (last : ScannerState) (text : List ℕ) → (lists : Lists ended [] last text) → text_of so_far.given ++ text ≡ text_of (so_far.given ++ lists.commands)
    both last text lists = ap (λ (lines : List ℕ). text_of so_far.given ++ lines) lists.listed ∙ sym (text-append so_far.given lists.commands)

    pub end_listed : (last : ScannerState) (later : Option (List ℕ)) → WritesLines ended last new later → DisassembledTo had left old later
    end_listed last later (text, (lists, done), written) =
        let commands = so_far.given ++ lists.commands in
        record {
          text = text_of commands;
          disassembled = record {
            bytes = so_far.bytes;
            read = record { lost = so_far.read; at_end = at_end };
            disassembly = disassembled so_far.bytes (text_of commands) (record {
              commands = commands;
              closed = all_closed last text lists done;
              written = written-append so_far.given lists.commands so_far.each lists.written;
              listed = refl;
            });
          };
          written = subst (λ (lines : List ℕ). Appends old later lines) (both last text lists) (Appends-trans old new later (text_of so_far.given) text so_far.written written);
        }

    pub end_stopped : (why : TextError) (later : Option (List ℕ)) → StopsLines ended new later why → StopsDisassembling had left old later why
    end_stopped NoMemory later same = (
      text_of so_far.given,
      first_of had left so_far.bytes so_far.given held so_far.read so_far.reached,
      subst (λ (now : Option (List ℕ)). Appends old now (text_of so_far.given)) (sym same) so_far.written,
    )
    end_stopped NoOutput later (text, last, (lists, done), written) =
        let commands = so_far.given ++ lists.commands in (
          text_of commands,
          all_of had left so_far.bytes (text_of commands) commands so_far.read (all_closed last text lists done) refl,
          subst (λ (lines : List ℕ). AppendsPrefix old later lines) (both last text lists) (prefix_then old new later (text_of so_far.given) text so_far.written written),
        )
    end_stopped (Input why) later stops = absurd stops
    end_stopped (Refused why) later stops = absurd stops
    end_stopped WriteFault later stops = absurd stops

-- ---- the flush behind it

pub flushed : (had left old middle new : Option (List ℕ)) → DisassembledTo had left old middle → Keeps middle new → DisassembledTo had left old new
flushed had left old middle new to kept = record { text = to.text; disassembled = to.disassembled; written = Appends-kept old middle new to.text to.written kept }

pub not_flushed : {X : Type 0} (answer : Result X TextError) (had left old middle new : Option (List ℕ)) → IfErr answer (λ why. why ≡ NoOutput) → DisassembledTo had left old middle
    → Keeps middle new → IfErr answer (StopsDisassembling had left old new)
not_flushed (Ok one) had left old middle new is to kept = tt
not_flushed (Err why) had left old middle new is to kept =
    let here = to.disassembled.disassembly in
    let some = all_of had left to.disassembled.bytes to.text here.commands to.disassembled.read.lost here.closed here.listed in
    subst (λ (why : TextError). StopsDisassembling had left old new why) (sym is)
    (to.text, some, (to.text, [], sym (append-nil to.text), Appends-kept old middle new to.text to.written kept))

-- what holds of any answer
pub on_ok : {X E : Type 0} (answer : Result X E) (P : Type 0) → P → OnOk answer P
on_ok answer P holds = grind arith
