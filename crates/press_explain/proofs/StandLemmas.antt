-- Where a stream stands that is explained as its pieces come.
use Rattle.std.proofs.Common.{◌≡◌, ◌∙◌, ◌⊎◌, ◌+◌, ◌-◌, ◌<◌, ℕ, List, [], ◌∷◌, ◌++◌, length, Bool, true, false, Some, refl, sym, ap, subst, inl, inr, arith}
use Rattle.std.proofs.lemmas.Bool.{true≢false}
use Rattle.std.proofs.lemmas.List.{append_assoc, append-nil, length-append}
use Rattle.press_cmd.specs.Token.{Token}
use Rattle.press_cmd.specs.ParserState.{Exit}
use Rattle.press_cmd.specs.Grammar.{Head, scanned_in}
use Rattle.press_cmd.specs.Split.{NoHead}
use Rattle.press_scan.specs.Gives.{ClosesAs, IsDone, Passes}
use Rattle.press_engine.specs.Engine.{machine_of}
use Rattle.press_engine.specs.Fold.{run}
use Rattle.press_engine.specs.Machine.{power_on}
use Rattle.press_engine.specs.declared.machine.Machine.{Machine}
use Rattle.press_stream.proofs.Going.{same_some}
use Rattle.press_trace.specs.Places.{Piece, ArePrefix, AreWhole, Opens}
use Rattle.press_trace.proofs.PlaceLemmas.{bytes_in, prefix-then, prefix-length, whole-more, whole-prefix, whole-then}
use Rattle.press_explain.specs.Explained.{AreExplained, ExplainsFirst, ExplainsWhole, IsExplained, IsExplanation, behind}
use Rattle.press_explain.specs.Standing.{Explains, Finishes, GoesOn, IsAtStart, StandsBehind, with_more}
use Rattle.press_explain.specs.declared.explainer.Explainer.{Explainer}

-- ---- pieces, and one more behind them

explained-then : (at : ℕ) (pieces : List Piece) (piece : Piece) (machine : Machine) (said line : List ℕ) → AreExplained at pieces machine said
    → IsExplained (at + bytes_in pieces) piece.command (behind pieces machine) line → AreExplained at (pieces ++ piece ∷ []) machine (said ++ line)
explained-then at [] piece machine said line are is =
    let here : at + 0 ≡ at = omega arith in (
      line,
      [],
      subst (λ n. IsExplained n piece.command machine line) here is,
      refl,
      ap (λ (text : List ℕ). text ++ line) are ∙ sym (append-nil line),
    )
explained-then at (first ∷ pieces) piece machine said line (here, rest, one, others, text) is =
    let next : at + length first.bytes + bytes_in pieces ≡ at + (length first.bytes + bytes_in pieces) = omega arith in (
      here,
      rest ++ line,
      one,
      explained-then (at + length first.bytes) pieces piece (run first.command machine).machine rest line others
          (subst (λ n. IsExplained n piece.command (behind pieces (run first.command machine).machine) line) (sym next) is),
      ap (λ (text : List ℕ). text ++ line) text ∙ append_assoc here rest line,
    )

behind-then : (pieces : List Piece) (piece : Piece) (machine : Machine) → behind (pieces ++ piece ∷ []) machine ≡ (run piece.command (behind pieces machine)).machine
behind-then [] piece machine = refl
behind-then (first ∷ pieces) piece machine = behind-then pieces piece (run first.command machine).machine

-- ---- at the start

pub at_start : (now : Explainer) → IsAtStart now → StandsBehind [] [] now
at_start now start = record {
  pieces = [];
  prefix = (sym start.mode, sym start.none);
  whole = λ _. (sym start.mode, sym start.none);
  machine = start.machine;
  explained = refl;
  long = start.nothing;
}

-- ---- a piece more, and the end

module _ (bytes said : List ℕ) (old : Explainer) (stands : StandsBehind bytes said old) where
  pub piece_more : (piece : List ℕ) → old.scanner.ended ≡ false → StandsBehind (bytes ++ piece) said (with_more piece old)
  piece_more piece going =
      let held = (with_more piece old).scanner in
      let whole = whole-more Exit bytes piece stands.pieces old.scanner.mode old.scanner.bytes (stands.whole going) in
      record {
        pieces = stands.pieces;
        prefix = whole-prefix Exit (bytes ++ piece) stands.pieces held.mode held.bytes whole;
        whole = λ _. whole;
        machine = stands.machine;
        explained = stands.explained;
        long = ap (λ n. n + length piece) stands.long ∙ sym (length-append bytes piece);
      }

  pub no_more : (new : Explainer) → new ≡ record old { scanner = record old.scanner { ended = true } } → StandsBehind bytes said new
  no_more new is = subst (λ (now : Explainer). StandsBehind bytes said now) (sym is) (record {
    pieces = stands.pieces;
    prefix = stands.prefix;
    whole = λ going. absurd (true≢false going);
    machine = stands.machine;
    explained = stands.explained;
    long = stands.long;
  })

  -- ---- what was said

  pub first_of : ExplainsFirst bytes said
  first_of = record { pieces = stands.pieces; mode = old.scanner.mode; left = old.scanner.bytes; prefix = stands.prefix; explained = stands.explained }

  pub whole_of : old.scanner.ended ≡ false → IsDone old.scanner → ExplainsWhole bytes said
  whole_of going done = record {
    pieces = stands.pieces;
    mode = old.scanner.mode;
    rest = old.scanner.bytes;
    whole = stands.whole going;
    short = done.short going;
    explained = stands.explained;
  }

  pub all_of : (before after : List ℕ) → old.scanner.ended ≡ true → IsDone old.scanner → Finishes old before after
      → (line : List ℕ) × (after ≡ before ++ line) × IsExplanation bytes (said ++ line)
  all_of before after ended done (machine, line, was, exit, text) =
      let same : machine ≡ behind stands.pieces power_on = same_some (machine_of old.engine) machine (behind stands.pieces power_on) was stands.machine in (
        line,
        text,
        record {
          pieces = stands.pieces;
          are = (old.scanner.mode, subst (ArePrefix Exit bytes stands.pieces old.scanner.mode) (done.nothing ended) stands.prefix);
          body = said;
          last = line;
          explained = stands.explained;
          exit = grind (arith, exit, same, stands.long);
          text_is = refl;
        },
      )

  -- ---- one command more

  module _ (new : Explainer) (before after : List ℕ) (explains : Explains old before true new after) where
    abbrev pieces : List Piece
    pieces = stands.pieces

    abbrev command : Token
    command = explains.next.0

    abbrev machine : Machine
    machine = explains.next.1

    abbrev line : List ℕ
    line = explains.next.2

    passes : Passes old.scanner command new.scanner
    passes = explains.next.3

    pub said_more : after ≡ before ++ line
    said_more = explains.next.7

    same : machine ≡ behind pieces power_on
    same = same_some (machine_of old.engine) machine (behind pieces power_on) explains.next.4 stands.machine

    pub fewer : length new.scanner.bytes < length old.scanner.bytes
    fewer = passes.used

    pub still_ended : new.scanner.ended ≡ old.scanner.ended
    still_ended = passes.ended

    here : old.length - length old.scanner.bytes ≡ 0 + bytes_in pieces
    here = omega (arith, stands.long, prefix-length Exit bytes pieces old.scanner.mode old.scanner.bytes stands.prefix)

    more : (used : List ℕ) → old.scanner.bytes ≡ used ++ new.scanner.bytes
        → Opens old.scanner.mode (record { bytes = used; command = command }) new.scanner.bytes new.scanner.mode
        → (whole : new.scanner.ended ≡ false → AreWhole Exit bytes (pieces ++ record { bytes = used; command = command } ∷ []) new.scanner.mode new.scanner.bytes)
        → StandsBehind bytes (said ++ line) new
    more used cut opens whole =
        let piece : Piece = record { bytes = used; command = command } in
        record {
          pieces = pieces ++ piece ∷ [];
          prefix = prefix-then Exit bytes pieces old.scanner.mode old.scanner.bytes piece new.scanner.bytes new.scanner.mode stands.prefix cut opens;
          whole = whole;
          machine = explains.next.5 ∙ ap (λ (at : Machine). Some (run command at).machine) same ∙ ap Some (sym (behind-then pieces piece power_on));
          explained =
              explained-then 0 pieces piece power_on said line stands.explained
              (subst (λ n. IsExplained n command (behind pieces power_on) line) here (subst (λ (at : Machine). IsExplained (old.length - length old.scanner.bytes) command at line) same explains.next.6));
          long = explains.long ∙ stands.long;
        }

    pub command_more : StandsBehind bytes (said ++ line) new
    command_more = by old.scanner.ended refl where
      opens : (used : List ℕ) → old.scanner.bytes ≡ used ++ new.scanner.bytes
          → Head old.scanner.mode used new.scanner.bytes command new.scanner.mode
          ⊎ (NoHead old.scanner.mode old.scanner.bytes
          × ClosesAs (scanned_in old.scanner.mode old.scanner.bytes) used new.scanner.bytes command new.scanner.mode)
          → Opens old.scanner.mode (record { bytes = used; command = command }) new.scanner.bytes new.scanner.mode
      opens used cut (inl head) = inl head
      opens used cut (inr (none, closes)) =
          inr (
            subst (NoHead old.scanner.mode) cut none,
            subst (λ (all : List ℕ). ClosesAs (scanned_in old.scanner.mode all) used new.scanner.bytes command new.scanner.mode) cut closes,
          )

      by : (ended : Bool) → old.scanner.ended ≡ ended → StandsBehind bytes (said ++ line) new
      by true ended =
          let found = passes.prefix ended in
          more found.0 found.1 (opens found.0 found.1 found.2) (λ going. absurd (true≢false (sym (passes.ended ∙ ended) ∙ going)))
      by false going =
          let found = passes.head going in
          let piece : Piece = record { bytes = found.0; command = command } in
          more found.0 found.1 (inl found.2)
          (λ _. whole-then Exit bytes pieces old.scanner.mode old.scanner.bytes piece new.scanner.bytes new.scanner.mode (stands.whole going) found.1 found.2)

-- ---- commands one after another

module _ (first : Explainer) (begin : List ℕ) (old : Explainer) (before : List ℕ) (goes : GoesOn first begin old before) where
  pub goes_further : (new : Explainer) (after : List ℕ) → Explains old before true new after → GoesOn first begin new after
  goes_further new after explains = record {
    added = goes.added ++ explains.next.2;
    text = explains.next.7 ∙ ap (λ (text : List ℕ). text ++ explains.next.2) goes.text ∙ append_assoc begin goes.added explains.next.2;
    ended = explains.next.3.ended ∙ goes.ended;
    long = explains.long ∙ goes.long;
    stands = λ bytes said stands.
        subst (λ (all : List ℕ). StandsBehind bytes all new) (append_assoc said goes.added explains.next.2)
        (command_more bytes (said ++ goes.added) old (goes.stands bytes said stands) new before after explains);
  }

pub fewer_held : (old : Explainer) (before : List ℕ) (new : Explainer) (after : List ℕ) → Explains old before true new after → length new.scanner.bytes < length old.scanner.bytes
fewer_held old before new after explains = explains.next.3.used
