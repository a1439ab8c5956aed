-- The commands of a stream, listed one after another.
use Rattle.std.proofs.Common.{◌≡◌, ◌∙◌, ℕ, List, [], ◌∷◌, ◌++◌, ◌<◌, length, true, false, refl, sym, ap, subst, arith, append_assoc, append-nil}
use Rattle.std.specs.List.{list_all}
use Rattle.std.specs.Str.{IsAscii, IsUtf8}
use Rattle.std.proofs.lemmas.Bool.{and_parts}
use Rattle.std.proofs.lemmas.Str.{IsAscii-append, IsUtf8-from_ascii}
use Rattle.std.proofs.lemmas.Str.Ascii.{IsAscii-nil, IsAscii-cons}
use Rattle.press_units.specs.Ascii.{is_printable}
use Rattle.press_cmd.specs.Token.{Token}
use Rattle.press_cmd.specs.ParserState.{Exit}
use Rattle.press_cmd.specs.Split.{Closed}
use Rattle.press_scan.specs.ScannerState.{ScannerState}
use Rattle.press_scan.specs.Gives.{Passes}
use Rattle.press_scan.specs.Passing.{PassesEach}
use Rattle.press_scan.specs.Reached.{Reached, Remains}
use Rattle.press_scan.proofs.ReachedLaws.{feeds_reach, end_reaches}
use Rattle.press_asm.specs.Text.{lines_of, all_bytes, LinesStand}
use Rattle.press_asm.specs.Written.{written_line, text_of, AreWritten}
use Rattle.press_asm.proofs.LineStands.{line_ascii}
use Rattle.press_disasm.specs.Disassembly.{IsDisassembly, IsListed, Lists, ListsAll, ListsNext}
use Rattle.press_disasm.proofs.ReadAgain.{read_again}
use Rattle.press_disasm.proofs.Standing.{stand_give, one_give}

-- ---- commands listed so far

passes-then : (old middle new : ScannerState) (cs : List Token) (c : Token) → PassesEach old cs middle → Passes middle c new → PassesEach old (cs ++ c ∷ []) new
passes-then old middle new [] c same passes = (new, subst (λ (held : ScannerState). Passes held c new) same passes, refl)
passes-then old middle new (d ∷ cs) c (next, first, others) passes = (next, first, passes-then next middle new cs c others passes)

pub written-append : (cs ds : List Token) → AreWritten cs → AreWritten ds → AreWritten (cs ++ ds)
written-append [] ds h more = more
written-append (c ∷ cs) ds h more = (h.0, written-append cs ds h.1 more)

pub text-append : (cs ds : List Token) → text_of (cs ++ ds) ≡ text_of cs ++ text_of ds
text-append [] ds = refl
text-append (c ∷ cs) ds = grind (arith, text-append cs ds, append_assoc (written_line c) (10 ∷ text_of cs) (text_of ds))

-- one command more
pub one_listed : (old : ScannerState) (before : List ℕ) (middle : ScannerState) (lines : List ℕ) (new : ScannerState) (more : List ℕ)
    → Lists old before middle lines → ListsNext middle lines true new more → Lists old before new more
one_listed old before middle lines new more so_far (command, passes, written, line) = record {
  commands = so_far.commands ++ command ∷ [];
  each = passes-then old middle new so_far.commands command so_far.each passes;
  written = written-append so_far.commands (command ∷ []) so_far.written (written, tt);
  listed =
      line
      ∙ ap (λ x. x ++ (written_line command ++ 10 ∷ [])) so_far.listed
      ∙ append_assoc before (text_of so_far.commands) (written_line command ++ 10 ∷ [])
      ∙ ap (λ x. before ++ x) (sym (text-append so_far.commands (command ∷ [])));
}

pub one_fewer : (old : ScannerState) (lines : List ℕ) (new : ScannerState) (more : List ℕ) → ListsNext old lines true new more → length new.bytes < length old.bytes
one_fewer old lines new more (command, passes, written, line) = passes.used

-- ---- commands that are passed one after another

pub still-ended : (old new : ScannerState) (cs : List Token) → PassesEach old cs new → new.ended ≡ old.ended
still-ended old new [] same = ap (λ (held : ScannerState). held.ended) same
still-ended old new (c ∷ cs) (next, first, others) = still-ended next new cs others ∙ first.ended

pub reached-each : (all : List ℕ) (given cs : List Token) (old new : ScannerState) → Reached all given old → old.ended ≡ false → PassesEach old cs new → Reached all (given ++ cs) new
reached-each all given [] old new so_far going same =
    subst (λ (held : ScannerState). Reached all (given ++ []) held) (sym same)
    (subst (λ (these : List Token). Reached all these old) (sym (append-nil given)) so_far)
reached-each all given (c ∷ cs) old new so_far going (next, first, others) =
    subst (λ (these : List Token). Reached all these new) (append_assoc given (c ∷ []) cs)
    (reached-each all (given ++ c ∷ []) cs next new (feeds_reach.passes all given c old next so_far going first) (first.ended ∙ going) others)

pub remains-each : (all : List ℕ) (given cs : List Token) (old new : ScannerState) → Remains all given old → old.ended ≡ true → PassesEach old cs new → Remains all (given ++ cs) new
remains-each all given [] old new so_far ended same =
    subst (λ (held : ScannerState). Remains all (given ++ []) held) (sym same)
    (subst (λ (these : List Token). Remains all these old) (sym (append-nil given)) so_far)
remains-each all given (c ∷ cs) old new so_far ended (next, first, others) =
    subst (λ (these : List Token). Remains all these new) (append_assoc given (c ∷ []) cs)
    (remains-each all (given ++ c ∷ []) cs next new (end_reaches.passes all given c old next so_far ended first) (first.ended ∙ ended) others)

-- the commands of a scanner that was handed the whole stream are those of the closed split
pub all_listed : (bytes lines : List ℕ) (new fed ended last : ScannerState) → new.mode ≡ Exit → new.bytes ≡ [] → fed.mode ≡ new.mode → fed.bytes ≡ new.bytes ++ bytes
    → ended ≡ record fed { ended = true } → ListsAll ended [] last lines → IsListed bytes lines
all_listed bytes lines new fed ended last mode none same more is (lists, is_done) =
    let reached : Reached ([] ++ bytes) [] fed = feeds_reach.feeds [] bytes [] new fed (feeds_reach.begins new mode none) same more in
    let along : Reached bytes [] ended = subst (λ (held : ScannerState). Reached bytes [] held) (sym is) reached in
    let at_end : ended.ended ≡ true = ap (λ (held : ScannerState). held.ended) is in
    let remains = remains-each bytes [] lists.commands ended last (end_reaches.ends bytes [] ended along) at_end lists.each in
    record {
      commands = lists.commands;
      closed = end_reaches.done bytes lists.commands last remains (still-ended ended last lists.commands lists.each ∙ at_end) is_done;
      written = lists.written;
      listed = lists.listed;
    }

-- ---- the lines of the list

first_line : (line rest : List ℕ) → list_all is_printable line ≡ true → lines_of (line ++ (10 ∷ rest)) ≡ line ∷ lines_of rest
first_line [] rest h = refl
first_line (b ∷ line) rest h = grind (arith, first_line line rest (and_parts (is_printable b) (list_all is_printable line) h).1)

lines_stand : (cs : List Token) → AreWritten cs → LinesStand (lines_of (text_of cs)) cs
lines_stand [] h = refl
lines_stand (c ∷ cs) h = grind (arith, first_line, lines_stand cs h.1)

text_ascii : (cs : List Token) → AreWritten cs → IsAscii (text_of cs)
text_ascii [] h = IsAscii-nil
text_ascii (c ∷ cs) h = IsAscii-append (written_line c) (10 ∷ text_of cs) (line_ascii (written_line c) h.0.printable) (IsAscii-cons 10 (text_of cs) (omega arith) (text_ascii cs h.1))

-- what is listed is text
pub listed_utf8 : (bytes text : List ℕ) → IsListed bytes text → IsUtf8 text
listed_utf8 bytes text l = subst IsUtf8 (sym l.listed) (IsUtf8-from_ascii (text_of l.commands) (text_ascii l.commands l.written))

-- the lines stand for the commands
stands : (bytes text : List ℕ) → (l : IsListed bytes text) → LinesStand (lines_of text) l.commands
stands bytes text l = subst (λ (x : List ℕ). LinesStand (lines_of x) l.commands) (sym l.listed) (lines_stand l.commands l.written)

-- the list is the disassembly
pub disassembled : (bytes text : List ℕ) → IsListed bytes text → IsDisassembly bytes text
disassembled bytes text l = record {
  commands = l.commands;
  closed = l.closed;
  listed = l.listed;
  stand = stands bytes text l;
  assembles = record { commands = l.commands; give = stand_give (lines_of text) l.commands (stands bytes text l); spelled = refl };
  again = λ assembled a.
      let same = one_give (lines_of text) l.commands (stands bytes text l) a.commands a.give in
      subst (λ (x : List ℕ). Closed x l.commands) (sym (a.spelled ∙ ap all_bytes same)) (read_again bytes l.commands l.closed);
}
