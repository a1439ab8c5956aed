-- The talk of a debugger, and where it stands in the trace of its stream.
use Rattle.std.proofs.Common.{◌≡◌, ◌∙◌, ℕ, List, [], ◌∷◌, Option, sym, ap, subst, inr}
use Rattle.press_files.specs.Causes.{Failures, InputCause}
use Rattle.press_files.specs.Change.{change}
use Rattle.press_debug.specs.declared.breakpoints.Break.{Break}
use Rattle.press_debug.specs.Breaks.{no_breaks}
use Rattle.press_debug.specs.Steps.{DebuggerState, at_start}
use Rattle.press_forms.specs.declared.debugging.DebugError.{DebugError}
use Rattle.press_forms.specs.declared.debugging.DebugError.TheVariants.{Input, Output, NoMemory}
use Rattle.press_files.specs.Inputs.{ReadWhole}
use Rattle.press_forms.specs.DebuggerLines.{asked_of}
use Rattle.press_forms.specs.Debugging.{Seat, seat, opened, DoesLine, StandsIn, AnswersLine, debugging, debugging_over, Debugs, StopsDebugging}
use Rattle.press_files.specs.Talking.{Talking, AnswersLines, AnswersAll, AnswersSome, caused, line_by_line}
use Rattle.press_forms.proofs.DebuggerSteps.{stands_at_start, stands_line}
use Rattle.press_files.proofs.TalkLemmas.{IsSeen, IsSeen-caused, AnswersAll-seen, AnswersSome-seen}

module _ {S : Type 0} (steps : S → DebuggerState) (breaks : S → List (Option Break)) where
  abbrev sits : S → Seat
  sits at = seat (steps at) (breaks at)

  abbrev does_line : S → List ℕ → List ℕ → S → Type 0
  does_line old line answer new = DoesLine (asked_of line) (sits old) answer (sits new)

  abbrev pub debugs : Talking S DebugError
  debugs = line_by_line does_line (λ at line why ended. why ≡ NoMemory) (λ error why. why ≡ Input error) (λ error why. why ≡ Output error)

  -- behind each line it stands in the trace
  lines_stand : (bytes : List ℕ) (lines : List (List ℕ)) (old : S) (answers : List ℕ) (new : S) → AnswersLines does_line lines old answers new → StandsIn bytes (steps old)
      → AnswersLines (AnswersLine bytes) lines (sits old) answers (sits new) × StandsIn bytes (steps new)
  lines_stand bytes [] old answers new (none, same) stands = ((none, ap sits same), subst (λ (at : S). StandsIn bytes (steps at)) (sym same) stands)
  lines_stand bytes (line ∷ lines) old answers new (answer, others, next, does, answered, are) stands =
      let stands_next = stands_line bytes (asked_of line) (sits old) answer (sits next) does stands in
      let rest = lines_stand bytes lines next others new answered stands_next in
      ((answer, others, sits next, (does, stands_next), rest.0, are), rest.1)

  is_seen : (bytes : List ℕ) (first : S) → StandsIn bytes (steps first) → IsSeen debugs (debugging bytes) sits first
  is_seen bytes first stands = record {
    takes = λ lines answers last takes. (lines_stand bytes lines first answers last takes stands).0;
    line = λ lines answers last takes line answer next does. (lines_stand bytes (line ∷ []) last answer next does (lines_stand bytes lines first answers last takes stands).1).0;
    refuses = λ lines answers last takes line why ended refuses. refuses;
    unread = λ error why is. is;
    unwritten = λ error why is. is;
  }

  -- a debugger that was opened
  module _ (first : S) (stream rest had left old new : Option (List ℕ)) (bytes : List ℕ) (read : ReadWhole stream rest bytes)
      (starts : steps first ≡ at_start bytes) (none : breaks first ≡ no_breaks) where
    seen : IsSeen debugs (debugging bytes) sits first
    seen = is_seen bytes first (subst (StandsIn bytes) (sym starts) (stands_at_start bytes))

    same_seat : sits first ≡ opened bytes
    same_seat = ap (λ (these : DebuggerState). seat these (breaks first)) starts ∙ ap (λ (these : List (Option Break)). seat (at_start bytes) these) none

    pub Debugs-all : AnswersAll debugs first had left old new → Debugs stream rest had left old new
    Debugs-all all = (bytes, read, subst (λ (at : Seat). AnswersAll (debugging bytes) at had left old new) same_seat (AnswersAll-seen seen had left old new all))

    pub StopsDebugging-some : (missing : Type 0) (fails : Failures) (why : DebugError)
        → AnswersSome (caused debugs (InputCause fails.input) fails.output) first had left (change old new) why
        → StopsDebugging missing fails (change stream rest) (change had left) (change old new) why
    StopsDebugging-some missing fails why some =
        let over = IsSeen-caused (InputCause fails.input) fails.output seen in
        let P : Seat → Type 0 = λ at. AnswersSome (debugging_over bytes fails) at had left (change old new) why in
        inr (bytes, read, subst P same_seat (AnswersSome-seen over had left old new why some))
