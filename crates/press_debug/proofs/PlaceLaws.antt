-- The place of a debugger in the trace of its stream, and the end of that trace.
use Rattle.std.proofs.Common.{◌≡◌, ◌∙◌, ℕ, List, [], ◌++◌, Some, refl, sym, ap, subst}
use Rattle.std.proofs.lemmas.List.{append_assoc, append-nil}
use Rattle.press_cmd.specs.ParserState.{Exit}
use Rattle.press_cmd.specs.Split.{ClosedFrom, closing}
use Rattle.press_cmd.specs.declared.variant.Kind.{Kind}
use Rattle.press_cmd.proofs.Splits.{some_split}
use Rattle.press_engine.specs.declared.machine.Machine.{Machine}
use Rattle.press_engine.specs.Machine.{StepResult, power_on}
use Rattle.press_engine.specs.Trace.{last_machine, trace}
use Rattle.press_stream.specs.Meaning.{with_exit}
use Rattle.press_stream.specs.State.{IsOver}
use Rattle.press_stream.proofs.Going.{same_some}
use Rattle.press_stream.proofs.Items.{last-append}
use Rattle.press_stream.proofs.LeftLemmas.{left_goes_on}
use Rattle.press_debug.specs.Steps.{DebuggerState, Advances, at_start, with_kinds}
use Rattle.press_debug.specs.Places.{StandsBehind, PlacesGoOn}
use Rattle.press_stream.specs.Traced.{IsTraceOf}
use Rattle.press_debug.proofs.KindLemmas.{kinds_of_places}
use Rattle.press_debug.proofs.Taking.{with_kinds-append}

begins : (bytes : List ℕ) → StandsBehind bytes [] (at_start bytes)
begins bytes =
    let found = some_split Exit bytes in
    let closed = found.commands ++ closing found.mode found.rest in
    let is_closed : ClosedFrom Exit bytes closed = (found.commands, found.mode, found.rest, found.split, refl) in
    record {
      others = trace (with_exit closed) power_on;
      are = (closed, is_closed, refl);
      left = record {
        from = power_on;
        starts = refl;
        commands = with_exit closed;
        owes = (λ _. refl, (closed, subst (λ all. ClosedFrom Exit all closed) (sym (append-nil bytes)) is_closed, refl));
        are = refl;
      };
      state = refl;
      recent = refl;
    }

goes_on : (bytes : List ℕ) (items taken : List StepResult) (old new : DebuggerState) → StandsBehind bytes items old → Advances old taken new → StandsBehind bytes (items ++ taken) new
goes_on bytes items taken old new behind advances =
    let at = last_machine power_on items in
    let rest = advances.left behind.others behind.left in
    let same : advances.from ≡ at = same_some old.job.machine advances.from at advances.starts behind.state in
    record {
      others = rest.0;
      are = subst (IsTraceOf bytes) (ap (λ (more : List StepResult). items ++ more) rest.1 ∙ sym (append_assoc items taken rest.0)) behind.are;
      left = rest.2;
      state = advances.ends ∙ ap (λ (machine : Machine). Some (last_machine machine taken)) same ∙ ap (λ (machine : Machine). Some machine) (sym (last-append items taken power_on));
      recent = advances.recent ∙ ap (λ (kinds : List Kind). with_kinds kinds taken) behind.recent ∙ with_kinds-append [] items taken;
    }

at_end : (bytes : List ℕ) (items : List StepResult) (now : DebuggerState) → StandsBehind bytes items now → IsOver now.job → IsTraceOf bytes items
at_end bytes items now behind over =
    let none = left_goes_on.over now.job [] behind.others over behind.left in
    subst (IsTraceOf bytes) (ap (λ (more : List StepResult). items ++ more) none ∙ append-nil items) behind.are

pub places_go_on : PlacesGoOn
places_go_on = record { begins = begins; goes_on = goes_on; at_end = at_end; kinds = kinds_of_places }
