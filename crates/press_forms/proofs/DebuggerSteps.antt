-- What the lines of a debugger leave: a watch that nothing meets, and places in the trace.
use Rattle.std.proofs.Common.{◌≡◌, ◌∙◌, ◌<◌, ◌≤◌, ◌+◌, ℕ, Bool, List, [], ◌∷◌, ◌++◌, length, take, Option, Some, None, refl, sym, ap, subst, inl, inr, arith}
use Rattle.std.specs.Prelude.{slice_get}
use Rattle.std.proofs.lemmas.List.{append_assoc, take_all, take_more}
use Rattle.std.proofs.lemmas.List.Elements.{All-weaker}
use Rattle.std.proofs.lemmas.Option.{slice_get_within, slice_get_cases, get_or_from_slice_get}
use Rattle.press_cmd.specs.declared.variant.Kind.{Kind}
use Rattle.press_asm.specs.Kinds.{kind_line}
use Rattle.press_engine.specs.declared.machine.Machine.{Machine}
use Rattle.press_engine.specs.declared.view.View.{View}
use Rattle.press_engine.specs.Machine.{StepResult}
use Rattle.press_stream.specs.State.{JobState}
use Rattle.press_debug.specs.declared.breakpoints.Break.{Break}
use Rattle.press_debug.specs.declared.debugger.Stop.{Stop}
use Rattle.press_debug.specs.declared.debugger.Stop.TheVariants.{AtBreak, Stepped, Ended, LimitReached, Failed}
use Rattle.press_debug.specs.Steps.{DebuggerState, Advances, at_start}
use Rattle.press_debug.specs.Stops.{StateMeets, StopsAt, ContinuesTo, StopsInto, StopsOver}
use Rattle.press_debug.proofs.PlaceLaws.{places_go_on}
use Rattle.press_forms.specs.declared.debugger_lines.DebuggerLine.{DebuggerLine}
use Rattle.press_forms.specs.declared.debugger_lines.DebuggerLine.TheVariants as line
use Rattle.press_forms.specs.Debugging.{Seat, NeverMet, IsQuiet, DoesAsked, DoesLine, StandsIn, kinds_text}

-- ---- a watch that nothing meets

module _ (watches : View → Bool → Type 0) (quiet : IsQuiet watches) (table : List (Option Break)) where
  StateMeets-silent : (number : Option ℕ) (machine : Machine) → StateMeets watches table number machine → StateMeets NeverMet table number machine
  StateMeets-silent number machine state = grind arith

  StopsAt-silent : (items : List StepResult) (max : ℕ) (stop : Stop) (new : JobState) → StopsAt watches table items max stop new → StopsAt NeverMet table items max stop new
  StopsAt-silent items max (AtBreak number) new (passed, here, is, few, all, meets) = (
    passed,
    here,
    is,
    few,
    All-weaker (λ item. StateMeets watches table None item.machine) (λ item. StateMeets NeverMet table None item.machine)
        (λ item. StateMeets-silent None item.machine) passed all,
    StateMeets-silent (Some number) here.machine meets,
  )
  StopsAt-silent items max Ended new (few, all, over) =
      (few, All-weaker (λ item. StateMeets watches table None item.machine) (λ item. StateMeets NeverMet table None item.machine) (λ item. StateMeets-silent None item.machine) items all, over)
  StopsAt-silent items max LimitReached new (many, all, some) =
      (many, All-weaker (λ item. StateMeets watches table None item.machine) (λ item. StateMeets NeverMet table None item.machine) (λ item. StateMeets-silent None item.machine) items all, some)
  StopsAt-silent items max Stepped new stops = stops
  StopsAt-silent items max Failed new stops = stops

  pub CarriesOut-silent : (old new : DebuggerState) (max : ℕ) (stop : Stop) → ContinuesTo watches table old max stop new → ContinuesTo NeverMet table old max stop new
  CarriesOut-silent old new max (AtBreak number) (items, advances, stops) = (items, advances, StopsAt-silent items max (AtBreak number) new.job stops)
  CarriesOut-silent old new max Ended (items, advances, stops) = (items, advances, StopsAt-silent items max Ended new.job stops)
  CarriesOut-silent old new max LimitReached (items, advances, stops) = (items, advances, StopsAt-silent items max LimitReached new.job stops)
  CarriesOut-silent old new max Stepped (items, advances, stops) = (items, advances, StopsAt-silent items max Stepped new.job stops)
  CarriesOut-silent old new max Failed goes = goes

-- ---- places in the trace of a stream

module _ (bytes : List ℕ) where
  pub stands_at_start : StandsIn bytes (at_start bytes)
  stands_at_start = inl ([], places_go_on.begins bytes)

  stands_on : (old new : DebuggerState) (taken : List StepResult) → StandsIn bytes old → Advances old taken new → StandsIn bytes new
  stands_on old new taken (inl (items, behind)) advances = inl (items ++ taken, places_go_on.goes_on bytes items taken old new behind advances)
  stands_on old new taken (inr none) advances = grind arith

  stands_still : (old new : DebuggerState) → new ≡ old → StandsIn bytes old → StandsIn bytes new
  stands_still old new same stands = subst (StandsIn bytes) (sym same) stands

  stands_into : (old new : DebuggerState) (stop : Stop) → StopsInto old stop new → StandsIn bytes old → StandsIn bytes new
  stands_into old new Stepped (item, advances) stands = stands_on old new (item ∷ []) stands advances
  stands_into old new Ended (over, same) stands = stands_still old new same stands
  stands_into old new Failed (none, _) stands = inr none
  stands_into old new (AtBreak number) stops stands = absurd stops
  stands_into old new LimitReached stops stands = absurd stops

  stands_over : (old new : DebuggerState) (stop : Stop) → StopsOver old stop new → StandsIn bytes old → StandsIn bytes new
  stands_over old new Stepped passes stands = stands_on old new (passes.passed ++ passes.here ∷ []) stands passes.advances
  stands_over old new Ended (over, same) stands = stands_still old new same stands
  stands_over old new Failed (none, _) stands = inr none
  stands_over old new (AtBreak number) stops stands = absurd stops
  stands_over old new LimitReached stops stands = absurd stops

  stands_gone : (table : List (Option Break)) (old new : DebuggerState) (max : ℕ) (stop : Stop) → ContinuesTo NeverMet table old max stop new → StandsIn bytes old → StandsIn bytes new
  stands_gone table old new max (AtBreak number) (items, advances, _) stands = stands_on old new items stands advances
  stands_gone table old new max Ended (items, advances, _) stands = stands_on old new items stands advances
  stands_gone table old new max LimitReached (items, advances, _) stands = stands_on old new items stands advances
  stands_gone table old new max Stepped (items, advances, _) stands = stands_on old new items stands advances
  stands_gone table old new max Failed (none, _) stands = inr none

  stands_asked : (asked : DebuggerLine) (old : Seat) (answer : List ℕ) (new : Seat) → DoesAsked asked old answer new → StandsIn bytes old.steps → StandsIn bytes new.steps
  stands_asked asked old answer new does stands = grind (arith, stands_into, stands_over, stands_gone)

  pub stands_line : (asked : Option DebuggerLine) (old : Seat) (answer : List ℕ) (new : Seat) → DoesLine asked old answer new → StandsIn bytes old.steps → StandsIn bytes new.steps
  stands_line asked old answer new does stands = grind (arith, stands_asked)

-- ---- the lines of kinds

kinds_text-append : (kinds others : List Kind) → kinds_text (kinds ++ others) ≡ kinds_text kinds ++ kinds_text others
kinds_text-append [] others = refl
kinds_text-append (kind ∷ kinds) others = grind (arith, append_assoc, kinds_text-append kinds others)

-- one kind more
pub kinds_text-more : (recent : List Kind) (i : ℕ) (kind : Kind) (old mid new : List ℕ) → slice_get recent i ≡ Some kind
    → old ≡ kinds_text (take i recent) → mid ≡ old ++ kind_line kind → new ≡ mid ++ 10 ∷ [] → new ≡ kinds_text (take (i + 1) recent)
kinds_text-more recent i kind old mid new is so_far writes ends =
    let inside : i < length recent = slice_get_within recent i kind is in
    let one : take (i + 1) recent ≡ take i recent ++ kind ∷ [] = take_more recent i kind inside ∙ ap (λ (k : Kind). take i recent ++ k ∷ []) (get_or_from_slice_get recent i kind kind is) in
    ends ∙ ap (λ (text : List ℕ). text ++ 10 ∷ []) (writes ∙ ap (λ (text : List ℕ). text ++ kind_line kind) so_far)
    ∙ append_assoc (kinds_text (take i recent)) (kind_line kind) (10 ∷ [])
    ∙ sym (ap kinds_text one ∙ kinds_text-append (take i recent) (kind ∷ []))

-- where none stands at a place, all stand before it
past : (recent : List Kind) (i : ℕ) → slice_get recent i ≡ None → length recent ≤ i
past recent i none = grind (arith, slice_get_cases)

pub kinds_text-all : (recent : List Kind) (i : ℕ) (text : List ℕ) → slice_get recent i ≡ None → text ≡ kinds_text (take i recent) → text ≡ kinds_text recent
kinds_text-all recent i text none so_far = so_far ∙ ap kinds_text (take_all i recent (past recent i none))
