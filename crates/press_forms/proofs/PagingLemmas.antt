-- A stream behind so many of its steps.
use Rattle.std.specs.Io.KnownBytes.{Appends}
use Rattle.std.proofs.Common.{◌≡◌, ◌∙◌, ◌≤◌, ◌<◌, ◌+◌, ℕ, List, [], ◌∷◌, ◌++◌, length, length-append}
use Rattle.std.proofs.Common.{take, Option, Some, Err, IfSome, refl, sym, ap, subst, arith}
use Rattle.press_files.specs.Change.{change}
use Rattle.std.proofs.lemmas.List.{take_all}
use Rattle.std.proofs.Math.Seq.{take-append_seam}
use Rattle.press_pbm.specs.Spelling.{file_of}
use Rattle.press_sink.specs.Outputs.{MadeOutput, holding, with_outputs}
use Rattle.press_engine.specs.declared.machine.Machine.{Machine}
use Rattle.press_table.specs.Closing.{page_now}
use Rattle.press_engine.specs.Machine.{StepResult, power_on}
use Rattle.press_engine.specs.Trace.{last_machine}
use Rattle.press_stream.specs.State.{IsOver}
use Rattle.press_debug.specs.Places.{StandsBehind, PlacesGoOn}
use Rattle.press_debug.specs.Steps.{DebuggerState, Advances, IsReadAtStart, at_start}
use Rattle.press_debug.specs.declared.fault.OpenError.{OpenError}
use Rattle.press_debug.specs.declared.fault.OpenError.TheVariants as opening
use Rattle.press_debug.proofs.Taking.{at_machine}
use Rattle.press_files.specs.Inputs.{ReadWhole}
use Rattle.press_forms.specs.declared.paging.PagingError.{PagingError}
use Rattle.press_forms.specs.declared.paging.PagingError.TheVariants.{Input, WriteFault, NoMemory}
use Rattle.press_forms.specs.Paging.{AreTaken, HasPage, MakesPage, PagedBehind, PagedInto, StandsAt, StopsPaging, TellsEnd, end_text, page_behind}

-- It stands behind so many items.
pub record StandsBehindSo (bytes : List ℕ) (count : ℕ) (now : DebuggerState) : Type 0 where
  pub items : List StepResult
  pub many : length items ≡ count
  pub behind : StandsBehind bytes items now

pub begins_so : PlacesGoOn → (bytes : List ℕ) (now : DebuggerState) → now ≡ at_start bytes → StandsBehindSo bytes 0 now
begins_so law bytes now is = record { items = []; many = refl; behind = subst (StandsBehind bytes []) (sym is) (law.begins bytes) }

pub goes_so : PlacesGoOn → (bytes : List ℕ) (count : ℕ) (item : StepResult) (old new : DebuggerState) → StandsBehindSo bytes count old
    → Advances old (item ∷ []) new → StandsBehindSo bytes (count + 1) new
goes_so law bytes count item old new so advances = record {
  items = so.items ++ item ∷ [];
  many = length-append so.items (item ∷ []) ∙ ap (λ (n : ℕ). n + 1) so.many;
  behind = law.goes_on bytes so.items (item ∷ []) old new so.behind advances;
}

-- as many steps were taken as were asked for
pub stands_at : (bytes : List ℕ) (steps : ℕ) (now : DebuggerState) → StandsBehindSo bytes steps now → StandsAt bytes steps steps now
stands_at bytes steps now so =
    let prefix : take steps (so.items ++ so.behind.others) ≡ so.items =
    ap (λ (n : ℕ). take n (so.items ++ so.behind.others)) (sym so.many) ∙ take-append_seam so.items so.behind.others in
    let long : length (so.items ++ so.behind.others) ≡ length so.items + length so.behind.others = length-append so.items so.behind.others in
    record {
      items = so.items ++ so.behind.others;
      trace = so.behind.are;
      state = so.behind.state ∙ ap (λ (items : List StepResult). Some (last_machine power_on items)) (sym prefix);
      count = record {
        few = omega arith;
        within = omega (arith, long, so.many);
        all = λ fewer. absurd (omega (arith, fewer));
      };
    }

-- no step was left, before as many were taken
pub stands_at_end : PlacesGoOn → (bytes : List ℕ) (count steps : ℕ) (now : DebuggerState) → count ≤ steps → StandsBehindSo bytes count now
    → IsOver now.job → StandsAt bytes steps count now
stands_at_end law bytes count steps now few so over = record {
  items = so.items;
  trace = law.at_end bytes so.items now so.behind over;
  state =
      so.behind.state
      ∙ ap (λ (items : List StepResult). Some (last_machine power_on items)) (sym (take_all steps so.items (omega (arith, few, so.many))));
  count = record { few = few; within = omega (arith, so.many); all = λ _. sym so.many };
}

-- ---- the same of the stream of a reader

-- It was read whole, and stands behind so many items.
pub record ReadBehind (had left : Option (List ℕ)) (count : ℕ) (now : DebuggerState) : Type 0 where
  pub bytes : List ℕ
  pub read : ReadWhole had left bytes
  pub behind : StandsBehindSo bytes count now

pub begins_read : PlacesGoOn → (had left : Option (List ℕ)) (now : DebuggerState) → IsReadAtStart had left now → ReadBehind had left 0 now
begins_read law had left now start = grind (arith, begins_so)

pub goes_read : PlacesGoOn → (had left : Option (List ℕ)) (count : ℕ) (item : StepResult) (old new : DebuggerState) → ReadBehind had left count old
    → Advances old (item ∷ []) new → ReadBehind had left (count + 1) new
goes_read law had left count item old new so advances = search (arith, goes_so)

-- what is told of the end, where it is
pub tells_end : (steps : ℕ) (items : List StepResult) (taken : ℕ) (said says : Option (List ℕ)) → AreTaken steps items taken → taken < steps
    → Appends said says (end_text taken) → TellsEnd steps items said says
tells_end steps items taken said says are fewer tells = record {
  short = λ _. subst (λ (count : ℕ). Appends said says (end_text count)) (are.all fewer) tells;
  long = λ long. absurd (omega (arith, long, fewer, are.all fewer));
}

pub tells_no_end : (steps : ℕ) (items : List StepResult) (taken : ℕ) (said : Option (List ℕ)) → AreTaken steps items taken → steps ≤ taken
    → TellsEnd steps items said said
tells_no_end steps items taken said are many = grind arith

-- ---- its page, made an output

module _ (had left : Option (List ℕ)) (bytes : List ℕ) (read : ReadWhole had left bytes) (steps taken : ℕ) (now : DebuggerState) where
  abbrev has_page : (at : StandsAt bytes steps taken now) → HasPage steps had left (page_behind steps at.items)
  has_page at = record { bytes = bytes; read = read; items = at.items; trace = at.trace; open_page = refl }

  -- the machine of the page
  abbrev machine_of : StandsAt bytes steps taken now → Machine
  machine_of at = last_machine power_on (take steps at.items)

  pub page_made : (name : List ℕ) (before after : Option (List MadeOutput)) → StandsAt bytes steps taken now
      → IfSome now.job.machine (λ machine. after ≡ with_outputs (holding name (file_of (page_now machine.state)) ∷ []) before)
      → PagedBehind steps name had left before after taken
  page_made name before after at makes =
      let paged : PagedInto steps name had left before after = (
        page_behind steps at.items,
        has_page at,
        at_machine now.job.machine (λ machine. after ≡ with_outputs (holding name (file_of (page_now machine.state)) ∷ []) before)
            (machine_of at) at.state makes,
      ) in
      (paged, at.count)

  no_page : (name : List ℕ) (before after : Option (List MadeOutput)) (why : PagingError) → (at : StandsAt bytes steps taken now)
      → MakesPage (page_now (machine_of at).state) name (Err why) before after → StopsPaging steps name had left (change before after) why
  no_page name before after WriteFault at prefix = (page_behind steps at.items, has_page at, prefix)
  no_page name before after NoMemory at same = same
  no_page name before after (Input why) at makes = absurd makes

  pub page_stopped : (name : List ℕ) (before after : Option (List MadeOutput)) (error : PagingError) → StandsAt bytes steps taken now
      → IfSome now.job.machine (λ machine. MakesPage (page_now machine.state) name (Err error) before after)
      → StopsPaging steps name had left (change before after) error
  page_stopped name before after error at makes = grind (arith, no_page)
