-- Steps that do no more than count, taken at once: they are steps one behind the other.
use Rattle.std.proofs.Common.{◌≡◌, ◌∙◌, ◌+◌, ◌-◌, ◌≤◌, ℕ, suc, List, [], ◌∷◌, ◌++◌, length, Some, IsSome, false, inl, inr, refl, sym, ap, subst, arith}
use Rattle.std.proofs.lemmas.List.{append_assoc, append-nil}
use Rattle.std.specs.List.{AllByRecursion}
use Rattle.press_cmd.specs.Kinds.{kind_of}
use Rattle.press_cmd.specs.Token.{Token}
use Rattle.press_scan.specs.Gives.{Passes}
use Rattle.press_scan.specs.Passing.{PassesEach}
use Rattle.press_scan.specs.ScannerState.{ScannerState}
use Rattle.press_table.specs.Passing.{HasNoEffect}
use Rattle.press_engine.specs.declared.activation.Activation.{Activation}
use Rattle.press_engine.specs.declared.machine.Machine.{Machine}
use Rattle.press_engine.specs.Machine.{silent}
use Rattle.press_engine.specs.Passing.{passed}
use Rattle.press_engine.proofs.PassingLaws.{one-passed}
use Rattle.press_stream.specs.Meaning.{left}
use Rattle.press_stream.specs.State.{JobState}
use Rattle.press_stream.specs.Steps.{PassesOrStays, PassesRun, passed_each}
use Rattle.press_stream.proofs.Items.{left-one}
use Rattle.press_stream.proofs.ItemsLeft.{items_left}
use Rattle.press_trace.specs.declared.place.Place.{Place}
use Rattle.press_trace.specs.declared.tracer.Tracer.{Tracer}
use Rattle.press_trace.specs.Places.{Placed, from_on}
use Rattle.press_trace.specs.Runs.{OnlyCount, last_behind}
use Rattle.press_trace.specs.Standing.{TracerStandsBehind}
use Rattle.press_trace.specs.Tracing.{TakesOne}
use Rattle.press_trace.proofs.Fewer.{fewer_left}
use Rattle.press_trace.proofs.Standing.{one_step}

-- the item of a step
abbrev pub item_of : (old new : Tracer) → TakesOne old new → Placed
item_of old new takes = record { place = new.place; run = takes.item }

-- These are the items of steps that were taken one behind the other.
abbrev pub Chain : Tracer → List Placed → Tracer → Type 0
Chain old [] new = old ≡ new
Chain old (one ∷ others) new =
    (between : Tracer) × (takes : TakesOne old between) × (one ≡ item_of old between takes) × Chain between others new

pub chain_stands : (bytes : List ℕ) (placed : List Placed) (old : Tracer) (items : List Placed) (new : Tracer) → Chain old items new
    → TracerStandsBehind bytes placed old → TracerStandsBehind bytes (placed ++ items) new
chain_stands bytes placed old [] new same behind =
    subst (λ (all : List Placed). TracerStandsBehind bytes all new) (sym (append-nil placed)) (subst (TracerStandsBehind bytes placed) same behind)
chain_stands bytes placed old (one ∷ others) new (between, takes, is, more) behind =
    let here : TracerStandsBehind bytes (placed ++ one ∷ []) between =
    subst (λ (item : Placed). TracerStandsBehind bytes (placed ++ item ∷ []) between) (sym is) (one_step bytes placed old between behind takes) in
    subst (λ (all : List Placed). TracerStandsBehind bytes all new) (append_assoc placed (one ∷ []) others) (chain_stands bytes (placed ++ one ∷ []) between others new more here)

pub chain_fewer : (old : Tracer) (items : List Placed) (new : Tracer) → Chain old items new → length (items_left new.job) ≤ length (items_left old.job)
chain_fewer old [] new same = omega (arith, ap (λ (one : Tracer). length (items_left one.job)) same)
chain_fewer old (one ∷ others) new (between, takes, is, more) = omega (arith, fewer_left old between takes, chain_fewer between others new more)

-- ---- commands that a scanner passes over

pub each-fewer : (given : List Token) (held new : ScannerState) → PassesEach held given new → length new.bytes ≤ length held.bytes
each-fewer [] held new is = omega (arith, ap (λ (now : ScannerState). length now.bytes) is)
each-fewer (command ∷ given) held new (next, passes, others) = omega (arith, passes.used, each-fewer given next new others)

pub each-ended : (given : List Token) (held new : ScannerState) → PassesEach held given new → new.ended ≡ held.ended
each-ended [] held new is = ap (λ (now : ScannerState). now.ended) is
each-ended (command ∷ given) held new (next, passes, others) = each-ended given next new others ∙ passes.ended

pub state-stays : (given : List Token) (machine : Machine) → (passed_each given machine).state ≡ machine.state
state-stays [] machine = refl
state-stays (command ∷ given) machine = state-stays given (passed 1 (kind_of command) machine)

-- some were taken
pub some_run : (old : JobState) (count : ℕ) (new : JobState) → (count ≡ 0 → ⊥) → PassesOrStays old count new → (more : ℕ) × (count ≡ suc more) × PassesRun old (suc more) new
some_run old count new some passes = grind arith

-- ---- the steps of a run, which end at a tracer that told something

module _ (final : Tracer) (some : IsSome final.before) where
  abbrev pub job_at : ScannerState → Machine → JobState
  job_at held machine = record { held = held; machine = Some machine; bodies = []; exited = false }

  abbrev pub at : ScannerState → Machine → Place → Tracer
  at held machine place = record final { job = job_at held machine; place = place }

  abbrev pub place_between : ScannerState → ScannerState → Place
  place_between held next = from_on (final.length - length held.bytes) (length held.bytes - length next.bytes)

  abbrev pub passed_item : Token → ScannerState → ScannerState → Machine → Placed
  passed_item command held next machine = record { place = place_between held next; run = silent (passed 1 (kind_of command) machine) }

  one_taken : (old : Tracer) (machine : Machine) (command : Token) (next : ScannerState) → old.length ≡ final.length
      → old.job.machine ≡ Some machine → old.job.bodies ≡ [] → old.job.exited ≡ false → Passes old.job.held command next → HasNoEffect machine.state command
      → TakesOne old (at next (passed 1 (kind_of command) machine) (place_between old.job.held next))
  one_taken old machine command next long running idle going passes none = record {
    item = silent (passed 1 (kind_of command) machine);
    kind = kind_of command;
    does = record {
      given = command ∷ [];
      takes = inr (inl (command, refl, idle, going, refl, passes));
      from = machine;
      starts = running;
      ends = refl;
      is_kind = refl;
      are = ap (λ (bodies : List Activation). left (command ∷ []) bodies machine) idle ∙ left-one command machine ∙ one-passed command machine none;
    };
    place = ap (λ n. from_on (n - length old.job.held.bytes) (length old.job.held.bytes - length next.bytes)) (sym long);
    still = sym long;
    told = some;
  }

  abbrev pub items_over : (given : List Token) (held new : ScannerState) → PassesEach held given new → Machine → List Placed
  items_over [] held new is machine = []
  items_over (command ∷ given) held new (next, passes, others) machine =
      passed_item command held next machine ∷ items_over given next new others (passed 1 (kind_of command) machine)

  abbrev last_place : (given : List Token) (held new : ScannerState) → PassesEach held given new → Place → Place
  last_place [] held new is place = place
  last_place (command ∷ given) held new (next, passes, others) place = last_place given next new others (place_between held next)

  pub items-count : (given : List Token) (held new : ScannerState) (each : PassesEach held given new) (machine : Machine) → OnlyCount machine (items_over given held new each machine)
  items-count [] held new is machine = tt
  items-count (command ∷ given) held new (next, passes, others) machine = grind (arith, items-count given next new others (passed 1 (kind_of command) machine))

  pub items-length : (given : List Token) (held new : ScannerState) (each : PassesEach held given new) (machine : Machine) → length (items_over given held new each machine) ≡ length given
  items-length [] held new is machine = refl
  items-length (command ∷ given) held new (next, passes, others) machine = ap suc (items-length given next new others (passed 1 (kind_of command) machine))

  -- the last of them
  pub last-run : (given : List Token) (held new : ScannerState) (each : PassesEach held given new) (machine : Machine) (first : Placed)
      → first.run ≡ silent machine → (last_behind first (items_over given held new each machine)).run ≡ silent (passed_each given machine)
  last-run [] held new is machine first run = run
  last-run (command ∷ given) held new (next, passes, others) machine first run =
      grind (arith, last-run given next new others (passed 1 (kind_of command) machine) (passed_item command held next machine) refl)

  pub last-end : (given : List Token) (held new : ScannerState) (each : PassesEach held given new) (machine : Machine) (first : Placed)
      → length held.bytes ≤ final.length → first.place.at + first.place.bytes ≡ final.length - length held.bytes
      → (last_behind first (items_over given held new each machine)).place.at + (last_behind first (items_over given held new each machine)).place.bytes ≡ final.length - length new.bytes
  last-end [] held new is machine first within end = end ∙ ap (λ (now : ScannerState). final.length - length now.bytes) (sym is)
  last-end (command ∷ given) held new (next, passes, others) machine first within end =
      last-end given next new others (passed 1 (kind_of command) machine) (passed_item command held next machine) (omega (arith, passes.used, within)) (omega (arith, passes.used, within))

  chain_on : (given : List Token) (held new : ScannerState) (each : PassesEach held given new) (machine : Machine) (place : Place) → AllByRecursion (HasNoEffect machine.state) given
      → Chain (at held machine place) (items_over given held new each machine) (at new (passed_each given machine) (last_place given held new each place))
  unfolding one_taken
  chain_on [] held new is machine place all = ap (λ (now : ScannerState). at now machine place) (sym is)
  chain_on (command ∷ given) held new (next, passes, others) machine place all = (
    at next (passed 1 (kind_of command) machine) (place_between held next),
    one_taken (at held machine place) machine command next refl refl refl refl passes all.0,
    refl,
    chain_on given next new others (passed 1 (kind_of command) machine) (place_between held next) all.1,
  )

  -- from any tracer that stands at the first of them
  pub chain_from : (old : Tracer) (machine : Machine) (command : Token) (given : List Token) (new : ScannerState) (each : PassesEach old.job.held (command ∷ given) new)
      → old.length ≡ final.length → old.job.machine ≡ Some machine → old.job.bodies ≡ [] → old.job.exited ≡ false → AllByRecursion (HasNoEffect machine.state) (command ∷ given)
      → Chain old (items_over (command ∷ given) old.job.held new each machine)
      (at new (passed_each (command ∷ given) machine) (last_place (command ∷ given) old.job.held new each old.place))
  unfolding one_taken
  chain_from old machine command given new (next, passes, others) long running idle going all = (
    at next (passed 1 (kind_of command) machine) (place_between old.job.held next),
    one_taken old machine command next long running idle going passes all.0,
    refl,
    chain_on given next new others (passed 1 (kind_of command) machine) (place_between old.job.held next) all.1,
  )

  -- where no body runs the place of the last step is of no account
  other_place : (bytes : List ℕ) (placed : List Placed) (held : ScannerState) (machine : Machine) (place other : Place) → TracerStandsBehind bytes placed (at held machine place) → TracerStandsBehind bytes placed (at held machine other)
  other_place bytes placed held machine place other behind = record {
    pieces = behind.pieces;
    prefix = behind.prefix;
    closes = behind.closes;
    whole = behind.whole;
    inside = behind.inside;
    over = behind.over;
    machine = behind.machine;
    running = behind.running;
    state = behind.state;
    are = behind.are;
    told = behind.told;
    long = behind.long;
  }

  pub stands_at_end : (bytes : List ℕ) (placed : List Placed) (held : ScannerState) (machine : Machine) (place : Place) → final.job ≡ job_at held machine
      → TracerStandsBehind bytes placed (at held machine place) → TracerStandsBehind bytes placed final
  stands_at_end bytes placed held machine place same behind = grind (arith, other_place)
