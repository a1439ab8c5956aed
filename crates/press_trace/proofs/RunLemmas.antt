-- The lines of runs, and what the next line is of.
use Rattle.std.proofs.Common.{◌≡◌, ◌∙◌, ◌+◌, ◌-◌, ◌≤◌, ◌<◌, ℕ, suc, List, [], ◌∷◌, ◌++◌, length, Option, Some, None, inl, inr, refl, sym, ap, subst, arith}
use Rattle.std.proofs.lemmas.List.{append_assoc, append-nil}
use Rattle.press_cmd.specs.Token.{Token}
use Rattle.std.specs.List.{AllByRecursion}
use Rattle.press_cmd.specs.Kinds.{kind_of}
use Rattle.press_scan.specs.Gives.{Passes}
use Rattle.press_scan.specs.Passing.{PassesEach}
use Rattle.press_scan.specs.ScannerState.{ScannerState}
use Rattle.press_table.specs.Passing.{HasNoEffect}
use Rattle.press_engine.specs.declared.machine.Machine.{Machine}
use Rattle.press_engine.specs.Machine.{silent}
use Rattle.press_engine.specs.Passing.{passed}
use Rattle.press_engine.specs.Trace.{last_machine}
use Rattle.press_stream.specs.Answers.{IsIdle}
use Rattle.press_stream.specs.State.{JobState}
use Rattle.press_stream.specs.Steps.{passed_each}
use Rattle.press_stream.proofs.Going.{same_some}
use Rattle.press_stream.proofs.ItemsLeft.{items_left}
use Rattle.press_trace.specs.declared.line_of.LineOf.{LineOf}
use Rattle.press_trace.specs.declared.line_of.LineOf.TheVariants.{Step, Run}
use Rattle.press_trace.specs.declared.place.Place.{Place}
use Rattle.press_trace.specs.declared.tracer.Tracer.{Tracer}
use Rattle.press_trace.specs.Lines.{AreLines, IsLine, IsLineOf}
use Rattle.press_trace.specs.Places.{Placed, from_on, runs_of}
use Rattle.press_trace.specs.Runs.{AreRunLines, AreTold, IsNextLine, IsRunLine, ItemRun, OnlyCount, items_in, items_of, last_behind, machine_if, place_through, through}
use Rattle.press_trace.specs.Standing.{TracerStandsBehind}
use Rattle.press_trace.specs.Traced.{last_of}
use Rattle.press_trace.specs.Tracing.{TellsBy, TellsOne, TellsRun, placed_run, told_before}
use Rattle.press_trace.proofs.Chains.{Chain, at, chain_fewer, chain_from, chain_stands, each-ended, each-fewer, item_of, items-count, items-length, items_over, job_at, last-end, last-run, passed_item, stands_at_end}
use Rattle.press_trace.proofs.Fewer.{fewer_left}
use Rattle.press_trace.proofs.StepLemmas.{ended_still}
use Rattle.press_trace.proofs.Standing.{one_step}

-- ---- lines, and one more behind them

AreLines-then : (before : Option Machine) (placed : List Placed) (text : List ℕ) (one : Placed) (line : List ℕ)
    → AreLines before placed text → IsLine (last_of before placed) one line → AreLines before (placed ++ one ∷ []) (text ++ line)
AreLines-then before [] text one line none is = grind (arith, append-nil)
AreLines-then before (first ∷ placed) text one line (prefix, rest, here, others, cut) is =
    grind (arith, append_assoc, AreLines-then (Some first.run.machine) placed rest one line others is)

-- the machine behind runs
abbrev behind_runs : Option Machine → List ItemRun → Option Machine
behind_runs before [] = before
behind_runs before (run ∷ runs) = behind_runs (Some (last_behind run.first run.others).run.machine) runs

last_of-append : (before : Option Machine) (placed others : List Placed) → last_of before (placed ++ others) ≡ last_of (last_of before placed) others
last_of-append before [] others = refl
last_of-append before (first ∷ placed) others = last_of-append (Some first.run.machine) placed others

last_of-run : (first : Placed) (others : List Placed) → last_of (Some first.run.machine) others ≡ Some (last_behind first others).run.machine
last_of-run first [] = refl
last_of-run first (next ∷ others) = last_of-run next others

last_of-runs : (before : Option Machine) (runs : List ItemRun) → last_of before (items_in runs) ≡ behind_runs before runs
last_of-runs before [] = refl
last_of-runs before (run ∷ runs) = grind (arith, last_of-append, last_of-run, last_of-runs (Some (last_behind run.first run.others).run.machine) runs)

items_in-then : (runs : List ItemRun) (run : ItemRun) → items_in (runs ++ run ∷ []) ≡ items_in runs ++ items_of run
items_in-then [] run = append-nil (items_of run)
items_in-then (first ∷ runs) run = ap (λ (all : List Placed). items_of first ++ all) (items_in-then runs run) ∙ sym (append_assoc (items_of first) (items_in runs) (items_of run))

AreRunLines-then : (before : Option Machine) (runs : List ItemRun) (text : List ℕ) (run : ItemRun) (line : List ℕ)
    → AreRunLines before runs text → IsRunLine (behind_runs before runs) run.first run.others line → AreRunLines before (runs ++ run ∷ []) (text ++ line)
AreRunLines-then before [] text run line none is =
    (line, [], is, refl, ap (λ (all : List ℕ). all ++ line) none ∙ sym (append-nil line))
AreRunLines-then before (first ∷ runs) text run line (prefix, rest, here, others, cut) is = (
  prefix,
  rest ++ line,
  here,
  AreRunLines-then (Some (last_behind first.first first.others).run.machine) runs rest run line others is,
  ap (λ (all : List ℕ). all ++ line) cut ∙ append_assoc prefix rest line,
)

pub AreTold-then : (by : LineOf) (placed : List Placed) (text : List ℕ) (next : List Placed) (line : List ℕ)
    → AreTold by placed text → IsNextLine by (last_of None placed) next line → AreTold by (placed ++ next) (text ++ line)
AreTold-then Step placed text next line lines (one, is, line_is) =
    subst (λ (more : List Placed). AreLines None (placed ++ more) (text ++ line)) (sym is) (AreLines-then None placed text one line lines line_is)
AreTold-then Run placed text next line (runs, are, lines) (run, is, line_is) = (
  runs ++ run ∷ [],
  (λ i. are i ++ is i) ∙ sym (items_in-then runs run),
  AreRunLines-then None runs text run line lines
      (subst (λ (before : Option Machine). IsRunLine before run.first run.others line) (ap (last_of None) are ∙ last_of-runs None runs) line_is),
)

-- ---- the line of a run

one_through : (first : Placed) → through first first ≡ first
one_through first = grind arith

is_run_line : (before : Option Machine) (first : Placed) (others : List Placed) (line : List ℕ) → OnlyCount (machine_if before) (first ∷ others)
    → IsLineOf (length (first ∷ others)) before (through first (last_behind first others)) line → IsRunLine before first others line
is_run_line before first others line counts is = grind (arith, one_through)

machine-of : (before : Option Machine) (placed : List Placed) → machine_if (last_of before placed) ≡ last_machine (machine_if before) (runs_of placed)
machine-of before [] = refl
machine-of before (first ∷ placed) = machine-of (Some first.run.machine) placed

-- ---- what the next line is of

-- The next line tells these items, and it stands behind them then.
pub record TellsNext (by : LineOf) (old : Tracer) (line : List ℕ) (new : Tracer) : Type 0 where
  pub next : List Placed
  pub stands : (bytes : List ℕ) (placed : List Placed) → TracerStandsBehind bytes placed old → TracerStandsBehind bytes (placed ++ next) new
  pub is_line : (bytes : List ℕ) (placed : List Placed) → TracerStandsBehind bytes placed old → IsNextLine by (last_of None placed) next line
  pub still : new.length ≡ old.length
  pub going : new.job.held.ended ≡ old.job.held.ended
  pub fewer : length (items_left new.job) < length (items_left old.job)

module _ (old : Tracer) (line : List ℕ) (new : Tracer) (tells : TellsOne old line new) where
  abbrev one : Placed
  one = item_of old new tells.one

  line-behind : (bytes : List ℕ) (placed : List Placed) → TracerStandsBehind bytes placed old → IsLine (last_of None placed) one line
  line-behind bytes placed behind = subst (λ (before : Option Machine). IsLine before one line) behind.told tells.is_line

  next_line-by : (by : LineOf) (bytes : List ℕ) (placed : List Placed) → TracerStandsBehind bytes placed old → IsNextLine by (last_of None placed) (one ∷ []) line
  next_line-by Step bytes placed behind = (one, refl, line-behind bytes placed behind)
  next_line-by Run bytes placed behind = (record { first = one; others = [] }, refl, line-behind bytes placed behind)

  one_next : (by : LineOf) → TellsNext by old line new
  one_next by = record {
    next = one ∷ [];
    stands = λ bytes placed behind. one_step bytes placed old new behind tells.one;
    is_line = next_line-by by;
    still = tells.one.still;
    going = ended_still old.job new.job tells.one.item tells.one.kind tells.one.does;
    fewer = fewer_left old new tells.one;
  }

module _ (old : Tracer) (line : List ℕ) (new : Tracer) (within : length old.job.held.bytes ≤ old.length) (tells : TellsRun old line new) where
  abbrev from : Machine
  from = tells.passes.from

  module _ (command : Token) (given : List Token) (next : ScannerState) (passes : Passes old.job.held command next) (others : PassesEach next given new.job.held)
      (none : AllByRecursion (HasNoEffect from.state) (command ∷ given)) (count : suc tells.more ≡ length (command ∷ given))
      (ends : new.job.machine ≡ Some (passed_each (command ∷ given) from)) where
    abbrev behind_one : Machine
    behind_one = passed 1 (kind_of command) from

    abbrev first : Placed
    first = passed_item new tells.told command old.job.held next from

    abbrev rest : List Placed
    rest = items_over new tells.told given next new.job.held others behind_one

    abbrev last : Placed
    last = last_behind first rest

    same_job : new.job ≡ job_at new tells.told new.job.held (passed_each (command ∷ given) from)
    same_job = (λ i. record { held = new.job.held; machine = ends i; bodies = tells.passes.idle.1 i; exited = tells.passes.going.1 i })

    whole_chain : (place : Place) × Chain old (first ∷ rest) (at new tells.told new.job.held (passed_each (command ∷ given) from) place)
    whole_chain = (
      _,
      chain_from new tells.told old from command given new.job.held (next, passes, others) (sym tells.still) tells.passes.starts
          tells.passes.idle.0 tells.passes.going.0 none,
    )

    run-stands : (bytes : List ℕ) (placed : List Placed) → TracerStandsBehind bytes placed old → TracerStandsBehind bytes (placed ++ first ∷ rest) new
    run-stands bytes placed behind =
        stands_at_end new tells.told bytes (placed ++ first ∷ rest) new.job.held (passed_each (command ∷ given) from) whole_chain.0 same_job
        (chain_stands bytes placed old (first ∷ rest) _ whole_chain.1 behind)

    run-fewer : length (items_left new.job) < length (items_left old.job)
    run-fewer =
        let (between, takes, is, more) = whole_chain.1 in
        omega (arith, fewer_left old between takes, chain_fewer between rest _ more, ap (λ (job : JobState). length (items_left job)) same_job)

    place-is : new.place ≡ place_through first.place last.place
    place-is =
        let end : last.place.at + last.place.bytes ≡ new.length - length new.job.held.bytes =
        last-end new tells.told given next new.job.held others behind_one first (omega (arith, passes.used, within, tells.still)) (omega (arith, passes.used, within, tells.still)) in
        let fewer = each-fewer given next new.job.held others in
        let at_is : old.length - length old.job.held.bytes ≡ first.place.at = omega (arith, tells.still) in
        let size : length old.job.held.bytes - length new.job.held.bytes ≡ last.place.at + last.place.bytes - first.place.at =
        omega (arith, end, fewer, passes.used, within, tells.still) in
        tells.place ∙ (λ i. from_on (at_is i) (size i))

    run-is : silent tells.machine ≡ last.run
    run-is =
        ap silent (same_some new.job.machine tells.machine (passed_each (command ∷ given) from) tells.ends ends)
        ∙ sym (last-run new tells.told given next new.job.held others behind_one first refl)

    item-is : placed_run new.place tells.machine [] ≡ through first last
    item-is = (λ i. record { place = place-is i; run = run-is i })

    count-is : suc tells.more ≡ length (first ∷ rest)
    count-is = count ∙ ap suc (sym (items-length new tells.told given next new.job.held others behind_one))

    run-line : (bytes : List ℕ) (placed : List Placed) → TracerStandsBehind bytes placed old → IsRunLine (last_of None placed) first rest line
    run-line bytes placed behind =
        let starts : from ≡ machine_if (last_of None placed) =
        same_some old.job.machine from behind.machine tells.passes.starts behind.running ∙ behind.state ∙ sym (machine-of None placed) in
        let counts = items-count new tells.told (command ∷ given) old.job.held new.job.held (next, passes, others) from in
        is_run_line (last_of None placed) first rest line
        (subst (λ (machine : Machine). OnlyCount machine (first ∷ rest)) starts counts)
        (subst (λ n. IsLineOf n (last_of None placed) (through first last) line) count-is
        (subst (λ (before : Option Machine). IsLineOf (suc tells.more) before (through first last) line) behind.told
        (subst (λ (one : Placed). IsLineOf (suc tells.more) (told_before old) one line) item-is tells.is_line)))

    run_next : TellsNext Run old line new
    run_next = record {
      next = first ∷ rest;
      stands = run-stands;
      is_line = λ bytes placed behind. (record { first = first; others = rest }, refl, run-line bytes placed behind);
      still = tells.still;
      going = each-ended given next new.job.held others ∙ passes.ended;
      fewer = run-fewer;
    }

  next_of_run : TellsNext Run old line new
  next_of_run = by tells.passes.given tells.passes.each tells.passes.none tells.passes.count_is tells.passes.ends where
    by : (given : List Token) → PassesEach old.job.held given new.job.held → AllByRecursion (HasNoEffect from.state) given → suc tells.more ≡ length given
        → new.job.machine ≡ Some (passed_each given from) → TellsNext Run old line new
    by [] each none count ends = absurd (omega (arith, count))
    by (command ∷ given) (next, passes, others) none count ends = run_next command given next passes others none count ends

pub next_by : (by : LineOf) (old : Tracer) (line : List ℕ) (new : Tracer) → length old.job.held.bytes ≤ old.length → TellsBy by old (Some line) new → TellsNext by old line new
next_by Step old line new within tells = one_next old line new tells Step
next_by Run old line new within (inl tells) = one_next old line new tells Run
next_by Run old line new within (inr tells) = next_of_run old line new within tells

pub none_by : (by : LineOf) (old new : Tracer) → TellsBy by old None new → IsIdle old.job × (new ≡ old)
none_by by old new tells = grind arith
