-- Where a stream stands that is traced as its pieces come.
use Rattle.std.proofs.Common.{◌≡◌, ◌∙◌, ◌⊎◌, ◌+◌, ◌-◌, ℕ, List, [], ◌∷◌, ◌++◌, length, Bool, true, false, cond, Option, Some, None, IsSome, is_some, refl, sym, ap, subst, inl, inr, arith}
use Rattle.std.proofs.lemmas.Bool.{true≢false}
use Rattle.std.proofs.lemmas.List.{append_assoc, append-nil, length-append}
use Rattle.press_cmd.specs.Token.{Token, Uel}
use Rattle.press_cmd.specs.ParserState.{ParserState, Exit}
use Rattle.press_cmd.specs.Grammar.{Head, scanned_in}
use Rattle.press_cmd.specs.Split.{ClosedFrom, NoHead, closing}
use Rattle.press_cmd.proofs.Splits.{some_split, nothing_closed}
use Rattle.press_scan.specs.Gives.{ClosesAs}
use Rattle.press_scan.specs.ScannerState.{ScannerState}
use Rattle.press_scan.proofs.ReachedLaws.{end_reaches}
use Rattle.press_engine.specs.declared.activation.Activation.{Activation}
use Rattle.press_engine.specs.declared.machine.Machine.{Machine}
use Rattle.press_engine.specs.Machine.{StepResult, power_on, macro_levels}
use Rattle.press_engine.specs.Stack.{continuation}
use Rattle.press_engine.specs.Trace.{last_machine, trace_at, trace_each, trace}
use Rattle.press_engine.proofs.TraceLaws.{last_machine-append, trace_each-append}
use Rattle.press_stream.specs.Meaning.{left, with_exit}
use Rattle.press_stream.specs.State.{JobState, NeedsInput, IsOver, input_ended}
use Rattle.press_stream.specs.Traced.{IsTraceOf, IsTraceSoFar}
use Rattle.press_stream.specs.Steps.{TakesNothing, TakesHeld, TakesExit, TakesGiven}
use Rattle.press_stream.proofs.Going.{same_some}
use Rattle.press_stream.proofs.Items.{left-none, left-one}
use Rattle.press_trace.specs.declared.place.Place.{Place}
use Rattle.press_trace.specs.declared.seen.Seen.{Seen}
use Rattle.press_trace.specs.declared.tracer.Tracer.{Tracer}
use Rattle.press_trace.specs.Places.{Piece, Placed, Opens, ArePrefix, AreWhole, IsPlacedSoFar, IsPlacedTrace, commands_of, placed_at, placed_from, placed_exit, from_on, machine_after, runs_of}
use Rattle.press_trace.specs.Standing.{TracerStandsBehind, exit_if, taken_so_far}
use Rattle.press_trace.specs.Traced.{AreFirst, last_of}
use Rattle.press_trace.specs.Tracing.{IsAtStart, TakesOne, place_of, told_before, with_more}
use Rattle.press_trace.proofs.PlaceLemmas.{bytes_in, prefix-then, prefix-length, placed-then, runs-at, runs-append, runs-from, last-from, commands-then, whole-prefix, whole-steps, whole-more, whole-then}

-- ---- at the start

-- the first items of a trace, where none was taken
pub none_first : (bytes : List ℕ) → AreFirst bytes []
none_first bytes =
    let found = some_split Exit bytes in
    let closed = found.commands ++ closing found.mode found.rest in
    record {
      others = trace (with_exit closed) power_on;
      items = (closed, (found.commands, found.mode, found.rest, found.split, refl), refl);
      pieces = [];
      mode = Exit;
      behind = bytes;
      prefix = (refl, refl);
      more = placed_exit (length bytes) power_on;
      places = refl;
    }

pub at_start : (tracer : Tracer) → IsAtStart tracer → TracerStandsBehind [] [] tracer
at_start tracer start = record {
  pieces = [];
  prefix = (sym (ap (λ (job : JobState). job.held.mode) start.job), sym (ap (λ (job : JobState). job.held.bytes) start.job));
  closes = λ commands closed. subst (λ (job : JobState). ClosedFrom job.held.mode job.held.bytes commands) start.job closed;
  whole = λ _. (sym (ap (λ (job : JobState). job.held.mode) start.job), sym (ap (λ (job : JobState). job.held.bytes) start.job));
  inside = λ _. ap (λ (job : JobState). job.exited) start.job;
  over = λ _. ap (λ (job : JobState). job.held.bytes) start.job;
  machine = power_on;
  running = ap (λ (job : JobState). job.machine) start.job;
  state = refl;
  are =
      ap (λ (job : JobState). taken_so_far job.exited 0 []) start.job
      ∙ sym (ap (λ (job : JobState). placed_at tracer.place (continuation job.bodies power_on)) start.job);
  told = ap (λ (seen : Option Seen). cond (is_some seen) tracer.job.machine None) start.untold;
  long = start.nothing;
}

-- ---- a piece more, and the end

-- what closes what is held behind pieces that are whole closes the bytes behind their commands
closes-behind : (bytes : List ℕ) (pieces : List Piece) (held : ScannerState) → AreWhole Exit bytes pieces held.mode held.bytes
    → (commands : List Token) → ClosedFrom held.mode held.bytes commands → ClosedFrom Exit bytes (commands_of pieces ++ commands)
closes-behind bytes pieces held whole = end_reaches.ends bytes (commands_of pieces) held (whole-steps Exit bytes pieces held.mode held.bytes whole)

module _ (bytes : List ℕ) (placed : List Placed) (old : Tracer) (behind : TracerStandsBehind bytes placed old) where
  pub piece_more : (piece : List ℕ) → old.job.held.ended ≡ false → TracerStandsBehind (bytes ++ piece) placed (with_more piece old)
  piece_more piece going =
      let held = (with_more piece old).job.held in
      let whole = whole-more Exit bytes piece behind.pieces old.job.held.mode old.job.held.bytes (behind.whole going) in
      let none : old.job.exited ≡ false = behind.inside going in
      record {
        pieces = behind.pieces;
        prefix = whole-prefix Exit (bytes ++ piece) behind.pieces held.mode held.bytes whole;
        closes = closes-behind (bytes ++ piece) behind.pieces held whole;
        whole = λ _. whole;
        inside = λ _. none;
        over = λ out. absurd (true≢false (sym out ∙ none));
        machine = behind.machine;
        running = behind.running;
        state = behind.state;
        are =
            ap (λ (out : Bool). taken_so_far out (length (bytes ++ piece)) behind.pieces) none
            ∙ ap (λ (out : Bool). taken_so_far out (length bytes) behind.pieces) (sym none)
            ∙ behind.are;
        told = behind.told;
        long = ap (λ n. n + length piece) behind.long ∙ sym (length-append bytes piece);
      }

  pub no_more : (new : Tracer) → new ≡ record old { job = input_ended old.job } → TracerStandsBehind bytes placed new
  no_more new is = subst (λ (now : Tracer). TracerStandsBehind bytes placed now) (sym is) here where
    here : TracerStandsBehind bytes placed (record old { job = input_ended old.job })
    here = record {
      pieces = behind.pieces;
      prefix = behind.prefix;
      closes = behind.closes;
      whole = λ going. absurd (true≢false going);
      inside = λ going. absurd (true≢false going);
      over = behind.over;
      machine = behind.machine;
      running = behind.running;
      state = behind.state;
      are = behind.are;
      told = behind.told;
      long = behind.long;
    }

  -- where no step is left of the bytes that came, and more may come, the items are those of the trace so far
  pub all_so_far : NeedsInput old.job → IsTraceSoFar bytes (runs_of placed) × IsPlacedSoFar bytes placed
  all_so_far hungry =
      let held = old.job.held in
      let whole = behind.whole hungry.going in
      let are : placed_from 0 behind.pieces power_on ≡ placed =
      sym (append-nil (placed_from 0 behind.pieces power_on))
      ∙ ap (λ (out : Bool). taken_so_far out (length bytes) behind.pieces) (sym (behind.inside hungry.going))
      ∙ behind.are
      ∙ ap (λ (bodies : List Activation). placed ++ placed_at old.place (continuation bodies behind.machine)) hungry.idle
      ∙ append-nil placed in (
        (
          commands_of behind.pieces,
          held.mode,
          held.bytes,
          record { steps = whole-steps Exit bytes behind.pieces held.mode held.bytes whole; short = hungry.short },
          ap runs_of (sym are) ∙ runs-from 0 behind.pieces power_on,
        ),
        (behind.pieces, held.mode, held.bytes, whole, hungry.short, sym are),
      )

-- ---- one item more

abbrev pub one_more : List Placed → Place → StepResult → List Placed
one_more placed place item = placed ++ record { place = place; run = item } ∷ []

last_of-then : (before : Option Machine) (placed : List Placed) (one : Placed) → last_of before (placed ++ one ∷ []) ≡ Some one.run.machine
last_of-then before [] one = refl
last_of-then before (first ∷ placed) one = last_of-then (Some first.run.machine) placed one

state-then : (placed : List Placed) (one : Placed) → one.run.machine ≡ last_machine power_on (runs_of (placed ++ one ∷ []))
state-then placed one =
    sym (last_machine-append (runs_of placed) (one.run ∷ []) power_on) ∙ ap (last_machine power_on) (sym (runs-append placed (one ∷ [])))

told-then : (new : Tracer) (machine : Machine) (placed : List Placed) (one : Placed) → IsSome new.before → new.job.machine ≡ Some one.run.machine → told_before new ≡ last_of None (placed ++ one ∷ [])
told-then new machine placed one some is = by new.before some where
  some_not : (seen : Option Seen) → seen ≡ None → IsSome seen → ⊥
  some_not seen is some = cc

  by : (seen : Option Seen) → IsSome seen → cond (is_some seen) new.job.machine None ≡ last_of None (placed ++ one ∷ [])
  by None here = absurd (some_not None refl here)
  by (Some seen) here = is ∙ sym (last_of-then None placed one)

-- ---- the three kinds of steps
module _ (bytes : List ℕ) (placed : List Placed) (old new : Tracer) (behind : TracerStandsBehind bytes placed old) (tells : TakesOne old new) where
  abbrev one : Placed
  one = record { place = new.place; run = tells.item }

  from-is : tells.does.from ≡ behind.machine
  from-is = same_some old.job.machine tells.does.from behind.machine tells.does.starts behind.running

  continuation-then : (place : Place) (runs : List StepResult) → new.place ≡ place → placed ++ placed_at place (tells.item ∷ runs) ≡ one_more placed new.place tells.item ++ placed_at new.place runs
  continuation-then place runs is =
      (λ i. placed ++ placed_at (sym is i) (tells.item ∷ runs))
      ∙ sym (append_assoc placed (one ∷ []) (placed_at new.place runs))

  pub in_body : TakesNothing old.job tells.does.given new.job → TracerStandsBehind bytes (one_more placed new.place tells.item) new
  in_body (running, nothing, held, exited) =
      let owing : continuation old.job.bodies behind.machine ≡ tells.item ∷ continuation new.job.bodies tells.item.machine =
      ap (continuation old.job.bodies) (sym from-is) ∙ sym (left-none old.job.bodies tells.does.from)
      ∙ ap (λ (given : List Token). left given old.job.bodies tells.does.from) (sym nothing) ∙ tells.does.are in
      let stays : new.place ≡ old.place = tells.place ∙ ap (λ (given : List Token). place_of old.length old.place given old.job.held new.job.held) nothing in
      record {
        pieces = behind.pieces;
        prefix = subst (λ (now : ScannerState). ArePrefix Exit bytes behind.pieces now.mode now.bytes) (sym held) behind.prefix;
        closes = λ commands closed. behind.closes commands (subst (λ (now : ScannerState). ClosedFrom now.mode now.bytes commands) held closed);
        whole = λ going.
            subst (λ (now : ScannerState). AreWhole Exit bytes behind.pieces now.mode now.bytes) (sym held)
            (behind.whole (ap (λ (now : ScannerState). now.ended) (sym held) ∙ going));
        inside = λ going. exited ∙ behind.inside (ap (λ (now : ScannerState). now.ended) (sym held) ∙ going);
        over = λ is. ap (λ (now : ScannerState). now.bytes) held ∙ behind.over (sym exited ∙ is);
        machine = tells.item.machine;
        running = tells.does.ends;
        state = state-then placed one;
        are =
            ap (λ (out : Bool). taken_so_far out (length bytes) behind.pieces) exited
            ∙ behind.are
            ∙ ap (λ (runs : List StepResult). placed ++ placed_at old.place runs) owing
            ∙ continuation-then old.place (continuation new.job.bodies tells.item.machine) stays;
        told = told-then new tells.item.machine placed one tells.told tells.does.ends;
        long = tells.still ∙ behind.long;
      }

  -- where no body runs, the items are those of the pieces alone
  whole_items : old.job.bodies ≡ [] → old.job.exited ≡ false → placed_from 0 behind.pieces power_on ≡ placed
  whole_items idle going =
      sym (append-nil (placed_from 0 behind.pieces power_on))
      ∙ ap (λ (out : Bool). taken_so_far out (length bytes) behind.pieces) (sym going)
      ∙ behind.are
      ∙ ap (λ (bodies : List Activation). placed ++ placed_at old.place (continuation bodies behind.machine)) idle
      ∙ append-nil placed

  after-is : old.job.bodies ≡ [] → old.job.exited ≡ false → machine_after behind.pieces power_on ≡ behind.machine
  after-is idle going =
      sym (last-from 0 behind.pieces power_on)
      ∙ ap (λ (items : List Placed). last_machine power_on (runs_of items)) (whole_items idle going)
      ∙ sym behind.state

  -- the items of a command of the stream
  outside-owes : (command : Token) → tells.does.given ≡ command ∷ [] → old.job.bodies ≡ [] → trace_at macro_levels command behind.machine ≡ tells.item ∷ continuation new.job.bodies tells.item.machine
  outside-owes command is idle =
      ap (trace_at macro_levels command) (sym from-is) ∙ sym (left-one command tells.does.from)
      ∙ (λ i. left (sym is i) (sym idle i) tells.does.from) ∙ tells.does.are

  -- a command that is held, by the bytes that it is, the pieces with it, and what they leave
  module _ (command : Token) (is : tells.does.given ≡ command ∷ []) (idle : old.job.bodies ≡ []) (going : old.job.exited ≡ false) (still : new.job.exited ≡ false)
      (used : List ℕ) (cut : old.job.held.bytes ≡ used ++ new.job.held.bytes)
      (opens : Opens old.job.held.mode (record { bytes = used; command = command }) new.job.held.bytes new.job.held.mode) where
    abbrev piece : Piece
    piece = record { bytes = used; command = command }

    abbrev pieces : List Piece
    pieces = behind.pieces

    place : new.place ≡ from_on (0 + bytes_in pieces) (length used)
    place =
        let all = prefix-length Exit bytes pieces old.job.held.mode old.job.held.bytes behind.prefix in
        let whole_length : length old.job.held.bytes ≡ length used + length new.job.held.bytes = ap length cut ∙ length-append used new.job.held.bytes in
        let here : length bytes - length old.job.held.bytes ≡ 0 + bytes_in pieces = omega (arith, all) in
        let size : length old.job.held.bytes - length new.job.held.bytes ≡ length used = omega (arith, whole_length) in
        tells.place ∙ ap (λ (given : List Token). place_of old.length old.place given old.job.held new.job.held) is
        ∙ ap (λ n. from_on (n - length old.job.held.bytes) (length old.job.held.bytes - length new.job.held.bytes)) behind.long
        ∙ (λ i. from_on (here i) (size i))

    command_taken : (closes : (commands : List Token) → ClosedFrom new.job.held.mode new.job.held.bytes commands → ClosedFrom Exit bytes (commands_of (pieces ++ piece ∷ []) ++ commands))
        → (whole : new.job.held.ended ≡ false → AreWhole Exit bytes (pieces ++ piece ∷ []) new.job.held.mode new.job.held.bytes)
        → TracerStandsBehind bytes (one_more placed new.place tells.item) new
    command_taken closes whole = record {
      pieces = pieces ++ piece ∷ [];
      prefix = prefix-then Exit bytes pieces old.job.held.mode old.job.held.bytes piece new.job.held.bytes new.job.held.mode behind.prefix cut opens;
      closes = closes;
      whole = whole;
      inside = λ _. still;
      over = λ out. absurd (true≢false (sym out ∙ still));
      machine = tells.item.machine;
      running = tells.does.ends;
      state = state-then placed one;
      are =
          ap (λ (out : Bool). taken_so_far out (length bytes) (pieces ++ piece ∷ [])) still
          ∙ append-nil _
          ∙ placed-then 0 pieces piece power_on
          ∙ (λ i. whole_items idle going i ++ placed_at (sym place i) (trace_at macro_levels command (after-is idle going i)))
          ∙ ap (λ (runs : List StepResult). placed ++ placed_at new.place runs) (outside-owes command is idle)
          ∙ continuation-then new.place (continuation new.job.bodies tells.item.machine) refl;
      told = told-then new tells.item.machine placed one tells.told tells.does.ends;
      long = tells.still ∙ behind.long;
    }

    abbrev with_it : (List Token) → List Token
    with_it commands = commands_of pieces ++ command ∷ commands

    commands-with : (commands : List Token) → with_it commands ≡ commands_of (pieces ++ piece ∷ []) ++ commands
    commands-with commands =
        sym (append_assoc (commands_of pieces) (command ∷ []) commands) ∙ ap (λ (these : List Token). these ++ commands) (sym (commands-then pieces piece))

  pub next_command : TakesHeld old.job tells.does.given new.job → TracerStandsBehind bytes (one_more placed new.place tells.item) new
  next_command (command, is, idle, going, still, passes) = by old.job.held.ended refl where
    opens : (used : List ℕ) → old.job.held.bytes ≡ used ++ new.job.held.bytes
        → Head old.job.held.mode used new.job.held.bytes command new.job.held.mode
        ⊎ (NoHead old.job.held.mode old.job.held.bytes
        × ClosesAs (scanned_in old.job.held.mode old.job.held.bytes) used new.job.held.bytes command new.job.held.mode)
        → Opens old.job.held.mode (record { bytes = used; command = command }) new.job.held.bytes new.job.held.mode
    opens used cut (inl head) = inl head
    opens used cut (inr (none, closes)) =
        inr (
          subst (NoHead old.job.held.mode) cut none,
          subst (λ (all : List ℕ). ClosesAs (scanned_in old.job.held.mode all) used new.job.held.bytes command new.job.held.mode) cut closes,
        )

    by : (ended : Bool) → old.job.held.ended ≡ ended → TracerStandsBehind bytes (one_more placed new.place tells.item) new
    by true ended =
        let found = passes.prefix ended in
        command_taken command is idle going still found.0 found.1 (opens found.0 found.1 found.2)
        (λ commands closed.
        subst (ClosedFrom Exit bytes) (commands-with command is idle going still found.0 found.1 (opens found.0 found.1 found.2) commands)
        (behind.closes (command ∷ commands) (passes.closes ended commands closed)))
        (λ more. absurd (true≢false (sym (passes.ended ∙ ended) ∙ more)))
    by false more =
        let found = passes.head more in
        let piece : Piece = record { bytes = found.0; command = command } in
        let whole = whole-then Exit bytes behind.pieces old.job.held.mode old.job.held.bytes piece new.job.held.bytes new.job.held.mode (behind.whole more) found.1 found.2 in
        command_taken command is idle going still found.0 found.1 (inl found.2) (closes-behind bytes (behind.pieces ++ piece ∷ []) new.job.held whole) (λ _. whole)

  pub the_exit : TakesExit old.job tells.does.given new.job → TracerStandsBehind bytes (one_more placed new.place tells.item) new
  the_exit (is, idle, going, out, held, ended, done) =
      let pieces = behind.pieces in
      let nothing : old.job.held.bytes ≡ [] = done.nothing ended in
      let empty : length old.job.held.bytes ≡ 0 = ap length nothing in
      let here : length bytes - length old.job.held.bytes ≡ length bytes = omega (arith, empty) in
      let size : length old.job.held.bytes - length new.job.held.bytes ≡ 0 = omega (arith, empty) in
      let place : new.place ≡ from_on (length bytes) 0 =
      tells.place ∙ ap (λ (given : List Token). place_of old.length old.place given old.job.held new.job.held) is
      ∙ ap (λ n. from_on (n - length old.job.held.bytes) (length old.job.held.bytes - length new.job.held.bytes)) behind.long
      ∙ (λ i. from_on (here i) (size i)) in
      record {
        pieces = pieces;
        prefix = subst (λ (now : ScannerState). ArePrefix Exit bytes pieces now.mode now.bytes) (sym held) behind.prefix;
        closes = λ commands closed. behind.closes commands (subst (λ (now : ScannerState). ClosedFrom now.mode now.bytes commands) held closed);
        whole = λ going. absurd (true≢false (sym ended ∙ ap (λ (now : ScannerState). now.ended) (sym held) ∙ going));
        inside = λ going. absurd (true≢false (sym ended ∙ ap (λ (now : ScannerState). now.ended) (sym held) ∙ going));
        over = λ _. ap (λ (now : ScannerState). now.bytes) held ∙ nothing;
        machine = tells.item.machine;
        running = tells.does.ends;
        state = state-then placed one;
        are =
            ap (λ (exited : Bool). taken_so_far exited (length bytes) pieces) out
            ∙ (λ i. whole_items idle going i ++ placed_at (sym place i) (trace_at macro_levels Uel (after-is idle going i)))
            ∙ ap (λ (runs : List StepResult). placed ++ placed_at new.place runs) (outside-owes Uel is idle)
            ∙ continuation-then new.place (continuation new.job.bodies tells.item.machine) refl;
        told = told-then new tells.item.machine placed one tells.told tells.does.ends;
        long = tells.still ∙ behind.long;
      }

  pub one_step : TracerStandsBehind bytes (one_more placed new.place tells.item) new
  one_step = by tells.does.takes where
    by : TakesGiven old.job tells.does.given new.job → TracerStandsBehind bytes (one_more placed new.place tells.item) new
    by (inl takes) = in_body takes
    by (inr (inl takes)) = next_command takes
    by (inr (inr takes)) = the_exit takes

-- ---- the items so far are the first of the trace

exit_behind : (commands : List Token) (machine : Machine) → machine ≡ last_machine power_on (trace commands power_on)
    → trace commands power_on ++ trace_at macro_levels Uel machine ≡ trace (with_exit commands) power_on
unfolding trace_each
exit_behind commands machine is =
    ap (λ (at : Machine). trace commands power_on ++ trace_at macro_levels Uel at) is
    ∙ ap (λ (items : List StepResult). trace commands power_on ++ items) (sym (append-nil (trace_at macro_levels Uel (last_machine power_on (trace commands power_on)))))
    ∙ sym (trace_each-append (trace_at macro_levels) commands (Uel ∷ []) power_on)

module _ (bytes : List ℕ) (placed : List Placed) (now : Tracer) (behind : TracerStandsBehind bytes placed now) where
  after_commands : machine_after behind.pieces power_on ≡ last_machine power_on (trace (commands_of behind.pieces) power_on)
  after_commands = sym (last-from 0 behind.pieces power_on) ∙ ap (last_machine power_on) (runs-from 0 behind.pieces power_on)

  abbrev held_mode : ParserState
  held_mode = now.job.held.mode

  -- what closes what is held
  some_closed : (commands : List Token) × ClosedFrom held_mode now.job.held.bytes commands
  some_closed =
      let found = some_split held_mode now.job.held.bytes in
      (found.commands ++ closing found.mode found.rest, (found.commands, found.mode, found.rest, found.split, refl))

  items-so-far : (exited : Bool) → now.job.exited ≡ exited
      → trace (commands_of behind.pieces) power_on ++ runs_of (exit_if exited (length bytes) (machine_after behind.pieces power_on))
      ≡ runs_of placed ++ continuation now.job.bodies behind.machine
  items-so-far exited is =
      let exit = exit_if exited (length bytes) (machine_after behind.pieces power_on) in
      ap (λ (items : List StepResult). items ++ runs_of exit) (sym (runs-from 0 behind.pieces power_on))
      ∙ sym (runs-append (placed_from 0 behind.pieces power_on) exit)
      ∙ ap (λ (out : Bool). runs_of (taken_so_far out (length bytes) behind.pieces)) (sym is)
      ∙ ap runs_of behind.are
      ∙ runs-append placed (placed_at now.place (continuation now.job.bodies behind.machine))
      ∙ ap (λ (items : List StepResult). runs_of placed ++ items) (runs-at now.place (continuation now.job.bodies behind.machine))

  pub are_first : AreFirst bytes placed
  are_first = by now.job.exited refl where
    by : (exited : Bool) → now.job.exited ≡ exited → AreFirst bytes placed
    by true out =
        let commands = commands_of behind.pieces in
        let nothing : ClosedFrom held_mode now.job.held.bytes [] = subst (λ (left : List ℕ). ClosedFrom held_mode left []) (sym (behind.over out)) (nothing_closed held_mode) in
        record {
          others = continuation now.job.bodies behind.machine;
          items = (
            commands,
            subst (ClosedFrom Exit bytes) (append-nil commands) (behind.closes [] nothing),
            sym (items-so-far true out)
                ∙ ap (λ (items : List StepResult). trace commands power_on ++ items) (runs-at (from_on (length bytes) 0) (trace_at macro_levels Uel (machine_after behind.pieces power_on)))
                ∙ exit_behind commands (machine_after behind.pieces power_on) after_commands,
          );
          pieces = behind.pieces;
          mode = held_mode;
          behind = now.job.held.bytes;
          prefix = behind.prefix;
          more = placed_at now.place (continuation now.job.bodies behind.machine);
          places = ap (λ (exited : Bool). taken_so_far exited (length bytes) behind.pieces) (sym out) ∙ behind.are;
        }
    by false going =
        let commands = commands_of behind.pieces in
        let closed = some_closed in
        let exit = placed_exit (length bytes) (machine_after behind.pieces power_on) in
        let owing = continuation now.job.bodies behind.machine in
        let rest = trace (with_exit closed.0) (last_machine power_on (trace commands power_on)) in
        record {
          others = owing ++ rest;
          items = (
            commands ++ closed.0,
            behind.closes closed.0 closed.1,
            sym (append_assoc (runs_of placed) owing rest)
                ∙ ap (λ (items : List StepResult). items ++ rest) (sym (items-so-far false going) ∙ append-nil (trace commands power_on))
                ∙ sym (trace_each-append (trace_at macro_levels) commands (with_exit closed.0) power_on)
                ∙ ap (λ (all : List Token). trace all power_on) (sym (append_assoc commands closed.0 (Uel ∷ []))),
          );
          pieces = behind.pieces;
          mode = held_mode;
          behind = now.job.held.bytes;
          prefix = behind.prefix;
          more = placed_at now.place owing ++ exit;
          places =
              ap (λ (items : List Placed). items ++ exit)
              (sym (append-nil (placed_from 0 behind.pieces power_on)) ∙ ap (λ (exited : Bool). taken_so_far exited (length bytes) behind.pieces) (sym going) ∙ behind.are)
              ∙ append_assoc placed (placed_at now.place owing) exit;
        }

  -- where no step is left they are all of it
  pub at_end : IsOver now.job → IsTraceOf bytes (runs_of placed) × IsPlacedTrace bytes placed
  at_end over =
      let first = are_first in
      let none : continuation now.job.bodies behind.machine ≡ [] = ap (λ (bodies : List Activation). continuation bodies behind.machine) over.idle in
      let all : taken_so_far now.job.exited (length bytes) behind.pieces ≡ placed =
      behind.are ∙ ap (λ (items : List StepResult). placed ++ placed_at now.place items) none ∙ append-nil placed in (
        whole_trace,
        (
          behind.pieces,
          (held_mode, subst (ArePrefix Exit bytes behind.pieces held_mode) over.nothing behind.prefix),
          sym all ∙ ap (λ (out : Bool). taken_so_far out (length bytes) behind.pieces) over.exited,
        ),
      )
    where
      whole_trace : IsTraceOf bytes (runs_of placed)
      whole_trace =
          let commands = commands_of behind.pieces in
          let nothing : ClosedFrom held_mode now.job.held.bytes [] = subst (λ (left : List ℕ). ClosedFrom held_mode left []) (sym over.nothing) (nothing_closed held_mode) in (
            commands,
            subst (ClosedFrom Exit bytes) (append-nil commands) (behind.closes [] nothing),
            sym (append-nil (runs_of placed)) ∙ ap (λ (bodies : List Activation). runs_of placed ++ continuation bodies behind.machine) (sym over.idle)
                ∙ sym (items-so-far true over.exited)
                ∙ ap (λ (items : List StepResult). trace commands power_on ++ items) (runs-at (from_on (length bytes) 0) (trace_at macro_levels Uel (machine_after behind.pieces power_on)))
                ∙ exit_behind commands (machine_after behind.pieces power_on) after_commands,
          )
