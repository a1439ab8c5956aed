-- When an entry delivers: only in its own turns, and never again once it has ended.
use Rattle.std.proofs.Common.{◌≡◌, ◌≢◌, ℕ, not, Bool, true, false, MatchBool, List, [], ◌∷◌, ◌++◌, Option, Some, None, Result, Err, refl, sym, ap, ◌∙◌, arith}
use Rattle.std.specs.Option.{option_map_or}
use Rattle.std.proofs.lemmas.Bool.{eqb-true}
use Rattle.std.proofs.lemmas.List.{append-nil}
use Rattle.press_queue.specs.declared.entry.Entry.{Entry}
use Rattle.press_queue.specs.Entries.{entry_numbered}
use Rattle.press_queue.specs.QueueLaw.{EachRowKeepsTheQueue}
use Rattle.press_queue.specs.Rows as rows
use Rattle.press_queue.specs.Status.{has_ended}
use Rattle.press_sink.specs.declared.delivery.Delivery.{Delivery}
use Rattle.press_core.specs.declared.turn.Turn.{Turn}
use Rattle.press_core.specs.declared.turn.TurnError.{TurnError}
use Rattle.press_core.specs.declared.turn.TurnError.TheVariants.{NoEngine}
use Rattle.press_core.specs.Events.{Event, EventAnswer, Happens, TurnOn}
use Rattle.press_core.specs.Turns.{TakesTurn, TurnAt, at_turn, at_turn_with, with_turn}
use Rattle.press_core.specs.World.{World, on_engine}
use Rattle.press_core.proofs.EngineLemmas.{runs-on_engine}
use Rattle.press_core.proofs.TurnLemmas.{begun_is, begun_runs}
use Rattle.press_history.specs.Runs.{Transition, IsExecution, world_after}
use Rattle.press_history.specs.History.{handed_under, sheets_under}
use Rattle.press_history.specs.RunLaws.{EntriesDeliverWhileTheyRun, IsTurnOf}
use Rattle.press_history.proofs.HandedLemmas.{handed-other}
use Rattle.press_history.proofs.RunLemmas.{new-whole, run-over, run-whole}
use Rattle.press_history.proofs.Standings.{IsWhole, Standing, listed_in}

-- ---- where a run is cut

cut : (world : World) (before after : List Transition) (last : World) → IsExecution world (before ++ after) last
    → IsExecution world before (world_after world before) × IsExecution (world_after world before) after last
cut world [] after last leads = (refl, leads)
cut world (h ∷ before) after last (happens, leads) = let rest = cut h.next before after last leads in ((happens, rest.0), rest.1)

-- ---- an entry that has ended

never-again : EachRowKeepsTheQueue → (world : World) (before after : List Transition) (last : World) (number : ℕ) (entry : Entry)
    → IsWhole world → IsExecution world (before ++ after) last
    → entry_numbered number (world_after world before).queue.entries ≡ Some entry → has_ended entry.status ≡ true → handed_under number after ≡ []
never-again law world before after last number entry whole leads there ended =
    let mid = world_after world before in
    let cuts = cut world before after last leads in
    let still = run-whole law world before mid whole cuts.0 in
    let listed = listed_in number mid entry still there in
    (run-over law number mid after last still cuts.1 (record { given = ap (λ (s : Standing). s.given) listed.1; ended = ap (λ o. option_map_or (λ e. not (has_ended e.status)) o false) there ∙ ap not ended })).0

-- ---- what is handed out

module _ (n : ℕ) (world : World) (engine most : ℕ) (whole : IsWhole world) where
  -- the entry that takes the turn runs in it
  taken-runs : (at_turn engine world).1 ≡ Some n → rows.entry_runs n (at_turn engine world).0 ≡ true
  taken-runs = at (on_engine engine world) refl
    where
      at : (o : Option ℕ) → on_engine engine world ≡ o → (at_turn_with o world.queue).1 ≡ Some n → rows.entry_runs n (at_turn_with o world.queue).0 ≡ true
      at None free names =
          let found = rows.begin world.queue in
          let begins : (found.0, Some n) ≡ found = λ j. (found.0, sym names j) in
          begun_runs world.queue found.0 n (begun_is world.queue found.0 n whole.queue.distinct begins).begins
      at (Some m) is names = runs-on_engine n engine world.queue world.engines (is ∙ names) whole.on_engines

  turn-handed : (result : Result Turn TurnError) (handed : List Delivery) (next : World) (o : Option ℕ) → (at_turn engine world).1 ≡ o
      → TurnAt (with_turn engine world) o most result handed next → sheets_under n handed ≢ [] → IsTurnOf n world (TurnOn engine most)
  turn-handed result handed next o is turn some = grind (arith, eqb-true, taken-runs, handed-other)

  taking-handed : (result : Result Turn TurnError) (handed : List Delivery) (next : World) → TakesTurn world engine most result handed next → sheets_under n handed ≢ []
      → IsTurnOf n world (TurnOn engine most)
  taking-handed result handed next turn some = grind (arith, turn-handed)

  engine-handed : (result : Result Turn TurnError) (handed : List Delivery) (next : World) (b : Bool)
      → MatchBool b (TakesTurn world engine most result handed next) ((result ≡ Err NoEngine) × (handed ≡ []) × (next ≡ world))
      → sheets_under n handed ≢ [] → IsTurnOf n world (TurnOn engine most)
  engine-handed result handed next b turn some = grind (arith, taking-handed)

event-handed : (n : ℕ) (world : World) (event : Event) (answer : EventAnswer) (handed : List Delivery) (next : World) → IsWhole world
    → Happens world event answer handed next → sheets_under n handed ≢ [] → IsTurnOf n world event
event-handed n world event answer handed next whole happens some = grind (arith, engine-handed)

only-then : EachRowKeepsTheQueue → (world : World) (before after : List Transition) (h : Transition) (last : World) (number : ℕ)
    → IsWhole world → IsExecution world (before ++ h ∷ after) last
    → handed_under number (h ∷ []) ≢ [] → IsTurnOf number (world_after world before) h.event
only-then law world before after h last number whole leads some = grind (arith, cut, event-handed, run-whole, append-nil)

pub entries-deliver : EachRowKeepsTheQueue → EntriesDeliverWhileTheyRun
entries-deliver law happenings last number run = grind (arith, new-whole, only-then, never-again)
