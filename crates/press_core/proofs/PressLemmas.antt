-- What each row of the queue, and what follows it, leaves of a press: entries and works go together, and those that run are on engines.
use Rattle.std.proofs.Common.{◌≡◌, ◌<◌, ℕ, zero, suc, true, false, nat_eq, length, drop, replicate}
use Rattle.std.proofs.Common.{slice_set, arith, List, [], ◌∷◌, Option, Some, None, Ok, Err, IfSome, IsTrue, refl}
use Rattle.std.specs.List.{IsDistinct}
use Rattle.std.specs.Map.{keys_of, set_value}
use Rattle.press_queue.specs.declared.command.EntryCommand.{EntryCommand}
use Rattle.press_queue.specs.declared.refusal.Refusal.{Refusal}
use Rattle.press_queue.specs.declared.status.End.{End}
use Rattle.press_queue.specs.Entries.{entry_numbered, put}
use Rattle.press_queue.specs.Rows as rows
use Rattle.press_queue.specs.State.{QueueState, empty_queue}
use Rattle.press_queue.specs.Status.{new_entry, status_at_end}
use Rattle.press_queue.proofs.CommandLemmas.{commanded_is}
use Rattle.press_core.specs.Engines.{RunsOnEngines, are_engines, left_by}
use Rattle.press_core.specs.Inside.{IsPress, begun_works}
use Rattle.press_core.specs.Work.{Work}
use Rattle.press_core.specs.World.{consequence, engines_after, works_after, works_listed, works_without_job}
use Rattle.press_core.proofs.CommandLemmas.{IsSound-commanded, became, engines-commanded}
use Rattle.press_core.proofs.EngineLemmas.{on_engines-kept, on_engines-left, on_engines-new, on_engines-stays, on_engines-taken, runs-on_engine, runs_in, slot}
use Rattle.press_core.proofs.EntryLemmas.{inserted_lookup}
use Rattle.press_core.proofs.SoundLemmas.{IsSound-ended, IsSound-finished, IsSound-gone, finish-sets, flush-runs, flushed, runs_as, still_at_end}
use Rattle.press_core.proofs.TurnLemmas.{IsSound-begun, IsSound-given_up, Waited, begun-sets, begun_runs, begun_still}

-- a command to an entry that the queue carried out, and what follows of it
pub IsPress-commanded : (command : EntryCommand) (number : ℕ) (queue new : QueueState) (works : List (ℕ × Work)) (engines : List (Option ℕ)) → IsDistinct nat_eq (keys_of queue.entries)
    → (new, Ok tt) ≡ rows.commanded command number queue → IsPress queue works engines
    → IsPress new (works_after (consequence command) number new works) (engines_after (consequence command) number engines)
IsPress-commanded command number queue new works engines distinct is press =
    grind (arith, became command number queue new, commanded_is command number queue, IsSound-commanded command number queue new works, engines-commanded command number queue new engines)

-- one that was refused changes nothing
pub IsPress-refused : (command : EntryCommand) (number : ℕ) (queue new : QueueState) (works : List (ℕ × Work)) (engines : List (Option ℕ)) (refusal : Refusal)
    → (new, Err refusal) ≡ rows.commanded command number queue → IsPress queue works engines → IsPress new works engines
IsPress-refused command number queue new works engines refusal is press = grind arith

-- an entry that ran ends, and leaves its engine
pub off-engine : (number : ℕ) (end : End) (queue : QueueState) (engines : List (Option ℕ)) → IsTrue (rows.entry_runs number queue) → RunsOnEngines queue engines
    → RunsOnEngines (rows.finish_entry number end queue) (left_by number engines)
off-engine number end queue engines runs on =
    let it = runs_as number queue runs in
    on_engines-left number (Some (record it.entry { status = status_at_end end })) queue (rows.finish_entry number end queue) engines
    (finish-sets number end it.entry queue it.there) (still_at_end end) on

pub IsPress-ended : (number : ℕ) (end : End) (queue : QueueState) (works : List (ℕ × Work)) (engines : List (Option ℕ)) (work : Work) → IsTrue (rows.entry_runs number queue) → work.progress ≡ None
    → work.kept ≡ false → IsPress queue works engines → IsPress (rows.finish_entry number end queue) (set_value (nat_eq number) works work) (left_by number engines)
IsPress-ended number end queue works engines work runs none gone press = grind (arith, IsSound-ended number end queue works work, off-engine number end queue engines)

pub IsPress-finished : (number : ℕ) (end : End) (queue : QueueState) (works : List (ℕ × Work)) (engines : List (Option ℕ)) → IsTrue (rows.entry_runs number queue) → IsPress queue works engines
    → IsPress (rows.finish_entry number end queue) (works_without_job number works) (left_by number engines)
IsPress-finished number end queue works engines runs press = grind (arith, IsSound-finished number end queue works, off-engine number end queue engines)

-- an engine takes the entry that comes next, which begins; or is given up as it begins
pub on_engines-begun : (queue new : QueueState) (engines : List (Option ℕ)) (engine number : ℕ) → engine < length engines → slot engines engine ≡ None → Waited queue new number
    → RunsOnEngines queue engines → RunsOnEngines new (slice_set engines engine (Some number))
on_engines-begun queue new engines engine number within free it on =
    on_engines-taken number engine (Some (rows.begun_entry it.begins.entry)) queue new engines (begun-sets queue new number it.begins) within free (begun_still queue new number it) refl on

pub IsPress-begun : (queue new : QueueState) (works : List (ℕ × Work)) (engines : List (Option ℕ)) (engine number : ℕ) → engine < length engines → slot engines engine ≡ None → Waited queue new number
    → IsPress queue works engines → IsPress new (begun_works number works) (slice_set engines engine (Some number))
IsPress-begun queue new works engines engine number within free it press =
    record { sound = IsSound-begun queue new works number it press.sound; on_engines = on_engines-begun queue new engines engine number within free it press.on_engines }

pub IsPress-given_up : (queue new : QueueState) (works : List (ℕ × Work)) (engines : List (Option ℕ)) (engine number : ℕ) (end : End) → engine < length engines → slot engines engine ≡ None
    → Waited queue new number → IsPress queue works engines
    → IsPress (rows.finish_entry number end new) (works_without_job number works) (left_by number (slice_set engines engine (Some number)))
IsPress-given_up queue new works engines engine number end within free it press =
    grind (arith, IsSound-given_up queue new works number end, off-engine number end new (slice_set engines engine (Some number)), begun_runs queue new number, on_engines-begun queue new engines engine number)

-- a new entry waits, on no engine
pub on_engines-entered : (number priority : ℕ) (queue new : QueueState) (engines : List (Option ℕ)) → new ≡ record queue { entries = put number (new_entry priority) queue.entries; last = number }
    → entry_numbered number queue.entries ≡ None → RunsOnEngines queue engines → RunsOnEngines new engines
on_engines-entered number priority queue new engines is fresh on = grind (arith, on_engines-stays, inserted_lookup, runs_in)

-- entries that do not run leave the list
pub on_engines-flushed : (queue : QueueState) (engines : List (Option ℕ)) → IsDistinct nat_eq (keys_of queue.entries) → RunsOnEngines queue engines → RunsOnEngines (rows.flush queue) engines
on_engines-flushed queue engines distinct on = on_engines-kept queue (rows.flush queue) engines (flush-runs queue distinct) on

pub IsPress-flushed : (queue : QueueState) (works : List (ℕ × Work)) (engines : List (Option ℕ)) → IsDistinct nat_eq (keys_of queue.entries) → IsPress queue works engines
    → IsPress (rows.flush queue) (works_listed (rows.flush queue) works) engines
IsPress-flushed queue works engines distinct press = grind (arith, IsSound-gone, flushed, on_engines-flushed)

-- the entry of an engine runs
pub runs-on : (queue : QueueState) (engines : List (Option ℕ)) (engine : ℕ) → RunsOnEngines queue engines → IfSome (slot engines engine) (λ number. IsTrue (rows.entry_runs number queue))
runs-on queue engines engine on = grind (arith, slot, runs-on_engine)

-- a press at its beginning
pub IsPress-new : (engines : ℕ) → are_engines engines ≡ true → IsPress empty_queue [] (replicate engines None)
IsPress-new engines are = record { sound = record { together = λ number. tt }; on_engines = on_engines-new engines are }

-- ---- the engines, one after another

pub drop-slot : (i : ℕ) (es : List (Option ℕ)) → i < length es → drop i es ≡ slot es i ∷ drop (suc i) es
drop-slot i [] within = absurd (omega (arith, within))
drop-slot zero (e ∷ es) within = refl
drop-slot (suc i) (e ∷ es) within = drop-slot i es (omega (arith, within))
