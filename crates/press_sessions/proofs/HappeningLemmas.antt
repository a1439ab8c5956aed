-- The one event of a line, that happened or was stopped, and the line of its answer.
use Rattle.std.proofs.Common.{◌≡◌, ◌∙◌, ℕ, List, [], ◌∷◌, ◌++◌, map, Option, Some, None, option_map, Ok, Err, refl, sym, ap, subst, arith}
use Rattle.std.specs.List.{All, flat_map}
use Rattle.std.proofs.lemmas.List.{append-nil}
use Rattle.std.proofs.lemmas.List.Elements.{All-head}
use Rattle.press_bits.specs.Page.{Page}
use Rattle.press_sink.specs.declared.delivery.Delivery.{Delivery}
use Rattle.press_sink.specs.SinkLog.{SheetLog}
use Rattle.press_core.specs.declared.turn.Turn.{Turn}
use Rattle.press_core.specs.declared.turn.TurnError.{TurnError}
use Rattle.press_core.specs.Events.{Event, Message, TurnOn, EventAnswer, Response, Turned, Nothing, Happens}
use Rattle.press_core.specs.Turns.{FaultsAfter}
use Rattle.press_core.specs.World.{World}
use Rattle.press_files.specs.EntryPages.{page_lines}
use Rattle.press_files.specs.EntryTemplate.{EntryParts}
use Rattle.press_history.specs.Runs.{Transition, IsAnswered, IsExecution}
use Rattle.press_theorem.specs.Events.{FaultLeaves, HappenAll, HappenSome, UpTo, BeforeTurn, handing, line_of, turns_of}
use Rattle.press_sessions.specs.declared.session_error.SessionError.TheVariants as whys
use Rattle.press_sessions.specs.Sessions.{EventFails, KeepsDelivered, Standing, TakesEvent, answer_text, handed_back, stopped_by}

-- ---- the one that happened

-- happenings of one event are one
one-happening : (happenings : List Transition) (event : Event) → map (λ (happening : Transition). happening.event) happenings ≡ event ∷ []
    → (one : Transition) × (happenings ≡ one ∷ []) × (one.event ≡ event)
one-happening [] event are = cc
one-happening (one ∷ []) event are = (one, refl, cc)
one-happening (one ∷ other ∷ happenings) event are = cc

-- what a sink tells that tells its list
same_deliveries : (has had handed : List Delivery) → Some has ≡ option_map (λ (all : List Delivery). all ++ handed) (Some had) → has ≡ had ++ handed
same_deliveries has had handed told = cc

-- the line of an answer is made of what its event handed back
text-handed_back : (answer : EventAnswer) → IsAnswered answer → handed_back (line_of answer) (turns_of answer) ≡ answer_text answer
text-handed_back (Response (Some [])) is = refl
text-handed_back (Response (Some (byte ∷ bytes))) is = refl
text-handed_back (Response None) is = absurd is
text-handed_back (Turned (Ok turn)) is = refl
text-handed_back (Turned (Err error)) is = absurd is
text-handed_back Nothing is = refl

-- an event happened, and these are the lines of the files that were made of what it handed out, and that of its answer
pub TakesEvent-happened : (parts : Option EntryParts) (event : Event) (old new : Standing) (before after : SheetLog) (none response : List ℕ)
    (no_turns turns : List Turn) (lines back answer : List ℕ)
    → before.delivered ≡ Some old.delivered → after.delivered ≡ Some new.delivered → before.faults ≡ old.faults → after.faults ≡ new.faults
    → none ≡ [] → no_turns ≡ [] → HappenAll old.world (event ∷ []) new.world (handing before after none response no_turns turns)
    → ((handed : List Delivery) → new.delivered ≡ old.delivered ++ handed → lines ≡ page_lines parts old.delivered handed)
    → back ≡ handed_back response turns → answer ≡ lines ++ back
    → TakesEvent parts event old new answer
TakesEvent-happened parts event old new before after none response no_turns turns lines back answer was is sound sounds begins unturned all made line are =
    let one = one-happening all.happenings event all.are in
    let happening = one.0 in
    let leads : IsExecution old.world (happening ∷ []) new.world = subst (λ (some : List Transition). IsExecution old.world some new.world) one.1 all.leads in
    let happens : Happens old.world event happening.answer happening.handed new.world =
    subst (λ (of : Event). Happens old.world of happening.answer happening.handed new.world) one.2
    (subst (λ (next : World). Happens old.world happening.event happening.answer happening.handed next) (sym leads.1) leads.0) in
    let answered : IsAnswered happening.answer =
    All-head (λ (some : Transition). IsAnswered some.answer) happening [] (subst (All (λ (some : Transition). IsAnswered some.answer)) one.1 all.answered) in
    let told : Some new.delivered ≡ option_map (λ (all : List Delivery). all ++ happening.handed) (Some old.delivered) =
    sym is
    ∙ all.told
    ∙ ap (λ (some : List Transition). option_map (λ (all : List Delivery). all ++ flat_map (λ (each : Transition). each.handed) some) before.delivered) one.1
    ∙ ap (λ (handed : List Delivery). option_map (λ (all : List Delivery). all ++ handed) before.delivered) (append-nil happening.handed)
    ∙ ap (option_map (λ (all : List Delivery). all ++ happening.handed)) was in
    let delivered : new.delivered ≡ old.delivered ++ happening.handed = same_deliveries new.delivered old.delivered happening.handed told in
    let response_is : response ≡ line_of happening.answer =
    all.responses
    ∙ ap (λ (old : List ℕ). old ++ flat_map (λ (some : Transition). line_of some.answer) all.happenings) begins
    ∙ ap (flat_map (λ (some : Transition). line_of some.answer)) one.1
    ∙ append-nil (line_of happening.answer) in
    let turns_are : turns ≡ turns_of happening.answer =
    all.turns
    ∙ ap (λ (old : List Turn). old ++ flat_map (λ (some : Transition). turns_of some.answer) all.happenings) unturned
    ∙ ap (flat_map (λ (some : Transition). turns_of some.answer)) one.1
    ∙ append-nil (turns_of happening.answer) in
    let text : back ≡ answer_text happening.answer =
    line
    ∙ ap (λ (bytes : List ℕ). handed_back bytes turns) response_is
    ∙ ap (handed_back (line_of happening.answer)) turns_are
    ∙ text-handed_back happening.answer answered in (
      happening.answer,
      happening.handed,
      happens,
      delivered,
      sym sounds ∙ all.no_fault ∙ sound,
      are
          ∙ ap (λ (some : List ℕ). some ++ back) (made happening.handed delivered)
          ∙ ap (λ (last : List ℕ). page_lines parts old.delivered happening.handed ++ last) text,
      answered,
    )

-- the same of a message, whose text and images are these
pub TakesEvent-message : (parts : Option EntryParts) (text bytes : List ℕ) (images pages : List Page) (old new : Standing) (answer : List ℕ)
    → text ≡ bytes → images ≡ pages → TakesEvent parts (Message text images) old new answer
    → TakesEvent parts (Message bytes pages) old new answer
TakesEvent-message parts text bytes images pages old new answer is are taken = grind arith

-- ---- the one that was stopped

-- one event, with another in its midst
one-event : (event stopped : Event) (prefix behind : List Event) → event ∷ [] ≡ prefix ++ stopped ∷ behind → (prefix ≡ []) × (stopped ≡ event)
one-event event stopped [] behind are = (refl, cc)
one-event event stopped (first ∷ []) behind are = cc
one-event event stopped (first ∷ second ∷ prefix) behind are = cc

-- nothing happened of no events
none-happened : (world last : World) (happenings : List Transition) → map (λ (happening : Transition). happening.event) happenings ≡ []
    → IsExecution world happenings last → last ≡ world
none-happened world last [] are leads = leads
none-happened world last (happening ∷ happenings) are leads = cc

-- why it has no answer
fails : (event : Event) (old new : Standing) (answer : EventAnswer) (handed : List Delivery) (error : TurnError) (said says : List ℕ)
    → Happens old.world event answer handed new.world → new.delivered ≡ old.delivered ++ handed
    → FaultsAfter {A = Turn} (Err error) old.faults new.faults → FaultLeaves answer error said says → EventFails event old (stopped_by error) new
fails event old new answer handed error said says happens delivered faults leaves = grind arith

-- want of memory is a reason at each
pub fails-memory : (event : Event) (old new : Standing) → KeepsDelivered old new → EventFails event old whys.NoMemory new
fails-memory event old new keeps = grind arith

-- what is told behind no events
told-none : (told : Option (List Delivery)) (had : List Delivery) (happenings : List Transition) (before : Option (List Delivery))
    → map (λ (happening : Transition). happening.event) happenings ≡ [] → before ≡ Some had
    → told ≡ option_map (λ (all : List Delivery). all ++ flat_map (λ (happening : Transition). happening.handed) happenings) before → told ≡ Some had
told-none told had [] before none was is = is ∙ ap (option_map (λ (all : List Delivery). all ++ [])) was ∙ ap Some (append-nil had)
told-none told had (happening ∷ happenings) before none was is = cc

pub EventFails-stopped : (error : TurnError) (event : Event) (old new : Standing) (before after : SheetLog) (none response : List ℕ)
    (no_turns turns : List Turn)
    → before.delivered ≡ Some old.delivered → after.delivered ≡ Some new.delivered → before.faults ≡ old.faults → after.faults ≡ new.faults
    → HappenSome error old.world (event ∷ []) new.world (handing before after none response no_turns turns)
    → EventFails event old (stopped_by error) new
EventFails-stopped error event old new before after none response no_turns turns was is sound sounds (UpTo up_to) =
    let one = one-event event up_to.stopped.event up_to.prefix up_to.behind up_to.are in
    let nothing : map (λ (happening : Transition). happening.event) up_to.happened.happenings ≡ [] = up_to.happened.are ∙ one.0 in
    let between : up_to.between ≡ old.world = none-happened old.world up_to.between up_to.happened.happenings nothing up_to.happened.leads in
    let handed = up_to.stopped.handed in
    let happens : Happens old.world up_to.stopped.event up_to.stopped.answer handed new.world =
    subst (λ (at : World). Happens at up_to.stopped.event up_to.stopped.answer handed new.world) between
    (subst (λ (next : World). Happens up_to.between up_to.stopped.event up_to.stopped.answer handed next) (sym up_to.leads.1) up_to.leads.0) in
    let told : up_to.told.delivered ≡ Some old.delivered =
    told-none up_to.told.delivered old.delivered up_to.happened.happenings before.delivered nothing was up_to.happened.told in
    let delivered : new.delivered ≡ old.delivered ++ handed =
    same_deliveries new.delivered old.delivered handed
    (sym is ∙ up_to.handed.told ∙ ap (option_map (λ (all : List Delivery). all ++ handed)) told) in
    let faults : FaultsAfter {A = Turn} (Err error) old.faults new.faults =
    subst (λ (n : ℕ). FaultsAfter {A = Turn} (Err error) n new.faults) (up_to.happened.no_fault ∙ sound)
    (subst (λ (n : ℕ). FaultsAfter {A = Turn} (Err error) up_to.told.faults n) sounds up_to.handed.faults) in
    fails event old new up_to.stopped.answer handed error up_to.said response
    (subst (λ (of : Event). Happens old.world of up_to.stopped.answer handed new.world) one.1 happens) delivered faults up_to.leaves
EventFails-stopped error event old new before after none response no_turns turns was is sound sounds (BeforeTurn first) =
    let nothing : map (λ (happening : Transition). happening.event) first.happened.happenings ≡ [] =
    first.happened.are ∙ (one-event event (TurnOn first.engine first.most) first.prefix first.behind first.are).0 in
    let told : after.delivered ≡ Some old.delivered =
    told-none after.delivered old.delivered first.happened.happenings before.delivered nothing was first.happened.told in
    let same : new.delivered ≡ old.delivered ++ [] = same_deliveries new.delivered old.delivered [] (sym is ∙ told ∙ ap Some (sym (append-nil old.delivered))) in
    subst (λ (some : TurnError). EventFails event old (stopped_by some) new) (sym first.is_memory) (fails-memory event old new ([], same))
