-- Events, some after others.
use Rattle.std.proofs.Common.{◌≡◌, ◌∙◌, ◌<◌, ◌+◌, ℕ, List, [], ◌∷◌, ◌++◌, length, take, drop, get_or, map, true, Option, Some, None, option_map, Result, Ok, Err, Vec, is_some, refl, sym, ap, subst, arith}
use Rattle.std.specs.List.{flat_map}
use Rattle.std.proofs.lemmas.Grind.{flat_map-append}
use Rattle.std.proofs.lemmas.List.Sums.{sum_by-cons}
use Rattle.std.proofs.lemmas.List.Elements.{All-append, All-cons, All-nil}
use Rattle.std.proofs.lemmas.List.{append_assoc, append-nil, map-append, take-append-drop, take_more}
use Rattle.std.specs.declared.alloc.AllocError.{AllocError}
use Rattle.std.specs.declared.alloc.Global.{Global}
use Rattle.press_bits.specs.Page.{Page}
use Rattle.press_devices.specs.Writing.{AppendsPrefix}
use Rattle.press_sink.specs.declared.delivery.Delivery.{Delivery}
use Rattle.press_sink.specs.SinkLog.{SheetLog, most_faults}
use Rattle.press_core.specs.declared.operator.OperatorCommand.{OperatorCommand}
use Rattle.press_core.specs.declared.turn.Turn.{Turn}
use Rattle.press_core.specs.declared.turn.TurnError.{TurnError}
use Rattle.press_core.specs.declared.turn.TurnError.TheVariants.{NoMemory}
use Rattle.press_core.specs.Engines.{are_engines}
use Rattle.press_core.specs.Events.{Event, Message, TurnOn, Operator, EventAnswer, Response, Turned, Nothing, Happens, response_to}
use Rattle.press_history.specs.History.{Seen, both_seen, steps_answered, steps_in}
use Rattle.press_history.specs.Runs.{Transition, IsAnswered, IsExecution}
use Rattle.press_history.specs.RunLaws.{ComesFromNew, NewPressesComeSo}
use Rattle.press_queue.specs.declared.entry.Entry.{Entry}
use Rattle.press_queue.specs.Entries.{entry_numbered}
use Rattle.press_core.specs.Work.{Work}
use Rattle.press_core.specs.Turns.{FaultsAfter, WereHandedOut}
use Rattle.press_core.specs.World.{World, new_world, work_numbered}
use Rattle.press_theorem.specs.Events.{FaultLeaves, HappenAll, HappenSome, UpTo, BeforeTurn, TellPlaces, happened_in, handing, line_of, steps_told, turns_of}

-- what turns did, of events that happened
abbrev turns_in : List Transition → List Turn
turns_in happenings = flat_map (λ happening. turns_of happening.answer) happenings

-- the event of this happening has its answer
abbrev has_answer : Transition → Type 0
has_answer happening = IsAnswered happening.answer

pub Leads-join : (world middle last : World) (happenings others : List Transition) → IsExecution world happenings middle → IsExecution middle others last → IsExecution world (happenings ++ others) last
Leads-join world middle last [] others first second = subst (λ (w : World). IsExecution w others last) first second
Leads-join world middle last (happening ∷ happenings) others first second =
    grind (arith, Leads-join happening.next middle last happenings others first.1 second)

took-join : (before middle after : Option (List Delivery)) (first second : List Delivery)
    → middle ≡ option_map (λ all. all ++ first) before → after ≡ option_map (λ all. all ++ second) middle
    → after ≡ option_map (λ all. all ++ (first ++ second)) before
took-join before middle after first second one two = grind (arith, append_assoc)

-- a sink that took nothing
took-nothing : (all : Option (List Delivery)) → all ≡ option_map (λ all. all ++ []) all
took-nothing all = grind (arith, append-nil)

-- nothing happened
pub HappenAll-none : (world : World) (told : SheetLog) (bytes : List ℕ) (turns : List Turn)
    → HappenAll world [] world (handing told told bytes bytes turns turns)
HappenAll-none world told bytes turns = grind (arith, took-nothing, append-nil)

-- one event happened
HappenAll-one : (world last : World) (event : Event) (answer : EventAnswer) (handed : List Delivery) (before after : SheetLog)
    (old new : List ℕ) (had has : List Turn)
    → Happens world event answer handed last → IsAnswered answer → after.delivered ≡ option_map (λ all. all ++ handed) before.delivered
    → after.faults ≡ before.faults → new ≡ old ++ line_of answer → has ≡ had ++ turns_of answer
    → HappenAll world (event ∷ []) last (handing before after old new had has)
HappenAll-one world last event answer handed before after old new had has happens answered told faults responses turns = record {
  happenings = record { event = event; answer = answer; handed = handed; next = last } ∷ [];
  are = refl;
  leads = (happens, refl);
  answered = All-cons has_answer _ [] answered (All-nil has_answer);
  told = told ∙ ap (λ (sheets : List Delivery). option_map (λ all. all ++ sheets) before.delivered) (sym (append-nil handed));
  no_fault = faults;
  responses = responses ∙ ap (λ (line : List ℕ). old ++ line) (sym (append-nil (line_of answer)));
  turns = turns ∙ ap (λ (some : List Turn). had ++ some) (sym (append-nil (turns_of answer)));
}

-- a message was answered
pub message-happened : (world last : World) (text : List ℕ) (images : List Page) (result : Result (Vec ℕ Global) AllocError)
    (response : Vec ℕ Global) (told : SheetLog) (line old new : List ℕ) (turns : List Turn)
    → result ≡ Ok response → Happens world (Message text images) (response_to result) [] last → line ≡ response.items
    → new ≡ old ++ (line ++ 10 ∷ []) → HappenAll world (Message text images ∷ []) last (handing told told old new turns turns)
message-happened world last text images result response told line old new turns answer happens is appended =
    HappenAll-one world last (Message text images) (Response (Some response.items)) [] told told old new turns turns
    (subst (λ (one : Result (Vec ℕ Global) AllocError). Happens world (Message text images) (response_to one) [] last) answer happens) tt
    (took-nothing told.delivered) refl
    (appended ∙ ap (λ (bytes : List ℕ). old ++ (bytes ++ 10 ∷ [])) is)
    (sym (append-nil turns))

-- a turn was taken
pub turn-happened : (world last : World) (engine most : ℕ) (result : Result Turn TurnError) (turn : Turn) (before after : SheetLog)
    (bytes : List ℕ) (had has : List Turn)
    → result ≡ Ok turn
    → ((handed : List Delivery) × Happens world (TurnOn engine most) (Turned result) handed last
    × WereHandedOut handed result before after)
    → has ≡ had ++ turn ∷ [] → HappenAll world (TurnOn engine most ∷ []) last (handing before after bytes bytes had has)
turn-happened world last engine most result turn before after bytes had has answer taken appended =
    HappenAll-one world last (TurnOn engine most) (Turned result) taken.0 before after bytes bytes had has taken.1
    (subst (λ (one : Result Turn TurnError). IsAnswered (Turned one)) (sym answer) tt) taken.2.told
    (subst (λ (one : Result Turn TurnError). FaultsAfter one before.faults after.faults) answer taken.2.faults)
    (sym (append-nil bytes))
    (appended ∙ ap (λ (one : Result Turn TurnError). had ++ turns_of (Turned one)) (sym answer))

-- the operator asked for something
pub operator-happened : (world last : World) (command : OperatorCommand) (told : SheetLog) (bytes : List ℕ) (turns : List Turn)
    → Happens world (Operator command) Nothing [] last → HappenAll world (Operator command ∷ []) last (handing told told bytes bytes turns turns)
operator-happened world last command told bytes turns happens =
    HappenAll-one world last (Operator command) Nothing [] told told bytes bytes turns turns happens tt (took-nothing told.delivered) refl
    (sym (append-nil bytes)) (sym (append-nil turns))

-- events, and then others
pub HappenAll-then : (world middle last : World) (events others all : List Event) (before between after : SheetLog)
    (old written new : List ℕ) (had kept has : List Turn)
    → all ≡ events ++ others → HappenAll world events middle (handing before between old written had kept)
    → HappenAll middle others last (handing between after written new kept has)
    → HappenAll world all last (handing before after old new had has)
HappenAll-then world middle last events others all before between after old written new had kept has is first second = record {
  happenings = first.happenings ++ second.happenings;
  are =
      map-append (λ (happening : Transition). happening.event) first.happenings second.happenings
      ∙ ap (λ (some : List Event). some ++ map (λ (happening : Transition). happening.event) second.happenings) first.are
      ∙ ap (λ (some : List Event). events ++ some) second.are
      ∙ sym is;
  leads = Leads-join world middle last first.happenings second.happenings first.leads second.leads;
  answered = All-append has_answer first.happenings second.happenings first.answered second.answered;
  told =
      took-join before.delivered between.delivered after.delivered _ _ first.told second.told
      ∙ ap (λ (sheets : List Delivery). option_map (λ all. all ++ sheets) before.delivered) (sym (flat_map-append (λ (happening : Transition). happening.handed) first.happenings second.happenings));
  no_fault = second.no_fault ∙ first.no_fault;
  responses =
      second.responses
      ∙ ap (λ (some : List ℕ). some ++ flat_map (λ (happening : Transition). line_of happening.answer) second.happenings) first.responses
      ∙ append_assoc old (flat_map (λ (happening : Transition). line_of happening.answer) first.happenings) (flat_map (λ (happening : Transition). line_of happening.answer) second.happenings)
      ∙ ap (λ (some : List ℕ). old ++ some) (sym (flat_map-append (λ (happening : Transition). line_of happening.answer) first.happenings second.happenings));
  turns =
      second.turns
      ∙ ap (λ (some : List Turn). some ++ turns_in second.happenings) first.turns
      ∙ append_assoc had (turns_in first.happenings) (turns_in second.happenings)
      ∙ ap (λ (some : List Turn). had ++ some) (sym (flat_map-append (λ (happening : Transition). turns_of happening.answer) first.happenings second.happenings));
}

-- the first events, and one more
pub events-next : {A : Type 0} (f : A → Event) (events : List A) (i : ℕ) (event : A) → i < length events → event ≡ get_or events i event
    → map f (take (i + 1) events) ≡ map f (take i events) ++ f event ∷ []
events-next {A} f events i event inside is =
    ap (map f) (take_more events i event inside ∙ ap (λ (one : A). take i events ++ one ∷ []) (sym is)) ∙ map-append f (take i events) (event ∷ [])

-- the events: the first, one, and the others
pub events-rest : {A : Type 0} (f : A → Event) (events : List A) (i : ℕ) (event : A) → i < length events → event ≡ get_or events i event
    → map f events ≡ (map f (take i events) ++ f event ∷ []) ++ map f (drop (i + 1) events)
events-rest {A} f events i event inside is =
    sym
    (ap (λ (prefix : List Event). prefix ++ map f (drop (i + 1) events)) (sym (events-next f events i event inside is))
    ∙ sym (map-append f (take (i + 1) events) (drop (i + 1) events))
    ∙ ap (map f) (take-append-drop (i + 1) events))

-- the sink can count as before
pub has_fault_room-then : (before after : SheetLog) → after.faults ≡ before.faults → before.faults < most_faults → after.faults < most_faults
has_fault_room-then before after is can = subst (λ (n : ℕ). n < most_faults) (sym is) can

-- ---- up to a fault

-- the fault came at one event
HappenUpTo-one : (error : TurnError) (world last : World) (event : Event) (answer : EventAnswer) (handed : List Delivery)
    (before after : SheetLog) (old new : List ℕ) (turns : List Turn)
    → Happens world event answer handed last → WereHandedOut {A = Turn} handed (Err error) before after → FaultLeaves answer error old new
    → HappenSome error world (event ∷ []) last (handing before after old new turns turns)
HappenUpTo-one error world last event answer handed before after old new turns happens took leaves = UpTo (record {
  prefix = [];
  stopped = record { event = event; answer = answer; handed = handed; next = last };
  behind = [];
  are = refl;
  between = world;
  told = before;
  said = old;
  happened = HappenAll-none world before old turns;
  leads = (happens, refl);
  handed = took;
  leaves = leaves;
})

-- a message, for which there was no memory
message-stopped : (world last : World) (text : List ℕ) (images : List Page) (response : Option (List ℕ)) (told : SheetLog)
    (old new : List ℕ) (turns : List Turn)
    → Happens world (Message text images) (Response response) [] last → FaultLeaves (Response response) NoMemory old new
    → HappenSome NoMemory world (Message text images ∷ []) last (handing told told old new turns turns)
message-stopped world last text images response told old new turns happens leaves =
    HappenUpTo-one NoMemory world last (Message text images) (Response response) [] told told old new turns happens
    (record { told = took-nothing told.delivered; faults = refl }) leaves

-- it was not answered
pub message-unanswered : (world last : World) (text : List ℕ) (images : List Page) (told : SheetLog) (bytes : List ℕ) (turns : List Turn)
    → Happens world (Message text images) (Response None) [] last
    → HappenSome NoMemory world (Message text images ∷ []) last (handing told told bytes bytes turns turns)
message-unanswered world last text images told bytes turns happens =
    message-stopped world last text images None told bytes bytes turns happens (refl, ([], [], refl, sym (append-nil bytes)))

-- it was answered, and there was no memory for the line
pub message-cut : (world last : World) (text : List ℕ) (images : List Page) (result : Result (Vec ℕ Global) AllocError)
    (response : Vec ℕ Global) (told : SheetLog) (line old new : List ℕ) (turns : List Turn)
    → result ≡ Ok response → Happens world (Message text images) (response_to result) [] last → line ≡ response.items
    → AppendsPrefix (Some old) (Some new) line
    → HappenSome NoMemory world (Message text images ∷ []) last (handing told told old new turns turns)
message-cut world last text images result response told line old new turns answer happens is appends =
    message-stopped world last text images (Some response.items) told old new turns
    (subst (λ (one : Result (Vec ℕ Global) AllocError). Happens world (Message text images) (response_to one) [] last) answer happens)
    (refl, subst (λ (bytes : List ℕ). AppendsPrefix (Some old) (Some new) bytes) is appends)

-- a turn that was answered by it
pub turn-stopped : (error : TurnError) (world last : World) (engine most : ℕ) (before after : SheetLog) (bytes : List ℕ) (turns : List Turn)
    → ((handed : List Delivery) × Happens world (TurnOn engine most) (Turned (Err error)) handed last
    × WereHandedOut {A = Turn} handed (Err error) before after)
    → HappenSome error world (TurnOn engine most ∷ []) last (handing before after bytes bytes turns turns)
turn-stopped error world last engine most before after bytes turns taken =
    HappenUpTo-one error world last (TurnOn engine most) (Turned (Err error)) taken.0 before after bytes bytes turns taken.1 taken.2 (refl, refl)

-- a turn for which there was no room
pub turn-unbegun : (world : World) (engine most : ℕ) (told : SheetLog) (bytes : List ℕ) (turns : List Turn)
    → HappenSome NoMemory world (TurnOn engine most ∷ []) world (handing told told bytes bytes turns turns)
turn-unbegun world engine most told bytes turns = BeforeTurn (record {
  prefix = [];
  engine = engine;
  most = most;
  behind = [];
  are = refl;
  happened = HappenAll-none world told bytes turns;
  is_memory = refl;
})

-- three parts of a list, the second with an element in its midst
append-around : (events prefix behind others : List Event) (one : Event) → (events ++ (prefix ++ one ∷ behind)) ++ others ≡ (events ++ prefix) ++ one ∷ (behind ++ others)
append-around events prefix behind others one = grind (arith, append_assoc)

-- events, and then others up to a fault, whatever stands behind them
module _ (error : TurnError) (world middle last : World) (events others more all : List Event) (before between after : SheetLog)
    (old written new : List ℕ) (had kept has : List Turn) (is : all ≡ (events ++ others) ++ more)
    (first : HappenAll world events middle (handing before between old written had kept)) where
  these : (prefix behind : List Event) (one : Event) → others ≡ prefix ++ one ∷ behind → all ≡ (events ++ prefix) ++ one ∷ (behind ++ more)
  these prefix behind one are = is ∙ ap (λ (some : List Event). (events ++ some) ++ more) are ∙ append-around events prefix behind more one

  pub HappenSome-behind : HappenSome error middle others last (handing between after written new kept has)
      → HappenSome error world all last (handing before after old new had has)
  HappenSome-behind (UpTo second) = UpTo (record {
    prefix = events ++ second.prefix;
    stopped = second.stopped;
    behind = second.behind ++ more;
    are = these second.prefix second.behind second.stopped.event second.are;
    between = second.between;
    told = second.told;
    said = second.said;
    happened = HappenAll-then world middle second.between events second.prefix (events ++ second.prefix) before between second.told old written second.said had kept has refl first second.happened;
    leads = second.leads;
    handed = second.handed;
    leaves = second.leaves;
  })
  HappenSome-behind (BeforeTurn second) = BeforeTurn (record {
    prefix = events ++ second.prefix;
    engine = second.engine;
    most = second.most;
    behind = second.behind ++ more;
    are = these second.prefix second.behind (TurnOn second.engine second.most) second.are;
    happened = HappenAll-then world middle last events second.prefix (events ++ second.prefix) before between after old written new had kept has refl first second.happened;
    is_memory = second.is_memory;
  })

-- ---- places

-- the steps of a number, of one answer and others
told-answer : (number : ℕ) (answer : EventAnswer) (others : List Turn)
    → steps_answered number answer + steps_told number others ≡ steps_told number (turns_of answer ++ others)
told-answer number (Turned (Ok turn)) others = sym (sum_by-cons (λ (one : Turn). steps_answered number (Turned (Ok one))) turn others)
told-answer number (Turned (Err error)) others = omega arith
told-answer number (Response response) others = omega arith
told-answer number Nothing others = omega arith

-- the steps of a number are those that its turns took
steps-told : (number : ℕ) (happenings : List Transition) → steps_in number happenings ≡ steps_told number (turns_in happenings)
steps-told number [] = refl
steps-told number (happening ∷ happenings) =
    sum_by-cons (λ (h : Transition). steps_answered number h.answer) happening happenings
    ∙ ap (λ (n : ℕ). steps_answered number happening.answer + n) (steps-told number happenings)
    ∙ told-answer number happening.answer (turns_in happenings)

-- an entry that is seen is listed
seen-listed : (entry : Option Entry) (work : Option Work) (seen : Seen) → both_seen entry work ≡ Some seen → is_some entry ≡ true
seen-listed entry work seen is = grind arith

-- what a turn that was stopped did is nothing
turns_of-stopped : (error : TurnError) (answer : EventAnswer) (old new : List ℕ) → FaultLeaves answer error old new → turns_of answer ≡ []
turns_of-stopped error answer old new leaves = grind arith

-- so it is by the laws of a new press
places-told : (engines : ℕ) (happenings : List Transition) (last : World) (had has : List Turn) → ComesFromNew engines happenings last
    → has ≡ had ++ turns_in happenings → TellPlaces had has last
places-told engines happenings last had has comes is = (
  turns_in happenings,
  is,
  λ number seen sees flies.
      let given = comes.given number in
      let as_seen = given.listed (seen-listed (entry_numbered number last.queue.entries) (work_numbered number last) seen sees) ∙ sees in
      ((given.given seen as_seen).in_flight flies).0 ∙ ap Some (steps-told number happenings),
)

-- ---- from a new press

module _ (come : NewPressesComeSo) (start last : World) (engines : ℕ) (events : List Event) (before after : SheetLog) (old new : List ℕ)
    (had has : List Turn) (are : are_engines engines ≡ true) (is : start ≡ new_world engines) where
  pub from-new : HappenAll start events last (handing before after old new had has)
      → (happened : HappenAll (new_world engines) events last (handing before after old new had has)) × ComesFromNew engines happened.happenings last
  from-new all =
      let happened = subst (λ (w : World). HappenAll w events last (handing before after old new had has)) is all in
      (happened, come engines happened.happenings last are happened.leads)

  pub places-from-new : HappenAll start events last (handing before after old new had has) → TellPlaces had has last
  places-from-new all =
      let comes = from-new all in
      places-told engines comes.0.happenings last had has comes.1 comes.0.turns

  comes_so : (error : TurnError) (some : HappenSome error (new_world engines) events last (handing before after old new had has))
      → ComesFromNew engines (happened_in some) last
  comes_so error (UpTo up_to) =
      come engines (up_to.happened.happenings ++ up_to.stopped ∷ []) last are
      (Leads-join (new_world engines) up_to.between last up_to.happened.happenings (up_to.stopped ∷ []) up_to.happened.leads up_to.leads)
  comes_so error (BeforeTurn before_turn) = come engines before_turn.happened.happenings last are before_turn.happened.leads

  turns-told : (error : TurnError) (some : HappenSome error (new_world engines) events last (handing before after old new had has))
      → has ≡ had ++ turns_in (happened_in some)
  turns-told error some = grind (arith, flat_map-append, turns_of-stopped, append-nil)

  at_new : (error : TurnError) → HappenSome error start events last (handing before after old new had has)
      → HappenSome error (new_world engines) events last (handing before after old new had has)
  at_new error some = subst (λ (w : World). HappenSome error w events last (handing before after old new had has)) is some

  pub some-from-new : (error : TurnError) → HappenSome error start events last (handing before after old new had has)
      → (happened : HappenSome error (new_world engines) events last (handing before after old new had has))
      × ComesFromNew engines (happened_in happened) last
  some-from-new error some = (at_new error some, comes_so error (at_new error some))

  pub places-from-some : (error : TurnError) → HappenSome error start events last (handing before after old new had has) → TellPlaces had has last
  places-from-some error some =
      places-told engines (happened_in (at_new error some)) last had has (comes_so error (at_new error some)) (turns-told error (at_new error some))
