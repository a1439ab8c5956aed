-- Lines of a session, some after others.
use Rattle.std.proofs.Common.{◌≡◌, ◌⊎◌, ◌∙◌, ℕ, Bool, List, [], ◌∷◌, ◌++◌, codes, true, false, Option, Some, None, Result, Ok, Err, refl, sym, ap, subst, inl, inr, arith}
use Rattle.std.specs.Prelude.{◌≢◌, IfOk, MatchBool, OnOk}
use Rattle.press_files.specs.Causes.{Failures, InputCause}
use Rattle.press_files.specs.Change.{change}
use Rattle.press_files.specs.EntryPages.{MakesPages, pages_behind}
use Rattle.press_files.specs.EntryTemplate.{EntryParts, IsNoEntryTemplate}
use Rattle.press_files.specs.NamedInputs.{NamedInput}
use Rattle.press_files.specs.declared.inputs.InputError.{InputError}
use Rattle.press_files.specs.declared.inputs.InputError.TheVariants as input_fault
use Rattle.std.specs.Io.KnownBytes.{Appends}
use Rattle.std.specs.List.{All}
use Rattle.std.proofs.lemmas.List.{append_assoc, append-nil}
use Rattle.std.proofs.lemmas.List.Elements.{All-append, All-cons, All-nil}
use Rattle.press_sink.specs.Outputs.{MadeOutput, with_outputs}
use Rattle.press_sink.specs.declared.fault.TemplateError.{TemplateError}
use Rattle.press_sink.specs.declared.fault.TemplateError.TheVariants as template_fault
use Rattle.press_sink.specs.declared.delivery.Delivery.{Delivery}
use Rattle.press_devices.specs.Telling.{Ended, Tells, as_line}
use Rattle.press_words.specs.Words.{SessionAsked}
use Rattle.press_core.specs.declared.turn.Turn.{Turn as DoneTurn}
use Rattle.press_core.specs.declared.turn.TurnError.{TurnError}
use Rattle.press_core.specs.declared.turn.TurnError.TheVariants as turn_fault
use Rattle.press_core.specs.Events.{TurnOn, Turned, Happens}
use Rattle.press_core.specs.Turns.{TakesTurn, TurnAt, at_turn, is_idle, with_turn}
use Rattle.press_history.specs.Runs.{Transition, IsAnswered, IsExecution}
use Rattle.press_theorem.proofs.EventLemmas.{Leads-join}
use Rattle.press_core.specs.Engines.{are_engines}
use Rattle.press_core.specs.World.{World, has_engine, new_world}
use Rattle.press_history.specs.RunLaws.{NewPressesComeSo}
use Rattle.press_files.specs.declared.jobs.JobFileError.TheVariants as fault
use Rattle.press_sessions.specs.declared.session_error.SessionError.{SessionError}
use Rattle.press_sessions.specs.declared.session_error.SessionError.TheVariants.{Engines, Template, File, Turn, Output, NoMemory}
use Rattle.press_files.specs.EntryListing.{entry_listing}
use Rattle.press_sessions.specs.EventLines.{EventLine, MessageLine, TurnLine, OperatorLine, event_of_line}
use Rattle.press_sessions.specs.Faults.{told_of_session}
use Rattle.press_sessions.specs.Sessions.{Inputs, LineDone, NoEvent, Wrong, Happened, answer_to, answers_to, happenings_in, handed_by, handed_in}
use Rattle.press_sessions.specs.Sessions.{AreLinesOf, HasFault, LineEnds, TakesAsked, TakesLines, IsUnanswered, IsUnread, KeepsDelivered, Rules, is_of_line}
use Rattle.press_sessions.specs.Sessions.{PlaysToItsEnd, StopsListing, StopsPlaying, Standing, playing}
use Rattle.press_sessions.specs.Sessions.{AreParts, HasNoPress, HasNoTemplate, NothingBegan, Plays, PlaysBy, Stops, StopsBy, StopsWithin, beginning, by_rules}
use Rattle.press_files.specs.Talking.{Talking, AnswersLines, AnswersAll, AnswersSome, caused, line_by_line}
use Rattle.press_files.proofs.EntryPagesLemmas.{pages-made}
use Rattle.press_files.proofs.TalkLemmas.{IsSeen, IsSeen-caused, AnswersAll-seen, AnswersSome-seen}

-- the event of this happening has its answer
abbrev has_answer : Transition → Type 0
has_answer happening = IsAnswered happening.answer

happenings-join : (lines others : List LineDone) → happenings_in (lines ++ others) ≡ happenings_in lines ++ happenings_in others
happenings-join [] others = refl
happenings-join (NoEvent ∷ lines) others = happenings-join lines others
happenings-join (Wrong told ∷ lines) others = happenings-join lines others
happenings-join (Happened happening ∷ lines) others = ap (λ (all : List Transition). happening ∷ all) (happenings-join lines others)

handed-join : (happenings others : List Transition) → handed_in (happenings ++ others) ≡ handed_in happenings ++ handed_in others
handed-join [] others = refl
handed-join (happening ∷ happenings) others =
    ap (λ (all : List Delivery). happening.handed ++ all) (handed-join happenings others) ∙ sym (append_assoc happening.handed (handed_in happenings) (handed_in others))

-- what one line handed out, and then others
handed-more : (had : List Delivery) (done : LineDone) (lines : List LineDone)
    → (had ++ handed_by done) ++ handed_in (happenings_in lines) ≡ had ++ handed_in (happenings_in (done ∷ lines))
handed-more had NoEvent lines = ap (λ (all : List Delivery). all ++ handed_in (happenings_in lines)) (append-nil had)
handed-more had (Wrong told) lines = ap (λ (all : List Delivery). all ++ handed_in (happenings_in lines)) (append-nil had)
handed-more had (Happened happening) lines = append_assoc had happening.handed (handed_in (happenings_in lines))

answers-join : (parts : Option EntryParts) (had : List Delivery) (lines others : List LineDone)
    → answers_to parts had (lines ++ others) ≡ answers_to parts had lines ++ answers_to parts (had ++ handed_in (happenings_in lines)) others
answers-join parts had [] others = ap (λ (all : List Delivery). answers_to parts all others) (sym (append-nil had))
answers-join parts had (done ∷ lines) others =
    let next = had ++ handed_by done in
    ap (λ (all : List ℕ). answer_to parts had done ++ all) (answers-join parts next lines others)
    ∙ sym (append_assoc (answer_to parts had done) (answers_to parts next lines) (answers_to parts (next ++ handed_in (happenings_in lines)) others))
    ∙ ap (λ (all : List Delivery). (answer_to parts had done ++ answers_to parts next lines) ++ answers_to parts all others) (handed-more had done lines)

AreLinesOf-append : (rules : Rules) (lines others : List (List ℕ)) (world middle : World) (happenings more : List LineDone)
    → AreLinesOf rules lines world happenings → IsExecution world (happenings_in happenings) middle → AreLinesOf rules others middle more
    → AreLinesOf rules (lines ++ others) world (happenings ++ more)
AreLinesOf-append rules [] others world middle [] more first leads second = subst (λ (at : World). AreLinesOf rules others at more) leads second
AreLinesOf-append rules (line ∷ lines) others world middle (NoEvent ∷ happenings) more first leads second =
    (first.0, AreLinesOf-append rules lines others world middle happenings more first.1 leads second)
AreLinesOf-append rules (line ∷ lines) others world middle (Wrong told ∷ happenings) more first leads second =
    (first.0, AreLinesOf-append rules lines others world middle happenings more first.1 leads second)
AreLinesOf-append rules (line ∷ lines) others world middle (Happened happening ∷ happenings) more first leads second =
    (first.0, AreLinesOf-append rules lines others happening.next middle happenings more first.1 leads.1 second)
AreLinesOf-append rules [] others world middle (done ∷ happenings) more first leads second = absurd first
AreLinesOf-append rules (line ∷ lines) others world middle [] more first leads second = absurd first

-- no lines
pub TakesLines-nothing : (rules : Rules) (at : Standing) → TakesLines rules [] at at []
TakesLines-nothing rules at =
    record { happenings = []; are = tt; leads = refl; handed = sym (append-nil at.delivered); faults = refl; happened = All-nil has_answer; answered = refl }

-- lines, and then others
pub TakesLines-then : (rules : Rules) (lines others : List (List ℕ)) (old middle last : Standing) (answers more : List ℕ)
    → TakesLines rules lines old middle answers → TakesLines rules others middle last more
    → TakesLines rules (lines ++ others) old last (answers ++ more)
TakesLines-then rules lines others old middle last answers more first second = record {
  happenings = first.happenings ++ second.happenings;
  are = AreLinesOf-append rules lines others old.world middle.world first.happenings second.happenings first.are first.leads second.are;
  leads =
      subst (λ (all : List Transition). IsExecution old.world all last.world) (sym (happenings-join first.happenings second.happenings))
      (Leads-join old.world middle.world last.world (happenings_in first.happenings) (happenings_in second.happenings) first.leads second.leads);
  handed =
      second.handed ∙ ap (λ (all : List Delivery). all ++ handed_in (happenings_in second.happenings)) first.handed
      ∙ append_assoc old.delivered (handed_in (happenings_in first.happenings)) (handed_in (happenings_in second.happenings))
      ∙ sym (ap (λ (all : List Transition). old.delivered ++ handed_in all) (happenings-join first.happenings second.happenings)
      ∙ ap (λ (all : List Delivery). old.delivered ++ all) (handed-join (happenings_in first.happenings) (happenings_in second.happenings)));
  faults = second.faults ∙ first.faults;
  happened =
      subst (All has_answer) (sym (happenings-join first.happenings second.happenings))
      (All-append has_answer (happenings_in first.happenings) (happenings_in second.happenings) first.happened second.happened);
  answered =
      ap (λ (all : List ℕ). all ++ more) first.answered
      ∙ ap (λ (all : List ℕ). answers_to rules.parts old.delivered first.happenings ++ all)
      (second.answered ∙ ap (λ (had : List Delivery). answers_to rules.parts had second.happenings) first.handed)
      ∙ sym (answers-join rules.parts old.delivered first.happenings second.happenings);
}

-- a line that is no event
pub TakesLines-none : (rules : Rules) (line : List ℕ) (at : Standing) (answer : List ℕ) → event_of_line line ≡ None
    → answer ≡ codes "what?" ++ 10 ∷ [] → TakesLines rules (line ∷ []) at at answer
TakesLines-none rules line at answer none is = record {
  happenings = NoEvent ∷ [];
  are = (none, tt);
  leads = refl;
  handed = sym (append-nil at.delivered);
  faults = refl;
  happened = All-nil has_answer;
  answered = is ∙ sym (append-nil (answer_to rules.parts at.delivered NoEvent));
}

-- a line that is an event
pub TakesLines-event : (rules : Rules) (line : List ℕ) (asked : EventLine) (old new : Standing) (answer : List ℕ)
    → event_of_line line ≡ Some asked → TakesAsked rules.inputs rules.parts asked old new answer
    → TakesLines rules (line ∷ []) old new answer
TakesLines-event rules line asked old new answer is taken =
    let its = taken.2.0 in
    let handed = taken.2.1 in
    let happening : Transition = record { event = taken.0; answer = its; handed = handed; next = new.world } in
    record {
      happenings = Happened happening ∷ [];
      are = ((asked, is, taken.1), tt);
      leads = (taken.2.2, refl);
      handed = taken.2.3 ∙ ap (λ (all : List Delivery). old.delivered ++ all) (sym (append-nil handed));
      faults = taken.2.4;
      happened = All-cons has_answer happening [] taken.2.6 (All-nil has_answer);
      answered = taken.2.5 ∙ sym (append-nil (answer_to rules.parts old.delivered (Happened happening)));
    }

-- ---- a line that is wrong

-- what was delivered stays, whatever the reason
HasFault-keeps : (inputs : Inputs) (asked : EventLine) (old new : Standing) (why : SessionError) → HasFault inputs asked old why new → KeepsDelivered old new
HasFault-keeps inputs (MessageLine file names) old new (File error) fault = ([], ap (λ (at : Standing). at.delivered) fault.1 ∙ sym (append-nil old.delivered))
HasFault-keeps inputs (MessageLine file names) old new NoMemory fault = fault
HasFault-keeps inputs (MessageLine file names) old new (Engines error) fault = absurd fault
HasFault-keeps inputs (MessageLine file names) old new (Template error) fault = absurd fault
HasFault-keeps inputs (MessageLine file names) old new (Turn error) fault = absurd fault
HasFault-keeps inputs (MessageLine file names) old new (Output error) fault = absurd fault
HasFault-keeps inputs (TurnLine engine most) old new (Turn error) fault = (fault.0, fault.2)
HasFault-keeps inputs (TurnLine engine most) old new NoMemory fault = fault
HasFault-keeps inputs (TurnLine engine most) old new (File error) fault = absurd fault
HasFault-keeps inputs (TurnLine engine most) old new (Engines error) fault = absurd fault
HasFault-keeps inputs (TurnLine engine most) old new (Template error) fault = absurd fault
HasFault-keeps inputs (TurnLine engine most) old new (Output error) fault = absurd fault
HasFault-keeps inputs (OperatorLine command) old new why fault = fault.1

pub IsUnanswered-keeps : (inputs : Inputs) (line : List ℕ) (old new : Standing) (why : SessionError) → IsUnanswered inputs line old why new → KeepsDelivered old new
IsUnanswered-keeps inputs line old new why (inl (asked, is, fault)) = HasFault-keeps inputs asked old new why fault
IsUnanswered-keeps inputs line old new why (inr (memory, keeps)) = keeps

abbrev stand : World → List Delivery → ℕ → Standing
stand world delivered faults = record { world = world; delivered = delivered; faults = faults }

standing-same : (old new : Standing) → new.world ≡ old.world → new.delivered ≡ old.delivered → new.faults ≡ old.faults → new ≡ old
standing-same old new world delivered faults =
    ap (λ (of : World). stand of new.delivered new.faults) world ∙ ap (λ (had : List Delivery). stand old.world had new.faults) delivered
    ∙ ap (stand old.world old.delivered) faults

-- a turn of an engine that there is not changes nothing
turn-none : (world next : World) (entry : Option ℕ) (most : ℕ) (handed : List Delivery) → TurnAt world entry most (Err turn_fault.NoEngine) handed next → ⊥
turn-none world next None most handed (is, nothing, stays) = cc
turn-none world next (Some number) most handed (names, steps) = let is : false ≡ true = steps.steps.2 in cc

no-engine : (world next : World) (engine most : ℕ) (handed : List Delivery) → Happens world (TurnOn engine most) (Turned (Err turn_fault.NoEngine)) handed next
    → (handed ≡ []) × (next ≡ world)
no-engine world next engine most handed happens = by_engine (has_engine engine world) happens where
  by_idle : (idle : Bool) → MatchBool idle (TurnAt world None most (Err turn_fault.NoEngine) handed next) (TurnAt (with_turn engine world) (at_turn engine world).1 most (Err turn_fault.NoEngine) handed next) → ⊥
  by_idle true turn = turn-none world next None most handed turn
  by_idle false turn = turn-none (with_turn engine world) next (at_turn engine world).1 most handed turn

  by_engine : (has : Bool) → MatchBool has (TakesTurn world engine most (Err turn_fault.NoEngine) handed next) ((◌≡◌ {A = Result DoneTurn TurnError} (Err turn_fault.NoEngine) (Err turn_fault.NoEngine)) × (handed ≡ []) × (next ≡ world))
      → (handed ≡ []) × (next ≡ world)
  by_engine true turn = absurd (by_idle (is_idle most world) turn)
  by_engine false turn = (turn.1, turn.2)

-- a fault of the line changes nothing
HasFault-stays : (inputs : Inputs) (asked : EventLine) (old new : Standing) (why : SessionError) → is_of_line why ≡ true → HasFault inputs asked old why new → new ≡ old
HasFault-stays inputs (MessageLine file names) old new (File error) of_line fault = fault.1
HasFault-stays inputs (MessageLine file names) old new NoMemory of_line fault = cc
HasFault-stays inputs (MessageLine file names) old new (Engines error) of_line fault = absurd fault
HasFault-stays inputs (MessageLine file names) old new (Template error) of_line fault = absurd fault
HasFault-stays inputs (MessageLine file names) old new (Turn error) of_line fault = absurd fault
HasFault-stays inputs (MessageLine file names) old new (Output error) of_line fault = absurd fault
HasFault-stays inputs (TurnLine engine most) old new (Turn turn_fault.NoEngine) of_line fault =
    let none = no-engine old.world new.world engine most fault.0 fault.1 in
    standing-same old new none.1 (fault.2 ∙ ap (λ (handed : List Delivery). old.delivered ++ handed) none.0 ∙ append-nil old.delivered) fault.3
HasFault-stays inputs (TurnLine engine most) old new (Turn turn_fault.SinkFault) of_line fault = cc
HasFault-stays inputs (TurnLine engine most) old new (Turn turn_fault.NoMemory) of_line fault = cc
HasFault-stays inputs (TurnLine engine most) old new NoMemory of_line fault = cc
HasFault-stays inputs (TurnLine engine most) old new (File error) of_line fault = absurd fault
HasFault-stays inputs (TurnLine engine most) old new (Engines error) of_line fault = absurd fault
HasFault-stays inputs (TurnLine engine most) old new (Template error) of_line fault = absurd fault
HasFault-stays inputs (TurnLine engine most) old new (Output error) of_line fault = absurd fault
HasFault-stays inputs (OperatorLine command) old new why of_line fault =
    let none : is_of_line NoMemory ≡ true = subst (λ (one : SessionError). is_of_line one ≡ true) fault.0 of_line in cc

IsUnanswered-stays : (inputs : Inputs) (line : List ℕ) (old new : Standing) (why : SessionError) → is_of_line why ≡ true → IsUnanswered inputs line old why new → new ≡ old
IsUnanswered-stays inputs line old new why of_line (inl (asked, is, fault)) = HasFault-stays inputs asked old new why of_line fault
IsUnanswered-stays inputs line old new why of_line (inr (memory, keeps)) =
    let none : is_of_line NoMemory ≡ true = subst (λ (one : SessionError). is_of_line one ≡ true) memory of_line in cc

-- a line that is wrong, where the session goes on
pub TakesLines-wrong : (rules : Rules) (line : List ℕ) (old new : Standing) (why : SessionError) (told answer : List ℕ) → rules.goes_on ≡ true
    → is_of_line why ≡ true → told_of_session why ≡ Some told → IsUnanswered rules.inputs line old why new → answer ≡ told ++ 10 ∷ []
    → TakesLines rules (line ∷ []) old new answer
TakesLines-wrong rules line old new why told answer goes_on of_line tells unanswered is =
    let same : new ≡ old = IsUnanswered-stays rules.inputs line old new why of_line unanswered in
    let at : IsUnanswered rules.inputs line old why old = subst (λ (to : Standing). IsUnanswered rules.inputs line old why to) same unanswered in
    subst (λ (to : Standing). TakesLines rules (line ∷ []) old to answer) (sym same) (record {
      happenings = Wrong told ∷ [];
      are = ((goes_on, why, of_line, tells, old, refl, at), tt);
      leads = refl;
      handed = sym (append-nil old.delivered);
      faults = refl;
      happened = All-nil has_answer;
      answered = is ∙ sym (append-nil (answer_to rules.parts old.delivered (Wrong told)));
    })

-- the same of an answer, where there is one
pub TakesLines-answered : {A : Type 0} (items : A → List ℕ) (result : Result A SessionError) (rules : Rules) (line : List ℕ) (old new : Standing) (error : SessionError)
    → IsUnanswered rules.inputs line old error new → OnOk result (rules.goes_on ≡ true) → OnOk result (is_of_line error ≡ true)
    → IfOk result (λ answer. (told : List ℕ) × (told_of_session error ≡ Some told) × (items answer ≡ told ++ 10 ∷ []))
    → IfOk result (λ answer. TakesLines rules (line ∷ []) old new (items answer))
TakesLines-answered items (Ok answer) rules line old new error unanswered goes_on of_line tells =
    TakesLines-wrong rules line old new error tells.0 (items answer) goes_on of_line tells.1 unanswered tells.2
TakesLines-answered items (Err why) rules line old new error unanswered goes_on of_line tells = tt

-- no sink had a fault by an answer
pub TakesLines-sound : {A : Type 0} (items : A → List ℕ) (result : Result A SessionError) (rules : Rules) (line : List ℕ) (old new : Standing)
    → old.faults ≡ 0 → IfOk result (λ answer. TakesLines rules (line ∷ []) old new (items answer)) → OnOk result (new.faults ≡ 0)
TakesLines-sound items (Ok answer) rules line old new sound takes = takes.faults ∙ sound
TakesLines-sound items (Err why) rules line old new sound takes = tt

-- where that cannot be told
pub IsUnanswered-untold : (inputs : Inputs) (line : List ℕ) (old new : Standing) (error why : SessionError) → IsUnanswered inputs line old error new
    → (why ≡ error) ⊎ (why ≡ NoMemory) → IsUnanswered inputs line old why new
IsUnanswered-untold inputs line old new error why unanswered (inl same) = subst (λ (one : SessionError). IsUnanswered inputs line old one new) (sym same) unanswered
IsUnanswered-untold inputs line old new error why unanswered (inr memory) = inr (memory, IsUnanswered-keeps inputs line old new error unanswered)

-- ---- the talk of a session

module _ {S R : Type 0} (rules_by : R → Rules) (rules : S → R) (stands : S → Standing) where
  abbrev takes_line : S → List ℕ → List ℕ → S → Type 0
  takes_line old line answer new = TakesLines (rules_by (rules old)) (line ∷ []) (stands old) (stands new) answer × (rules new ≡ rules old)

  abbrev pub plays : Talking S SessionError
  plays =
      line_by_line takes_line (λ at line why ended. LineEnds (rules_by (rules at)) line (stands at) why (stands ended))
      (λ error why. why ≡ File (fault.Input error)) (λ error why. why ≡ Output error)

  TakesLines-all : (lines : List (List ℕ)) (old : S) (answers : List ℕ) (new : S) → AnswersLines takes_line lines old answers new
      → TakesLines (rules_by (rules old)) lines (stands old) (stands new) answers × (rules new ≡ rules old)
  TakesLines-all [] old answers new (none, same) =
      (rw (none, same) (TakesLines-nothing (rules_by (rules old)) (stands old)), ap rules same)
  TakesLines-all (line ∷ lines) old answers new (answer, others, next, (takes, keeps), answered, are) =
      let rest = TakesLines-all lines next others new answered in
      let these = subst (λ (some : R). TakesLines (rules_by some) lines (stands next) (stands new) others) keeps rest.0 in
      let all = TakesLines-then (rules_by (rules old)) (line ∷ []) lines (stands old) (stands next) (stands new) answer others takes these in
      (subst (λ (some : List ℕ). TakesLines (rules_by (rules old)) (line ∷ lines) (stands old) (stands new) some) (sym are) all, rest.1 ∙ keeps)

  is_seen : (first : S) → IsSeen plays (playing (rules_by (rules first))) stands first
  is_seen first = record {
    takes = λ lines answers last takes. (TakesLines-all lines first answers last takes).0;
    line = λ lines answers last takes line answer next more.
        subst (λ (some : R). TakesLines (rules_by some) (line ∷ []) (stands last) (stands next) answer)
        (TakesLines-all lines first answers last takes).1 (TakesLines-all (line ∷ []) last answer next more).0;
    refuses = λ lines answers last takes line why ended refuses.
        subst (λ (some : R). LineEnds (rules_by some) line (stands last) why (stands ended)) (TakesLines-all lines first answers last takes).1 refuses;
    unread = λ error why is. is;
    unwritten = λ error why is. is;
  }

  module _ (sums : Bool) (first : S) (had left old between new : Option (List ℕ)) where
    pub Plays-listed : (all : AnswersAll plays first had left old between) (last : S) → all.last ≡ last
        → Appends between new (entry_listing sums (stands last).delivered)
        → (played : PlaysToItsEnd (rules_by (rules first)) sums (stands first) had left old new) × (played.answered.last ≡ stands last)
    Plays-listed all last same listed = (
      record {
        between = between;
        answered = AnswersAll-seen (is_seen first) had left old between all;
        listed = subst (λ (at : S). Appends between new (entry_listing sums (stands at).delivered)) (sym same) listed;
      },
      ap stands same,
    )

    pub Stops-some : (fails : Failures) (why : SessionError) (ended : S)
        → (some : AnswersSome (caused plays (InputCause fails.input) fails.output) first had left (change old new) why) × (some.ended ≡ ended)
        → StopsPlaying (rules_by (rules first)) sums fails (stands first) (stands ended) (change had left) (change old new) why
    Stops-some fails why ended (some, is) =
        let over = IsSeen-caused (InputCause fails.input) fails.output (is_seen first) in
        inl (AnswersSome-seen over had left old new why some, ap stands is)

    pub Stops-listing : (fails : Failures) (why : SessionError) (all : AnswersAll plays first had left old between) (last : S)
        → all.last ≡ last → StopsListing fails.output sums (stands last).delivered between new why
        → StopsPlaying (rules_by (rules first)) sums fails (stands first) (stands last) (change had left) (change old new) why
    Stops-listing fails why all last same stops =
        inr (record {
          between = between;
          answered = AnswersAll-seen (is_seen first) had left old between all;
          last = ap stands (sym same);
          stops = subst (λ (at : S). StopsListing fails.output sums (stands at).delivered between new why) (sym same) stops;
        })

-- where nothing changed, what was delivered stays
pub KeepsDelivered-same : (old new : Standing) → new ≡ old → KeepsDelivered old new
KeepsDelivered-same old new same = ([], ap (λ (at : Standing). at.delivered) same ∙ sym (append-nil old.delivered))

-- a text that is no template
pub HasNoTemplate-of : (text : List ℕ) (error : TemplateError) → (error ≡ template_fault.BadTemplate → IsNoEntryTemplate text)
    → HasNoTemplate (Some text) (Template error)
HasNoTemplate-of text template_fault.BadTemplate bad = inl (refl, bad refl)
HasNoTemplate-of text template_fault.NoMemory bad = inr refl

-- a file that is not opened
pub IsUnread-missing : (input : NamedInput) (error : InputError) → (error ≡ input_fault.ReadFault → input.IsMissing) → IsUnread input (fault.Input error)
IsUnread-missing input input_fault.ReadFault own = inl (own refl)
IsUnread-missing input input_fault.NoMemory own = tt

-- a file that is not read
pub IsUnread-cause : (input : NamedInput) (Fails : Type 0) (error : InputError) → (Fails → input.Failed) → InputCause Fails error
    → IsUnread input (fault.Input error)
IsUnread-cause input Fails input_fault.ReadFault some fails = inr (some fails)
IsUnread-cause input Fails input_fault.NoMemory some cause = tt

-- ---- a session from its beginning

-- how a call ended, where more is said of that
Ended-more : {Why : Type 0} (status : ℕ) (said says : Option (List ℕ)) (text : Why → Option (List ℕ)) (Done Does : Type 0) (Stops Stop : Why → Type 0)
    → (status ≡ 0 → Done → Does) → ((why : Why) → Stops why → Stop why) → Ended status said says text Done Stops → Ended status said says text Does Stop
Ended-more status said says text Done Does Stops Stop done stop ended = record {
  done = λ zero. let all = ended.done zero in (all.0, done zero all.1);
  stops = λ some. let why = ended.stops some in (why.0, why.1, why.2, stop why.1 why.3);
}

-- how a session ended that was played by rules, and what was made of the sheets that it delivered
module _ (rules : Rules) (sums : Bool) (first at : Standing) (bytes left old new : Option (List ℕ)) (made makes : Option (List MadeOutput)) where
  abbrev PlaysTo : (begins : Standing) → Type 0
  PlaysTo begins = (played : PlaysToItsEnd rules sums begins bytes left old new) × (played.answered.last ≡ at)

  abbrev StopsIn : Failures → (begins : Standing) → SessionError → Type 0
  StopsIn fails begins = StopsPlaying rules sums fails begins at (change bytes left) (change old new)

  abbrev StopsHaving : Failures → SessionError → Type 0
  StopsHaving fails = StopsBy rules sums fails first (change bytes left) (change old new) (change made makes)

  PlaysBy-made : makes ≡ with_outputs (pages_behind rules.parts [] at.delivered) made
      → PlaysTo first → PlaysBy rules sums first bytes left old new made makes
  PlaysBy-made files (played, same) = record {
    played = played;
    files = files ∙ ap (λ (last : Standing). with_outputs (pages_behind rules.parts [] last.delivered) made) (sym same);
  }

  pub PlaysBy-ended : (fails : Failures) (begins : Standing) (status : ℕ) (said says : Option (List ℕ)) → begins ≡ first → (status ≡ 0 → at.faults ≡ 0)
      → ∥ MakesPages rules.parts at.delivered at.faults made makes ∥₁ → (at.faults ≢ 0 → fails.outputs)
      → Ended status said says told_of_session (PlaysTo begins) (StopsIn fails begins)
      → Ended status said says told_of_session (PlaysBy rules sums first bytes left old new made makes) (StopsHaving fails)
  PlaysBy-ended fails begins status said says same sound files cause ended =
      let from = subst (λ (begin : Standing). Ended status said says told_of_session (PlaysTo begin) (StopsIn fails begin)) same ended in
      Ended-more status said says told_of_session (PlaysTo first) (PlaysBy rules sums first bytes left old new made makes) (StopsIn fails first) (StopsHaving fails)
      (λ zero. PlaysBy-made (pages-made rules.parts at.delivered at.faults made makes (sound zero) files))
      (λ why stops. record { ended = at; stops = stops; files = files; cause = cause }) from

module _ (asked : SessionAsked) (inputs : Inputs) (bytes left old new : Option (List ℕ)) (made makes : Option (List MadeOutput)) (parts : Option EntryParts) (sums : Bool) (world : World)
    (are : are_engines asked.engines ≡ true) (is_parts : AreParts asked.template parts) (same_sums : sums ≡ asked.sums) (begins : world ≡ new_world asked.engines) where
  Plays-begun : NewPressesComeSo → PlaysBy (by_rules inputs asked.goes_on parts) sums (beginning world) bytes left old new made makes
      → Plays asked inputs bytes left old new made makes
  Plays-begun come by =
      let at = subst (λ (w : World). PlaysBy (by_rules inputs asked.goes_on parts) asked.sums (beginning w) bytes left old new made makes) begins
      (subst (λ (s : Bool). PlaysBy (by_rules inputs asked.goes_on parts) s (beginning world) bytes left old new made makes) same_sums by) in
      record {
        are = are;
        parts = parts;
        are_parts = is_parts;
        by = at;
        comes = come asked.engines (happenings_in at.played.answered.takes.happenings) at.played.answered.last.world are at.played.answered.takes.leads;
      }

  Stops-begun : (fails : Failures) (why : SessionError)
      → StopsBy (by_rules inputs asked.goes_on parts) sums fails (beginning world) (change bytes left) (change old new) (change made makes) why
      → Stops asked inputs fails (change bytes left) (change old new) (change made makes) why
  Stops-begun fails why by =
      let at = subst (λ (w : World). StopsBy (by_rules inputs asked.goes_on parts) asked.sums fails (beginning w) (change bytes left) (change old new) (change made makes) why) begins
      (subst (λ (s : Bool). StopsBy (by_rules inputs asked.goes_on parts) s fails (beginning world) (change bytes left) (change old new) (change made makes) why) same_sums by) in
      rw are (inr (record { parts = parts; are_parts = is_parts; by = at }))

  -- how a session ended that began
  pub Plays-ended : (fails : Failures) (status : ℕ) (said says : Option (List ℕ)) → NewPressesComeSo
      → Ended status said says told_of_session (PlaysBy (by_rules inputs asked.goes_on parts) sums (beginning world) bytes left old new made makes)
      (StopsBy (by_rules inputs asked.goes_on parts) sums fails (beginning world) (change bytes left) (change old new) (change made makes))
      → Ended status said says told_of_session (Plays asked inputs bytes left old new made makes)
      (Stops asked inputs fails (change bytes left) (change old new) (change made makes))
  Plays-ended fails status said says come ended =
      Ended-more status said says told_of_session (PlaysBy (by_rules inputs asked.goes_on parts) sums (beginning world) bytes left old new made makes)
      (Plays asked inputs bytes left old new made makes)
      (StopsBy (by_rules inputs asked.goes_on parts) sums fails (beginning world) (change bytes left) (change old new) (change made makes))
      (Stops asked inputs fails (change bytes left) (change old new) (change made makes)) (λ zero. Plays-begun come) (Stops-begun fails) ended

-- a session that did not begin
Stops-beginning : (asked : SessionAsked) (inputs : Inputs) (fails : Failures) (bytes old : Option (List ℕ)) (made : Option (List MadeOutput)) (why : SessionError)
    → MatchBool (are_engines asked.engines) (HasNoTemplate asked.template why) (HasNoPress why)
    → Stops asked inputs fails (change bytes bytes) (change old old) (change made made) why
Stops-beginning asked inputs fails bytes old made why none = by_engines (are_engines asked.engines) none where
  by_engines : (some : Bool) → MatchBool some (HasNoTemplate asked.template why) (HasNoPress why)
      → MatchBool some
      ((HasNoTemplate asked.template why × NothingBegan (change bytes bytes) (change old old) (change made made))
      ⊎ StopsWithin asked inputs fails (change bytes bytes) (change old old) (change made made) why)
      (HasNoPress why × NothingBegan (change bytes bytes) (change old old) (change made made))
  by_engines true not_begun = inl (not_begun, (refl, refl, refl))
  by_engines false not_begun = (not_begun, (refl, refl, refl))

pub Ended-beginning : (asked : SessionAsked) (inputs : Inputs) (fails : Failures) (bytes old : Option (List ℕ)) (made : Option (List MadeOutput)) (status : ℕ)
    (said says : Option (List ℕ)) (why : SessionError) → MatchBool (are_engines asked.engines) (HasNoTemplate asked.template why) (HasNoPress why)
    → status ≡ 1 → Tells said says (as_line (told_of_session why))
    → Ended status said says told_of_session (Plays asked inputs bytes bytes old old made made)
    (Stops asked inputs fails (change bytes bytes) (change old old) (change made made))
Ended-beginning asked inputs fails bytes old made status said says why none one told = record {
  done = λ zero. absurd (omega (arith, zero, one));
  stops = λ some. (one, why, told, Stops-beginning asked inputs fails bytes old made why none);
}
