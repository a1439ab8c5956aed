-- Lines that are answered, some after others, and what is seen of a talk.
use Rattle.std.proofs.Common.{◌≡◌, ◌∙◌, ℕ, List, [], ◌∷◌, ◌++◌, true, false, Option, Ok, Err, refl, sym, ap, subst, inl, inr, arith}
use Rattle.std.specs.declared.io.Error.{Error}
use Rattle.std.specs.Io.KnownBytes.{Consumes, Appends}
use Rattle.std.proofs.KnownBytes.{Appends-trans, Consumes-trans}
use Rattle.std.proofs.lemmas.List.{append_assoc, append-nil}
use Rattle.press_asm.specs.Text.{lines_of}
use Rattle.press_files.specs.Change.{Change, change}
use Rattle.press_files.specs.declared.inputs.InputError.{InputError}
use Rattle.press_files.specs.Talking.{Talking, caused, line_by_line, AnswersLines, AnswersAll, AnswersSome, StopsAtLine, StopsBehind}
use Rattle.press_files.specs.LineReading.{GivesLine}
use Rattle.press_files.proofs.LineLemmas.{next-line, reads-no-more}

-- ---- lines, and then others

module _ {S : Type 0} (Answers : S → List ℕ → List ℕ → S → Type 0) where
  AnswersLines-append : (lines others : List (List ℕ)) (old : S) (answers : List ℕ) (mid : S) (more : List ℕ) (new : S)
      → AnswersLines Answers lines old answers mid → AnswersLines Answers others mid more new → AnswersLines Answers (lines ++ others) old (answers ++ more) new
  AnswersLines-append [] others old answers mid more new (none, same) second = grind arith
  AnswersLines-append (line ∷ lines) others old answers mid more new (answer, rest, next, does, answered, are) second =
      grind (arith, append_assoc, AnswersLines-append lines others next rest mid more new answered second)

  pub AnswersLines-one : (line : List ℕ) (old : S) (answer : List ℕ) (new : S) → Answers old line answer new → AnswersLines Answers (line ∷ []) old answer new
  AnswersLines-one line old answer new does = (answer, [], new, does, (refl, refl), sym (append-nil answer))

-- The lines so far were answered: what was read behind them is held.
pub record IsAnswered {S : Type 0} (Answers : S → List ℕ → List ℕ → S → Type 0) (first : S) (had left old : Option (List ℕ)) (held : List ℕ) (now : S) (between : Option (List ℕ)) : Type 0 where
  pub text : List ℕ
  pub lines : List (List ℕ)
  pub answers : List ℕ
  pub read : Consumes had left text
  pub cut : (more : List ℕ) → lines_of (text ++ more) ≡ lines ++ lines_of (held ++ more)
  pub answered : AnswersLines Answers lines first answers now
  pub written : Appends old between answers

module _ {S : Type 0} (Answers : S → List ℕ → List ℕ → S → Type 0) (first : S) (had old : Option (List ℕ)) where
  module _ (left : Option (List ℕ)) (held : List ℕ) (mid : S) (written rest : Option (List ℕ)) (holds line : List ℕ) (so_far : IsAnswered Answers first had left old held mid written) where
    -- the next line
    pub IsAnswered-more : (new : S) (out : Option (List ℕ)) → GivesLine (Ok true) held holds left rest line
        → (answer : List ℕ) × Answers mid line answer new × Appends written out answer
        → IsAnswered Answers first had rest old holds new out
    IsAnswered-more new out given (answer, does, appends) =
        let read = given.0 in
        record {
          text = so_far.text ++ read;
          lines = so_far.lines ++ line ∷ [];
          answers = so_far.answers ++ answer;
          read = Consumes-trans had left rest so_far.text read so_far.read given.1;
          cut = λ more.
              ap lines_of (append_assoc so_far.text read more) ∙ so_far.cut (read ++ more)
              ∙ next-line line (holds ++ more) so_far.lines (held ++ (read ++ more)) given.2
              (sym (append_assoc held read more) ∙ ap (λ (all : List ℕ). all ++ more) given.3 ∙ append_assoc line (10 ∷ holds) more);
          answered = AnswersLines-append Answers so_far.lines (line ∷ []) first so_far.answers mid answer new so_far.answered (AnswersLines-one Answers line mid answer new does);
          written = Appends-trans old written out so_far.answers answer so_far.written appends;
        }

    -- the lines of all that was read, the last without a line feed
    all_lines : (given : GivesLine (Ok false) held holds left rest line) → lines_of (so_far.text ++ given.0) ≡ so_far.lines ++ lines_of line
    all_lines given = so_far.cut given.0 ∙ ap (λ (some : List ℕ). so_far.lines ++ lines_of some) given.3

    module _ {E : Type 0} (Refuses : S → List ℕ → E → S → Type 0) (Unread : InputError → E → Type 0) (Unwritten : Error → E → Type 0) where
      -- the last line, if there is one
      pub IsAnswered-ends : (last : List (List ℕ)) (new : S) (out : Option (List ℕ)) → GivesLine (Ok false) held holds left rest line → lines_of line ≡ last
          → (answer : List ℕ) × AnswersLines Answers last mid answer new × Appends written out answer
          → (answered : AnswersAll (line_by_line Answers Refuses Unread Unwritten) first had rest old out) × (answered.last ≡ new)
      IsAnswered-ends last new out given are (answer, does, appends) =
          let is : lines_of (so_far.text ++ given.0) ≡ so_far.lines ++ last = all_lines given ∙ ap (λ (more : List (List ℕ)). so_far.lines ++ more) are in
          let answered = AnswersLines-append Answers so_far.lines last first so_far.answers mid answer new so_far.answered does in (
            record {
              text = so_far.text ++ given.0;
              last = new;
              answers = so_far.answers ++ answer;
              read = record { lost = Consumes-trans had left rest so_far.text given.0 so_far.read given.1; at_end = given.4 };
              takes = subst (λ (lines : List (List ℕ)). AnswersLines Answers lines first (so_far.answers ++ answer) new) (sym is) answered;
              written = Appends-trans old written out so_far.answers answer so_far.written appends;
            },
            refl,
          )

      -- the talk stopped in this state
      abbrev pub StopsIn : (out : Option (List ℕ)) (why : E) → S → Type 0
      StopsIn out why ended =
          (some : AnswersSome (line_by_line Answers Refuses Unread Unwritten) first had rest (change old out) why) × (some.ended ≡ ended)

      stops_behind : (read : List ℕ) (out : Option (List ℕ)) (why : E) (ended : S) → Consumes left rest read
          → StopsBehind (line_by_line Answers Refuses Unread Unwritten) (so_far.text ++ read) so_far.lines mid ended (change written out) why
          → StopsIn out why ended
      stops_behind read out why ended lost stops = (
        record {
          text = so_far.text ++ read;
          lines = so_far.lines;
          last = mid;
          ended = ended;
          answers = so_far.answers;
          between = written;
          read = Consumes-trans had left rest so_far.text read so_far.read lost;
          takes = so_far.answered;
          written = so_far.written;
          stops = stops;
        },
        refl,
      )

      -- no line was read
      pub IsAnswered-unread : (error : InputError) (why : E) → Unread error why → GivesLine (Err error) held holds left rest line
          → StopsIn written why mid
      IsAnswered-unread error why is given =
          let last = reads-no-more error held holds left rest line so_far.text so_far.lines so_far.cut given in
          stops_behind last.0 written why mid last.1 (inr (error, is, last.2, refl, refl))

      -- a line was not answered
      pub IsAnswered-stops : (out : Option (List ℕ)) (why : E) (ended : S) → GivesLine (Ok true) held holds left rest line
          → StopsAtLine (line_by_line Answers Refuses Unread Unwritten) line mid ended written out why → StopsIn out why ended
      IsAnswered-stops out why ended given stops =
          stops_behind given.0 out why ended given.1 (inl (line, (lines_of holds, so_far.cut given.0 ∙ next-line line holds so_far.lines (held ++ given.0) given.2 given.3), stops))

      -- the last line was not answered
      pub IsAnswered-stops_last : (out : Option (List ℕ)) (why : E) (ended : S) → GivesLine (Ok false) held holds left rest line
          → lines_of line ≡ line ∷ [] → StopsAtLine (line_by_line Answers Refuses Unread Unwritten) line mid ended written out why
          → StopsIn out why ended
      IsAnswered-stops_last out why ended given one stops =
          stops_behind given.0 out why ended given.1
          (inl (line, ([], all_lines given ∙ ap (λ (more : List (List ℕ)). so_far.lines ++ more) one ∙ sym (append-nil (so_far.lines ++ line ∷ []))), stops))

-- ---- what is seen of a talk

-- What is said of a talk holds as well of what is seen of it: of lines, of one more, and of why there is no answer.
pub record IsSeen {S T E : Type 0} (talk : Talking S E) (shown : Talking T E) (seen : S → T) (first : S) : Type 0 where
  pub takes : (lines : List (List ℕ)) (answers : List ℕ) (last : S) → talk.Takes lines first answers last → shown.Takes lines (seen first) answers (seen last)
  pub line : (lines : List (List ℕ)) (answers : List ℕ) (last : S) → talk.Takes lines first answers last
      → (line answer : List ℕ) (next : S) → talk.Takes (line ∷ []) last answer next → shown.Takes (line ∷ []) (seen last) answer (seen next)
  pub refuses : (lines : List (List ℕ)) (answers : List ℕ) (last : S) → talk.Takes lines first answers last → (line : List ℕ) (why : E)
      (ended : S) → talk.Refuses last line why ended → shown.Refuses (seen last) line why (seen ended)
  pub unread : (error : InputError) (why : E) → talk.Unread error why → shown.Unread error why
  pub unwritten : (error : Error) (why : E) → talk.Unwritten error why → shown.Unwritten error why

-- the same where it is also said why lines are not read, and answers not written
pub IsSeen-caused : {S T E : Type 0} {talk : Talking S E} {shown : Talking T E} {seen : S → T} {first : S}
    (Unreads : InputError → Type 0) (Unwrites : Type 0) → IsSeen talk shown seen first
    → IsSeen (caused talk Unreads Unwrites) (caused shown Unreads Unwrites) seen first
IsSeen-caused Unreads Unwrites is = grind arith

module _ {S T E : Type 0} {talk : Talking S E} {shown : Talking T E} {seen : S → T} {first : S} (is : IsSeen talk shown seen first) (had left old new : Option (List ℕ)) where
  abbrev pub AnswersAll-seen : AnswersAll talk first had left old new → AnswersAll shown (seen first) had left old new
  AnswersAll-seen all =
      record { text = all.text; last = seen all.last; answers = all.answers; read = all.read; takes = is.takes (lines_of all.text) all.answers all.last all.takes; written = all.written }

  pub StopsBehind-seen : (lines : List (List ℕ)) (answers : List ℕ) (last ended : S) → talk.Takes lines first answers last
      → (text : List ℕ) (output : Change (Option (List ℕ))) (why : E) → StopsBehind talk text lines last ended output why
      → StopsBehind shown text lines (seen last) (seen ended) output why
  StopsBehind-seen lines answers last ended takes text output why h2 = grind arith

  abbrev pub AnswersSome-seen : (why : E) → AnswersSome talk first had left (change old new) why → AnswersSome shown (seen first) had left (change old new) why
  AnswersSome-seen why some = record {
    text = some.text;
    lines = some.lines;
    last = seen some.last;
    ended = seen some.ended;
    answers = some.answers;
    between = some.between;
    read = some.read;
    takes = is.takes some.lines some.answers some.last some.takes;
    written = some.written;
    stops = StopsBehind-seen some.lines some.answers some.last some.ended some.takes some.text (change some.between new) why some.stops;
  }
