-- Steps of a job, one after another.
use Rattle.std.proofs.Common.{◌≡◌, ◌∙◌, ◌+◌, ◌≤◌, ◌↔◌, ℕ, List, [], ◌∷◌, ◌++◌, length, Bool, true, false, Option}
use Rattle.std.proofs.Common.{Some, None, IfSome, IsSome, IsTrue, IsFalse, Ok, refl, sym, ap, subst, inl, inr, arith}
use Rattle.std.proofs.lemmas.Bool.{false≢true, true≢false}
use Rattle.std.proofs.lemmas.List.{append_assoc}
use Rattle.press_cmd.specs.declared.variant.Kind.{Kind}
use Rattle.press_engine.specs.declared.step_output.StepOutput.{StepOutput}
use Rattle.press_engine.specs.declared.machine.Last.{Last}
use Rattle.press_engine.specs.declared.machine.Last.TheVariants as lasts
use Rattle.press_engine.specs.declared.machine.Machine.{Machine}
use Rattle.press_engine.specs.Engine.{IsOfKind}
use Rattle.press_engine.specs.Machine.{StepResult}
use Rattle.press_engine.specs.Trace.{last_machine}
use Rattle.press_table.specs.Outputs.{all_outputs}
use Rattle.press_stream.specs.declared.step.JobStep.{JobStep}
use Rattle.press_stream.specs.declared.step.JobStep.TheVariants as steps
use Rattle.press_stream.specs.Answers.{TakesStep}
use Rattle.press_stream.specs.Steps.{Does, DoesStep}
use Rattle.press_stream.specs.Left.{LeftOf, LeftGoesOn}
use Rattle.press_stream.specs.State.{JobState, IsOver}
use Rattle.press_stream.proofs.Going.{same_some, some_of, taken-ended}
use Rattle.press_stream.proofs.Items.{last-append}
use Rattle.press_stream.proofs.ItemsLeft.{items_left, LeftOf-one, LeftOf-some}
use Rattle.press_stream.proofs.LeftLemmas.{left_before}
use Rattle.circular_buffer.specs.Buffer.{Buffer, buffer, keep_last}
use Rattle.press_debug.specs.Steps.{DebuggerState, Advances, EndsOutside, IsOutside, IsSound, Remains, RanOut, kind_taken, kinds_of, with_kinds}
use Rattle.press_debug.proofs.Tables.{keep_last-twice, keep_last-all, keep_last-few}

-- ---- one step

kind_once : (last : Last) (kind : Kind) → IsOfKind last kind → kind ∷ [] ≡ kind_taken last ++ []
kind_once lasts.Nothing kind is = absurd is
kind_once (lasts.Ran one) kind is = ap (λ (k : Kind). k ∷ []) is
kind_once (lasts.Recorded one) kind is = ap (λ (k : Kind). k ∷ []) is
kind_once (lasts.Refused one refusal) kind is = ap (λ (k : Kind). k ∷ []) is

pub Advances-one : LeftGoesOn → (old new : JobState) (item : StepResult) (kind : Kind) (recent last : List Kind) → Does old item kind new
    → last ≡ keep_last 64 (recent ++ kind ∷ [])
    → Advances (record { job = old; recent = recent }) (item ∷ []) (record { job = new; recent = last })
Advances-one law old new item kind recent last did kept = record {
  from = did.from;
  starts = did.starts;
  ends = did.ends;
  left = λ all is. let on = law.does old new item kind [] all is did in (on.others, on.are, on.still);
  recent = kept ∙ ap (λ (kinds : List Kind). keep_last 64 (recent ++ kinds)) (kind_once item.machine.last kind did.is_kind);
}

pub Advances-none : (now : DebuggerState) (from : Machine) → now.job.machine ≡ Some from → length now.recent ≤ 64 → Advances now [] now
Advances-none now from starts few = record {
  from = from;
  starts = starts;
  ends = starts;
  left = λ all is. (all, refl, is);
  recent = keep_last-all 64 now.recent few;
}

-- ---- and then others

kinds_of-append : (items others : List StepResult) → kinds_of (items ++ others) ≡ kinds_of items ++ kinds_of others
kinds_of-append [] others = refl
kinds_of-append (item ∷ items) others =
    ap (λ (kinds : List Kind). kind_taken item.machine.last ++ kinds) (kinds_of-append items others)
    ∙ sym (append_assoc (kind_taken item.machine.last) (kinds_of items) (kinds_of others))

pub with_kinds-append : (recent : List Kind) (items others : List StepResult) → with_kinds (with_kinds recent items) others ≡ with_kinds recent (items ++ others)
with_kinds-append recent items others =
    keep_last-twice 64 (recent ++ kinds_of items) (kinds_of others)
    ∙ ap (keep_last 64) (append_assoc recent (kinds_of items) (kinds_of others) ∙ ap (λ (kinds : List Kind). recent ++ kinds) (sym (kinds_of-append items others)))

pub Advances-then : (old between new : DebuggerState) (items others : List StepResult) → (first : Advances old items between) → Advances between others new → Advances old (items ++ others) new
Advances-then old between new items others first second =
    let at = last_machine first.from items in
    let same : second.from ≡ at = same_some between.job.machine second.from at second.starts first.ends in
    record {
      from = first.from;
      starts = first.starts;
      ends = second.ends ∙ ap (λ (machine : Machine). Some (last_machine machine others)) same ∙ ap (λ (machine : Machine). Some machine) (sym (last-append items others first.from));
      left = λ all is.
          let mid = first.left all is in
          let end = second.left mid.0 mid.2 in
          (end.0, mid.1 ∙ ap (λ (more : List StepResult). items ++ more) end.1 ∙ sym (append_assoc items others end.0), end.2);
      recent = second.recent ∙ ap (λ (kinds : List Kind). with_kinds kinds others) first.recent ∙ with_kinds-append old.recent items others;
    }

-- items were taken, and then memory ran out
pub RanOut-then : (old between new : DebuggerState) (items : List StepResult) → Advances old items between → RanOut between new → RanOut old new
RanOut-then old between new items first (none, inl may) = (none, inr (items, between, first, may))
RanOut-then old between new items first (none, inr (others, last, second, may)) =
    (none, inr (items ++ others, last, Advances-then old between last items others first second, may))

-- ---- the last of what is left has no running body

pub EndsOutside-after : (old new : JobState) (item : StepResult) (kind : Kind) → Does old item kind new → EndsOutside old → EndsOutside new
EndsOutside-after old new item kind did outside = λ items is.
    let same : is.from ≡ item.machine = same_some new.machine is.from item.machine is.starts did.ends in
    ap (λ (machine : Machine). (last_machine machine items).depth) same
    ∙ outside (item ∷ items) (left_before old new item kind [] items is did)

pub outside_over : LeftGoesOn → (job : JobState) (machine : Machine) → EndsOutside job → IsOver job → job.machine ≡ Some machine → machine.depth ≡ 0
outside_over law job machine outside over is =
    let some = LeftOf-some job machine is in
    let none = law.over job [] (items_left job) over some in
    let same : machine ≡ some.from = same_some job.machine machine some.from is some.starts in
    ap (λ (at : Machine). at.depth) same
    ∙ ap (λ (items : List StepResult). (last_machine some.from items).depth) (sym none) ∙ outside (items_left job) some

-- ---- a step leaves one item fewer

pub fewer_left : (old new : DebuggerState) (item : StepResult) → Advances old (item ∷ []) new → length (items_left new.job) + 1 ≤ length (items_left old.job)
fewer_left old new item advances =
    let before = LeftOf-some old.job advances.from advances.starts in
    let after = LeftOf-some new.job item.machine advances.ends in
    let rest = advances.left (items_left old.job) before in
    let same = LeftOf-one new.job rest.0 (items_left new.job) rest.2 after in
    omega (arith, ap length rest.1, ap length same)

-- ---- where no step is left

pub Advances-if : (now : DebuggerState) → length now.recent ≤ 64 → IfSome now.job.machine (λ _. Advances now [] now)
Advances-if now few = by now.job.machine refl where
  by : (o : Option Machine) → now.job.machine ≡ o → IfSome o (λ _. Advances now [] now)
  by None is = tt
  by (Some machine) is = Advances-none now machine is few

pub Advances-nothing : (now : DebuggerState) → length now.recent ≤ 64 → IsOver now.job → Advances now [] now
Advances-nothing now few over =
    let some = some_of now.job.machine over.running in
    Advances-none now some.0 some.1 few

pub IsOutside-over : LeftGoesOn → (job : JobState) → EndsOutside job → IsOver job → IsOutside job
IsOutside-over law job outside over = λ machine is. outside_over law job machine outside over is

pub remains : (over : Bool) (job : JobState) → ((items : List StepResult) → LeftOf job items → IsTrue over ↔ (items ≡ [])) → IsFalse over → Remains job
remains true job tells is_not = absurd (true≢false is_not)
remains false job tells is_not = λ items is none. absurd (false≢true ((tells items is).1 none))

-- ---- what is true of a job stays true

pub IsSound-ran : (old new : JobState) (answer : JobStep) (step : StepOutput) (recent last : Buffer Kind) (failed : Bool) → IsSound old recent failed
    → answer ≡ steps.Ran step → TakesStep old (Ok answer) new → last ≡ buffer (keep_last recent.capacity (recent.items ++ step.kind ∷ [])) recent.capacity → IsSound new last failed
IsSound-ran old new answer step recent last failed sound is takes kept =
    let (machine, did) : DoesStep old step new = rw is at takes in
    let kinds = recent.items ++ step.kind ∷ [] in
    record {
      running = λ _. subst IsSome (sym did.ends) refl;
      lost = λ was. absurd (none_some (sym (sound.lost was) ∙ did.starts));
      ended = λ was_not. taken-ended old new did.given did.takes ∙ sound.ended was_not;
      outside = EndsOutside-after old new _ step.kind did sound.outside;
      capacity = ap (λ (ring : Buffer Kind). ring.capacity) kept ∙ sound.capacity;
      few =
          subst (λ (ring : Buffer Kind). length ring.items ≤ 64) (sym kept)
          (subst (λ (n : ℕ). length (keep_last n kinds) ≤ 64) (sym sound.capacity) (keep_last-few 64 kinds));
    }
  where
    none_some : {X : Type 0} {x : X} → None ≡ Some x → ⊥
    none_some e = cc

pub takes_one : LeftGoesOn → (old new : JobState) (answer : JobStep) (step : StepOutput) (recent last : Buffer Kind) (now : DebuggerState)
    → record { job = old; recent = recent.items } ≡ now → recent.capacity ≡ 64
    → answer ≡ steps.Ran step → TakesStep old (Ok answer) new → last ≡ buffer (keep_last recent.capacity (recent.items ++ step.kind ∷ [])) recent.capacity
    → (item : StepResult) × Advances now (item ∷ []) (record { job = new; recent = last.items })
takes_one law old new answer step recent last now same capacity is takes kept =
    let (machine, did) : DoesStep old step new = rw is at takes in
    let item : StepResult = record { machine = machine; outputs = all_outputs step.sent.items } in
    let kinds : last.items ≡ keep_last 64 (recent.items ++ step.kind ∷ []) = ap (λ (ring : Buffer Kind). ring.items) kept ∙ ap (λ (n : ℕ). keep_last n (recent.items ++ step.kind ∷ [])) capacity in
    (item, subst (λ (from : DebuggerState). Advances from (item ∷ []) (record { job = new; recent = last.items })) same (Advances-one law old new item step.kind recent.items last.items did kinds))

-- ---- where a step found nothing

pub takes_none : (old new : JobState) (answer : JobStep) (recent : Buffer Kind) (now : DebuggerState) → record { job = old; recent = recent.items } ≡ now → length recent.items ≤ 64
    → answer ≡ steps.Ended → TakesStep old (Ok answer) new → Advances now [] (record { job = new; recent = recent.items })
takes_none old new answer recent now same few is takes =
    let (over, kept) : IsOver old × (new ≡ old) = rw is at takes in
    let standing : DebuggerState = record { job = old; recent = recent.items } in
    let none : Advances standing [] standing = Advances-nothing standing few over in
    let stays : Advances standing [] (record { job = new; recent = recent.items }) = subst (λ (job : JobState). Advances standing [] (record { job = job; recent = recent.items })) (sym kept) none in
    subst (λ (from : DebuggerState). Advances from [] (record { job = new; recent = recent.items })) same stays

pub outside_none : LeftGoesOn → (old new : JobState) (answer : JobStep) → EndsOutside old → answer ≡ steps.Ended → TakesStep old (Ok answer) new → IsOutside new
outside_none law old new answer outside is takes =
    let (over, kept) : IsOver old × (new ≡ old) = rw is at takes in
    subst IsOutside (sym kept) (IsOutside-over law old outside over)

-- ---- facts of a machine that is there

pub at_machine : (o : Option Machine) (P : Machine → Type 0) (machine : Machine) → o ≡ Some machine → IfSome o P → P machine
at_machine o P machine is holds = subst (λ (one : Option Machine). IfSome one P) is holds

pub where_running : (o : Option Machine) (P : Type 0) → IsSome o → IfSome o (λ _. P) → P
where_running (Some machine) P running holds = holds
where_running None P running holds = absurd (false≢true running)
