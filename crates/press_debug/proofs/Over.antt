-- Steps to the first state of no greater depth.
use Rattle.std.proofs.Common.{◌≡◌, ◌∙◌, ◌+◌, ◌<◌, ◌≤◌, ℕ, List, [], ◌∷◌, ◌++◌, length, Some, IfSome, refl, sym, ap, subst, inl, arith}
use Rattle.std.proofs.lemmas.List.Elements.{All-nil, All-cons, All-append}
use Rattle.std.specs.List.{All}
use Rattle.press_engine.specs.declared.machine.Machine.{Machine}
use Rattle.press_engine.specs.Machine.{StepResult}
use Rattle.press_stream.specs.State.{IsOver}
use Rattle.press_debug.specs.declared.stepper.Taken.{Taken}
use Rattle.press_debug.specs.declared.stepper.Taken.TheVariants as answers
use Rattle.press_debug.specs.Steps.{DebuggerState, Advances, TakesOne, TakesOver, IsOutside, IsDeeper, IsBack, RanOut}
use Rattle.press_stream.proofs.Going.{same_some}
use Rattle.press_stream.proofs.Items.{last-append}
use Rattle.press_stream.proofs.ItemsLeft.{items_left, items_left-none}
use Rattle.press_debug.proofs.Taking.{Advances-then, RanOut-then, fewer_left, at_machine}

-- steps were taken, all but the last to deeper states
pub record ReachesOne (old new : DebuggerState) : Type 0 where
  pub passed : List StepResult
  pub here : StepResult
  pub advances : Advances old (passed ++ here ∷ []) new
  pub deeper : All (λ item. advances.from.depth < item.machine.depth) passed

abbrev pub Reaches : DebuggerState → Taken → DebuggerState → Type 0
Reaches old answers.Steps new = ReachesOne old new
Reaches old answers.Nothing new = IsOver old.job × (new ≡ old)
Reaches old answers.Fault new = RanOut old new

-- the machine now is that of the last item
here_is : (old now : DebuggerState) (reaches : ReachesOne old now) → now.job.machine ≡ Some reaches.here.machine
here_is old now reaches =
    reaches.advances.ends ∙ ap (λ (machine : Machine). Some machine) (last-append reaches.passed (reaches.here ∷ []) reaches.advances.from)

depth_before : (old now : DebuggerState) (reaches : ReachesOne old now) (depth : ℕ) → IfSome old.job.machine (λ machine. depth ≡ machine.depth) → depth ≡ reaches.advances.from.depth
depth_before old now reaches depth shown = at_machine old.job.machine (λ machine. depth ≡ machine.depth) reaches.advances.from reaches.advances.starts shown

pub begins : (old new : DebuggerState) (taken : Taken) → TakesOne old taken new → Reaches old taken new
begins old new answers.Steps (item, advances) =
    record { passed = []; here = item; advances = advances; deeper = All-nil (λ item. advances.from.depth < item.machine.depth) }
begins old new answers.Nothing takes = takes
begins old new answers.Fault (none, may) = (none, inl may)

one_more : (old mid new : DebuggerState) (item : StepResult) (reaches : ReachesOne old mid)
    → reaches.advances.from.depth < reaches.here.machine.depth → Advances mid (item ∷ []) new → ReachesOne old new
one_more old mid new item reaches here advances =
    let these = reaches.passed ++ reaches.here ∷ [] in
    let P : Machine → StepResult → Type 0 = λ from one. from.depth < one.machine.depth in
    let from = reaches.advances.from in
    let all : Advances old (these ++ item ∷ []) new = Advances-then old mid new these (item ∷ []) reaches.advances advances in
    let deeper : All (P from) these = All-append (P from) reaches.passed (reaches.here ∷ []) reaches.deeper (All-cons (P from) reaches.here [] here (All-nil (P from))) in
    record {
      passed = these;
      here = item;
      advances = all;
      deeper = subst (λ (at : Machine). All (P at) these) (same_some old.job.machine from all.from reaches.advances.starts all.starts) deeper;
    }

-- the last state is deeper, and one more step was taken
goes_on : (old mid new : DebuggerState) (taken : Taken) (depth : ℕ) → ReachesOne old mid
    → IfSome old.job.machine (λ machine. depth ≡ machine.depth) → IsDeeper mid.job depth
    → TakesOne mid taken new → (taken ≡ answers.Nothing → IsOutside new.job) → Reaches old taken new
goes_on old mid new answers.Steps depth reaches before deeper (item, advances) outside =
    let here = at_machine mid.job.machine (λ machine. depth < machine.depth) reaches.here.machine (here_is old mid reaches) deeper in
    one_more old mid new item reaches (omega (arith, here, depth_before old mid reaches depth before)) advances
goes_on old mid new answers.Nothing depth reaches before deeper (over, same) outside =
    let here = at_machine mid.job.machine (λ machine. depth < machine.depth) reaches.here.machine (here_is old mid reaches) deeper in
    let none = outside refl reaches.here.machine (ap (λ (standing : DebuggerState). standing.job.machine) same ∙ here_is old mid reaches) in
    absurd (omega (arith, none, here))
goes_on old mid new answers.Fault depth reaches before deeper (none, may) outside =
    RanOut-then old mid new (reaches.passed ++ reaches.here ∷ []) reaches.advances (none, inl may)

pub goes_further : (old mid new : DebuggerState) (last taken : Taken) (depth : ℕ) → last ≡ answers.Steps → Reaches old last mid
    → IfSome old.job.machine (λ machine. depth ≡ machine.depth) → IsDeeper mid.job depth
    → TakesOne mid taken new → (taken ≡ answers.Nothing → IsOutside new.job) → Reaches old taken new
goes_further old mid new last taken depth is reaches before deeper takes outside =
    goes_on old mid new taken depth (subst (λ (one : Taken). Reaches old one mid) is reaches) before deeper takes outside

pub ends_back : (old new : DebuggerState) (taken : Taken) (depth : ℕ) → Reaches old taken new
    → IfSome old.job.machine (λ machine. depth ≡ machine.depth) → (taken ≡ answers.Steps → IsBack new.job depth) → TakesOver old taken new
ends_back old new answers.Steps depth reaches before back =
    let here = at_machine new.job.machine (λ machine. machine.depth ≤ depth) reaches.here.machine (here_is old new reaches) (back refl) in
    record {
      passed = reaches.passed;
      here = reaches.here;
      advances = reaches.advances;
      deeper = reaches.deeper;
      back = omega (arith, here, depth_before old new reaches depth before);
    }
ends_back old new answers.Nothing depth reaches before back = reaches
ends_back old new answers.Fault depth reaches before back = reaches

-- so many steps are left at most
abbrev steps_flag : Taken → ℕ
steps_flag answers.Steps = 1
steps_flag answers.Nothing = 0
steps_flag answers.Fault = 0

abbrev pub steps_left : Taken → DebuggerState → ℕ
steps_left taken now = length (items_left now.job) + steps_flag taken

one_fewer : (mid new : DebuggerState) (taken : Taken) → TakesOne mid taken new → steps_left taken new < steps_left answers.Steps mid
one_fewer mid new answers.Steps (item, advances) = omega (arith, fewer_left mid new item advances)
one_fewer mid new answers.Nothing (over, same) = omega (arith, ap (λ (standing : DebuggerState). length (items_left standing.job)) same)
one_fewer mid new answers.Fault (none, _) = omega (arith, ap length (items_left-none new.job none))

pub fewer_steps : (mid new : DebuggerState) (last taken : Taken) → last ≡ answers.Steps → TakesOne mid taken new → steps_left taken new < steps_left last mid
fewer_steps mid new last taken is takes = subst (λ (one : Taken). steps_left taken new < steps_left one mid) (sym is) (one_fewer mid new taken takes)
