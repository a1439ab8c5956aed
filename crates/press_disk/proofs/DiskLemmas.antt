-- What stays of a disk, step by step.
use Rattle.std.proofs.Common.{◌≡◌, ◌∙◌, ℕ, List, Option, Some, None, subst}
use Rattle.press_disk.specs.declared.file_number.FileNumber.{FileNumber}
use Rattle.press_disk.specs.Disk.{Between, Disk, KeepsBut}
use Rattle.press_disk.specs.Parts.{IsPartPlace, LeavesFiles}

-- ---- of one step, and of two

pub Between-then : (old middle new : Option Disk) (First Then Both : Disk → Disk → Type 0)
    → ((before between after : Disk) → First before between → Then between after → Both before after)
    → Between old middle First → Between middle new Then → Between old new Both
Between-then None middle new First Then Both both first next = tt
Between-then (Some old) None new First Then Both both first next = absurd first
Between-then (Some old) (Some middle) None First Then Both both first next = absurd next
Between-then (Some old) (Some middle) (Some new) First Then Both both first next = both old middle new first next

pub KeepsBut-weaker : (Few Many : ℕ → Type 0) (old new : Disk) → ((place : ℕ) → Few place → Many place) → KeepsBut Few old new → KeepsBut Many old new
KeepsBut-weaker Few Many old new more keeps = record { places = keeps.places; files = λ place away. keeps.files place (λ few. away (more place few)) }

pub KeepsBut-then : (Changes : ℕ → Type 0) (old middle new : Disk) → KeepsBut Changes old middle → KeepsBut Changes middle new → KeepsBut Changes old new
KeepsBut-then Changes old middle new first next =
    record { places = λ name. next.places name ∙ first.places name; files = λ place away. next.files place away ∙ first.files place away }

-- ---- files that stay

-- the place of a part is one, where no name changes its place
IsPartPlace-moved : (old new : Disk) (place : ℕ) → ((name : List ℕ) → new.place_of name ≡ old.place_of name) → IsPartPlace new place → IsPartPlace old place
IsPartPlace-moved old new place places (name, part, at) = (name, part, at ∙ places name)

pub LeavesFiles-then : (spared : List FileNumber) (old middle new : Disk) → LeavesFiles spared old middle → LeavesFiles spared middle new → LeavesFiles spared old new
LeavesFiles-then spared old middle new first next = record {
  files = KeepsBut-then (IsPartPlace old) old middle new first.files
      (KeepsBut-weaker (IsPartPlace middle) (IsPartPlace old) middle new (λ place is. IsPartPlace-moved old middle place first.files.places is) next.files);
  spares = λ place file away among at. next.spares place file away among (first.spares place file away among at);
}

-- ---- as the calls have it

-- one step more, in which the files stay
pub LeavesFiles-next : (old middle between new : Option Disk) (spared others : List FileNumber) → between ≡ middle → others ≡ spared
    → Between old middle (LeavesFiles spared) → Between between new (LeavesFiles others) → Between old new (LeavesFiles spared)
LeavesFiles-next old middle between new spared others same spare first second =
    let all : Between between new (LeavesFiles spared) = subst (λ (files : List FileNumber). Between between new (LeavesFiles files)) spare second in
    let next : Between middle new (LeavesFiles spared) = subst (λ (disk : Option Disk). Between disk new (LeavesFiles spared)) same all in
    Between-then old middle new (LeavesFiles spared) (LeavesFiles spared) (LeavesFiles spared) (LeavesFiles-then spared) first next
