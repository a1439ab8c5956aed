-- Worked breakpoints, computed: which state meets one, the lowest free number, what is refused, the last kinds.
use Rattle.std.proofs.Common.{◌≡◌, ℕ, ◌==◌, true, false, nat_le, ◌∷◌, List, replicate, slice_set, Option, Some, None, refl, ap}
use Rattle.circular_buffer.specs.Buffer.{keep_last}
use Rattle.press_cmd.specs.declared.variant.Kind.{Kind}
use Rattle.press_cmd.specs.declared.variant.Kind.TheVariants as kinds
use Rattle.press_engine.specs.declared.machine.Last.TheVariants as lasts
use Rattle.press_engine.specs.declared.view.View.{View}
use Rattle.press_debug.specs.declared.breakpoints.Break.{Break}
use Rattle.press_debug.specs.declared.breakpoints.Break.TheVariants as breaks
use Rattle.press_debug.specs.declared.fault.BreakError.TheVariants as errors
use Rattle.press_debug.specs.Breaks.{first_free, is_ran, meets, no_breaks, refusal_number, same_kind, stands}
use Rattle.press_debug.specs.Steps.{most_recent}

-- ---- what a state meets

-- a breakpoint on two sheets: one sheet, two, and three
pub one_sheet_of_two : (view : View) → view.sheets ≡ 1 → meets (breaks.Sheets 2) view ≡ false
one_sheet_of_two view is = ap (nat_le 2) is

pub two_sheets_of_two : (view : View) → view.sheets ≡ 2 → meets (breaks.Sheets 2) view ≡ true
two_sheets_of_two view is = ap (nat_le 2) is

pub three_sheets_of_two : (view : View) → view.sheets ≡ 3 → meets (breaks.Sheets 2) view ≡ true
three_sheets_of_two view is = ap (nat_le 2) is

-- one on step 14: that step, and no other
pub step_14 : (view : View) → view.step ≡ 14 → meets (breaks.Step 14) view ≡ true
step_14 view is = ap (λ (step : ℕ). step == 14) is

pub step_15 : (view : View) → view.step ≡ 15 → meets (breaks.Step 14) view ≡ false
step_15 view is = ap (λ (step : ℕ). step == 14) is

-- par *cP where it was carried out, and not where it was recorded
abbrev fill : Kind
fill = kinds.Param 42 (Some 99) 80

pub a_fill : is_ran fill (lasts.Ran fill) ≡ true
a_fill = refl

pub a_recorded_fill : is_ran fill (lasts.Recorded fill) ≡ false
a_recorded_fill = refl

-- par *cP is neither *bP nor %P, which has no group
pub other_group : same_kind fill (kinds.Param 42 (Some 98) 80) ≡ false
other_group = refl

pub no_group : same_kind (kinds.Param 37 None 65) (kinds.Param 37 None 65) ≡ true
no_group = refl

-- ---- numbers

pub first_number : first_free no_breaks ≡ Some 0
first_number = refl

abbrev full : List (Option Break)
full = replicate 32 (Some (breaks.Step 1))

pub a_33rd : first_free full ≡ None
a_33rd = refl

pub freed_again : first_free (slice_set full 5 None) ≡ Some 5
freed_again = refl

pub none_at_5 : stands no_breaks 5 ≡ false
none_at_5 = refl

pub none_at_32 : stands full 32 ≡ false
none_at_32 = refl

pub too_many : refusal_number errors.TooMany ≡ 501
too_many = refl

pub no_such : refusal_number errors.NoSuch ≡ 502
no_such = refl

-- ---- the last 64 kinds of 65

pub the_oldest_goes : keep_last most_recent (kinds.Escape 69 ∷ replicate 64 (kinds.Control 12)) ≡ replicate 64 (kinds.Control 12)
the_oldest_goes = refl
