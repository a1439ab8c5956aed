-- A sheet that is delivered once more.
use Rattle.std.proofs.Common.{◌≡◌, ◌∙◌, ◌-◌, suc, List, [], ◌∷◌, ◌++◌, length, map, slice_get, Option, Some, option_map, refl, sym, ap, arith}
use Rattle.std.proofs.Common.{Result, OnOk, OnErr, IfErr}
use Rattle.press_sink.specs.SinkLog.{Delivers}
use Rattle.press_sink.specs.declared.fault.SinkError.{SinkError}
use Rattle.press_sink.specs.declared.fault.SinkError.TheVariants.{NoMemory}
use Rattle.press_sink.specs.declared.delivery.Delivery.{Delivery}
use Rattle.press_files.specs.Listed.{last_of}

-- the last of a list that is seen so
last-seen : {A : Type 0} (seen : A → Delivery) (kept : List A) (last : A) (all : List Delivery) (one : Delivery)
    → Some last ≡ slice_get kept (length kept - 1) → map seen kept ≡ all ++ one ∷ [] → seen last ≡ one
last-seen seen [] last all one is sees = absurd cc
last-seen seen (item ∷ []) last [] one is sees = cc
last-seen seen (item ∷ []) last (first ∷ []) one is sees = absurd cc
last-seen seen (item ∷ []) last (first ∷ second ∷ all) one is sees = absurd cc
last-seen seen (item ∷ next ∷ kept) last [] one is sees = absurd cc
last-seen seen (item ∷ next ∷ kept) last (first ∷ all) one is sees =
    let place : length (item ∷ next ∷ kept) - 1 ≡ suc (length (next ∷ kept) - 1) = omega arith in
    let rest : map seen (next ∷ kept) ≡ all ++ one ∷ [] = cc in
    last-seen seen (next ∷ kept) last all one (is ∙ ap (slice_get (item ∷ next ∷ kept)) place) rest

-- the last of those that were delivered
last_of-push : (all : List Delivery) (one : Delivery) → last_of (all ++ one ∷ []) ≡ Some one
last_of-push [] one = refl
last_of-push (first ∷ []) one = refl
last_of-push (first ∷ second ∷ all) one = last_of-push (second ∷ all) one

pub last-taken : (taken taken' : List Delivery) (one : Delivery) → taken' ≡ taken ++ one ∷ [] → Some one ≡ last_of taken'
last-taken taken taken' one is = sym (ap last_of is ∙ last_of-push taken one)

pub kept-last : (last one : Delivery) (taken : List Delivery) (before : Option (List Delivery)) → Some last ≡ last_of taken
    → Some taken ≡ option_map (λ all. all ++ one ∷ []) before → last ≡ one
kept-last last one taken before kept took = grind (arith, last_of-push)

-- a sheet was listed that is this one, or memory ran out
pub delivers-listed : (result : Result (Unit {0}) SinkError) (taken taken' : List Delivery) (listed one : Delivery) → listed ≡ one
    → OnOk result (taken' ≡ taken ++ listed ∷ []) → OnErr result (taken' ≡ taken) → IfErr result (λ error. error ≡ NoMemory)
    → Delivers (record { delivered = Some taken; faults = 0 }) one result (record { delivered = Some taken'; faults = 0 })
delivers-listed result taken taken' listed one same ok err memory = grind arith

-- what a sink tells that it took last is the last that it keeps
pub told-last : {A : Type 0} (seen : A → Delivery) (kept : List A) (last : A) (one : Delivery) (before : Option (List Delivery))
    → Some last ≡ slice_get kept (length kept - 1) → Some (map seen kept) ≡ option_map (λ all. all ++ one ∷ []) before → seen last ≡ one
told-last seen kept last one before is took = grind (arith, last-seen)
