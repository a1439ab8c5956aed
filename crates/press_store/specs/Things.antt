-- Things under their IDs, each temporary or permanent (PCL 5 Printer Language Technical Reference Manual, "Macros": Macro Control
-- command; "The PCL Print Model": Pattern Control command).
use Rattle.std.specs.Prelude.{ℕ, Bool, false, Option, Some, None, option_map, refl}
use Rattle.std.specs.Ordering.{nat_cmp}
use Rattle.std.specs.Coded.{Coded, code_by, coded×, coded_ℕ, coded_bool}
use Rattle.std.specs.FinMap as maps
use Rattle.press_store.specs.declared.entry.Entry.{Entry}

-- Things under their IDs, each with whether it is permanent. A temporary one does not outlive a reset.
abbrev pub Things : Type 0 → Type 0
Things X = maps.FinMap nat_cmp (Entry X)

-- The thing under this ID, if there is one.
abbrev pub found : {X : Type 0} → Things X → (id : ℕ) → Option X
found things id = option_map (λ e. e.value) (maps.get things id)

-- With a thing under this ID, in place of an older one. It is temporary.
abbrev pub stored : {X : Type 0} → Things X → (id : ℕ) → X → Things X
stored things id value = maps.insert things id (record { value = value; permanent = false })

-- With a thing that was found under this ID made permanent or temporary.
abbrev pub found_made : {X : Type 0} → Things X → (id : ℕ) → Bool → Option (Entry X) → Things X
found_made things id permanent None = things
found_made things id permanent (Some e) = maps.insert things id (record { value = e.value; permanent = permanent })

-- With the thing under this ID, if there is one, made permanent or temporary.
abbrev pub made : {X : Type 0} → Things X → (id : ℕ) → (permanent : Bool) → Things X
made things id permanent = found_made things id permanent (maps.get things id)

-- Whether what was found is permanent.
abbrev pub is_permanent : {X : Type 0} → Option (Entry X) → Bool
is_permanent None = false
is_permanent (Some e) = e.permanent

-- The permanent things alone.
abbrev pub permanent_only : {X : Type 0} → Things X → Things X
permanent_only things = maps.retain_keys things (λ id. is_permanent (maps.get things id))

-- What a store holds, and how many more things are sure to have room.
pub record Stored (X : Type 0) : Type 0 where
  pub things : Things X
  pub room : ℕ

-- How things, and what a store holds, are told apart.
abbrev pub entry_code : {X : Type 0} → Coded X → Coded (Entry X)
entry_code {X} code =
    code_by (X × Bool) (coded× code coded_bool) (λ e. (e.value, e.permanent)) (λ p. record { value = p.0; permanent = p.1 }) (λ _. refl)

abbrev pub things_code : {X : Type 0} → Coded X → Coded (Things X)
things_code code = maps.code coded_ℕ (entry_code code)

abbrev pub stored_code : {X : Type 0} → Coded X → Coded (Stored X)
stored_code {X} code =
    code_by (Things X × ℕ) (coded× (things_code code) coded_ℕ) (λ s. (s.things, s.room)) (λ p. record { things = p.0; room = p.1 }) (λ _. refl)
