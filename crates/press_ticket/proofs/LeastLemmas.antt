-- The least of keys that ascend is the first.
use Rattle.std.proofs.Common.{◌≡◌, ℕ, List, [], ◌∷◌, Bool, true, false, if◌then◌else◌, Option, Some, None, String, arith}
use Rattle.std.proofs.Common.{Global, Less, string_bytes, string_cmp, nat_cmp, refl, sym, ap}
use Rattle.std.specs.Cmp.Lexicographic.{slice_cmp}
use Rattle.std.specs.List.{AllByRecursion}
use Rattle.std.specs.List.Sorted.{IsStrictlySortedBy}
use Rattle.std.specs.Map.{keys_of}
use Rattle.std.specs.Option.{IfSome}
use Rattle.serde_json.specs.View.{members_view}
use Rattle.serde_json.specs.declared.value.Value.{Value}
use Rattle.press_ticket.specs.Members.{is_ticket_key, lesser, least_unknown}

abbrev pub Entry : Type 0
Entry = String Global × Value

-- the first key that no ticket has
abbrev pub first_unknown : List Entry → Option (List ℕ)
first_unknown [] = None
first_unknown (m ∷ ms) = if is_ticket_key (string_bytes m.0) then first_unknown ms else Some (string_bytes m.0)

abbrev IsBelow : List ℕ → Option (List ℕ) → Type 0
IsBelow key o = IfSome o (λ other. slice_cmp nat_cmp key other ≡ Less)

below_least : (key : List ℕ) (ms : List Entry) → AllByRecursion (λ k. slice_cmp nat_cmp key (string_bytes k) ≡ Less) (keys_of ms) → IsBelow key (least_unknown (members_view ms))
below_least key [] h = tt
below_least key (m ∷ ms) h = grind (arith, below_least key ms h.1)

lesser_below : (key : List ℕ) (o : Option (List ℕ)) → IsBelow key o → lesser key o ≡ key
lesser_below key o h = grind arith

pub first_is_least : (ms : List Entry) → IsStrictlySortedBy string_cmp (keys_of ms) → first_unknown ms ≡ least_unknown (members_view ms)
unfolding IsStrictlySortedBy
first_is_least [] sorted = refl
first_is_least (m ∷ ms) sorted = same (is_ticket_key (string_bytes m.0)) (first_is_least ms sorted.1)
  where
    same : (b : Bool) → first_unknown ms ≡ least_unknown (members_view ms)
        → (if b then first_unknown ms else Some (string_bytes m.0)) ≡ (if b then least_unknown (members_view ms) else Some (lesser (string_bytes m.0) (least_unknown (members_view ms))))
    same true rest = rest
    same false rest = ap Some (sym (lesser_below (string_bytes m.0) (least_unknown (members_view ms)) (below_least (string_bytes m.0) ms sorted.0)))
