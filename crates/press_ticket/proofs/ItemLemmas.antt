-- Lists of JSON values that are no pair.
use Rattle.std.proofs.Common.{◌≡◌, ◌<◌, ◌≤◌, List, [], ◌∷◌, length, None, refl, arith}
use Rattle.serde_json.specs.declared.value.Value.{Value}
use Rattle.serde_json.specs.View.{items_view}
use Rattle.press_ticket.specs.Members.{pair_of}

pub pair_of_short : (vs : List Value) → length vs < 2 → None ≡ pair_of (items_view vs)
pair_of_short [] h = refl
pair_of_short (a ∷ []) h = refl
pair_of_short (a ∷ b ∷ vs) h = absurd (omega arith)

pub pair_of_long : (vs : List Value) → 3 ≤ length vs → None ≡ pair_of (items_view vs)
pair_of_long [] h = absurd (omega arith)
pair_of_long (a ∷ []) h = absurd (omega arith)
pair_of_long (a ∷ b ∷ []) h = absurd (omega arith)
pair_of_long (a ∷ b ∷ c ∷ vs) h = refl
