-- Arrays of JSON that are written item by item.
use Rattle.std.proofs.Common.{◌≡◌, ◌∙◌, ◌-◌, ◌+◌, ◌<◌, ◌≤◌, ℕ, List, ◌∷◌, ◌++◌, Bool, true, nat_lt, map, sym, ap, append_assoc, arith}
use Rattle.std.specs.List.{range_with_len}
use Rattle.std.proofs.lemmas.Bool.{lt-ltb}
use Rattle.serde_json.specs.Data.{Data, Items, item}
use Rattle.serde_json.specs.View.{items_of}
use Rattle.serde_json.specs.Written.{comma_if, compact_text, items_text}

-- One item more, behind a comma where one stands before it.
pub item_more : (later : Bool) (text new whole : List ℕ) (one : Data) (others : Items) → new ≡ text ++ (comma_if later ++ compact_text one)
    → text ++ items_text later (item one others) ≡ whole → new ++ items_text true others ≡ whole
item_more later text new whole one others appended is = grind (arith, append_assoc)

-- numbers from one on, as long as there is one before an end
pub range_more : {A : Type 0} (f : ℕ → A) (y end : ℕ) → y < end → map f (range_with_len y (end - y)) ≡ f y ∷ map f (range_with_len (y + 1) (end - (y + 1)))
range_more f y end below = grind arith

-- One row more.
pub rows_more : (row : ℕ → Data) (top y bottom : ℕ) (text new whole : List ℕ) → top ≤ y → y < bottom → new ≡ text ++ (comma_if (nat_lt top y) ++ compact_text (row y))
    → text ++ items_text (nat_lt top y) (items_of (map row (range_with_len y (bottom - y)))) ≡ whole
    → new ++ items_text (nat_lt top (y + 1)) (items_of (map row (range_with_len (y + 1) (bottom - (y + 1))))) ≡ whole
rows_more row top y bottom text new whole behind below appended is =
    let others : Items = items_of (map row (range_with_len (y + 1) (bottom - (y + 1)))) in
    ap (λ later. new ++ items_text later others) (lt-ltb top (y + 1) (omega (arith, behind)))
    ∙ item_more (nat_lt top y) text new whole (row y) others appended
    (ap (λ rows. text ++ items_text (nat_lt top y) (items_of rows)) (sym (range_more row y bottom below)) ∙ is)
