-- The members of a line behind its first one, in the order of their keys, in four parts.
use Rattle.std.specs.Prelude.{ℕ, List, [], ◌∷◌, ◌++◌, Option, Some, codes}
use Rattle.serde_json.specs.Data.{Data, number, unsigned}
use Rattle.serde_json.specs.Find.{of_integer}
use Rattle.press_units.specs.declared.position.Pos.{Pos}
use Rattle.press_engine.specs.declared.view.View.{View}
use Rattle.press_trace.specs.declared.place.Place.{Place}
use Rattle.press_trace.specs.Lines.{last_told, recorded_told, refused_told, delivered_told, reply_told, steps_told, view_object}

abbrev pub begin_slots : Place → (sheets : ℕ) → (now : View) → List (List ℕ × Option Data)
begin_slots place sheets now =
    (codes "bytes", Some (number (unsigned place.bytes))) ∷ (codes "delivered", delivered_told sheets) ∷ (codes "depth", Some (number (unsigned now.depth))) ∷ (codes "last", last_told now.last) ∷ []

abbrev pub page_slots : (opened page : Option Data) → List (List ℕ × Option Data)
page_slots opened page = (codes "opened", opened) ∷ (codes "page", page) ∷ []

abbrev pub went_slots : (replies : List ℕ) → (now : View) → List (List ℕ × Option Data)
went_slots replies now =
    (codes "recorded", recorded_told now.last) ∷ (codes "refused", refused_told now.last) ∷ (codes "reply", reply_told replies)
    ∷ (codes "sheets", Some (number (unsigned now.sheets))) ∷ []

abbrev pub cursor_slots : (x y : Pos) → List (List ℕ × Option Data)
cursor_slots x y = (codes "x", Some (number (of_integer x.0))) ∷ (codes "y", Some (number (of_integer y.0))) ∷ []

abbrev pub end_slots : (steps : ℕ) → (before : Option View) → (now : View) → List (List ℕ × Option Data)
end_slots steps before now =
    (codes "step", Some (number (unsigned now.step))) ∷ (codes "steps", steps_told steps) ∷ (codes "view", view_object before now)
    ∷ cursor_slots now.x now.y

-- all of them, the first one too
abbrev pub run_slots :
    (steps : ℕ) → Place → (sheets : ℕ) → (replies : List ℕ) → (before : Option View) → (now : View) → (opened page : Option Data)
    → List (List ℕ × Option Data)
run_slots steps place sheets replies before now opened page =
    (codes "at", Some (number (unsigned place.at))) ∷ begin_slots place sheets now ++ (page_slots opened page ++ (went_slots replies now ++ end_slots steps before now))
