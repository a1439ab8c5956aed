-- The members of a line in the order of their keys.
use Rattle.std.proofs.Common.{◌≡◌, ◌∙◌, ℕ, List, [], ◌∷◌, ◌++◌, false, Option, Some, None, codes, sym, ap, append_assoc, arith}
use Rattle.serde_json.specs.Data.{Data, number, unsigned, object, no_members, put}
use Rattle.serde_json.specs.Find.{of_integer}
use Rattle.serde_json.specs.Written.{compact_text}
use Rattle.press_bits.specs.Page.{Page}
use Rattle.press_bits.specs.declared.region.Region.{Region}
use Rattle.press_engine.specs.declared.view.View.{View}
use Rattle.press_trace.specs.declared.place.Place.{Place}
use Rattle.press_trace.specs.LineSlots.{begin_slots, page_slots, went_slots, end_slots, run_slots}
use Rattle.press_trace.specs.Lines.{last_told, recorded_told, refused_told, delivered_told, reply_told, steps_told, view_object, run_members}
use Rattle.press_trace.specs.Pages.{patch_data, patch_slots}
use Rattle.press_trace.specs.Seen.{put_some}
use Rattle.press_trace.specs.Slots.{members_of, member_text, texts_behind, texts_of}
use Rattle.press_trace.proofs.SlotLemmas.{object_text, texts_joined, texts_true}

-- all members that a line may have, each there or not
abbrev slots : (at bytes delivered depth last opened page recorded refused reply sheets step steps view x y : Option Data) → List (List ℕ × Option Data)
slots at bytes delivered depth last opened page recorded refused reply sheets step steps view x y =
    (codes "at", at)
    ∷ (codes "bytes", bytes)
    ∷ (codes "delivered", delivered)
    ∷ (codes "depth", depth)
    ∷ (codes "last", last)
    ∷ (codes "opened", opened)
    ∷ (codes "page", page)
    ∷ (codes "recorded", recorded)
    ∷ (codes "refused", refused)
    ∷ (codes "reply", reply)
    ∷ (codes "sheets", sheets)
    ∷ (codes "step", step)
    ∷ (codes "steps", steps)
    ∷ (codes "view", view)
    ∷ (codes "x", x)
    ∷ (codes "y", y) ∷ []

-- Put in any order, they stand in that of their keys.
pub members_are : (a b depth sheets step x y : Data) (delivered last opened page recorded refused reply view steps : Option Data)
    → put_some (codes "steps") steps (put_some (codes "view") view (put_some (codes "reply") reply (put_some (codes "refused") refused (put_some (codes "recorded") recorded (put_some (codes "page") page (put_some (codes "opened") opened (put_some (codes "last") last (put_some (codes "delivered") delivered (put (codes "y") y (put (codes "x") x (put (codes "step") step (put (codes "sheets") sheets (put (codes "depth") depth (put (codes "bytes") b (put (codes "at") a (no_members))))))))))))))))
    ≡ members_of (slots (Some a) (Some b) delivered (Some depth) last opened page recorded refused reply (Some sheets) (Some step) steps view (Some x) (Some y))
members_are a b depth sheets step x y delivered last opened page None None None view steps = grind arith
members_are a b depth sheets step x y delivered last opened page None None (Some reply) view steps = grind arith
members_are a b depth sheets step x y delivered last opened page None (Some refused) None view steps = grind arith
members_are a b depth sheets step x y delivered last opened page None (Some refused) (Some reply) view steps = grind arith
members_are a b depth sheets step x y delivered last opened page (Some recorded) None None view steps = grind arith
members_are a b depth sheets step x y delivered last opened page (Some recorded) None (Some reply) view steps = grind arith
members_are a b depth sheets step x y delivered last opened page (Some recorded) (Some refused) None view steps = grind arith
members_are a b depth sheets step x y delivered last opened page (Some recorded) (Some refused) (Some reply) view steps = grind arith

-- ---- the text of a line by its first member and its four parts

abbrev pub parts : (first begin page went end : List ℕ) → List ℕ
parts first begin page went end = 123 ∷ (first ++ (begin ++ (page ++ (went ++ (end ++ 125 ∷ [])))))

pub run_text : (steps : ℕ) (place : Place) (sheets : ℕ) (replies : List ℕ) (before : Option View) (now : View) (opened page : Option Data)
    → parts (member_text false (codes "at") (Some (number (unsigned place.at)))) (texts_behind (begin_slots place sheets now)) (texts_behind (page_slots opened page))
    (texts_behind (went_slots replies now)) (texts_behind (end_slots steps before now))
    ≡ compact_text (object (run_members steps place sheets replies before now opened page))
run_text steps place sheets replies before now opened page =
    let first : List ℕ = member_text false (codes "at") (Some (number (unsigned place.at))) in
    let begin : List (List ℕ × Option Data) = begin_slots place sheets now in
    let middle : List (List ℕ × Option Data) = page_slots opened page in
    let went : List (List ℕ × Option Data) = went_slots replies now in
    let end : List (List ℕ × Option Data) = end_slots steps before now in
    let joined : texts_behind (begin ++ (middle ++ (went ++ end))) ≡ texts_behind begin ++ (texts_behind middle ++ (texts_behind went ++ texts_behind end)) =
    texts_joined begin (middle ++ (went ++ end))
    ∙ ap (λ text. texts_behind begin ++ text) (texts_joined middle (went ++ end) ∙ ap (λ text. texts_behind middle ++ text) (texts_joined went end)) in
    sym (
    ap (λ members. compact_text (object members)) (
    members_are (number (unsigned place.at)) (number (unsigned place.bytes)) (number (unsigned now.depth)) (number (unsigned now.sheets)) (number (unsigned now.step))
    (number (of_integer now.x.0)) (number (of_integer now.y.0)) (delivered_told sheets) (last_told now.last) opened page (recorded_told now.last) (refused_told now.last) (reply_told replies)
    (view_object before now) (steps_told steps)
    )
    ∙ object_text (run_slots steps place sheets replies before now opened page)
    ∙ ap (λ text. 123 ∷ ((first ++ text) ++ 125 ∷ [])) (texts_true (begin ++ (middle ++ (went ++ end))) ∙ joined)
    ∙ simp append_assoc
    )

-- the text of a region
pub patch_text : (page : Page) (region : Region) → 123 ∷ (texts_of false (patch_slots page region) ++ 125 ∷ []) ≡ compact_text (patch_data page region)
patch_text page region = sym (object_text (patch_slots page region))
