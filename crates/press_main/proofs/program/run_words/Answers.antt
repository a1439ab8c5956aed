use Rattle.std.proofs.Common.{◌≡◌, ◌∙◌, Bor, List, ℕ, Some, ap, map, refl, sym, inl, inr}
use Rattle.std.specs.String.{string_bytes}
use Rattle.press_words.specs.View.{request_seen, status_of}
use Rattle.press_words.specs.Words.{arguments}
use Rattle.press_main.proofs.ProgramLemmas.{refuses-beside, runs-asked, runs-nothing, runs-refused}
use Rattle.press_main.proofs.program.run_words.Goals as goal

pub returns-in_default-clause-runs : goal.returns-in_default-clause-runs
returns-in_default-clause-runs g c =
    runs-nothing (map string_bytes c.args.words.now) _ c.report.result _ _
    (record { answers = c.report.ensures.status; told = c.report.ensures.told; unread = refl; unwritten = refl; unmade = refl })

pub returns-in-Ok-request_of-clause-runs : goal.returns-in-Ok-request_of-clause-runs
returns-in-Ok-request_of-clause-runs g c =
    let texts : List (List ℕ) = map string_bytes c.args.words.now in
    let now : Bor (List ℕ) → List ℕ = λ word. word.now in
    let request = request_seen c.in-Ok-request_of.request in
    let wants : arguments texts ≡ Some request = ap arguments (sym (ap (map now) c.deref.ensures.value ∙ c.in-Ok.ensures)) ∙ c.in-Ok-request_of.ensures.ok in
    runs-asked texts _ c.perform.result _ _ request wants c.perform.ensures.performs

-- words that are refused
pub returns-clause-runs : goal.returns-clause-runs
returns-clause-runs g c =
    let texts : List (List ℕ) = map string_bytes c.args.words.now in
    let now : Bor (List ℕ) → List ℕ = λ word. word.now in
    let seen : map now c.deref.result.now ≡ texts = ap (map now) c.deref.ensures.value ∙ c.in-Ok.ensures in
    let refused = c.in-Err.ensures in
    runs-refused texts _ c.refuse.result _ _ refl (ap g.P.Outputs.NamedOutputs.made c.refuse.ensures.outputs) c.in-Err.refusal
    (rw seen at refused.refused) (λ zero_. rw seen at refused.help zero_)
    (elim c.refuse.ensures.refuses [
      | inl by ↦ inl (refuses-beside (status_of c.in-Err.refusal) c.refuse.result _ _ _ _ _ _ _ _ by)
      | inr by ↦ inr by
    ])
