use Rattle.std.proofs.Common.{◌∙◌, ℕ, List, Bor, map, sym, subst, inl, inr}
use Rattle.std.proofs.lemmas.Result.{IfOk-weaker, IfErr-weaker}
use Rattle.press_units.proofs.ExitLemmas.{exit-is}
use Rattle.press_core.specs.Events.{Message}
use Rattle.press_files.specs.Edge.{input_called}
use Rattle.press_sessions.specs.declared.session_error.SessionError.{SessionError}
use Rattle.press_sessions.specs.Sessions.{KeepsDelivered, MessageFails, Standing, TakesEvent, standing}
use Rattle.press_sessions.proofs.HappeningLemmas.{TakesEvent-message}
use Rattle.press_sessions.proofs.SessionLemmas.{IsUnread-missing, IsUnread-cause, KeepsDelivered-same}
use Rattle.press_sessions.proofs.session.Session.message.Goals as goal

-- there was no room to note the file, or an image
pub returns-in_err-spare-clause-err : goal.returns-in_err-spare-clause-err
returns-in_err-spare-clause-err g c =
    rw (exit-is c.from_residual.ensures.1) (KeepsDelivered-same (standing c.args.self.now) (standing c.spare.new.self) c.spare.ensures)

pub returns-in_err-spare-2-clause-err : goal.returns-in_err-spare-2-clause-err
returns-in_err-spare-2-clause-err g c =
    rw (exit-is c.from_residual-in_err-spare-2.ensures.1)
    (KeepsDelivered-same (standing c.args.self.now) (standing c.spare-in-loop-image.new.self) (c.spare-in-loop-image.ensures ∙ c.loop-image.invariant))

pub loop-image-preserved : goal.loop-image-preserved
loop-image-preserved g c = c.spare-in-loop-image.ensures ∙ c.loop-image.invariant

-- the file cannot be opened
pub returns-in_err-input-clause-err : goal.returns-in_err-input-clause-err
returns-in_err-input-clause-err g c =
    let input = input_called g.I.Input.ReadDevice g.I.NamedInputs c.args.inputs.now in
    rw (exit-is c.from_residual-in_err-input.ensures.1)
    (inl (IsUnread-missing (input c.args.file.now) c.in_err-input.field-0.0 c.in_err-input.ensures.missing), c.loop-image.invariant)

-- the file was not read
pub returns-in_err-text-clause-err : goal.returns-in_err-text-clause-err
returns-in_err-text-clause-err g c =
    let input = input_called g.I.Input.ReadDevice g.I.NamedInputs c.args.inputs.now in
    rw (exit-is c.from_residual-in_err-text.ensures.1)
    (inl (IsUnread-cause (input c.args.file.now) _ c.in_err-text.field-0.0 (λ fails. (c.read_all.new.reader, fails)) c.in_err-text.ensures.cause), c.loop-image.invariant)

-- an image was not read
pub returns-in_err-images-clause-err : goal.returns-in_err-images-clause-err
returns-in_err-images-clause-err g c =
    rw (exit-is c.from_residual-in_err-images.ensures.1) (
      inr (
        c.in_ok-text.text.items,
        (_, rw c.in_ok-input.ensures.bytes at c.in_ok-text.ensures.whole),
        c.in_err-images.ensures.refused,
      ),
      c.loop-image.invariant,
    )

pub returns-clause-ok : goal.returns-clause-ok
returns-clause-ok g c =
    let text = c.in_ok-text.text.items in
    let images = c.in_ok-images.images.items in
    IfOk-weaker c.carry_out.result _ _
    (λ answer taken. (
      Message text images,
      (
        (_, rw c.in_ok-input.ensures.bytes at c.in_ok-text.ensures.whole),
        c.in_ok-images.ensures.images,
      ),
      subst (λ (old : Standing). TakesEvent g.D.EntryFolder.parts (Message text images) old (standing c.carry_out.new.self) answer.items) c.loop-image.invariant
          (TakesEvent-message g.D.EntryFolder.parts _ _ _ _ (standing c.loop-image.self) (standing c.carry_out.new.self) answer.items
          c.deref.ensures.value c.deref-2.ensures.value taken),
    ))
    c.carry_out.ensures.ok

pub returns-clause-err : goal.returns-clause-err
returns-clause-err g c =
    let input = input_called g.I.Input.ReadDevice g.I.NamedInputs c.args.inputs.now in
    let names : List (List ℕ) = map {A = Bor (List ℕ)} {B = List ℕ} (λ name. name.now) c.args.images.now in
    let new = standing c.carry_out.new.self in
    IfErr-weaker c.carry_out.result _ _
    (λ why fails.
    subst (λ (one : SessionError). MessageFails input c.args.file.now names (standing c.args.self.now) one new) (sym fails.0)
    (subst (λ (old : Standing). KeepsDelivered old new) c.loop-image.invariant fails.1))
    c.carry_out.ensures.err
