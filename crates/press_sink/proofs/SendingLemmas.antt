-- Outputs that go out one after another.
use Rattle.std.proofs.Common.{◌≡◌, ◌∙◌, ℕ, List, [], ◌∷◌, ◌++◌, Option, map, option_map, refl, sym, ap, subst, arith}
use Rattle.std.proofs.lemmas.List.{append_assoc, append-nil, map-append}
use Rattle.std.proofs.KnownBytes.{Appends-nil, Appends-trans}
use Rattle.std.specs.Io.KnownBytes.{Appends}
use Rattle.press_bits.specs.PrintedSheet.{PrintedSheet}
use Rattle.press_sink.specs.SinkLog.{SinkLog, SinkUse, HasFaultRoom, under}
use Rattle.press_sink.specs.Sending.{Output, Deliver, Reply, Ending, Complete, AtSheet, AtReply, ForMemory, Refused, sheets_of}
use Rattle.press_sink.specs.Sending.{sheets_in, under_tag, reply_bytes_of, GoesOut, sheet_faults_after, reply_faults_after, WentOut, Took, HandsOut}

-- the sheets of outputs, and of others behind them
pub sheets_of-append : (outputs others : List Output) → sheets_of (outputs ++ others) ≡ sheets_of outputs ++ sheets_of others
sheets_of-append [] others = refl
sheets_of-append (Deliver sheet ∷ outputs) others = ap (λ (all : List PrintedSheet). sheet ∷ all) (sheets_of-append outputs others)
sheets_of-append (Reply bytes ∷ outputs) others = sheets_of-append outputs others

-- the sheets of deliveries under one tag
pub sheets_in-tagged : (tag : ℕ) (sheets : List PrintedSheet) → sheets_in (under_tag tag sheets) ≡ sheets
sheets_in-tagged tag [] = refl
sheets_in-tagged tag (sheet ∷ sheets) = ap (λ (all : List PrintedSheet). sheet ∷ all) (sheets_in-tagged tag sheets)

-- the sheets of outputs that are sheets alone, and the bytes of their replies
pub sheets_of-delivered : (sheets : List PrintedSheet) → sheets_of (map Deliver sheets) ≡ sheets
sheets_of-delivered [] = refl
sheets_of-delivered (sheet ∷ sheets) = ap (λ (all : List PrintedSheet). sheet ∷ all) (sheets_of-delivered sheets)

pub reply_bytes_of-delivered : (sheets : List PrintedSheet) → reply_bytes_of (map Deliver sheets) ≡ []
reply_bytes_of-delivered [] = refl
reply_bytes_of-delivered (sheet ∷ sheets) = reply_bytes_of-delivered sheets

tagged-append : (tag : ℕ) (outputs others : List Output) → under_tag tag (sheets_of (outputs ++ others)) ≡ under_tag tag (sheets_of outputs) ++ under_tag tag (sheets_of others)
tagged-append tag outputs others = ap (under_tag tag) (sheets_of-append outputs others) ∙ map-append _ (sheets_of outputs) (sheets_of others)

reply_bytes_of-append : (outputs others : List Output) → reply_bytes_of (outputs ++ others) ≡ reply_bytes_of outputs ++ reply_bytes_of others
reply_bytes_of-append [] others = refl
reply_bytes_of-append (Deliver sheet ∷ outputs) others = reply_bytes_of-append outputs others
reply_bytes_of-append (Reply bytes ∷ outputs) others = grind (arith, append_assoc, reply_bytes_of-append outputs others)

-- two additions to what is told are one
pub told-twice : {X : Type 0} (told : Option (List X)) (one other : List X) → option_map (λ all. all ++ other) (option_map (λ all. all ++ one) told) ≡ option_map (λ all. all ++ (one ++ other)) told
told-twice told one other = grind (arith, append_assoc)

-- nothing is added
pub told-nothing : {X : Type 0} (told : Option (List X)) → told ≡ option_map (λ all. all ++ []) told
told-nothing told = grind (arith, append-nil)

-- the sinks took nothing, and had no fault
pub Took-none : (tag : ℕ) (ending : Ending) (told : SinkLog) → told.sheets.faults ≡ sheet_faults_after ending told.sheets.faults
    → told.replies.faults ≡ reply_faults_after ending told.replies.faults → Took tag [] ending told told
Took-none tag ending told sheets replies = record {
  delivered = told-nothing told.sheets.delivered;
  replied = Appends-nil told.replies.replied;
  sheet_faults = sheets;
  reply_faults = replies;
}

pub Took-went : (tag : ℕ) (outputs went : List Output) (ending : Ending) (before after : SinkLog) → GoesOut ending went outputs
    → Took tag went ending before after → WentOut tag outputs ending before after
Took-went tag outputs went ending before after goes took = grind arith

pub WentOut-none : (tag : ℕ) (told : SinkLog) → WentOut tag [] Complete told told
WentOut-none tag told = Took-went tag [] [] Complete told told refl (Took-none tag Complete told refl refl)

-- memory ran out before the first of the outputs
pub WentOut-no_memory : (tag : ℕ) (outputs : List Output) (told : SinkLog) → WentOut tag outputs ForMemory told told
WentOut-no_memory tag outputs told = Took-went tag outputs [] ForMemory told told (outputs, refl) (Took-none tag ForMemory told refl refl)

module _ (tag : ℕ) (outputs : List Output) (before after : SinkLog) (all : WentOut tag outputs Complete before after) where
  -- the sheets of outputs all of which went out
  pub all-delivered : after.sheets.delivered ≡ option_map (λ told. told ++ under_tag tag (sheets_of outputs)) before.sheets.delivered
  all-delivered = all.delivered ∙ ap (λ (went : List Output). option_map (λ told. told ++ under_tag tag (sheets_of went)) before.sheets.delivered) all.goes

-- what goes out behind other outputs
pub goes-then : (ending : Ending) (outputs went others : List Output) → GoesOut ending went others → GoesOut ending (outputs ++ went) (outputs ++ others)
goes-then Complete outputs went others is = ap (λ more. outputs ++ more) is
goes-then AtSheet outputs went others (sheet, more, is) = (sheet, more, grind (arith, append_assoc))
goes-then AtReply outputs went others (whole, more, prefix, back, is, goes) = (outputs ++ whole, more, prefix, back, grind (arith, append_assoc), grind (arith, append_assoc))
goes-then ForMemory outputs went others (more, is) = (more, grind (arith, append_assoc))
goes-then Refused outputs went others none = none

-- the sinks took outputs, and then others
pub Took-then : (tag : ℕ) (outputs others : List Output) (ending : Ending) (before between after : SinkLog)
    → Took tag outputs Complete before between → Took tag others ending between after → Took tag (outputs ++ others) ending before after
Took-then tag outputs others ending before between after first then = record {
  delivered =
      grind (arith, then.delivered, first.delivered, told-twice before.sheets.delivered (under_tag tag (sheets_of outputs)) (under_tag tag (sheets_of others)), tagged-append tag outputs others);
  replied =
      subst (Appends before.replies.replied after.replies.replied) (sym (reply_bytes_of-append outputs others))
      (Appends-trans before.replies.replied between.replies.replied after.replies.replied (reply_bytes_of outputs)
      (reply_bytes_of others) first.replied then.replied);
  sheet_faults = then.sheet_faults ∙ ap (sheet_faults_after ending) first.sheet_faults;
  reply_faults = then.reply_faults ∙ ap (reply_faults_after ending) first.reply_faults;
}

-- what went out of outputs is what the sinks took
pub WentOut-took : (tag : ℕ) (outputs : List Output) (ending : Ending) (before after : SinkLog) → (sent : WentOut tag outputs ending before after)
    → Took tag sent.went ending before after
WentOut-took tag outputs ending before after sent = grind arith

-- all of the outputs went out, and then others so far
pub WentOut-then : (tag : ℕ) (outputs others : List Output) (ending : Ending) (before between after : SinkLog)
    → WentOut tag outputs Complete before between → WentOut tag others ending between after
    → WentOut tag (outputs ++ others) ending before after
WentOut-then tag outputs others ending before between after first then =
    let all : Took tag outputs Complete before between =
    subst (λ (went : List Output). Took tag went Complete before between) first.goes (WentOut-took tag outputs Complete before between first) in
    Took-went tag (outputs ++ others) (outputs ++ then.went) ending before after (goes-then ending outputs then.went others then.goes)
    (Took-then tag outputs then.went ending before between after all (WentOut-took tag others ending between after then))

-- sinks that can count a fault can after a call that had none
pub Took-has_fault_room : (tag : ℕ) (went : List Output) (before after : SinkLog) → Took tag went Complete before after → HasFaultRoom before → HasFaultRoom after
Took-has_fault_room tag went before after took can = grind arith

-- a call all of whose outputs went out, and then another
pub HandsOut-then : (tag : ℕ) (ending : Ending) (first second both : List Output → Type 0) (before between after : SinkLog)
    → ((went others : List Output) → first went → second others → both (went ++ others))
    → HandsOut Complete first (under tag before between) → HandsOut ending second (under tag between after)
    → HandsOut ending both (under tag before after)
HandsOut-then tag ending first second both before between after joins one other = record {
  went = one.went ++ other.went;
  is = joins one.went other.went one.is other.is;
  took = Took-then tag one.went other.went ending before between after one.took other.took;
}

-- the same outputs, of which something else is true
pub HandsOut-as : (ending : Ending) (one other : List Output → Type 0) (sinks : SinkUse) → ((went : List Output) → one went → other went)
    → HandsOut ending one sinks → HandsOut ending other sinks
HandsOut-as ending one other sinks means hands = record { went = hands.went; is = means hands.went hands.is; took = hands.took }

-- what goes out of outputs that do not all go out, whatever comes behind them
pub goes-stopped : (ending : Ending) (went outputs others : List Output) → (ending ≡ Complete → ⊥) → GoesOut ending went outputs → GoesOut ending went (outputs ++ others)
goes-stopped Complete went outputs others stops goes = absurd (stops refl)
goes-stopped AtSheet went outputs others stops (sheet, more, is) = (sheet, more ++ others, grind (arith, append_assoc))
goes-stopped AtReply went outputs others stops (whole, more, prefix, back, is, goes) = (whole, more ++ others, prefix, back, grind (arith, append_assoc), goes)
goes-stopped ForMemory went outputs others stops (more, is) = (more ++ others, ap (λ all. all ++ others) is ∙ append_assoc went more others)
goes-stopped Refused went outputs others stops none = none

-- outputs that did not all go out, and others behind them
pub WentOut-stopped : (tag : ℕ) (outputs others : List Output) (ending : Ending) (before after : SinkLog) → (ending ≡ Complete → ⊥)
    → WentOut tag outputs ending before after → WentOut tag (outputs ++ others) ending before after
WentOut-stopped tag outputs others ending before after stops stopped = grind (arith, goes-stopped)
