use Rattle.std.proofs.Common.{List, ℕ, [], subst, sym, ap, ◌∙◌, rules}
use Rattle.std.specs.Prelude.{unwrap_or}
use Rattle.std.specs.List.{All, before_first}
use Rattle.std.specs.Char.{IsAsciiDigit}
use Rattle.press_units.specs.Field.{is_point}
use Rattle.press_units.specs.Value.{fraction_of}
use Rattle.press_units.proofs.FieldLemmas.{whole-All, fraction-All, is_number_of}
use Rattle.press_units.proofs.value.read_value.Goals as goal

pub number_up_to_ceiling-requires : goal.number_up_to_ceiling-requires
number_up_to_ceiling-requires c =
    let P : List ℕ → Type 0 = All IsAsciiDigit in
    subst P (sym (c.split_point.ensures.whole ∙ ap (before_first is_point) c.split_sign-sign.ensures.unsigned)) (whole-All c.args.field.now c.requires)

pub first_four-requires : goal.first_four-requires
first_four-requires c =
    let P : List ℕ → Type 0 = All IsAsciiDigit in
    subst P (sym (c.split_point.ensures.fraction ∙ ap (λ unsigned. unwrap_or (fraction_of unsigned) []) c.split_sign-sign.ensures.unsigned)) (fraction-All c.args.field.now c.requires)

pub returns-clause-parts : goal.returns-clause-parts
returns-clause-parts c = is_number_of c.args.field.now _ _ (search rules) (search rules)
