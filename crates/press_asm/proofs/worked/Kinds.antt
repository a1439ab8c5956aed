-- What some lines name, and the lines of some kinds.
use Rattle.std.specs.Prelude.{◌≡◌, [], Some, None, codes, refl}
use Rattle.press_cmd.specs.declared.variant.Kind.TheVariants.{Escape, Param, Uel}
use Rattle.press_asm.specs.Kinds.{kind_in, kind_line}

escape : kind_in (codes "esc E") ≡ Some (Escape 69)
escape = refl

param : kind_in (codes "par *cP") ≡ Some (Param 42 (Some 99) 80)
param = refl

param_without_group : kind_in (codes "par %B") ≡ Some (Param 37 None 66)
param_without_group = refl

param_with_field : kind_in (codes "par *p300X") ≡ None
param_with_field = refl

param_with_data : kind_in (codes "par *bW 00") ≡ None
param_with_data = refl

exit : kind_in (codes "uel") ≡ Some Uel
exit = refl

nothing : kind_in [] ≡ None
nothing = refl

line_of_param : kind_line (Param 42 (Some 99) 80) ≡ codes "par *cP"
line_of_param = refl

line_without_group : kind_line (Param 37 None 66) ≡ codes "par %B"
line_without_group = refl
