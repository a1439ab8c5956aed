-- What some commands are called, and what is said of some that do nothing. Numbers do not compute here, and stand in rows of what is printed.
use Rattle.std.specs.Prelude.{◌≡◌, ℕ, List, [], ◌∷◌, ◌++◌, Some, None, true, false, codes, length, refl}
use Rattle.press_cmd.specs.Token.{Broken, Escape, ForeignByte, Grouped, PjlLine, Text, Uel, Ungrouped}
use Rattle.press_cmd.specs.declared.variant.Kind.TheVariants as kinds
use Rattle.press_table.specs.declared.refusal.Refusal.TheVariants.{HpGl, NoRow, NoSuchValue}
use Rattle.press_engine.specs.declared.machine.Last.TheVariants as lasts
use Rattle.press_explain.specs.Remarks.{is_likewise, named, or_nothing, recorded_said, refused_said, replies_said, shown, told_said}
use Rattle.press_explain.specs.Titles.{meanings, text_at, title_of}
use Rattle.press_trace.specs.declared.told.Told.TheVariants.{Flag, Nothing}

reset : named (Escape 69) ≡ codes "Printer Reset"
reset = refl

exit : named Uel ≡ codes "Universal Exit Language"
exit = refl

text : named (Text 72) ≡ codes "Text: H"
text = refl

foreign : named (ForeignByte 7) ≡ codes "Another language: ."
foreign = refl

broken : named (Broken (27 ∷ codes "*p")) ≡ codes "Broken bytes: .*p"
broken = refl

job_line : named (PjlLine (codes "@PJL SET COPIES=2" ++ 13 ∷ 10 ∷ [])) ≡ codes "PJL line: @PJL SET COPIES=2.."
job_line = refl

-- without a value field
end_of_raster : named (Grouped 42 114 [] 67 []) ≡ codes "End Raster Graphics"
end_of_raster = refl

-- sequences without a group
symbol_set : title_of (kinds.Param 40 None 85) ≡ codes "Primary Symbol Set"
symbol_set = refl

other_symbol_set : title_of (kinds.Param 41 None 85) ≡ codes "Secondary Symbol Set"
other_symbol_set = refl

font_by_id : title_of (kinds.Param 40 None 88) ≡ codes "Primary Font Selection by ID"
font_by_id = refl

no_title : title_of (kinds.Param 38 (Some 122) 90) ≡ codes "A command that is not in HP's list"
no_title = refl

raster_resolution : title_of (kinds.Param 42 (Some 116) 82) ≡ codes "Raster Graphics Resolution, in dots per inch"
raster_resolution = refl

-- what values mean
a4 : text_at (codes "par &lA 26") meanings ≡ Some (codes "A4")
a4 = refl

no_meaning : text_at (codes "par &lA 4") meanings ≡ None
no_meaning = refl

-- of many bytes the first sixty
sixty : length (shown (codes "0123456789012345678901234567890123456789012345678901234567890123")) ≡ 60
sixty = refl

-- what a command did
nothing : or_nothing [] ≡ codes "; changes nothing"
nothing = refl

refused : refused_said NoSuchValue ≡ codes "; refused: no such value"
refused = refl

recorded : recorded_said None ≡ codes "; recorded"
recorded = refl

replied : replies_said (codes "@PJL INFO ID" ++ 13 ∷ 10 ∷ []) ≡ codes "; replies: @PJL INFO ID.."
replied = refl

on : told_said (Flag true) ≡ codes "on"
on = refl

none : told_said Nothing ≡ codes "none"
none = refl

-- which commands are passed over like the one before
text_again : is_likewise (lasts.Refused (kinds.Text 72) NoRow) (lasts.Refused (kinds.Text 105) NoRow) ≡ true
text_again = refl

plot_again : is_likewise (lasts.Refused (kinds.Control 10) HpGl) (lasts.Refused (kinds.Text 105) HpGl) ≡ true
plot_again = refl

other_bytes : is_likewise (lasts.Refused (kinds.Text 72) NoRow) (lasts.Refused (kinds.Foreign 105) NoRow) ≡ false
other_bytes = refl

other_reason : is_likewise (lasts.Refused (kinds.Text 72) HpGl) (lasts.Refused (kinds.Text 105) NoRow) ≡ false
other_reason = refl

first_text : is_likewise lasts.Nothing (lasts.Refused (kinds.Text 72) NoRow) ≡ false
first_text = refl

-- two commands without a row, one after another, are each told
no_row_again : is_likewise (lasts.Refused (kinds.Escape 90) NoRow) (lasts.Refused (kinds.Escape 90) NoRow) ≡ false
no_row_again = refl
