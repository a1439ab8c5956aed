-- Worked value fields, computed on the definitions.
use Rattle.std.proofs.Common.{◌≡◌, pos, neg_ℤ, true, false, List, [], ◌∷◌, map, refl}
use Rattle.std.specs.Prelude.{ℕ, codes}
use Rattle.std.specs.List.{filter, range_with_len}
use Rattle.press_units.specs.Field.{is_value_field}
use Rattle.press_units.specs.Value.{tenthousandths_of, is_signed, whole_part}
use Rattle.press_units.specs.Position.{position_of, dot_of, positions_per_dot, resolutions}
use Rattle.press_units.specs.Measure.{decipoint, horizontal_motion_unit, vertical_motion_unit, is_measure, pcl_unit}
use Rattle.press_units.specs.declared.position.Resolution.TheVariants.{Dpi300, Dpi600}

above : tenthousandths_of (codes "99999") ≡ pos 655350000
above = refl

below : tenthousandths_of (codes "-40000.5") ≡ neg_ℤ (pos 327670000)
below = refl

below-signed : is_signed (codes "-40000.5") ≡ true
below-signed = refl

fifth_digit : tenthousandths_of (codes ".12345") ≡ pos 1234
fifth_digit = refl

fifth_digit-unsigned : is_signed (codes ".12345") ≡ false
fifth_digit-unsigned = refl

sign_alone : tenthousandths_of (codes "+") ≡ pos 0
sign_alone = refl

sign_alone-signed : is_signed (codes "+") ≡ true
sign_alone-signed = refl

too_small_for_a_digit : tenthousandths_of (codes "-0.00001") ≡ pos 0
too_small_for_a_digit = refl

towards_zero : whole_part (tenthousandths_of (codes "-1.9")) ≡ neg_ℤ (pos 1)
towards_zero = refl

-- one and a half PCL units of 1/300 inch back
units_back : position_of (tenthousandths_of (codes "-1.5")) 24 ≡ neg_ℤ (pos 36)
units_back = refl

dot_before_zero : dot_of (neg_ℤ (pos 1)) Dpi300 ≡ neg_ℤ (pos 1)
dot_before_zero = refl

-- units, in positions
decipoints : decipoint ≡ 10
decipoints = refl

horizontal_motion : horizontal_motion_unit ≡ 60
horizontal_motion = refl

vertical_motion : vertical_motion_unit ≡ 150
vertical_motion = refl

units_of_300 : pcl_unit 300 ≡ 24
units_of_300 = refl

positions_of_a_dot : map positions_per_dot resolutions ≡ 24 ∷ 12 ∷ []
positions_of_a_dot = refl

-- the greatest value and one, at a motion index of one unit: one product
above_the_greatest : position_of (pos 655360000) 60 ≡ pos 3932160
above_the_greatest = refl

one_product : position_of (pos 5000) 1 ≡ pos 0
one_product = refl

-- empty parts
nothing : tenthousandths_of (codes "") ≡ pos 0
nothing = refl

nothing-unsigned : is_signed (codes "") ≡ false
nothing-unsigned = refl

sign_and_point : tenthousandths_of (codes "-.") ≡ pos 0
sign_and_point = refl

no_fraction : tenthousandths_of (codes "5.") ≡ pos 50000
no_fraction = refl

plus : tenthousandths_of (codes "+0300.50") ≡ pos 3005000
plus = refl

thirty_two_bytes : tenthousandths_of (codes "00000000000000000000000000000007") ≡ pos 70000
thirty_two_bytes = refl

less_than_one : whole_part (tenthousandths_of (codes "-0.9")) ≡ pos 0
less_than_one = refl

rest_of_a_unit : whole_part (tenthousandths_of (codes "300.9999")) ≡ pos 300
rest_of_a_unit = refl

-- which texts are value fields
fields : map is_value_field (codes "" ∷ codes "+" ∷ codes "-." ∷ codes "5." ∷ codes "-0.00001" ∷ codes "00000000000000000000000000000007" ∷ [])
    ≡ true ∷ true ∷ true ∷ true ∷ true ∷ true ∷ []
fields = refl

no_fields : map is_value_field (codes "1.2.3" ∷ codes "+-1" ∷ codes "1-" ∷ codes "1x" ∷ codes " 1" ∷ codes ".." ∷ codes "000000000000000000000000000000007" ∷ [])
    ≡ false ∷ false ∷ false ∷ false ∷ false ∷ false ∷ false ∷ []
no_fields = refl

-- the 26 units of measure
abbrev measures : List ℕ
measures =
    96 ∷ 100 ∷ 120 ∷ 144 ∷ 150 ∷ 160 ∷ 180 ∷ 200 ∷ 225 ∷ 240 ∷ 288 ∷ 300 ∷ 360 ∷ 400 ∷ 450 ∷ 480 ∷ 600 ∷ 720
    ∷ 800 ∷ 900 ∷ 1200 ∷ 1440 ∷ 1800 ∷ 2400 ∷ 3600 ∷ 7200 ∷ []

all_measures : filter is_measure (range_with_len 0 7202) ≡ measures
all_measures = refl

units : map pcl_unit measures
    ≡ 75 ∷ 72 ∷ 60 ∷ 50 ∷ 48 ∷ 45 ∷ 40 ∷ 36 ∷ 32 ∷ 30 ∷ 25 ∷ 24 ∷ 20 ∷ 18 ∷ 16 ∷ 15 ∷ 12 ∷ 10 ∷ 9 ∷ 8 ∷ 6 ∷ 5 ∷ 4 ∷ 3 ∷ 2 ∷ 1 ∷ []
units = refl

-- one and a half units back
decipoints_back : position_of (neg_ℤ (pos 15000)) decipoint ≡ neg_ℤ (pos 15)
decipoints_back = refl

columns_back : position_of (neg_ℤ (pos 15000)) horizontal_motion_unit ≡ neg_ℤ (pos 90)
columns_back = refl

lines_back : position_of (neg_ℤ (pos 15000)) vertical_motion_unit ≡ neg_ℤ (pos 225)
lines_back = refl

positions_back : position_of (neg_ℤ (pos 15000)) 1 ≡ neg_ℤ (pos 1)
positions_back = refl

first_position_of_a_dot : dot_of (neg_ℤ (pos 24)) Dpi300 ≡ neg_ℤ (pos 1)
first_position_of_a_dot = refl

last_position_of_a_dot : dot_of (pos 47) Dpi300 ≡ pos 1
last_position_of_a_dot = refl

-- at 600 dots per inch a dot has 12 positions
fine_dots : map (λ position. dot_of position Dpi600) (neg_ℤ (pos 13) ∷ neg_ℤ (pos 12) ∷ pos 11 ∷ pos 12 ∷ pos 47 ∷ [])
    ≡ neg_ℤ (pos 2) ∷ neg_ℤ (pos 1) ∷ pos 0 ∷ pos 1 ∷ pos 3 ∷ []
fine_dots = refl
