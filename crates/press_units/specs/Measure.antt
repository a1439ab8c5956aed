-- Units: how many positions, of which an inch has 7200, a unit has
-- (PCL 5 Printer Language Technical Reference Manual, units of movement within the PCL coordinate system).
use Rattle.std.specs.Prelude.{◌≡◌, ◌≤◌, ◌%◌, ◌/◌, ◌*◌, ◌==◌, ◌&&◌, ℕ, Bool, nat_le}

-- positions of an inch (this profile's internal unit)
abbrev pub positions_per_inch : ℕ
positions_per_inch = 7200

-- a decipoint: a tenth of a point, of which an inch has 72
abbrev pub decipoint : ℕ
decipoint = positions_per_inch / (10 * 72)

-- the unit of the horizontal motion index, 1/120 inch
abbrev pub horizontal_motion_unit : ℕ
horizontal_motion_unit = positions_per_inch / 120

-- the unit of the vertical motion index, 1/48 inch
abbrev pub vertical_motion_unit : ℕ
vertical_motion_unit = positions_per_inch / 48

-- a unit of measure: an inch has a whole number of positions for each of its units, of which it has 96 to 7200
-- (PCL 5 Printer Language Technical Reference Manual, Unit of Measure command)
pub record IsMeasure (units_per_inch : ℕ) : Type 0 where
  pub least : 96 ≤ units_per_inch
  pub most : units_per_inch ≤ positions_per_inch
  pub divides : positions_per_inch % units_per_inch ≡ 0

-- The test for a unit of measure. The contract of `UnitOfMeasure::new` says that it is `IsMeasure`.
abbrev pub is_measure : ℕ → Bool
is_measure units_per_inch =
    nat_le 96 units_per_inch && nat_le units_per_inch positions_per_inch && (positions_per_inch % units_per_inch == 0)

-- a PCL unit under a unit of measure
abbrev pub pcl_unit : ℕ → ℕ
pcl_unit units_per_inch = positions_per_inch / units_per_inch
