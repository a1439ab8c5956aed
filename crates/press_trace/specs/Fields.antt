-- What can be seen, field by field: the words of the fields, what each tells, and the objects in which they stand.
use Rattle.std.specs.Prelude.{List, ℕ, [], ◌∷◌, codes}
use Rattle.press_units.specs.Measure.{pcl_unit}
use Rattle.press_units.specs.Position.{dots_per_inch}
use Rattle.press_page.specs.PageSetup.{size_number, orientation_number}
use Rattle.press_page.specs.declared.defaults.Defaults.{Defaults}
use Rattle.press_raster.specs.Settings.{raster_dots_per_inch}
use Rattle.press_engine.specs.declared.view.View.{View}
use Rattle.press_trace.specs.declared.fields.Field.{Field}
use Rattle.press_trace.specs.declared.fields.Field.TheVariants as fields
use Rattle.press_trace.specs.declared.fields.Group.{Group}
use Rattle.press_trace.specs.declared.fields.Group.TheVariants as groups
use Rattle.press_trace.specs.declared.fields.Variable.{Variable}
use Rattle.press_trace.specs.declared.fields.Variable.TheVariants as variables
use Rattle.press_trace.specs.declared.told.Told.{Told}
use Rattle.press_trace.specs.declared.told.Told.TheVariants.{Number, Flag, Places}
use Rattle.press_trace.specs.Numbers.{binding_number, pattern_number, method_number, raster_left, raster_rows}
use Rattle.press_trace.specs.Told.{number_in}

-- The variables of the job language: their words, and their values as the commands of PCL number them.
abbrev pub variable_key : Variable → List ℕ
variable_key variables.Binding = codes "binding"
variable_key variables.Copies = codes "copies"
variable_key variables.Duplex = codes "duplex"
variable_key variables.Orientation = codes "orientation"
variable_key variables.PageSize = codes "page_size"
variable_key variables.Resolution = codes "resolution"

abbrev pub variable_told : Variable → Defaults → Told
variable_told variables.Binding values = Number (binding_number values.binding)
variable_told variables.Copies values = Number values.copies
variable_told variables.Duplex values = Flag values.duplex
variable_told variables.Orientation values = Number (orientation_number values.orientation)
variable_told variables.PageSize values = Number (size_number values.size)
variable_told variables.Resolution values = Number (dots_per_inch values.resolution)

-- The word of a field.
abbrev pub key_of : Field → List ℕ
key_of (fields.Current variable) = variable_key variable
key_of (fields.Default variable) = variable_key variable
key_of fields.Pushed = codes "pushed"
key_of fields.Height = codes "height"
key_of fields.Id = codes "id"
key_of fields.Pattern = codes "pattern"
key_of fields.PatternKind = codes "pattern_kind"
key_of fields.PatternOpaque = codes "pattern_opaque"
key_of fields.SourceOpaque = codes "source_opaque"
key_of fields.Width = codes "width"
key_of fields.Defining = codes "defining"
key_of fields.MacroId = codes "id"
key_of fields.Overlay = codes "overlay"
key_of fields.Left = codes "left"
key_of fields.Right = codes "right"
key_of fields.TextLength = codes "text_length"
key_of fields.Top = codes "top"
key_of fields.Binding = codes "binding"
key_of fields.Duplex = codes "duplex"
key_of fields.Marked = codes "marked"
key_of fields.Orientation = codes "orientation"
key_of fields.Resolution = codes "resolution"
key_of fields.Size = codes "size"
key_of fields.RowHeight = codes "height"
key_of fields.RasterLeft = codes "left"
key_of fields.Method = codes "method"
key_of fields.RasterResolution = codes "resolution"
key_of fields.Rows = codes "rows"
key_of fields.RowWidth = codes "width"
key_of fields.CopiesOfPage = codes "copies"
key_of fields.FeedAfterReturn = codes "feed_after_return"
key_of fields.HorizontalMotion = codes "horizontal_motion"
key_of fields.HpGl = codes "hp_gl"
key_of fields.PageStatus = codes "page_status"
key_of fields.PerforationSkip = codes "perforation_skip"
key_of fields.ReturnBeforeFeed = codes "return_before_feed"
key_of fields.SheetsOfJob = codes "sheets_of_job"
key_of fields.UnitOfMeasure = codes "unit"
key_of fields.VerticalMotion = codes "vertical_motion"

-- What it tells.
abbrev pub told_by : Field → View → Told
told_by (fields.Current variable) view = variable_told variable view.language.current
told_by (fields.Default variable) view = variable_told variable view.language.default
told_by fields.Pushed view = Places view.stack
told_by fields.Height view = Number view.drawing.rectangle.height
told_by fields.Id view = Number view.drawing.pattern_id
told_by fields.Pattern view = Number view.drawing.pattern.id
told_by fields.PatternKind view = Number (pattern_number view.drawing.pattern.kind)
told_by fields.PatternOpaque view = Flag view.drawing.mode.pattern_opaque
told_by fields.SourceOpaque view = Flag view.drawing.mode.source_opaque
told_by fields.Width view = Number view.drawing.rectangle.width
told_by fields.Defining view = number_in view.defining
told_by fields.MacroId view = Number view.macro_id
told_by fields.Overlay view = number_in view.overlay
told_by fields.Left view = Number view.environment.margins.left
told_by fields.Right view = Number view.environment.margins.right
told_by fields.TextLength view = Number view.environment.margins.text_length
told_by fields.Top view = Number view.environment.margins.top
told_by fields.Binding view = Number (binding_number view.environment.page_setup.binding)
told_by fields.Duplex view = Flag view.environment.page_setup.duplex
told_by fields.Marked view = Flag view.marked
told_by fields.Orientation view = Number (orientation_number view.environment.page_setup.orientation)
told_by fields.Resolution view = Number (dots_per_inch view.environment.page_setup.resolution)
told_by fields.Size view = Number (size_number view.environment.page_setup.size)
told_by fields.RowHeight view = number_in view.drawing.raster.source_height
told_by fields.RasterLeft view = raster_left view.raster
told_by fields.Method view = Number (method_number view.drawing.raster.coding)
told_by fields.RasterResolution view = Number (raster_dots_per_inch view.drawing.raster.resolution)
told_by fields.Rows view = raster_rows view.raster
told_by fields.RowWidth view = number_in view.drawing.raster.source_width
told_by fields.CopiesOfPage view = Number view.environment.settings.copies
told_by fields.FeedAfterReturn view = Flag view.environment.settings.line_termination.feed_after_return
told_by fields.HorizontalMotion view = Number view.environment.settings.horizontal_motion
told_by fields.HpGl view = Flag view.hp_gl
told_by fields.PageStatus view = Flag view.language.page_status
told_by fields.PerforationSkip view = Flag view.environment.settings.perforation_skip
told_by fields.ReturnBeforeFeed view = Flag view.environment.settings.line_termination.return_before_feed
told_by fields.SheetsOfJob view = Number view.since_job
told_by fields.UnitOfMeasure view = Number (pcl_unit view.environment.settings.unit_of_measure)
told_by fields.VerticalMotion view = Number view.environment.settings.vertical_motion

-- The objects in which fields stand: their words and their fields.
abbrev pub group_word : Group → List ℕ
group_word groups.Current = codes "current"
group_word groups.Cursor = codes "cursor"
group_word groups.Default = codes "default"
group_word groups.Drawing = codes "drawing"
group_word groups.Macros = codes "macros"
group_word groups.Margins = codes "margins"
group_word groups.Page = codes "page"
group_word groups.Raster = codes "raster"
group_word groups.Settings = codes "settings"

abbrev pub fields_of : Group → List Field
fields_of groups.Current =
    fields.Current variables.Binding ∷ fields.Current variables.Copies ∷ fields.Current variables.Duplex ∷ fields.Current variables.Orientation
    ∷ fields.Current variables.PageSize ∷ fields.Current variables.Resolution ∷ []
fields_of groups.Cursor =
    fields.Pushed ∷ []
fields_of groups.Default =
    fields.Default variables.Binding ∷ fields.Default variables.Copies ∷ fields.Default variables.Duplex ∷ fields.Default variables.Orientation
    ∷ fields.Default variables.PageSize ∷ fields.Default variables.Resolution ∷ []
fields_of groups.Drawing =
    fields.Height ∷ fields.Id ∷ fields.Pattern ∷ fields.PatternKind
    ∷ fields.PatternOpaque ∷ fields.SourceOpaque ∷ fields.Width ∷ []
fields_of groups.Macros =
    fields.Defining ∷ fields.MacroId ∷ fields.Overlay ∷ []
fields_of groups.Margins =
    fields.Left ∷ fields.Right ∷ fields.TextLength ∷ fields.Top ∷ []
fields_of groups.Page =
    fields.Binding ∷ fields.Duplex ∷ fields.Marked ∷ fields.Orientation ∷ fields.Resolution ∷ fields.Size ∷ []
fields_of groups.Raster =
    fields.RowHeight ∷ fields.RasterLeft ∷ fields.Method ∷ fields.RasterResolution ∷ fields.Rows ∷ fields.RowWidth ∷ []
fields_of groups.Settings =
    fields.CopiesOfPage ∷ fields.FeedAfterReturn ∷ fields.HorizontalMotion ∷ fields.HpGl
    ∷ fields.PageStatus ∷ fields.PerforationSkip ∷ fields.ReturnBeforeFeed ∷ fields.SheetsOfJob
    ∷ fields.UnitOfMeasure ∷ fields.VerticalMotion ∷ []

abbrev pub all_groups : List Group
all_groups =
    groups.Current ∷ groups.Cursor ∷ groups.Default ∷ groups.Drawing ∷ groups.Macros
    ∷ groups.Margins ∷ groups.Page ∷ groups.Raster ∷ groups.Settings ∷ []
