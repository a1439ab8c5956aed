-- The numbers of the faults of sinks and of templates (this profile).
use Rattle.std.specs.Prelude.{ℕ, Option, Some, None}
use Rattle.press_sink.specs.declared.fault.ReplyError.{ReplyError}
use Rattle.press_sink.specs.declared.fault.ReplyError.TheVariants as reply_errors
use Rattle.press_sink.specs.declared.fault.SinkError.{SinkError}
use Rattle.press_sink.specs.declared.fault.SinkError.TheVariants as sink_errors
use Rattle.press_sink.specs.declared.fault.TemplateError.{TemplateError}
use Rattle.press_sink.specs.declared.fault.TemplateError.TheVariants as template_errors

-- of a sheet sink's fault, of a reply sink's, and of a text that is no template; none where memory ran out
abbrev pub sink_number : SinkError → Option ℕ
sink_number sink_errors.SinkFault = Some 301
sink_number sink_errors.NoMemory = None

abbrev pub reply_number : ReplyError → Option ℕ
reply_number reply_errors.ReplyFault = Some 302
reply_number reply_errors.NoMemory = None

abbrev pub template_number : TemplateError → Option ℕ
template_number template_errors.BadTemplate = Some 121
template_number template_errors.NoMemory = None
