-- What sinks keep.
use Rattle.std.specs.Prelude.{ℕ, zero, suc, List, map, Option, Some, None, option_map}
use Rattle.std.specs.String.{string_bytes}
use Rattle.press_sink.specs.declared.delivery.Delivery.{Delivery}
use Rattle.press_sink.specs.declared.list_sink.ListSink.{ListSink}
use Rattle.press_sink.specs.declared.list_replies.ListReplies.{ListReplies}
use Rattle.press_sink.specs.declared.fuse_replies.FuseReplies.{FuseReplies}
use Rattle.press_sink.specs.declared.fuse_sink.FuseSink.{FuseSink}
use Rattle.press_sink.specs.declared.write_replies.WriteReplies.{WriteReplies}
use Rattle.press_sink.specs.declared.template.Template.{Template}
use Rattle.press_sink.specs.declared.folder_sink.FolderSink.{FolderSink}
use Rattle.press_sink.specs.declared.side.Side.{Side}
use Rattle.press_sink.specs.declared.list_outputs.ListedOutput.{ListedOutput}
use Rattle.press_sink.specs.declared.list_outputs.ListOutputs.{ListOutputs}
use Rattle.press_pbm.specs.Spelling.{file_of}
use Rattle.press_sink.specs.Outputs.{MadeOutput, holding}
use Rattle.press_sink.specs.Template.{NameParts}

-- the sheets that a list sink took
abbrev pub deliveries : ListSink → List Delivery
deliveries sink = sink.deliveries.items

-- the bytes that a list of replies took
abbrev pub replied : ListReplies → List ℕ
replied sink = sink.bytes.items

-- the sink to which a fuse sink passes deliveries on
abbrev pub inner : {S : Type 0} → FuseSink S → S
inner fuse = fuse.sink

-- how many more deliveries a fuse sink passes on before the one that has a fault, where that has not been
abbrev pub left_of : {S : Type 0} → FuseSink S → Option ℕ
left_of fuse = fuse.left

-- the same after one more delivery
abbrev pub left_after : Option ℕ → Option ℕ
left_after None = None
left_after (Some zero) = None
left_after (Some (suc left)) = Some left

-- how many faults a fuse sink had that were its own
abbrev pub own_faults : {S : Type 0} → FuseSink S → ℕ
own_faults fuse = fuse.faults

-- the sink to which a fuse of replies passes them on
abbrev pub inner_replies : {S : Type 0} → FuseReplies S → S
inner_replies fuse = fuse.sink

-- how many more replies it passes on before the one that has a fault, where that has not been
abbrev pub replies_left : {S : Type 0} → FuseReplies S → Option ℕ
replies_left fuse = fuse.left

-- how many bytes of that reply it passes on
abbrev pub passed_prefix : {S : Type 0} → FuseReplies S → ℕ
passed_prefix fuse = fuse.front

-- how many faults it had that were its own
abbrev pub own_reply_faults : {S : Type 0} → FuseReplies S → ℕ
own_reply_faults fuse = fuse.faults

-- the writer to which replies are written
abbrev pub reply_writer : {W : Type 0} {w : _} → WriteReplies W w → W
reply_writer sink = sink.writer

-- how many replies failed there
abbrev pub write_faults : {W : Type 0} {w : _} → WriteReplies W w → ℕ
write_faults sink = sink.faults

-- what stands before and behind the place of the number in a template
abbrev pub template_parts : Template → NameParts
template_parts template = record { front = string_bytes template.front; back = string_bytes template.back }

-- the same in the template of a folder sink
abbrev pub name_parts : {O X : Type 0} {o w : _} → FolderSink O X o w → NameParts
name_parts sink = template_parts sink.template

-- the number of the next side that a folder sink writes
abbrev pub next_number : {O X : Type 0} {o w : _} → FolderSink O X o w → ℕ
next_number sink = sink.number

-- how many faults a folder sink had
abbrev pub file_faults : {O X : Type 0} {o w : _} → FolderSink O X o w → ℕ
file_faults sink = sink.faults

-- where a folder sink makes its outputs
abbrev pub outputs_of : {O X : Type 0} {o w : _} → FolderSink O X o w → O
outputs_of sink = sink.outputs

-- what is made of a side
abbrev pub output_of_side : Side → MadeOutput
output_of_side side = holding (string_bytes side.name) (file_of side.page.now)

-- a listed output as contracts see it
abbrev pub output_of : ListedOutput → MadeOutput
output_of one = record { name = string_bytes one.name; holds = option_map (λ bytes. bytes.items) one.holds }

-- listed outputs, in order
abbrev pub outputs_in : List ListedOutput → List MadeOutput
outputs_in listed = map output_of listed

-- the outputs that a list of them keeps
abbrev pub kept_outputs : ListOutputs → List MadeOutput
kept_outputs list = outputs_in list.outputs.items
