-- The program's own tables as JSON: each is the list that stands where it is decided, and each of its rows stands in a line.
use Rattle.std.specs.Prelude.{ℕ, ◌==◌, Bool, true, false, not, if◌then◌else◌, List, [], ◌∷◌, ◌++◌, Option, Some, None, is_some}
use Rattle.std.specs.Prelude.{codes, map, option_map}
use Rattle.std.specs.List.{filter, filter_map, join_by}
use Rattle.clap.specs.Words.{Rule}
use Rattle.clap.specs.declared.builder.action.ArgAction.{ArgAction}
use Rattle.clap.specs.declared.builder.action.ArgAction.TheVariants.{Append}
use Rattle.serde_json.specs.Data.{Data, null, number, unsigned, string, array, object, Members, no_members, member}
use Rattle.serde_json.specs.View.{items_of}
use Rattle.serde_json.specs.Written.{compact_text}
use Rattle.press_units.specs.Faults.{fault_text}
use Rattle.press_asm.specs.Faults as asm
use Rattle.press_asm.specs.declared.fault.AssembleError.TheVariants as texts
use Rattle.press_core.specs.Messages.{message_types}
use Rattle.press_core.specs.TurnErrors.{bad_engines, turn_number}
use Rattle.press_core.specs.declared.turn.TurnError.TheVariants as turns
use Rattle.press_page.specs.Environment.{factory}
use Rattle.press_page.specs.PageSetup.{dimensions_of, page_sizes, size_number}
use Rattle.press_page.specs.Settings.{most_copies}
use Rattle.press_page.specs.declared.media.Binding.TheVariants.{LongEdge, ShortEdge}
use Rattle.press_page.specs.declared.media.Orientation.TheVariants.{Portrait, Landscape}
use Rattle.press_page.specs.declared.media.PageSize.{PageSize}
use Rattle.press_pbm.specs.Faults as pbm
use Rattle.press_pbm.specs.declared.fault.ReadPbmError.TheVariants as images
use Rattle.press_pjl.specs.Names.{binding_name, orientation_name, resolution_name, size_name, switch_name}
use Rattle.press_pjl.specs.Variables as pjl
use Rattle.press_raster.specs.declared.settings.RowCoding.{RowCoding}
use Rattle.press_raster.specs.declared.settings.RowCoding.TheVariants.{By, Adaptive}
use Rattle.press_rows.specs.Methods.{methods}
use Rattle.press_sink.specs.Faults.{template_number}
use Rattle.press_sink.specs.declared.fault.TemplateError.TheVariants as templates
use Rattle.press_stream.specs.Faults as stream
use Rattle.press_stream.specs.declared.fault.JobError.TheVariants as jobs
use Rattle.press_devices.specs.Telling.{output_text}
use Rattle.press_ticket.specs.Faults as ticket
use Rattle.press_ticket.specs.declared.fault.TicketError.TheVariants as tickets
use Rattle.press_trace.specs.Numbers.{method_number}
use Rattle.press_units.specs.Position.{resolutions}
use Rattle.press_explain.specs.Titles.{meanings, titles}
use Rattle.press_words.specs.Words as words
use Rattle.press_writer.specs.Faults as writer
use Rattle.press_writer.specs.declared.fault.WriterError.TheVariants as writers

-- a number, and a list of texts
abbrev pub counted : ℕ → Data
counted n = number (unsigned n)

abbrev pub strings : List (List ℕ) → Data
strings all = array (items_of (map string all))

-- A row: its members, in this order.
abbrev pub members : List (List ℕ × Data) → Members
members [] = no_members
members (one ∷ more) = member one.0 one.1 (members more)

abbrev pub row : List (List ℕ × Data) → Data
row all = object (members all)

-- whether a switch takes a value, and whether a word may stand again
abbrev pub takes_value : Rule → Bool
takes_value rule = not (rule.value_names == 0)

abbrev pub stands_again : Option ArgAction → Bool
stands_again (Some Append) = true
stands_again _ = false

-- a word, in brackets where it may be left out; and a switch, of which a word is none
abbrev pub word_text : Rule → List ℕ
word_text rule =
    if rule.required then rule.id
    else codes "[" ++ (rule.id ++ (if stands_again rule.action then codes "...]" else codes "]"))

abbrev pub switch_text : Rule → Option (List ℕ)
switch_text rule = option_map (λ long. codes "--" ++ long) rule.long

-- A subcommand: its name, its words, its switches without a value and those with one, and its line of help.
abbrev pub subcommand_row : words.Usage → Data
subcommand_row usage =
    let rules = usage.words.top.rules in
    row ((codes "name", string usage.words.top.name)
    ∷ (codes "words", strings (map word_text (filter (λ rule. not (is_some rule.long)) rules)))
    ∷ (codes "flags", strings (filter_map switch_text (filter (λ rule. not (takes_value rule)) rules)))
    ∷ (codes "options", strings (filter_map switch_text (filter takes_value rules)))
    ∷ (codes "about", string usage.about) ∷ [])

-- A page size: its name, its number, and its dots of 1/300 inch.
abbrev pub size_row : PageSize → Data
size_row size =
    row ((codes "name", string (size_name size)) ∷ (codes "number", counted (size_number size))
    ∷ (codes "width", counted (dimensions_of size).width) ∷ (codes "height", counted (dimensions_of size).height)
    ∷ (codes "portrait_offset", counted (dimensions_of size).portrait_offset)
    ∷ (codes "landscape_offset", counted (dimensions_of size).landscape_offset) ∷ [])

-- The texts of all values that have names; and the values that a variable takes: those of these that it knows, or, where it knows 1, numbers
-- from the least to the most.
abbrev pub value_texts : List (List ℕ)
value_texts =
    map size_name page_sizes ++ (map orientation_name (Portrait ∷ Landscape ∷ []) ++ (map switch_name (false ∷ true ∷ [])
    ++ (map binding_name (LongEdge ∷ ShortEdge ∷ []) ++ map resolution_name resolutions)))

abbrev pub knows : pjl.Entry → List ℕ → Bool
knows entry text = is_some (entry.with_text text factory)

abbrev pub values_of : pjl.Entry → List ℕ × Data
values_of entry =
    if knows entry (codes "1") then (codes "numbers", array (items_of (counted 1 ∷ counted most_copies ∷ [])))
    else (codes "values", strings (filter (knows entry) value_texts))

-- A variable of the job language: its name, its value at power on, and the values that it takes.
abbrev pub variable_row : pjl.Entry → Data
variable_row entry =
    row ((codes "name", string entry.name) ∷ (codes "default", string (entry.text factory)) ∷ values_of entry ∷ [])

-- A raster method: its number.
abbrev pub codings : List RowCoding
codings = map (λ one. By one.1) methods ++ (Adaptive ∷ [])

abbrev pub method_row : RowCoding → Data
method_row coding = row ((codes "number", counted (method_number coding)) ∷ [])

-- A title: the line of a kind, and what its commands are called. A meaning: the line of a kind with a number, and what that asks for.
abbrev pub title_row : List ℕ × List ℕ → Data
title_row one = row ((codes "kind", string one.0) ∷ (codes "title", string one.1) ∷ [])

abbrev pub meaning_row : List ℕ × List ℕ → Data
meaning_row one = row ((codes "value", string one.0) ∷ (codes "meaning", string one.1) ∷ [])

-- the numbers of all faults that the program tells, in order
abbrev pub fault_numbers : List (Option ℕ)
fault_numbers =
    pbm.fault_number images.NotPbm ∷ pbm.fault_number images.BadSize ∷ pbm.fault_number images.Truncated
    ∷ pbm.fault_number images.ReadFault ∷ Some pbm.write_fault ∷ template_number templates.BadTemplate
    ∷ stream.fault_number jobs.SinkFault ∷ stream.fault_number jobs.ReplyFault ∷ stream.fault_number jobs.ReadFault
    ∷ asm.fault_number (texts.BadLine 1) ∷ asm.fault_number (texts.BadValue 1) ∷ asm.fault_number (texts.BadData 1)
    ∷ ticket.fault_number tickets.NotJson ∷ ticket.fault_number (tickets.NotProfile [])
    ∷ ticket.fault_number tickets.WrongProcess ∷ ticket.fault_number tickets.BadRange ∷ ticket.fault_number tickets.BadAmount
    ∷ writer.fault_number writers.PageMissing ∷ writer.fault_number writers.TooWide ∷ writer.fault_number writers.TooTall
    ∷ writer.fault_number writers.WriteFault ∷ Some bad_engines ∷ turn_number turns.NoEngine ∷ []

-- A fault: its number, if it has one, and what its line begins with. Two have none: standard output fails, and memory runs out.
abbrev pub number_or_null : Option ℕ → Data
number_or_null None = null
number_or_null (Some n) = counted n

abbrev pub fault_row : (fault : Option ℕ) → (text : List ℕ) → Data
fault_row fault text = row ((codes "number", number_or_null fault) ∷ (codes "text", string text) ∷ [])

abbrev pub fault_rows : List Data
fault_rows =
    map (λ fault. fault_row fault (fault_text fault)) fault_numbers
    ++ (fault_row None output_text ∷ fault_row None (fault_text None) ∷ [])

-- A message of JMF: its name.
abbrev pub message_row : (name : List ℕ) → Data
message_row name = row ((codes "name", string name) ∷ [])

-- All tables, by their names.
abbrev pub tables : List (List ℕ × List Data)
tables =
    (codes "subcommands", map (λ one. subcommand_row (words.usage_of one)) words.subcommands)
    ∷ (codes "page_sizes", map size_row page_sizes)
    ∷ (codes "variables", map (λ one. variable_row (pjl.entry_of one)) pjl.all_variables)
    ∷ (codes "methods", map method_row codings)
    ∷ (codes "titles", map title_row titles) ∷ (codes "meanings", map meaning_row meanings) ∷ (codes "faults", fault_rows)
    ∷ (codes "messages", map (λ one. message_row one.0) message_types) ∷ []

abbrev pub table_text : List ℕ × List Data → List ℕ
table_text table =
    compact_text (string table.0) ++ (codes ":[\n" ++ (join_by compact_text (codes ",\n") table.1 ++ codes "\n]"))

-- The text: one object, whose members are the tables.
abbrev pub tables_text : List ℕ
tables_text = codes "{\n" ++ (join_by table_text (codes ",\n") tables ++ codes "\n}\n")
