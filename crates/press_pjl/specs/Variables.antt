-- The variables of the job language (PJL Technical Reference Manual, environment variables; which there are, and their
-- values, are this profile's).
use Rattle.std.specs.Prelude.{ℕ, ◌==◌, ◌&&◌, not, Bool, true, false, nat_le, if◌then◌else◌, List, [], ◌∷◌, length, Option, Some}
use Rattle.std.specs.Prelude.{None, is_some, option_map, codes, decimal}
use Rattle.std.specs.Char.{is_ascii_digit}
use Rattle.std.specs.List.{after_first, before_first, list_all}
use Rattle.press_units.specs.Value.{number_of}
use Rattle.press_units.specs.Position.{resolutions}
use Rattle.press_cmd.specs.Language.{is_equals}
use Rattle.press_page.specs.Environment.{factory}
use Rattle.press_page.specs.declared.defaults.Defaults.{Defaults}
use Rattle.press_page.specs.declared.media.Binding.TheVariants.{LongEdge, ShortEdge}
use Rattle.press_page.specs.declared.media.Orientation.TheVariants.{Portrait, Landscape}
use Rattle.press_page.specs.PageSetup.{page_sizes}
use Rattle.press_page.specs.Settings.{most_copies}
use Rattle.press_pjl.specs.Names.{of_name, size_name, orientation_name, switch_name, binding_name, resolution_name}
use Rattle.press_pjl.specs.declared.variable.Variable.{Variable}
use Rattle.press_pjl.specs.declared.variable.Variable.TheVariants as variables

-- A line of the table of variables: the name; the values of all variables with this one as a text says, if it knows that
-- text; and the text of the value that it has.
pub record Entry : Type 0 where
  pub name : List ℕ
  pub with_text : (text : List ℕ) → Defaults → Option Defaults
  pub text : Defaults → List ℕ

-- a variable whose values have names
abbrev pub of_names :
    {V : Type 0} → (name : List ℕ) (values : List V) (value_name : V → List ℕ)
    (held : Defaults → V) (with : V → Defaults → Defaults) → Entry
of_names name values value_name held with = record {
  name = name;
  with_text = λ text defaults. option_map (λ value. with value defaults) (of_name value_name values text);
  text = λ defaults. value_name (held defaults);
}

-- whether a text is digits, one at least
abbrev pub is_number : (text : List ℕ) → Bool
is_number text = not (length text == 0) && list_all is_ascii_digit text

-- a number from the least to the most
abbrev pub between : (least most : ℕ) → ℕ → Option ℕ
between least most n = if nat_le least n && nat_le n most then Some n else None

-- the number that a text of digits spells, if it is one from the least to the most
abbrev pub number_within : (least most : ℕ) (text : List ℕ) → Option ℕ
number_within least most text = if is_number text then between least most (number_of text) else None

-- a variable whose values are numbers
abbrev pub of_numbers :
    (name : List ℕ) (least most : ℕ) (held : Defaults → ℕ) (with : ℕ → Defaults → Defaults) → Entry
of_numbers name least most held with = record {
  name = name;
  with_text = λ text defaults. option_map (λ value. with value defaults) (number_within least most text);
  text = λ defaults. decimal (held defaults);
}

-- The variables: name, and values, of which the factory value is the first.
abbrev pub entry_of : Variable → Entry
entry_of variables.Copies =
    of_numbers (codes "COPIES") 1 most_copies
    (λ (all : Defaults). all.copies) (λ copies (all : Defaults). record all { copies = copies })
entry_of variables.Paper =
    of_names (codes "PAPER") page_sizes size_name
    (λ (all : Defaults). all.size) (λ size (all : Defaults). record all { size = size })
entry_of variables.Orientation =
    of_names (codes "ORIENTATION") (Portrait ∷ Landscape ∷ []) orientation_name
    (λ (all : Defaults). all.orientation) (λ side (all : Defaults). record all { orientation = side })
entry_of variables.Duplex =
    of_names (codes "DUPLEX") (false ∷ true ∷ []) switch_name
    (λ (all : Defaults). all.duplex) (λ on (all : Defaults). record all { duplex = on })
entry_of variables.Binding =
    of_names (codes "BINDING") (LongEdge ∷ ShortEdge ∷ []) binding_name
    (λ (all : Defaults). all.binding) (λ edge (all : Defaults). record all { binding = edge })
entry_of variables.Resolution =
    of_names (codes "RESOLUTION") resolutions resolution_name
    (λ (all : Defaults). all.resolution) (λ dots (all : Defaults). record all { resolution = dots })

-- all variables
abbrev pub all_variables : List Variable
all_variables =
    variables.Copies ∷ variables.Paper ∷ variables.Orientation ∷ variables.Duplex ∷ variables.Binding
    ∷ variables.Resolution ∷ []

-- the variable of a name
abbrev pub variable_named : (name : List ℕ) → Option Variable
variable_named name = of_name (λ variable. (entry_of variable).name) all_variables name

-- the values of all variables after an assignment to one, if there is a variable of that name, which knows the value
abbrev pub assigned_to : Option Variable → (value : List ℕ) → Defaults → Option Defaults
assigned_to None value defaults = None
assigned_to (Some variable) value defaults = (entry_of variable).with_text value defaults

abbrev pub assigned : (name value : List ℕ) → Defaults → Option Defaults
assigned name value defaults = assigned_to (variable_named name) value defaults

-- the text of the value of the variable of a name, if there is one
abbrev pub value_text : (name : List ℕ) → Defaults → Option (List ℕ)
value_text name defaults = option_map (λ variable. (entry_of variable).text defaults) (variable_named name)

-- a text `NAME=VALUE` of a variable and a value that it knows
abbrev pub is_assignment : List ℕ → Bool
is_assignment text = is_some (assigned (before_first is_equals text) (after_first is_equals text) factory)
