-- Options of a list or a body. A custom option whose field isn't repeated is set once: not where
-- one before it set the field, or something in the message that the field holds, and not where the
-- constant of one before it did. protoc says so (src/google/protobuf/descriptor.cc of version 3.21,
-- `ExamineIfOptionIsSet`).
use Rattle.std.specs.Prelude.{ℕ, ◌-◌, nat_abs, Bool, not, ◌&&◌, List, [], ◌∷◌, ◌++◌, map, length}
use Rattle.std.specs.Prelude.{flat_map, option_to_list, slice_get}
use Rattle.std.specs.List.{list_any}
use Rattle.protobuf_parse_base.specs.Names.{fronts}
use Rattle.protobuf_parse_syntax.specs.Trees.{ConstantFieldList, ConstantSyntax, OptionSyntax}
use Rattle.protobuf_parse_syntax.specs.Trees.{fields, more_fields, no_fields}
use Rattle.protobuf_parse_model.specs.Descriptors.{Text, FieldDescriptor}
use Rattle.protobuf_parse_model.specs.declared.customs.Construct.{Construct}
use Rattle.protobuf_parse_option_paths.specs.Names.{is_repeated, type_name_of}
use Rattle.protobuf_parse_text_rules.specs.Breaches.{TextBreach, breach_if}
use Rattle.protobuf_parse_text_rules.specs.Options.{stands_in}
use Rattle.protobuf_parse_text_rules.specs.declared.rule.TextRule.TheVariants as rule
use Rattle.protobuf_parse_name_rules.specs.Constants.{value_breaches}
use Rattle.protobuf_parse_name_rules.specs.Fields.{CustomOption, constant_field, custom_options}
use Rattle.protobuf_parse_name_rules.specs.Lookups.{Viewpoint}
use Rattle.protobuf_parse_name_rules.specs.Names.{named_option_breaches}

-- ---- what an option sets

-- the numbers of fields that lie in one another
abbrev pub Path : Type 0
Path = List ℕ

-- behind the path, the field
abbrev pub path_to : Path → FieldDescriptor → Path
path_to path f = path ++ nat_abs f.number ∷ []

-- the path of the fields
abbrev pub path_of : List FieldDescriptor → Path
path_of fs = map (λ (f : FieldDescriptor). nat_abs f.number) fs

abbrev mutual
  -- the paths that a constant sets in a field at the path
  pub paths_in : Viewpoint → Path → FieldDescriptor → ConstantSyntax → List Path
  paths_in at path f (fields fs) = paths_among at path (type_name_of f) fs
  paths_in at path f _ = []

  -- those that the fields of a constant for the message set
  pub paths_among : Viewpoint → Path → (message : Text) → ConstantFieldList → List Path
  paths_among at path message no_fields = []
  paths_among at path message (more_fields name c fs) =
      flat_map (λ (f : FieldDescriptor). path_to path f ∷ paths_in at (path_to path f) f c)
      (option_to_list (constant_field at message name))
      ++ paths_among at path message fs

-- the last of the fields
abbrev pub last_of : List FieldDescriptor → List FieldDescriptor
last_of fs = option_to_list (slice_get fs (length fs - 1))

-- those that an option sets: of its field and the fields around it, and those of its value
abbrev pub paths_set : Viewpoint → CustomOption → List Path
paths_set at o =
    fronts (path_of o.fields)
    ++ flat_map (λ (f : FieldDescriptor). paths_in at (path_of o.fields) f o.value)
    (last_of o.fields)

-- ---- T14

-- whether the field of an option isn't repeated
abbrev pub is_single : CustomOption → Bool
is_single o = list_any (λ (f : FieldDescriptor). not (is_repeated f.label)) (last_of o.fields)

-- at an option whose path is set
abbrev pub again_breaches : (is_set : Path → Bool) → CustomOption → List TextBreach
again_breaches is_set o =
    breach_if (is_single o && is_set (path_of o.fields)) rule.CustomOptionTwice o.place o.name

-- at each whose path is set by those before it
abbrev pub set_again : Viewpoint → (before : List Path) → List CustomOption → List TextBreach
set_again at before [] = []
set_again at before (o ∷ os) =
    again_breaches (λ path. stands_in path before) o
    ++ set_again at (before ++ paths_set at o) os

-- ---- all

-- T15 to T18 in the value of an option
abbrev pub constant_breaches : Viewpoint → CustomOption → List TextBreach
constant_breaches at o =
    flat_map (λ (f : FieldDescriptor). value_breaches at o.place f o.value) (last_of o.fields)

-- what is wrong with custom options
abbrev pub custom_breaches : Viewpoint → List CustomOption → List TextBreach
custom_breaches at os = set_again at [] os ++ flat_map (constant_breaches at) os

-- with the options of a list or a body
abbrev pub option_breaches : Viewpoint → Construct → List OptionSyntax → List TextBreach
option_breaches at construct options =
    flat_map (named_option_breaches at) options
    ++ custom_breaches at (custom_options at construct options)
