-- Options as they are written: a built-in one is set once in its list or its body, since each is
-- singular (google/protobuf/descriptor.proto); the value of an option is no list; and a message
-- constant names extensions without a dot before them. protoc says so
-- (src/google/protobuf/compiler/parser.cc and descriptor.cc of version 3.21): the grammar of the
-- language leaves it open.
use Rattle.std.specs.Prelude.{ℕ, Bool, true, false, ◌||◌, ◌==◌, bytes_eq, codes, List, [], ◌∷◌, ◌++◌}
use Rattle.std.specs.Prelude.{flat_map}
use Rattle.std.specs.List.{list_any}
use Rattle.protobuf_parse_base.specs.Characters as char
use Rattle.protobuf_parse_lexer.specs.Text.{Bytes}
use Rattle.protobuf_parse_lexer.specs.declared.lexer.token.Place.{Place}
use Rattle.protobuf_parse_syntax.specs.Trees.{ConstantFieldList, ConstantList, ConstantNameSyntax}
use Rattle.protobuf_parse_syntax.specs.Trees.{ConstantSyntax, OptionNameSyntax, OptionSyntax}
use Rattle.protobuf_parse_syntax.specs.Trees.{builtin, custom, extension_name, fields, list}
use Rattle.protobuf_parse_syntax.specs.Trees.{more_constants, more_fields, no_constants, no_fields}
use Rattle.protobuf_parse_text_rules.specs.Breaches.{TextBreach, breach_if}
use Rattle.protobuf_parse_text_rules.specs.declared.rule.TextRule.{TextRule}
use Rattle.protobuf_parse_text_rules.specs.declared.rule.TextRule.TheVariants as rule

-- ---- set twice

-- the name of a built-in option, and where it stands
pub record NamedOption : Type 0 where
  pub place : Place
  pub name : Bytes

-- the option, if its name is that of a built-in one
abbrev pub builtin_named : Place → OptionNameSyntax → List NamedOption
builtin_named place (builtin name) = record { place = place; name = name } ∷ []
builtin_named place (custom parts) = []

-- the built-in ones of a list
abbrev pub builtins : List OptionSyntax → List NamedOption
builtins options = flat_map (λ (o : OptionSyntax). builtin_named o.place o.name) options

-- whether the name is one of these
abbrev pub stands_in : Bytes → List Bytes → Bool
stands_in name names = list_any (λ (x : Bytes). bytes_eq x name) names

-- T1 at each whose name stands among those before it
abbrev pub set_twice : (before : List Bytes) → List NamedOption → List TextBreach
set_twice before [] = []
set_twice before (o ∷ os) =
    breach_if (stands_in o.name before) rule.OptionTwice o.place o.name
    ++ set_twice (before ++ o.name ∷ []) os

-- ---- values

-- whether a text begins with a dot
abbrev pub begins_with_dot : Bytes → Bool
begins_with_dot [] = false
begins_with_dot (b ∷ bs) = b == char.dot

-- whether a name in a message constant is that of an extension, with a dot before it
abbrev pub is_dotted : ConstantNameSyntax → Bool
is_dotted (extension_name name) = begins_with_dot name
is_dotted _ = false

abbrev mutual
  -- whether a constant has such a name
  pub has_dotted : ConstantSyntax → Bool
  has_dotted (list cs) = any_dotted cs
  has_dotted (fields fs) = any_field_dotted fs
  has_dotted _ = false

  -- whether one of these has
  pub any_dotted : ConstantList → Bool
  any_dotted no_constants = false
  any_dotted (more_constants c cs) = has_dotted c || any_dotted cs

  -- whether one of these fields has
  pub any_field_dotted : ConstantFieldList → Bool
  any_field_dotted no_fields = false
  any_field_dotted (more_fields name value fs) =
      (is_dotted name || has_dotted value) || any_field_dotted fs

-- whether a constant is a list
abbrev pub is_list : ConstantSyntax → Bool
is_list (list cs) = true
is_list _ = false

-- T2 and T4 at the name of an option
abbrev pub value_breaches : OptionSyntax → List TextBreach
value_breaches o =
    breach_if (is_list o.value) rule.ListAsValue o.place []
    ++ breach_if (has_dotted o.value) rule.DottedExtension o.place []

-- what is wrong with the options of a list or a body
abbrev pub option_breaches : List OptionSyntax → List TextBreach
option_breaches options = flat_map value_breaches options ++ set_twice [] (builtins options)

-- ---- options that only some have

-- the rule at each built-in option of that name
abbrev pub named_breaches : TextRule → Bytes → List NamedOption → List TextBreach
named_breaches rule name options =
    flat_map (λ (o : NamedOption). breach_if (bytes_eq o.name name) rule o.place []) options

-- T7 for the names in JSON that an extension sets
abbrev pub json_breaches : List OptionSyntax → List TextBreach
json_breaches options =
    named_breaches rule.JsonNameOfExtension (codes "json_name") (builtins options)

-- T8 for a message that says by itself that it stands behind a map
abbrev pub entry_breaches : List OptionSyntax → List TextBreach
entry_breaches options = named_breaches rule.MapEntrySet (codes "map_entry") (builtins options)
