-- Names of several parts. Such a name is looked up by its first part: the innermost scope that has
-- it as something in which names may stand decides, and the rest has to stand there. protoc says so
-- (src/google/protobuf/descriptor.cc of version 3.21, `LookupSymbolNoPlaceholder`); the C++ scoping
-- that the Protocol Buffers Language Guide ("Packages and Name Resolution", https://protobuf.dev)
-- refers to is the same. A method stands in the scope of its service, and is found there first.
use Rattle.std.specs.Prelude.{Bool, false, not, ◌&&◌, ◌||◌, ◌==◌, List, [], ◌∷◌, ◌++◌, flat_map}
use Rattle.std.specs.Prelude.{if◌then◌else◌}
use Rattle.std.specs.List.{before_first, list_any}
use Rattle.protobuf_parse_base.specs.Characters as char
use Rattle.protobuf_parse_base.specs.Names.{fronts}
use Rattle.protobuf_parse_lexer.specs.declared.lexer.token.Place.{Place}
use Rattle.protobuf_parse_model.specs.Declarations.{Scope, full_name}
use Rattle.protobuf_parse_model.specs.Descriptors.{Text}
use Rattle.protobuf_parse_model.specs.Lookup.{begins_with_dot}
use Rattle.protobuf_parse_syntax.specs.Trees.{MethodSyntax, OptionNameSyntax, OptionPartSyntax}
use Rattle.protobuf_parse_syntax.specs.Trees.{OptionSyntax, ServiceStatementSyntax, TypeSyntax}
use Rattle.protobuf_parse_syntax.specs.Trees.{builtin, custom, direct, extension, map_of, named}
use Rattle.protobuf_parse_syntax.specs.Trees.{service_method, service_option}
use Rattle.protobuf_parse_text_rules.specs.Breaches.{TextBreach, breach_if}
use Rattle.protobuf_parse_text_rules.specs.Options.{stands_in}
use Rattle.protobuf_parse_text_rules.specs.declared.rule.TextRule.TheVariants as rule
use Rattle.protobuf_parse_name_rules.specs.Lookups.{Sight, Viewpoint, holds_names, is_extension}
use Rattle.protobuf_parse_name_rules.specs.Lookups.{is_type}

-- ---- parts

-- what stands before the first dot
abbrev pub first_part : Text → Text
first_part name = before_first (λ b. b == char.dot) name

-- whether a name is looked up outward, and has two parts or more
abbrev pub has_parts : Text → Bool
has_parts name = not (begins_with_dot name) && list_any (λ b. b == char.dot) name

-- Whether the first of the scopes that has the first part hasn't the whole; `is` says what full
-- names the whole may have.
abbrev pub is_lost : Sight → (is : Text → Bool) → (first name : Text) → List Scope → Bool
is_lost sight is first name [] = false
is_lost sight is first name (scope ∷ scopes) =
    if holds_names sight (full_name scope first) then not (is (full_name scope name))
    else is_lost sight is first name scopes

-- whether the name is resolved inside of something that hasn't it
abbrev pub is_resolved_inside : Viewpoint → (is : Text → Bool) → Text → Bool
is_resolved_inside at is name =
    has_parts name && is_lost at.sight is (first_part name) name (fronts at.scope)

-- ---- T13

-- at the name of a message or an enum
abbrev pub type_name_breaches : Viewpoint → Place → Text → List TextBreach
type_name_breaches at place name =
    breach_if (is_resolved_inside at (is_type at.sight) name) rule.NameResolvedInside place name

-- the name that is a type
abbrev pub name_of_type : TypeSyntax → List Text
name_of_type (named name) = name ∷ []
name_of_type _ = []

-- those that a field's type has: of a map that of its values
abbrev pub names_of_type : TypeSyntax → List Text
names_of_type (map_of k v) = name_of_type v
names_of_type t = name_of_type t

-- at those of a field
abbrev pub type_breaches : Viewpoint → Place → TypeSyntax → List TextBreach
type_breaches at place t = flat_map (type_name_breaches at place) (names_of_type t)

-- at a part of an option's name
abbrev pub part_breaches : Viewpoint → Place → OptionPartSyntax → List TextBreach
part_breaches at place (direct name) = []
part_breaches at place (extension name) =
    breach_if (is_resolved_inside at (is_extension at.sight) name) rule.NameResolvedInside place
    name

-- at all parts
abbrev pub option_name_breaches : Viewpoint → Place → OptionNameSyntax → List TextBreach
option_name_breaches at place (builtin name) = []
option_name_breaches at place (custom parts) = flat_map (part_breaches at place) parts

-- those of an option
abbrev pub named_option_breaches : Viewpoint → OptionSyntax → List TextBreach
named_option_breaches at o = option_name_breaches at o.place o.name

-- ---- methods

-- the name of the method that a statement of a service declares
abbrev pub method_name : ServiceStatementSyntax → List Text
method_name (service_method m) = m.name ∷ []
method_name (service_option o) = []

-- whether a statement among these declares the method of that name
abbrev pub is_method : List ServiceStatementSyntax → Text → Bool
is_method body name = stands_in name (flat_map method_name body)

-- at the name of a message in a service
abbrev pub method_type_breaches : Viewpoint → (is_method : Text → Bool) → Place → Text
    → List TextBreach
method_type_breaches at is_method place name =
    breach_if (is_method name || is_resolved_inside at (is_type at.sight) name)
    rule.NameResolvedInside place name

-- at those of what a method takes and returns
abbrev pub method_types_breaches : Viewpoint → (is_method : Text → Bool) → MethodSyntax
    → List TextBreach
method_types_breaches at is_method m =
    method_type_breaches at is_method m.place m.input
    ++ method_type_breaches at is_method m.place m.output
