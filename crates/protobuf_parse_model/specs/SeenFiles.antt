-- What the code has of the files that are seen: names, and the table of their declarations.
use Rattle.std.specs.Prelude.{ℕ, List, [], ◌∷◌, map, nat_eq}
use Rattle.std.specs.Prelude.{Option, Some, None, option_map, if◌then◌else◌, string_bytes}
use Rattle.std.specs.Borrow.{Bor}
use Rattle.std.specs.List.{list_any}
use Rattle.std.specs.Option.{option_or}
use Rattle.protobuf_parse_model.specs.declared.scope.Context.{Context}
use Rattle.protobuf_parse_model.specs.declared.scope.Meaning.{Meaning}
use Rattle.protobuf_parse_model.specs.declared.scope.seen.TypeKind.{TypeKind}
use Rattle.protobuf_parse_model.specs.declared.scope.seen.TypeKind.TheVariants as kind
use Rattle.protobuf_parse_model.specs.declared.scope.seen.DeclarationKind.{DeclarationKind}
use Rattle.protobuf_parse_model.specs.declared.scope.seen.DeclarationKind.TheVariants as declaration
use Rattle.protobuf_parse_model.specs.declared.scope.seen.Declaration.{Declaration}
use Rattle.protobuf_parse_model.specs.declared.scope.seen.Declarations.{Declarations}
use Rattle.protobuf_parse_model.specs.declared.scope.seen.Seen.{Seen}
use Rattle.protobuf_parse_model.specs.Descriptors.{Text}
use Rattle.protobuf_parse_model.specs.ByHash.{declared_by_hash}
use Rattle.protobuf_parse_model.specs.Declarations as declared
use Rattle.protobuf_parse_model.specs.Declarations.{DeclaredType, a_message, an_enum}
use Rattle.protobuf_parse_model.specs.Environment.{Environment, Customs, no_customs}

-- names as texts
abbrev pub name_texts : List (Bor (List ℕ)) → List Text
name_texts names = map (λ (s : Bor (List ℕ)). s.now) names

-- which of the two a type is
abbrev pub kind_view : TypeKind → declared.MessageOrEnum
kind_view kind.Message = a_message
kind_view kind.Enum = an_enum

-- what kind of type is declared, where a written name may mean it
abbrev pub type_kind : DeclarationKind → Option TypeKind
type_kind declaration.Message = Some kind.Message
type_kind declaration.Enum = Some kind.Enum
type_kind declaration.Generated = None
type_kind declaration.Extension = None

-- the type that the first declaration declares that is of one and stands in a file with one of
-- these numbers
abbrev pub first_type : List ℕ → List Declaration → Option TypeKind
first_type sight [] = None
first_type sight (d ∷ ds) = if list_any (nat_eq d.file) sight
    then option_or (type_kind d.kind) (first_type sight ds) else first_type sight ds

-- the declarations of the full name
abbrev pub declared_as : Declarations → Text → List Declaration
declared_as ds name = declared_by_hash ds.by_hash.items name

-- a type of that name
abbrev pub declared_type : Text → TypeKind → DeclaredType
declared_type name k = record { name = name; what = kind_view k }

-- which type a full name means, among those of the files that are seen
abbrev pub seen_types : Seen → Text → Option DeclaredType
seen_types seen name =
    option_map (declared_type name)
    (first_type seen.sight.now (declared_as seen.declarations.now name))

-- what a name was found to mean
abbrev pub meaning_view : Meaning → DeclaredType
meaning_view m = record { name = string_bytes m.name; what = kind_view m.kind }

-- from where a construct is seen
abbrev pub environment_in : Customs → Context → Environment
environment_in customs c =
    record {
      syntax = c.syntax;
      types = seen_types c.seen;
      scope = name_texts c.scope.now;
      customs = customs;
    }

-- the environment that names of types are looked up in, which custom options are no part of
abbrev pub names_of_context : Context → Environment
names_of_context c = environment_in no_customs c
