-- What files declare more than once.
--
-- In a file and all that it reaches a full name is declared once: as a message or an enum, those
-- behind maps and groups counted with them (else E5), and once as an extension (else E6). The files
-- are each given once, in any order. Protocol Buffers Language Guide, "Packages"
-- (https://protobuf.dev).
use Rattle.std.specs.Prelude.{ℕ, nat_lt, List, [], ◌∷◌, ◌++◌, map, filter, flat_map, length}
use Rattle.std.specs.Prelude.{Bool, true, false, Option, None, Some, bytes_eq}
use Rattle.protobuf_parse_lexer.specs.declared.lexer.token.Place.{Place}
use Rattle.protobuf_parse_syntax.specs.Trees.{FileSyntax}
use Rattle.protobuf_parse_model.specs.declared.error.ElabErrorKind.{ElabErrorKind}
use Rattle.protobuf_parse_model.specs.declared.error.ElabErrorKind.TheVariants.{TypeDeclaredTwice}
use Rattle.protobuf_parse_model.specs.declared.error.ElabErrorKind.TheVariants.{ExtensionDeclaredTwice}
use Rattle.protobuf_parse_model.specs.Descriptors.{Text}
use Rattle.protobuf_parse_model.specs.Faults.{Fault, placed}
use Rattle.protobuf_parse_model.specs.Duplicates.{fault}
use Rattle.protobuf_parse_model.specs.Declarations.{DeclaredType, DeclaredExtension, file_types}
use Rattle.protobuf_parse_model.specs.Declarations.{file_generated, file_extensions}

-- the full names of messages and enums, also of those behind maps and groups; and of extensions
abbrev pub type_names : FileSyntax → List Text
type_names t = map (λ (d : DeclaredType). d.name) (file_types t) ++ file_generated t

-- the full names of extensions
abbrev pub extension_names : FileSyntax → List Text
extension_names t = map (λ (d : DeclaredExtension). d.name) (file_extensions t)

-- those of the extensions of a file, or else those of its messages and enums
abbrev pub full_names : Bool → FileSyntax → List Text
full_names true t = extension_names t
full_names false t = type_names t

-- how often the name stands among these
abbrev pub occurrences : Text → List Text → ℕ
occurrences name names = length (filter (bytes_eq name) names)

-- whether the file, if there is one, declares the name so
abbrev pub declares_name : Bool → Text → Option FileSyntax → Bool
declares_name extension name None = false
declares_name extension name (Some t) = nat_lt 0 (occurrences name (full_names extension t))

-- those of the names that stand more than once
abbrev pub repeated : List Text → List Text
repeated names = filter (λ (name : Text). nat_lt 1 (occurrences name names)) names

-- Whoever sees full names without their statements tells them where the file begins.
abbrev pub beginning : Place
beginning = record { line = 1; col = 1 }

-- that fault of the name
abbrev pub declared_twice : ElabErrorKind → Text → List Fault
declared_twice kind name = placed beginning (fault kind name)

-- E5 and E6 of a file that reaches these files
abbrev pub link_faults : List FileSyntax → List Fault
link_faults reached =
    flat_map (declared_twice TypeDeclaredTwice) (repeated (flat_map type_names reached))
    ++ flat_map (declared_twice ExtensionDeclaredTwice)
    (repeated (flat_map extension_names reached))

-- The faults of a file: those, or where there are none these others. Until each name is declared
-- once, what names mean isn't settled, so that nothing else is looked for.
abbrev pub before_others : List Fault → List Fault → List Fault
before_others [] others = others
before_others (f ∷ fs) others = f ∷ fs
