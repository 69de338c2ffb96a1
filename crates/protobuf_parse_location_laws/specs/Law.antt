-- That each declaration of a file's descriptor has its locations in the source info of the text.
use Rattle.std.specs.Prelude.{◌≡◌, List, []}
use Rattle.std.specs.List.{AllByRecursion, Any}
use Rattle.protobuf_parse_lexer.specs.Text.{Bytes}
use Rattle.protobuf_parse_syntax.specs.Parsing.{HasTree}
use Rattle.protobuf_parse_syntax.specs.Trees.{FileSyntax}
use Rattle.protobuf_parse_source_info.specs.Info.{LocationSyntax, info}
use Rattle.protobuf_parse_source_info.specs.Parts.{at}
use Rattle.protobuf_parse_source_info.specs.Spots.{Spot}
use Rattle.protobuf_parse_source_info.specs.Walks.{Path}
use Rattle.protobuf_parse_model.specs.Descriptors.{FileDescriptor, Text}
use Rattle.protobuf_parse_model.specs.Environment.{Environment}
use Rattle.protobuf_parse_elaboration.specs.FileDescriptor.{file_faults, file_of}
use Rattle.protobuf_parse_locations.specs.Declarations.{DeclarationAt, declarations_of}
use Rattle.protobuf_parse_location_laws.specs.Standing.{ExtendHasNoMaps, MapHasNoLabel}
use Rattle.protobuf_parse_location_laws.specs.Standing.{OneofHasNoLabels, Throughout}
use Rattle.protobuf_parse_location_laws.specs.Written.{HasNoEntries, written_declarations}

-- A location of that path is among these.
abbrev pub HasLocation : Path → List LocationSyntax → Type 0
HasLocation p ls = Any (λ (l : LocationSyntax). l.path ≡ p) ls

-- What is declared has its location, and one of its name, which is field 1 of each descriptor.
pub record IsLocated (ls : List LocationSyntax) (d : DeclarationAt) : Type 0 where
  pub itself : HasLocation d.path ls
  pub name : HasLocation (at d.path 1) ls

-- All that the descriptor of a tree declares, and that is written, has its locations in the source
-- info of the tree.
abbrev pub AllAreLocated : Bytes → List Spot → Environment → Text → FileSyntax → Type 0
AllAreLocated text spots env path t =
    AllByRecursion (IsLocated (info text spots t)) (written_declarations (file_of env path t))

-- It is so of each tree in which no map of a message has a label, no field of a oneof has one, and
-- no map stands in an `extend`. No token matters.
abbrev pub DeclarationsAreLocated : Type 0
DeclarationsAreLocated = (text : Bytes) (spots : List Spot) (env : Environment) (path : Text)
    (t : FileSyntax) → Throughout MapHasNoLabel t → Throughout OneofHasNoLabels t
    → Throughout ExtendHasNoMaps t → AllAreLocated text spots env path t

-- It is so of the tree of each text in which no map of a message has a label, if nothing is wrong
-- in the file.
abbrev pub DeclarationsOfTextsAreLocated : Type 0
DeclarationsOfTextsAreLocated = (text : Bytes) (spots : List Spot) (env : Environment) (path : Text)
    (t : FileSyntax) → HasTree text t → Throughout MapHasNoLabel t → file_faults env t ≡ []
    → AllAreLocated text spots env path t

-- Declarations that are not written are those of maps' entries: without these all are written.
abbrev pub EntriesAloneAreLeftOut : Type 0
EntriesAloneAreLeftOut = (f : FileDescriptor) → AllByRecursion HasNoEntries f.message_type
    → written_declarations f ≡ declarations_of f
