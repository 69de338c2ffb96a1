-- What full names and paths mean in a file: of several declarations of one name, or locations of
-- one path, the first.
use Rattle.std.specs.Prelude.{ℕ, List, find, Option, bytes_eq}
use Rattle.std.specs.Option.{option_and_then}
use Rattle.protobuf_parse_model.specs.Descriptors.{Text}
use Rattle.protobuf_parse_source_info.specs.Info.{LocationSyntax}
use Rattle.protobuf_parse_source_info.specs.Parts.{at}
use Rattle.protobuf_parse_source_info.specs.Walks.{Path}
use Rattle.protobuf_parse_locations.specs.Declarations.{DeclarationAt}

-- the declaration of the full name
abbrev pub declaration_named : List DeclarationAt → Text → Option DeclarationAt
declaration_named ds name = find (λ (d : DeclarationAt). bytes_eq name d.name) ds

-- the declaration of the path
abbrev pub declaration_at : List DeclarationAt → Path → Option DeclarationAt
declaration_at ds p = find (λ (d : DeclarationAt). bytes_eq p d.path) ds

-- the location of the path
abbrev pub location_at : List LocationSyntax → Path → Option LocationSyntax
location_at ls p = find (λ (l : LocationSyntax). bytes_eq p l.path) ls

-- the location of a part of what stands at the path: of the field of that number
abbrev pub part_at : List LocationSyntax → Path → ℕ → Option LocationSyntax
part_at ls p n = location_at ls (at p n)

-- where the declaration of the full name stands
abbrev pub location_named : List DeclarationAt → List LocationSyntax → Text
    → Option LocationSyntax
location_named ds ls name =
    option_and_then (λ (d : DeclarationAt). location_at ls d.path) (declaration_named ds name)

-- where a part of the declaration of the full name stands
abbrev pub part_named : List DeclarationAt → List LocationSyntax → Text → ℕ
    → Option LocationSyntax
part_named ds ls name n =
    option_and_then (λ (d : DeclarationAt). part_at ls d.path n) (declaration_named ds name)
