-- Declarations and locations without where they lie in memory.
use Rattle.std.specs.Prelude.{List, Option, option_map, string_bytes}
use Rattle.std.specs.Borrow.{Bor}
use Rattle.protobuf_parse_source_info.specs.Info.{LocationSyntax}
use Rattle.protobuf_parse_source_info.specs.Views.{location_view}
use Rattle.protobuf_parse_source_info.specs.declared.info.Location.{Location}
use Rattle.protobuf_parse_locations.specs.Declarations.{DeclarationAt}
use Rattle.protobuf_parse_locations.specs.declared.declaration.Declaration.{Declaration}

-- a declaration
abbrev pub declaration_view : Declaration → DeclarationAt
declaration_view d =
    record { kind = d.kind; name = string_bytes d.full_name; path = d.path.items }

-- what a file declares, and its locations
pub record FileSeen : Type 0 where
  pub declarations : List DeclarationAt
  pub locations : List LocationSyntax

-- ---- what a look-up gives

-- a declaration, if one is found
abbrev pub declaration_found : Option (Bor Declaration) → Option DeclarationAt
declaration_found found = option_map (λ (d : Bor Declaration). declaration_view d.now) found

-- a location, if one is found
abbrev pub location_found : Option (Bor Location) → Option LocationSyntax
location_found found = option_map (λ (l : Bor Location). location_view l.now) found
