-- What the fields of `FileLocations` say: its invariant, which callers do not see.
use Rattle.std.specs.Prelude.{◌≡◌, ℕ, [], find, map, bytes_eq, string_bytes}
use Rattle.std.specs.BTreeMap.{get_by_text}
use Rattle.std.specs.Option.{option_copied}
use Rattle.protobuf_parse_model.specs.Descriptors.{Text}
use Rattle.protobuf_parse_source_info.specs.Parts.{at}
use Rattle.protobuf_parse_source_info.specs.Walks.{Path}
use Rattle.protobuf_parse_source_info.specs.Views.{location_view}
use Rattle.protobuf_parse_source_info.specs.declared.info.Location.{Location}
use Rattle.protobuf_parse_locations.specs.Kept.{first_at, part_kept, path_kept}
use Rattle.protobuf_parse_locations.specs.Views.{FileSeen, declaration_view}
use Rattle.protobuf_parse_locations.specs.declared.declaration.Declaration.{Declaration}
use Rattle.protobuf_parse_locations.specs.declared.file_locations.FileLocations.TheInside.{Inside}

-- the declarations and the locations
abbrev pub seen : Inside → FileSeen
seen i = record {
  declarations = map declaration_view i.declarations.items;
  locations = map location_view i.locations.now;
}

-- The maps have of each name and path the position of the first.
pub record IsKept (i : Inside) : Type 0 where
  pub names : (q : Text) → get_by_text i.by_name q
      ≡ first_at (λ (d : Declaration). bytes_eq q (string_bytes d.full_name)) i.declarations.items
  pub paths : (q : Path) → path_kept i.by_path q
      ≡ first_at (λ (d : Declaration). bytes_eq q d.path.items) i.declarations.items
  pub parts : (q : Path) (n : ℕ) → part_kept i.by_part q n
      ≡ first_at (λ (l : Location). bytes_eq (at q n) l.path.items) i.locations.now
  pub whole : option_copied i.whole
      ≡ find (λ (l : Location). bytes_eq [] l.path.items) i.locations.now
