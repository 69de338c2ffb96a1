-- What the index of a run holds: the spots of what files declare, by full name.
use Rattle.std.specs.Prelude.{◌≡◌, ℕ, suc, List, [], ◌∷◌, ◌++◌, map, flat_map, filter, bytes_eq}
use Rattle.std.specs.Prelude.{String, Option, option_map}
use Rattle.std.specs.Prelude.{option_to_list, slice_get}
use Rattle.std.specs.List.{AllByRecursion}
use Rattle.std.specs.Borrow.{Bor}
use Rattle.std.specs.Global.{Global, Vec}
use Rattle.std.specs.BTreeMap.{BTreeMap, get_by_text}
use Rattle.protobuf_parse_model.specs.declared.descriptor.FileDescriptorProto.{FileDescriptorProto}
use Rattle.protobuf_parse_model.specs.Descriptors.{Text, FileDescriptor}
use Rattle.protobuf_parse_model.specs.Descriptors.{file_view}
use Rattle.protobuf_parse_options.specs.declared.spots.picked.PickedFiles.{PickedFiles}
use Rattle.protobuf_parse_options.specs.declared.spots.Spot.{Spot}
use Rattle.protobuf_parse_options.specs.declared.spots.Spots.{Spots}
use Rattle.protobuf_parse_base.specs.Multimaps.{values_under}
use Rattle.protobuf_parse_options.specs.OptionFields.{declared_enums}
use Rattle.protobuf_parse_options.specs.Spots.{SpottedView}
use Rattle.protobuf_parse_options.specs.Spots.{spotted_enums, spotted_extensions, spotted_messages}
use Rattle.protobuf_parse_options.specs.Positions.{extension_parts, field_names}
use Rattle.protobuf_parse_options.specs.Positions.{kept_position, value_names}
use Rattle.protobuf_parse_options.specs.SmallValues.{HaveSmall}

-- a spot in the file with a number, and the positions that are kept of the parts of what stands
-- there, by their names
pub record SpotView : Type 0 where
  pub file : ℕ
  pub path : List ℕ
  pub index : ℕ
  pub position : Text → Option ℕ

-- what the Rust value says
abbrev pub spot_view : Spot → SpotView
spot_view p = record {
  file = p.file;
  path = p.path.items;
  index = p.index;
  position = get_by_text p.positions;
}

-- ---- under names

-- those that are kept under a name
abbrev pub spots_under : BTreeMap (String Global) (Vec Spot) → Text → List SpotView
spots_under spots name = map spot_view (values_under spots name)

-- a spot with the positions of its parts, in the file with this number
abbrev pub spot_in : {T : Type 0} → (T → List Text) → ℕ → SpottedView T → SpotView
spot_in parts file p = record {
  file = file;
  path = p.path;
  index = p.index;
  position = kept_position (parts p.what);
}

-- the spots of what has the name, in the file with this number
abbrev pub spots_in : {T : Type 0} → (T → List Text) → ℕ → Text → List (SpottedView T)
    → List SpotView
spots_in parts file name ps = map (spot_in parts file) (filter (λ p. bytes_eq name p.name) ps)

-- the same in files, of which the first has the number n and each next one the next number
abbrev pub spots_in_files : {T : Type 0} → (T → List Text) → (FileDescriptor → List (SpottedView T))
    → Text
    → ℕ → List FileDescriptor → List SpotView
spots_in_files parts listed name n [] = []
spots_in_files parts listed name n (f ∷ fs) =
    spots_in parts n name (listed f) ++ spots_in_files parts listed name (suc n) fs

-- The index has the spots of what the files declare, in their order. The numbers of enums' values
-- have 32 bits.
pub record Holds (spots : Spots) (files : List FileDescriptor) : Type 0 where
  pub messages : (name : Text)
      → spots_under spots.messages name ≡ spots_in_files field_names spotted_messages name 0 files
  pub enums : (name : Text)
      → spots_under spots.enums name ≡ spots_in_files value_names spotted_enums name 0 files
  pub extensions : (name : Text)
      → spots_under spots.extensions name
      ≡ spots_in_files extension_parts spotted_extensions name 0 files
  pub small : AllByRecursion (λ f. HaveSmall (declared_enums f)) files

-- ---- the files that are picked

-- a descriptor that is lent
abbrev pub file_seen : Bor FileDescriptorProto → FileDescriptor
file_seen f = file_view f.now

-- those under the numbers that are picked; a number may have none
abbrev pub files_under : PickedFiles → List (Option FileDescriptor)
files_under picked = map (option_map file_seen) picked.files.now

-- the descriptors that are picked, without where they lie in memory
abbrev pub files_seen : PickedFiles → List FileDescriptor
files_seen picked = flat_map option_to_list (files_under picked)

-- They are those of the files, by their numbers.
abbrev pub Picks : List FileDescriptor → PickedFiles → Type 0
Picks files picked = files_under picked ≡ map (slice_get files) picked.numbers.now

-- The index holds what some files declare, of which these are picked, and those.
pub record Knows (spots : Spots) (reach sight : PickedFiles) : Type 0 where
  pub files : List FileDescriptor
  pub holds : Holds spots files
  pub reached : Picks files reach
  pub seen : Picks files sight
