-- No public clause rests on this file.
-- What the code reads of an index of spots, and what it adds to it.
use Rattle.std.specs.Prelude.{◌≡◌, ℕ, List, [], ◌∷◌, ◌++◌, map, flat_map, filter, bytes_eq, nat_eq}
use Rattle.std.specs.Prelude.{String, string_bytes, Option, Some, None, ℤ, option_to_list}
use Rattle.std.specs.Prelude.{if◌then◌else◌}
use Rattle.std.specs.Borrow.{Bor}
use Rattle.std.specs.Global.{Global, Vec}
use Rattle.std.specs.BTreeMap.{BTreeMap}
use Rattle.std.specs.Option.{option_or}
use Rattle.protobuf_parse_model.specs.declared.descriptor.DescriptorProto.{DescriptorProto}
use Rattle.protobuf_parse_model.specs.declared.descriptor.EnumDescriptorProto.{EnumDescriptorProto}
use Rattle.protobuf_parse_model.specs.Descriptors.{Text, FileDescriptor, FieldDescriptor}
use Rattle.protobuf_parse_model.specs.Descriptors.{EnumDescriptor, MessageDescriptor, message_view}
use Rattle.protobuf_parse_model.specs.Descriptors.{enum_view, field_view}
use Rattle.protobuf_parse_options.specs.declared.spots.declared.Spotted.{Spotted}
use Rattle.protobuf_parse_options.specs.declared.spots.members.Members.{Members}
use Rattle.protobuf_parse_options.specs.declared.spots.picked.PickedFiles.{PickedFiles}
use Rattle.protobuf_parse_options.specs.declared.spots.Spot.{Spot}
use Rattle.protobuf_parse_options.specs.Spots.{Inside, SpottedView, inside_file, enums_inside}
use Rattle.protobuf_parse_options.specs.SpotsInside.{down, one_inside, messages_inside}
use Rattle.protobuf_parse_options.specs.Positioned.{field_inside, number_inside}
use Rattle.protobuf_parse_options.specs.Positions.{kept_position}
use Rattle.protobuf_parse_options.specs.Holding.{SpotView, files_under, spots_under}

abbrev pub members_view : Members → Inside
members_view m = record {
  messages = map message_view m.messages.now;
  enums = map enum_view m.enums.now;
  extensions = map field_view m.extensions.now;
}

-- what the code's lists have, with its spot
abbrev pub spotted_view : {T U : Type 0} → (T → U) → Spotted T → SpottedView U
spotted_view seen k = record {
  name = string_bytes k.name;
  path = k.path.items;
  index = k.index;
  what = seen k.what;
}

abbrev pub message_seen : Bor DescriptorProto → MessageDescriptor
message_seen m = message_view m.now

abbrev pub enum_seen : Bor EnumDescriptorProto → EnumDescriptor
enum_seen e = enum_view e.now

abbrev pub spotted_by : {T U : Type 0} → (T → U) → List (Spotted (Bor T)) → List (SpottedView U)
spotted_by {T = T} seen ks = map (spotted_view (λ (k : Bor T). seen k.now)) ks

abbrev pub messages_spotted : List (Spotted (Bor DescriptorProto))
    → List (SpottedView MessageDescriptor)
messages_spotted ks = spotted_by message_view ks

-- those of what the code's list has
abbrev pub spot_of : {T : Type 0} → (T → List Text) → ℕ → Spotted (Bor T) → SpotView
spot_of parts file k = record {
  file = file;
  path = k.path.items;
  index = k.index;
  position = kept_position (parts k.what.now);
}

abbrev pub spots_of_list : {T : Type 0} → (T → List Text) → ℕ → Text → List (Spotted (Bor T))
    → List SpotView
spots_of_list parts file name ks =
    map (spot_of parts file) (filter (λ k. bytes_eq name (string_bytes k.name)) ks)

-- these spots were added behind the others of each name
abbrev pub AddsSpots : (old new : BTreeMap (String Global) (Vec Spot))
    → (Text → List SpotView)
    → Type 0
AddsSpots old new added = (name : Text) → spots_under new name ≡ spots_under old name ++ added name

abbrev pub option_join : {T : Type 0} → Option (Option T) → Option T
option_join None = None
option_join (Some o) = o

-- the file with the number, where the numbers stand beside files
abbrev pub beside : List ℕ → List (Option FileDescriptor) → ℕ → Option FileDescriptor
beside [] files n = None
beside (m ∷ ms) [] n = None
beside (m ∷ ms) (f ∷ fs) n = if nat_eq n m then f else beside ms fs n

abbrev pub file_numbered : PickedFiles → ℕ → Option FileDescriptor
file_numbered picked n = beside picked.numbers.now (files_under picked) n

-- what stands at a spot, if its file is among those that are picked
abbrev pub inside_of : Option FileDescriptor → List ℕ → Option Inside
inside_of None path = None
inside_of (Some file) path = down (Some (inside_file file)) path

abbrev pub at_spot : {T : Type 0} → (Inside → List T) → PickedFiles → SpotView → Option T
at_spot list picked s = one_inside list (inside_of (file_numbered picked s.file) s.path) s.index

abbrev pub at_spots : {T : Type 0} → (Inside → List T) → PickedFiles → List SpotView → List T
at_spots list picked spots = flat_map (λ s. option_to_list (at_spot list picked s)) spots

-- what is found first
abbrev pub found_by : {A : Type 0} → (SpotView → Option A) → List SpotView → Option A
found_by look [] = None
found_by look (s ∷ ss) = option_or (look s) (found_by look ss)

-- the field of that name in the message at a spot
abbrev pub field_there : PickedFiles → Text → SpotView → Option FieldDescriptor
field_there picked name s = field_inside s.position (at_spot messages_inside picked s) name

-- the number of the value of that name in the enum at a spot
abbrev pub number_there : PickedFiles → Text → SpotView → Option ℤ
number_there picked name s = number_inside s.position (at_spot enums_inside picked s) name
