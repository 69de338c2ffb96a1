-- What look-ups find by the fields of an index.
use Rattle.std.proofs.Common.{◌≡◌, ℕ, ℤ, List, map, sym, ap, ◌∙◌, Option, string_bytes}
use Rattle.std.specs.Prelude.{bytes_eq, String}
use Rattle.std.specs.Borrow.{Bor}
use Rattle.std.specs.BTreeMap.{BTreeMap, get_by_text}
use Rattle.std.specs.Global.{Global}
use Rattle.std.specs.Prelude.{slice_get}
use Rattle.std.specs.Option.{option_and_then, option_copied}
use Rattle.protobuf_parse_model.specs.Descriptors.{FileDescriptor, Text, file_view}
use Rattle.protobuf_parse_model.specs.declared.descriptor.EnumValueDescriptorProto.{EnumValueDescriptorProto}
use Rattle.protobuf_parse_model.specs.declared.descriptor.FieldDescriptorProto.{FieldDescriptorProto}
use Rattle.protobuf_parse_model.specs.declared.descriptor.FileDescriptorProto.{FileDescriptorProto}
use Rattle.protobuf_parse_index.specs.Keeping.{Indexes, files_seen}
use Rattle.protobuf_parse_index.specs.Kept.{HasPaths, HasPositions, field_at, first_at, own_fields}
use Rattle.protobuf_parse_index.specs.Kept.{own_values, value_at}
use Rattle.protobuf_parse_index.specs.Lookups.{own_field, own_value}
use Rattle.protobuf_parse_index.specs.Views.{standing}
use Rattle.protobuf_parse_index.specs.Walk.{Standing, path_of}
use Rattle.protobuf_parse_index.specs.declared.declared.Declared.{Declared}
use Rattle.protobuf_parse_index.specs.declared.index.Index.TheInside.{Inside}
use Rattle.protobuf_parse_index.proofs.Positions.{first_at-map, numbered_there}

abbrev FieldMap : Type 0
FieldMap = BTreeMap ℤ (Bor FieldDescriptorProto)

abbrev ValueMap : Type 0
ValueMap = BTreeMap ℤ (Bor EnumValueDescriptorProto)

pub own_field_there : (i : Inside) (files : List FileDescriptorProto) (maps : List FieldMap)
    (r : Option (Bor FieldMap)) (name : Text) (n : ℤ)
    → Indexes (map file_view i.files.now) i → files_seen i ≡ files → maps ≡ i.fields.items
    → option_copied r ≡ option_and_then (slice_get maps) (get_by_text i.messages_by_name name)
    → option_and_then (λ (m : Bor FieldMap). field_at m.now n) r
    ≡ own_field (map file_view files) name n
own_field_there i files maps r name n keeps is same gives =
    numbered_there field_at own_fields (λ x. bytes_eq name x.name) maps _ r _ n gives
    (ap (map field_at) same ∙ keeps.fields) (keeps.messages.at name)
    ∙ ap (λ (fs : List FileDescriptorProto). own_field (map file_view fs) name n) is

pub own_value_there : (i : Inside) (files : List FileDescriptorProto) (maps : List ValueMap)
    (r : Option (Bor ValueMap)) (name : Text) (n : ℤ)
    → Indexes (map file_view i.files.now) i → files_seen i ≡ files → maps ≡ i.values.items
    → option_copied r ≡ option_and_then (slice_get maps) (get_by_text i.enums_by_name name)
    → option_and_then (λ (m : Bor ValueMap). value_at m.now n) r
    ≡ own_value (map file_view files) name n
own_value_there i files maps r name n keeps is same gives =
    numbered_there value_at own_values (λ x. bytes_eq name x.name) maps _ r _ n gives
    (ap (map value_at) same ∙ keeps.values) (keeps.enums.at name)
    ∙ ap (λ (fs : List FileDescriptorProto). own_value (map file_view fs) name n) is

pub has_positions : {T X : Type 0} (view : T → X) (positions : BTreeMap (String Global) ℕ)
    (lent items : List (Declared T)) (xs : List (Standing X))
    → ((q : Text) → get_by_text positions q
    ≡ first_at (λ (d : Declared T). bytes_eq q (string_bytes d.full_name)) lent)
    → lent ≡ items → map (standing view) items ≡ xs → HasPositions positions xs
has_positions {T} {X} view positions lent items xs at same is = record {
  at = λ q. at q
      ∙ ap (first_at (λ (d : Declared T). bytes_eq q (string_bytes d.full_name))) same
      ∙ sym (first_at-map (standing view) (λ (x : Standing X). bytes_eq q x.name) items)
      ∙ ap (first_at (λ (x : Standing X). bytes_eq q x.name)) is;
}

pub has_paths : (positions : BTreeMap (String Global) ℕ) (files : List FileDescriptorProto)
    → ((q : Text) → get_by_text positions q
    ≡ first_at (λ (f : FileDescriptorProto). bytes_eq q (path_of (file_view f))) files)
    → HasPaths positions (map file_view files)
has_paths positions files at = record {
  at = λ q. at q
      ∙ sym (first_at-map file_view (λ (f : FileDescriptor). bytes_eq q (path_of f)) files);
}
