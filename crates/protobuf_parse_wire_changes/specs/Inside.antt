-- No public clause rests on this file.
-- What the code passes on, as the definitions have it.
use Rattle.std.specs.Prelude.{map}
use Rattle.std.specs.Option.{option_copied}
use Rattle.protobuf_parse_model.specs.Descriptors.{file_view}
use Rattle.protobuf_parse_decode.specs.Sorts.{sort_of}
use Rattle.protobuf_parse_wire_changes.specs.declared.fields.Field.{Field}
use Rattle.protobuf_parse_wire_changes.specs.declared.field_changes.Compared.{Compared}
use Rattle.protobuf_parse_wire_changes.specs.Changes.{Comparison, Typed}
use Rattle.protobuf_parse_wire_changes.specs.Kept.{partner_seen}

-- a field's declaration
abbrev pub typed_view : Field → Typed
typed_view f = record {
  type_ = f.field_type;
  declared = record {
    sort = sort_of f.utf8 f.field_type;
    repeated = f.repeated;
    type_name = option_copied f.type_name;
  };
}

-- what is compared
abbrev pub compared_view : Compared → Comparison
compared_view c = record {
  strength = c.strength;
  old = map file_view c.old.now;
  new = map file_view c.new.now;
  partners = partner_seen c.partners.now;
}
