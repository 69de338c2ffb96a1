-- No public clause rests on this file.
-- What the code's values say.
use Rattle.std.specs.Prelude.{◌≡◌, Option, Some, None, String, option_map, map}
use Rattle.std.specs.Prelude.{bytes_eq, if◌then◌else◌, string_bytes}
use Rattle.std.specs.Option.{option_or}
use Rattle.std.specs.BTreeMap.{BTreeMap, get_by_text}
use Rattle.std.specs.Global.{Global}
use Rattle.protobuf_parse_model.specs.declared.descriptor.FieldType.{FieldType}
use Rattle.protobuf_parse_records.specs.Views.{WireRecord, record_view}
use Rattle.protobuf_parse_records.specs.declared.wire.Record.{Record}
use Rattle.protobuf_parse_set_reader.specs.declared.body.Body.{Body}
use Rattle.protobuf_parse_set_reader.specs.Values.{BodyView}
use Rattle.protobuf_parse_set_reader.specs.TypeNames.{TypeName, Types}
use Rattle.protobuf_parse_set_reader.specs.declared.type_names.TypeName as code
use Rattle.protobuf_parse_model.specs.Descriptors.{Text}

-- a message, one level deep
abbrev pub body_view : Body → BodyView
body_view b = record { start = b.start; records = map record_view b.records.items }

-- a record, if there is one
abbrev pub record_seen : Option Record → Option WireRecord
record_seen r = option_map record_view r

-- what is declared by a full name
abbrev pub types_view : BTreeMap (String Global) FieldType → Types
types_view names = λ name. get_by_text names name

-- a full name
abbrev pub type_name_view : code.TypeName → TypeName
type_name_view t = record { name = string_bytes t.name; type_ = t.type_ }

-- One more name is declared, unless it was already.
abbrev pub Puts : BTreeMap (String Global) FieldType → BTreeMap (String Global) FieldType
    → TypeName → Type 0
Puts old new t = (name : Text)
    → types_view new name
    ≡ option_or (types_view old name) (if bytes_eq t.name name then Some t.type_ else None)
