-- The values of the enums of google/protobuf/descriptor.proto by their numbers there.
use Rattle.std.specs.Prelude.{ℤ, pos, Option, Some, None, if◌then◌else◌}
use Rattle.std.specs.Ordering.{int_eq}
use Rattle.protobuf_parse_syntax.specs.declared.tree.field.Label.{Label}
use Rattle.protobuf_parse_syntax.specs.declared.tree.field.Label.TheVariants as label
use Rattle.protobuf_parse_model.specs.declared.descriptor.FieldType.{FieldType}
use Rattle.protobuf_parse_model.specs.declared.descriptor.FieldType.TheVariants as type
use Rattle.protobuf_parse_model.specs.declared.descriptor.options.OptimizeMode.{OptimizeMode}
use Rattle.protobuf_parse_model.specs.declared.descriptor.options.OptimizeMode.TheVariants as mode
use Rattle.protobuf_parse_model.specs.declared.descriptor.options.CType.{CType}
use Rattle.protobuf_parse_model.specs.declared.descriptor.options.CType.TheVariants as ctype
use Rattle.protobuf_parse_model.specs.declared.descriptor.options.JSType.{JSType}
use Rattle.protobuf_parse_model.specs.declared.descriptor.options.JSType.TheVariants as jstype
use Rattle.protobuf_parse_model.specs.declared.descriptor.options.IdempotencyLevel.{IdempotencyLevel}
use Rattle.protobuf_parse_model.specs.declared.descriptor.options.IdempotencyLevel.TheVariants as level

-- FieldDescriptorProto.Label
unfoldable pub label_numbered : ℤ → Option Label
label_numbered n =
    if int_eq n (pos 1) then Some label.Optional
    else if int_eq n (pos 2) then Some label.Required
    else if int_eq n (pos 3) then Some label.Repeated
    else None

-- FieldDescriptorProto.Type
unfoldable pub type_numbered : ℤ → Option FieldType
type_numbered n =
    if int_eq n (pos 1) then Some type.Double
    else if int_eq n (pos 2) then Some type.Float
    else if int_eq n (pos 3) then Some type.Int64
    else if int_eq n (pos 4) then Some type.Uint64
    else if int_eq n (pos 5) then Some type.Int32
    else if int_eq n (pos 6) then Some type.Fixed64
    else if int_eq n (pos 7) then Some type.Fixed32
    else if int_eq n (pos 8) then Some type.Bool
    else if int_eq n (pos 9) then Some type.String
    else if int_eq n (pos 10) then Some type.Group
    else if int_eq n (pos 11) then Some type.Message
    else if int_eq n (pos 12) then Some type.Bytes
    else if int_eq n (pos 13) then Some type.Uint32
    else if int_eq n (pos 14) then Some type.Enum
    else if int_eq n (pos 15) then Some type.Sfixed32
    else if int_eq n (pos 16) then Some type.Sfixed64
    else if int_eq n (pos 17) then Some type.Sint32
    else if int_eq n (pos 18) then Some type.Sint64
    else None

-- FileOptions.OptimizeMode
unfoldable pub optimize_mode_numbered : ℤ → Option OptimizeMode
optimize_mode_numbered n =
    if int_eq n (pos 1) then Some mode.Speed
    else if int_eq n (pos 2) then Some mode.CodeSize
    else if int_eq n (pos 3) then Some mode.LiteRuntime
    else None

-- FieldOptions.CType
unfoldable pub ctype_numbered : ℤ → Option CType
ctype_numbered n =
    if int_eq n (pos 0) then Some ctype.String
    else if int_eq n (pos 1) then Some ctype.Cord
    else if int_eq n (pos 2) then Some ctype.StringPiece
    else None

-- FieldOptions.JSType
unfoldable pub jstype_numbered : ℤ → Option JSType
jstype_numbered n =
    if int_eq n (pos 0) then Some jstype.JsNormal
    else if int_eq n (pos 1) then Some jstype.JsString
    else if int_eq n (pos 2) then Some jstype.JsNumber
    else None

-- MethodOptions.IdempotencyLevel
unfoldable pub idempotency_level_numbered : ℤ → Option IdempotencyLevel
idempotency_level_numbered n =
    if int_eq n (pos 0) then Some level.IdempotencyUnknown
    else if int_eq n (pos 1) then Some level.NoSideEffects
    else if int_eq n (pos 2) then Some level.Idempotent
    else None
