-- The words by which schemas spell labels, types and the values of options that are enums.
--
-- Labels and types: Protocol Buffers Language Specification (proto2), "Fields" and "Group field"
-- (https://protobuf.dev); what is declared elsewhere by what declares it. The values of options by
-- their names in google/protobuf/descriptor.proto.
use Rattle.std.specs.Prelude.{List, [], ◌∷◌, map, codes}
use Rattle.protobuf_parse_syntax.specs.declared.tree.field.Label.{Label}
use Rattle.protobuf_parse_syntax.specs.declared.tree.field.Label.TheVariants.{Optional, Required}
use Rattle.protobuf_parse_syntax.specs.declared.tree.field.Label.TheVariants.{Repeated}
use Rattle.protobuf_parse_model.specs.declared.descriptor.FieldType.{FieldType}
use Rattle.protobuf_parse_model.specs.declared.descriptor.FieldType.TheVariants as kind
use Rattle.protobuf_parse_model.specs.declared.descriptor.options.OptimizeMode.{OptimizeMode}
use Rattle.protobuf_parse_model.specs.declared.descriptor.options.OptimizeMode.TheVariants.{Speed}
use Rattle.protobuf_parse_model.specs.declared.descriptor.options.OptimizeMode.TheVariants.{CodeSize}
use Rattle.protobuf_parse_model.specs.declared.descriptor.options.OptimizeMode.TheVariants.{LiteRuntime}
use Rattle.protobuf_parse_model.specs.declared.descriptor.options.CType.{CType}
use Rattle.protobuf_parse_model.specs.declared.descriptor.options.CType.TheVariants as ctypes
use Rattle.protobuf_parse_model.specs.declared.descriptor.options.JSType.{JSType}
use Rattle.protobuf_parse_model.specs.declared.descriptor.options.JSType.TheVariants.{JsNormal}
use Rattle.protobuf_parse_model.specs.declared.descriptor.options.JSType.TheVariants.{JsString}
use Rattle.protobuf_parse_model.specs.declared.descriptor.options.JSType.TheVariants.{JsNumber}
use Rattle.protobuf_parse_model.specs.declared.descriptor.options.IdempotencyLevel.{IdempotencyLevel}
use Rattle.protobuf_parse_model.specs.declared.descriptor.options.IdempotencyLevel.TheVariants.{IdempotencyUnknown}
use Rattle.protobuf_parse_model.specs.declared.descriptor.options.IdempotencyLevel.TheVariants.{NoSideEffects}
use Rattle.protobuf_parse_model.specs.declared.descriptor.options.IdempotencyLevel.TheVariants.{Idempotent}
use Rattle.protobuf_parse_model.specs.Descriptors.{Text}

-- ---- fields

-- the word of a label
abbrev pub label_word : Label → Text
label_word Optional = codes "optional"
label_word Required = codes "required"
label_word Repeated = codes "repeated"

-- the word of a type; those of messages, enums and groups are no scalar types
abbrev pub type_word : FieldType → Text
type_word kind.Int32 = codes "int32"
type_word kind.Int64 = codes "int64"
type_word kind.Uint32 = codes "uint32"
type_word kind.Uint64 = codes "uint64"
type_word kind.Sint32 = codes "sint32"
type_word kind.Sint64 = codes "sint64"
type_word kind.Fixed32 = codes "fixed32"
type_word kind.Sfixed32 = codes "sfixed32"
type_word kind.Fixed64 = codes "fixed64"
type_word kind.Sfixed64 = codes "sfixed64"
type_word kind.Bool = codes "bool"
type_word kind.String = codes "string"
type_word kind.Bytes = codes "bytes"
type_word kind.Float = codes "float"
type_word kind.Double = codes "double"
type_word kind.Message = codes "message"
type_word kind.Enum = codes "enum"
type_word kind.Group = codes "group"

-- ---- values of options

-- FileOptions.OptimizeMode
abbrev pub optimize_mode_word : OptimizeMode → Text
optimize_mode_word Speed = codes "SPEED"
optimize_mode_word CodeSize = codes "CODE_SIZE"
optimize_mode_word LiteRuntime = codes "LITE_RUNTIME"

-- FieldOptions.CType
abbrev pub c_type_word : CType → Text
c_type_word ctypes.String = codes "STRING"
c_type_word ctypes.Cord = codes "CORD"
c_type_word ctypes.StringPiece = codes "STRING_PIECE"

-- FieldOptions.JSType
abbrev pub js_type_word : JSType → Text
js_type_word JsNormal = codes "JS_NORMAL"
js_type_word JsString = codes "JS_STRING"
js_type_word JsNumber = codes "JS_NUMBER"

-- MethodOptions.IdempotencyLevel
abbrev pub idempotency_level_word : IdempotencyLevel → Text
idempotency_level_word IdempotencyUnknown = codes "IDEMPOTENCY_UNKNOWN"
idempotency_level_word NoSideEffects = codes "NO_SIDE_EFFECTS"
idempotency_level_word Idempotent = codes "IDEMPOTENT"

-- an enum's values with their words
abbrev pub Words : Type 0 → Type 0
Words A = List (Text × A)

-- the words alone
abbrev pub words_of : {A : Type 0} → Words A → List Text
words_of words = map (λ w. w.0) words

-- these values with their words
abbrev pub with_words : {A : Type 0} → (A → Text) → List A → Words A
with_words word values = map (λ v. (word v, v)) values

-- those of FileOptions.OptimizeMode
abbrev pub optimize_modes : Words OptimizeMode
optimize_modes = with_words optimize_mode_word (Speed ∷ CodeSize ∷ LiteRuntime ∷ [])

-- those of FieldOptions.CType
abbrev pub c_types : Words CType
c_types = with_words c_type_word (ctypes.String ∷ ctypes.Cord ∷ ctypes.StringPiece ∷ [])

-- those of FieldOptions.JSType
abbrev pub js_types : Words JSType
js_types = with_words js_type_word (JsNormal ∷ JsString ∷ JsNumber ∷ [])

-- those of MethodOptions.IdempotencyLevel
abbrev pub idempotency_levels : Words IdempotencyLevel
idempotency_levels =
    with_words idempotency_level_word (IdempotencyUnknown ∷ NoSideEffects ∷ Idempotent ∷ [])
