-- Options messages, a line an option.
use Rattle.std.proofs.Common.{◌≡◌, ℕ, List, [], ◌∷◌, Some, refl}
use Rattle.std.proofs.Common.{arith, true}
use Rattle.std.specs.Int.{w32, w64, cast_unsigned}
use Rattle.std.specs.Int.RustNames.{FitsSigned}
use Rattle.protobuf_parse_model.specs.Options.{FileOptionValues, MessageOptionValues}
use Rattle.protobuf_parse_model.specs.Options.{FieldOptionValues, OneofOptionValues}
use Rattle.protobuf_parse_model.specs.Options.{EnumOptionValues, EnumValueOptionValues}
use Rattle.protobuf_parse_model.specs.Options.{ServiceOptionValues, MethodOptionValues}
use Rattle.protobuf_parse_model.specs.declared.descriptor.options.OptimizeMode.{OptimizeMode}
use Rattle.protobuf_parse_model.specs.declared.descriptor.options.OptimizeMode.TheVariants as mode
use Rattle.protobuf_parse_model.specs.declared.descriptor.options.CType.{CType}
use Rattle.protobuf_parse_model.specs.declared.descriptor.options.CType.TheVariants as ctype
use Rattle.protobuf_parse_model.specs.declared.descriptor.options.JSType.{JSType}
use Rattle.protobuf_parse_model.specs.declared.descriptor.options.JSType.TheVariants as jstype
use Rattle.protobuf_parse_model.specs.declared.descriptor.options.IdempotencyLevel.{}
use Rattle.protobuf_parse_model.specs.declared.descriptor.options.IdempotencyLevel.{IdempotencyLevel}
use Rattle.protobuf_parse_model.specs.declared.descriptor.options.IdempotencyLevel.TheVariants as level
use Rattle.protobuf_parse_records.specs.Views as views
use Rattle.protobuf_parse_records.specs.Views.{Content, Extent, WireRecord}
use Rattle.protobuf_parse_records.specs.Laws.{content_later}
use Rattle.protobuf_parse_descriptor_set.specs.Items.{bytes_of}
use Rattle.protobuf_parse_descriptor_set.specs.Numbers.{optimize_mode_number, ctype_number}
use Rattle.protobuf_parse_descriptor_set.specs.Numbers.{jstype_number, idempotency_level_number}
use Rattle.protobuf_parse_descriptor_set.specs.OptionItems.{file_option_items, message_option_items}
use Rattle.protobuf_parse_descriptor_set.specs.OptionItems.{field_option_items, enum_option_items}
use Rattle.protobuf_parse_descriptor_set.specs.OptionItems.{enum_value_option_items}
use Rattle.protobuf_parse_descriptor_set.specs.OptionItems.{service_option_items}
use Rattle.protobuf_parse_descriptor_set.specs.OptionItems.{method_option_items}
use Rattle.protobuf_parse_descriptor_set.specs.OptionItems as items
use Rattle.protobuf_parse_set_reader.specs.Values.{int_of, BodyView}
use Rattle.protobuf_parse_set_reader.specs.Choices.{ctype_numbered, idempotency_level_numbered}
use Rattle.protobuf_parse_set_reader.specs.Choices.{jstype_numbered, optimize_mode_numbered}
use Rattle.protobuf_parse_set_reader.specs.OptionReading.{are_bytes, file_options_in}
use Rattle.protobuf_parse_set_reader.specs.OptionReading.{file_options_of, message_options_of}
use Rattle.protobuf_parse_set_reader.specs.OptionReading.{field_options_of, oneof_options_of}
use Rattle.protobuf_parse_set_reader.specs.OptionReading.{enum_options_of, enum_value_options_of}
use Rattle.protobuf_parse_set_reader.specs.OptionReading.{service_options_of, method_options_of}
use Rattle.protobuf_parse_set_reader.specs.OptionReading.{sets_file_option, sets_message_option}
use Rattle.protobuf_parse_set_reader.specs.OptionReading.{sets_field_option, sets_oneof_option}
use Rattle.protobuf_parse_set_reader.specs.OptionReading.{sets_enum_option, sets_enum_value_option}
use Rattle.protobuf_parse_set_reader.specs.OptionReading.{sets_service_option, sets_method_option}
use Rattle.protobuf_parse_set_laws.specs.Kept.{AreOthers, FileOptionsKept}
use Rattle.protobuf_parse_set_laws.proofs.Lines.{at_number, flag_held, some_held, text_held}
use Rattle.protobuf_parse_set_laws.proofs.Said.{text_said}
use Rattle.protobuf_parse_set_laws.proofs.Options.{IsSteady, OptionLine, OptionsSay, flag_line}
use Rattle.protobuf_parse_set_laws.proofs.Options.{flag_option_said, options_read, plain_lines}
use Rattle.protobuf_parse_set_laws.proofs.Options.{text_line, truth_later, value_later, value_line}
use Rattle.protobuf_parse_set_laws.proofs.Options.{value_held, value_option_said}

-- ---- enums

mode_fits : (m : OptimizeMode) → FitsSigned w32 (optimize_mode_number m)
mode_fits mode.Speed = record { sfits = omega arith }
mode_fits mode.CodeSize = record { sfits = omega arith }
mode_fits mode.LiteRuntime = record { sfits = omega arith }

mode_same : (m : OptimizeMode)
    → optimize_mode_numbered (int_of (cast_unsigned w64 (optimize_mode_number m))) ≡ Some m
unfolding optimize_mode_numbered
mode_same mode.Speed = refl
mode_same mode.CodeSize = refl
mode_same mode.LiteRuntime = refl

ctype_fits : (t : CType) → FitsSigned w32 (ctype_number t)
ctype_fits ctype.String = record { sfits = omega arith }
ctype_fits ctype.Cord = record { sfits = omega arith }
ctype_fits ctype.StringPiece = record { sfits = omega arith }

ctype_same : (t : CType) → ctype_numbered (int_of (cast_unsigned w64 (ctype_number t))) ≡ Some t
unfolding ctype_numbered
ctype_same ctype.String = refl
ctype_same ctype.Cord = refl
ctype_same ctype.StringPiece = refl

jstype_fits : (t : JSType) → FitsSigned w32 (jstype_number t)
jstype_fits jstype.JsNormal = record { sfits = omega arith }
jstype_fits jstype.JsString = record { sfits = omega arith }
jstype_fits jstype.JsNumber = record { sfits = omega arith }

jstype_same : (t : JSType)
    → jstype_numbered (int_of (cast_unsigned w64 (jstype_number t))) ≡ Some t
unfolding jstype_numbered
jstype_same jstype.JsNormal = refl
jstype_same jstype.JsString = refl
jstype_same jstype.JsNumber = refl

level_fits : (l : IdempotencyLevel) → FitsSigned w32 (idempotency_level_number l)
level_fits level.IdempotencyUnknown = record { sfits = omega arith }
level_fits level.NoSideEffects = record { sfits = omega arith }
level_fits level.Idempotent = record { sfits = omega arith }

level_same : (l : IdempotencyLevel)
    → idempotency_level_numbered (int_of (cast_unsigned w64 (idempotency_level_number l)))
    ≡ Some l
unfolding idempotency_level_numbered
level_same level.IdempotencyUnknown = refl
level_same level.NoSideEffects = refl
level_same level.Idempotent = refl

-- ---- where records stand

bytes_later : (by : ℕ) (c : Content) → are_bytes (content_later by c) ≡ are_bytes c
bytes_later by (views.varint n) = refl
bytes_later by (views.fixed64 n) = refl
bytes_later by (views.fixed32 n) = refl
bytes_later by (views.delimited s) = refl
bytes_later by (views.group s) = refl

file_steady : IsSteady sets_file_option
file_steady by r = rw (
  truth_later by r.content,
  value_later optimize_mode_numbered by r.content,
  bytes_later by r.content,
) refl

message_steady : IsSteady sets_message_option
message_steady by r = rw (truth_later by r.content) refl

field_steady : IsSteady sets_field_option
field_steady by r = rw (
  truth_later by r.content,
  value_later ctype_numbered by r.content,
  value_later jstype_numbered by r.content,
) refl

oneof_steady : IsSteady sets_oneof_option
oneof_steady by r = refl

enum_steady : IsSteady sets_enum_option
enum_steady by r = rw (truth_later by r.content) refl

enum_value_steady : IsSteady sets_enum_value_option
enum_value_steady by r = rw (truth_later by r.content) refl

service_steady : IsSteady sets_service_option
service_steady by r = rw (truth_later by r.content) refl

method_steady : IsSteady sets_method_option
method_steady by r = rw (
  truth_later by r.content,
  value_later idempotency_level_numbered by r.content,
) refl

-- ---- lines

ctype_sets : (w : Extent) (t : CType)
    → sets_field_option (record {
      number = 1;
      whole = w;
      content = views.varint (cast_unsigned w64 (ctype_number t));
    }) ≡ true
unfolding ctype_numbered
ctype_sets w ctype.String = refl
ctype_sets w ctype.Cord = refl
ctype_sets w ctype.StringPiece = refl

jstype_sets : (w : Extent) (t : JSType)
    → sets_field_option (record {
      number = 6;
      whole = w;
      content = views.varint (cast_unsigned w64 (jstype_number t));
    }) ≡ true
unfolding jstype_numbered
jstype_sets w jstype.JsNormal = refl
jstype_sets w jstype.JsString = refl
jstype_sets w jstype.JsNumber = refl

mode_sets : (w : Extent) (t : OptimizeMode)
    → sets_file_option (record {
      number = 9;
      whole = w;
      content = views.varint (cast_unsigned w64 (optimize_mode_number t));
    }) ≡ true
unfolding optimize_mode_numbered
mode_sets w mode.Speed = refl
mode_sets w mode.CodeSize = refl
mode_sets w mode.LiteRuntime = refl

level_sets : (w : Extent) (t : IdempotencyLevel)
    → sets_method_option (record {
      number = 34;
      whole = w;
      content = views.varint (cast_unsigned w64 (idempotency_level_number t));
    }) ≡ true
unfolding idempotency_level_numbered
level_sets w level.IdempotencyUnknown = refl
level_sets w level.NoSideEffects = refl
level_sets w level.Idempotent = refl

abbrev field_lines : FieldOptionValues → List (OptionLine sets_field_option)
field_lines o = value_line 1 ctype_number ctype_fits o.ctype ctype_sets
    ∷ flag_line 2 o.packed (λ w u. refl) ∷ flag_line 3 o.deprecated (λ w u. refl)
    ∷ flag_line 5 o.lazy (λ w u. refl) ∷ value_line 6 jstype_number jstype_fits o.jstype jstype_sets
    ∷ flag_line 10 o.weak (λ w u. refl) ∷ flag_line 15 o.unverified_lazy (λ w u. refl)
    ∷ flag_line 16 o.debug_redact (λ w u. refl) ∷ []

pub field_options_say : (o : FieldOptionValues) → AreOthers sets_field_option o.custom
    → OptionsSay field_options_of (items.field_option_bytes o) o
unfolding field_options_of field_option_items
field_options_say o others lt start whole =
    let ls = field_lines o in
    let r = options_read sets_field_option ls o.custom field_steady refl others lt start in (
      r.records,
      r.read,
      let e1 = value_option_said ctype_numbered ctype_number ctype_same 1 r.front o.ctype
          (at_number (plain_lines ls) r.front 1 (some_held (value_held ctype_number) o.ctype)
          r.lines
          refl) in
          let e2 = flag_option_said 2 r.front o.packed (at_number (plain_lines ls) r.front 2
          (some_held flag_held o.packed) r.lines refl) in
          let e3 = flag_option_said 3 r.front o.deprecated (at_number (plain_lines ls) r.front 3
          (some_held flag_held o.deprecated) r.lines refl) in
          let e4 = flag_option_said 5 r.front o.lazy (at_number (plain_lines ls) r.front 5
          (some_held
          flag_held o.lazy) r.lines refl) in
          let e5 = value_option_said jstype_numbered jstype_number jstype_same 6 r.front o.jstype
          (at_number (plain_lines ls) r.front 6 (some_held (value_held jstype_number) o.jstype)
          r.lines refl) in
          let e6 = flag_option_said 10 r.front o.weak (at_number (plain_lines ls) r.front 10
          (some_held flag_held o.weak) r.lines refl) in
          let e7 = flag_option_said 15 r.front o.unverified_lazy (at_number (plain_lines ls) r.front
          15 (some_held flag_held o.unverified_lazy) r.lines refl) in
          let e8 = flag_option_said 16 r.front o.debug_redact (at_number (plain_lines ls) r.front 16
          (some_held flag_held o.debug_redact) r.lines refl) in
          rw (r.known, e1, e2, e3, e4, e5, e6, e7, e8, r.custom) refl,
    )

abbrev message_lines : MessageOptionValues → List (OptionLine sets_message_option)
message_lines o = flag_line 1 o.message_set_wire_format (λ w u. refl)
    ∷ flag_line 2 o.no_standard_descriptor_accessor (λ w u. refl)
    ∷ flag_line 3 o.deprecated (λ w u. refl) ∷ flag_line 7 o.map_entry (λ w u. refl) ∷ []

pub message_options_say : (o : MessageOptionValues) → AreOthers sets_message_option o.custom
    → OptionsSay message_options_of (items.message_option_bytes o) o
unfolding message_options_of message_option_items
message_options_say o others lt start whole =
    let ls = message_lines o in
    let r = options_read sets_message_option ls o.custom message_steady refl others lt start in (
      r.records,
      r.read,
      let e1 = flag_option_said 1 r.front o.message_set_wire_format (at_number (plain_lines ls)
          r.front 1 (some_held flag_held o.message_set_wire_format) r.lines refl) in
          let e2 = flag_option_said 2 r.front o.no_standard_descriptor_accessor (at_number
          (plain_lines ls) r.front 2 (some_held flag_held o.no_standard_descriptor_accessor) r.lines
          refl) in
          let e3 = flag_option_said 3 r.front o.deprecated (at_number (plain_lines ls) r.front 3
          (some_held flag_held o.deprecated) r.lines refl) in
          let e4 = flag_option_said 7 r.front o.map_entry (at_number (plain_lines ls) r.front 7
          (some_held flag_held o.map_entry) r.lines refl) in
          rw (r.known, e1, e2, e3, e4, r.custom) refl,
    )

pub oneof_options_say : (o : OneofOptionValues) → AreOthers sets_oneof_option o.custom
    → OptionsSay oneof_options_of (items.oneof_option_bytes o) o
unfolding oneof_options_of bytes_of
oneof_options_say o others lt start whole =
    let r = options_read sets_oneof_option [] o.custom oneof_steady refl others lt start in (
      r.records,
      r.read,
      rw r.custom refl,
    )

abbrev enum_lines : EnumOptionValues → List (OptionLine sets_enum_option)
enum_lines o =
    flag_line 2 o.allow_alias (λ w u. refl) ∷ flag_line 3 o.deprecated (λ w u. refl) ∷ []

pub enum_options_say : (o : EnumOptionValues) → AreOthers sets_enum_option o.custom
    → OptionsSay enum_options_of (items.enum_option_bytes o) o
unfolding enum_options_of enum_option_items
enum_options_say o others lt start whole =
    let ls = enum_lines o in
    let r = options_read sets_enum_option ls o.custom enum_steady refl others lt start in (
      r.records,
      r.read,
      let e1 = flag_option_said 2 r.front o.allow_alias (at_number (plain_lines ls) r.front 2
          (some_held flag_held o.allow_alias) r.lines refl) in
          let e2 = flag_option_said 3 r.front o.deprecated (at_number (plain_lines ls) r.front 3
          (some_held flag_held o.deprecated) r.lines refl) in
          rw (r.known, e1, e2, r.custom) refl,
    )

abbrev enum_value_lines : EnumValueOptionValues → List (OptionLine sets_enum_value_option)
enum_value_lines o = flag_line 1 o.deprecated (λ w u. refl) ∷ []

pub enum_value_options_say : (o : EnumValueOptionValues)
    → AreOthers sets_enum_value_option o.custom
    → OptionsSay enum_value_options_of (items.enum_value_option_bytes o) o
unfolding enum_value_options_of enum_value_option_items
enum_value_options_say o others lt start whole =
    let ls = enum_value_lines o in
    let r = options_read sets_enum_value_option ls o.custom enum_value_steady refl others lt start
    in (
      r.records,
      r.read,
      let e1 = flag_option_said 1 r.front o.deprecated (at_number (plain_lines ls) r.front 1
          (some_held flag_held o.deprecated) r.lines refl) in
          rw (r.known, e1, r.custom) refl,
    )

abbrev service_lines : ServiceOptionValues → List (OptionLine sets_service_option)
service_lines o = flag_line 33 o.deprecated (λ w u. refl) ∷ []

pub service_options_say : (o : ServiceOptionValues) → AreOthers sets_service_option o.custom
    → OptionsSay service_options_of (items.service_option_bytes o) o
unfolding service_options_of service_option_items
service_options_say o others lt start whole =
    let ls = service_lines o in
    let r = options_read sets_service_option ls o.custom service_steady refl others lt start in (
      r.records,
      r.read,
      let e1 = flag_option_said 33 r.front o.deprecated (at_number (plain_lines ls) r.front 33
          (some_held flag_held o.deprecated) r.lines refl) in
          rw (r.known, e1, r.custom) refl,
    )

abbrev method_lines : MethodOptionValues → List (OptionLine sets_method_option)
method_lines o = flag_line 33 o.deprecated (λ w u. refl)
    ∷ value_line 34 idempotency_level_number level_fits o.idempotency_level level_sets ∷ []

pub method_options_say : (o : MethodOptionValues) → AreOthers sets_method_option o.custom
    → OptionsSay method_options_of (items.method_option_bytes o) o
unfolding method_options_of method_option_items
method_options_say o others lt start whole =
    let ls = method_lines o in
    let r = options_read sets_method_option ls o.custom method_steady refl others lt start in (
      r.records,
      r.read,
      let e1 = flag_option_said 33 r.front o.deprecated (at_number (plain_lines ls) r.front 33
          (some_held flag_held o.deprecated) r.lines refl) in
          let e2 = value_option_said idempotency_level_numbered idempotency_level_number
          level_same 34
          r.front o.idempotency_level (at_number (plain_lines ls) r.front 34 (some_held (value_held
          idempotency_level_number) o.idempotency_level) r.lines refl) in
          rw (r.known, e1, e2, r.custom) refl,
    )

abbrev file_lines : FileOptionValues → List (OptionLine sets_file_option)
file_lines o = text_line 1 o.java_package (λ w s. refl)
    ∷ text_line 8 o.java_outer_classname (λ w s. refl)
    ∷ value_line 9 optimize_mode_number mode_fits o.optimize_for mode_sets
    ∷ flag_line 10 o.java_multiple_files (λ w u. refl)
    ∷ text_line 11 o.go_package (λ w s. refl)
    ∷ flag_line 16 o.cc_generic_services (λ w u. refl)
    ∷ flag_line 17 o.java_generic_services (λ w u. refl)
    ∷ flag_line 18 o.py_generic_services (λ w u. refl)
    ∷ flag_line 20 o.java_generate_equals_and_hash (λ w u. refl)
    ∷ flag_line 23 o.deprecated (λ w u. refl)
    ∷ flag_line 27 o.java_string_check_utf8 (λ w u. refl)
    ∷ flag_line 31 o.cc_enable_arenas (λ w u. refl)
    ∷ text_line 36 o.objc_class_prefix (λ w s. refl)
    ∷ text_line 37 o.csharp_namespace (λ w s. refl)
    ∷ text_line 39 o.swift_prefix (λ w s. refl)
    ∷ text_line 40 o.php_class_prefix (λ w s. refl)
    ∷ text_line 41 o.php_namespace (λ w s. refl)
    ∷ text_line 44 o.php_metadata_namespace (λ w s. refl)
    ∷ text_line 45 o.ruby_package (λ w s. refl) ∷ []

pub file_options_say : (o : FileOptionValues) → FileOptionsKept o
    → OptionsSay file_options_of (items.file_option_bytes o) o
unfolding file_options_of file_options_in file_option_items
file_options_say o kept lt start whole =
    let ls = file_lines o in
    let r = options_read sets_file_option ls o.custom file_steady refl kept.custom lt start in
    let b : BodyView = record { start = whole; records = r.front } in (
      r.records,
      r.read,
      let e1 = text_said 1 b o.java_package kept.java_package (at_number (plain_lines ls) r.front
          1 (text_held o.java_package) r.lines refl) in
          let e2 = text_said 8 b o.java_outer_classname kept.java_outer_classname (at_number
          (plain_lines ls) r.front 8 (text_held o.java_outer_classname) r.lines refl) in
          let e3 = text_said 11 b o.go_package kept.go_package (at_number (plain_lines ls) r.front
          11
          (text_held o.go_package) r.lines refl) in
          let e4 = text_said 36 b o.objc_class_prefix kept.objc_class_prefix (at_number (plain_lines
          ls) r.front 36 (text_held o.objc_class_prefix) r.lines refl) in
          let e5 = text_said 37 b o.csharp_namespace kept.csharp_namespace (at_number (plain_lines
          ls)
          r.front 37 (text_held o.csharp_namespace) r.lines refl) in
          let e6 = text_said 39 b o.swift_prefix kept.swift_prefix (at_number (plain_lines ls)
          r.front
          39 (text_held o.swift_prefix) r.lines refl) in
          let e7 = text_said 40 b o.php_class_prefix kept.php_class_prefix (at_number (plain_lines
          ls)
          r.front 40 (text_held o.php_class_prefix) r.lines refl) in
          let e8 = text_said 41 b o.php_namespace kept.php_namespace (at_number (plain_lines ls)
          r.front 41 (text_held o.php_namespace) r.lines refl) in
          let e9 = text_said 44 b o.php_metadata_namespace kept.php_metadata_namespace (at_number
          (plain_lines ls) r.front 44 (text_held o.php_metadata_namespace) r.lines refl) in
          let e10 = text_said 45 b o.ruby_package kept.ruby_package (at_number (plain_lines ls)
          r.front 45 (text_held o.ruby_package) r.lines refl) in
          let e11 = value_option_said optimize_mode_numbered optimize_mode_number mode_same 9
          r.front
          o.optimize_for (at_number (plain_lines ls) r.front 9 (some_held (value_held
          optimize_mode_number) o.optimize_for) r.lines refl) in
          let e12 = flag_option_said 10 r.front o.java_multiple_files (at_number (plain_lines ls)
          r.front 10 (some_held flag_held o.java_multiple_files) r.lines refl) in
          let e13 = flag_option_said 16 r.front o.cc_generic_services (at_number (plain_lines ls)
          r.front 16 (some_held flag_held o.cc_generic_services) r.lines refl) in
          let e14 = flag_option_said 17 r.front o.java_generic_services (at_number (plain_lines ls)
          r.front 17 (some_held flag_held o.java_generic_services) r.lines refl) in
          let e15 = flag_option_said 18 r.front o.py_generic_services (at_number (plain_lines ls)
          r.front 18 (some_held flag_held o.py_generic_services) r.lines refl) in
          let e16 = flag_option_said 20 r.front o.java_generate_equals_and_hash (at_number
          (plain_lines ls) r.front 20 (some_held flag_held o.java_generate_equals_and_hash) r.lines
          refl) in
          let e17 = flag_option_said 23 r.front o.deprecated (at_number (plain_lines ls) r.front 23
          (some_held flag_held o.deprecated) r.lines refl) in
          let e18 = flag_option_said 27 r.front o.java_string_check_utf8 (at_number (plain_lines ls)
          r.front 27 (some_held flag_held o.java_string_check_utf8) r.lines refl) in
          let e19 = flag_option_said 31 r.front o.cc_enable_arenas (at_number (plain_lines ls)
          r.front
          31 (some_held flag_held o.cc_enable_arenas) r.lines refl) in
          rw (
            r.known,
            e1,
            e2,
            e3,
            e4,
            e5,
            e6,
            e7,
            e8,
            e9,
            e10,
            e11,
            e12,
            e13,
            e14,
            e15,
            e16,
            e17,
            e18,
            e19,
            r.custom,
          ) refl,
    )
